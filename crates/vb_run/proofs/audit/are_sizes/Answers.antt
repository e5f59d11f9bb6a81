use Rattle.{std.proofs.Common.{rules, ◌≡◌, ◌∙◌, ap, get_or}, vb_run.proofs.Lists.mapped_alike}
use Rattle.vb_run.proofs.audit.are_sizes.Goals as goal

pub returns-then-need-guests : goal.returns-then-need-guests
returns-then-need-guests c = (
  λ e. cc,
  λ same.
      let alike : c.need.inside.pages
      ≡ (get_or c.args.guests.now c.loop-place.place c.index-guests-place.result).config.pages =
      ap (λ n. n.pages) (c.need.view_is ∙ c.index-needs-place.is) ∙ mapped_alike
      (λ n. n.pages) (λ g. g.config.pages) c.args.needs.now c.args.guests.now c.loop-place.place
      c.index-needs-place.result c.index-guests-place.result (search rules) (search rules) same in
      absurd (c.if-need-guests.true alike),
)
