use Rattle.std.proofs.Common.{ℕ, List, Bool, max, subst, ◌∙◌, sym, ap, ◌/◌, ◌^◌, ◌*◌, ◌+◌}
use Rattle.{std.specs.Int.div_ceil, vb_pages.specs.Areas.{block_at, AreBlockBits}}
use Rattle.vb_pages.proofs.TilesLemmas.{length-set_of, listed_maximal, maximal_listed}
use Rattle.vb_pages.proofs.areas.Areas.bits.Goals as goal

pub returns : goal.returns
returns c = let t = c.self.inside.table in
    let k = c.args.order in
    let tiled = c.self.invariant.0 in
    subst (λ (set : List Bool). AreBlockBits set k c.bits.result.now) c.self.view_is (record {
      fewest = c.bits.ensures.words
          ∙ ap (λ (n : ℕ). max 1 (div_ceil (n / 2 ^ k) 64)) (sym (length-set_of t));
      tells = λ w b l. let start = (64 * w + b) * 2 ^ k in (
        λ h. listed_maximal t tiled.placed tiled.merged start k ((c.bits.ensures.bits w b l).0 h),
        λ m. (c.bits.ensures.bits w b l).1
            (maximal_listed t tiled.placed tiled.merged (block_at start k) m),
      );
    })
