use Rattle.std.proofs.Common.{[], replicate}
use Rattle.vb_pages.{specs.Areas.unreserved, proofs.FreeLemmas.{free_of, nothing, flat-replicate}}
use Rattle.vb_pages.{proofs.HeldLemmas.held_of, proofs.PagesLemmas.{kept_at, fresh_kept}}
use Rattle.vb_pages.proofs.pages.Pages.new.Goals as goal

pub invariant_of-result : goal.invariant_of-result
invariant_of-result c =
    kept_at c.in_ok-new.field-0 (free_of (unreserved c.args.pages c.args.reserved) (replicate c.args.cpus nothing) c.args.reserved)
    c.in_ok-new-2.field-0 (held_of c.args.pages []) c.in_ok-new.ensures c.in_ok-new-2.ensures
    (fresh_kept c.args.pages c.args.reserved (replicate c.args.cpus nothing) (flat-replicate c.args.cpus))
