use Rattle.{std.proofs.Common.{◌≡◌, ◌∙◌, sym, ap, Err}, vb_pages.specs.PageState.PageState}
use Rattle.vb_driver.proofs.Allocating.{answered, IsServed, alloc_refusal}
use Rattle.vb_driver.proofs.Allocating.{alloc_refused, alloc_free, alloc_state, alloc_allots}
use Rattle.vb_driver.{proofs.areas.Allocator.alloc.Goals.{in-Ok, in-Err}, specs.Answers.refusal_in}
use Rattle.vb_driver.proofs.areas.Allocator.alloc.Goals as goal

pub returns : goal.returns
returns c = let s : PageState = c.self.inside.pages in let new : PageState = c.alloc.new.self in
    let n = c.args.order in let cpu = c.args.cpu in
    let is : c.match-alloc.result ≡ answered c.alloc.result = elim c.match-alloc.branch [
      | in-Ok w ↦ w.result-is ∙ sym (ap answered w.in-Ok.is)
      | in-Err w ↦ w.result-is ∙ (ap Err w.refusal_of.ensures ∙ sym (ap answered w.in-Err.is))
    ] in let served : IsServed s new cpu n c.alloc.result = assumption in record {
      refusal = rw (← c.self.view_is) (ap refusal_in is ∙ alloc_refusal c.alloc.result served);
      refused = rw (← c.self.view_is) (rw is (alloc_refused served));
      free = rw (← c.self.view_is) (rw is (alloc_free served));
      state = rw (← c.self.view_is) (rw is (alloc_state c.alloc.result served));
      areas = rw (← c.self.view_is) (rw is (alloc_allots served));
    }
