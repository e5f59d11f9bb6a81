use Rattle.std.proofs.Common.{refl, subst, ℕ, List, Result, Ok, Err, OnOk, replicate}
use Rattle.vb_ram.{specs.Pages.{Pages, Wrote, Cleared}, specs.declared.fault.RamFault.RamFault}
use Rattle.vb_ram.{proofs.Contents.zero_page_is, proofs.PageLemmas.cleared}
use Rattle.vb_ram.proofs.bytes.GuestBytes.clear_page.Goals as goal

-- where the zeros were written, the page is cleared
clears : (r : Result Unit RamFault) (old new : Pages) (p : ℕ)
    → OnOk r (Wrote old new p 0 (replicate 4096 0)) → OnOk r (Cleared old new p)
clears (Ok done) old new p wrote = cleared old new p
    (subst (λ (bytes : List ℕ). Wrote old new p 0 bytes) (zero_page_is 4096 refl) wrote)
clears (Err fault) old new p wrote = wrote

pub returns-clause-cleared : goal.returns-clause-cleared
returns-clause-cleared g c = clears c.write.result (g.Self.GuestBytes.mem c.args.self.now)
    (g.Self.GuestBytes.mem c.write.new.self) c.args.page c.write.ensures.bytes
