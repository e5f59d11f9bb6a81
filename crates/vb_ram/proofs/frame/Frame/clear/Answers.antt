use Rattle.std.proofs.Common.{◌≡◌, ℕ, List, ◌∙◌, ap, arith, length}
use Rattle.vb_virtio.specs.Memory.{zero_page}
use Rattle.vb_ram.{specs.Blank.shown, specs.Pages.Page}
use Rattle.vb_ram.proofs.frame.Frame.clear.Goals as goal

pub returns : goal.returns
returns c = let zeros : shown c.clear.new.self.items ≡ zero_page = ap shown c.clear.ensures.items in
    let same : c.self.inside.number ≡ c.args.self.now.number =
    ap (λ (page : Page). page.number) c.self.view_is in
    ap (λ (n : ℕ). record { number = n; bytes = shown c.clear.new.self.items }) same
    ∙ ap (λ (bs : List ℕ). record { number = c.args.self.now.number; bytes = bs }) zeros

pub invariant_of-self : goal.invariant_of-self
invariant_of-self c = record {
  few = omega (arith, ap (λ (bs : List ℕ). length bs) c.clear.ensures.items);
  room = omega (arith, c.clear.ensures.capacity, c.self.invariant.room);
}
