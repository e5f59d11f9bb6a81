use Rattle.std.proofs.Common.{◌≡◌, ◌<◌, ℕ, List, Bool, true, false, map, not, set, sym, ap, subst}
use Rattle.std.{proofs.Common.◌∙◌, proofs.lemmas.List.map-set}
use Rattle.vb_ram.specs.Pages.{Page}
use Rattle.vb_frames.{specs.Out.{AllOut, IsFree, is_out}, proofs.Free.{all_out, least_free}}
use Rattle.vb_frames.proofs.table.FrameTableFrameKeeper.claim.Goals as goal

-- the frame has the least number that isn't out
given : (c : goal.After-remove) → IsFree c.args.self.now c.in-Some.number
    × ((k : ℕ) → k < c.in-Some.number → is_out c.args.self.now k ≡ true)
given c = subst (λ (out : List Bool). IsFree out c.in-Some.number
    × ((k : ℕ) → k < c.in-Some.number → is_out out k ≡ true)) c.self.view_is
    (least_free c.self.inside.free c.in-Some.number c.in-Some.ensures)

number_is : (c : goal.After-remove) → c.in-Some.number ≡ c.in-Ok.frame.number
number_is c = sym (ap (λ (frame : Page). frame.number) c.in-Ok.ensures.ok)

pub returns-in_default-clause-answer : goal.returns-in_default-clause-answer
returns-in_default-clause-answer c = subst (λ (out : List Bool). AllOut out) c.self.view_is
    (all_out c.self.inside.free c.in_default.ensures)

pub returns-clause-given : goal.returns-clause-given
returns-clause-given c = (
  subst (λ (n : ℕ). IsFree c.args.self.now n) (number_is c) (given c).0,
  ap (λ (free : List Bool). map not free) c.remove.ensures.set ∙ map-set not c.self.inside.free
      c.in-Some.number false ∙ ap (λ (out : List Bool). set out c.in-Some.number true)
      c.self.view_is ∙ ap (λ (n : ℕ). set c.args.self.now n true) (number_is c),
)

pub returns-clause-answer : goal.returns-clause-answer
returns-clause-answer c = subst (λ (n : ℕ). IsFree c.args.self.now n
    × ((k : ℕ) → k < n → is_out c.args.self.now k ≡ true)) (number_is c) (given c)
