-- The loose frames of a device that keeps them as a list, as a set, and how they go back.
use Rattle.std.specs.Prelude.{◌≡◌, ◌≢◌, ℕ, ◌+◌, ◌==◌, true, false, List, [], ◌∷◌, ◌++◌, Option}
use Rattle.std.{specs.Prelude.{Some, None, refl}, proofs.Common.{arith, sym, ◌∙◌, ap}}
use Rattle.vb_virtio.specs.Tests.{times, one_if}
use Rattle.vb_virtio.proofs.Tables.{count_by-cons}
use Rattle.std.proofs.lemmas.Grind.{common_steps}
use Rattle.vb_ram.specs.Pages.{Page}
use Rattle.vb_ram.specs.Part.{Part}
use Rattle.vb_device.specs.{Calls.{SameFrames, PopsLoose, GoBack, PutsBack}, Own.{has, without}}

-- a part with a list of loose frames, as an equation for all else
pub all_but_loose : (p q : Part) → p ≡ q → p ≡ record q { loose = p.loose }
all_but_loose p q e = e ∙ ap (λ (l : List ℕ). record q { loose = l }) (ap (λ (x : Part). x.loose) (sym e))

-- the last loose frame is given out, if there is one
abbrev pub GivesLast : Part → Part → Option Page → Type 0
GivesLast p1 p2 None = (p1.loose ≡ []) × (p2 ≡ p1)
GivesLast p1 p2 (Some frame) =
    (p1.loose ≡ p2.loose ++ frame.number ∷ []) × (p2 ≡ record p1 { loose = p2.loose })

pub pops_last : (p1 p2 : Part) (given : Option Page) → GivesLast p1 p2 given → PopsLoose p1 p2 given
pops_last p1 p2 None last = last
pops_last p1 p2 (Some frame) last = grind (arith, common_steps)

-- where nothing was loose, what is loose are the lost frames
pub lost_alone : (old new lost : List ℕ) → old ≡ [] → new ≡ old ++ lost → SameFrames new lost
lost_alone old new lost none is n = ap (times n) (is ∙ ap (λ (l : List ℕ). l ++ lost) none)

-- ---- frames go back to who keeps them

has_other : (n k : ℕ) (own : List ℕ) → n ≢ k → has (without own n) k ≡ has own k
has_other n k [] ne = refl
has_other n k (m ∷ own) ne = grind (arith, has_other n k own ne)

has_gone : (n : ℕ) (own : List ℕ) → has (without own n) n ≡ false
has_gone n [] = refl
has_gone n (m ∷ own) = grind (arith, has_gone n own)

pub has_less : (n k : ℕ) (own : List ℕ) → has own n ≡ true
    → one_if (has (without own n) k) + one_if (n == k) ≡ one_if (has own k)
has_less n k own is = grind (arith, has_gone, has_other)

-- a frame of the device's own goes back to it
pub keeps_popped : (p1 p2 p3 p4 : Part) (frame : Page) → GoBack p1 p2 []
    → PopsLoose p2 p3 (Some frame) → PutsBack p3 p4 frame None → GoBack p1 p4 []
keeps_popped p1 p2 p3 p4 frame gone popped back = record {
  part = grind arith;
  fewer = grind arith;
  own = λ n is. grind (arith, has_less frame.number n p3.own back.0, back.1 n);
  balance = λ n. omega (
    arith,
    gone.balance n,
    popped.0 n,
    count_by-cons (λ m. m == n) frame.number p3.loose,
    has_less frame.number n p3.own back.0,
    ap one_if (back.1 n),
    ap (λ (p : Part). times n p.loose) back.2,
    ap (λ (p : Part). one_if (has p.own n)) popped.2,
  );
}
