-- What the calls do exactly, from what they call.
use Rattle.std.specs.Prelude.{◌≡◌, ◌<◌, ℕ, Bool, List, [], ◌∷◌, None, Result, Err, IsOk, length}
use Rattle.{std.proofs.lemmas.List.length-replicate, vb_driver.specs.State.DriverState}
use Rattle.{std.proofs.Common.arith, vb_ram.specs.Pages.{Pages, frame_at, Covers, Supplied, Wrote}}
use Rattle.{vb_model.specs.declared.calls.Claim.{Claim, TheVariants.Gave}, vb_ram.specs.Part.Part}
use Rattle.vb_virtio.specs.declared.refusals.Refusal.{Refusal}
use Rattle.vb_virtio.specs.declared.refusals.Refusal.TheVariants.{OutOfRam}
use Rattle.{vb_status.specs.After.part_after_reset, vb_frames.specs.declared.keeper.Refused.Refused}
use Rattle.vb_guest.specs.Exact.{FillsBare, IsQuiet, IsReset, PutsBy, Continues, InitialisesBy}
use Rattle.vb_guest.specs.{Lives.{SuppliesBy, bare_from}, Supply.{Supply, supply_of, IsClaimed}}

-- ---- a page with no frame

-- its frame was given
pub fills_given : {Answers : List Bool → Claim → Type 0}
    {s1 : Supply} (out : List Bool) {m1 m2 m3 m4 : Pages} {p1 p2 p3 p4 : Part} {claims : List Claim}
    {page off : ℕ} {bytes : List ℕ} {number : ℕ} {r : Result (Unit {0}) Refusal} → IsOk r
    → IsClaimed Answers s1 (supply_of p2 out) (Gave number) → claims ≡ Gave number ∷ [] → m2 ≡ m1
    → Supplied m2 m3 page number → Wrote m3 m4 page off bytes → p2 ≡ record p1 { own = p2.own } → p3
    ≡ p2 → p4 ≡ p3 → FillsBare Answers s1 (supply_of p4 out) m1 m4 p1 p4 claims page off bytes r
fills_given out ok claimed noted same supplied wrote part supplying writing = grind arith

-- ---- bytes of any page

-- they don't lie in a page
pub puts_outside : {Answers : List Bool → Claim → Type 0} {s1 s2 : Supply}
    {m1 m2 : Pages} {p1 p2 : Part} {claims : List Claim} {page off : ℕ} {bytes : List ℕ}
    {r : Result (Unit {0}) Refusal} → (Covers m1 page off (length bytes) → ⊥) → r ≡ Err OutOfRam
    → IsQuiet s1 s2 m1 m2 p1 p2 claims → PutsBy Answers s1 s2 m1 m2 p1 p2 claims page off bytes r
puts_outside past is quiet = grind arith

-- there is a frame, or no byte to be written
pub puts_there : {Answers : List Bool → Claim → Type 0} {s1 s2 : Supply}
    {m1 m2 : Pages} {p1 p2 : Part} {claims : List Claim} {page off : ℕ} {bytes : List ℕ}
    {r : Result (Unit {0}) Refusal} → IsOk r → Covers m1 page off (length bytes) → (0 < length bytes
    → frame_at m1 page ≡ None → ⊥) → Wrote m1 m2 page off bytes → (length bytes ≡ 0 → m2 ≡ m1)
    → p2 ≡ p1 → s2 ≡ s1 → claims ≡ [] → PutsBy Answers s1 s2 m1 m2 p1 p2 claims page off bytes r
puts_there ok inside there wrote unwritten part supply none = grind arith

-- a frame was wanting
pub puts_bare : {Answers : List Bool → Claim → Type 0}
    (out : List Bool) {s2 : Supply} {m0 m1 m2 : Pages} {p0 p1 p2 : Part}
    {claims : List Claim} {page off : ℕ} {bytes : List ℕ} {r : Result (Unit {0}) Refusal}
    → Covers m0 page off (length bytes) → 0 < length bytes → frame_at m0 page ≡ None → m1 ≡ m0
    → p1 ≡ p0 → FillsBare Answers (supply_of p1 out) s2 m1 m2 p1 p2 claims page off bytes r
    → PutsBy Answers (supply_of p0 out) s2 m0 m2 p0 p2 claims page off bytes r
puts_bare out inside some none same part fills = grind arith

-- ---- an initialisation

-- of a device that isn't initialised
pub begins : {Answers : List Bool → Claim → Type 0} {s1 : Supply} {out2 : List Bool}
    {m1 mid m2 : Pages} {p1 part p2 : Part} {d1 d2 : DriverState} {claims : List Claim}
    {wanted : ℕ} {got : Result (Unit {0}) Refused} {r : Result (Unit {0}) Refusal}
    → p1.status ≡ 0 → part ≡ record p1 { own = part.own }
    → SuppliesBy {T = Unit {0}} Answers s1 (supply_of part out2) [] claims
    (bare_from d1.queue_size m1 0) m1 mid got → Continues got mid m2 part p2 d1 d2 wanted r
    → InitialisesBy Answers s1 out2 m1 m2 p1 p2 d1 d2 claims wanted r
begins new own supplies continues = grind arith

-- ---- a reset

-- a second one changes nothing
pub reset_twice : (p1 : Part) {p2 : Part} (p3 : Part)
    → p2 ≡ part_after_reset p1 → IsReset p2 p3 → IsReset p1 p3
reset_twice p1 p3 first second = grind (arith, length-replicate)
