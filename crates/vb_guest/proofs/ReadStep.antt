-- A guest's read is a step of the definitions.
use Rattle.std.specs.Prelude.{◌≡◌, ℕ, ◌+◌, ◌<◌, true, false, List, [], length, take}
use Rattle.std.{specs.Prelude.{drop, None, slice_index, refl}, proofs.Common.{◌∙◌, ap, arith, inl}}
use Rattle.vb_virtio.specs.declared.refusals.Refusal.TheVariants.{NotHeld, OutOfRam, NoMemory}
use Rattle.vb_model.specs.declared.replies.Reply.TheVariants.{ReadBytes, Refused}
use Rattle.vb_model.specs.{declared.calls.Call.TheVariants.Read, Pages.{place_of, is_used}}
use Rattle.{vb_model.specs.{Refusals.refusal_of, Guest.Guest}, vb_ram.specs.Pages.{Pages, byte_at}}
use Rattle.vb_ram.{specs.{Pages.{contents_at, Covers}, Part.Part}, proofs.Contents.contents_read}
use Rattle.{vb_driver.specs.State.DriverState, vb_guest.proofs.Closing.honest_performed}
use Rattle.vb_guest.proofs.{Closing.steps_alone, WriteStep.{outside_is, inside_is}}
use Rattle.vb_guest.{proofs.Writing.used_high, specs.{Steps.StepsAlone, Stands.Honest}}

pub read_not_held : {m : Pages} {p : Part} {d : DriverState} {g : Guest} {page off len : ℕ}
    → is_used (place_of d.places page) ≡ false
    → Honest m p d g → StepsAlone (Honest m p d) g (Read page off len) (Refused NotHeld)
read_not_held free stands = grind arith

pub read_outside : {m : Pages} {p : Part} {d : DriverState} {g : Guest} {page off len : ℕ}
    → is_used (place_of d.places page) ≡ true → Honest m p d g → (Covers m page off len → ⊥)
    → StepsAlone (Honest m p d) g (Read page off len) (Refused OutOfRam)
read_outside used stands out = search (arith, outside_is)

read_free : {m : Pages} {p : Part} {d : DriverState} {g : Guest} {page off len : ℕ}
    → is_used (place_of d.places page) ≡ true
    → Honest m p d g → Covers m page off len → refusal_of g (Read page off len) ≡ None
read_free used stands covers = grind (arith, inside_is)

pub read_done : {m : Pages} {p : Part} {d : DriverState}
    {g : Guest} {page off len : ℕ} {bytes : List ℕ} → is_used (place_of d.places page) ≡ true
    → Honest m p d g → Covers m page off len → bytes ≡ take len (drop off (contents_at m page))
    → StepsAlone (Honest m p d) g (Read page off len) (ReadBytes bytes)
read_done {g} {page} {off} {len} {bytes} used stands covers is =
    let held : is_used (place_of g.places page) ≡ true = search arith in
    let lt : page < g.config.pages = omega (arith, covers.page, stands.ties.pages.length_is) in
    let high = used_high g page stands.orderly held lt in
    let read = is
    ∙ ap (λ (l : List ℕ). take len (drop off l)) (stands.ties.pages.holds page high lt) in
    steps_alone stands (honest_performed g (Read page off len) [] (ReadBytes bytes) g
    (read_free used stands covers) (refl, (inl (ap ReadBytes read), refl))) stands.ties refl

pub read_no_memory : {m : Pages} {p : Part} {d : DriverState} {g : Guest} {page off len : ℕ}
    → is_used (place_of d.places page) ≡ true → Honest m p d g
    → Covers m page off len → StepsAlone (Honest m p d) g (Read page off len) (Refused NoMemory)
read_no_memory used stands covers = grind (arith, read_free used stands covers)

pub bytes_read : {m : Pages} {page off len : ℕ} (old : List ℕ) {out : List ℕ}
    → Covers m page off len → length (contents_at m page) ≡ 4096
    → length old ≡ len → length out ≡ length old → ((k : ℕ) → k < length old
    → slice_index out k ≡ byte_at m page (off + k)) → out ≡ take len (drop off (contents_at m page))
bytes_read old covers whole was now read = grind (arith, contents_read)
