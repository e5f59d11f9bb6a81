use Rattle.std.proofs.Common.{◌≡◌, ◌<◌, ◌∙◌, sym, ap, refl, ℕ, List, true, false}
use Rattle.vb_model.specs.declared.places.Place.TheVariants.{Free, Taking}
use Rattle.vb_virtio.specs.Tests.{is_in}
use Rattle.vb_model.specs.Pages.{placed}
use Rattle.vb_driver.proofs.Moving.{freed_taking}
use Rattle.vb_driver.proofs.Moving.{freed_once, IsOut, is_out, freed_kept, forgotten_kept}
use Rattle.vb_driver.specs.{Places.marked, Areas.flags_of, State.DriverState}
use Rattle.vb_driver.specs.{State.{sent_by, IsDriver, tells_host}, contracts.driver.Driver.the_view}
use Rattle.vb_driver.proofs.driver.Driver.reap_freed.Goals as goal

out_again : (d : DriverState) (head p : ℕ) (pages : List ℕ) → head < 16 → IsDriver d
    → tells_host d ≡ true → pages ≡ sent_by d.deflate head → is_in p pages ≡ true → IsOut d p
out_again d head p pages small kept told is here = is_out Taking kept refl refl refl
    (freed_taking head p small kept told (ap (is_in p) (sym is) ∙ here))

pub give_all-requires : goal.give_all-requires
give_all-requires g c = let d = the_view c.self.inside in let head = c.in-Ok-Some.head in
    let told : tells_host d ≡ true = sym c.must_tell_host.ensures ∙ c.if-not-must_tell_host.false in
    let next = rw c.in-Ok-Some.field-0-is at c.in-Ok-Some.ensures.next in
    let items : c.deref.result.now ≡ sent_by d.deflate head = c.deref.ensures.0 ∙ next.2 in
    let out = λ (p : ℕ). out_again d head p c.deref.result.now next.1 c.self.invariant told items in
    record {
      unreserved = λ p here. (out p here).unreserved;
      inside = λ p here. (out p here).inside;
      taken = λ p here. (out p here).taken;
      uncovered = λ p here. (out p here).uncovered;
      once = λ p. rw items (freed_once head p next.1 c.self.invariant told);
    }

pub set_all-requires : goal.set_all-requires
set_all-requires g c p here = let d = the_view c.self.inside in
    let told : tells_host d ≡ true = sym c.must_tell_host.ensures ∙ c.if-not-must_tell_host.false in
    let next = rw c.in-Ok-Some.field-0-is at c.in-Ok-Some.ensures.next in
    (out_again d c.in-Ok-Some.head p c.deref-2.result.now next.1 c.self.invariant told
    (c.deref-2.ensures.0 ∙ next.2) here).there

pub invariant_of-self-2 : goal.invariant_of-self-2
invariant_of-self-2 g c = let d = the_view c.self.inside in let areas2 = c.give_all.new.self in
    let head = c.in-Ok-Some.head in
    let told : tells_host d ≡ true = sym c.must_tell_host.ensures ∙ c.if-not-must_tell_host.false in
    let next = rw c.in-Ok-Some.field-0-is at c.in-Ok-Some.ensures.next in
    let items : c.deref.result.now ≡ sent_by d.deflate head = c.deref.ensures.0 ∙ next.2 in
    let emptied : c.deref-2.result.now ≡ sent_by d.deflate head = c.deref-2.ensures.0 ∙ next.2 in
    let moved : c.set_all.new.self ≡ placed (sent_by d.deflate head) Free d.places =
    c.set_all.ensures ∙ ap (λ (l : List ℕ). placed l Free d.places) emptied in
    let free : flags_of areas2.free ≡ marked (sent_by d.deflate head) true (flags_of d.areas) =
    c.give_all.ensures.state.free ∙ ap (λ (l : List ℕ). marked l true (flags_of d.areas)) items in
    rw moved (rw c.give_all.ensures.state.held
    (rw next.3 (freed_kept head next.1 c.self.invariant told free c.give_all.ensures.state.same)))

-- where the host isn't told first, the pages stay where they are
pub invariant_of-self-then-not-must_tell_host : goal.invariant_of-self-then-not-must_tell_host
invariant_of-self-then-not-must_tell_host g c = let d = the_view c.self.inside in
    let head = c.in-Ok-Some.head in
    let next = rw c.in-Ok-Some.field-0-is at c.in-Ok-Some.ensures.next in
    let untold : tells_host d ≡ false =
    sym c.must_tell_host.ensures ∙ c.if-not-must_tell_host.true in rw next.3
    (forgotten_kept head next.1 c.self.invariant untold)
