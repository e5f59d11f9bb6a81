-- Every course of a guest is safe, and so is every history.
use Rattle.std.proofs.Common.{Bool, List, [], ap, arith, cond, drop, false, get_or, inl, length}
use Rattle.std.proofs.Common.{refl, subst, suc, sym, take, true, zero, ℕ, ◌+◌, ◌∙◌, ◌∷◌, ◌≡◌, ◌≢◌}
use Rattle.std.proofs.lemmas.{Bool.eq-eqb, List.{get_or-drop, get_or-take, length-drop}}
use Rattle.std.{proofs.lemmas.List.length-take-le, specs.Prelude.{IsTrue, None, Option, Some}}
use Rattle.std.specs.Prelude.{slice_get, ◌==◌, ◌↔◌, ◌≤◌}
use Rattle.vb_model.specs.declared.replies.Reply.TheVariants.{Served}
use Rattle.vb_model.proofs.{Asked.told_first, Changes.same_some, Contents.honest_same}
use Rattle.vb_model.proofs.Courses.{EntryAt, IsFit, Positions, as_guest, fresh_fit, positions}
use Rattle.vb_model.proofs.{Courses.some_own, Faults.{honest_no_fault, is_fault}}
use Rattle.vb_model.proofs.{Kept.{honest_keeps_frame, used_page}, LastWrites.overwritten_byte}
use Rattle.vb_model.proofs.{LastWrites.{read_step, write_step}, PageSteps.naming-all}
use Rattle.vb_model.{proofs.Unchanged.step_keeps, specs.{Consistent.IsConsistent, Courses.Course}}
use Rattle.vb_model.specs.Courses.{IsAt, IsCall, IsWriteTo, ReadsGiveLastWrites, StaysHeld}
use Rattle.vb_model.specs.Courses.{StaysOrLoses, byte_after, byte_of, byte_written, guest_after}
use Rattle.vb_virtio.specs.Memory.{overwritten}
use Rattle.vb_virtio.specs.declared.refusals.Refusal.TheVariants.{Broken, RingBroken}
use Rattle.vb_model.specs.Courses.{last_put}
use Rattle.vb_model.specs.Driver.{contents_of}
use Rattle.vb_model.specs.Guest.{Config}
use Rattle.vb_model.specs.{Guest.{Guest, frame_of, is_ballooned}, GuestRun.{Called, Entry}}
use Rattle.vb_model.specs.GuestRun.{EntryStep, IsHistory, Leads, Looked, OwnStep}
use Rattle.vb_model.specs.Histories.{BothAgree, IsSafeCourse, IsSafeHistory}
use Rattle.vb_model.specs.{Requests.all_requests, SafeLaws.UsedPagesStay, Step.HonestStep}
use Rattle.vb_model.specs.declared.calls.{Actor.Actor, Call.{Call, TheVariants.{Read, Write}}}
use Rattle.vb_model.specs.declared.{calls.Claim.Claim, places.Place.TheVariants.{Lent, Used}}
use Rattle.vb_model.specs.declared.replies.Reply.{Reply}
use Rattle.vb_model.specs.declared.replies.Reply.TheVariants.{Done, ReadBytes, Refused}

-- ---- driver and device

pub both_agree : (g : Guest) → IsConsistent g → BothAgree g
both_agree g c page = search arith

-- without requests they agree on all pages
pub quiet_agree : (g : Guest) → BothAgree g → all_requests g.inflate ≡ [] → all_requests g.deflate
    ≡ [] → (page : ℕ) → IsTrue (is_ballooned g.ballooned page) ↔ IsAt g page Lent
quiet_agree g both a b page = grind (arith, naming-all page g.inflate, naming-all page g.deflate)

-- ---- frames, contents, faults

keeps_frame : (c : Course) → Positions c → (i page frame : ℕ) (g new : Guest) → guest_after c i
    ≡ Some g → guest_after c (i + 1) ≡ Some new → IsAt g page Used → IsAt new page Used
    → frame_of g.frames page ≡ Some frame → frame_of new.frames page ≡ Some frame
keeps_frame c p i page frame g new here next used used' has =
    let s = p.step i g new here next in by s.own s.step
  where
    by : (own : Option Entry) → OwnStep g own new → frame_of new.frames page ≡ Some frame
    by None s = ap (λ (x : Guest). frame_of x.frames page) s ∙ has
    by (Some (Looked floor answer)) s = ap (λ (x : Guest). frame_of x.frames page) s.1 ∙ has
    by (Some (Called actor call claims reply)) s = honest_keeps_frame
        call page frame g claims reply new (used_page g page (p.fit i g here).consistent used) s.1
        (p.fit (i + 1) new next).honest has used'

not_broken : (c : Course) → Positions c → (i fault : ℕ) (call : Call) (reply : Reply)
    → IsCall c i call reply → (reply ≢ Refused (Broken fault)) × (reply ≢ Refused RingBroken)
    × ((chains : ℕ) → reply ≢ Served chains (Some fault))
not_broken c p i fault call reply (actor, claims, at) =
    let m = p.made i (Called actor call claims reply) at in
    let f = honest_no_fault m.before call claims reply m.next m.step.1 in (
      λ e. cc,
      λ e. let t : is_fault reply ≡ true = ap is_fault e in cc,
      λ chains e. let t : is_fault
          reply ≡ true = ap is_fault e in cc,
    )

keeps_contents : (c : Course) → Positions c → (i page : ℕ) (g new : Guest) → guest_after c i
    ≡ Some g → guest_after c (i + 1) ≡ Some new → ¬ IsWriteTo c page i → StaysOrLoses page g new
keeps_contents c p i page g new here next none =
    let s = p.step i g new here next in by s.own s.own_is s.step
  where
    f : IsFit g
    f = p.fit i g here

    h : IsFit new
    h = p.fit (i + 1) new next

    by : (own : Option Entry) → slice_get c.entries i ≡ Some own → OwnStep g own new
        → StaysOrLoses page g new
    by None at s = inl (ap (λ (x : Guest). contents_of x page) s)
    by (Some (Looked floor answer)) at s = inl (ap (λ (x : Guest). contents_of x page) s.1)
    by (Some (Called actor call claims reply)) at s =
        honest_same call page g claims reply new f.blank h.blank (step_keeps g call claims reply new
        (as_guest g call claims reply new f.honest s.1)).config (λ offset bytes is done. none (
          offset,
          bytes,
          (
            actor,
            claims,
            at ∙ ap (λ (x : Call). some_own (Some (Called actor x claims reply))) is
                ∙ ap (λ (x : Reply). some_own
                (Some (Called actor (Write page offset bytes) claims x))) done,
          ),
        )) s.1 h.honest

-- a used page loses no frame, so it holds what it did
pub used_pages_stay : UsedPagesStay
used_pages_stay c safe i page g new here next used used' none = search arith

-- ---- what reads give

-- it is a write to the page that was done
is_write : ℕ → Call → Reply → Bool
is_write page (Write p offset bytes) Done = p == page
is_write page call reply = false

no_write : (page at : ℕ) (actor : Actor) (call : Call) (claims : List Claim) (reply : Reply) (old : ℕ)
    → is_write page call reply ≡ false
    → byte_after page at (Some (Called actor call claims reply)) old ≡ old
unfolding is_write
no_write page at actor call claims reply old e = grind arith

own_write : (page offset : ℕ) (bytes : List ℕ) → is_write page (Write page offset bytes) Done ≡ true
unfolding is_write
own_write page offset bytes = eq-eqb page page refl

-- which one
record IsDone (page : ℕ) (call : Call) (reply : Reply) : Type 0 where
  offset : ℕ
  bytes : List ℕ
  call_is : call ≡ Write page offset bytes
  reply_is : reply ≡ Done

the_write : (page : ℕ) (call : Call) (reply : Reply) → is_write page call reply ≡ true
    → IsDone page call reply
unfolding is_write
the_write page call reply e = grind arith

written_byte : (page at offset : ℕ) (actor : Actor) (claims : List Claim) (bytes : List ℕ) (old : ℕ)
    → byte_after page at (Some (Called actor (Write page offset bytes) claims Done)) old
    ≡ byte_written at offset bytes old
written_byte page at offset actor claims bytes old =
    ap (λ (b : Bool). cond b (byte_written at offset bytes old) old) (eq-eqb page page refl)

-- a used page holds what it held, but for the guest's own writes to it
same_contents : (c : Course) → Positions c → (i page : ℕ) (g new : Guest) → guest_after c i ≡ Some g
    → guest_after c (i + 1) ≡ Some new → IsAt g page Used → IsAt new page Used
    → ¬ IsWriteTo c page i → contents_of new page ≡ contents_of g page
same_contents c p i page g new here next used used' none =
    search (arith, keeps_contents, keeps_frame)

index_is : (entries : List (Option Entry)) (i : ℕ) (own : Option Entry)
    → slice_get entries i ≡ Some own → get_or entries i None ≡ own
index_is [] i own at = absurd cc
index_is (x ∷ entries) zero own at = cc
index_is (x ∷ entries) (suc i) own at = index_is entries i own at

-- the byte after one entry
byte_step : (c : Course) → Positions c → (page at i : ℕ) (g new : Guest) → guest_after c i ≡ Some g
    → guest_after c (i + 1) ≡ Some new → IsAt g page Used → IsAt new page Used
    → byte_of new page at ≡ byte_after page at (get_or c.entries i None) (byte_of g page at)
byte_step c p page at i g new here next used used' = by s.own s.own_is s.step
    ∙ sym (ap (λ (e : Option Entry). byte_after page at e (byte_of g page at))
    (index_is c.entries i s.own s.own_is))
  where
    s : EntryAt c.entries i g new
    s = p.step i g new here next

    -- none to the page
    other : (actor : Actor) (call : Call) (claims : List Claim) (reply : Reply)
        → slice_get c.entries i ≡ Some (Some (Called actor call claims reply))
        → is_write page call reply ≡ false → ¬ IsWriteTo c page i
    other actor call claims reply at e (offset, bytes, (who, what, is)) =
        let first : call ≡ Write page offset bytes = cc in
        let second : reply ≡ Done = cc in
        let wrong : true ≡ false =
        sym (own_write page offset bytes) ∙ sym (ap (λ (x : Call). is_write page x Done) first)
        ∙ sym (ap (λ (x : Reply). is_write page call x) second) ∙ e in cc

    called : (actor : Actor) (call : Call) (claims : List Claim) (reply : Reply) (v : Bool)
        → is_write page call reply ≡ v
        → slice_get c.entries i ≡ Some (Some (Called actor call claims reply))
        → EntryStep g (Called actor call claims reply) new → byte_of new page at
        ≡ byte_after page at (Some (Called actor call claims reply)) (byte_of g page at)
    called actor call claims reply false e entry s =
        ap (λ (l : List ℕ). get_or l at 0)
        (same_contents c p i page g new here next used used' (other actor call claims reply entry e))
        ∙ sym (no_write page at actor call claims reply (byte_of g page at) e)
    called actor call claims reply true e entry s = let w = the_write page call reply e in
        let step : HonestStep g (Write page w.offset w.bytes) claims Done new =
        subst (λ (x : Call). HonestStep g x claims Done new) w.call_is
        (subst (λ (x : Reply). HonestStep g call claims x new) w.reply_is s.1) in
        let blank = (p.fit i g here).blank in
        let did = write_step g page w.offset w.bytes claims new blank step in
        ap (λ (l : List ℕ). get_or l at 0) did.contents
        ∙ overwritten_byte at w.offset w.bytes (contents_of g page)
        (let whole = blank.whole page did.there in omega (arith, did.inside, whole))
        ∙ sym (written_byte page at w.offset actor claims w.bytes (byte_of g page at))
        ∙ sym (ap (λ (x : Call). byte_after page at (Some (Called actor x claims Done))
        (byte_of g page at)) w.call_is)
        ∙ sym (ap (λ (x : Reply). byte_after page at (Some (Called actor call claims x))
        (byte_of g page at)) w.reply_is)

    by : (own : Option Entry) → slice_get c.entries i ≡ Some own → OwnStep g own new
        → byte_of new page at ≡ byte_after page at own (byte_of g page at)
    by None entry s = ap (λ (x : Guest). byte_of x page at) s
    by (Some (Looked floor answer)) entry s = ap (λ (x : Guest). byte_of x page at) s.1
    by (Some (Called actor call claims reply)) entry s =
        called actor call claims reply (is_write page call reply) refl entry s

-- after many
bytes_are : (c : Course) → Positions c → (page at i k : ℕ) (g new : Guest) → StaysHeld c page i k
    → guest_after c i ≡ Some g → guest_after c (i + k) ≡ Some new
    → byte_of new page at ≡ last_put c page at i k (byte_of g page at)
bytes_are c p page at i zero g new holds here there = grind arith
bytes_are c p page at i (suc k) g new holds here there = let old = holds k (omega arith) in
    let now = holds (suc k) (omega arith) in
    let same : now.0 ≡ new = same_some now.0 new (sym now.1 ∙ there) in
    let next : i + suc k ≡ i + k + 1 = omega arith in
    let before = bytes_are c p page at i k g old.0 (λ j le. holds j (omega (arith, le))) here old.1 in
    sym (ap (λ (x : Guest). byte_of x page at) same)
    ∙ byte_step c p page at (i + k) old.0 now.0 old.1
    (subst (λ (m : ℕ). guest_after c m ≡ Some now.0) next now.1) old.2 now.2
    ∙ ap (λ (b : ℕ). byte_after page at (get_or c.entries (i + k) None) b) before

writes : (c : Course) → Positions c → (i page offset : ℕ) (bytes : List ℕ) (g new : Guest)
    → guest_after c i ≡ Some g → guest_after c (i + 1) ≡ Some new
    → IsCall c i (Write page offset bytes) Done
    → (offset + length bytes ≤ length (contents_of g page))
    × (contents_of new page ≡ overwritten offset bytes (contents_of g page))
writes c p i page offset bytes g new here next (actor, claims, entry) =
    let s = p.step i g new here next in
    let same : s.own ≡ Some (Called actor (Write page offset bytes) claims Done) = cc in
    let step : OwnStep g (Some (Called actor (Write page offset bytes) claims Done)) new =
    subst (λ (own : Option Entry). OwnStep g own new) same s.step in
    let blank = (p.fit i g here).blank in
    let did = write_step g page offset bytes claims new blank step.1 in
    (let whole = blank.whole page did.there in omega (arith, did.inside, whole), did.contents)

reads : (c : Course) → Positions c → (i page offset len : ℕ) (bytes : List ℕ) (g : Guest)
    → guest_after c i ≡ Some g → IsCall c i (Read page offset len) (ReadBytes bytes)
    → (length bytes ≡ len) × (bytes ≡ take len (drop offset (contents_of g page)))
reads c p i page offset len bytes g here (actor, claims, entry) =
    let m = p.made i (Called actor (Read page offset len) claims (ReadBytes bytes)) entry in
    let same : m.before ≡ g = same_some m.before g (sym m.is_there ∙ here) in
    let did = read_step g page offset len bytes claims m.next
    (subst (λ (x : Guest). HonestStep x (Read page offset len) claims (ReadBytes bytes) m.next) same
    m.step.1) in
    let whole = (p.fit i g here).blank.whole page did.there in (
      ap length did.bytes_are ∙ length-take-le len (drop offset (contents_of g page))
          (omega (arith, did.inside, whole, length-drop offset (contents_of g page))),
      did.bytes_are,
    )

last_writes : (c : Course) → Positions c → ReadsGiveLastWrites c
last_writes c p page i k offset len bytes g holds here (actor, claims, entry) =
    let last = holds k (omega arith) in
    let m = p.made (i + k) (Called actor (Read page offset len) claims (ReadBytes bytes)) entry in
    let same : m.before ≡ last.0 = same_some m.before last.0 (sym m.is_there ∙ last.1) in
    let did = read_step last.0 page offset len bytes claims m.next
    (subst (λ (x : Guest). HonestStep x (Read page offset len) claims (ReadBytes bytes) m.next) same
    m.step.1) in
    let whole = (p.fit (i + k) last.0 last.1).blank.whole page did.there in (
      ap length did.bytes_are ∙ length-take-le len (drop offset (contents_of last.0 page))
          (omega (arith, did.inside, whole, length-drop offset (contents_of last.0 page))),
      λ j lt. ap (λ (l : List ℕ). get_or l j 0) did.bytes_are ∙ get_or-take len (drop offset
          (contents_of last.0 page)) j 0 lt ∙ get_or-drop offset (contents_of last.0 page) j 0
          ∙ bytes_are c p page (offset + j) i k g last.0 holds here last.1,
    )

pub course_reads : (c : Course) → IsFit c.first → Leads c.first c.entries c.after
    → ReadsGiveLastWrites c
course_reads c f s = last_writes c (positions c f s)

-- ---- a history

pub course_is_safe : (c : Course) → IsFit c.first → Leads c.first c.entries c.after → IsSafeCourse c
course_is_safe c f s = let p = positions c f s in record {
  agreed = λ i g at ready. let a = (p.fit i g at).orderly.agreed ready in (a.offered, a.version);
  keeps_frame = keeps_frame c p;
  keeps_contents = λ i page g new here next unreserved. keeps_contents c p i page g new here next;
  writes = writes c p;
  reads = reads c p;
  told_first = told_first c p;
  both_agree = λ i g at. both_agree g (p.fit i g at).consistent;
  actual = λ i g at. (p.fit i g at).consistent.counted;
  not_broken = not_broken c p;
}

pub history_is_safe : (config : Config) (target : ℕ) (entries : List Entry) (last : Guest)
    → IsHistory config target entries last → IsSafeHistory config target entries last
history_is_safe config target entries last h4 = search (arith, course_is_safe, fresh_fit)
