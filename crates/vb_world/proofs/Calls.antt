-- What an event does to a host is what it does to its world.
use Rattle.std.proofs.Common.{◌≡◌, ℕ, ◌-◌, ◌<◌, ◌≤◌, Bool, true, cond, List, length, refl, sym, ap}
use Rattle.std.{specs.Prelude.{MatchOption, ⊤}, proofs.lemmas.Bool.{cases_lt, Decides.eqb_tells}}
use Rattle.std.proofs.lemmas.List.{Sums.sum_by-set, get_or-set_same, get_or-set_other, get_or_past}
use Rattle.std.proofs.Common.{subst, ◌∙◌, inl, inr, arith, Option, Some, None, is_some, count_by}
use Rattle.slab.specs.Slab.{Slab, get, slab_len, with_value, Updates}
use Rattle.vb_model.proofs.Changes.{with_guest-same, with_guest-other}
use Rattle.vb_model.specs.{Guest.Guest, HostFrames.{used_frames, Gives, IsOut}, Queries.Answers}
use Rattle.vb_model.specs.{HostEvents.WorldStep, World.{World, guest_at, with_guest, put_guest}}
use Rattle.vb_virtio.specs.Limits.{max_guests}
use Rattle.vb_virtio.specs.declared.refusals.Refusal.TheVariants.{NoGuest}
use Rattle.vb_model.specs.HostRefusals.{plugged_count}
use Rattle.vb_model.specs.declared.calls.{Call.Call, Event.TheVariants.Frames as CountFrames}
use Rattle.vb_model.specs.declared.calls.Query.{Query}
use Rattle.vb_model.specs.declared.replies.Reply.{Reply, TheVariants.{Frames, Refused}}
use Rattle.{vb_frames.specs.Out.{is_out, TableAnswers}, vb_world.specs.Hosts.{IsHost, StandsAt}}
use Rattle.vb_frames.proofs.{Returns.same_gives, Least.table_gives}
use Rattle.vb_slot.specs.Steps.{StepsWithKeeper, AreOut, backing_count}
use Rattle.vb_world.{proofs.{KeeperFrames.KeeperMoves, Frames.used_are_out}, specs.Hosts.backing_at}
use Rattle.vb_world.proofs.Guests.{backing-with, backing-part, count-with, backs_out, out_backs}
use Rattle.vb_model.specs.declared.calls.Event.TheVariants.{Guest as OnGuest, Query as OnQuery}

module _ {S D : Type 0} (Stand : S → Guest → Type 0) (Spare : D → Bool → Type 0) (slots : Slab S)
    (out : List Bool) (devices : List D) (w : World) where
  pub frames_counted : (used total : ℕ) → IsHost Stand Spare slots out devices w
      → used ≡ count_by (λ b. b) out → total ≡ length out
      → WorldStep w CountFrames (Frames used (total - used)) w
  frames_counted used total host u t =
      let e : used ≡ used_frames w = u ∙ sym (used_are_out w out host.backed) in
      let f : total ≡ w.frames = t ∙ host.frames in (
        ap (λ (n : ℕ). Frames n (total - n)) e
            ∙ ap (λ (n : ℕ). Frames (used_frames w) (n - used_frames w)) f,
        refl,
      )

  -- there is no slot, and so no guest
  pub no_guest : (n : ℕ) → IsHost Stand Spare slots out devices w → get slots n ≡ None
      → guest_at w.guests n ≡ None
  no_guest n host e = of (guest_at w.guests n)
      (subst (λ (o : Option S). StandsAt Stand o (guest_at w.guests n)) e (host.guests n))
    where
      of : (o : Option Guest) → StandsAt Stand None o → o ≡ None
      of None h = refl
      of (Some g) h = absurd h

  -- the guest of a slot
  pub record HasGuest (n : ℕ) (s : S) : Type 0 where
    pub guest : Guest
    pub there : guest_at w.guests n ≡ Some guest
    pub stands : Stand s guest

  pub guest_of : (n : ℕ) (s : S) → IsHost Stand Spare slots out devices w → get slots n ≡ Some s
      → HasGuest n s
  guest_of n s host e = of (guest_at w.guests n) refl
      (subst (λ (o : Option S). StandsAt Stand o (guest_at w.guests n)) e (host.guests n))
    where
      of : (o : Option Guest) → guest_at w.guests n ≡ o → StandsAt Stand (Some s) o → HasGuest n s
      of None there h = absurd h
      of (Some g) there h = record { guest = g; there = there; stands = h }

  pub no_guest_step : (n : ℕ) (call : Call) → IsHost Stand Spare slots out devices w
      → get slots n ≡ None → WorldStep w (OnGuest n call) (Refused NoGuest) w
  no_guest_step n call host e = rw (no_guest n host e) (refl, refl)

  pub no_guest_query : (n : ℕ) (query : Query) → IsHost Stand Spare slots out devices w
      → get slots n ≡ None → WorldStep w (OnQuery n query) (Refused NoGuest) w
  no_guest_query n query host e = rw (no_guest n host e) (refl, refl)

  pub guest_query : (n : ℕ) (s : S) (query : Query) (reply : Reply)
      → IsHost Stand Spare slots out devices w → get slots n ≡ Some s
      → ((g : Guest) → Stand s g → Answers query g reply) → WorldStep w (OnQuery n query) reply w
  guest_query n s query reply host e answers =
      let has = guest_of n s host e in rw has.there (answers has.guest has.stands, refl)

  -- each frame that backs a page of a guest is out
  pub guest_frames : (n : ℕ) (s : S) → IsHost Stand Spare slots out devices w → get slots n ≡ Some s
      → (has : HasGuest n s) → AreOut has.guest out
  guest_frames n s host e has f =
      omega (arith, host.backed f, backing-part f n w.guests has.guest has.there)

  -- ---- another guest, or none, at a number

  within : (n : ℕ) (s : S) → get slots n ≡ Some s → n < length slots.slots
  within n s e = elim (cases_lt n (length slots.slots)) [
    | inl l ↦ l
    | inr l ↦ absurd (cc (sym (get_or_past slots.slots n None l) ∙ e))
  ]

  -- the slot of one number is another, and so is the guest
  stands_with : (n : ℕ) (slots' : Slab S) (o : Option S) (x : Option Guest)
      → IsHost Stand Spare slots out devices w → Updates slots slots' n o → StandsAt Stand o x
      → (m : ℕ) → StandsAt Stand (get slots' m) (guest_at (with_guest n x w.guests) m)
  stands_with n slots' o x host new stands m = elim (eqb_tells m n) [
    | inl same ↦
        subst (λ (k : ℕ). StandsAt Stand (get slots' k) (guest_at (with_guest n x w.guests) k))
        (sym same.1) (rw (new.changed, with_guest-same n x w.guests) stands)
    | inr other ↦ rw (new.others m other.1, with_guest-other n m x w.guests (λ h. other.1 (sym h)))
        (host.guests m)
  ]

  -- Where the frames of the guest that was there have come back, and those of the one that is there
  -- now are out.
  pub host_updated : (n : ℕ) (slots' : Slab S) (o : Option S) (x : Option Guest)
      (out' : List Bool) (given : Option ℕ) → IsHost Stand Spare slots out devices w
      → Updates slots slots' n o → StandsAt Stand o x → slab_len slots'
      ≡ plugged_count (put_guest n x w) → plugged_count (put_guest n x w) ≤ max_guests
      → slots'.capacity ≡ slots.capacity → MatchOption given ⊤ (λ last. last ≡ slots'.vacant_key)
      → KeeperMoves out out' (λ f. backing_at f x) (λ f. backing_at f (guest_at w.guests n))
      → IsHost Stand Spare slots' out' devices (record (put_guest n x w) { vacated = given })
  host_updated n slots' o x out' given host new stands count few capacity next moves = record {
    guests = stands_with n slots' o x host new stands;
    count = count;
    few = few;
    room = omega (arith, host.room, capacity);
    next = next;
    frames = moves.count ∙ host.frames;
    backed = λ f. omega (arith, host.backed f, moves.balance f, backing-with f n x w.guests);
    spares = host.spares;
  }

  -- ---- the guest of a slot changes

  value_updates : (n : ℕ) (s s' : S) → get slots n ≡ Some s
      → Updates slots (with_value slots n s') n (Some s')
  value_updates n s s' e = record {
    changed = get_or-set_same slots.slots n (Some s') None (within n s e);
    others = λ m ne. get_or-set_other slots.slots n m (Some s') None ne;
  }

  count_with : (n : ℕ) (s s' : S) → get slots n ≡ Some s
      → slab_len (with_value slots n s') ≡ slab_len slots
  count_with n s s' e =
      let a = sum_by-set (λ (x : Option S). cond (is_some x) 1 0) slots.slots n (Some s') None
      (within n s e) in
      let b = ap {B = ℕ} (λ (x : Option S). cond (is_some x) 1 0) e in omega (arith, a, b)

  plugged_with : (n : ℕ) (g : Guest) → (has : Option Guest) → guest_at w.guests n ≡ has
      → is_some has ≡ true → plugged_count (put_guest n (Some g) w) ≡ plugged_count w
  plugged_with n g has there some = let a = count-with n (Some g) w.guests in
      let b = ap {B = ℕ} (λ (x : Option Guest). cond (is_some x) 1 0) there in
      let c = ap {B = ℕ} (λ (x : Bool). cond x 1 0) some in omega (arith, a, b, c)

  pub host_with : (n : ℕ) (s s' : S) (g new : Guest) (out' : List Bool)
      → IsHost Stand Spare slots out devices w → get slots n ≡ Some s → guest_at w.guests n ≡ Some g
      → Stand s' new → KeeperMoves out out' (λ f. backing_count f new) (λ f. backing_count f g)
      → IsHost Stand Spare (with_value slots n s') out' devices (put_guest n (Some new) w)
  host_with n s s' g new out' host e there stands moves =
      let same = plugged_with n new (Some g) there refl in
      host_updated n (with_value slots n s') (Some s') (Some new) out' w.vacated host
      (value_updates n s s' e) stands (count_with n s s' e ∙ (host.count ∙ sym same))
      (omega (arith, same, host.few)) refl host.next (record {
        balance = λ f. let was = ap (backing_at f) there in omega (arith, moves.balance f, was);
        count = moves.count;
      })

  -- ---- a guest's step

  pub guest_step : (n : ℕ) (s s' : S) (out' : List Bool) (call : Call) (reply : Reply)
      → IsHost Stand Spare slots out devices w → get slots n ≡ Some s
      → ((g : Guest) → Stand s g → StepsWithKeeper (Stand s') TableAnswers out out' g call reply)
      → (new : World) × IsHost Stand Spare (with_value slots n s') out' devices new
      × WorldStep w (OnGuest n call) reply new
  guest_step n s s' out' call reply host e steps = let has = guest_of n s host e in
      let step = steps has.guest has.stands in
      let gives = same_gives w.frames (λ f. is_out out f ≡ true) (IsOut w) step.claims
      (λ x l h. out_backs w out host.backed x h) (λ x l h. backs_out w out host.backed x h)
      (subst (λ (k : ℕ). Gives k (λ f. is_out out f ≡ true) step.claims) host.frames
      (table_gives step.claims out step.answered)) in (
        put_guest n (Some step.new) w,
        host_with n s s' has.guest step.new out' host e has.there step.stands
            (record { balance = step.balance; count = step.count }),
        rw has.there (step.claims, step.new, gives, step.step, refl),
      )
