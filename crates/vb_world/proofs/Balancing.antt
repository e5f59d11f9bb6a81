-- A balance of a host is one of its world.
use Rattle.std.{proofs.Common.{Bool, List}, specs.Prelude.{MatchBool, slice_index, ◌==◌}}
use Rattle.std.proofs.Common.{None, Option, Some, [], ap, arith, count_by, false, inl, inr, is_some}
use Rattle.std.proofs.Common.{length, refl, subst, sym, true, ℕ, ◌++◌, ◌+◌, ◌<◌, ◌∙◌, ◌∷◌, ◌≡◌, ◌≤◌}
use Rattle.std.proofs.lemmas.{Bool.Decides.eqb_tells, List.{append-nil, get_or_past, length-append}}
use Rattle.{std.specs.Option.option_to_list, slab.specs.Slab.{Slab, get, with_value}}
use Rattle.vb_virtio.proofs.Tables.{count_by-cons}
use Rattle.vb_virtio.specs.Targets.{AreTargets, Need, shortage}
use Rattle.vb_virtio.specs.Limits.{max_guests}
use Rattle.vb_virtio.specs.declared.refusals.Refusal.TheVariants.{Short}
use Rattle.vb_model.specs.declared.calls.Event.TheVariants.{Balance}
use Rattle.vb_model.specs.Balance.{need}
use Rattle.vb_model.specs.{Guest.Guest, HostEvents.{WorldStep, needs, with_targets}}
use Rattle.vb_model.specs.{HostRefusals.plugged_count, World.{World, guest_at, with_guest}}
use Rattle.vb_model.specs.declared.replies.Reply.TheVariants.{Refused, Targets}
use Rattle.vb_world.proofs.Aiming.{aimed, aimed_at, aimed_more, aimed_same, all_aimed, all_needs}
use Rattle.vb_world.proofs.Aiming.{first_few, first_more, first_of, need_at, need_of, nobody, rank}
use Rattle.vb_world.proofs.{Aiming.{rank_below, rank_more, rank_same}, KeeperFrames.KeeperMoves}
use Rattle.vb_world.{proofs.Calls.{guest_of, host_with, no_guest}, specs.Hosts.IsHost}

none_moves : (out : List Bool) (a b : ℕ → ℕ) → ((f : ℕ) → a f ≡ b f) → KeeperMoves out out a b
none_moves out a b same = record { balance = λ f. omega (arith, same f); count = refl }

module _ {S D : Type 0} (Stand : S → Guest → Type 0) (Spare : D → Bool → Type 0) (slots : Slab S)
    (out : List Bool) (devices : List D) where
  -- ---- what the guests need

  -- a guest more
  pub need_found : (w : World) (floor n : ℕ) (s : S) (found : List Need) (new : Need)
      → IsHost Stand Spare slots out devices w → get slots n ≡ Some s
      → found ≡ first_of n (need_at floor w.guests) → ((g : Guest) → Stand s g → new ≡ need floor g)
      → found ++ new ∷ [] ≡ first_of (n + 1) (need_at floor w.guests)
  need_found w floor n s found new host e before is =
      let has = guest_of Stand Spare slots out devices w n s host e in
      ap (λ (l : List Need). l ++ new ∷ []) before
      ∙ (ap (λ (x : Need). first_of n (need_at floor w.guests) ++ x ∷ []) (is has.guest has.stands)
      ∙ sym (first_more n (need_at floor w.guests)
      ∙ ap (λ (o : Option Guest). first_of n (need_at floor w.guests)
      ++ option_to_list (need_of floor o)) has.there))

  -- or none
  pub need_missing : (w : World) (floor n : ℕ) (found : List Need)
      → IsHost Stand Spare slots out devices w → get slots n ≡ None → found
      ≡ first_of n (need_at floor w.guests) → found ≡ first_of (n + 1) (need_at floor w.guests)
  need_missing w floor n found host e before =
      let none = no_guest Stand Spare slots out devices w n host e in
      before ∙ sym (first_more n (need_at floor w.guests)
      ∙ (ap (λ (o : Option Guest). first_of n (need_at floor w.guests)
      ++ option_to_list (need_of floor o)) none ∙ append-nil (first_of n (need_at floor w.guests))))

  -- there is room for one more
  pub need_room : (w : World) (floor n : ℕ) (s : S) (found : List Need)
      → IsHost Stand Spare slots out devices w → get slots n ≡ Some s
      → found ≡ first_of n (need_at floor w.guests) → length found < max_guests
  need_room w floor n s found host e before =
      let has = guest_of Stand Spare slots out devices w n s host e in
      let more : length (first_of (n + 1) (need_at floor w.guests))
      ≡ length (first_of n (need_at floor w.guests) ++ need floor has.guest ∷ []) =
      ap (λ (l : List Need). length l) (first_more n (need_at floor w.guests)
      ∙ ap (λ (o : Option Guest). first_of n (need_at floor w.guests)
      ++ option_to_list (need_of floor o)) has.there) in
      omega (
        arith,
        more,
        first_few floor w.guests (n + 1),
        host.few,
        length-append (first_of n (need_at floor w.guests)) (need floor has.guest ∷ []),
        ap (λ (l : List Need). length l) before,
      )

  -- past the slots there is no guest
  none_past : (w : World) (n : ℕ) → IsHost Stand Spare slots out devices w
      → length slots.slots ≤ n → (k : ℕ) → n ≤ k → guest_at w.guests k ≡ None
  none_past w n host past k l = no_guest Stand Spare slots out devices w k host
      (get_or_past slots.slots k None (omega (arith, past, l)))

  pub needs_found : (w : World) (floor n : ℕ) (found : List Need)
      → IsHost Stand Spare slots out devices w → length slots.slots ≤ n
      → found ≡ first_of n (need_at floor w.guests) → found ≡ needs floor w
  needs_found w floor n found host past is =
      is ∙ sym (all_needs floor w w.guests n (none_past w n host past))

  -- ---- their targets

  -- there is one for the next guest
  pub target_there : (w : World) (ts : List ℕ) (n next : ℕ) (s : S) → length ts ≡ plugged_count w
      → IsHost Stand Spare slots out devices (record w { guests = aimed n ts w.guests })
      → get slots n ≡ Some s → next ≡ rank n w.guests → next < length ts
  target_there w ts n next s each host e is =
      let v : World = record w { guests = aimed n ts w.guests } in
      let has = guest_of Stand Spare slots out devices v n s host e in
      omega (
        arith,
        each,
        is,
        rank_below n w.guests has.guest (sym (aimed_at n ts w.guests) ∙ has.there),
      )

  -- a guest more has its target
  pub target_set : (w : World) (ts : List ℕ) (n next : ℕ) (s s' : S) (t : ℕ)
      → length ts ≡ plugged_count w → IsHost Stand Spare slots out devices
      (record w { guests = aimed n ts w.guests }) → get slots n ≡ Some s → next ≡ rank n w.guests
      → t ≡ slice_index ts next → ((g : Guest) → Stand s g → Stand s' (record g { target = t }))
      → IsHost Stand Spare (with_value slots n s') out devices
      (record w { guests = aimed (n + 1) ts w.guests }) × (next + 1 ≡ rank (n + 1) w.guests)
  target_set w ts n next s s' t each host e is at aims =
      let v : World = record w { guests = aimed n ts w.guests } in
      let has = guest_of Stand Spare slots out devices v n s host e in
      let there : guest_at w.guests n ≡ Some has.guest = sym (aimed_at n ts w.guests) ∙ has.there in
      let new : Guest = record has.guest { target = t } in
      let changed = host_with Stand Spare slots out devices v n s s' has.guest new out host e
      has.there (aims has.guest has.stands) (none_moves out _ _ (λ f. refl)) in
      let named : t ≡ slice_index ts (rank n w.guests) = at ∙ ap (λ (k : ℕ). slice_index ts k) is in
      let same = aimed_more n ts w.guests has.guest there
      (omega (arith, each, rank_below n w.guests has.guest there)) in (
        subst (λ (gs : List (Option Guest)). IsHost Stand Spare (with_value slots n s') out devices
            (record w { guests = gs }))
            (ap (λ (k : ℕ). with_guest n (Some (record has.guest { target = k }))
            (aimed n ts w.guests)) named ∙ sym same) changed,
        ap (λ (k : ℕ). k + 1) is ∙ sym (rank_more n w.guests has.guest there),
      )

  -- or there is none
  pub target_missing : (w : World) (ts : List ℕ) (n next : ℕ)
      → IsHost Stand Spare slots out devices (record w { guests = aimed n ts w.guests })
      → get slots n ≡ None → next ≡ rank n w.guests → IsHost Stand Spare slots out devices
      (record w { guests = aimed (n + 1) ts w.guests }) × (next ≡ rank (n + 1) w.guests)
  target_missing w ts n next host e is =
      let v : World = record w { guests = aimed n ts w.guests } in
      let none : guest_at w.guests n ≡ None =
      sym (aimed_at n ts w.guests) ∙ no_guest Stand Spare slots out devices v n host e in (
        subst (λ (gs : List (Option Guest)). IsHost Stand Spare slots out devices
            (record w { guests = gs })) (sym (aimed_same n ts w.guests none)) host,
        is ∙ sym (rank_same n w.guests none),
      )

  -- all have theirs
  pub targets_set : (w : World) (ts : List ℕ) (n : ℕ) → IsHost Stand Spare slots out devices w
      → length slots.slots ≤ n → aimed n ts w.guests ≡ with_targets ts w.guests
  targets_set w ts n host past = all_aimed n ts w.guests (none_past w n host past)

-- each guest has one need
pub as_many_needs : (floor : ℕ) (w : World) → length (needs floor w) ≡ plugged_count w
as_many_needs floor w = of w.guests where
  of : (gs : List (Option Guest)) → length (needs floor (record w { guests = gs }))
      ≡ count_by is_some gs
  of [] = refl
  of (None ∷ gs) = omega (arith, of gs, count_by-cons is_some nobody gs)
  of (Some g ∷ gs) = omega (arith, of gs, count_by-cons is_some (Some g) gs)

-- ---- which of the answers it is

zero_is : (n : ℕ) → n ≡ 0 → (n == 0) ≡ true
zero_is n e = elim (eqb_tells n 0) [ inl same ↦ same.0 | inr other ↦ absurd (other.1 e) ]

some_is : (n : ℕ) → 0 < n → (n == 0) ≡ false
some_is n l =
    elim (eqb_tells n 0) [ inl same ↦ absurd (omega (arith, l, same.1)) | inr other ↦ other.0 ]

pub balanced : (w : World) (floor frames : ℕ) (ns : List Need) (ts : List ℕ) → ns ≡ needs floor w
    → frames ≡ w.frames → shortage ns frames ≡ 0 → AreTargets ns frames ts
    → WorldStep w (Balance floor) (Targets ts) (record w { guests = with_targets ts w.guests })
balanced w floor frames ns ts is same none are =
    let P : Bool → Type 0 = λ b. MatchBool b ((targets : List ℕ)
    × AreTargets (needs floor w) w.frames targets × (Targets ts ≡ Targets targets))
    (Targets ts ≡ Refused (Short (shortage (needs floor w) w.frames))) in
    let enough : shortage (needs floor w) w.frames ≡ 0 =
    sym (ap (λ (l : List Need). shortage l frames) is
    ∙ ap (λ (n : ℕ). shortage (needs floor w) n) same) ∙ none in (
      subst P (sym (zero_is (shortage (needs floor w) w.frames) enough)) (
        ts,
        subst (λ (n : ℕ). AreTargets (needs floor w) n ts) same
            (subst (λ (l : List Need). AreTargets l frames ts) is are),
        refl,
      ),
      refl,
    )

pub short : (w : World) (floor frames left : ℕ) (ns : List Need) → ns ≡ needs floor w
    → frames ≡ w.frames → 0 < shortage ns frames → left ≡ shortage ns frames
    → WorldStep w (Balance floor) (Refused (Short left)) w
short w floor frames left ns is same some missing =
    let P : Bool → Type 0 = λ b. MatchBool b ((targets : List ℕ)
    × AreTargets (needs floor w) w.frames targets × (Refused (Short left) ≡ Targets targets))
    (Refused (Short left) ≡ Refused (Short (shortage (needs floor w) w.frames))) in
    let lacks : shortage ns frames ≡ shortage (needs floor w) w.frames = ap
    (λ (l : List Need). shortage l frames) is ∙ ap (λ (n : ℕ). shortage (needs floor w) n) same in (
      subst P (sym (some_is (shortage (needs floor w) w.frames) (omega (arith, some, lacks))))
          (ap (λ (n : ℕ). Refused (Short n)) (missing ∙ lacks)),
      refl,
    )
