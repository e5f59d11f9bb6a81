-- Which events may find no memory, and that nothing is changed then.
use Rattle.std.proofs.Common.{Bool, List, [], ap, false, inl, inr, refl, suc, sym, true, zero, ℕ}
use Rattle.std.proofs.{Common.{◌∙◌, ◌∷◌, ◌≡◌, ◌⊎◌}, lemmas.Bool.{or_left, or_right}}
use Rattle.std.specs.Prelude.{Option, Some, not, ◌||◌}
use Rattle.vb_model.proofs.{Cases.match_cases, Changes.{Balanced, Comes_up_short, Sets}}
use Rattle.vb_model.proofs.{Changes.balance_cases, Wanting.{claims_needed, no_memory_exact}}
use Rattle.vb_model.proofs.Wanting.{no_want, none_wants, refused_otherwise, wants}
use Rattle.vb_virtio.specs.FirstRefusal.{first_refusal}
use Rattle.vb_virtio.specs.declared.refusals.Refusal.TheVariants.{NoMemory}
use Rattle.vb_model.specs.Driver.{AreClaimsFor, claim_refusal}
use Rattle.vb_model.specs.{Guest.Guest, HostEvents.{Calls, Happens, PlugsIn}}
use Rattle.vb_model.specs.{HostRefusals.world_causes, Life.after_restart, Queries.Answers}
use Rattle.vb_model.specs.{Rogue.{is_read, pages_to_back}, StepLaws.WantsChangeNothing}
use Rattle.vb_model.specs.StepLaws.{call_may_want, is_list, is_none_of, may_want_memory}
use Rattle.vb_model.specs.{World.{World, guest_at, put_guest, with_guest}, declared.calls.Call.Call}
use Rattle.vb_model.specs.declared.calls.{Claim.Claim, Event.{Event, TheVariants.Balance}}
use Rattle.vb_model.specs.declared.calls.Event.TheVariants.{Frames as CountFrames, Guest as OnGuest}
use Rattle.vb_model.specs.declared.calls.Event.TheVariants.{Plug, Query as OnQuery, Restart, Unplug}
use Rattle.vb_model.specs.declared.calls.Query.{Query, TheVariants.{PagesAt, PagesBallooned}}
use Rattle.vb_model.specs.declared.replies.Reply.{Reply}
use Rattle.vb_model.specs.declared.replies.Reply.TheVariants.{Done, Refused}

-- a reply that isn't an allocation failure
not_wanted : {A : Type 0} (reply : Reply) → Refused NoMemory ≡ reply → wants reply ≡ false → A
not_wanted reply e f = no_want reply NoMemory f refl (sym e)

-- ---- a call

with_guest-again : (n : ℕ) (g : Guest) (xs : List (Option Guest)) → guest_at xs n ≡ Some g
    → with_guest n (Some g) xs ≡ xs
with_guest-again zero g [] e = absurd cc
with_guest-again zero g (x ∷ xs) e = cc
with_guest-again (suc n) g [] e = absurd cc
with_guest-again (suc n) g (x ∷ xs) e = ap (λ ys. x ∷ ys) (with_guest-again n g xs e)

-- a claim was refused, so there was a page to claim a frame for
some_needed : (pages : List ℕ) (claims : List Claim) → AreClaimsFor pages claims
    → claim_refusal claims ≡ Some NoMemory → not (is_none_of pages) ≡ true
some_needed [] [] a e = absurd cc
some_needed [] (claim ∷ claims) a e = absurd (let none : claim ∷ claims ≡ [] = a in cc)
some_needed (page ∷ pages) claims a e = refl

calls_want : (n : ℕ) (call : Call) (g : Guest) (w v : World) → guest_at w.guests n ≡ Some g
    → Calls n g w call (Refused NoMemory) v
    → (call_may_want (guest_at w.guests n) call ≡ true) × (v ≡ w)
calls_want n call g w v here s = let exact = no_memory_exact g call s.0 s.1 s.3 in (
  ap (λ (o : Option Guest). call_may_want o call) here ∙ may exact.0,
  s.4 ∙ ap (λ (x : Guest). put_guest n (Some x) w) exact.1 ∙ ap
      (λ (xs : List (Option Guest)). record w { guests = xs }) (with_guest-again n g w.guests here),
) where
  may : (claim_refusal s.0 ≡ Some NoMemory) ⊎ (is_read call ≡ true)
      → (is_read call || not (is_none_of (pages_to_back call g))) ≡ true
  may (inl e) = or_right (is_read call) (not (is_none_of (pages_to_back call g))) (some_needed
      (pages_to_back call g) s.0 (claims_needed g call s.0 (Refused NoMemory) s.1 s.3) e)
  may (inr read) = or_left (is_read call) (not (is_none_of (pages_to_back call g))) read

-- ---- a question

answers_want : (query : Query) (g : Guest) → Answers query g (Refused NoMemory)
    → is_list query ≡ true
answers_want (PagesAt place) g e = refl
answers_want PagesBallooned g e = refl
answers_want query g e = not_wanted _ e refl

-- ---- an event

happens_want : (event : Event) (w v : World) → Happens event w (Refused NoMemory) v
    → (may_want_memory w event ≡ true) × (v ≡ w)
happens_want (Plug size) w v s = plugs w.spares s where
  plugs : (spares : List Bool) → PlugsIn size spares w (Refused NoMemory) v
      → (may_want_memory w (Plug size) ≡ true) × (v ≡ w)
  plugs [] s = absurd s
  plugs (paced ∷ rest) (inl none) = (refl, none.1)
  plugs (paced ∷ rest) (inr p) = not_wanted _ p.3 refl
happens_want (Unplug n) w v s = not_wanted _ s.0 refl
happens_want (Restart n) w v s = elim (match_cases (guest_at w.guests n) ⊥
    (λ g. (Refused NoMemory ≡ Done) × (v ≡ put_guest n (Some (after_restart g)) w)) s) [
      | inl none ↦ absurd none.1
      | inr g ↦ not_wanted _ g.2.0 refl
    ]
happens_want (OnGuest n call) w v s =
    elim (match_cases (guest_at w.guests n) ⊥ (λ g. Calls n g w call (Refused NoMemory) v) s) [
      | inl none ↦ absurd none.1
      | inr g ↦ calls_want n call g.0 w v g.1 g.2
    ]
happens_want (OnQuery n query) w v s =
    elim (match_cases (guest_at w.guests n) ⊥ (λ g. Answers query g (Refused NoMemory)) s.0) [
      | inl none ↦ absurd none.1
      | inr g ↦ (answers_want query g.0 g.2, s.1)
    ]
happens_want (Balance floor) w v s = by (balance_cases floor w (Refused NoMemory) v s) where
  by : Balanced floor w (Refused NoMemory) v → (may_want_memory w (Balance floor) ≡ true) × (v ≡ w)
  by (Comes_up_short said is) = not_wanted _ said refl
  by (Sets targets are said is) = not_wanted _ said refl
happens_want CountFrames w v s = not_wanted _ s.0 refl

causes_of_others : (w : World) (event : Event) → none_wants (world_causes w event) ≡ true
causes_of_others w (Plug size) = refl
causes_of_others w event = refl

pub wants_change_nothing : WantsChangeNothing
wants_change_nothing w event v s = elim (match_cases (first_refusal (world_causes w event))
    (Happens event w (Refused NoMemory) v) (λ r. (Refused NoMemory ≡ Refused r) × (v ≡ w)) s) [
      | inl p ↦ happens_want event w v p.1
      | inr r ↦ not_wanted (Refused r.0) r.2.0
          (refused_otherwise (world_causes w event) r.0 (causes_of_others w event) r.1)
    ]
