-- Each guest of a run has as many pages as are reserved, at least.
use Rattle.std.proofs.Common.{Bool, List, [], ap, arith, inl, inr, refl, subst, suc, sym, true, zero, ℕ, ◌+◌, ◌∙◌, ◌∷◌, ◌<◌, ◌≤◌, ◌≡◌}
use Rattle.std.proofs.lemmas.Bool.{cases_eq, not-false}
use Rattle.std.proofs.lemmas.Bool.Decides.{nat_tests}
use Rattle.std.specs.Prelude.{None, Option, Some, slice_get}
use Rattle.vb_model.proofs.Cases.{match_cases, not_refused}
use Rattle.vb_model.proofs.Changes.{same_some, with_guest-other, with_guest-same}
use Rattle.vb_model.proofs.Fates.{configurations_kept}
use Rattle.vb_model.proofs.Runs.{Positions, positions}
use Rattle.vb_model.specs.Guest.{Config, Guest, fresh}
use Rattle.vb_model.specs.HostEvents.{Calls, Happens, PlugsIn, WorldStep, after_balance, with_targets}
use Rattle.vb_model.specs.HostRefusals.{world_causes}
use Rattle.vb_virtio.specs.Layout.{reserved_pages}
use Rattle.vb_virtio.specs.Limits.{is_config}
use Rattle.vb_virtio.specs.FirstRefusal.{first_refusal}
use Rattle.vb_model.specs.Life.{after_restart}
use Rattle.vb_model.specs.Run.{History, Run, states}
use Rattle.vb_model.specs.World.{World, guest_at, made, put_guest, with_guest}
use Rattle.vb_model.specs.declared.calls.Event.{Event}
use Rattle.vb_model.specs.declared.calls.Event.TheVariants.{Balance, Plug, Restart, Unplug}
use Rattle.vb_model.specs.declared.calls.Event.TheVariants.{Frames as CountFrames, Guest as OnGuest, Query as OnQuery}
use Rattle.vb_model.specs.declared.replies.Reply.{Reply}
use Rattle.vb_model.specs.declared.calls.GuestSize.{GuestSize}
use Rattle.vb_model.specs.declared.replies.Reply.TheVariants.{Done, Plugged, Refused, Targets}
use Rattle.vb_room.proofs.Bare.{before}

abbrev pub IsRoomy : Guest → Type 0
IsRoomy g = reserved_pages g.config.queue_size ≤ g.config.pages

abbrev pub AllRoomy : World → Type 0
AllRoomy w = (n : ℕ) (g : Guest) → guest_at w.guests n ≡ Some g → IsRoomy g

config_roomy : (pages queue_size processors : ℕ) → is_config pages queue_size processors ≡ true → reserved_pages queue_size ≤ pages
config_roomy pages queue_size processors e = grind (arith, nat_tests)

config_some : (pages queue_size processors : ℕ) → is_config pages queue_size processors ≡ true → 0 < pages
config_some pages queue_size processors e = grind (arith, nat_tests)

no_guest : (o : Option Guest) (g : Guest) → o ≡ None → o ≡ Some g → ⊥
no_guest o g e f = cc

-- ---- a guest that isn't there comes by a plug alone

put_none : (m n : ℕ) (x : Option Guest) (guests : List (Option Guest)) → guest_at guests n ≡ None → (m ≡ n → x ≡ None)
    → guest_at (with_guest m x guests) n ≡ None
put_none m n x guests none own = elim (cases_eq m n) [
  | inl same ↦ ap (guest_at (with_guest m x guests)) (sym same) ∙ (with_guest-same m x guests ∙ own same)
  | inr other ↦ with_guest-other m n x guests other ∙ none
]

targets_none : (ts : List ℕ) (xs : List (Option Guest)) (n : ℕ) → guest_at xs n ≡ None → guest_at (with_targets ts xs) n ≡ None
targets_none ts [] n e = refl
targets_none ts (None ∷ xs) zero e = refl
targets_none ts (None ∷ xs) (suc n) e = targets_none ts xs n e
targets_none [] (Some g ∷ xs) zero e = absurd cc
targets_none [] (Some g ∷ xs) (suc n) e = targets_none [] xs n e
targets_none (t ∷ ts) (Some g ∷ xs) zero e = absurd cc
targets_none (t ∷ ts) (Some g ∷ xs) (suc n) e = targets_none ts xs n e

balance_none : (reply : Reply) (w : World) (n : ℕ) → guest_at w.guests n ≡ None → guest_at (after_balance reply w).guests n ≡ None
balance_none (Targets ts) w n e = targets_none ts w.guests n e
balance_none _ w n e = e

abbrev at_number : ℕ → World → Option Guest
at_number n w = guest_at w.guests n

-- a guest that an event brings: plugged in at its number, with as many pages as were asked for
pub record Comes (event : Event) (reply : Reply) (n : ℕ) (g : Guest) : Type 0 where
  pub size : GuestSize
  pub event_is : event ≡ Plug size
  pub reply_is : reply ≡ Plugged n
  pub pages : g.config.pages ≡ size.pages
  pub some : 0 < size.pages
  pub roomy : IsRoomy g

plugged : (size : GuestSize) (paced : Bool) (reply : Reply) (n : ℕ) (g : Guest) → is_config size.pages size.queue_size size.processors ≡ true
    → reply ≡ Plugged n → g ≡ fresh (record { pages = size.pages; queue_size = size.queue_size; processors = size.processors; paced = paced }) 0
    → Comes (Plug size) reply n g
plugged size paced reply n g good said e = record {
  size = size;
  event_is = refl;
  reply_is = said;
  pages = ap (λ (x : Guest). x.config.pages) e;
  some = config_some size.pages size.queue_size size.processors good;
  roomy = subst IsRoomy (sym e) (config_roomy size.pages size.queue_size size.processors good);
}

brings : (event : Event) (w : World) (reply : Reply) (v : World) (n : ℕ) (g : Guest) → first_refusal (world_causes w event) ≡ None
    → Happens event w reply v → guest_at w.guests n ≡ None → guest_at v.guests n ≡ Some g → Comes event reply n g
brings (Plug size) w reply v n g passed s none there = plugs w.spares s where
  plugs : (spares : List Bool) → PlugsIn size spares w reply v → Comes (Plug size) reply n g
  plugs [] s = absurd s
  plugs (paced ∷ rest) (inl same) = absurd (no_guest (guest_at v.guests n) g (ap (at_number n) same.1 ∙ none) there)
  plugs (paced ∷ rest) (inr p) = elim (cases_eq p.0 n) [
    | inl here ↦
        let config : Config = record { pages = size.pages; queue_size = size.queue_size; processors = size.processors; paced = paced } in
        let is : guest_at v.guests n ≡ Some (fresh config 0) = ap (at_number n) p.4 ∙ (ap (guest_at (with_guest p.0 (Some (fresh config 0)) w.guests)) (sym here) ∙ with_guest-same p.0 (Some (fresh config 0)) w.guests) in
        plugged size paced reply n g (not-false _ (not_refused (world_causes w (Plug size)) passed).0) (p.3 ∙ ap Plugged here)
        (sym (same_some (fresh config 0) g (sym is ∙ there)))
    | inr other ↦ absurd (no_guest (guest_at v.guests n) g (ap (at_number n) p.4 ∙ (with_guest-other p.0 n _ w.guests other ∙ none)) there)
  ]
brings (Unplug m) w reply v n g passed s none there =
    absurd (no_guest (guest_at v.guests n) g (ap (at_number n) s.1 ∙ put_none m n None w.guests none (λ _. refl)) there)
brings (Restart m) w reply v n g passed s none there = elim (match_cases (guest_at w.guests m) ⊥ (λ old. (reply ≡ Done) × (v ≡ put_guest m (Some (after_restart old)) w)) s) [
  | inl no_one ↦ absurd no_one.1
  | inr old ↦ absurd (no_guest (guest_at v.guests n) g (ap (at_number n) old.2.1 ∙ put_none m n _ w.guests none
      (λ same. absurd (no_guest (guest_at w.guests m) old.0 (ap (guest_at w.guests) same ∙ none) old.1))) there)
]
brings (OnGuest m call) w reply v n g passed s none there = elim (match_cases (guest_at w.guests m) ⊥ (λ old. Calls m old w call reply v) s) [
  | inl no_one ↦ absurd no_one.1
  | inr old ↦ absurd (no_guest (guest_at v.guests n) g (ap (at_number n) old.2.4 ∙ put_none m n _ w.guests none
      (λ same. absurd (no_guest (guest_at w.guests m) old.0 (ap (guest_at w.guests) same ∙ none) old.1))) there)
]
brings (OnQuery m query) w reply v n g passed s none there = absurd (no_guest (guest_at v.guests n) g (ap (at_number n) s.1 ∙ none) there)
brings (Balance floor) w reply v n g passed s none there = absurd (no_guest (guest_at v.guests n) g (ap (at_number n) s.1 ∙ balance_none reply w n none) there)
brings CountFrames w reply v n g passed s none there = absurd (no_guest (guest_at v.guests n) g (ap (at_number n) s.1 ∙ none) there)

pub comes : (event : Event) (w : World) (reply : Reply) (v : World) (n : ℕ) (g : Guest) → WorldStep w event reply v
    → guest_at w.guests n ≡ None → guest_at v.guests n ≡ Some g → Comes event reply n g
comes event w reply v n g s none there = elim (match_cases (first_refusal (world_causes w event)) (Happens event w reply v) (λ refusal. (reply ≡ Refused refusal) × (v ≡ w)) s) [
  | inl p ↦ brings event w reply v n g p.0 p.1 none there
  | inr r ↦ absurd (no_guest (guest_at v.guests n) g (ap (at_number n) r.2.1 ∙ none) there)
]

roomy_step : (w : World) (event : Event) (reply : Reply) (v : World) → AllRoomy w → WorldStep w event reply v → AllRoomy v
roomy_step w event reply v h s n g there = by (guest_at w.guests n) refl where
  by : (o : Option Guest) → guest_at w.guests n ≡ o → IsRoomy g
  by None e = (comes event w reply v n g s e there).roomy
  by (Some old) e = let same = configurations_kept w event reply v n old g (record { step = s; before = e; after = there }) in
      subst (λ (c : Config). reserved_pages c.queue_size ≤ c.pages) (sym same) (h n old e)

made_roomy : (frames : ℕ) (spares : List Bool) → AllRoomy (made frames spares)
made_roomy frames spares n g at = absurd cc

roomy_at : (h : History) → Positions h → AllRoomy h.first → (i : ℕ) (w : World) → slice_get (states h) i ≡ Some w → AllRoomy w
roomy_at h p first zero w e = let same : h.first ≡ w = cc in subst AllRoomy same first
roomy_at h p first (suc i) w e =
    let was = before (states h) i w e in
    let next : suc i ≡ i + 1 = omega arith in
    let s = p.step i was.0 w was.1 (subst (λ (k : ℕ). slice_get (states h) k ≡ Some w) next e) in
    roomy_step was.0 s.event s.reply w (roomy_at h p first i was.0 was.1) s.step

pub roomy_in_runs : (frames : ℕ) (spares : List Bool) (h : History) → Run frames spares h → (i : ℕ) (w : World) → slice_get (states h) i ≡ Some w → AllRoomy w
roomy_in_runs frames spares h r = roomy_at h (positions frames spares h r) (subst AllRoomy (sym r.0) (made_roomy frames spares))
