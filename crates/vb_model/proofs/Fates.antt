-- What one event does to a guest: others, targets, configurations, frames that go back.
use Rattle.std.proofs.Common.{List, ap, false, inl, inr, refl, replicate, subst, sym, true, ℕ, ◌∙◌}
use Rattle.std.{proofs.{Common.{◌≡◌, ◌≢◌, ◌⊎◌}, lemmas.Bool.eq-eqb}, specs.Prelude.{None, Option}}
use Rattle.std.specs.Prelude.{Some}
use Rattle.vb_model.proofs.Alone.{New_target, Nothing_happens, Own, Own_call, scribbled_rogue}
use Rattle.vb_model.proofs.{Cases.by_kind, Changes.{Effect, Has_called, Is_aimed, Is_gone, Is_new}}
use Rattle.vb_model.proofs.Changes.{Is_plugged, Same, effect, no_frames, same_some, touches}
use Rattle.vb_model.{proofs.Unchanged.{IsScribble, MayBeRogue, step_keeps}, specs.Guest.Guest}
use Rattle.vb_model.specs.{Guest.{frame_of, fresh}, Life.after_restart, Rogue.GuestStep}
use Rattle.vb_model.specs.{Rogue.{IsRogueAfter, target_after}, StepLaws.ConfigurationsAreKept}
use Rattle.vb_model.specs.StepLaws.{Follows, FramesGoBack, OthersAreUntouched, RestartedAreHonest}
use Rattle.vb_model.specs.StepLaws.{RoguesAreMade, RoguesStay, ScribblesMakeRogues, TargetsAreKept}
use Rattle.vb_model.specs.{StepLaws.TargetsAreSet, World.{World, guest_at}}
use Rattle.vb_model.specs.declared.calls.Call.{Call, TheVariants.{Scribble, SetTarget}}
use Rattle.vb_model.specs.declared.calls.{Claim.Claim, Event.{Event, TheVariants.Balance}}
use Rattle.vb_model.specs.declared.calls.Event.TheVariants.{Guest as OnGuest, Restart, Unplug}
use Rattle.vb_model.specs.declared.replies.Reply.{Reply, TheVariants.Done}

-- ---- what becomes of a guest

-- it goes its own way, or begins a new life
data Fate (w : World) (event : Event) (reply : Reply) (n : ℕ) (old new : Guest) : Type 0 where
  Goes_on : Own n w event reply old new → Fate w event reply n old new
  Begins_anew : event ≡ Restart n → new ≡ after_restart old → Fate w event reply n old new

aimed : (g new : Guest) (target : ℕ) → new ≡ record g { target = target }
    → new ≡ record g { target = new.target }
aimed g new target e =
    e ∙ ap (λ (t : ℕ). record g { target = t }) (sym (ap (λ (x : Guest). x.target) e))

fate : (w : World) (event : Event) (reply : Reply) (v : World) (n : ℕ) (old new : Guest)
    → Follows w event reply v n old new → Fate w event reply n old new
fate w event reply v n old new f = by (effect w event reply v n f.step) where
  same : (x : Guest) → guest_at v.guests n ≡ Some x → x ≡ new
  same x there = same_some x new (sym there ∙ f.after)

  was : (x : Guest) → guest_at w.guests n ≡ Some x → x ≡ old
  was x here = same_some x old (sym here ∙ f.before)

  by : Effect w event reply n (guest_at w.guests n) (guest_at v.guests n)
      → Fate w event reply n old new
  by (Same other e) =
      Goes_on (Nothing_happens (other old f.before) (sym (same old (e ∙ f.before))))
  by (Is_aimed floor targets x target is said here there) =
      Goes_on (New_target floor targets is said (aimed old new target (sym (same _ there)
      ∙ ap (λ (y : Guest). record y { target = target }) (was x here))))
  by (Has_called x y call claims is here gives step there) = Goes_on (Own_call call claims is gives
      (subst (λ (z : Guest). GuestStep old call claims reply z) (same y there)
      (subst (λ (z : Guest). GuestStep z call claims reply y) (was x here) step)))
  by (Is_new x is here there) =
      Begins_anew is (sym (same _ there) ∙ ap (λ (y : Guest). after_restart y) (was x here))
  by (Is_gone is there) = absurd (let q : None ≡ Some new = sym there ∙ f.after in cc)
  by (Is_plugged config none there) = absurd (let q : None ≡ Some old = sym none ∙ f.before in cc)

-- ---- others, targets, configurations

-- a call, a restart or an unplugging of guest n is made for it
not_touched : (n : ℕ) (event other : Event) (reply : Reply) → touches n event reply ≡ false
    → touches n other reply ≡ true → event ≢ other
not_touched n event other reply a b e = let bad : true ≡ false =
    sym b ∙ (ap (λ (x : Event). touches n x reply) (sym e) ∙ a) in cc

abbrev some_guest : Guest → Option Guest
some_guest x = Some x

pub others_untouched : OthersAreUntouched
others_untouched w event reply v n g s here others = by (effect w event reply v n s) where
  by : Effect w event reply n (guest_at w.guests n) (guest_at v.guests n)
      → (guest_at v.guests n ≡ Some g) ⊎ ((floor target : ℕ) × (event ≡ Balance floor)
      × (guest_at v.guests n ≡ Some (record g { target = target })))
  by (Same other e) = inl (e ∙ here)
  by (Is_aimed floor targets x target is said before there) = inr (
    floor,
    target,
    is,
    there
        ∙ ap (λ (y : Guest). some_guest (record y { target = target }))
        (same_some x g (sym before ∙ here)),
  )
  by (Has_called x y call claims is before gives step there) = absurd (others.no_call call is)
  by (Is_new x is before there) = absurd (others.no_restart is)
  by (Is_gone is there) = absurd (others.no_unplug is)
  by (Is_plugged config none there) = absurd (let q : None ≡ Some g = sym none ∙ here in cc)

target_stays : (call : Call) (target : ℕ) → ((t : ℕ) → call ≢ SetTarget t)
    → target_after call target ≡ target
target_stays (SetTarget t) target h = absurd (h t refl)
target_stays call target h = refl

pub targets_kept : TargetsAreKept
targets_kept w event reply v n old new f not_set no_balance = by (fate w event reply v n old new f)
  where
    by : Fate w event reply n old new → new.target ≡ old.target
    by (Goes_on (Nothing_happens other e)) = ap (λ (y : Guest). y.target) e
    by (Goes_on (Own_call call claims e gave step)) =
        (step_keeps old call claims reply new step).aimed
        ∙ target_stays call old.target (λ t q. not_set t (e ∙ ap (OnGuest n) q))
    by (Goes_on (New_target floor targets e answered q)) = absurd (no_balance floor e)
    by (Begins_anew e is) = ap (λ (y : Guest). y.target) is

-- a guest's own call is made for it
untouched : (n : ℕ) (call : Call) (reply : Reply) → touches n (OnGuest n call) reply ≡ false → ⊥
untouched n call reply other =
    not_touched n (OnGuest n call) (OnGuest n call) reply other (eq-eqb n n refl) refl

pub targets_set : TargetsAreSet
targets_set w reply v n target old new f = by (fate w _ reply v n old new f) where
  by : Fate w (OnGuest n (SetTarget target)) reply n old new → new.target ≡ target
  by (Goes_on (Nothing_happens other e)) = absurd (untouched n (SetTarget target) reply other)
  by (Goes_on (Own_call call claims e gave step)) = let c : SetTarget target ≡ call = cc in
      (step_keeps old call claims reply new step).aimed
      ∙ ap (λ (y : Call). target_after y old.target) (sym c)
  by (Goes_on (New_target floor targets e answered q)) = absurd cc
  by (Begins_anew e is) = absurd cc

pub configurations_kept : ConfigurationsAreKept
configurations_kept w event reply v n old new f = by (fate w event reply v n old new f) where
  by : Fate w event reply n old new → new.config ≡ old.config
  by (Goes_on (Nothing_happens other e)) = ap (λ (y : Guest). y.config) e
  by (Goes_on (Own_call call claims e gave step)) =
      (step_keeps old call claims reply new step).config
  by (Goes_on (New_target floor targets e answered q)) = ap (λ (y : Guest). y.config) q
  by (Begins_anew e is) = ap (λ (y : Guest). y.config) is

-- ---- frames go back

pub no_frames_left : FramesGoBack
no_frames_left w event reply v n s ends page frame b = by (effect w event reply v n s) where
  touched : touches n event reply ≡ false → ⊥
  touched other = elim ends [
    | inl e ↦ not_touched n event (Restart n) reply other (eq-eqb n n refl) e
    | inr e ↦ not_touched n event (Unplug n) reply other (eq-eqb n n refl) e
  ]

  fresh_frames : (x : Guest) → x.frames ≡ replicate x.config.pages None
      → guest_at v.guests n ≡ Some x → ⊥
  fresh_frames x none there = no_frames x.config.pages page frame
      (ap (λ (fs : List (Option ℕ)). frame_of fs page) (sym none)
      ∙ (ap (λ (y : Guest). frame_of y.frames page) (same_some x b.guest (sym there ∙ b.is_there))
      ∙ b.has))

  by : Effect w event reply n (guest_at w.guests n) (guest_at v.guests n) → ⊥
  by (Same other e) = touched (other b.guest (sym e ∙ b.is_there))
  by (Is_aimed floor targets x target is said here there) = elim ends [
    | inl e ↦ (let q : Balance floor ≡ Restart n = sym is ∙ e in cc)
    | inr e ↦ (let q : Balance floor ≡ Unplug n = sym is ∙ e in cc)
  ]
  by (Has_called x y call claims is here gives step there) = elim ends [
    | inl e ↦ (let q : OnGuest n call ≡ Restart n = sym is ∙ e in cc)
    | inr e ↦ (let q : OnGuest n call ≡ Unplug n = sym is ∙ e in cc)
  ]
  by (Is_new x is here there) = fresh_frames (fresh x.config x.target) refl there
  by (Is_gone is there) = let q : None ≡ Some b.guest = sym there ∙ b.is_there in cc
  by (Is_plugged config none there) = fresh_frames (fresh config 0) refl there

pub restarted_honest : RestartedAreHonest
restarted_honest w reply v n old new f = by (fate w _ reply v n old new f) where
  by : Fate w (Restart n) reply n old new → new.rogue ≡ false
  by (Goes_on (Nothing_happens other e)) =
      absurd (not_touched n (Restart n) (Restart n) reply other (eq-eqb n n refl) refl)
  by (Goes_on (Own_call call claims e gave step)) = absurd cc
  by (Goes_on (New_target floor targets e answered q)) = absurd cc
  by (Begins_anew e is) = ap (λ (y : Guest). y.rogue) is

-- ---- rogue guests

not_by_others : (g new : Guest) (call : Call) → (IsScribble call → ⊥) → g.rogue ≡ false
    → (new.rogue ≡ g.rogue) ⊎ (MayBeRogue g call × IsRogueAfter g new) → new.rogue ≡ false
not_by_others g new call other honest (inl e) = e ∙ honest
not_by_others g new call other honest (inr (inl rogue, r)) = absurd cc
not_by_others g new call other honest (inr (inr scribble, r)) = absurd (other scribble)

pub rogues_made : RoguesAreMade
rogues_made w event reply v n old new f no_scribble honest = by (fate w event reply v n old new f)
  where
    by : Fate w event reply n old new → new.rogue ≡ false
    by (Goes_on (Nothing_happens other e)) = ap (λ (y : Guest). y.rogue) e ∙ honest
    by (Goes_on (Own_call call claims e gave step)) =
        not_by_others old new call (λ i. no_scribble i.0 i.1 i.2 (e ∙ ap (OnGuest n) i.3)) honest
        (step_keeps old call claims reply new step).rogue
    by (Goes_on (New_target floor targets e answered q)) = ap (λ (y : Guest). y.rogue) q ∙ honest
    by (Begins_anew e is) = ap (λ (y : Guest). y.rogue) is

stays_rogue : (g : Guest) (call : Call) (claims : List Claim) (reply : Reply) (new : Guest)
    → g.rogue ≡ true → GuestStep g call claims reply new → new.rogue ≡ true
stays_rogue g call claims reply new rogue s =
    by_kind g call claims reply new s (λ e r. r.stays.still) (λ e p. absurd cc)

pub rogues_stay : RoguesStay
rogues_stay w event reply v n old new f no_restart rogue =
    by (fate w event reply v n old new f)
  where
    by : Fate w event reply n old new → new.rogue ≡ true
    by (Goes_on (Nothing_happens other e)) = ap (λ (y : Guest). y.rogue) e ∙ rogue
    by (Goes_on (Own_call call claims e gave step)) = stays_rogue old call claims reply new rogue step
    by (Goes_on (New_target floor targets e answered q)) = ap (λ (y : Guest). y.rogue) q ∙ rogue
    by (Begins_anew e is) = absurd (no_restart e)

pub scribbles_make_rogues : ScribblesMakeRogues
scribbles_make_rogues w v n page offset bytes old new f honest =
    by (fate w _ Done v n old new f)
  where
    by : Fate w (OnGuest n (Scribble page offset bytes)) Done n old new → new.rogue ≡ true
    by (Goes_on (Nothing_happens other e)) =
        absurd (untouched n (Scribble page offset bytes) Done other)
    by (Goes_on (Own_call call claims e gave step)) =
        let c : Scribble page offset bytes ≡ call = cc in
        scribbled_rogue old page offset bytes claims new
        (subst (λ (y : Call). GuestStep old y claims Done new) (sym c) step)
    by (Goes_on (New_target floor targets e answered q)) = absurd cc
    by (Begins_anew e is) = absurd cc
