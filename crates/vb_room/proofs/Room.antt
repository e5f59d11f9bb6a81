-- Where all guests may hold no more frames than there are, no call lacks one.
use Rattle.std.proofs.Common.{Bool, List, [], arith, cond, false, inl, inr, length, refl, replicate, subst, suc, sym, true, zero, ℕ, ◌+◌, ◌-◌, ◌∙◌, ◌∷◌, ◌<◌, ◌≤◌, ◌≡◌, ◌⊎◌}
use Rattle.std.proofs.lemmas.Bool.{or_cases}
use Rattle.std.proofs.lemmas.Bool.Decides.{nat_tests}
use Rattle.std.proofs.lemmas.List.{length-replicate}
use Rattle.std.specs.List.{range_with_len}
use Rattle.std.specs.Prelude.{None, Option, Some, count_by, is_none, is_some, not, slice_get, ◌==◌, ◌&&◌}
use Rattle.vb_model.proofs.Cases.{by_kind, not_refused}
use Rattle.vb_model.proofs.Changes.{Change, New, Restarted, Retargeted, Stepped, Untouched, changes}
use Rattle.vb_model.proofs.Counts.{inside, inside-all}
use Rattle.vb_model.proofs.Courses.{IsFit}
use Rattle.vb_model.proofs.Kept.{used_page}
use Rattle.vb_model.proofs.Outcomes.{Begun, Cleared, Emptied, Outcome, Put, Retargeted as Turned_to, Shuffled, Turned, outcome}
use Rattle.vb_model.proofs.RogueSteps.{honest_unreserved}
use Rattle.vb_model.proofs.Runs.{Good, Positions, positions}
use Rattle.vb_virtio.proofs.Tables.{length-each_from}
use Rattle.vb_virtio.specs.Tests.{AllDistinct, is_in, one_if}
use Rattle.vb_virtio.specs.Layout.{is_start_page, reserved_pages, start_pages}
use Rattle.vb_model.proofs.Wanting.{needed_pages_bare, no_frame_exact}
use Rattle.vb_model.specs.Driver.{given, pages_needed}
use Rattle.vb_model.specs.Guest.{Guest, all_backed, backed, backed_count, ballooned_count, frame_of, is_ballooned, tells_host, unbacked}
use Rattle.vb_model.specs.Life.{lacking}
use Rattle.vb_model.specs.Refusals.{causes, is_outside, refusal_of}
use Rattle.vb_model.specs.Rogue.{pages_to_back}
use Rattle.vb_model.specs.Run.{History, Run, states}
use Rattle.vb_model.specs.Step.{bare_pages}
use Rattle.vb_model.specs.World.{World, guest_at, made}
use Rattle.vb_model.specs.declared.calls.Call.{Call, TheVariants.{Init, Scribble, Write}}
use Rattle.vb_model.specs.declared.calls.Claim.{Claim}
use Rattle.vb_model.specs.declared.calls.Event.{Event}
use Rattle.vb_model.specs.declared.replies.Reply.{Reply}
use Rattle.vb_room.proofs.Bare.{AllBare, in_runs, before, written_used}
use Rattle.vb_room.proofs.Roomy.{roomy_in_runs}
use Rattle.vb_room.proofs.Counting.{all_fit_more, apart, filter_distinct, filter_in, range_below, range_distinct, wanted_more}
use Rattle.vb_room.specs.Room.{NoneLacksAFrame, is_scribble, may_hold}

-- ---- each guest has as many places for frames as pages

abbrev pub IsFramed : Guest → Type 0
IsFramed g = length g.frames ≡ g.config.pages

abbrev pub AllFramed : World → Type 0
AllFramed w = (n : ℕ) (g : Guest) → guest_at w.guests n ≡ Some g → IsFramed g

length-backed : (p f : ℕ) (frames : List (Option ℕ)) → length (backed p f frames) ≡ length frames
length-backed p f frames = length-each_from 0 _ frames

length-all_backed : (pages new : List ℕ) (frames : List (Option ℕ)) → length (all_backed pages new frames) ≡ length frames
length-all_backed [] new frames = refl
length-all_backed (p ∷ ps) [] frames = refl
length-all_backed (p ∷ ps) (f ∷ new) frames = length-all_backed ps new (backed p f frames) ∙ length-backed p f frames

length-unbacked : (pages : List ℕ) (g : Guest) → length (unbacked pages g).frames ≡ length g.frames
length-unbacked pages g = length-each_from 0 _ g.frames

framed_after : (call : Call) (g : Guest) (claims : List Claim) (reply : Reply) (new : Guest) → IsFramed g → Outcome call g claims reply new → IsFramed new
framed_after call g claims reply new h (Shuffled e) = subst IsFramed (sym e) h
framed_after call g claims reply new h (Emptied pages why e) = subst IsFramed (sym e) (length-unbacked pages g ∙ h)
framed_after call g claims reply new h (Turned_to n is e) = subst IsFramed (sym e) h
framed_after call g claims reply new h (Cleared e) = subst IsFramed (sym e) h
framed_after call g claims reply new h (Begun features is passed e) = subst IsFramed (sym e) (length-all_backed (lacking g) (given claims) g.frames ∙ h)
framed_after call g claims reply new h (Put page offset bytes is passed are none w) = subst IsFramed (sym w.1) (length-all_backed (pages_needed page bytes g) (given claims) g.frames ∙ h)
framed_after call g claims reply new h (Turned page offset bytes is passed s) = s.state.sizes.framed

framed_change : (w : World) (event : Event) (reply : Reply) (m : ℕ) (new : Guest) → AllFramed w → Change w event reply m new → IsFramed new
framed_change w event reply m new h (Untouched at) = h m new at
framed_change w event reply m new h (Retargeted old target at e) = subst IsFramed (sym e) (h m old at)
framed_change w event reply m new h (Stepped old call claims on at gives step) = by_kind old call claims reply new step
    (λ rogue r. r.stays.sizes.framed)
    (λ honest s. framed_after call old claims reply new (h m old at) (outcome old call claims reply new s))
framed_change w event reply m new h (Restarted old on at e) = subst IsFramed (sym e) (length-replicate old.config.pages None)
framed_change w event reply m new h (New config none e) = subst IsFramed (sym e) (length-replicate config.pages None)

made_framed : (frames : ℕ) (spares : List Bool) → AllFramed (made frames spares)
made_framed frames spares n g at = absurd cc

framed_at : (h : History) → Positions h → AllFramed h.first → (i : ℕ) (w : World) → slice_get (states h) i ≡ Some w → AllFramed w
framed_at h p first zero w e = let same : h.first ≡ w = cc in subst AllFramed same first
framed_at h p first (suc i) w e =
    let was = before (states h) i w e in
    let next : suc i ≡ i + 1 = omega arith in
    let s = p.step i was.0 w was.1 (subst (λ (k : ℕ). slice_get (states h) k ≡ Some w) next e) in
    λ n g at. framed_change was.0 s.event s.reply n g (framed_at h p first i was.0 was.1) (changes was.0 s.event s.reply w n g s.step at)

-- ---- the pages that a call wants frames for

-- of which each is there, and none is named twice
pub record Wanted (g : Guest) (pages : List ℕ) : Type 0 where
  pub distinct : AllDistinct pages
  pub there : (page : ℕ) → is_in page pages ≡ true → page < g.config.pages

none_wanted : (g : Guest) → Wanted g []
none_wanted g = record { distinct = tt; there = λ page k. absurd cc }

one_wanted : (g : Guest) (page : ℕ) → page < g.config.pages → Wanted g (page ∷ [])
one_wanted g page l = record {
  distinct = (refl, tt);
  there = λ p k. elim (or_cases (page == p) false k) [
    | inl here ↦ grind (arith, nat_tests)
    | inr later ↦ absurd cc
  ];
}

needed_wanted : (g : Guest) (page : ℕ) (bytes : List ℕ) → page < g.config.pages → Wanted g (pages_needed page bytes g)
needed_wanted g page [] l = none_wanted g
needed_wanted g page (byte ∷ bytes) l = step (is_none (frame_of g.frames page)) where
  step : (v : Bool) → Wanted g (cond v (page ∷ []) [])
  step true = one_wanted g page l
  step false = none_wanted g

start_below : (q page : ℕ) → is_in page (start_pages q) ≡ true → page < reserved_pages q
start_below q page k = let below = range_below (reserved_pages q) 0 page (filter_in (is_start_page q) (range_with_len 0 (reserved_pages q)) page k) in omega (arith, below)

lacking_start : (g : Guest) (page : ℕ) → is_in page (lacking g) ≡ true → page < reserved_pages g.config.queue_size
lacking_start g page k = start_below g.config.queue_size page (filter_in (λ p. is_none (frame_of g.frames p)) (start_pages g.config.queue_size) page k)

lacking_wanted : (g : Guest) → reserved_pages g.config.queue_size ≤ g.config.pages → Wanted g (lacking g)
lacking_wanted g roomy = record {
  distinct = filter_distinct (λ p. is_none (frame_of g.frames p)) (start_pages g.config.queue_size)
      (filter_distinct (is_start_page g.config.queue_size) (range_with_len 0 (reserved_pages g.config.queue_size)) (range_distinct (reserved_pages g.config.queue_size) 0));
  there = λ page k. omega (arith, lacking_start g page k, roomy);
}

inside_of : (g : Guest) (page offset len : ℕ) → is_outside g page offset len ≡ false → page < g.config.pages
inside_of g page offset len e = grind (arith, nat_tests)

call_wanted : (call : Call) (g : Guest) → reserved_pages g.config.queue_size ≤ g.config.pages → refusal_of g call ≡ None → Wanted g (bare_pages call g)
call_wanted (Init features) g roomy e = lacking_wanted g roomy
call_wanted (Write page offset bytes) g roomy e = needed_wanted g page bytes (inside_of g page offset (length bytes) (not_refused (causes g (Write page offset bytes)) e).1.0)
call_wanted (Scribble page offset bytes) g roomy e = needed_wanted g page bytes (inside_of g page offset (length bytes) (not_refused (causes g (Scribble page offset bytes)) e).0)
call_wanted call g roomy e = none_wanted g

by_refusal : {A : Type 0} (o : Option A) (g : Guest) (pages : List ℕ) → (o ≡ None → Wanted g pages) → Wanted g (cond (is_none o) pages [])
by_refusal None g pages h = h refl
by_refusal (Some x) g pages h = none_wanted g

pub wanted : (call : Call) (g : Guest) → reserved_pages g.config.queue_size ≤ g.config.pages → Wanted g (pages_to_back call g)
wanted call g roomy = by_refusal (refusal_of g call) g (bare_pages call g) (call_wanted call g roomy)

-- none of them is ballooned, where the guest is honest and tells the host, and this is no scribble
needed_is : (page p : ℕ) (bytes : List ℕ) (g : Guest) → is_in page (pages_needed p bytes g) ≡ true → p ≡ page
needed_is page p bytes g k = grind arith

call_off : (call : Call) (g : Guest) (page : ℕ) → IsFit g → tells_host g ≡ true → is_scribble call ≡ false → refusal_of g call ≡ None
    → is_in page (bare_pages call g) ≡ true → is_ballooned g.ballooned page ≡ false
call_off (Init features) g page fit told quiet e k = honest_unreserved g fit.consistent fit.orderly page (lacking_start g page k)
call_off (Write p offset bytes) g page fit told quiet e k =
    subst (λ (q : ℕ). is_ballooned g.ballooned q ≡ false) (needed_is page p bytes g k) ((used_page g p fit.consistent (written_used g p offset bytes e)).flag told)
call_off (Scribble p offset bytes) g page fit told quiet e k = absurd cc
call_off call g page fit told quiet e k = absurd cc

off_by_refusal : {A : Type 0} (o : Option A) (pages : List ℕ) (page : ℕ) → is_in page (cond (is_none o) pages []) ≡ true → (o ≡ None) × (is_in page pages ≡ true)
off_by_refusal None pages page k = (refl, k)
off_by_refusal (Some x) pages page k = absurd cc

wanted_off : (call : Call) (g : Guest) (page : ℕ) → IsFit g → tells_host g ≡ true → is_scribble call ≡ false
    → is_in page (pages_to_back call g) ≡ true → is_ballooned g.ballooned page ≡ false
wanted_off call g page fit told quiet k = let by = off_by_refusal (refusal_of g call) (bare_pages call g) page k in
    call_off call g page fit told quiet by.0 by.1

-- ---- what a guest holds and wants is what it may hold

bare_one : (o : Option ℕ) (b : Bool) → (b ≡ true → o ≡ None) → one_if (is_some o) + one_if b ≤ 1
bare_one None b h = grind arith
bare_one (Some x) true h = absurd (let e = h refl in cc)
bare_one (Some x) false h = omega arith

three : (o : Option ℕ) (b c : Bool) → (b ≡ true → o ≡ None) → (c ≡ true → o ≡ None) → (c ≡ true → b ≡ false) → one_if (is_some o) + (one_if b + one_if c) ≤ 1
three None true true f g h = absurd (let e = h refl in cc)
three None true false f g h = omega arith
three None false c f g h = grind arith
three (Some x) true c f g h = absurd (let e = f refl in cc)
three (Some x) false true f g h = absurd (let e = g refl in cc)
three (Some x) false false f g h = omega arith

no_flags : (n : ℕ) → count_by (λ b. b) (replicate n false) ≡ 0
no_flags zero = refl
no_flags (suc n) = no_flags n

-- pages by their numbers
apart_pages : (frames : List (Option ℕ)) (flags : List Bool) (pages : List ℕ) → length flags ≡ length frames
    → ((i : ℕ) → i < length frames → one_if (is_some (frame_of frames i)) + (one_if (is_ballooned flags i) + one_if (is_in i pages)) ≤ 1)
    → count_by (λ frame. is_some frame) frames + (count_by (λ b. b) flags + inside 0 (length frames) pages) ≤ length frames
apart_pages frames flags pages e h = apart frames flags 0 pages e (λ i l.
    let same : i ≡ 0 + i = omega arith in
    subst (λ (p : ℕ). one_if (is_some (frame_of frames i)) + (one_if (is_ballooned flags i) + one_if (is_in p pages)) ≤ 1) same (h i l))

unflagged : (n i : ℕ) → is_ballooned (replicate n false) i ≡ false
unflagged zero i = refl
unflagged (suc n) zero = refl
unflagged (suc n) (suc i) = unflagged n i

false_true : (b : Bool) → b ≡ false → b ≡ true → ⊥
false_true b e f = cc

-- of any guest: all its pages
holds_any : (g : Guest) (pages : List ℕ) → IsFramed g → Wanted g pages → ((page : ℕ) → is_in page pages ≡ true → frame_of g.frames page ≡ None)
    → backed_count g + length pages ≤ g.config.pages
holds_any g pages framed w bare =
    let sum = apart_pages g.frames (replicate (length g.frames) false) pages (length-replicate (length g.frames) false)
    (λ i l. three (frame_of g.frames i) (is_ballooned (replicate (length g.frames) false) i) (is_in i pages)
    (λ e. absurd (false_true _ (unflagged (length g.frames) i) e)) (bare i) (λ _. unflagged (length g.frames) i)) in
    let all = inside-all (length g.frames) pages w.distinct (λ page k. omega (arith, w.there page k, framed)) in
    omega (arith, sum, all, framed, no_flags (length g.frames))

-- of an honest one that tells the host: those that aren't ballooned
holds_told : (g : Guest) (pages : List ℕ) → IsFramed g → IsFit g → ((page : ℕ) → is_ballooned g.ballooned page ≡ true → frame_of g.frames page ≡ None)
    → Wanted g pages → ((page : ℕ) → is_in page pages ≡ true → frame_of g.frames page ≡ None)
    → ((page : ℕ) → is_in page pages ≡ true → is_ballooned g.ballooned page ≡ false)
    → backed_count g + length pages ≤ g.config.pages - ballooned_count g
holds_told g pages framed fit off w bare flagless =
    let sum = apart_pages g.frames g.ballooned pages (fit.consistent.flagged ∙ sym framed)
    (λ i l. three (frame_of g.frames i) (is_ballooned g.ballooned i) (is_in i pages) (off i) (bare i) (flagless i)) in
    let all = inside-all (length g.frames) pages w.distinct (λ page k. omega (arith, w.there page k, framed)) in
    omega (arith, sum, all, framed)

-- either way
holds : (b : Bool) (g : Guest) (pages : List ℕ) → (not g.rogue && tells_host g) ≡ b
    → (b ≡ true → backed_count g + length pages ≤ g.config.pages - ballooned_count g)
    → backed_count g + length pages ≤ g.config.pages → backed_count g + length pages ≤ may_hold g
holds true g pages e told any = subst (λ (c : Bool). backed_count g + length pages ≤ cond c (g.config.pages - ballooned_count g) g.config.pages) (sym e) (told refl)
holds false g pages e told any = subst (λ (c : Bool). backed_count g + length pages ≤ cond c (g.config.pages - ballooned_count g) g.config.pages) (sym e) any

is_honest : (rogue told : Bool) → (not rogue && told) ≡ true → (rogue ≡ false) × (told ≡ true)
is_honest true told e = absurd cc
is_honest false told e = (refl, e)

-- what is known of a world
pub record Known (w : World) : Type 0 where
  pub good : Good w
  pub bare : AllBare w
  pub framed : AllFramed w

holds_own : (w : World) (n : ℕ) (g : Guest) (pages : List ℕ) → Known w → guest_at w.guests n ≡ Some g → Wanted g pages
    → ((page : ℕ) → is_in page pages ≡ true → frame_of g.frames page ≡ None)
    → (IsFit g → g.rogue ≡ false → tells_host g ≡ true → (page : ℕ) → is_in page pages ≡ true → is_ballooned g.ballooned page ≡ false)
    → backed_count g + length pages ≤ may_hold g
holds_own w n g pages known here are bare flagless = holds (not g.rogue && tells_host g) g pages refl
    (λ e. let both = is_honest g.rogue (tells_host g) e in
    let fit = known.good.fit n g here both.0 in
    holds_told g pages (known.framed n g here) fit ((known.bare n g here both.0).bare both.1) are bare (flagless fit both.0 both.1))
    (holds_any g pages (known.framed n g here) are bare)

pub holds_all : (w : World) → Known w → (m : ℕ) (x : Guest) → guest_at w.guests m ≡ Some x → backed_count x ≤ may_hold x
holds_all w known m x here = omega (arith, holds_own w m x [] known here (none_wanted x) (λ page k. absurd cc) (λ fit honest told page k. absurd cc))

quiet_call : (call : Call) (g : Guest) → (is_scribble call ≡ false) ⊎ (g.rogue ≡ true) → g.rogue ≡ false → is_scribble call ≡ false
quiet_call call g (inl e) honest = e
quiet_call call g (inr rogue) honest = absurd cc

pub known_at : (frames : ℕ) (spares : List Bool) (h : History) → Run frames spares h → (i : ℕ) (w : World) → slice_get (states h) i ≡ Some w → Known w
known_at frames spares h r i w at = record {
  good = (positions frames spares h r).good i w at;
  bare = in_runs frames spares h r i w at;
  framed = framed_at h (positions frames spares h r) (subst AllFramed (sym r.0) (made_framed frames spares)) i w at;
}

-- what a guest holds, with what a call wants: no more than it may hold, and no more than its pages
pub holds_call : (w : World) (n : ℕ) (g : Guest) (call : Call) → Known w → reserved_pages g.config.queue_size ≤ g.config.pages
    → guest_at w.guests n ≡ Some g → (is_scribble call ≡ false) ⊎ (g.rogue ≡ true)
    → backed_count g + length (pages_to_back call g) ≤ may_hold g
holds_call w n g call known roomy here which =
    holds_own w n g (pages_to_back call g) known here (wanted call g roomy) (λ page k. needed_pages_bare g call page k)
    (λ fit honest told page k. wanted_off call g page fit told (quiet_call call g which honest) k)

pub holds_any_at : (w : World) (n : ℕ) (g : Guest) (call : Call) → Known w → reserved_pages g.config.queue_size ≤ g.config.pages
    → guest_at w.guests n ≡ Some g → backed_count g + length (pages_to_back call g) ≤ g.config.pages
holds_any_at w n g call known roomy here =
    holds_any g (pages_to_back call g) (known.framed n g here) (wanted call g roomy) (λ page k. needed_pages_bare g call page k)

pub none_lacks : NoneLacksAFrame
none_lacks frames spares h r n i w v call g at here fits which step =
    let known = known_at frames spares h r i w at in
    let roomy = roomy_in_runs frames spares h r i w at n g here in
    let own = holds_call w n g call known roomy here which in
    let less = all_fit_more may_hold w.guests n g (length (pages_to_back call g)) here (holds_all w known) own in
    let more = wanted_more w (pages_to_back call g) (no_frame_exact w v n call g here step) in
    omega (arith, less, more, fits)
