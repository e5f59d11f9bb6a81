-- Worked facts of what guests may hold, and of loans that are theirs or not.
use Rattle.std.proofs.Common.{◌≡◌, ◌==◌, inl, inr, Bool, ℕ, zero, suc, ◌≤◌, true, false, List, [], ◌∷◌, ◌++◌, replicate, refl, ap, subst, sym, ◌∙◌, arith}
use Rattle.std.specs.Prelude.{None, Option, Some}
use Rattle.vb_model.specs.declared.calls.Call.TheVariants.{Reset, Scribble, Write}
use Rattle.vb_model.specs.Guest.{Config, Guest, backed_count, fresh}
use Rattle.vb_model.specs.World.{World}
use Rattle.vb_host.specs.declared.event.Event.TheVariants.{Arrives, Budget, Defers, Grants, Hears, Joins, Overdraws, Prefers, TakesOver, Targets, Uncounts, Wants}
use Rattle.vb_host.specs.declared.report.Report.{Report}
use Rattle.vb_host.specs.declared.seat.Seat.{Seat}
use Rattle.vb_host.specs.Seats.{newcomer}
use Rattle.vb_room.specs.Room.{HoldsNoneBallooned, all_may_hold, is_scribble, may_hold}
use Rattle.vb_room.specs.Tie.{HaveSeats, IsLent, IsSeatOf, LowersNone, ReclaimsNone, counted, reclaimed_at}

abbrev pub config : Config
config = record { pages = 64; queue_size = 8; processors = 1; paced = true }

-- pages 20 to 22 are ballooned, and the guest has agreed to all features
abbrev pub some : Guest
some = record (fresh config 0) {
  status = 15;
  features = 0x100000027;
  ballooned = replicate 20 false ++ (true ∷ true ∷ true ∷ replicate 41 false);
}

-- it hasn't agreed to tell the host
abbrev pub untold : Guest
untold = record some { features = 0x100000026 }

abbrev pub rogue : Guest
rogue = record some { rogue = true }

-- ---- what a guest may hold, and how many of its pages count as ballooned

counts : counted some ∷ counted untold ∷ counted rogue ∷ counted (fresh config 0) ∷ [] ≡ 3 ∷ 0 ∷ 0 ∷ 0 ∷ []
counts = refl

holds : may_hold some ∷ may_hold untold ∷ may_hold rogue ∷ may_hold (fresh config 0) ∷ [] ≡ 61 ∷ 64 ∷ 64 ∷ 64 ∷ []
holds = refl

abbrev pub world : List (Option Guest) → World
world guests = record { frames = 200; guests = guests; spares = []; vacated = None }

all_hold : (all_may_hold (world (Some some ∷ None ∷ Some rogue ∷ [])) ≡ 125)
    × (all_may_hold (world (None ∷ [])) ≡ 0)
all_hold = (refl, refl)

scribbles : is_scribble (Scribble 0 0 []) ∷ is_scribble (Write 0 0 []) ∷ is_scribble Reset ∷ [] ≡ true ∷ false ∷ false ∷ []
scribbles = refl

-- a ballooned page with a frame
not_bare : HoldsNoneBallooned (record some { frames = replicate 20 None ++ (Some 7 ∷ replicate 43 None) }) → ⊥
not_bare h = let e = h 20 refl in absurd cc

-- the frame of another page
bare : HoldsNoneBallooned (record some { ballooned = true ∷ []; frames = None ∷ Some 7 ∷ [] })
bare zero e = refl
bare (suc page) e = absurd cc

-- ---- seats

-- with this many pages in its balloon, all of which are reclaimed
abbrev pub seat : ℕ → ℕ → Seat
seat pages ballooned = record (newcomer pages) { ballooned = ballooned; granted = 1 }

abbrev pub silent : Report
silent = record {
  ballooned = 0;
  target = 0;
  read_target = 0;
  held = 0;
  line = 0;
  outside = 0;
  target_number = 0;
  deflates = 0;
  removed = 0;
}

-- guest 1 has a limit
abbrev pub second : ℕ → Bool
second n = n == 1

-- the least target counts as well as the balloon
reclaims : reclaimed_at (seat 9 2 ∷ record (seat 64 20) { least_target = 7 } ∷ []) 1 ∷ reclaimed_at (seat 9 2 ∷ []) 0 ∷ reclaimed_at [] 0 ∷ [] ≡ 7 ∷ 2 ∷ 0 ∷ []
reclaims = refl

-- fewer pages may be reclaimed than the device has in the balloon; of a guest with a limit any that
-- are, where it holds no more frames than are lent to it
abbrev pub framed : Guest
framed = record rogue { frames = Some 3 ∷ Some 4 ∷ replicate 62 None }

is_seat : IsSeatOf false (seat 64 3) some × IsSeatOf false (seat 64 0) some × IsSeatOf false (seat 64 0) rogue × IsSeatOf true (seat 64 62) framed
is_seat = (
  record { pages = refl; reclaimed = λ e. omega arith; held = λ e. absurd cc },
  record { pages = refl; reclaimed = λ e. omega arith; held = λ e. absurd cc },
  record { pages = refl; reclaimed = λ e. omega arith; held = λ e. absurd cc },
  record { pages = refl; reclaimed = λ e. absurd cc; held = λ e. omega arith },
)

-- not more, none of a rogue guest or of one that doesn't tell the host, not another number of pages,
-- and no frame above the limit
is_no_seat : (IsSeatOf false (seat 64 4) some → ⊥) × (IsSeatOf false (seat 64 1) rogue → ⊥)
    × (IsSeatOf false (seat 64 1) untold → ⊥) × (IsSeatOf false (seat 63 3) some → ⊥) × (IsSeatOf true (seat 64 63) framed → ⊥)
is_no_seat = (
  λ l. let e : 4 ≤ 3 = l.reclaimed refl in absurd (omega arith),
  λ l. let e : 1 ≤ 0 = l.reclaimed refl in absurd (omega arith),
  λ l. let e : 1 ≤ 0 = l.reclaimed refl in absurd (omega arith),
  λ l. let e : 63 ≡ 64 = l.pages in absurd (omega (arith, e)),
  λ l. let e : 2 ≤ 1 = l.held refl in absurd (omega arith),
)

have : HaveSeats second (seat 64 3 ∷ seat 64 62 ∷ []) (world (Some some ∷ Some framed ∷ []))
have zero g e = (seat 64 3, refl, let same : some ≡ g = cc in subst (λ (x : Guest). IsSeatOf false (seat 64 3) x) same is_seat.0)
have (suc zero) g e = (seat 64 62, refl, let same : framed ≡ g = cc in subst (λ (x : Guest). IsSeatOf true (seat 64 62) x) same is_seat.3)
have (suc (suc n)) g e = absurd cc

-- at another number, or none at all
have_not : (HaveSeats second (seat 9 9 ∷ seat 64 3 ∷ []) (world (Some some ∷ [])) → ⊥)
    × (HaveSeats second [] (world (Some some ∷ [])) → ⊥)
have_not = (
  λ h. let x = h 0 some refl in
      let same : seat 9 9 ≡ x.0 = let f = x.1 in cc in
      let e : 9 ≡ 64 = ap (λ (s : Seat). s.pages) same ∙ x.2.pages in absurd (omega (arith, e)),
  λ h. let x = h 0 some refl in let f = x.1 in absurd cc,
)

-- a guest without a limit may call anything but a scribble, and one of which nothing is reclaimed all
is_lent : IsLent second (seat 64 3 ∷ []) 0 Reset × IsLent second (seat 64 0 ∷ []) 0 (Scribble 0 0 [])
    × IsLent second (seat 9 0 ∷ seat 64 0 ∷ []) 1 (Scribble 0 0 [])
is_lent = (inl (refl, refl), inr refl, inr refl)

is_not_lent : (IsLent second (seat 64 3 ∷ []) 0 (Scribble 0 0 []) → ⊥) × (IsLent second (seat 9 0 ∷ seat 64 3 ∷ []) 1 Reset → ⊥)
is_not_lent = (
  λ l. elim l [ inl a ↦ absurd (let e = a.1 in cc) | inr e ↦ absurd (omega (arith, e)) ],
  λ l. elim l [ inl a ↦ absurd (let e = a.0 in cc) | inr e ↦ absurd (omega (arith, e)) ],
)

-- ---- what leaves seats as they are

lowers_none : LowersNone (world (Some rogue ∷ Some some ∷ [])) (world (Some some ∷ None ∷ []))
lowers_none zero g e = let same : some ≡ g = cc in (
  rogue,
  refl,
  subst (λ (x : Guest). counted rogue ≤ counted x) same (omega arith),
  subst (λ (x : Guest). backed_count x ≤ backed_count rogue) same (omega arith),
)
lowers_none (suc zero) g e = absurd cc
lowers_none (suc (suc n)) g e = absurd cc

-- a guest that is new, one whose balloon counts no longer, and one that holds more frames
lowers : (LowersNone (world []) (world (Some some ∷ [])) → ⊥)
    × (LowersNone (world (Some some ∷ [])) (world (Some rogue ∷ [])) → ⊥)
    × (LowersNone (world (Some rogue ∷ [])) (world (Some framed ∷ [])) → ⊥)
lowers = (
  λ l. let x = l 0 some refl in let f = x.1 in absurd cc,
  λ l. let x = l 0 rogue refl in
      let same : some ≡ x.0 = let f = x.1 in cc in
      let less : 3 ≤ 0 = subst (λ (g : Guest). counted g ≤ counted rogue) (sym same) x.2 in absurd (omega arith),
  λ l. let x = l 0 framed refl in
      let same : rogue ≡ x.0 = let f = x.1 in cc in
      let less : 2 ≤ 0 = subst (λ (g : Guest). backed_count framed ≤ backed_count g) (sym same) x.3 in absurd (omega arith),
)

reclaims_none : ReclaimsNone (Grants 0) × ReclaimsNone (Overdraws 0) × ReclaimsNone (Wants 0 1) × ReclaimsNone (Targets 0)
    × ReclaimsNone (Uncounts 0) × ReclaimsNone (Budget 1) × ReclaimsNone (Prefers 0) × ReclaimsNone (Defers 0)
reclaims_none = (tt, tt, tt, tt, tt, tt, tt, tt)

reclaims_some : (ReclaimsNone (Hears 0 silent) → ⊥) × (ReclaimsNone (Arrives 0 1 0) → ⊥) × (ReclaimsNone (Joins 0 1) → ⊥)
    × (ReclaimsNone (TakesOver 0 1 silent) → ⊥)
reclaims_some = (λ k. k, λ k. k, λ k. k, λ k. k)
