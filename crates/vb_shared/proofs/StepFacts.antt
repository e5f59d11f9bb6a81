-- Worked facts of what a step tells its pass, and of how seats are cut.
use Rattle.{std.proofs.Common.{◌≡◌, ℕ, true}, vb_shared.specs.Rule.{holding, view_of, pass, count}}
use Rattle.std.proofs.Common.{false, List, [], ◌∷◌, map, length, refl, sym, ap, arith, Some, None}
use Rattle.{atomic_table.specs.{Seated.TableId, Table.{Me, Step, step}}, vb_ram.specs.Pages.Page}
use Rattle.vb_device.specs.declared.claimed.Claimed.TheVariants.{Gave, AskHost, NoFrame, NoMemory}
use Rattle.vb_shared.specs.Steps.{held_of, added, removed, claimed, returned, Apart, met, no_view}
use Rattle.vb_shared.specs.{Passes.{IsTable, new_passes, Within, IsPass}, declared.rule.{Size.Size, View.View}}
use Rattle.vb_shared.specs.{Leases.AnswersAs, Steps.{first_of, rest_of, new_holdings, opening_view}}
use mathlib.Core.Option.{none}

-- ---- what a seat's first pass holds, with a frame more and without one

held : map held_of (pass 4 (9 ∷ 3 ∷ []) ∷ view_of (holding 4 [] ∷ holding 5 (2 ∷ []) ∷ [])
    ∷ no_view ∷ []) ≡ (9 ∷ 3 ∷ []) ∷ [] ∷ [] ∷ []
held = refl

one_more : added (holding 4 (3 ∷ []) ∷ holding 5 (2 ∷ []) ∷ []) 9
    ≡ holding 4 (9 ∷ 3 ∷ []) ∷ holding 5 (2 ∷ []) ∷ []
one_more = refl

one_less : removed (holding 4 (9 ∷ 3 ∷ []) ∷ holding 5 (9 ∷ []) ∷ []) 9
    ≡ holding 4 (3 ∷ []) ∷ holding 5 (9 ∷ []) ∷ []
one_less = refl

-- ---- a try at frame 9

abbrev Seat : Type 0
Seat = Me (Unit {0}) View

abbrev seat : List ℕ → Seat
seat numbers = (pass 4 numbers, [])

abbrev trying : Step (Unit {0})
trying = step 0 9 0 5 none

won : claimed trying (seat (3 ∷ [])) 0 (seat (9 ∷ 3 ∷ []))
won = (refl, refl, λ e. refl)

lost : claimed trying (seat (3 ∷ [])) 7 (seat (3 ∷ []))
lost = (refl, refl, λ e. absurd (let wrong : false ≡ true = e in cc))

won_and_not_held : claimed trying (seat []) 0 (seat []) → ⊥
won_and_not_held did = omega (arith, ap (λ v. length (held_of v)) did.1)

lost_and_held : claimed trying (seat []) 7 (seat (9 ∷ [])) → ⊥
lost_and_held did = omega (arith, ap (λ v. length (held_of v)) did.1)

won_again : claimed trying (seat (9 ∷ [])) 0 (seat (9 ∷ 9 ∷ [])) → ⊥
won_again did = let wrong : true ≡ false = did.2 refl in cc

-- ---- a put-back of it

abbrev returning : Step (Unit {0})
returning = step 0 9 5 0 none

its_own : returned returning (seat (9 ∷ 3 ∷ [])) 5 (seat (3 ∷ []))
its_own = (refl, refl, refl)

anothers : returned returning (seat (3 ∷ [])) 7 (seat (3 ∷ []))
anothers = (refl, refl, refl)

free_already : returned returning (seat (3 ∷ [])) 0 (seat (3 ∷ []))
free_already = (refl, refl, refl)

still_held : returned returning (seat (9 ∷ [])) 5 (seat (9 ∷ [])) → ⊥
still_held did = omega (arith, ap (λ v. length (held_of v)) did.1)

held_and_anothers : returned returning (seat (9 ∷ [])) 7 (seat []) → ⊥
held_and_anothers did = let wrong : false ≡ true = did.2 in cc

its_own_and_not_held : returned returning (seat []) 5 (seat []) → ⊥
its_own_and_not_held did = let wrong : true ≡ false = did.2 in cc

-- ---- a look at two passes

apart : met (step 0 0 0 0 none) (view_of (holding 4 [] ∷ holding 5 (2 ∷ []) ∷ []), []) 0
    (view_of (holding 4 [] ∷ holding 5 (2 ∷ []) ∷ []), [])
apart = (refl, λ f mine. absurd (let wrong : false ≡ true = mine in cc))

not_apart : Apart (holding 4 (3 ∷ 2 ∷ []) ∷ holding 5 (2 ∷ []) ∷ []) → ⊥
not_apart is = let wrong : true ≡ false = is 2 refl in cc

a_look_changes_nothing : met (step 0 0 0 0 none) (seat []) 0 (seat (3 ∷ [])) → ⊥
a_look_changes_nothing did = omega (arith, ap (λ (m : Seat). length (held_of m.0)) did.0)

-- ---- cuts, and the passes at the start

cut : first_of (holding 4 [] ∷ holding 5 [] ∷ holding 6 [] ∷ []) ≡ holding 4 [] ∷ []
cut = refl

left : rest_of (holding 4 [] ∷ holding 5 [] ∷ holding 6 [] ∷ []) ≡ holding 5 [] ∷ holding 6 [] ∷ []
left = refl

next_tags : new_holdings 4 2 ≡ holding 4 [] ∷ holding 5 [] ∷ []
next_tags = refl

at_the_start : opening_view 3 ≡ view_of (holding 0 [] ∷ holding 1 [] ∷ holding 2 [] ∷ [])
at_the_start = refl

-- ---- passes as contracts see them

handed_out : (table : _) → new_passes table 4 2
    ≡ record { table = table; tag = 4; held = []; found = None }
    ∷ record { table = table; tag = 5; held = []; found = None } ∷ []
handed_out table = refl

none_handed_out : (table : _) → new_passes table 4 0 ≡ []
none_handed_out table = refl

from_the_first_to_the_last : Within 2 8 (7 ∷ 2 ∷ [])
from_the_first_to_the_last = (omega arith, omega arith, (omega arith, omega arith, tt))

past_the_last : Within 2 8 (2 ∷ 8 ∷ []) → ⊥
past_the_last is = omega (arith, is.2.1)

before_the_first : Within 2 8 (2 ∷ 1 ∷ []) → ⊥
before_the_first is = omega (arith, is.2.0)

seat_of_a_pass : IsPass 8 4 (seat (7 ∷ []))
seat_of_a_pass = (refl, (omega arith, omega arith, tt))

seat_of_the_first_frame : IsPass 1 4 (seat (0 ∷ []))
seat_of_the_first_frame = (refl, (omega arith, omega arith, tt))

seat_of_another : IsPass 8 5 (seat []) → ⊥
seat_of_another is = omega (arith, ap (λ (m : Seat). count 4 m.0.holdings) (sym is.0))

seat_of_two : IsPass 8 4 (view_of (holding 4 [] ∷ holding 5 [] ∷ []), []) → ⊥
seat_of_two is = omega (arith, ap (λ (m : Seat). length m.0.holdings) is.0)

frame_past_the_table : IsPass 7 4 (seat (7 ∷ [])) → ⊥
frame_past_the_table is = omega (arith, is.1.1)

-- ---- what a device answers by what its pass found

none_free : AnswersAs None NoFrame
none_free = tt

memory_refused_for_none : AnswersAs None NoMemory → ⊥
memory_refused_for_none is = is

no_frame_for_one : AnswersAs (Some 9) NoFrame → ⊥
no_frame_for_one is = is

no_memory_for_it : AnswersAs (Some 9) NoMemory
no_memory_for_it = tt

that_one : (frame : Page) → frame.number ≡ 9 → AnswersAs (Some 9) (Gave frame)
that_one frame is = is

another_one : (frame : Page) → frame.number ≡ 8 → AnswersAs (Some 9) (Gave frame) → ⊥
another_one frame is given = grind arith

one_though_none : (frame : Page) → AnswersAs None (Gave frame) → ⊥
one_though_none frame is = is

never_the_host : (number : ℕ) → AnswersAs (Some number) AskHost → ⊥
never_the_host number is = is

never_the_host_for_none : AnswersAs None AskHost → ⊥
never_the_host_for_none is = is

-- ---- a table and a seat at it

abbrev table : ℕ → TableId
table frames = record
    { words = frames; slots = 2; views_name = 0; atom = 0; block = 0; offset = 0; slot_names = [] }

abbrev sizes : ℕ → Size
sizes frames = record { frames = frames; guests = 2 }

seat_at_it : IsTable (table 1) (sizes 1) (table 1) 1
seat_at_it = (refl, refl, refl, omega arith)

-- a seat at another table, other words than frames, another size, and a table without a frame
no_seat_at_it : (IsTable (record (table 3) { atom = 1 }) (sizes 3) (table 3) 3 → ⊥)
    × (IsTable (table 4) (sizes 3) (table 4) 3 → ⊥) × (IsTable (table 3) (sizes 4) (table 3) 3 → ⊥)
    × (IsTable (table 0) (sizes 0) (table 0) 0 → ⊥)
no_seat_at_it = (
  λ is. omega (arith, ap (λ (t : TableId). t.atom) is.0),
  λ is. omega (arith, is.1),
  λ is. omega (arith, is.2),
  λ is. omega (arith, is.3),
)
