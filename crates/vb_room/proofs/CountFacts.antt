-- Worked facts of what each call puts into a balloon and takes out of it.
use Rattle.std.proofs.Common.{◌≡◌, ℕ, ◌≤◌, true, List, [], ◌∷◌, map, replicate, refl, arith}
use Rattle.vb_model.specs.declared.calls.Call.{Call}
use Rattle.vb_model.specs.declared.calls.Call.TheVariants.{Alloc, Ask, Deflate, Finish, Free, Inflate, Init, Oom, Read, Reap, Report, Reset, Scribble, Serve, SetTarget, Stats, Sweep, Take, Work, Write}
use Rattle.vb_model.specs.Device.{settled}
use Rattle.vb_model.specs.Guest.{Guest}
use Rattle.vb_model.specs.Life.{after_reset}
use Rattle.vb_virtio.specs.Queues.{Deflating, Inflating, Reporting_free, Request}
use Rattle.vb_model.specs.Requests.{no_requests}
use Rattle.vb_room.proofs.TieFacts.{rogue, some, untold}
use Rattle.vb_room.specs.Counts.{CountsSo, pages_of_request, puts_in, takes_out}
use Rattle.vb_room.specs.Tie.{counted}

abbrev request : List ℕ → Request
request pages = record { head = 0; pages = pages; visited = 0 }

-- taken are an inflate of four pages and a report of one, and a deflate of a page before one of two
abbrev pub busy : Guest → Guest
busy g = record g {
  inflate = record no_requests { taken = request (30 ∷ 31 ∷ 32 ∷ 33 ∷ []) ∷ [] };
  deflate = record no_requests { taken = request (22 ∷ []) ∷ request (20 ∷ 21 ∷ []) ∷ [] };
  report = record no_requests { taken = request (40 ∷ []) ∷ [] };
}

-- at an index, and at one that isn't there
requests : map (pages_of_request (busy some).deflate.taken) (0 ∷ 1 ∷ 2 ∷ []) ≡ 1 ∷ 2 ∷ 0 ∷ []
requests = refl

-- ---- each call

abbrev finishes : List Call
finishes = Finish 0 0 ∷ Finish 0 1 ∷ Finish 1 0 ∷ Finish 1 1 ∷ Finish 1 2 ∷ Finish 2 0 ∷ Finish 4 0 ∷ []

finishes_put : map (λ call. puts_in call (busy some)) finishes ≡ 4 ∷ 0 ∷ 0 ∷ 0 ∷ 0 ∷ 0 ∷ 0 ∷ []
finishes_put = refl

finishes_take : map (λ call. takes_out call (busy some)) finishes ≡ 0 ∷ 0 ∷ 1 ∷ 2 ∷ 0 ∷ 0 ∷ 0 ∷ []
finishes_take = refl

abbrev others : List Call
others = Init 0 ∷ Alloc 0 0 ∷ Free 0 0 0 ∷ Read 0 0 0 ∷ Write 0 0 [] ∷ Inflate 4 ∷ Deflate 4 ∷ Oom 4
    ∷ Report 0 ∷ Stats ∷ Reap 0 ∷ Reap 1 ∷ Take 0 ∷ Take 1 ∷ Work ∷ Sweep 20 ∷ Ask ∷ SetTarget 9 ∷ []

-- of a queue all requests are served, and of the statistics' none puts in or takes out
serves : (map (λ call. puts_in call (busy some)) (Serve 0 ∷ Serve 1 ∷ Serve 2 ∷ Serve 4 ∷ []) ≡ 4 ∷ 0 ∷ 0 ∷ 0 ∷ [])
    × (map (λ call. takes_out call (busy some)) (Serve 0 ∷ Serve 1 ∷ Serve 2 ∷ Serve 4 ∷ []) ≡ 0 ∷ 3 ∷ 0 ∷ 0 ∷ [])
serves = (refl, refl)

others_put_nothing : map (λ call. puts_in call (busy some)) (Reset ∷ Scribble 0 0 [] ∷ others) ≡ replicate 20 0
others_put_nothing = refl

others_take_nothing : map (λ call. takes_out call (busy some)) others ≡ replicate 18 0
others_take_nothing = refl

-- all that count: of a rogue guest, or one that doesn't tell the host, none
all_are_taken : map (λ g. takes_out Reset g) (some ∷ rogue ∷ untold ∷ []) ≡ 3 ∷ 0 ∷ 0 ∷ []
all_are_taken = refl

scribbles_take : map (λ g. takes_out (Scribble 0 0 []) g) (some ∷ rogue ∷ untold ∷ []) ≡ 3 ∷ 0 ∷ 0 ∷ []
scribbles_take = refl

-- ---- that is what comes of them

abbrev after_finish : List ℕ → List ℕ → Guest → List ℕ
after_finish set cleared g = counted (settled Inflating set g) ∷ counted (settled Deflating cleared g)
    ∷ counted (settled Reporting_free set g) ∷ counted (after_reset g) ∷ []

finished : after_finish (30 ∷ 31 ∷ 32 ∷ 33 ∷ []) (20 ∷ 21 ∷ []) (busy some) ≡ 7 ∷ 1 ∷ 3 ∷ 0 ∷ []
finished = refl

-- ---- the bounds: with a page more or less than the table says

abbrev with_count : ℕ → Guest
with_count k = record some { ballooned = replicate k true }

counts : CountsSo (Finish 1 1) (busy some) (with_count 1) × CountsSo (Finish 0 0) (busy some) (with_count 7)
    × CountsSo Work some (with_count 3) × CountsSo Reset some (with_count 0)
counts = (
  record { least = omega arith; most = omega arith },
  record { least = omega arith; most = omega arith },
  record { least = omega arith; most = omega arith },
  record { least = omega arith; most = omega arith },
)

counts_not : (CountsSo (Finish 1 1) (busy some) (with_count 0) → ⊥) × (CountsSo (Finish 0 0) (busy some) (with_count 8) → ⊥)
    × (CountsSo Work some (with_count 2) → ⊥) × (CountsSo Work some (with_count 4) → ⊥)
    × (CountsSo Reset some (with_count 4) → ⊥)
counts_not = (
  λ c. let e : 3 ≤ 2 = c.least in absurd (omega arith),
  λ c. let e : 8 ≤ 7 = c.most in absurd (omega arith),
  λ c. let e : 3 ≤ 2 = c.least in absurd (omega arith),
  λ c. let e : 4 ≤ 3 = c.most in absurd (omega arith),
  λ c. let e : 4 ≤ 3 = c.most in absurd (omega arith),
)
