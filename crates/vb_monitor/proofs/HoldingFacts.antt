-- A deflate that is held, worked out: its pages are told, nothing is written, and the outcome says so;
-- and what isn't done with it.
use Rattle.std.proofs.Common.{◌≡◌, refl, ap, arith, ℕ, true, false, List, [], ◌∷◌, Option, Some, None, Ok}
use Rattle.vb_core.specs.declared.{device.Device.Device, settings.Settings.Settings}
use Rattle.vb_core.specs.declared.kinds.Kind.TheVariants.{Inflate, Deflate}
use Rattle.vb_monitor.specs.declared.outcome.{HeldChain.HeldChain, Outcome.Outcome, Tally.Tally}
use Rattle.vb_monitor.specs.Accesses.{Access, ReadWord, Acquire, Release, TellPages}
use Rattle.vb_monitor.specs.{Giving.{Then, AfterName, spent, with_held}, Holding.HoldsTold}
use Rattle.vb_monitor.specs.Machine.{whole}
use Rattle.vb_monitor.proofs.Samples.{Same, two, at, settings, ready, tally, page_5, one_page}
use Rattle.vb_monitor.proofs.Samples.{discard, id, used_length, used_index}

-- the device holds deflates
abbrev pub holding : Settings
holding = record settings { holds_deflates = 1 }

abbrev holder : Device
holder = record ready { settings = holding }

abbrev then_tally : ℕ → Tally
then_tally pages = with_held 3 pages (spent one_page tally)

abbrev ended : Tally → Outcome
ended t = record { tally = t; why = None; interrupt = false; more = false }

abbrev none : Then
none = λ d t log. ⊥

abbrev told : Access
told = TellPages Deflate (page_5 ∷ []) one_page

abbrev Names : Device → Device → Outcome → List Access → Type 0
Names d after o log =
    AfterName (whole two Deflate after o) none d tally 3 (page_5 ∷ []) (Ok one_page) log

-- its page is told, and then the notice ends: one page of chain 3 is held
held : Names holder holder (ended (then_tally 1)) (told ∷ [])
held = record { rest = []; asks = refl; goes_on = record { nothing = refl; device = refl; outcome = refl } }

-- it isn't given back at once, nor discarded, nor is another chain looked for
given_at_once : (d : Device) (o : Outcome) →
    Names holder d o (told ∷ id ∷ used_length ∷ Release ∷ used_index ∷ []) → ⊥
given_at_once d o h = further h.rest h.asks h.goes_on.nothing where
  further : (rest : List Access) →
      told ∷ id ∷ used_length ∷ Release ∷ used_index ∷ [] ≡ told ∷ rest → rest ≡ [] → ⊥
  further [] e f = absurd cc
  further (x ∷ xs) e f = absurd cc

another_one : (d : Device) (o : Outcome) → Names holder d o (told ∷ Acquire ∷ []) → ⊥
another_one d o h = further h.rest h.asks h.goes_on.nothing where
  further : (rest : List Access) → told ∷ Acquire ∷ [] ≡ told ∷ rest → rest ≡ [] → ⊥
  further [] e f = absurd cc
  further (x ∷ xs) e f = absurd cc

untold : (d : Device) (o : Outcome) → Names holder d o [] → ⊥
untold d o h = let e = h.asks in absurd cc

-- another chain, other pages, or none
abbrev head_held : Outcome → ℕ
head_held o = number o.tally.held where
  number : Option HeldChain → ℕ
  number None = 70000
  number (Some x) = x.head

abbrev pages_held : Outcome → ℕ
pages_held o = number o.tally.held where
  number : Option HeldChain → ℕ
  number None = 70000
  number (Some x) = x.pages

another_chain : (d : Device) → Names holder d (ended (with_held 4 1 (spent one_page tally))) (told ∷ []) → ⊥
another_chain d h = let e : Same 4 3 = ap head_held h.goes_on.outcome in omega arith

two_pages : (d : Device) → Names holder d (ended (then_tally 2)) (told ∷ []) → ⊥
two_pages d h = let e : Same 2 1 = ap pages_held h.goes_on.outcome in omega arith

no_chain : (d : Device) → Names holder d (ended (spent one_page tally)) (told ∷ []) → ⊥
no_chain d h = let e : Same 70000 1 = ap pages_held h.goes_on.outcome in omega arith

-- ---- what each access of such a notice may be

-- nothing is written, and nothing discarded
written : (o : Outcome) (b : List Access) → HoldsTold Deflate holding o b id → ⊥
written o b h = let e : true ≡ false = h in absurd cc

index_written : (o : Outcome) (b : List Access) → HoldsTold Deflate holding o b used_index → ⊥
index_written o b h = let e : true ≡ false = h in absurd cc

discarded : (o : Outcome) (b : List Access) → HoldsTold Deflate holding o b discard → ⊥
discarded o b h = let e : true ≡ false = h in absurd cc

-- as it may be where chains aren't held
written_of_others : (o : Outcome) (b : List Access) → HoldsTold Deflate settings o b id
written_of_others o b = refl

discarded_of_others : (o : Outcome) (b : List Access) → HoldsTold Inflate holding o b discard
discarded_of_others o b = refl

-- pages are told of no chain that wasn't read
of_no_chain : (o : Outcome) → HoldsTold Deflate holding o [] told → ⊥
of_no_chain o h = h refl

of_half_a_chain : (o : Outcome) → HoldsTold Deflate holding o (ReadWord (at 0x104) 3 ∷ Acquire ∷ []) told → ⊥
of_half_a_chain o h = h refl
