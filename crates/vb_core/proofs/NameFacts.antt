-- What is answered to numbers by their bytes, worked out, and the device after it.
use Rattle.std.proofs.Common.{◌≡◌, ◌∙◌, ℕ, true, false, List, [], ◌∷◌, refl, ap, arith, Result, Ok, Err}
use Rattle.std.proofs.Common.{Some, None, Option, take, subst, map}
use Rattle.vb_chain.specs.declared.fault.ChainFault.{ChainFault, TheVariants.{BadPage, ReservedPage}}
use Rattle.vb_request.specs.Request.{numbers_of}
use Rattle.vb_core.specs.Name.{NamesRuns, NamesNumbersBy, name_denial, after_numbers}
use Rattle.vb_core.specs.{Name.told, Devices.{placed, needing_reset}, Runs.Tell}
use Rattle.vb_core.specs.declared.kinds.Kind.TheVariants.{Inflate, Deflate, Statistics, Report}
use Rattle.vb_core.specs.declared.{device.Device.Device, runs.Run.Run, name.Named.Named}
use Rattle.vb_core.specs.declared.device.Denial.{Denial, TheVariants.{NoQueue, BadArgument, Broken}}
use Rattle.vb_core.proofs.Examples.{ready, settings}

-- a device of 64 pages, of which 16 are reserved, and one that skips wrong numbers
abbrev device : Device
device = record ready { deflate = placed 0 256 512 8 }

abbrev skipping : Device
skipping = record device { settings = record settings { skips_bad_pages = 1 } }

-- the first page that isn't reserved, and the last one; the last that is reserved, and one past the end
abbrev right : List ℕ
right = 16 ∷ 63 ∷ []

abbrev wrong : List ℕ
wrong = 16 ∷ 15 ∷ 63 ∷ 64 ∷ []

abbrev right_bytes : List ℕ
right_bytes = 16 ∷ 0 ∷ 0 ∷ 0 ∷ 63 ∷ 0 ∷ 0 ∷ 0 ∷ []

abbrev wrong_bytes : List ℕ
wrong_bytes = 16 ∷ 0 ∷ 0 ∷ 0 ∷ 15 ∷ 0 ∷ 0 ∷ 0 ∷ 63 ∷ 0 ∷ 0 ∷ 0 ∷ 64 ∷ 0 ∷ 0 ∷ 0 ∷ []

-- the bytes are these numbers
they_are : (numbers_of right_bytes ≡ right) × (numbers_of wrong_bytes ≡ wrong)
unfolding numbers_of
they_are = (refl, refl)

-- ---- what is answered to numbers

-- a count of pages and one of skipped numbers
abbrev Counts : {E : Type 0} → ℕ → ℕ → Result Named E → Type 0
Counts pages skipped (Ok named) = (named.pages ≡ pages) × (named.skipped ≡ skipped)
Counts pages skipped (Err why) = ⊥

abbrev Tells : {E : Type 0} → List Run → List ℕ → Result Named E → Type 0
Tells runs ns (Ok named) = Tell (take named.runs runs) ns
Tells runs ns (Err why) = ⊥

-- two pages are named, none is skipped, and nothing is taken
two_named : (runs : List Run) (answer : Result Named ChainFault)
    → NamesRuns false 16 64 right runs answer
    → Counts 2 0 (told answer) × Tells runs right (told answer)
    × (after_numbers answer device ≡ device)
two_named runs (Ok named) n = let is = n.named refl in
    ((is.count, omega (arith, is.others)), is.told_so, refl)
two_named runs (Err fault) n = absurd (n.named refl)

-- where wrong numbers are skipped, two are
two_skipped : (runs : List Run) (answer : Result Named ChainFault)
    → NamesRuns true 16 64 wrong runs answer
    → Counts 2 2 (told answer) × Tells runs right (told answer)
    × (after_numbers answer skipping ≡ skipping)
two_skipped runs (Ok named) n = let is = n.named refl in
    ((is.count, omega (arith, is.others)), is.told_so, refl)
two_skipped runs (Err fault) n = absurd (n.named refl)

-- the first wrong one is told, and no fault where none is wrong
one_wrong : (runs : List Run) (answer : Result Named ChainFault)
    → (NamesRuns false 16 64 wrong runs answer → answer ≡ Err ReservedPage)
    × (NamesRuns false 16 64 (64 ∷ 15 ∷ []) runs answer → answer ≡ Err BadPage)
    × (NamesRuns false 16 64 right runs (Err BadPage) → ⊥)
    × (NamesRuns true 16 64 wrong runs (Err ReservedPage) → ⊥)
one_wrong runs answer = (
  λ n. n.fault ReservedPage refl,
  λ n. n.fault BadPage refl,
  λ n. n.named refl,
  λ n. n.named refl,
)

-- ---- what is answered to bytes

-- nothing is denied to them
open_names : (name_denial Deflate 8 2 device ≡ None) × (name_denial Deflate 16 4 device ≡ None)
    × (name_denial Deflate 16 4 skipping ≡ None)
unfolding lib.Count.ones
open_names = (refl, refl, refl)

-- bytes of any length up to a full room, of whole numbers, are named where the runs have room
abbrev denials : List ℕ → ℕ → List (Option Denial)
denials lengths room = map (λ n. name_denial Deflate n room device) lengths

lengths : denials (0 ∷ 4 ∷ 1020 ∷ 1024 ∷ []) 256 ≡ None ∷ None ∷ None ∷ None ∷ []
unfolding lib.Count.ones
lengths = refl

wrong_lengths : denials (1 ∷ 3 ∷ 1022 ∷ 1028 ∷ []) 300
    ≡ Some BadArgument ∷ Some BadArgument ∷ Some BadArgument ∷ Some BadArgument ∷ []
wrong_lengths = refl

little_room : (denials (4 ∷ []) 0 ≡ Some BadArgument ∷ [])
    × (denials (1024 ∷ []) 255 ≡ Some BadArgument ∷ [])
little_room = (refl, refl)

other_queues : (name_denial Statistics 0 0 device ≡ Some NoQueue)
    × (name_denial Report 4 1 device ≡ Some NoQueue)
other_queues = (refl, refl)

-- of no bytes no page is named
names_none : (runs : List Run) (d : Device) (result : Result Named Denial)
    → NamesNumbersBy Deflate [] 0 runs device d result
    → Counts 0 0 result × Tells runs [] result × (d ≡ device)
unfolding lib.Count.ones numbers_of
names_none runs d result n = let r = n.names refl in none runs d result r.0 r.1 r.2 r.3 where
  none : (runs : List Run) (d : Device) (result : Result Named Denial)
      (answer : Result Named ChainFault) → NamesRuns false 16 64 [] runs answer →
      result ≡ told answer → d ≡ after_numbers answer device →
      Counts 0 0 result × Tells runs [] result × (d ≡ device)
  none runs d result (Ok named) is e same =
      let so = is.named refl in
      rw e ((so.count, omega (arith, so.others)), so.told_so, same)
  none runs d result (Err fault) is e same = absurd (is.named refl)

-- so it is with the bytes of right numbers, and with those of wrong ones
names_two : (runs : List Run) (d : Device) (result : Result Named Denial)
    → NamesNumbersBy Deflate right_bytes 2 runs device d result
    → Counts 2 0 result × Tells runs right result
    × (d ≡ device)
names_two runs d result n = let r = n.names open_names.0 in
    let is = two_named runs r.0 (subst (λ ns. NamesRuns false 16 64 ns runs r.0) they_are.0 r.1) in
    rw (r.2) (is.0, is.1, r.3 ∙ is.2)

names_skipping : (runs : List Run) (d : Device) (result : Result Named Denial)
    → NamesNumbersBy Deflate wrong_bytes 4 runs skipping d result
    → Counts 2 2 result × Tells runs right result
    × (d ≡ skipping)
names_skipping runs d result n = let r = n.names open_names.2 in
    let is = two_skipped runs r.0 (subst (λ ns. NamesRuns true 16 64 ns runs r.0) they_are.1 r.1) in
    rw (r.2) (is.0, is.1, r.3 ∙ is.2)

-- a wrong number breaks the device
names_breaks : (runs : List Run) (d : Device) (result : Result Named Denial)
    → NamesNumbersBy Deflate wrong_bytes 4 runs device d result
    → (result ≡ Err (Broken ReservedPage)) × (d ≡ needing_reset device)
names_breaks runs d result n = let r = n.names open_names.1 in
    let e : r.0 ≡ Err ReservedPage =
    (one_wrong runs r.0).0 (subst (λ ns. NamesRuns false 16 64 ns runs r.0) they_are.1 r.1) in
    (r.2 ∙ ap (λ a. told a) e, r.3 ∙ ap (λ a. after_numbers a device) e)
