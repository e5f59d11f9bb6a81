-- The pages that a request names, by its bytes (VIRTIO 1.1, 5.5.6).
use Rattle.std.specs.Prelude.{◌≡◌, ℕ, ◌+◌, ◌/◌, ◌%◌, ◌==◌, ◌≤◌, Bool, true, false, ◌&&◌, nat_le}
use Rattle.std.specs.Prelude.{List, length, take, filter, if◌then◌else◌}
use Rattle.std.specs.Prelude.{Option, Some, None, is_none, Result, Ok}
use Rattle.std.specs.Prelude.{Err, IsOkAnd}
use Rattle.vb_virtio.specs.declared.layout.TheConstants.{REQUEST_BUFFER_SIZE}
use Rattle.vb_chain.specs.declared.fault.ChainFault.{ChainFault}
use Rattle.vb_request.specs.Request.{numbers_of, number_fault, first_number_fault}
use Rattle.vb_core.specs.declared.kinds.Kind.{Kind}
use Rattle.vb_core.specs.declared.kinds.Kind.TheVariants.{Inflate, Deflate, Statistics, Hint}
use Rattle.vb_core.specs.declared.kinds.Kind.TheVariants.{Report}
use Rattle.vb_core.specs.declared.runs.Run.{Run}
use Rattle.vb_core.specs.declared.name.Named.{Named}
use Rattle.vb_core.specs.declared.device.Denial.{Denial}
use Rattle.vb_core.specs.declared.device.Denial.TheVariants.{Broken}
use Rattle.vb_core.specs.declared.device.Device.{Device}
use Rattle.vb_core.specs.Settings.{memory_pages, skips}
use Rattle.vb_core.specs.Runs.{Tell}
use Rattle.vb_core.specs.Devices.{needing_reset, with_one_taken, call_denial}

-- A fault as the device tells it.
abbrev pub told : {T : Type 0} → Result T ChainFault → Result T Denial
told (Err fault) = Err (Broken fault)
told (Ok x) = Ok x

-- The kind's chains are requests, which name pages by numbers.
abbrev pub is_request : Kind → Bool
is_request Inflate = true
is_request Deflate = true
is_request Statistics = false
is_request Hint = false
is_request Report = false

-- The numbers that may be named, where memory has n pages, of which the first are reserved.
abbrev pub right_numbers : ℕ → ℕ → List ℕ → List ℕ
right_numbers reserved count ns = filter (λ n. is_none (number_fault reserved count n)) ns

-- What is wrong with the first wrong number, where such numbers aren't skipped.
abbrev pub fault_in : Bool → ℕ → ℕ → List ℕ → Option ChainFault
fault_in skipping reserved count ns =
    if skipping then None else first_number_fault reserved count ns

-- The runs in the front of a list tell these pages in their order; and of n numbers the others were
-- skipped.
pub record AreNamed (pages : List ℕ) (all : ℕ) (runs : List Run) (named : Named) : Type 0 where
  pub told_so : Tell (take named.runs runs) pages
  pub few : named.runs ≤ length pages
  pub count : named.pages ≡ length pages
  pub others : named.skipped + length pages ≡ all

-- What is answered to these numbers.
pub record NamesRuns (skipping : Bool) (reserved count : ℕ) (ns : List ℕ) (runs : List Run)
    (result : Result Named ChainFault) : Type 0 where
  pub fault : (f : ChainFault) → fault_in skipping reserved count ns ≡ Some f → result ≡ Err f
  pub named : fault_in skipping reserved count ns ≡ None →
      IsOkAnd result (AreNamed (right_numbers reserved count ns) (length ns) runs)

-- A length that numbers may have which are named at once: a request's, or of a part of one.
abbrev pub is_length_of_numbers : ℕ → Bool
is_length_of_numbers len = nat_le len REQUEST_BUFFER_SIZE && (len % 4 == 0)

-- What numbers of n bytes are refused for, with room for this many runs.
abbrev pub name_denial : Kind → ℕ → ℕ → Device → Option Denial
name_denial kind len room d =
    call_denial kind (is_request kind) (is_length_of_numbers len && nat_le (len / 4) room) d

-- The device once numbers were named: as it was, or broken.
abbrev pub after_numbers : Result Named ChainFault → Device → Device
after_numbers (Ok named) d = d
after_numbers (Err fault) d = needing_reset d

-- The device once a whole chain was named: its entry is taken, or the device is broken.
abbrev pub after_chain : Kind → Result Named ChainFault → Device → Device
after_chain kind (Ok named) d = with_one_taken kind d
after_chain kind (Err fault) d = needing_reset d

-- Numbers of these bytes, whatever they are.
pub record NamesNumbersBy (kind : Kind) (bytes : List ℕ) (room : ℕ) (runs : List Run)
    (d1 d2 : Device) (result : Result Named Denial) : Type 0 where
  pub denied : (why : Denial) → name_denial kind (length bytes) room d1 ≡ Some why →
      (result ≡ Err why) × (d2 ≡ d1)
  pub names : name_denial kind (length bytes) room d1 ≡ None →
      (answer : Result Named ChainFault) ×
      NamesRuns (skips d1.settings) d1.settings.reserved_pages (memory_pages d1.settings)
      (numbers_of bytes) runs answer ×
      (result ≡ told answer) × (d2 ≡ after_numbers answer d1)
