-- What the exports for the set of ballooned pages answer: what the core answers, as plain data.
use Rattle.std.specs.Prelude.{◌≡◌, ℕ, List, Option, Some, None, Result, Ok, Err}
use Rattle.vb_core.specs.declared.kinds.Kind.{Kind}
use Rattle.vb_core.specs.declared.device.Denial.{Denial}
use Rattle.vb_core.specs.declared.device.Denial.TheVariants.{NoQueue}
use Rattle.vb_core.specs.declared.runs.Run.{Run}
use Rattle.vb_core.specs.Ballooned.{MarksBy}
use Rattle.vb_c.specs.declared.marks.VbMarked.{VbMarked}
use Rattle.vb_monitor.specs.Codes.{code_of}

abbrev pub marked_of : Result ℕ Denial → VbMarked
marked_of (Ok pages) = record { code = 0; pages = pages }
marked_of (Err why) = record { code = code_of why; pages = 0 }

-- Where the code is of no kind, there is no queue, and nothing is changed.
abbrev pub MarksFor : Option Kind → List Run → List ℕ → List ℕ → VbMarked → Type 0
MarksFor None runs old new result = (result ≡ marked_of (Err NoQueue)) × (new ≡ old)
MarksFor (Some kind) runs old new result =
    (answer : Result ℕ Denial) × MarksBy kind runs old new answer × (result ≡ marked_of answer)
