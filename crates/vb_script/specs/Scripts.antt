-- What the values of a reader of scripts say.
use Rattle.std.specs.Prelude.{ℕ, List, ⊤}
use Rattle.vb_script.specs.declared.lines.LineFault.{LineFault}
use Rattle.vb_script.specs.declared.lines.LineFault.TheVariants.{Bad, Memory as NoMemory}
use Rattle.vb_script.specs.declared.texts.Lines.{Lines}
use Rattle.vb_script.specs.declared.reading.ScriptFault.{ScriptFault}
use Rattle.vb_script.specs.declared.reading.ScriptFault.TheVariants.{BadLine, Memory}
use Rattle.vb_script.specs.declared.script.Script.{Script}
use Rattle.vb_script.specs.declared.script.Reading.{Reading}
use Rattle.vb_script.specs.Texts.{Said, Told, lines_of, numbered}

abbrev pub said_by : Script → Said
said_by script =
    record { frames = script.frames; spares = script.spares.items; events = script.events.items }

abbrev pub told_by : {Item : Type 0} → Reading Item → Told Item
told_by reading =
    record {
      frames = reading.frames;
      spares = reading.spares.items;
      events = reading.items.items;
    }

-- the lines that are left
abbrev pub lines_left : Lines → List (ℕ × List ℕ)
lines_left lines = numbered lines.passed (lines_of lines.rest.now)

abbrev pub IfBadLine : ScriptFault → (ℕ → Type 0) → Type 0
IfBadLine (BadLine number) P = P number
IfBadLine Memory P = ⊤

-- a bad line is named by its number
abbrev pub fault_at : ℕ → LineFault → ScriptFault
fault_at number Bad = BadLine number
fault_at number NoMemory = Memory
