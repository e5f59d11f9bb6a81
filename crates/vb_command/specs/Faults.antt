-- What each fault becomes.
use Rattle.std.specs.Prelude.{◌≡◌, ◌≢◌, ℕ, ⊤}
use Rattle.std.specs.IoError.{error_kind}
use Rattle.std.specs.declared.io.Error.{Error}
use Rattle.std.specs.declared.io.ErrorKind.TheVariants.{OutOfMemory}
use Rattle.vb_run.specs.declared.report.RunFault.{RunFault}
use Rattle.vb_run.specs.declared.report.RunFault.TheVariants.{Memory as RunMemory}
use Rattle.vb_run.specs.declared.report.RunFault.TheVariants.{BadPlan as RunBadPlan}
use Rattle.vb_run.specs.declared.report.RunFault.TheVariants.{Audit as RunAudit}
use Rattle.vb_script.specs.declared.reading.ScriptFault.{ScriptFault}
use Rattle.vb_script.specs.declared.reading.ScriptFault.TheVariants.{BadLine, Memory}
use Rattle.vb_command.specs.declared.fault.ProgramFault.{ProgramFault}
use Rattle.vb_command.specs.declared.fault.ProgramFault.TheVariants.{BadLine as BadLineOf, BadPlan}
use Rattle.vb_command.specs.declared.fault.ProgramFault.TheVariants.{Memory as NoMemory}
use Rattle.vb_command.specs.declared.fault.ProgramFault.TheVariants.{Audit, Stream}

abbrev pub fault_of : ScriptFault → ProgramFault
fault_of (BadLine number) = BadLineOf number
fault_of Memory = NoMemory

-- of guests on threads
abbrev pub fault_of_threads : RunFault → ProgramFault
fault_of_threads RunMemory = NoMemory
fault_of_threads RunBadPlan = BadPlan
fault_of_threads RunAudit = Audit

-- an allocation failure for what is read is no broken stream
abbrev pub IsStreamFault : Error → ProgramFault → Type 0
IsStreamFault fault (BadLineOf number) = ⊥
IsStreamFault fault BadPlan = ⊥
IsStreamFault fault NoMemory = error_kind fault ≡ OutOfMemory
IsStreamFault fault Audit = ⊥
IsStreamFault fault Stream = error_kind fault ≢ OutOfMemory

-- the exit status
abbrev pub status_of : ProgramFault → ℕ
status_of (BadLineOf number) = 1
status_of BadPlan = 1
status_of NoMemory = 3
status_of Stream = 4
status_of Audit = 5

-- a script of events has no plan and no audit, and if a line of it is bad, this is so of its number
abbrev pub IfBadLine : ProgramFault → (ℕ → Type 0) → Type 0
IfBadLine (BadLineOf number) P = P number
IfBadLine BadPlan P = ⊥
IfBadLine NoMemory P = ⊤
IfBadLine Audit P = ⊥
IfBadLine Stream P = ⊤

abbrev pub UnlessStream : ProgramFault → Type 0 → Type 0
UnlessStream (BadLineOf number) P = P
UnlessStream BadPlan P = P
UnlessStream NoMemory P = P
UnlessStream Audit P = P
UnlessStream Stream P = ⊤

-- where the fault shows that all of the text was read
abbrev pub IfRead : ProgramFault → Type 0 → Type 0
IfRead (BadLineOf number) P = P
IfRead BadPlan P = P
IfRead NoMemory P = ⊤
IfRead Audit P = P
IfRead Stream P = ⊤
