-- Command lines, faults and exit statuses, worked out.
use Rattle.std.{proofs.Common.{◌≡◌, [], ◌∷◌, map, codes, refl}, specs.Prelude.{Some, None, Ok, Err}}
use Rattle.std.specs.{Prelude.string_bytes, declared.{alloc.Global.Global, string.String.String, vec.Vec.Vec}}
use Rattle.vb_run.specs.declared.plan.Bells.TheVariants.{Plain, Drop, Double, Late}
use Rattle.vb_run.specs.declared.report.RunFault.TheVariants.{Memory as RunMemory}
use Rattle.vb_run.specs.declared.report.RunFault.TheVariants.{BadPlan as RunBadPlan}
use Rattle.vb_run.specs.declared.report.RunFault.TheVariants.{Audit as RunAudit}
use Rattle.vb_script.specs.declared.reading.ScriptFault.TheVariants.{BadLine as BadLineOfScript}
use Rattle.vb_script.specs.declared.reading.ScriptFault.TheVariants.{Memory as NoMemoryForScript}
use Rattle.vb_command.specs.Arguments.{asked_by, asked_of, bells_joined, bells_named, refusal_line, refusal_status}
use Rattle.vb_command.specs.Faults.{fault_of, fault_of_threads}
use Rattle.vb_command.specs.{Faults.status_of, declared.arguments.Asked.TheVariants.{Run, Threads}}
use Rattle.vb_command.specs.declared.arguments.ArgumentsFault.TheVariants.{Refused, Memory}
use Rattle.vb_command.specs.declared.fault.ProgramFault.TheVariants.{BadLine, BadPlan, Audit, Stream}
use Rattle.vb_command.specs.declared.fault.ProgramFault.TheVariants.{Memory as NoMemory}

understood : map asked_of ([] ∷ (codes "vb_sim" ∷ []) ∷ (codes "vb_sim" ∷ codes "run" ∷ [])
    ∷ (codes "vb_sim" ∷ codes "threads" ∷ []) ∷ (codes "vb_sim" ∷ codes "threads" ∷ codes "--bells=drop" ∷ [])
    ∷ (codes "vb_sim" ∷ codes "threads" ∷ codes "--bells" ∷ codes "plain" ∷ [])
    ∷ (codes "vb_sim" ∷ codes "threads" ∷ codes "--bells" ∷ codes "double" ∷ [])
    ∷ (codes "vb_sim" ∷ codes "threads" ∷ codes "--bells" ∷ codes "late" ∷ []) ∷ [])
    ≡ Some Run ∷ Some Run ∷ Some Run ∷ Some (Threads Plain) ∷ Some (Threads Drop) ∷ Some (Threads Plain)
    ∷ Some (Threads Double) ∷ Some (Threads Late) ∷ []
understood = refl

-- each way of ringing by both spellings, and none in other letters, in part, or with more after it
ways : map bells_named (codes "plain" ∷ codes "drop" ∷ codes "double" ∷ codes "late" ∷ codes "Drop"
    ∷ codes "dro" ∷ codes "late " ∷ [] ∷ [])
    ≡ Some Plain ∷ Some Drop ∷ Some Double ∷ Some Late ∷ None ∷ None ∷ None ∷ None ∷ []
ways = refl

ways_joined : map bells_joined (codes "--bells=plain" ∷ codes "--bells=drop" ∷ codes "--bells=double"
    ∷ codes "--bells=late" ∷ codes "--bells=Drop" ∷ codes "--bells=" ∷ codes "--bells" ∷ codes "drop" ∷ [])
    ≡ Some Plain ∷ Some Drop ∷ Some Double ∷ Some Late ∷ None ∷ None ∷ None ∷ None ∷ []
ways_joined = refl

-- the words as they could be had
words_had : (words : Vec (String Global) Global)
    → (map string_bytes words.items ≡ codes "vb_sim" ∷ codes "threads" ∷ [] → asked_by (Ok words) ≡ Some (Threads Plain))
    × (map string_bytes words.items ≡ codes "vb_sim" ∷ codes "loud" ∷ [] → asked_by (Ok words) ≡ None)
    × (asked_by (Err Refused) ≡ None) × (asked_by (Err Memory) ≡ None)
words_had words = (λ e. rw e refl, λ e. rw e refl, refl, refl)

refused : map (λ words. asked_of (codes "vb_sim" ∷ words)) ((codes "help" ∷ []) ∷ (codes "run" ∷ codes "x" ∷ [])
    ∷ (codes "Run" ∷ []) ∷ (codes "threads" ∷ codes "--bells" ∷ [])
    ∷ (codes "threads" ∷ codes "--bells" ∷ codes "loud" ∷ [])
    ∷ (codes "threads" ∷ codes "--bells" ∷ codes "drop" ∷ codes "drop" ∷ [])
    ∷ (codes "threads" ∷ codes "drop" ∷ []) ∷ (codes "threads" ∷ codes "--bells=drop" ∷ codes "drop" ∷ [])
    ∷ (codes "threads" ∷ codes "--bell" ∷ codes "drop" ∷ []) ∷ (codes "run" ∷ codes "--bells=drop" ∷ []) ∷ [])
    ≡ None ∷ None ∷ None ∷ None ∷ None ∷ None ∷ None ∷ None ∷ None ∷ None ∷ []
refused = refl

lines : map refusal_line (Refused ∷ Memory ∷ [])
    ≡ codes "usage: vb_sim run | threads [--bells MODE]\n" ∷ codes "run: memory\n" ∷ []
lines = refl

statuses_of_arguments : map refusal_status (Refused ∷ Memory ∷ []) ≡ 2 ∷ 3 ∷ []
statuses_of_arguments = refl

statuses : map status_of (BadLine 7 ∷ BadPlan ∷ NoMemory ∷ Stream ∷ Audit ∷ []) ≡ 1 ∷ 1 ∷ 3 ∷ 4 ∷ 5 ∷ []
statuses = refl

faults : fault_of (BadLineOfScript 7) ∷ fault_of NoMemoryForScript ∷ fault_of_threads RunMemory
    ∷ fault_of_threads RunBadPlan ∷ fault_of_threads RunAudit ∷ []
    ≡ BadLine 7 ∷ NoMemory ∷ NoMemory ∷ BadPlan ∷ Audit ∷ []
faults = refl
