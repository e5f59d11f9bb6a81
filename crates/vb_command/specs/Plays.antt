-- What the events of a script may be answered.
use Rattle.std.specs.Prelude.{◌≡◌, ℕ, List, [], Option, Some, None, Result, Ok, Err, map, ⊤}
use Rattle.vb_model.specs.declared.replies.Reply.{Reply}
use Rattle.vb_model.specs.World.{World, made}
use Rattle.vb_model.specs.Safe.{IsSafeRun}
use Rattle.std.specs.Io.KnownBytes.{Appends}
use Rattle.std.specs.List.{flat_map}
use Rattle.vb_reply.specs.Replies.{line_of}
use Rattle.vb_script.specs.Lines.{is_paced}
use Rattle.vb_script.specs.Texts.{Said}
use Rattle.vb_command.specs.declared.fault.ProgramFault.{ProgramFault}
use Rattle.vb_command.specs.declared.fault.ProgramFault.TheVariants.{BadLine, BadPlan, Memory}
use Rattle.vb_command.specs.declared.fault.ProgramFault.TheVariants.{Audit}
use Rattle.vb_command.specs.declared.fault.ProgramFault.TheVariants.{Stream}

-- the host before anything happens: the script's frames, and its spare devices in their order
abbrev pub host_of : Said → World
host_of said = made said.frames (map is_paced said.spares)

-- The replies are those of a run of the script's events on its own host, each state of it safe.
abbrev pub RunsSafely : Said → List Reply → Type 0
RunsSafely said replies = (last : World) × IsSafeRun (host_of said) said.events replies last

-- The replies that a text may get: those of what it says, and none where it says nothing. A text
-- with a bad line gets none at all.
abbrev pub MayGet : (Said → List Reply → Type 0) → Result (Option Said) ℕ → List Reply
    → Type 0
MayGet Played (Err number) replies = ⊥
MayGet Played (Ok None) replies = replies ≡ []
MayGet Played (Ok (Some said)) replies = Played said replies

-- What is written to known bytes: a line for each of such replies, in order.
abbrev pub Prints : (Said → List Reply → Type 0) → Result (Option Said) ℕ
    → Option (List ℕ) → Option (List ℕ) → Type 0
Prints Played script old new =
    (replies : List Reply)
    × MayGet Played script replies
    × Appends old new (flat_map line_of replies)

-- Why a script isn't played to its end: there was no memory, and then this much holds; or a stream
-- is broken.
abbrev pub IsPlayFault : ProgramFault → Type 0 → Type 0
IsPlayFault (BadLine number) P = ⊥
IsPlayFault BadPlan P = ⊥
IsPlayFault Memory P = P
IsPlayFault Audit P = ⊥
IsPlayFault Stream P = ⊤
