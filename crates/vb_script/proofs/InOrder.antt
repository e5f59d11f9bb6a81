-- A script for guests on threads has its parts in order: plugs, then rounds at most once, then
-- processors and calls.
use Rattle.std.{proofs.Common.{◌||◌, Bool, true, false, cond, List, [], ◌∷◌}, specs.List.list_all}
use Rattle.vb_script.specs.{Threads.{are_plugs, is_plug}, declared.threads.ThreadsLine.ThreadsLine}
use Rattle.vb_script.specs.declared.threads.ThreadsLine.TheVariants.{Plug, Rounds, Cpu, Call}

-- a line of a processor: a choice of one, or a call
abbrev pub is_later : ThreadsLine → Bool
is_later (Plug pages queue_size processors) = false
is_later (Rounds floor count) = false
is_later (Cpu cpu) = true
is_later (Call guest call) = true

-- after the first line that is no plug there are lines of processors alone
abbrev pub in_order : List ThreadsLine → Bool
in_order [] = true
in_order (line ∷ lines) = cond (is_plug line) (in_order lines) (list_all is_later lines)

-- which lines may come after others
abbrev fits : List ThreadsLine → ThreadsLine → Bool
fits earlier line = is_later line || are_plugs earlier
