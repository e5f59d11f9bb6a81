-- The chains that are held: taken, and not given back until they are asked for.
use Rattle.std.specs.Prelude.{ℕ}
use Rattle.vb_core.specs.declared.kinds.Kind.{Kind}
use Rattle.vb_core.specs.declared.kinds.Kind.TheVariants.{Inflate, Deflate, Statistics, Hint}
use Rattle.vb_core.specs.declared.kinds.Kind.TheVariants.{Report}
use Rattle.vb_core.specs.declared.held.Held.{Held}

abbrev pub nothing_held : Held
nothing_held = record { statistics = 0; deflate = 0; pages = 0 }

-- 1 more than the head of the chain that is held of a kind's queue; 0 where none is.
abbrev pub held_of : Kind → Held → ℕ
held_of Inflate h = 0
held_of Deflate h = h.deflate
held_of Statistics h = h.statistics
held_of Hint h = 0
held_of Report h = 0

-- How many pages the chain names that is held of a kind's queue.
abbrev pub held_pages : Kind → Held → ℕ
held_pages Inflate h = 0
held_pages Deflate h = h.pages
held_pages Statistics h = 0
held_pages Hint h = 0
held_pages Report h = 0

-- What is held once this is held of a kind's queue: 1 more than a head, and a number of pages. No
-- chain of inflates, of hints or of reports is held.
abbrev pub with_held : Kind → ℕ → ℕ → Held → Held
with_held Inflate held pages h = h
with_held Deflate held pages h = record h { deflate = held; pages = pages }
with_held Statistics held pages h = record h { statistics = held }
with_held Hint held pages h = h
with_held Report held pages h = h

-- Nothing is held of a kind's queue any longer, and else what was.
abbrev pub held_without : Kind → Held → Held
held_without kind h = with_held kind 0 0 h
