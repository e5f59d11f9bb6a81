use Rattle.std.proofs.Common.{refl, ap, rules, ◌∷◌, [], List, ℕ, take}
use Rattle.vb_core.specs.declared.runs.Run.{Run}
use Rattle.vb_monitor.specs.Giving.{used_accesses}
use Rattle.vb_monitor.specs.Accesses.{ReadWord, Acquire, Full, TellPages, TellFigures, TellId, Pause, Discard}
use Rattle.vb_monitor.proofs.StepLemmas.{performs}
use Rattle.vb_monitor.proofs.serving.perform.Goals as goal

pub returns-in-AwaitsIndex-clause-does : goal.returns-in-AwaitsIndex-clause-does
returns-in-AwaitsIndex-clause-does g c = performs g.M.LiveMemory.goes c.args.memory.now c.word.new.self
    c.args.phase _ c.args.kind c.word.result c.args.room.now.bytes
    c.args.room.now
    (ReadWord c.in-AwaitsIndex.at c.word.result ∷ []) c.in-AwaitsIndex.is (_, c.word.ensures, refl) refl

pub returns-in-AwaitsEntry-clause-does : goal.returns-in-AwaitsEntry-clause-does
returns-in-AwaitsEntry-clause-does g c = performs g.M.LiveMemory.goes c.args.memory.now c.word-in-AwaitsEntry.new.self
    c.args.phase _ c.args.kind c.word-in-AwaitsEntry.result c.args.room.now.bytes
    c.args.room.now
    (Acquire ∷ ReadWord c.in-AwaitsEntry.at c.word-in-AwaitsEntry.result ∷ []) c.in-AwaitsEntry.is (_, c.acquire.ensures, (_, c.word-in-AwaitsEntry.ensures, refl)) refl

pub returns-in-TellsPages-clause-does : goal.returns-in-TellsPages-clause-does
returns-in-TellsPages-clause-does g c = performs g.M.LiveMemory.goes c.args.memory.now c.tell_pages.new.self
    c.args.phase _ c.args.kind 0 c.args.room.now.bytes
    c.args.room.now
    (TellPages c.args.kind c.first_runs.result.now c.in-TellsPages.named ∷ []) c.in-TellsPages.is (_, c.tell_pages.ensures, refl) (ap (λ (rs : List Run). TellPages c.args.kind rs c.in-TellsPages.named ∷ []) c.first_runs.ensures)

pub returns-in-TellsFigures-clause-does : goal.returns-in-TellsFigures-clause-does
returns-in-TellsFigures-clause-does g c = performs g.M.LiveMemory.goes c.args.memory.now c.tell_figures.new.self
    c.args.phase _ c.args.kind 0 c.args.room.now.bytes
    c.args.room.now
    (TellFigures (take c.min.result c.args.room.now.figures) ∷ []) c.in-TellsFigures.is (_, c.tell_figures.ensures, refl) (ap (λ (n : ℕ). TellFigures (take n c.args.room.now.figures) ∷ []) (search rules))

pub returns-in-TellsId-clause-does : goal.returns-in-TellsId-clause-does
returns-in-TellsId-clause-does g c = performs g.M.LiveMemory.goes c.args.memory.now c.tell_id.new.self
    c.args.phase _ c.args.kind 0 c.args.room.now.bytes
    c.args.room.now
    (TellId c.in-TellsId.id ∷ []) c.in-TellsId.is (_, c.tell_id.ensures, refl) refl

pub returns-in-Paused-clause-does : goal.returns-in-Paused-clause-does
returns-in-Paused-clause-does g c = performs g.M.LiveMemory.goes c.args.memory.now c.pause.new.self
    c.args.phase _ c.args.kind 0 c.args.room.now.bytes
    c.args.room.now
    (Pause ∷ []) c.in-Paused.is (_, c.pause.ensures, refl) refl

pub returns-in-Discards-clause-does : goal.returns-in-Discards-clause-does
returns-in-Discards-clause-does g c = performs g.M.LiveMemory.goes c.args.memory.now c.discard.new.self
    c.args.phase _ c.args.kind 0 c.args.room.now.bytes
    c.args.room.now
    (Discard c.in-Discards.cut ∷ []) c.in-Discards.is (_, c.discard.ensures, refl) refl

pub returns-in-GivesBack-clause-does : goal.returns-in-GivesBack-clause-does
returns-in-GivesBack-clause-does g c = performs g.M.LiveMemory.goes c.args.memory.now c.write_used.new.memory
    c.args.phase _ c.args.kind 0 c.args.room.now.bytes
    c.args.room.now
    (used_accesses c.in-GivesBack.spots c.in-GivesBack.entry) c.in-GivesBack.is c.write_used.ensures refl

pub returns-in-AwaitsFlags-clause-does : goal.returns-in-AwaitsFlags-clause-does
returns-in-AwaitsFlags-clause-does g c = performs g.M.LiveMemory.goes c.args.memory.now c.word-in-AwaitsFlags.new.self
    c.args.phase _ c.args.kind c.word-in-AwaitsFlags.result c.args.room.now.bytes
    c.args.room.now
    (Full ∷ ReadWord c.in-AwaitsFlags.at c.word-in-AwaitsFlags.result ∷ []) c.in-AwaitsFlags.is (_, c.full.ensures, (_, c.word-in-AwaitsFlags.ensures, refl)) refl
