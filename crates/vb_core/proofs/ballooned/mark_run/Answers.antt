use Rattle.vb_virtio.specs.Tests.{is_in}
use Rattle.vb_core.proofs.MarkLemmas.{put_none, put_as, put_more, put_in_run, none_reaches, reaches}
use Rattle.vb_core.specs.Runs.{pages_of_run}
use Rattle.vb_core.proofs.MarkLemmas.{is_before, none_before, all_before, none_past}
use Rattle.std.proofs.Common.{◌<◌, ◌+◌, ◌*◌, ◌/◌, ◌∙◌, ◌==◌, arith, ℕ, ap, length}
use Rattle.vb_core.specs.Ballooned.{is_entering}
use Rattle.vb_core.proofs.ballooned.mark_run.Goals as goal

pub returns-then-run-eq0-clause-put : goal.returns-then-run-eq0-clause-put
returns-then-run-eq0-clause-put c = put_none (λ p. is_in p (pages_of_run c.args.run))
    (is_entering c.args.marking) c.args.set.now
    (λ p. none_reaches (λ m. m == p) c.args.run c.if-run-eq0.true)

pub returns-then-run-eq0-clause-small : goal.returns-then-run-eq0-clause-small
returns-then-run-eq0-clause-small c = λ p l. none_reaches (λ m. m == p) c.args.run c.if-run-eq0.true

pub loop-word-init : goal.loop-word-init
loop-word-init c = put_none (is_before c.args.run (c.from-first.result / 64))
    (is_entering c.args.marking) c.args.set.now (λ p. ap (λ (n : ℕ). is_before c.args.run (n / 64) p) c.from-first.ensures
    ∙ none_before c.args.run p)

pub mark_word-requires : goal.mark_word-requires
mark_word-requires c = let some : 0 < c.args.run.count = omega arith in
    grind (arith, reaches (64 * length c.args.set.now) c.args.run.first c.args.run.count some)

pub overflow_add-changed : goal.overflow_add-changed
overflow_add-changed c =
    grind (
      arith,
      put_in_run c.args.run (c.loop-word.word + 1) (is_entering c.args.marking) c.args.set.now
          c.mark_word.new.set (c.loop-word.changed + c.mark_word.result) 8589934592 (put_more
          c.args.run c.loop-word.word c.bits_of_run-bits.result (is_entering c.args.marking)
          c.args.set.now c.loop-word.set c.mark_word.new.set c.loop-word.changed c.mark_word.result c.loop-word.invariant
          c.mark_word.ensures c.bits_of_run-bits.ensures) (omega arith),
    )

pub loop-word-preserved : goal.loop-word-preserved
loop-word-preserved c = rw c.from-changed.ensures
    (put_more c.args.run c.loop-word.word c.bits_of_run-bits.result (is_entering c.args.marking)
    c.args.set.now c.loop-word.set c.mark_word.new.set c.loop-word.changed c.mark_word.result
    c.loop-word.invariant c.mark_word.ensures c.bits_of_run-bits.ensures)

pub returns-clause-put : goal.returns-clause-put
returns-clause-put c = grind (arith, put_as, is_before, all_before)

pub returns-clause-small : goal.returns-clause-small
returns-clause-small c = λ p l. none_past c.args.run 8589934592 p (omega arith) l
