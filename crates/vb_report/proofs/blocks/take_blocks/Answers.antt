use Rattle.std.proofs.Common.{◌≡◌, ℕ, ◌+◌, ◌*◌, ◌%◌, ◌^◌, ◌≤◌, List, sym, ◌∙◌, subst, arith, []}
use Rattle.std.proofs.Common.{◌++◌, ◌∷◌}
use Rattle.vb_pages.{specs.declared.table.TheConstants.MAX_PAGES, specs.PageState.page_count}
use Rattle.vb_pages.{specs.declared.block.FreeBlock.FreeBlock, proofs.Aligned.pow_small}
use Rattle.vb_report.proofs.Taking.{IsTaking, taking_none, taking_more, taking_all, taking_full}
use Rattle.vb_report.proofs.Taking.{taking_pages, free_is_drained}
use Rattle.vb_report.proofs.blocks.take_blocks.Goals as goal

pub loop-count-init : goal.loop-count-init
loop-count-init c =
    subst (λ (bs : List FreeBlock). IsTaking c.args.pages.now c.args.pages.now c.args.from c.args.room
    c.args.from 0 bs) (sym c.new-blocks.ensures)
    (taking_none c.args.pages.now c.args.from c.args.room c.requires.drained)

pub overflow_add-next : goal.overflow_add-next
overflow_add-next c = let b : FreeBlock = c.in-Some.block in
    let small : 2 ^ b.order ≤ 512 = pow_small b.order c.in-Some.ensures.room.0.0 in
    let end : b.start + 2 ^ b.order ≤ page_count c.isolate.new.self = c.in-Some.ensures.room.2 in
    let more = taking_more c.args.pages.now c.loop-count.pages c.isolate.new.self c.args.from
    c.args.room c.loop-count.next c.loop-count._count c.loop-count.blocks.items b
    c.loop-count.invariant c.loop-count-test.true c.in-Some.ensures.isolated
    c.in-Some.ensures.room c.in-Some.ensures.left in
    let pages : page_count c.isolate.new.self ≡ page_count c.args.pages.now =
    taking_pages c.args.pages.now c.isolate.new.self c.args.from c.args.room
    (b.start + 2 ^ b.order) (c.loop-count._count + 1) (c.loop-count.blocks.items ++ b ∷ []) more in
    let few : page_count c.args.pages.now ≤ MAX_PAGES = c.requires.small in omega arith

pub loop-count-preserved : goal.loop-count-preserved
loop-count-preserved c = let b : FreeBlock = c.in-Some.block in
    let small : 2 ^ b.order ≤ 512 = pow_small b.order c.in-Some.ensures.room.0.0 in
    let end : b.start + 2 ^ b.order ≡ b.start + 1 * 2 ^ b.order % 4294967296 = omega arith in
    subst (λ (n : ℕ). IsTaking c.args.pages.now c.isolate.new.self c.args.from c.args.room n
    (c.loop-count._count + 1) c.push.new.self.items) end
    (subst (λ (bs : List FreeBlock). IsTaking c.args.pages.now c.isolate.new.self c.args.from
    c.args.room (b.start + 2 ^ b.order) (c.loop-count._count + 1) bs) (sym c.push.ensures.items)
    (taking_more c.args.pages.now c.loop-count.pages c.isolate.new.self c.args.from c.args.room
    c.loop-count.next c.loop-count._count c.loop-count.blocks.items b c.loop-count.invariant
    c.loop-count-test.true c.in-Some.ensures.isolated c.in-Some.ensures.room
    c.in-Some.ensures.left))

pub returns-in-None-clause-chosen : goal.returns-in-None-clause-chosen
returns-in-None-clause-chosen c test same =
    (taking_all c.args.pages.now c.loop-count.pages c.isolate.new.self c.args.from c.args.room
    c.loop-count.next c.loop-count._count c.loop-count.blocks.items c.loop-count.invariant
    c.in-None.ensures.isolated).1 test
    (λ p. same p ∙ free_is_drained c.args.pages.now p c.requires.drained)

pub returns-in-None-clause-taken : goal.returns-in-None-clause-taken
returns-in-None-clause-taken c =
    (taking_all c.args.pages.now c.loop-count.pages c.isolate.new.self c.args.from c.args.room
    c.loop-count.next c.loop-count._count c.loop-count.blocks.items c.loop-count.invariant
    c.in-None.ensures.isolated).0.state

pub returns-in-None-clause-room : goal.returns-in-None-clause-room
returns-in-None-clause-room c =
    (taking_all c.args.pages.now c.loop-count.pages c.isolate.new.self c.args.from c.args.room
    c.loop-count.next c.loop-count._count c.loop-count.blocks.items c.loop-count.invariant
    c.in-None.ensures.isolated).0.fits

pub returns-clause-chosen : goal.returns-clause-chosen
returns-clause-chosen c test same =
    taking_full c.args.pages.now c.loop-count.pages c.args.from c.args.room c.loop-count.next
    c.loop-count._count c.loop-count.blocks.items c.loop-count.invariant c.loop-count-test.false test
    (λ p. same p ∙ free_is_drained c.args.pages.now p c.requires.drained)
