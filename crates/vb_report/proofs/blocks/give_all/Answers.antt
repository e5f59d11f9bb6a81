use Rattle.std.proofs.{Common.{◌+◌, drop, get_or, ap, ◌∙◌, refl, arith}, lemmas.List.drop_all}
use Rattle.vb_pages.specs.{declared.block.FreeBlock.FreeBlock, PageState.{PageState, is_free_page}}
use Rattle.vb_report.proofs.Giving.{split_at, giving_first, giving_next, giving_done}
use Rattle.vb_report.proofs.Giving.{free_with_blocks}
use Rattle.vb_report.proofs.blocks.give_all.Goals as goal

abbrev no_block : FreeBlock
no_block = record { start = 0; order = 0 }

pub loop-block-init : goal.loop-block-init
loop-block-init c = record { room = c.requires; same = refl }

pub give_block-requires : goal.give_block-requires
give_block-requires c = let bs = c.args.blocks.now in
    let i = c.loop-block.block-index in
    giving_first c.args.pages.now c.loop-block.pages bs (drop i bs) (get_or bs i no_block)
    (drop (i + 1) bs) (split_at bs i no_block (omega arith)) c.loop-block.invariant

pub loop-block-preserved : goal.loop-block-preserved
loop-block-preserved c = let bs = c.args.blocks.now in
    let i = c.loop-block.block-index in
    giving_next c.args.pages.now c.loop-block.pages c.give_block.new.self bs (drop i bs)
    (get_or bs i no_block) (drop (i + 1) bs) (split_at bs i no_block (omega arith))
    c.loop-block.invariant c.give_block.ensures.given

pub returns-clause-given : goal.returns-clause-given
returns-clause-given c = let bs = c.args.blocks.now in
    let i = c.loop-block.block-index in
    giving_done c.args.pages.now c.loop-block.pages bs (drop i bs) (drop_all i bs (omega arith))
    c.loop-block.invariant

pub returns-clause-gained : goal.returns-clause-gained
returns-clause-gained c p = let bs = c.args.blocks.now in
    let i = c.loop-block.block-index in ap (λ (s : PageState). is_free_page s p)
    (giving_done c.args.pages.now c.loop-block.pages bs (drop i bs) (drop_all i bs (omega arith))
    c.loop-block.invariant) ∙ free_with_blocks c.args.pages.now bs p c.requires
