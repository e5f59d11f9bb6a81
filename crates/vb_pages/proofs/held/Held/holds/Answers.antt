use Rattle.{std.proofs.Common.{◌≡◌, length, ap, ◌∙◌}, vb_model.specs.Pages.is_same_block}
use Rattle.{std.specs.List.list_any, vb_pages.specs.{Areas.block_at, Held.{HeldBlocks, blocks_of}}}
use Rattle.vb_pages.proofs.{Sets.same_bool, HeldLemmas.{held_of, holds_at, at_holds}}
use Rattle.vb_pages.proofs.held.Held.holds.Goals as goal

pub returns : goal.returns
returns c = let t = c.self.inside.table in
    let s = c.args.start in
    let k = c.args.order in
    let v : held_of (length t) (blocks_of t) ≡ c.args.self.now = c.self.view_is in
    same_bool c.is_listed.result (list_any (λ b. is_same_block b (block_at s k)) (blocks_of t))
    (λ e. at_holds s k t (c.is_listed.ensures.0 e)) (λ e. c.is_listed.ensures.1 (holds_at s k t e))
    ∙ ap (λ (h : HeldBlocks). list_any (λ b. is_same_block b (block_at s k)) h.blocks) v
