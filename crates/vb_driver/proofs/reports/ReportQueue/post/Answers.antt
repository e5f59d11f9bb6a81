use Rattle.{std.proofs.Common.{◌≡◌, subst}, vb_report.specs.Blocks.{block_of, blocks_of, pieces_of}}
use Rattle.{std.proofs.{Common.arith, lemmas.List.length-map}, vb_driver.specs.State.ReportSide}
use Rattle.vb_driver.proofs.{ReportPosting.{reporting, answer_is, posts_report}, Shapes.ring_backed}
use Rattle.vb_driver.proofs.ReportPosting.{same_head, nothing, ring_is, not_full}
use Rattle.vb_driver.{proofs.ReportTables.{orders_of, posted_report_queue}, specs.Calls.PostsReport}
use Rattle.vb_driver.proofs.reports.ReportQueue.post.Goals as goal

pub encode-pieces-requires-clause-orders : goal.encode-pieces-requires-clause-orders
encode-pieces-requires-clause-orders g c = grind (arith, orders_of)

pub add-requires-clause-backed : goal.add-requires-clause-backed
add-requires-clause-backed g c = grind (arith, ring_backed)

pub unreachable-requires : goal.unreachable-requires
unreachable-requires g c = grind (arith, reporting, not_full, answer_is)

pub returns-clause-posts : goal.returns-clause-posts
returns-clause-posts g c = let m1 = g.G.GuestBytes.mem c.args.ram.now in
    let m2 = g.G.GuestBytes.mem c.add.new.ram in let blocks = blocks_of c.args.blocks.items in
    let coded : c.deref-2.result.now ≡ pieces_of blocks = search arith in
    let s = reporting c.args.blocks.items c.self.view_is c.requires.queue
    c.requires.none_out c.requires.some c.requires.room coded c.add.ensures.adds in
    subst (λ (v : ReportSide). PostsReport m1 m2 v (record {
      ring = c.add.new.self;
      blocks = blocks;
    }) blocks) c.self.view_is (posts_report _ _ _ _ _ _ _ _ s)

pub returns-clause-queue : goal.returns-clause-queue
returns-clause-queue g c = let blocks = blocks_of c.args.blocks.items in
    let coded : c.deref-2.result.now ≡ pieces_of blocks = search arith in
    let s = reporting c.args.blocks.items c.self.view_is c.requires.queue
    c.requires.none_out c.requires.some c.requires.room coded c.add.ensures.adds in
    posted_report_queue blocks s.queue s.adds.is_end (nothing _ _ _ _ _ _ _ _ s) (omega
    (arith, length-map c.args.blocks.items block_of, c.requires.few)) s.room c.requires.blocks
    (ring_is _ _ _ _ _ _ _ _ s)

pub returns-clause-head : goal.returns-clause-head
returns-clause-head g c = grind (arith, reporting, same_head, answer_is)
