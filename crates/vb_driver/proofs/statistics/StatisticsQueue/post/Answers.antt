use Rattle.std.proofs.Common.{◌≡◌, subst, arith, refl, is_some}
use Rattle.vb_virtio.proofs.Shapes.{start_of_buffer}
use Rattle.vb_ring.specs.Ends.{DriverEnd, outstanding}
use Rattle.vb_driver.{specs.{State.IsStatisticsQueue, Calls.PostsBuffer}, proofs.Shapes.ring_backed}
use Rattle.vb_driver.proofs.Filling.{Filling, fills_by, filled_queue, not_full}
use Rattle.vb_driver.proofs.statistics.StatisticsQueue.post.Goals as goal

pub write_figures-requires-clause-backed : goal.write_figures-requires-clause-backed
write_figures-requires-clause-backed g c = c.requires.backed 12
    (start_of_buffer c.args.self.now.size 12 (omega arith) (omega arith))

pub add-requires-clause-backed : goal.add-requires-clause-backed
add-requires-clause-backed g c = grind (arith, ring_backed, is_some)

pub unreachable-requires : goal.unreachable-requires
unreachable-requires g c = let r = c.self.inside.ring in let n = c.args.self.now.size in
    let queue : IsStatisticsQueue r n = rw c.self.view_is c.requires.queue in
    let none : outstanding r ≡ 0 = rw c.self.view_is c.requires.none in
    not_full c.in_default.field-0 refl queue none c.in_default.ensures.adds

pub returns-clause-posts : goal.returns-clause-posts
returns-clause-posts g c = let r = c.self.inside.ring in let n = c.args.self.now.size in
    let m1 = g.G.GuestBytes.mem c.args.ram.now in
    let m2 = g.G.GuestBytes.mem c.write_figures.new.ram in
    let m3 = g.G.GuestBytes.mem c.add.new.ram in
    let filling : Filling m1 m2 m3 r c.add.new.self n c.from.result c.args.free c.args.total =
    search arith in subst (λ (v : DriverEnd). PostsBuffer m1 m3 v c.add.new.self (record {
      free = c.args.free;
      total = c.args.total;
    })) c.self.view_is (fills_by c.in-Ok.field-0 filling c.in-Ok.ensures.adds)

pub returns-clause-queue : goal.returns-clause-queue
returns-clause-queue g c = let r = c.self.inside.ring in let n = c.args.self.now.size in
    let queue : IsStatisticsQueue r n = rw c.self.view_is c.requires.queue in
    let none : outstanding r ≡ 0 = rw c.self.view_is c.requires.none in
    filled_queue c.in-Ok.field-0 refl queue none c.in-Ok.ensures.adds
