use Rattle.std.proofs.Common.{◌≡◌, ◌∙◌, ◌<◌, ◌+◌, ◌*◌, sym, ap, subst, arith, refl, ℕ, set, Some}
use Rattle.std.proofs.{Common.{Ok, List, length, is_some}, Math.Nat.div-add-mod}
use Rattle.vb_virtio.specs.Layout.{buffers_page, buffer_page, buffer_offset, is_start_page}
use Rattle.vb_virtio.proofs.Shapes.{start_of_buffer}
use Rattle.vb_ram.specs.Pages.{SameBut}
use Rattle.vb_ring.specs.{declared.layout.Layout.Layout, Ends.{after_add, next_head}}
use Rattle.vb_driver.specs.{State.RequestSide, Calls.Posts, contracts.queue.RequestQueue.the_view}
use Rattle.vb_driver.proofs.{Buffers.names_at, Posting.{Sending, added_head, posts_by}}
use Rattle.vb_driver.proofs.RequestTables.{head_there, head_small, requests_added_at, room_inside}
use Rattle.vb_driver.proofs.Shapes.{IsBeside, ring_backed, buffers_between, buffers_beside}
use Rattle.vb_driver.proofs.queue.RequestQueue.post.Goals as goal

pub unreachable-requires : goal.unreachable-requires
unreachable-requires g c = grind (arith, room_inside, head_there)

pub write_numbers-requires-clause-covers : goal.write_numbers-requires-clause-covers
write_numbers-requires-clause-covers g c =
    grind (arith, room_inside, head_small, div-add-mod, buffers_between)

pub write_numbers-requires-clause-backed : goal.write_numbers-requires-clause-backed
write_numbers-requires-clause-backed g c =
    grind (arith, room_inside, head_small, div-add-mod, buffers_between, start_of_buffer)

pub add-requires-clause-backed : goal.add-requires-clause-backed
add-requires-clause-backed g c = let r = c.self.inside.ring in
    let m2 = g.G.GuestBytes.mem c.write_numbers.new.ram in
    let same : r.size ≡ c.args.self.now.ring.size =
    ap (λ (s : RequestSide). s.ring.size) c.self.view_is in
    rw c.self.invariant.layout (ring_backed c.self.inside.number c.next_head.ensures.is_end.fits.size (λ page start.
    ap is_some (c.write_numbers.ensures.rest.backing page)
    ∙ c.requires.backed page (ap (λ (n : ℕ). is_start_page n page) (sym same) ∙ start)))

pub index_mut-requires : goal.index_mut-requires
index_mut-requires g c = grind (arith, room_inside, head_small, added_head)

pub invariant_of-self : goal.invariant_of-self
invariant_of-self g c = let side = the_view c.self.inside in
    let r = side.ring in
    let h = c.in-Some.head in
    let next : next_head r ≡ Some h = sym c.next_head.ensures.value ∙ c.in-Some.is in
    let room = room_inside side c.args.self.now c.self.view_is c.requires.room in
    let small : h < 16 = head_small r h c.self.invariant.single next room in
    let same : h ≡ c.in-Ok.head = added_head refl next c.in-Ok.ensures.adds in
    let state : c.add.new.self ≡ after_add r 1 (Ok h) =
    c.in-Ok.ensures.adds.state ∙ ap (λ (n : ℕ). after_add r 1 (Ok n)) (sym same) in
    rw c.keep.ensures
    (requests_added_at side c.add.new.self h c.from-3.result c.args.pages.now.items
    c.self.invariant c.next_head.ensures.is_end next small
    (omega (arith, ap (λ (l : List ℕ). length l) c.deref.ensures.0, c.deref.ensures.1)) state
    (c.from-3.ensures ∙ sym same))

pub returns-clause-posts : goal.returns-clause-posts
returns-clause-posts g c = let side = the_view c.self.inside in
    let h = c.in-Some.head in
    let m1 = g.G.GuestBytes.mem c.args.ram.now in
    let m2 = g.G.GuestBytes.mem c.write_numbers.new.ram in
    let m3 = g.G.GuestBytes.mem c.add.new.ram in
    let pages = c.args.pages.now.items in
    let next : next_head side.ring ≡ Some h = sym c.next_head.ensures.value ∙ c.in-Some.is in
    let room = room_inside side c.args.self.now c.self.view_is c.requires.room in
    let slice : c.deref.result.now ≡ pages = c.deref.ensures.0 in
    let size : length c.deref.result.now ≡ length pages = ap length slice in
    let base : ℕ = buffers_page side.number in
    let at_page : c.buffers_page.result + c.from.result ≡ buffer_page base h =
    omega (arith, c.buffers_page.ensures, c.from.ensures) in
    let at_offset : 1024 * c.from-offset.result ≡ buffer_offset h =
    ap (λ (n : ℕ). 1024 * n) c.from-offset.ensures in
    let wrote : SameBut m1 m2 (buffer_page base h) (buffer_offset h)
    (buffer_offset h + 4 * length pages) = subst (λ (n : ℕ). SameBut m1 m2
    (buffer_page base h) (buffer_offset h) (buffer_offset h + 4 * n)) size (subst
    (λ (n : ℕ). SameBut m1 m2 (buffer_page base h) n (n + 4 * length c.deref.result.now)) at_offset
    (subst (λ (n : ℕ). SameBut m1 m2 n (1024 * c.from-offset.result)
    (1024 * c.from-offset.result + 4 * length c.deref.result.now)) at_page
    c.write_numbers.ensures.rest)) in
    let sending : Sending m1 m2 m3 side c.add.new.self base h c.from-2.result
    (4 * c.len.result) pages = record {
      requests = c.self.invariant;
      is_end = c.next_head.ensures.is_end;
      next = next;
      room = room;
      beside = λ k few. subst (λ (l : Layout). IsBeside l (buffer_page base k))
          (sym c.self.invariant.layout)
          (buffers_beside side.number k c.next_head.ensures.is_end.fits.size few);
      few = omega (arith, size, c.deref.ensures.1);
      names = names_at at_page at_offset slice c.write_numbers.ensures.names;
      wrote = wrote;
      addr = omega (arith, at_page, at_offset, c.from-2.ensures);
      len = omega (arith, c.len.ensures.value);
    } in subst (λ (s : RequestSide). Posts m1 m3 s (record side {
      ring = c.add.new.self;
      sent = set side.sent c.from-3.result c.keep.new.self;
    }) (buffers_page s.number) pages c.in-Ok.head) c.self.view_is
    (rw c.keep.ensures (rw c.from-3.ensures
    (posts_by m1 m2 m3 side c.add.new.self base h c.in-Ok.head c.from-2.result
    (4 * c.len.result) pages sending c.in-Ok.ensures.adds)))
