use Rattle.std.proofs.Common.{◌∙◌, sym, ap, ◌≡◌, ℕ, ◌++◌, take, drop, length}
use Rattle.vb_guest.{proofs.RingHeads.take_front, proofs.ReadStep.bytes_read}
use Rattle.vb_guest.proofs.memory.read_bytes.Goals as goal

pub returns : goal.returns
returns g c = let out = c.read.new.out in
    let as_many : length out ≡ c.in_ok-bytes.bytes.len =
    c.read.auto.out ∙ c.deref_mut.ensures.len in
    c.new.ensures ∙ ap (λ (n : ℕ). take n (out ++ drop (length out) c.in_ok-bytes.bytes.items))
    (sym as_many) ∙ take_front out (drop (length out) c.in_ok-bytes.bytes.items)
    ∙ bytes_read c.deref_mut.result.now c.requires (c.backing-frame.ensures.whole.sizes c.args.page)
    (c.deref_mut.ensures.len ∙ c.in_ok-bytes.ensures.len) c.read.auto.out c.in-Ok.ensures.bytes
