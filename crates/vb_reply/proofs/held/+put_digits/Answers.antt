use Rattle.std.{proofs.KnownBytes.Appends-trans, specs.Io.KnownBytes.append_known}
use Rattle.vb_reply.proofs.Putting.{encoded_parts}
use Rattle.vb_reply.proofs.held.+put_digits.Goals as goal

pub returns : goal.returns
returns g t c =
    rw (encoded_parts 256 c.args.bytes.now c.split_at.result.0.now c.split_at.result.1.now
    c.split_at.ensures.front c.split_at.ensures.back)
    (Appends-trans (append_known (g.W.Write.contents c.args.out.now) c.args.held.now.text.items)
    (append_known (g.W.Write.contents c.put_chunk-2.new.out) c.put_chunk-2.new.held.text.items)
    (append_known (g.W.Write.contents c.put_digits.new.out) c.put_digits.new.held.text.items) _ _
    c.in_ok-put_chunk.ensures c.in_ok-put_digits.ensures)
