use Rattle.std.proofs.Common.{◌≡◌, ◌≤◌, ◌+◌, ◌-◌, ◌++◌, ◌∙◌, ℕ, List, ap, arith, rules, length}
use Rattle.std.{proofs.Common.length-append, proofs.lemmas.List.append_assoc}
use Rattle.vb_request.specs.Request.{bytes_from}
use Rattle.vb_request.proofs.Bytes.{bytes_from-length, bytes_from-append}
use Rattle.vb_request.proofs.buffer.ChainBytes.append.Goals as goal

pub append_run-requires-2-clause-room : goal.append_run-requires-2-clause-room
append_run-requires-2-clause-room g c =
    let least : c.min-first.result ≤ c.args.len = search rules in omega (
      arith,
      ap (λ (bs : List ℕ). length bs) c.append_run.ensures,
      length-append c.args.self.now
          (bytes_from (g.G.GuestBytes.mem c.args.ram.now) c.args.addr c.min-first.result),
      bytes_from-length (g.G.GuestBytes.mem c.args.ram.now) c.args.addr c.min-first.result,
      least,
      c.requires.room,
    )

pub returns : goal.returns
returns g c = let least : c.min-first.result ≤ c.args.len = search rules in
    let whole : c.min-first.result + (c.args.len - c.min-first.result) ≡ c.args.len =
    omega (arith, least) in
    let rest : ℕ = c.args.len - c.min-first.result in c.append_run-2.ensures
    ∙ (ap (λ (bs : List ℕ). bs ++
    bytes_from (g.G.GuestBytes.mem c.args.ram.now) (c.args.addr + c.from.result) rest)
    c.append_run.ensures ∙ (append_assoc c.args.self.now
    (bytes_from (g.G.GuestBytes.mem c.args.ram.now) c.args.addr c.min-first.result)
    (bytes_from (g.G.GuestBytes.mem c.args.ram.now) (c.args.addr + c.from.result) rest)
    ∙ ap (λ (bs : List ℕ). c.args.self.now ++ bs)
    (ap (λ (n : ℕ). bytes_from (g.G.GuestBytes.mem c.args.ram.now) c.args.addr c.min-first.result ++
    bytes_from (g.G.GuestBytes.mem c.args.ram.now) (c.args.addr + n) rest) c.from.ensures
    ∙ (bytes_from-append (g.G.GuestBytes.mem c.args.ram.now) c.args.addr c.min-first.result rest ∙
    ap (bytes_from (g.G.GuestBytes.mem c.args.ram.now) c.args.addr) whole))))
