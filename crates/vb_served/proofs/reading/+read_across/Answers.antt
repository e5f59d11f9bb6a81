use Rattle.std.proofs.Common.{◌<◌, ◌≤◌, arith, ◌∙◌, ◌+◌, ◌-◌, ◌/◌, ◌%◌, length}
use Rattle.vb_ram.proofs.Outcome.{at_ok}
use Rattle.vb_request.proofs.Bytes.{run_is}
use Rattle.vb_served.proofs.ReadLemmas.{zeros_past, two_parts, no_more}
use Rattle.vb_served.proofs.reading.+read_across.Goals as goal

pub returns-then-address-from : goal.returns-then-address-from
returns-then-address-from g t c = c.fill.ensures.after (λ y e. e)
    ∙ zeros_past (g.G.GuestBytes.mem c.args.ram.now) c.args.address (length c.args.out.now)
    (omega (arith, c.if-address-from.true, c.from.ensures, c.pages.ensures))

pub returns-then-len-room : goal.returns-then-len-room
returns-then-len-room g t c =
    let mem = g.G.GuestBytes.mem c.args.ram.now in
    let front = length c.split_at_mut-first.result.0.now in
    let inside : c.args.address % 4096 + front ≤ 4096 =
    omega (arith, c.split_at_mut-first.ensures.front_len, c.min.ensures) in
    let page : c.args.address / 4096 < length mem =
    omega (arith, c.if-address-from.false, c.from.ensures, c.pages.ensures) in
    no_more mem c.args.address front (length c.args.out.now) c.read.new.out _
    (run_is mem c.args.address front c.read.new.out c.read.auto.out inside
    (at_ok c.read.result _ c.read.ensures.bytes
    (c.read.ensures.answers (record { page = page; bytes = inside }))))
    (omega (arith, c.if-len-room.true, c.min.ensures, c.split_at_mut-first.ensures.back_len))
    (omega (arith, c.if-len-room.true, c.min.ensures, c.split_at_mut-first.ensures.front_len))

pub returns : goal.returns
returns g t c =
    let mem = g.G.GuestBytes.mem c.args.ram.now in
    let front = length c.split_at_mut-first.result.0.now in
    let inside : c.args.address % 4096 + front ≤ 4096 =
    omega (arith, c.split_at_mut-first.ensures.front_len, c.min.ensures) in
    let page : c.args.address / 4096 < length mem =
    omega (arith, c.if-address-from.false, c.from.ensures, c.pages.ensures) in
    two_parts mem c.args.address (4096 - c.args.address % 4096) front _ (length c.args.out.now)
    _ _
    (run_is mem c.args.address front c.read.new.out c.read.auto.out inside
    (at_ok c.read.result _ c.read.ensures.bytes
    (c.read.ensures.answers (record { page = page; bytes = inside }))))
    c.read_across.ensures
    (omega (arith, c.if-len-room.false, c.min.ensures, c.split_at_mut-first.ensures.front_len))
    (omega (arith, c.if-len-room.false, c.min.ensures, c.split_at_mut-first.ensures.back_len))
