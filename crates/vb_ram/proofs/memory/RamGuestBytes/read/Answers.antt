use Rattle.std.{proofs.Common.{◌+◌, ◌<◌, length, ap, arith}, proofs.lemmas.Grind.common_steps}
use Rattle.vb_ram.{proofs.PageLemmas.byte_read, specs.Pages.{Pages, Covers, byte_at}}
use Rattle.vb_ram.proofs.memory.RamGuestBytes.read.Goals as goal

pub returns-in-Some-clause-bytes : goal.returns-in-Some-clause-bytes
returns-in-Some-clause-bytes c k h =
    let covers : Covers c.args.self.now c.args.page c.args.offset (length c.args.out.now) =
    c.in_ok-check.ensures.ok in
    let there : c.args.page < length c.self.inside.pages.items =
    omega (arith, covers.page, ap (λ (mem : Pages). length mem) c.self.view_is) in
    let is = byte_read c.self.inside.pages.items c.args.page (c.args.offset + k) _ there
    c.index.ensures in
    let seen = ap (λ (mem : Pages). byte_at mem c.args.page (c.args.offset + k)) c.self.view_is in
    grind (arith, common_steps, is, seen, c.in-Some.is, c.get.ensures.read k h)

pub returns-in-None-clause-bytes : goal.returns-in-None-clause-bytes
returns-in-None-clause-bytes c k h =
    let covers : Covers c.args.self.now c.args.page c.args.offset (length c.args.out.now) =
    c.in_ok-check.ensures.ok in
    let there : c.args.page < length c.self.inside.pages.items =
    omega (arith, covers.page, ap (λ (mem : Pages). length mem) c.self.view_is) in
    let is = byte_read c.self.inside.pages.items c.args.page (c.args.offset + k) _ there
    c.index.ensures in
    let seen = ap (λ (mem : Pages). byte_at mem c.args.page (c.args.offset + k)) c.self.view_is in
    grind (arith, common_steps, is, seen, c.in-None.is)
