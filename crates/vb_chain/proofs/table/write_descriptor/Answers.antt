use Rattle.std.proofs.Common.{◌≡◌, ◌*◌, ℕ, List, ap, subst, arith, length}
use Rattle.vb_ram.{specs.Pages.Wrote, proofs.Outcome.at_ok}
use Rattle.vb_chain.{specs.Table.bytes_of, proofs.ReadLaws.descriptor_written}
use Rattle.vb_chain.proofs.table.write_descriptor.Goals as goal

pub returns-clause-put : goal.returns-clause-put
returns-clause-put g c = let old = g.G.GuestBytes.mem c.args.ram.now in
    let new = g.G.GuestBytes.mem c.write.new.self in
    let len : length c.bytes_of-bytes.result ≡ 16 = ap length c.bytes_of-bytes.ensures.bytes in
    let wrote : Wrote old new c.args.page (16 * c.from.result) c.bytes_of-bytes.result =
    at_ok c.write.result _ c.write.ensures.bytes (c.write.ensures.answers (record {
      page = c.requires.page;
      bytes = omega (arith, len, c.from.ensures, c.requires.index);
    }) c.requires.backed) in
    let placed : Wrote old new c.args.page (16 * c.args.index) (bytes_of c.args.descriptor) =
    subst (λ (n : ℕ). Wrote old new c.args.page (16 * n) (bytes_of c.args.descriptor))
    c.from.ensures (subst (λ (xs : List ℕ). Wrote old new c.args.page (16 * c.from.result) xs)
    c.bytes_of-bytes.ensures.bytes wrote) in
    descriptor_written old new c.args.page c.args.index c.args.descriptor
    c.bytes_of-bytes.ensures.fits placed

pub returns-clause-rest : goal.returns-clause-rest
returns-clause-rest g c = grind (arith, at_ok)
