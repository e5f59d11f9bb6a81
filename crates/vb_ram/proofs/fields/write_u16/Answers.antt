use Rattle.std.proofs.Common.{◌≡◌, subst, ap, length, arith, List, ℕ}
use Rattle.vb_ram.{proofs.Outcome.at_ok, specs.Pages.Wrote, proofs.FieldLaws.put_2}
use Rattle.vb_ram.proofs.fields.write_u16.Goals as goal

pub returns-clause-put : goal.returns-clause-put
returns-clause-put g c =
    let len : length c.to_le_bytes-bytes.result ≡ 2 = ap length c.to_le_bytes-bytes.ensures in
    let wrote = at_ok c.write.result _ c.write.ensures.bytes (c.write.ensures.answers (record {
      page = c.requires.covers.page;
      bytes = omega (arith, len, c.requires.covers.bytes);
    }) c.requires.backed) in put_2 _ _ _ _ _ c.ranges.value.fits
    (subst (λ (w : List ℕ). Wrote (g.G.GuestBytes.mem c.args.ram.now)
    (g.G.GuestBytes.mem c.write.new.self) c.args.page c.args.offset w)
    c.to_le_bytes-bytes.ensures wrote)
