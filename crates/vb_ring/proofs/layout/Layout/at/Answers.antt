use Rattle.std.proofs.Common.{◌≡◌, rules}
use Rattle.vb_ring.{proofs.Shapes.fits_at, specs.{Layout.layout_of, declared.layout.Layout.Layout}}
use Rattle.vb_ring.proofs.layout.Layout.at.Goals as goal

pub returns-clause-fits : goal.returns-clause-fits
returns-clause-fits c =
    let made : Layout =
    record { table = c.from.result; avail = c.area_at.result; used = c.area_at-2.result } in
    let same : made ≡ layout_of c.args.page c.args.size = search rules in
    rw same (fits_at c.args.page c.args.size c.requires)
