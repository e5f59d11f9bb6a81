use Rattle.std.proofs.Common.{subst}
use Rattle.{memchr.specs.Find.{IsFirstByte, is_byte}, vb_script.proofs.Cuts.{cut_found, not_cut}}
use Rattle.vb_script.proofs.words.cut_at.Goals as goal

pub returns-in-Some-clause-split : goal.returns-in-Some-clause-split
returns-in-Some-clause-split c =
    cut_found c.args.byte c.args.text.now c.in-Some.end
    (subst (λ found. IsFirstByte (is_byte c.args.byte) c.args.text.now found) c.in-Some.is c.first_place.ensures)

pub returns-in-None-clause-split : goal.returns-in-None-clause-split
returns-in-None-clause-split c =
    not_cut c.args.byte c.args.text.now
    (subst (λ found. IsFirstByte (is_byte c.args.byte) c.args.text.now found) c.in-None.is c.first_place.ensures)
