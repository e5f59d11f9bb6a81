use Rattle.std.proofs.Common.{◌≡◌, ◌∙◌, ◌<◌, sym, refl, arith, Bool, true, false, not, List, [], ◌∷◌, length}
use Rattle.std.specs.Prelude.{◌==◌, slice_index_or}
use Rattle.std.proofs.lemmas.Bool.Decides.{nat_tests}
use Rattle.vb_core.specs.{Pieces.pieces_in, declared.pieces.ChainPiece.ChainPiece}
use Rattle.vb_monitor.specs.Chains.{has_id}
use Rattle.vb_monitor.proofs.pieces.has_id.Goals as goal

twice : (b : Bool) → b ≡ not (not b)
twice true = refl
twice false = refl

has_none : (ps : List ChainPiece) → length ps ≡ 0 → false ≡ has_id (pieces_in ps)
unfolding pieces_in
has_none [] e = refl
has_none (p ∷ ps) e = absurd (omega (arith, e))

has_some : (ps : List ChainPiece) (d : ChainPiece) → 0 < length ps →
    ((slice_index_or ps 0 d).writable == 0) ≡ has_id (pieces_in ps)
unfolding pieces_in
has_some [] d lt = absurd (omega (arith, lt))
has_some (p ∷ ps) d lt = twice (p.writable == 0)

pub returns-then-is_empty : goal.returns-then-is_empty
returns-then-is_empty c =
    let e : (length c.args.pieces.now == 0) ≡ true = sym c.is_empty.ensures ∙ c.if-is_empty.true in
    has_none c.args.pieces.now (grind (arith, nat_tests, e))

pub returns : goal.returns
returns c =
    let e : (length c.args.pieces.now == 0) ≡ false = sym c.is_empty.ensures ∙ c.if-is_empty.false in
    has_some c.args.pieces.now _ (grind (arith, nat_tests, e))
