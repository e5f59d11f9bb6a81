-- The pages of a chain, as they are kept.
use Rattle.std.specs.Prelude.{ℕ, List, []}
use Rattle.vb_chain.specs.declared.pieces.Piece.{Piece}
use Rattle.vb_request.specs.declared.named.Kept.{Kept}
use Rattle.vb_request.specs.declared.named.Kept.TheVariants.{Listed, Pieces}
use Rattle.vb_request.specs.Report.{pages_of_pieces}

abbrev pub kept_pages : Kept → List ℕ
kept_pages (Listed listed) = listed.items
kept_pages (Pieces pieces) = pages_of_pieces pieces.items

abbrev pub kept_pieces : Kept → List Piece
kept_pieces (Listed listed) = []
kept_pieces (Pieces pieces) = pieces.items
