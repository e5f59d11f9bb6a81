-- The pieces that plain data says.
use Rattle.std.specs.Prelude.{◌==◌, not, List, map}
use Rattle.vb_chain.specs.declared.pieces.Piece.{Piece}
use Rattle.vb_core.specs.declared.pieces.ChainPiece.{ChainPiece}

abbrev pub piece_in : ChainPiece → Piece
piece_in b = record { addr = b.address; len = b.length; writable = not (b.writable == 0) }

unfoldable pub pieces_in : List ChainPiece → List Piece
pieces_in buffers = map piece_in buffers
