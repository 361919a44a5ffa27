-- The pieces of a text.
use Rattle.std.specs.Prelude.{ℕ, List}
use Rattle.std.specs.Fmt.{decimal}
use Rattle.hm_names.specs.Servers.{server_text}
use Rattle.hm_commands.specs.declared.piece.Piece.{Piece}
use Rattle.hm_commands.specs.declared.piece.Piece.TheVariants as piece_is

-- the text of a piece
abbrev pub piece_text : Piece → List ℕ
piece_text (piece_is.Text text) = text.now
piece_text (piece_is.Bytes bytes) = bytes.now
piece_text (piece_is.Number number) = decimal number
piece_text (piece_is.Server server) = server_text server.now
