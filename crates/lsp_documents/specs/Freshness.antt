-- Whether the bytes put last of a document are still those of its diagnostics, in the code.
use Rattle.std.specs.Prelude.{◌≡◌, Option, Some, None}
use Rattle.lsp_model.specs.Answers.{Piece, bytes_put}
use Rattle.lsp_positions.specs.Texts.{columns_in}
use Rattle.lsp_positions.specs.declared.positions.Columns.{Columns}
use Rattle.lsp_documents.specs.Reports.{IsReport}
use Rattle.lsp_documents.specs.States.{Document}

-- the bytes put last are those of its diagnostics by these columns
abbrev pub IsShown : Columns → Document → Type 0
IsShown by d = (p : Piece) × IsReport (columns_in by) d p × (bytes_put p ≡ d.shown)

-- they are by the columns that are noted, if any are
abbrev pub IsFresh : Option Columns → Document → Type 0
IsFresh None d = Unit {0}
IsFresh (Some by) d = IsShown by d
