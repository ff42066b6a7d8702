-- A text in two parts, and what columns count.
use Rattle.std.specs.Prelude.{ℕ, List, ◌++◌}
use Rattle.lsp_model.specs.Positions as model
use Rattle.lsp_positions.specs.declared.halves.Halves.{Halves}
use Rattle.lsp_positions.specs.declared.positions.Columns.{Columns}
use Rattle.lsp_positions.specs.declared.positions.Columns.TheVariants.{Utf16, Bytes}

-- the text that two parts are
abbrev pub whole : Halves → List ℕ
whole t = t.left.now ++ t.right.now

-- what columns count
abbrev pub columns_in : Columns → model.Columns
columns_in Utf16 = model.utf16
columns_in Bytes = model.bytes
