-- What the patterns and the cells of the code mean.
use Rattle.std.specs.Prelude.{List, map}
use Rattle.text_terms.specs.Bytes.{str_bytes}
use Rattle.pattern_matrix.specs.Lines.{Member, Typed, any, con, lit, either, listed, Line}
use Rattle.pattern_matrix.specs.declared.patterns.Built.{Built}
use Rattle.pattern_matrix.specs.declared.patterns.Pat.{Pat, fold-Pat}
use Rattle.pattern_matrix.specs.declared.patterns.Pat.TheOpen.{Pat-F}
use Rattle.pattern_matrix.specs.declared.columns.Cell.{Cell}
use Rattle.pattern_matrix.specs.declared.columns.Cell.TheVariants as cell

-- a constructor of the code
abbrev pub member_of : Built → Member
member_of k = record { name = str_bytes k.name; parts = k.parts }

-- the constructors of the code, in order
abbrev pub members_of : List Built → List Member
members_of = map member_of

-- a pattern whose parts are read already
abbrev pub typed_step : Pat-F Typed → Typed
typed_step Pat-F.Any = any
typed_step (Pat-F.Con all name parts) = con (members_of all.value.items) (str_bytes name) (listed parts.items)
typed_step (Pat-F.Literal n) = lit (str_bytes n)
typed_step (Pat-F.Either ps) = either (listed ps.items)

-- a pattern with all constructors of its type
abbrev pub typed_of : Pat → Typed
typed_of = fold-Pat Typed typed_step

-- a cell of a line: any value, or a pattern
abbrev pub cell_view : Cell → Typed
cell_view cell.Any = any
cell_view (cell.Of p) = typed_of p.now

-- the cells of a line
abbrev pub cells_view : List Cell → Line
cells_view = map cell_view
