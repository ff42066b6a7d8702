-- What the values of the code mean.
pub use Rattle.pattern_matrix.specs.Cells.{member_of, members_of, typed_step, typed_of, cell_view, cells_view}
use Rattle.std.specs.Prelude.{List, map, Option, option_map, Vec}
use Rattle.std.specs.Global.{Global}
use Rattle.text_terms.specs.Bytes.{str_bytes}
use Rattle.match_model.specs.Values.{open_shape, of_built, of_spelling}
use Rattle.match_model.specs.Values.{Shape as plain}
use Rattle.match_model.specs.Forms.{tuple_name}
use Rattle.pattern_matrix.specs.Lines.{Line, shapes_in}
use Rattle.pattern_matrix.specs.Lines.{Head as PlainHead, built_head, literal_head}
use Rattle.pattern_matrix.specs.declared.patterns.Shape.{Shape, fold-Shape}
use Rattle.pattern_matrix.specs.declared.patterns.Shape.TheOpen.{Shape-F}
use Rattle.pattern_matrix.specs.declared.lines.Line.{Line as CodeLine}
use Rattle.pattern_matrix.specs.declared.columns.Head.{Head}
use Rattle.pattern_matrix.specs.declared.columns.Head.TheVariants as head

-- a shape whose parts are read already
abbrev pub shape_step : Shape-F plain → plain
shape_step Shape-F.Any = open_shape
shape_step (Shape-F.Con name parts) = of_built (str_bytes name) (shapes_in parts.items)
shape_step (Shape-F.Tuple parts) = of_built tuple_name (shapes_in parts.items)
shape_step (Shape-F.Literal n) = of_spelling (str_bytes n)

-- a shape of the code
abbrev pub shape_of : Shape → plain
shape_of = fold-Shape plain shape_step

-- a line of the code
abbrev pub line_view : CodeLine → Line
line_view l = cells_view l.cells.items

-- the lines of the code, in order
abbrev pub lines_view : List CodeLine → List Line
lines_view = map line_view

-- a head of the code
abbrev pub head_view : Head → PlainHead
head_view (head.Built n parts) = built_head (str_bytes n.now) parts
head_view (head.Literal n) = literal_head (str_bytes n.now)

-- the shapes that the code found, if it did
abbrev pub shapes_view : Option (Vec Shape Global) → Option (List plain)
shapes_view found = option_map (λ v. map shape_of v.items) found
