-- The label of a name among those of a declaration of the code.
use Rattle.std.specs.Prelude.{List, [], ◌∷◌, Option, Some, None, if◌then◌else◌}
use Rattle.std.specs.Str.{bytes_eq}
use Rattle.text_terms.specs.Bytes.{str_bytes}
use Rattle.signature_model.specs.Declarations.{Name}
use Rattle.env_table.specs.declared.entries.Label.{Label}
use Rattle.env_table.specs.declared.entries.Shape.{Shape}
use Rattle.env_table.specs.declared.entries.Shape.TheVariants as shape

-- the labels of a shape of the code
abbrev pub labels_here : Shape → List Label
labels_here (shape.Labels ls) = ls.items
labels_here _ = []

-- the first label of a name
abbrev pub label_here : Name → List Label → Option Label
label_here x [] = None
label_here x (l ∷ ls) = if bytes_eq (str_bytes l.name) x then Some l else label_here x ls
