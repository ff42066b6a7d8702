-- How shapes of the code are printed.
use Rattle.std.specs.Prelude.{codes, ◌≡◌, ℕ, ◌==◌, ◌<◌, ◌||◌, Bool, true, List, [], ◌++◌, length, take, drop, slice_index, Option, Some, None}
use Rattle.match_model.specs.Printed as model
use Rattle.match_model.specs.Printed.{label_names, text_of, first_name, behind_first}
use Rattle.match_model.specs.Values.{Shapes, no_shapes, also_shape}
use Rattle.signature_model.specs.Declarations.{Name}
use Rattle.pattern_matrix.specs.declared.printing.Within.{Within}
use Rattle.pattern_matrix.specs.declared.printing.Within.TheVariants as within

-- where a shape of the code stands
abbrev pub within_of : Within → model.Within
within_of within.Alone = model.alone
within_of within.LeftOfCons = model.left_of_cons
within_of within.Argument = model.as_argument

-- whether a byte of a record's name is no part of a label: a brace, a semicolon or a space
abbrev pub is_mark : ℕ → Bool
is_mark b = b == 123 || b == 125 || b == 59 || b == 32

-- the bytes before the first mark belong to the label; where there is no mark, no label ends
abbrev pub IsFirstMark : List ℕ → Option ℕ → Type 0
IsFirstMark bs None = (label : List ℕ) → label_names bs label ≡ []
IsFirstMark bs (Some i) = (i < length bs) × (is_mark (slice_index bs i) ≡ true) × ((label : List ℕ) → label_names bs label ≡ label_names (drop i bs) (label ++ take i bs))

-- shapes with commas between them, the first after this mark
abbrev pub listed_after : List ℕ → Shapes → List ℕ
listed_after mark no_shapes = []
listed_after mark (also_shape s ss) = mark ++ text_of model.alone s ++ model.listed_rest ss

-- fields with semicolons between them, the first after this mark
abbrev pub fields_after : List ℕ → List Name → Shapes → List ℕ
fields_after mark ns no_shapes = []
fields_after mark ns (also_shape s ss) = mark ++ first_name ns ++ codes " = " ++ text_of model.alone s ++ model.fields_rest (behind_first ns) ss
