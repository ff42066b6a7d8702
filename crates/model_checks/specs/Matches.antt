-- Types with constructors, and lines of patterns over them.
use Rattle.std.specs.Prelude.{[], ◌∷◌, codes, Some, None, false, if◌then◌else◌}
use Rattle.type_model.specs.Types.{Typ, Var, Tuple, Con, Nil, Cons}
use Rattle.type_model.specs.Origins.{same_path}
use Rattle.signature_model.specs.Declarations.{Name, Own, Variant, Labels, Declaration, built_in}
use Rattle.typing_model.specs.BuiltIns.{int_type, bool_type}
use Rattle.match_model.specs.Values.{Pattern, of_constructor, no_patterns, also_pattern, Shape, Shapes, of_built, no_shapes, also_shape}
use Rattle.match_model.specs.Forms.{World}
use Rattle.match_model.specs.Rows.{Row}
use Rattle.match_model.specs.Shown.{Line}

-- type 'a option = None | Some of 'a
abbrev pub option : Declaration
option = record { arity = 1; definition = Own (1 ∷ []); shape = Variant (record { name = codes "None"; place = built_in 0; argument = None } ∷ record { name = codes "Some"; place = built_in 0; argument = Some (Var 0) } ∷ []) }

-- type t = { a : int; b : bool }
abbrev pub two_labels : Declaration
two_labels = record { arity = 0; definition = Own (2 ∷ []); shape = Labels (record { name = codes "a"; place = built_in 0; is_mutable = false; body = int_type } ∷ record { name = codes "b"; place = built_in 0; is_mutable = false; body = bool_type } ∷ []) }

-- both of them and no exception
abbrev pub world : World
world = record { declared = λ o. if same_path o (1 ∷ []) then Some option else if same_path o (2 ∷ []) then Some two_labels else None; exceptions = [] }

-- int option
abbrev pub int_option : Typ
int_option = Con (1 ∷ []) (Cons int_type Nil)

-- a record of two booleans
abbrev pub record_type : Typ
record_type = Con (2 ∷ []) Nil

-- bool * bool
abbrev pub two_booleans : Typ
two_booleans = Tuple (Cons bool_type (Cons bool_type Nil))

-- a constructor alone, with one part, and with two
abbrev pub alone : Name → Pattern
alone n = of_constructor n no_patterns

-- a constructor with one pattern
abbrev pub with_one : Name → Pattern → Pattern
with_one n p = of_constructor n (also_pattern p no_patterns)

-- a constructor with two patterns
abbrev pub with_two : Name → Pattern → Pattern → Pattern
with_two n p q = of_constructor n (also_pattern p (also_pattern q no_patterns))

-- the same of shapes
abbrev pub shape_alone : Name → Shape
shape_alone n = of_built n no_shapes

-- a shape with two parts
abbrev pub shape_of_two : Name → Shape → Shape → Shape
shape_of_two n s t = of_built n (also_shape s (also_shape t no_shapes))

-- one column
abbrev pub column : Pattern → Line
column p = p ∷ []

-- one shape
abbrev pub one : Shape → Shapes
one s = also_shape s no_shapes

-- a row of one column without a guard
abbrev pub row : Pattern → Row
row p = record { patterns = also_pattern p no_patterns; guarded = false }
