-- How a shape is printed: as a pattern (OCaml manual, 11.6).
use Rattle.std.specs.Prelude.{ℕ, ◌==◌, Bool, true, false, List, [], ◌∷◌, ◌++◌, codes, if◌then◌else◌}
use Rattle.signature_model.specs.Declarations.{Name}
use Rattle.signature_model.specs.Components.{same_name}
use Rattle.match_model.specs.Forms.{tuple_name}
use Rattle.match_model.specs.Values.{Shape, Shapes, open_shape, of_built, of_spelling, no_shapes, also_shape}

-- where a shape stands: by itself, left of ::, or as the argument of a constructor
pub data Within : Type 0 where
  alone : Within
  left_of_cons : Within
  as_argument : Within

-- whether a constructor with an argument stands in parentheses there
abbrev pub wraps_built : Within → Bool
wraps_built alone = false
wraps_built left_of_cons = false
wraps_built as_argument = true

-- whether :: stands in parentheses there
abbrev pub wraps_cons : Within → Bool
wraps_cons alone = false
wraps_cons left_of_cons = true
wraps_cons as_argument = true

-- a text, in parentheses where they are wanted
abbrev pub wrapped : Bool → List ℕ → List ℕ
wrapped true text = codes "(" ++ text ++ codes ")"
wrapped false text = text

-- whether a name is that of a record: it begins with a brace
abbrev pub is_record : Name → Bool
is_record [] = false
is_record (b ∷ bs) = b == 123

-- the labels in the name of a record, one after the other: what stands between the braces and the marks
abbrev pub label_names : Name → List ℕ → List Name
label_names [] label = []
label_names (b ∷ bs) label =
    if b == 123 then label_names bs []
    else if b == 125 then label ∷ []
    else if b == 59 then label ∷ label_names bs []
    else if b == 32 then label_names bs label
    else label_names bs (label ++ b ∷ [])

-- the first of some names, or the empty one
abbrev pub first_name : List Name → Name
first_name [] = []
first_name (n ∷ ns) = n

-- the names behind the first
abbrev pub behind_first : List Name → List Name
behind_first [] = []
behind_first (n ∷ ns) = ns

abbrev mutual
  -- the text of a shape
  pub text_of : Within → Shape → List ℕ
  text_of w open_shape = codes "_"
  text_of w (of_spelling n) = n
  text_of w (of_built n ss) =
      if same_name n tuple_name then codes "(" ++ listed ss ++ codes ")"
      else if same_name n (codes "::") then wrapped (wraps_cons w) (cons_of ss)
      else if is_record n then codes "{ " ++ fields (label_names n []) ss ++ codes " }"
      else applied w n ss

  -- s, s
  pub listed : Shapes → List ℕ
  listed no_shapes = []
  listed (also_shape s ss) = text_of alone s ++ listed_rest ss

  -- the shapes behind the first, each with a comma in front of it
  pub listed_rest : Shapes → List ℕ
  listed_rest no_shapes = []
  listed_rest (also_shape s ss) = codes ", " ++ text_of alone s ++ listed_rest ss

  -- s :: s
  pub cons_of : Shapes → List ℕ
  cons_of no_shapes = []
  cons_of (also_shape s ss) = text_of left_of_cons s ++ cons_rest ss

  -- the shape behind ::
  pub cons_rest : Shapes → List ℕ
  cons_rest no_shapes = []
  cons_rest (also_shape s ss) = codes " :: " ++ text_of alone s

  -- l = s; m = s
  pub fields : List Name → Shapes → List ℕ
  fields ns no_shapes = []
  fields ns (also_shape s ss) = first_name ns ++ codes " = " ++ text_of alone s ++ fields_rest (behind_first ns) ss

  -- the fields behind the first, each with a semicolon in front of it
  pub fields_rest : List Name → Shapes → List ℕ
  fields_rest ns no_shapes = []
  fields_rest ns (also_shape s ss) = codes "; " ++ first_name ns ++ codes " = " ++ text_of alone s ++ fields_rest (behind_first ns) ss

  -- A, A s
  pub applied : Within → Name → Shapes → List ℕ
  applied w n no_shapes = n
  applied w n (also_shape s ss) = wrapped (wraps_built w) (n ++ codes " " ++ text_of as_argument s)
