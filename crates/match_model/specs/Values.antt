-- Values, patterns and shapes, and which values are in them (Maranget 2007, Warnings for pattern matching).
use Rattle.std.specs.Prelude.{Bool, true, false, ◌&&◌, ◌||◌}
use Rattle.signature_model.specs.Declarations.{Name}
use Rattle.signature_model.specs.Components.{same_name}

mutual
  -- a value, as far as patterns tell it from others
  pub data Value : Type 0 where
    -- A v, v :: v, a record: a constructor with the values in it
    built : Name → Values → Value
    -- 1, "a"
    literal : Name → Value
    -- of a type that only names and `_` match
    opaque : Value
    -- a part that is so deep that no pattern tells it from others
    cut_off : Value

  -- values in order
  pub data Values : Type 0 where
    no_values : Values
    also_value : Value → Values → Values

mutual
  -- a pattern, without names and types
  pub data Pattern : Type 0 where
    -- x, _
    any : Pattern
    -- A p, p :: p, (p, p), { l = p }
    of_constructor : Name → Patterns → Pattern
    -- 1, "a"
    of_literal : Name → Pattern
    -- p | p
    either : Patterns → Pattern

  -- patterns in order
  pub data Patterns : Type 0 where
    no_patterns : Patterns
    also_pattern : Pattern → Patterns → Patterns

mutual
  -- a shape of values, by which missed ones are told
  pub data Shape : Type 0 where
    -- _
    open_shape : Shape
    of_built : Name → Shapes → Shape
    of_spelling : Name → Shape

  -- shapes in order, one of each column or part
  pub data Shapes : Type 0 where
    no_shapes : Shapes
    also_shape : Shape → Shapes → Shapes

-- a test of what is in a value of a constructor; `deep` is the answer for what is cut off
abbrev pub if_built : Bool → Name → Value → (Values → Bool) → Bool
if_built deep n (built m vs) test = same_name n m && test vs
if_built deep n (literal m) test = false
if_built deep n opaque test = false
if_built deep n cut_off test = deep

-- whether a value is the literal of this spelling; `deep` is the answer for what is cut off
abbrev pub if_literal : Bool → Name → Value → Bool
if_literal deep n (built m vs) = false
if_literal deep n (literal m) = same_name n m
if_literal deep n opaque = false
if_literal deep n cut_off = deep

-- whether a pattern matches a value; what is cut off is matched
abbrev mutual
  pub matches : Pattern → Value → Bool
  matches any v = true
  matches (of_constructor n ps) v = if_built true n v (match_all ps)
  matches (of_literal n) v = if_literal true n v
  matches (either ps) v = matches_some ps v

  -- whether patterns match values one by one
  pub match_all : Patterns → Values → Bool
  match_all no_patterns no_values = true
  match_all no_patterns (also_value v vs) = false
  match_all (also_pattern p ps) no_values = false
  match_all (also_pattern p ps) (also_value v vs) = matches p v && match_all ps vs

  -- whether one of several patterns matches a value
  pub matches_some : Patterns → Value → Bool
  matches_some no_patterns v = false
  matches_some (also_pattern p ps) v = matches p v || matches_some ps v

-- whether a value is of a shape
abbrev mutual
  pub is_in : Shape → Value → Bool
  is_in open_shape v = true
  is_in (of_built n ss) v = if_built false n v (all_in ss)
  is_in (of_spelling n) v = if_literal false n v

  -- whether values are of shapes one by one
  pub all_in : Shapes → Values → Bool
  all_in no_shapes no_values = true
  all_in no_shapes (also_value v vs) = false
  all_in (also_shape s ss) no_values = false
  all_in (also_shape s ss) (also_value v vs) = is_in s v && all_in ss vs
