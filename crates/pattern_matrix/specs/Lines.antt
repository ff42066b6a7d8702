-- Lines of patterns that know all constructors of their types, and what a constructor or a literal leaves of them.
use Rattle.std.specs.Prelude.{ℕ, zero, suc, Bool, false, ◌||◌, List, [], ◌∷◌, ◌++◌, Option, Some, None, option_map, unwrap_or, if◌then◌else◌}
use Rattle.std.specs.Option.{option_or}
use Rattle.signature_model.specs.Declarations.{Name}
use Rattle.signature_model.specs.Components.{same_name}
use Rattle.match_model.specs.Values.{Shape, Shapes, open_shape, of_built, no_shapes, also_shape}

-- a constructor of a type, and how many parts it has
pub record Member : Type 0 where
  pub name : Name
  pub parts : ℕ

-- a pattern that knows all constructors of its type
mutual
  pub data Typed : Type 0 where
    -- x, _
    any : Typed
    -- A p: all constructors of its type, its name, its parts
    con : List Member → Name → Typeds → Typed
    -- 1, "a"
    lit : Name → Typed
    -- p | p
    either : Typeds → Typed

  -- patterns, one after another
  pub data Typeds : Type 0 where
    none : Typeds
    also : Typed → Typeds → Typeds

-- the patterns of a list, one after another
abbrev pub listed : List Typed → Typeds
listed [] = none
listed (p ∷ ps) = also p (listed ps)

-- the patterns as a list
abbrev pub items_of : Typeds → List Typed
items_of none = []
items_of (also p ps) = p ∷ items_of ps

-- the patterns of a row, from some column on
abbrev pub Line : Type 0
Line = List Typed

-- as many patterns that match anything
abbrev pub opened : ℕ → Line
opened zero = []
opened (suc n) = any ∷ opened n

-- what a value begins with: a constructor with its number of parts, or a literal
pub data Head : Type 0 where
  built_head : Name → ℕ → Head
  literal_head : Name → Head

-- how many parts stand in place of a head
abbrev pub width_of : Head → ℕ
width_of (built_head n parts) = parts
width_of (literal_head n) = 0

-- a constructor as a head
abbrev pub head_of : Member → Head
head_of k = built_head k.name k.parts

-- whether the head is the constructor of a name
abbrev pub is_built : Head → Name → Bool
is_built (built_head k parts) n = same_name k n
is_built (literal_head k) n = false

-- whether the head is the literal of a spelling
abbrev pub is_literal : Head → Name → Bool
is_literal (built_head k parts) n = false
is_literal (literal_head k) n = same_name k n

-- what a line asks of the parts of a head, where it has a place for it
abbrev mutual
  pub under : Head → Typed → Line → List Line
  under h any rest = (opened (width_of h) ++ rest) ∷ []
  under h (con all n ps) rest = if is_built h n then (items_of ps ++ rest) ∷ [] else []
  under h (lit n) rest = if is_literal h n then rest ∷ [] else []
  under h (either ps) rest = under_each h ps rest

  -- the same of each of several alternatives
  pub under_each : Head → Typeds → Line → List Line
  under_each h none rest = []
  under_each h (also p ps) rest = under h p rest ++ under_each h ps rest

-- what a head leaves of a line, by the line's first pattern
abbrev pub line_under : Head → Line → List Line
line_under h [] = []
line_under h (p ∷ rest) = under h p rest

-- what a head leaves of lines
abbrev pub lines_under : Head → List Line → List Line
lines_under h [] = []
lines_under h (l ∷ ls) = line_under h l ++ lines_under h ls

-- the lines without a head in the first column
abbrev mutual
  pub without_head : Typed → Line → List Line
  without_head any rest = rest ∷ []
  without_head (con all n ps) rest = []
  without_head (lit n) rest = []
  without_head (either ps) rest = each_without_head ps rest

  -- the same of each of several alternatives
  pub each_without_head : Typeds → Line → List Line
  each_without_head none rest = []
  each_without_head (also p ps) rest = without_head p rest ++ each_without_head ps rest

-- what is left of a line where its first pattern takes any value
abbrev pub line_without_head : Line → List Line
line_without_head [] = []
line_without_head (p ∷ rest) = without_head p rest

-- what is left of each of these lines where its first pattern takes any value
abbrev pub headless : List Line → List Line
headless [] = []
headless (l ∷ ls) = line_without_head l ++ headless ls

-- whether a constructor heads a line
abbrev mutual
  pub is_head : Name → Typed → Bool
  is_head k any = false
  is_head k (con all n ps) = same_name k n
  is_head k (lit n) = false
  is_head k (either ps) = some_is_head k ps

  -- the same of some of several alternatives
  pub some_is_head : Name → Typeds → Bool
  some_is_head k none = false
  some_is_head k (also p ps) = is_head k p || some_is_head k ps

-- whether a constructor heads a line
abbrev pub heads_line : Name → Line → Bool
heads_line k [] = false
heads_line k (p ∷ rest) = is_head k p

-- whether a constructor heads some line
abbrev pub heads_some : Name → List Line → Bool
heads_some k [] = false
heads_some k (l ∷ ls) = heads_line k l || heads_some k ls

-- all constructors of the type of a column, as its first constructor has them; none where it has no constructor
abbrev mutual
  pub family_in : Typed → Option (List Member)
  family_in any = None
  family_in (con all n ps) = Some all
  family_in (lit n) = None
  family_in (either ps) = family_in_some ps

  -- the same of the first of several alternatives that has a constructor
  pub family_in_some : Typeds → Option (List Member)
  family_in_some none = None
  family_in_some (also p ps) = option_or (family_in p) (family_in_some ps)

-- the same of a line's first pattern
abbrev pub family_of_line : Line → Option (List Member)
family_of_line [] = None
family_of_line (p ∷ rest) = family_in p

-- the same of the first column of lines
abbrev pub family : List Line → List Member
family [] = []
family (l ∷ ls) = unwrap_or (family_of_line l) (family ls)

-- the first that heads no line
abbrev pub first_absent : List Member → List Line → Option Member
first_absent [] ls = None
first_absent (k ∷ ks) ls = if heads_some k.name ls then first_absent ks ls else Some k

-- the shapes of a list, one after another
abbrev pub shapes_in : List Shape → Shapes
shapes_in [] = no_shapes
shapes_in (s ∷ ss) = also_shape s (shapes_in ss)

-- so many shapes of any value
abbrev pub open_shapes : ℕ → List Shape
open_shapes zero = []
open_shapes (suc n) = open_shape ∷ open_shapes n

-- a constructor with open parts
abbrev pub open_built : Member → Shape
open_built k = of_built k.name (shapes_in (open_shapes k.parts))

-- the shape of the first column, or None where all constructors of its type head a line
abbrev pub column_by : List Member → List Line → Option Shape
column_by [] ls = Some open_shape
column_by (k ∷ ks) ls = option_map open_built (first_absent (k ∷ ks) ls)

-- the shape of the first column, by the constructors of its type
abbrev pub column : List Line → Option Shape
column ls = column_by (family ls) ls
