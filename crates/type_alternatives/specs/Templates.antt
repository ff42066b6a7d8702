-- How the outermost parts of values are written, with `_` for what stands inside; and which of their names no path reaches.
use Rattle.std.specs.Prelude.{ℕ, zero, suc, ◌-◌, List, [], ◌∷◌, ◌++◌, map, flat_map, codes, Option, Some, None, is_some, if◌then◌else◌}
use Rattle.signature_model.specs.Declarations.{Name}
use Rattle.type_alternatives.specs.Alternatives.{Named, Outermost, constructor, constant, cons, tuple, record_with}

-- a name by its path
abbrev pub written_by : Name → Option (List ℕ) → List ℕ
written_by name None = name
written_by name (Some path) = path

-- a name as it is written
abbrev pub written : Named → List ℕ
written n = written_by n.name n.path

-- texts with a sign before each
abbrev pub before_each : List ℕ → List (List ℕ) → List ℕ
before_each sign [] = []
before_each sign (t ∷ ts) = sign ++ (t ++ before_each sign ts)

-- texts with a sign between them
abbrev pub separated : List ℕ → List (List ℕ) → List ℕ
separated sign [] = []
separated sign (t ∷ ts) = t ++ before_each sign ts

-- a text so many times
abbrev pub repeated : ℕ → List ℕ → List ℕ
repeated zero t = []
repeated (suc n) t = t ++ repeated n t

-- (_, _), with a `_` for each part; the first one is always there
abbrev pub tuple_text : ℕ → List ℕ
tuple_text parts = codes "(_" ++ (repeated (parts - 1) (codes ", _") ++ codes ")")

-- l = _
abbrev pub field_text : Named → List ℕ
field_text n = written n ++ codes " = _"

-- { l = _; m = _ }
abbrev pub record_text : List Named → List ℕ
record_text ns = codes "{ " ++ (separated (codes "; ") (map field_text ns) ++ codes " }")

-- the names in an outermost part
abbrev pub named_in : Outermost → List Named
named_in (constructor n a) = n ∷ []
named_in (constant s) = []
named_in cons = []
named_in (tuple parts) = []
named_in (record_with ns) = ns

-- the first of some names that no path reaches
abbrev pub first_hidden : List Named → Option Name
first_hidden [] = None
first_hidden (n ∷ ns) = if is_some n.path then first_hidden ns else Some n.name

-- the first name in some outermost parts that no path reaches
abbrev pub hidden_among : List Outermost → Option Name
hidden_among os = first_hidden (flat_map named_in os)
