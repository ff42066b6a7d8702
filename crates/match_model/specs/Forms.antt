-- What the values of a type are (OCaml manual, 11.2 and 11.8.1; Maranget 2007, for complete signatures of constructors).
use Rattle.std.specs.Prelude.{◌≡◌, ℕ, zero, pred, ◌-◌, ◌^◌, List, [], ◌∷◌, ◌++◌, map, codes, Option, Some, None, if◌then◌else◌}
use Rattle.type_model.specs.Types.{Path, Typ, Typs, Var, Arrow, Tuple, Con, Nil, Cons}
use Rattle.type_model.specs.Substitutions.{apply}
use Rattle.type_model.specs.Origins.{same_path, list_of}
use Rattle.signature_model.specs.Declarations.{Name, Constructor, Label, Shape, Opaque, Variant, Labels, Declaration}
use Rattle.signature_model.specs.Changes.{argument}
use Rattle.match_model.specs.Values.{Value, Values, built, literal, opaque, cut_off, no_values, also_value}

-- a constructor of a type, with the types of what is in it
pub record Built : Type 0 where
  pub name : Name
  pub parts : List Typ

-- a constructor of this name with parts of these types
abbrev pub constructor : Name → List Typ → Built
constructor n ts = record { name = n; parts = ts }

-- what the values of a type are
pub data Form : Type 0 where
  -- these constructors and no others
  closed_form : List Built → Form
  -- these constructors and at least one more
  open_form : List Built → Form
  -- literals, told apart by their spelling
  literals : Form
  -- values that only names and `_` match
  no_form : Form

-- the declarations of types by their origins, and the exceptions
pub record World : Type 0 where
  pub declared : Path → Option Declaration
  pub exceptions : List Built

-- the origin of the built-in type of a number
abbrev pub built_in_number : ℕ → Path
built_in_number k = (2 ^ 64 - 1 - k) ∷ []

-- the labels of a record in the order of the declaration, with semicolons between them
abbrev pub joined : List Label → List ℕ
joined [] = []
joined (l ∷ []) = l.name
joined (l ∷ m ∷ ls) = l.name ++ codes "; " ++ joined (m ∷ ls)

-- `{l; m}`, the name of a record as a constructor
abbrev pub record_name : List Label → Name
record_name ls = codes "{" ++ joined ls ++ codes "}"

-- a declared constructor at arguments of its type: with one part where it has an argument, and else none
abbrev pub of_constructor : Typs → Constructor → Built
of_constructor ts k = constructor k.name (elim k.argument [ None ↦ [] | Some t ↦ apply (argument ts) t ∷ [] ])

-- what the values of a declared type at these arguments are
abbrev pub form_of_shape : Typs → Shape → Form
form_of_shape ts Opaque = no_form
form_of_shape ts (Variant ks) = closed_form (map (of_constructor ts) ks)
form_of_shape ts (Labels ls) = closed_form (constructor (record_name ls) (map (λ l. apply (argument ts) l.body) ls) ∷ [])

-- the first of several types; of none, the empty tuple
abbrev pub first_type : Typs → Typ
first_type Nil = Tuple Nil
first_type (Cons t ts) = t

-- what the values of the type of an origin are: the built-in types first, and then the declared ones
abbrev pub form_by_origin : World → Path → Typs → Form
form_by_origin w o ts =
    if same_path o (built_in_number 0) then literals
    else if same_path o (built_in_number 1) then literals
    else if same_path o (built_in_number 2) then literals
    else if same_path o (built_in_number 3) then literals
    else if same_path o (built_in_number 4) then closed_form (constructor (codes "()") [] ∷ [])
    else if same_path o (built_in_number 5) then closed_form (constructor (codes "false") [] ∷ constructor (codes "true") [] ∷ [])
    else if same_path o (built_in_number 6) then open_form w.exceptions
    else if same_path o (built_in_number 7) then closed_form (constructor (codes "[]") [] ∷ constructor (codes "::") (first_type ts ∷ Con o ts ∷ []) ∷ [])
    else elim (w.declared o) [ None ↦ no_form | Some d ↦ form_of_shape ts d.shape ]

-- a tuple is the one constructor of its type
abbrev pub tuple_name : Name
tuple_name = codes "(,)"

-- what the values of a type are
abbrev pub form_of : World → Typ → Form
form_of w (Var v) = no_form
form_of w (Arrow a b) = no_form
form_of w (Tuple ts) = closed_form (constructor tuple_name (list_of ts) ∷ [])
form_of w (Con o ts) = form_by_origin w o ts

-- the constructors that are known of a type
abbrev pub constructors_of : Form → List Built
constructors_of (closed_form ks) = ks
constructors_of (open_form ks) = ks
constructors_of literals = []
constructors_of no_form = []

-- a constructor is one of a list
pub data IsOne : Built → List Built → Type 0 where
  first : {k : Built} {ks : List Built} → IsOne k (k ∷ ks)
  later : {k l : Built} {ks : List Built} → IsOne k ks → IsOne k (l ∷ ks)

-- a value of a type, down to a depth; below it a value may be cut off
mutual
  pub data IsOf (w : World) : ℕ → Typ → Value → Type 0 where
    of_constructor' : {d : ℕ} {t : Typ} {k : Built} {vs : Values} → IsOne k (constructors_of (form_of w t)) → AreOf w (pred d) k.parts vs → IsOf w d t (built k.name vs)
    of_other : {d : ℕ} {t : Typ} {ks : List Built} → form_of w t ≡ open_form ks → IsOf w d t opaque
    of_literal' : {d : ℕ} {t : Typ} {n : Name} → form_of w t ≡ literals → IsOf w d t (literal n)
    of_no_form : {d : ℕ} {t : Typ} → form_of w t ≡ no_form → IsOf w d t opaque
    below : {t : Typ} → IsOf w zero t cut_off

  -- values in order, one of each type, down to a depth
  pub data AreOf (w : World) : ℕ → List Typ → Values → Type 0 where
    none : {d : ℕ} → AreOf w d [] no_values
    and_one : {d : ℕ} {t : Typ} {ts : List Typ} {v : Value} {vs : Values} → IsOf w d t v → AreOf w d ts vs → AreOf w d (t ∷ ts) (also_value v vs)
