-- The outermost parts that a value of a type may have.
use Rattle.std.specs.Prelude.{◌≡◌, ℕ, ◌+◌, ◌-◌, ◌^◌, ◌==◌, nat_lt, List, [], ◌∷◌, map, codes, length, Option, Some, None, option_map, if◌then◌else◌}
use Rattle.text_terms.specs.Bytes.{str_bytes}
use Rattle.type_model.specs.Types.{Path}
use Rattle.type_nodes.specs.Nodes.{Node, Var, Rigid, Link, Arrow, Tuple, Con}
use Rattle.type_nodes.specs.Links.{reading}
use Rattle.signature_model.specs.Declarations.{Name}
use Rattle.signature_model.specs.Entries as rules
use Rattle.env_table.specs.declared.entries.Entry.{Entry}
use Rattle.env_table.specs.declared.entries.Constructor.{Constructor}
use Rattle.env_table.specs.declared.entries.Label.{Label}
use Rattle.env_table.specs.declared.entries.Declaration.{Declaration}
use Rattle.env_table.specs.declared.entries.Shape.{Shape}
use Rattle.env_table.specs.declared.entries.Shape.TheVariants as shape
use Rattle.type_alternatives.specs.declared.values.PathTo.{PathTo}
use Rattle.type_alternatives.specs.declared.values.Argument.{Argument}
use Rattle.type_alternatives.specs.declared.values.Argument.TheVariants as argument
use Rattle.type_alternatives.specs.declared.values.Alternative.{Alternative}
use Rattle.type_alternatives.specs.declared.values.Alternative.TheVariants as code
use Rattle.type_alternatives.specs.declared.values.Alternatives.{Alternatives}
use Rattle.type_alternatives.specs.declared.values.Alternatives.TheVariants as found
use Rattle.type_alternatives.specs.Parts.{part_naming, IsWritten}
use Rattle.type_alternatives.specs.Standing.{IsDeclared, IsUndeclared}

-- a name, and how it is written, where a path reaches it
pub record Named : Type 0 where
  pub name : Name
  pub path : Option (List ℕ)

-- the outermost part of a value: a constructor and what it is applied to, a constant, `::`, a tuple of so many parts, or a record with these labels
pub data Outermost : Type 0 where
  constructor : Named → Argument → Outermost
  constant : List ℕ → Outermost
  cons : Outermost
  tuple : ℕ → Outermost
  record_with : List Named → Outermost

-- the values of a type: those with one of these outermost parts, functions, those of a literal, or values of which nothing is told
pub data Values : Type 0 where
  known : List Outermost → Values
  functions : Values
  literal : List ℕ → Values
  untold : Values

-- a name of the code, with its path
abbrev pub named_of : PathTo → Named
named_of p = record { name = str_bytes p.name; path = option_map str_bytes p.path }

-- an outermost part of the code
abbrev pub outermost_of : Alternative → Outermost
outermost_of (code.Constructor p a) = constructor (named_of p) a
outermost_of (code.Constant s) = constant s.now
outermost_of code.Cons = cons
outermost_of (code.Tuple parts) = tuple parts
outermost_of (code.Record ps) = record_with (map named_of ps.items)

-- what the code found of the values of a type
abbrev pub values_of : Alternatives → Values
values_of (found.Known list) = known (map outermost_of list.items)
values_of found.Arrow = functions
values_of (found.Literal s) = literal s.now
values_of found.Unknown = untold

-- what a constructor is applied to: a tuple where the type left of its arrow is one
abbrev pub tuple_or_one : Option Node → Argument
tuple_or_one None = argument.One
tuple_or_one (Some (Var level scope)) = argument.One
tuple_or_one (Some Rigid) = argument.One
tuple_or_one (Some (Link m)) = argument.One
tuple_or_one (Some (Arrow a b)) = argument.One
tuple_or_one (Some (Tuple ms)) = argument.Tuple (length ms)
tuple_or_one (Some (Con path name ms)) = argument.One

-- what a constructor is applied to, by its type: what stands left of the arrow
abbrev pub left_of_arrow : List Node → Option Node → Argument
left_of_arrow nodes None = argument.One
left_of_arrow nodes (Some (Var level scope)) = argument.One
left_of_arrow nodes (Some Rigid) = argument.One
left_of_arrow nodes (Some (Link m)) = argument.One
left_of_arrow nodes (Some (Arrow a b)) = tuple_or_one (reading nodes a)
left_of_arrow nodes (Some (Tuple ms)) = argument.One
left_of_arrow nodes (Some (Con path name ms)) = argument.One

-- what a constructor of a declaration is applied to
abbrev pub argument_of : List Node → Constructor → Argument
argument_of nodes c = if c.has_argument then left_of_arrow nodes (reading nodes c.root.0) else argument.None

-- as many of one as of the other, and those at the same place, counted from k, belong to each other
abbrev pub Pairwise : {A B : Type 0} → (ℕ → A → B → Type 0) → ℕ → List A → List B → Type 0
Pairwise R k [] [] = Unit {0}
Pairwise R k [] (y ∷ ys) = ⊥
Pairwise R k (x ∷ xs) [] = ⊥
Pairwise R k (x ∷ xs) (y ∷ ys) = R k x y × Pairwise R (k + 1) xs ys

-- a part of an origin's declaration has its name and is written as its path says
abbrev pub IsPart : rules.Kind → List Entry → Path → ℕ → Name → Named → Type 0
IsPart kind env o k name n = (n.name ≡ name) × IsWritten (part_naming kind name k) env o n.path

-- an outermost part is a constructor of an origin's declaration, as it is written, and what it is applied to
abbrev pub IsConstructor : List Node → List Entry → Path → ℕ → Constructor → Outermost → Type 0
IsConstructor nodes env o k c (constructor n a) = IsPart rules.constructor_kind env o k (str_bytes c.name) n × (a ≡ argument_of nodes c)
IsConstructor nodes env o k c (constant s) = ⊥
IsConstructor nodes env o k c cons = ⊥
IsConstructor nodes env o k c (tuple parts) = ⊥
IsConstructor nodes env o k c (record_with ns) = ⊥

-- a label of an origin's declaration, as it is written
abbrev pub IsLabel : List Entry → Path → ℕ → Label → Named → Type 0
IsLabel env o k l n = IsPart rules.label_kind env o k (str_bytes l.name) n

-- all constructors in order, and no other
abbrev pub AreConstructors : List Node → List Entry → Path → List Constructor → Values → Type 0
AreConstructors nodes env o cs vs = (os : List Outermost) × (vs ≡ known os) × Pairwise (IsConstructor nodes env o) 0 cs os

-- one record with all labels in order
abbrev pub AreLabels : List Entry → Path → List Label → Values → Type 0
AreLabels env o ls vs = (ns : List Named) × (vs ≡ known (record_with ns ∷ [])) × Pairwise (IsLabel env o) 0 ls ns

-- the values of a declared type
abbrev pub OfShape : List Node → List Entry → Path → Shape → Values → Type 0
OfShape nodes env o shape.Opaque vs = vs ≡ untold
OfShape nodes env o (shape.Variant cs) vs = AreConstructors nodes env o cs.items vs
OfShape nodes env o (shape.Labels ls) vs = AreLabels env o ls.items vs

-- the values of a type that a declaration in scope makes; untold where none does
pub data OfDeclared (nodes : List Node) (env : List Entry) (o : Path) : Values → Type 0 where
  declared : {d : Declaration} {vs : Values} → IsDeclared env o d → OfShape nodes env o d.shape vs → OfDeclared nodes env o vs
  undeclared : IsUndeclared env o → OfDeclared nodes env o untold

-- the number of a built-in type: the k-th has the origin that is k less than the largest number
abbrev pub built_in : Path → Option ℕ
built_in [] = None
built_in (n ∷ []) = if nat_lt (2 ^ 64 - 1 - n) 8 then Some (2 ^ 64 - 1 - n) else None
built_in (n ∷ m ∷ o) = None

-- the values of int, char, string, float, unit, bool, exn and list
abbrev pub of_built_in : ℕ → Values
of_built_in k =
    if k == 0 then literal (codes "0")
    else if k == 1 then literal (codes "'a'")
    else if k == 2 then literal (codes "\"\"")
    else if k == 3 then literal (codes "0.0")
    else if k == 4 then known (constant (codes "()") ∷ [])
    else if k == 5 then known (constant (codes "false") ∷ constant (codes "true") ∷ [])
    else if k == 7 then known (constant (codes "[]") ∷ cons ∷ [])
    else untold

-- the values of a type constructor, built in or declared
abbrev pub OfOrigin : List Node → List Entry → Path → Option ℕ → Values → Type 0
OfOrigin nodes env o (Some k) vs = vs ≡ of_built_in k
OfOrigin nodes env o None vs = OfDeclared nodes env o vs

-- the values of a type, by what its node reads as
abbrev pub OfType : List Node → List Entry → Option Node → Values → Type 0
OfType nodes env None vs = vs ≡ untold
OfType nodes env (Some (Var level scope)) vs = vs ≡ untold
OfType nodes env (Some Rigid) vs = vs ≡ untold
OfType nodes env (Some (Link m)) vs = vs ≡ untold
OfType nodes env (Some (Arrow a b)) vs = vs ≡ functions
OfType nodes env (Some (Tuple ms)) vs = vs ≡ known (tuple (length ms) ∷ [])
OfType nodes env (Some (Con o name ms)) vs = OfOrigin nodes env o (built_in o) vs
