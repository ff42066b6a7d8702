-- What type expressions ask, row by row (OCaml manual, 11.4).
use Rattle.std.specs.Prelude.{ℕ, ◌+◌, ◌==◌, true, false, List, [], ◌∷◌, ◌++◌, codes, map, length, Option, Some, None, if◌then◌else◌}
use Rattle.token_model.specs.Kinds.{Tok}
use Rattle.tree_model.specs.Trees.{Place}
use Rattle.tree_model.specs.Rows.{Row, tvar_row, tcon_row, tparen_row, tapp_row, ttuple_row, tarrow_row}
use Rattle.type_model.specs.Types.{Typ, Var, Arrow, Tuple, types_of}
use Rattle.signature_model.specs.Declarations.{Name, Declaration, type_of}
use Rattle.signature_model.specs.Changes.{argument}
use Rattle.signature_model.specs.Matching.{used}
use Rattle.signature_model.specs.Components.{same_name}
use Rattle.signature_model.specs.Entries.{type_kind}
use Rattle.typing_model.specs.Demands.{type_word, type_variable_word, test, unbound, arity, Condition, same}
use Rattle.typing_model.specs.Contexts.{Context, Variables, in_item, parameters, type_at, is_kept, ask, unresolved, filled_at}
use Rattle.typing_model.specs.Parts.{Written, TypeExpression, Child, path_in, token_in, place_of, no_type_at, types_in, type_in}
use Rattle.typing_model.specs.Names.{ask_bound, found_by, referent_of, then_by, declaration_in}

-- the place of a name among parameters, of two the later one, from a number on
abbrev pub index_from : ℕ → Name → List Name → Option ℕ
index_from k n [] = None
index_from k n (m ∷ ms) = elim (index_from (k + 1) n ms) [ Some i ↦ Some i | None ↦ if same_name n m then Some k else None ]

-- the types of nodes
abbrev pub types_of_nodes : Context → List ℕ → List Typ
types_of_nodes c ns = map (type_at c) ns

-- a type expression that is one type
abbrev pub single : ℕ → Place → List Name → (Context → List Condition) → TypeExpression
single n at names read = record { node = n; at = at; read = read; mentions = names; grouped = n ∷ []; grouped_read = read }

-- what type expressions ask, in order
abbrev pub read_all : Context → List TypeExpression → List Condition
read_all c [] = []
read_all c (t ∷ ts) = t.read c ++ read_all c ts

-- the nodes of type expressions
abbrev pub nodes_of : List TypeExpression → List ℕ
nodes_of ts = map (λ t. t.node) ts

-- 'a: in an item a type of its own, in a declaration a parameter, which must be bound
abbrev pub variable_asks : Context → ℕ → Tok → Variables → List Condition
variable_asks c n t (in_item i) = same (type_at c n) (c.chosen.written i t.name) ∷ []
variable_asks c n t (parameters ps) = elim (index_from 0 t.name ps) [
  | None ↦ ask n 0 (place_of t) (test (unbound type_variable_word t.name) false) ++ unresolved c n
  | Some k ↦ ask n 0 (place_of t) (test (unbound type_variable_word t.name) true) ++ same (type_at c n) (Var k) ∷ []
]

-- 'a, as a type expression
abbrev pub tvar : ℕ → Place → Option Tok → TypeExpression
tvar n at None = no_type_at n at
tvar n at (Some t) = single n at [] (λ c. variable_asks c n t c.variables)

-- the type that a declaration gives these arguments, abbreviations expanded, for a choice of its unknown types
abbrev pub applied_to : Context → ℕ → Declaration → List ℕ → Typ
applied_to c n d ns = used (argument (types_of (types_of_nodes c ns))) (filled_at c n) (type_of d)

-- t, (t, t) u: `bound`, `arity`, and the type that the declaration gives the arguments
abbrev pub declared_type : Context → ℕ → Tok → List ℕ → Option Declaration → List Condition
declared_type c n t ns None = unresolved c n
declared_type c n t ns (Some d) =
    ask n 1 (place_of t) (test (arity t.name d.arity (length ns)) (d.arity == length ns)) ++ (if is_kept c n 1 then same (type_at c n) (applied_to c n d ns) ∷ [] else unresolved c n)

-- the name of a constructor behind its arguments
abbrev pub constructor_asks : Context → ℕ → Written → List ℕ → List Condition
constructor_asks c n p ns = elim p.last [
  | None ↦ unresolved c n
  | Some t ↦
      ask_bound c n 0 type_kind type_word p t ++ declared_type c n t ns (if is_kept c n 0 then then_by (referent_of (found_by c type_kind p t)) declaration_in else None)
]

-- the name of a constructor that is written without a module
abbrev pub plain_name : Written → List Name
plain_name p = elim p.qualifiers [ q ∷ qs ↦ [] | [] ↦ elim p.last [ None ↦ [] | Some t ↦ t.name ∷ [] ] ]

-- the constructors without a module in type expressions, in order
abbrev pub all_mentions : List TypeExpression → List Name
all_mentions [] = []
all_mentions (t ∷ ts) = t.mentions ++ all_mentions ts

-- t, as a type expression
abbrev pub tcon : ℕ → Place → Written → TypeExpression
tcon n at p = single n at (plain_name p) (λ c. constructor_asks c n p [])

-- t u, (t, t) u, as a type expression
abbrev pub tapp : ℕ → Place → TypeExpression → Written → TypeExpression
tapp n at left p = single n at (left.mentions ++ plain_name p) (λ c. left.grouped_read c ++ constructor_asks c n p left.grouped)

-- ( t ), and ( t, t ), which is a type only in front of a constructor
abbrev pub in_parentheses : Context → ℕ → Place → List TypeExpression → List Condition
in_parentheses c n at [] = []
in_parentheses c n at (t ∷ []) = same (type_at c n) (type_at c t.node) ∷ []
in_parentheses c n at (t ∷ u ∷ ts) = ask n 0 at (test (arity (codes "(,)") 1 (length (t ∷ u ∷ ts))) false) ++ unresolved c n

-- the nodes that several types in parentheses give to a constructor, or the one node
abbrev pub grouped_nodes : ℕ → List TypeExpression → List ℕ
grouped_nodes n [] = n ∷ []
grouped_nodes n (t ∷ []) = n ∷ []
grouped_nodes n (t ∷ u ∷ ts) = nodes_of (t ∷ u ∷ ts)

-- one type in parentheses is that type
abbrev pub equal_of_one : Context → ℕ → List TypeExpression → List Condition
equal_of_one c n [] = []
equal_of_one c n (t ∷ []) = same (type_at c n) (type_at c t.node) ∷ []
equal_of_one c n (t ∷ u ∷ ts) = []

-- ( t ), ( t, t ), as a type expression
abbrev pub tparen : ℕ → Place → List TypeExpression → TypeExpression
tparen n at ts = record {
  node = n;
  at = at;
  read = λ c. read_all c ts ++ in_parentheses c n at ts;
  mentions = all_mentions ts;
  grouped = grouped_nodes n ts;
  grouped_read = λ c. read_all c ts ++ equal_of_one c n ts;
}

-- t * t
abbrev pub ttuple : ℕ → Place → List TypeExpression → TypeExpression
ttuple n at ts = single n at (all_mentions ts) (λ c. read_all c ts ++ same (type_at c n) (Tuple (types_of (types_of_nodes c (nodes_of ts)))) ∷ [])

-- t -> t
abbrev pub tarrow : ℕ → Place → TypeExpression → TypeExpression → TypeExpression
tarrow n at t u = single n at (t.mentions ++ u.mentions) (λ c. t.read c ++ u.read c ++ same (type_at c n) (Arrow (type_at c t.node) (type_at c u.node)) ∷ [])

-- a type expression by its row
unfoldable pub type_row : Row → ℕ → Place → List Child → TypeExpression
type_row tvar_row n at cs = tvar n at (token_in 0 cs)
type_row tcon_row n at cs = tcon n at (path_in 0 1 cs)
type_row tparen_row n at cs = tparen n at (types_in 1 cs)
type_row tapp_row n at cs = tapp n at (type_in 0 cs) (path_in 1 2 cs)
type_row ttuple_row n at cs = ttuple n at (types_in 0 cs ++ types_in 2 cs)
type_row tarrow_row n at cs = tarrow n at (type_in 0 cs) (type_in 2 cs)
type_row _ n at cs = no_type_at n at
