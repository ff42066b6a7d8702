-- The demand `bound` of a path, and what it finds (OCaml manual, 11.3).
use Rattle.std.specs.Prelude.{ℕ, Bool, true, false, List, [], ◌∷◌, ◌++◌, map, Option, Some, None, if◌then◌else◌}
use Rattle.token_model.specs.Kinds.{Tok}
use Rattle.type_model.specs.Types.{Typ}
use Rattle.type_model.specs.Substitutions.{Subst}
use Rattle.type_model.specs.Schemes.{Scheme}
use Rattle.signature_model.specs.Declarations.{Name, Declaration, Label, type_of}
use Rattle.signature_model.specs.Matching.{used}
use Rattle.signature_model.specs.Entries.{Kind, Referent, a_value, a_constructor, an_exception, a_label, a_type, a_module, a_module_type, Entry, Environment}
use Rattle.signature_model.specs.Lookups.{Found, an_entry, a_hole, nothing, Scope, known, unknown_scope, no_scope, scope_behind, lookup}
use Rattle.tree_model.specs.Trees.{Place}
use Rattle.typing_model.specs.Demands.{Word, module_word, Complaint, unbound, test, Condition}
use Rattle.typing_model.specs.Contexts.{Context, ask, letter}
use Rattle.typing_model.specs.Parts.{Written, place_of, place_without_point}

-- the names of tokens
abbrev pub names_of : List Tok → List Name
names_of ts = map (λ t. t.name) ts

-- what a path whose last token is there finds
abbrev pub found_by : Context → Kind → Written → Tok → Found
found_by c k p t = lookup c.env (names_of p.qualifiers) k t.name

-- whether something is found, a hole included
abbrev pub is_found : Found → Bool
is_found (an_entry e) = true
is_found a_hole = true
is_found nothing = false

-- whether there is no module
abbrev pub is_no_scope : Scope → Bool
is_no_scope (known env) = false
is_no_scope unknown_scope = false
is_no_scope no_scope = true

-- the first of the qualifiers behind some names that leads to no module, if there is one
abbrev pub lost_behind : Environment → List Name → List Tok → Option Tok
lost_behind env path [] = None
lost_behind env path (q ∷ qs) = if is_no_scope (scope_behind env (path ++ q.name ∷ [])) then Some q else lost_behind env (path ++ q.name ∷ []) qs

-- where an unbound path is reported: at the first qualifier that leads to no module, without its point, or else at its last token
abbrev pub place_unbound : Option Tok → Tok → Place
place_unbound None t = place_of t
place_unbound (Some q) t = place_without_point q

-- what is reported there
abbrev pub complaint_unbound : Option Tok → Word → Tok → Complaint
complaint_unbound None w t = unbound w t.name
complaint_unbound (Some q) w t = unbound module_word q.name

-- the demand that a path is bound, of a number in the row of a node
abbrev pub ask_bound : Context → ℕ → ℕ → Kind → Word → Written → Tok → List Condition
ask_bound c n k kind w p t =
    let lost = lost_behind c.env [] p.qualifiers in
    ask n k (place_unbound lost t) (test (complaint_unbound lost w t) (is_found (found_by c kind p t)))

-- the arguments of a declaration's type in a use of it at a node: the letters of the node
abbrev pub arguments_at : Context → ℕ → Subst
arguments_at c n = letter c n

-- a type of a declaration as it is used at a node: its parameters are the node's letters, and its unknown types are chosen there
abbrev pub used_at : Context → ℕ → Typ → Typ
used_at c n t = used (arguments_at c n) (c.chosen.filled n) t

-- what is found where the demand is kept
abbrev pub entry_of : Found → Option Entry
entry_of (an_entry e) = Some e
entry_of a_hole = None
entry_of nothing = None

-- the scheme of a value's entry
abbrev pub scheme_in : Referent → Option Scheme
scheme_in (a_value s) = Some s
scheme_in (a_constructor d k) = None
scheme_in (an_exception o) = None
scheme_in (a_label d l) = None
scheme_in (a_type d) = None
scheme_in (a_module s) = None
scheme_in (a_module_type t) = None

-- the result and the argument of a constructor's entry, over the parameters of its declaration
pub record Built : Type 0 where
  pub result : Typ
  pub argument : Option Typ

-- a constructor with this result and argument
abbrev pub built : Typ → Option Typ → Built
built r a = record { result = r; argument = a }

-- the same of an entry of another kind is none
abbrev pub built_in : Typ → Referent → Option Built
built_in exn (a_value s) = None
built_in exn (a_constructor d k) = Some (built (type_of d) k.argument)
built_in exn (an_exception o) = Some (built exn o)
built_in exn (a_label d l) = None
built_in exn (a_type d) = None
built_in exn (a_module s) = None
built_in exn (a_module_type t) = None

-- a label's entry: its declaration and itself
abbrev pub label_in : Referent → Option (Declaration × Label)
label_in (a_value s) = None
label_in (a_constructor d k) = None
label_in (an_exception o) = None
label_in (a_label d l) = Some (d, l)
label_in (a_type d) = None
label_in (a_module s) = None
label_in (a_module_type t) = None

-- the declaration of a type's entry
abbrev pub declaration_in : Referent → Option Declaration
declaration_in (a_value s) = None
declaration_in (a_constructor d k) = None
declaration_in (an_exception o) = None
declaration_in (a_label d l) = None
declaration_in (a_type d) = Some d
declaration_in (a_module s) = None
declaration_in (a_module_type t) = None

-- what an optional value comes to
abbrev pub then_by : {A B : Type 0} → Option A → (A → Option B) → Option B
then_by None f = None
then_by (Some a) f = f a

-- what an entry that is found stands for
abbrev pub referent_of : Found → Option Referent
referent_of f = then_by (entry_of f) (λ e. Some e.stands_for)
