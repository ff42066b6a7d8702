-- What the calls for an item do, one after the other: its number is noted and the written type variables are forgotten, and types are limited to a scope.
use Rattle.std.proofs.Common.{inl, ◌≡◌, ◌∙◌, ℕ, List, [], ◌∷◌, ◌++◌, None, refl, sym, ap, subst, append-nil}
use Rattle.std.specs.Prelude.{option_map}
use Rattle.std.specs.Map.{lookup}
use Rattle.std.specs.Str.{bytes_eq}
use Rattle.std.specs.String.{string_bytes}
use Rattle.signature_model.specs.Declarations.{Name}
use Rattle.type_terms.specs.declared.types.NodeRef.{NodeRef}
use Rattle.type_nodes.specs.Nodes.{Var, IsSound}
use Rattle.type_nodes.specs.States.{State}
use Rattle.type_nodes.specs.Changes.{Makes}
use Rattle.typing_state.specs.declared.parts.Written.{Written}
use Rattle.typing_state.specs.declared.parts.Parts.{Parts}
use Rattle.typing_state.specs.Goes.{OnlyStore, Goes}
use Rattle.typing_state.specs.Types.{level_for, MadeOne, JoinedIfNodes}
use Rattle.typing_steps.specs.States.{written_in, sight}
use Rattle.typing_steps.specs.Warning.{OnlyNotes}
use Rattle.typing_steps.proofs.Still.{notes_unseen, notes_untold}
use Rattle.binding_rows.specs.Closing.{Limit}
use Rattle.binding_rows.specs.Lets.{ToClose, bind_nodes, names_closed}
use Rattle.binding_rows.specs.Scopes.{ScopesAll, ScopesNodes, InsideAll, InsideNodes, NamesFirst}
use Rattle.binding_rows.specs.Outside.{OnlyBetween}
use Rattle.binding_rows.proofs.ItemOrders.{append_assoc}
use Rattle.binding_rows.proofs.LetLoops.{nodes_both}
use Rattle.binding_rows.proofs.LetTurns.{nodes_then}

-- no type is limited to a scope
pub scopes_none : (a : Parts) (level scope : ℕ) → ScopesNodes a a level scope []
scopes_none a level scope = record { limits = []; all = refl; nodes = refl }

-- one type is, as the clauses of `limit` say it
pub scopes_one : {a b : Parts} {level scope m : ℕ} → (mid : State) × (n : ℕ) × Makes a.store mid n (Var (level_for level) scope) × JoinedIfNodes mid b.store n m → OnlyStore a b → Goes a b → IsSound b.store.nodes → ScopesNodes a b level scope (m ∷ [])
scopes_one {b = b} {m = m} (mid, n, makes, joins) rest goes sound = record {
  limits = record { node = m; variable = n } ∷ [];
  all = (b, record { mid = mid; makes = makes; joins = joins.0; rest = rest; goes = goes; sound = sound }, refl);
  nodes = refl;
}

all_then : (a b c : Parts) (level scope : ℕ) (ls ms : List Limit) → ScopesAll a b level scope ls → ScopesAll b c level scope ms → ScopesAll a c level scope (ls ++ ms)
all_then a b c level scope [] ms same q = subst (λ x. ScopesAll x c level scope ms) same q
all_then a b c level scope (l ∷ ls) ms (x, one, p) q = (x, one, all_then x b c level scope ls ms p q)

-- some types are, and then others
pub scopes_then : {a b c : Parts} {level scope : ℕ} {ms ns : List ℕ} → ScopesNodes a b level scope ms → ScopesNodes b c level scope ns → ScopesNodes a c level scope (ms ++ ns)
scopes_then {a} {b} {c} {level} {scope} p q = record { limits = p.limits ++ q.limits; all = all_then a b c level scope p.limits q.limits p.all q.all; nodes = nodes_then p.limits q.limits ∙ (λ i. p.nodes i ++ q.nodes i) }

-- no type is limited, and each is in the scope
pub inside_none : (a : Parts) (level scope : ℕ) → InsideNodes a a level scope []
inside_none a level scope = record { limits = []; all = refl; nodes = refl }

-- one type is, by a call that gives up where it can't be made one with the variable
pub inside_one : {a b : Parts} {level scope m : ℕ} → (mid : State) × (n : ℕ) × Makes a.store mid n (Var (level_for level) scope) × MadeOne mid.nodes b.store.nodes n m → OnlyStore a b → Goes a b → IsSound b.store.nodes → InsideNodes a b level scope (m ∷ [])
inside_one {b = b} {m = m} (mid, n, makes, one) rest goes sound = record {
  limits = record { node = m; variable = n } ∷ [];
  all = (b, record { mid = mid; makes = makes; joins = λ i j. inl one; rest = rest; goes = goes; sound = sound }, one, refl);
  nodes = refl;
}

all_inside : (a b c : Parts) (level scope : ℕ) (ls ms : List Limit) → InsideAll a b level scope ls → InsideAll b c level scope ms → InsideAll a c level scope (ls ++ ms)
all_inside a b c level scope [] ms same q = subst (λ x. InsideAll x c level scope ms) same q
all_inside a b c level scope (l ∷ ls) ms (x, one, here, p) q = (x, one, here, all_inside x b c level scope ls ms p q)

-- some types are, and then others
pub inside_then : {a b c : Parts} {level scope : ℕ} {ms ns : List ℕ} → InsideNodes a b level scope ms → InsideNodes b c level scope ns → InsideNodes a c level scope (ms ++ ns)
inside_then {a} {b} {c} {level} {scope} p q = record { limits = p.limits ++ q.limits; all = all_inside a b c level scope p.limits q.limits p.all q.all; nodes = nodes_then p.limits q.limits ∙ (λ i. p.nodes i ++ q.nodes i) }

-- nothing was done with names yet
pub names_start : {R : List ℕ → Type 0} (all : List ToClose) → R [] → NamesFirst R all all
names_start all none = record { done = []; does = none; splits = refl }

-- it was done with those of one binding more
pub names_more : {R R' : List ℕ → Type 0} (all left rest : List ToClose) (y : ToClose) → left ≡ y ∷ rest → NamesFirst R all left → ((ms : List ℕ) → R ms → R' (ms ++ bind_nodes y.names)) → NamesFirst R' all rest
names_more all left rest y split first more = record {
  done = first.done ++ bind_nodes y.names;
  does = more first.done first.does;
  splits = first.splits ∙ ap (λ ys. first.done ++ bind_nodes (names_closed ys)) split ∙ ap (λ ms. first.done ++ ms) (nodes_both y.names (names_closed rest)) ∙ sym (append_assoc first.done (bind_nodes y.names) (bind_nodes (names_closed rest)));
}

-- and with those of all
pub names_end : {R : List ℕ → Type 0} (all left : List ToClose) → left ≡ [] → NamesFirst R all left → R (bind_nodes (names_closed all))
names_end {R} all left none first = subst R (sym (first.splits ∙ ap (λ ys. first.done ++ bind_nodes (names_closed ys)) none ∙ append-nil first.done)) first.does

-- Where nodes are noted without types, and the type variables that were written are forgotten, the next item begins.
pub item_begins : (a b c : Parts) (w : Written) → OnlyNotes a b → c ≡ record b { written = w } → OnlyBetween (sight a) (sight c)
item_begins a b c w notes same =
    let only = notes_unseen a b notes in
    subst (λ x. OnlyBetween (sight a) (sight x)) (sym same) (record { nodes = only.nodes; types = only.types; noted = only.noted; scopes = only.scopes; reports = notes_untold a b notes; aloud = only.aloud; level = only.level; fixed = only.fixed })

-- no type variable is written once they are forgotten
pub none_written : (w : Written) → w.variables.entries ≡ [] → (z : Name) → written_in w z ≡ None
none_written w empty z = ap (λ es. option_map (λ (m : NodeRef). m.0) (lookup (λ k. bytes_eq z (string_bytes k)) es)) empty
