-- The loops that close a group, binding by binding.
use Rattle.std.proofs.Common.{◌≡◌, ◌∙◌, ◌-◌, ℕ, true, false, if◌then◌else◌, List, [], ◌∷◌, ◌++◌, refl, sym, ap, subst, append_assoc, append-nil}
use Rattle.env_table.specs.declared.entries.Entry.{Entry}
use Rattle.type_nodes.specs.Nodes.{IsSound}
use Rattle.typing_state.specs.declared.parts.Parts.{Parts}
use Rattle.pattern_rows.specs.Bounds.{Bind}
use Rattle.binding_rows.specs.CaseScopes.{names_added}
use Rattle.binding_rows.proofs.Scopes.{names_both}
use Rattle.binding_rows.specs.Closing.{LimitsNodes, GeneralisesAll}
use Rattle.binding_rows.specs.Lets.{ToClose, bind_nodes, names_closed, limited_nodes}
use Rattle.binding_rows.specs.LetNodes.{ClosesBindings, LimitsFirst, GeneralisesFirst}
use Rattle.binding_rows.proofs.LetTurns.{limits_none, limits_then, generalises_none, generalises_then}

-- no binding is held yet
pub limits_start : (a : Parts) (level : ℕ) (all : List ToClose) → LimitsFirst a a level all all
limits_start a level all = record { done = []; limits = limits_none a level; splits = refl }

-- a binding whose names are generalised holds nothing
pub limits_passed : (a b : Parts) (level : ℕ) (all left rest : List ToClose) (y : ToClose) → left ≡ y ∷ rest → y.general ≡ true → LimitsFirst a b level all left → LimitsFirst a b level all rest
limits_passed a b level all left rest y split general first = record {
  done = first.done;
  limits = first.limits;
  splits = first.splits ∙ ap (λ ys. first.done ++ limited_nodes ys) split ∙ ap (λ v. first.done ++ (if v then limited_nodes rest else y.right ∷ bind_nodes y.names ++ limited_nodes rest)) general;
}

-- the right side of another one is limited, and then its names
pub limits_more : (a b c d : Parts) (level : ℕ) (all left rest : List ToClose) (y : ToClose) → left ≡ y ∷ rest → y.general ≡ false → LimitsFirst a b level all left → LimitsNodes b c level (y.right ∷ []) → LimitsNodes c d level (bind_nodes y.names) →
    LimitsFirst a d level all rest
limits_more a b c d level all left rest y split general first right names = record {
  done = first.done ++ (y.right ∷ bind_nodes y.names);
  limits = limits_then first.limits (limits_then right names);
  splits = first.splits ∙ ap (λ ys. first.done ++ limited_nodes ys) split ∙ ap (λ v. first.done ++ (if v then limited_nodes rest else y.right ∷ bind_nodes y.names ++ limited_nodes rest)) general ∙
      sym (append_assoc first.done (y.right ∷ bind_nodes y.names) (limited_nodes rest));
}

-- all that a group holds
pub limits_end : (a b : Parts) (level : ℕ) (all left : List ToClose) → left ≡ [] → LimitsFirst a b level all left → LimitsNodes a b level (limited_nodes all)
limits_end a b level all left none first = subst (LimitsNodes a b level) (sym (first.splits ∙ ap (λ ys. first.done ++ limited_nodes ys) none ∙ append-nil first.done)) first.limits

-- the nodes of names and of others
pub nodes_both : (xs ys : List Bind) → bind_nodes (xs ++ ys) ≡ bind_nodes xs ++ bind_nodes ys
nodes_both [] ys = refl
nodes_both (x ∷ xs) ys = ap (λ ms. x.node.0 ∷ ms) (nodes_both xs ys)

-- no name is generalised yet
pub generalises_start : (a : Parts) (env : List Entry) (all : List ToClose) → GeneralisesFirst a a env env all all
generalises_start a env all = record { done = []; generalises = generalises_none a; splits = refl; names = refl }

-- those of one binding more
pub generalises_more : (a b c : Parts) (env within further : List Entry) (all left rest : List ToClose) (y : ToClose) → left ≡ y ∷ rest → GeneralisesFirst a b env within all left → GeneralisesAll b c (bind_nodes y.names) → further ≡ names_added y.names within →
    GeneralisesFirst a c env further all rest
generalises_more a b c env within further all left rest y split first closed added = record {
  done = first.done ++ bind_nodes y.names;
  generalises = generalises_then a b c first.done (bind_nodes y.names) first.generalises closed;
  splits = first.splits ∙ ap (λ ys. first.done ++ bind_nodes (names_closed ys)) split ∙ ap (λ ms. first.done ++ ms) (nodes_both y.names (names_closed rest)) ∙ sym (append_assoc first.done (bind_nodes y.names) (bind_nodes (names_closed rest)));
  names = first.names ∙ ap (λ ys. names_added (names_closed ys) within) split ∙ names_both y.names (names_closed rest) within ∙ ap (names_added (names_closed rest)) (sym added);
}

-- all names of a group
pub generalises_end : (a b : Parts) (env within : List Entry) (all left : List ToClose) → left ≡ [] → GeneralisesFirst a b env within all left → GeneralisesAll a b (bind_nodes (names_closed all))
generalises_end a b env within all left none first = subst (GeneralisesAll a b) (sym (first.splits ∙ ap (λ ys. first.done ++ bind_nodes (names_closed ys)) none ∙ append-nil first.done)) first.generalises

-- and they are in scope
pub scope_end : (a b : Parts) (env within : List Entry) (all left : List ToClose) → left ≡ [] → GeneralisesFirst a b env within all left → within ≡ names_added (names_closed all) env
scope_end a b env within all left none first = sym (first.names ∙ ap (λ ys. names_added (names_closed ys) within) none)

-- The close of a group, call by call.
pub closes_bindings : (a b c d : Parts) (ys : List ToClose) → b ≡ record a { level = a.level - 1 } → LimitsNodes b c b.level (limited_nodes ys) → GeneralisesAll c d (bind_nodes (names_closed ys)) → IsSound d.store.nodes → ClosesBindings a d ys
closes_bindings a b c d ys lowered limits names sound = record {
  limits = limits.limits;
  nodes = limits.nodes;
  close = record { lowered = b; lowers = lowered; limited = c; limits_all = limits.all; generalises_all = names; sound = sound };
}
