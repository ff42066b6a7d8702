-- The row of a `let` by its node: from the clauses of the calls that type its group, close it and type its body.
use Rattle.std.proofs.Common.{◌≡◌, ◌∙◌, ◌+◌, ◌<◌, ℕ, Bool, List, [], ◌∷◌, map, refl, sym, ap, subst}
use Rattle.std.specs.Prelude.{All}
use Rattle.tree_model.specs.Rows.{elet_row}
use Rattle.tree_model.specs.Trees.{Place, Tree}
use Rattle.row_parts.specs.Numbered.{operands_in, filled_in, token_in}
use Rattle.typing_model.specs.Contexts.{Context}
use Rattle.typing_model.specs.Parts.{Binding}
use Rattle.typing_model.specs.Bindings.{bindings_ask, generalises}
use Rattle.typing_model.specs.Expressions.{is_some}
use Rattle.type_nodes.specs.Nodes.{bound_level}
use Rattle.env_table.specs.declared.entries.Entry.{Entry}
use Rattle.typing_state.specs.declared.parts.Parts.{Parts}
use Rattle.typing_state.specs.Goes.{Goes}
use Rattle.operand_laws.specs.Formed.{row_of, IsFormed}
use Rattle.operand_laws.specs.Operands.{number_of, expression_of}
use Rattle.typing_conditions.proofs.Groups.{added}
use Rattle.typing_conditions.specs.Sights.{Sight, Letters}
use Rattle.typing_conditions.specs.Frames.{Frame}
use Rattle.typing_conditions.specs.Surroundings.{Declared}
use Rattle.typing_steps.specs.Typing.{as_declared, TypesRow, TypesTo}
use Rattle.typing_rows.specs.Asked.{row_expression}
use Rattle.typing_rows.specs.CarriedRows.{IsCarried}
use Rattle.pattern_rows.specs.Bounds.{Bind}
use Rattle.binding_rows.specs.CaseScopes.{names_added}
use Rattle.binding_rows.specs.Carried.{IsBinding}
use Rattle.binding_rows.specs.Decided.{IsAmong, verdicts, JudgesGroup}
use Rattle.binding_rows.specs.Groups.{TypedBinding, AllTyped, none_typed, one_typed, TypesGroup}
use Rattle.binding_rows.specs.Operands.{bindings_of, TypesGroupNode}
use Rattle.binding_rows.proofs.Terms.{let_term}
use Rattle.binding_rows.specs.Lets.{ToClose, AllToClose, none_to_close, one_to_close, bind_entries, names_closed}
use Rattle.binding_rows.specs.LetGroups.{TypesToClose}
use Rattle.binding_rows.specs.LetNodes.{typed_as, ClosesBindings}
use Rattle.binding_rows.proofs.Lets.{let_row}

first_verdict : (p q : Bool) (ps qs : List Bool) → p ∷ ps ≡ q ∷ qs → p ≡ q
first_verdict p q ps qs e = cc

later_verdicts : (p q : Bool) (ps qs : List Bool) → p ∷ ps ≡ q ∷ qs → ps ≡ qs
later_verdicts p q ps qs e = cc

-- typed bindings whose verdicts are those of the definitions among some names are to be closed
pub all_to_close : {D : Declared} {env : List Entry} {F : Frame} {b : Sight} {G : Letters} {xs : List Binding} (ys : List ToClose) → ((c : Context) → IsAmong D env c → map (λ (y : ToClose). y.general) ys ≡ verdicts c xs) → AllTyped F b G xs (map typed_as ys) → AllToClose D env F b G xs ys
all_to_close [] judged none_typed = none_to_close
all_to_close (y ∷ ys) judged (one_typed {x = x} {xs = xs} h hs) = one_to_close
    (record { names = h.names; right = h.right; decides = λ c among. sym (first_verdict y.general (generalises c x) (map (λ (y : ToClose). y.general) ys) (verdicts c xs) (judged c among)) })
    (all_to_close ys (λ c among. later_verdicts y.general (generalises c x) (map (λ (y : ToClose). y.general) ys) (verdicts c xs) (judged c among)) hs)

-- so is a group that is typed
pub types_to_close : (a b : Parts) (env : List Entry) (is_rec : Bool) (xs : List Binding) (ys : List ToClose) → ((c : Context) → IsAmong as_declared env c → map (λ (y : ToClose). y.general) ys ≡ verdicts c xs) → TypesGroup a b env is_rec xs (map typed_as ys) → TypesToClose a b env (λ c. bindings_ask c is_rec xs) xs ys
types_to_close a b env is_rec xs ys judged typed = λ aloud F scope G s. let g = typed aloud F scope G s in record { own = g.own; carried = g.carried; done = g.done; typed = all_to_close ys judged g.typed }

-- names come into scope as their entries do
pub entries_added : (ns : List Bind) (env : List Entry) → names_added ns env ≡ added (bind_entries ns) env
entries_added [] env = refl
entries_added (n ∷ ns) env = entries_added ns (n.entry ∷ env)

-- bindings of the code as they were typed, seen in two ways
pub same_typed : {A : Type 0} (typed : A → TypedBinding) (closing : A → ToClose) → ((x : A) → typed x ≡ typed_as (closing x)) → (xs : List A) → map typed xs ≡ map typed_as (map closing xs)
same_typed typed closing same [] = refl
same_typed typed closing same (x ∷ xs) = (λ i. same x i ∷ same_typed typed closing same xs i)

-- let p = e in e: the level is raised, the group is typed and closed, and the body is typed among its names.
pub let_row_of_node : (x y a d f : Parts) (env within : List Entry) (n : ℕ) (at : Place) (t : Tree) (ys : List ToClose) (m : ℕ) → IsFormed n t → row_of t ≡ elet_row → All IsBinding (operands_in n t 2) → IsCarried (filled_in n t 5) →
    y ≡ record x { level = x.level + 1 } → x.level + 1 < bound_level → TypesGroupNode y a env n t (map typed_as ys) → JudgesGroup env n t (map (λ (y : ToClose). y.general) ys) → Goes y a → ClosesBindings a d ys → Goes a d →
    within ≡ names_added (names_closed ys) env → (IsCarried (filled_in n t 5) → TypesTo d f within (λ c. (expression_of d.item (filled_in n t 5)).typed c) (λ ch. ch.type_at (expression_of d.item (filled_in n t 5)).node) m) →
    TypesRow x f env (λ c. (row_expression x.item n at t).typed c) (number_of x.item n) m
let_row_of_node x y a d f env within n at t ys m formed row bindings carried raised below typed judged goes closes goes' brought body =
    subst (λ e. TypesRow x f env (λ c. e.typed c) (number_of x.item n) m) (sym (let_term x.item n at t formed row))
    (let_row f (number_of x.item n) at (is_some (token_in t 1)) (expression_of x.item (filled_in n t 5)) raised below (types_to_close y a env (is_some (token_in t 1)) (bindings_of x.item (operands_in n t 2)) ys (judged bindings x.item) group) closes.nodes closes.close telling inside)
  where
    here : y.item ≡ x.item
    here = ap (λ (p : Parts). p.item) raised

    there : d.item ≡ x.item
    there = goes'.item ∙ goes.item ∙ here

    telling : d.telling ≡ x.telling
    telling = goes'.telling ∙ goes.telling ∙ ap (λ (p : Parts). p.telling) raised

    group : TypesGroup y a env (is_some (token_in t 1)) (bindings_of x.item (operands_in n t 2)) (map typed_as ys)
    group = subst (λ i. TypesGroup y a env (is_some (token_in t 1)) (bindings_of i (operands_in n t 2)) (map typed_as ys)) here (typed bindings)

    inside : TypesTo d f (added (bind_entries (names_closed ys)) env) (expression_of x.item (filled_in n t 5)).typed (λ ch. ch.type_at (expression_of x.item (filled_in n t 5)).node) m
    inside = subst (λ es. TypesTo d f es (expression_of x.item (filled_in n t 5)).typed (λ ch. ch.type_at (expression_of x.item (filled_in n t 5)).node) m) (brought ∙ entries_added (names_closed ys) env)
        (subst (λ i. TypesTo d f within (λ c. (expression_of i (filled_in n t 5)).typed c) (λ ch. ch.type_at (expression_of i (filled_in n t 5)).node) m) there (body carried))
