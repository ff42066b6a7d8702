-- A group of bindings: those that are missing come first, of which only a record is made.
use Rattle.std.proofs.Common.{◌≡◌, ◌∙◌, ℕ, Bool, true, false, List, [], Option, Some, None, sym, ap, subst}
use Rattle.token_model.specs.Kinds.{Tok}
use Rattle.typing_model.specs.Parts.{Binding}
use Rattle.typing_model.specs.Bindings.{bound_in_turn, bound_together}
use Rattle.typing_model.specs.Expressions.{is_some}
use Rattle.env_table.specs.declared.entries.Entry.{Entry}
use Rattle.typing_state.specs.declared.parts.Parts.{Parts}
use Rattle.typing_state.specs.Goes.{Goes, OnlyIndex}
use Rattle.typing_state.specs.Notes.{NotedNameless}
use Rattle.typing_conditions.specs.Steps.{OnlyReports}
use Rattle.typing_conditions.proofs.Carried.{carried_trans, done_last}
use Rattle.typing_conditions.proofs.Surrounding.{surrounds_on}
use Rattle.typing_steps.specs.States.{is_aloud, sight}
use Rattle.typing_steps.proofs.Still.{none_idle, carried_idle, state_still}
use Rattle.binding_rows.proofs.Cases.{missing_case}
use Rattle.binding_rows.specs.Groups.{TypedBinding, TypesBindings, AsksNothing, TypesGroup}

-- nothing is done
pub nothing_done : (a b : Parts) → b ≡ a → AsksNothing a b
nothing_done a b same = λ F scope G. state_still a b same

-- a missing binding: its number is recorded
pub nothing_noted : (a b : Parts) (number : ℕ) (env : List Entry) → NotedNameless a b number env None → OnlyIndex a b → AsksNothing a b
nothing_noted a b number env noted rest = missing_case a b number env noted rest

-- one call after another
pub nothing_more : (a b d : Parts) → AsksNothing a b → AsksNothing b d → AsksNothing a d
nothing_more a b d p q = λ F scope G. carried_trans (p F scope G) (q F scope G)

-- A group, whose missing bindings come first.
pub group_typed : (a b d : Parts) (env : List Entry) (is_rec : Bool) (xs : List Binding) (ys : List TypedBinding) → AsksNothing a b → Goes a b → TypesGroup b d env is_rec xs ys → TypesGroup a d env is_rec xs ys
group_typed a b d env is_rec xs ys missing goes typed = λ aloud F scope G s.
    let p = missing F scope G in
    let q = typed (ap is_aloud goes.telling ∙ aloud) F scope G (surrounds_on p.stays s) in
    record { own = q.own; carried = carried_trans p q.carried; done = done_last p q.carried q.done; typed = q.typed }

-- without `rec`, by the token of the row
pub group_in_turn : (a b d : Parts) (env : List Entry) (o : Option Tok) (xs : List Binding) (ys : List TypedBinding) → o ≡ None → AsksNothing a b → Goes a b → TypesBindings b d env (λ c. bound_in_turn c [] xs) xs ys → TypesGroup a d env (is_some o) xs ys
group_in_turn a b d env o xs ys none missing goes typed = subst (λ r. TypesGroup a d env r xs ys) (sym (ap is_some none)) (group_typed a b d env false xs ys missing goes typed)

-- with `rec`
pub group_together : (a b d : Parts) (env : List Entry) (o : Option Tok) (t : Tok) (xs : List Binding) (ys : List TypedBinding) → o ≡ Some t → AsksNothing a b → Goes a b → TypesBindings b d env (λ c. bound_together c xs) xs ys → TypesGroup a d env (is_some o) xs ys
group_together a b d env o t xs ys some missing goes typed = subst (λ r. TypesGroup a d env r xs ys) (sym (ap is_some some)) (group_typed a b d env true xs ys missing goes typed)

-- what leaves the store, and reports nothing
pub nothing_reported : (a b : Parts) → OnlyReports (sight a) (sight b) → (sight b).reports ≡ (sight a).reports → AsksNothing a b
nothing_reported a b rest same = λ F scope G. carried_idle none_idle rest same
