-- Cases and parameters by the operands of the code.
use Rattle.std.proofs.Common.{◌≡◌, ◌∙◌, ℕ, List, [], Option, Some, None, option_map, refl, sym, ap, subst}
use Rattle.std.specs.Option.{IfSome}
use denote.Ref.{Bor}
use Rattle.tree_model.specs.Trees.{inner, missing}
use Rattle.signature_model.specs.Declarations.{Name}
use Rattle.syntax_tree.specs.View.{place_of, node_view}
use Rattle.syntax_tree.specs.declared.tree.Node.{Node}
use Rattle.row_parts.specs.declared.slots.Operand.{Operand}
use Rattle.row_parts.specs.Numbered.{Numbered, numbered, operand_view, part_of}
use Rattle.typing_model.specs.Parts.{Pattern}
use Rattle.env_table.specs.declared.entries.Entry.{Entry}
use Rattle.typing_state.specs.declared.parts.Parts.{Parts}
use Rattle.typing_state.specs.Goes.{Goes, OnlyIndex}
use Rattle.typing_state.specs.Notes.{NotedNameless}
use Rattle.typing_steps.specs.Typing.{AsksEqual}
use Rattle.operand_laws.specs.Operands.{expression_of, pattern_of}
use Rattle.operand_laws.proofs.Standing.{pattern_of_stands}
use Rattle.typing_rows.specs.CarriedRows.{IsCarried}
use Rattle.typing_rows.specs.Contracts.{TypesAs}
use Rattle.pattern_rows.specs.Bounds.{Bind}
use Rattle.pattern_rows.specs.CarriedPatterns.{IsCarriedPattern}
use Rattle.pattern_rows.specs.Contracts.{MatchesTo, Matches}
use Rattle.binding_rows.specs.Cases.{case_of, case_over, MatchesAs, MatchesWithin, TypesGuard, TypesBody, TypesCaseParts, TypesCasePartsTo, TypesCaseIf}
use Rattle.binding_rows.specs.CaseCarried.{IsCaseNode, IsCase}
use Rattle.binding_rows.proofs.Cases.{matches_as, guard_some, parts_typed, case_typed, missing_case}
use Rattle.binding_rows.proofs.Matches.{case_term}

-- a pattern with names of its own
pub matches_alone : {a b : Parts} {env : List Entry} {p : Pattern} {names : List Bind} {seen then : List Name} {m : ℕ} → seen ≡ [] → Matches a b env p [] names seen then m → MatchesTo a b env p [] names m
matches_alone {a} {b} {env} {p} {names} {seen} {then} {m} none h = subst (λ ns. MatchesTo a b env p ns names m) none (subst (λ bs. MatchesTo a b env p seen bs m) (sym h.adds.binds) h.typed)

-- it has the type of what is matched
pub pattern_matched : (a b d : Parts) (env : List Entry) (o : Numbered) (names : List Bind) (seen then : List Name) (found wanted : ℕ) → seen ≡ [] → (IsCarriedPattern o → Matches a b env (pattern_of a.item o) [] names seen then found) → Goes a b → AsksEqual b d env o.at found wanted →
    IsCarriedPattern o → MatchesAs a d env (pattern_of a.item o) names wanted
pattern_matched a b d env o names seen then found wanted none matched goes asked carried =
    matches_as a b d env (pattern_of a.item o) o.at names found wanted (pattern_of_stands a.item o).where_it_is (matches_alone none (matched carried)) goes asked

-- a guard, where there is one
pub guard_typed : (a b : Parts) (env : List Entry) (o : Numbered) → (IsCarried o → TypesAs a b env (expression_of a.item o) a.constants.bool.0) → IsCarried o → TypesGuard a b env (Some (expression_of a.item o))
guard_typed a b env o typed carried = guard_some a b env (expression_of a.item o) (typed carried)

-- A case by its operands.
pub operands_typed : (a b d e : Parts) (env inside : List Entry) (n : ℕ) (pattern body : Numbered) (guard : Option Numbered) (matched : ℕ) (bodies : Option ℕ) (m : ℕ) → (IsCarriedPattern pattern → MatchesWithin a b env inside (pattern_of a.item pattern) matched) → Goes a b →
    (IfSome guard IsCarried → TypesGuard b d inside (option_map (λ o. expression_of b.item o) guard)) → Goes b d → (IsCarried body → TypesBody d e inside (expression_of d.item body) bodies m) →
    IsCarriedPattern pattern → IfSome guard IsCarried → IsCarried body → TypesCaseParts a e env (pattern_of a.item pattern) (option_map (λ o. expression_of a.item o) guard) (expression_of a.item body) matched bodies m
operands_typed a b d e env inside n pattern body guard matched bodies m first goes guarded goes' typed carried carried_guard carried_body =
    let x = first carried in
    let y = subst (λ q. TypesGuard b d q (option_map (λ o. expression_of a.item o) guard)) x.scope (subst (λ i. TypesGuard b d inside (option_map (λ o. expression_of i o) guard)) goes.item (guarded carried_guard)) in
    let z = subst (λ q. TypesBody d e q (expression_of a.item body) bodies m) x.scope (subst (λ i. TypesBody d e inside (expression_of i body) bodies m) (goes'.item ∙ goes.item) (typed carried_body)) in
    parts_typed a b d e env (pattern_of a.item pattern) (option_map (λ o. expression_of a.item o) guard) (expression_of a.item body) x.added matched bodies m x.typed goes y goes' z

-- a case that is missing
pub case_missing : (a b : Parts) (env : List Entry) (o : Operand) (matched : ℕ) (bodies : Option ℕ) → o.node ≡ None → NotedNameless a b o.number env None → OnlyIndex a b → TypesCaseIf a b env (case_of a.item (operand_view o)) matched bodies bodies
case_missing a b env o matched bodies none noted rest =
    let same : numbered o.number (place_of o.span) (missing (place_of o.span)) ≡ operand_view o = ap (λ m. numbered o.number (place_of o.span) (part_of m o.span)) (sym none) in
    subst (λ x. TypesCaseIf a b env (case_of a.item x) matched bodies bodies) same (refl, missing_case a b o.number env noted rest)

-- one that is there, by its node
pub case_there : (a b d : Parts) (env : List Entry) (o : Operand) (nd : Bor Node) (matched : ℕ) (bodies now : Option ℕ) → o.node ≡ Some nd → NotedNameless a b o.number env None → OnlyIndex a b → Goes a b →
    (IsCaseNode o.number (node_view nd.now) → TypesCasePartsTo b d env (case_over b.item o.number (node_view nd.now)) matched bodies now) → IsCase (operand_view o) → TypesCaseIf a d env (case_of a.item (operand_view o)) matched bodies now
case_there a b d env o nd matched bodies now there noted rest goes typed carried =
    let t = node_view nd.now in
    let same : numbered o.number (place_of o.span) (inner t) ≡ operand_view o = ap (λ m. numbered o.number (place_of o.span) (part_of m o.span)) (sym there) in
    let here : IsCaseNode o.number t = subst IsCase (sym same) carried in
    let (m, is, parts) = subst (λ i. TypesCasePartsTo b d env (case_over i o.number t) matched bodies now) goes.item (typed here) in
    subst (λ x. TypesCaseIf a d env (case_of a.item x) matched bodies now) same
    (subst (λ x. TypesCaseIf a d env x matched bodies now) (sym (case_term a.item o.number (place_of o.span) t here.formed here.row)) (m, is, case_typed a b d env o.number (case_over a.item o.number t) matched bodies m refl noted rest goes parts))
