-- What is carried of a binding, by the operands of the code.
use Rattle.std.proofs.Common.{◌≡◌, ◌∙◌, ◌++◌, ℕ, List, [], ◌∷◌, Option, Some, None, option_map, refl, sym, ap, subst}
use Rattle.std.specs.Prelude.{All}
use Rattle.std.proofs.lemmas.List.Elements.{All-head, All-tail}
use denote.Ref.{Bor}
use Rattle.tree_model.specs.Trees.{Tree, inner}
use Rattle.signature_model.specs.Declarations.{Name}
use Rattle.syntax_tree.specs.View.{place_of, node_view}
use Rattle.syntax_tree.specs.declared.tree.Node.{Node}
use Rattle.row_parts.specs.declared.slots.Operand.{Operand}
use Rattle.row_parts.specs.Numbered.{Numbered, numbered, operand_view, part_of, operands_in, first_in, filled_in, token_in}
use Rattle.token_model.specs.Kinds.{Tok}
use Rattle.typing_model.specs.Parts.{Pattern}
use Rattle.typing_model.specs.Bindings.{right_side, bound_in_turn, bound_together}
use Rattle.env_table.specs.declared.entries.Entry.{Entry}
use Rattle.typing_state.specs.declared.parts.Parts.{Parts}
use Rattle.typing_state.specs.Goes.{Goes, OnlyIndex}
use Rattle.typing_state.specs.Notes.{NotedNameless}
use Rattle.typing_steps.specs.Typing.{TypesTo, AsksEqual}
use Rattle.typing_steps.specs.Warning.{OnlyWarnings}
use Rattle.operand_laws.specs.Operands.{expression_of, pattern_of, type_of}
use Rattle.operand_laws.proofs.Standing.{expression_of_stands, pattern_of_stands}
use Rattle.typing_rows.specs.CarriedRows.{IsCarried}
use Rattle.typing_rows.specs.Operands.{ReadsOperand}
use Rattle.pattern_rows.specs.Bounds.{Bind}
use Rattle.pattern_rows.specs.CarriedPatterns.{IsCarriedPattern}
use Rattle.pattern_rows.specs.Contracts.{patterns_of, MatchesTo, Matches}
use Rattle.binding_rows.specs.CaseScopes.{names_added}
use Rattle.binding_rows.specs.Parameters.{TypesParameters, MakesArrows}
use Rattle.binding_rows.specs.Rights.{ReadsAnnotation, MakesWhole, TypesRightBody, TypesRight}
use Rattle.binding_rows.specs.Groups.{TypedBinding, OpenedBinding, names_opened, AsksWhole, TypesBindings, TypesTurnIf, OpensIf, ConcludesBinding, ConcludesAll, AsksNothing}
use Rattle.binding_rows.specs.Carried.{IsBindingNode, IsBinding, NumberedNode, IsNumberedBinding, nodes_there}
use Rattle.binding_rows.specs.Operands.{binding_of, bindings_of, binding_over, bindings_over, ReadsAnnotationOf, MakesWholeOf, TypesRightBodyOf, TypesRightOf, TypesRightNode, RecordsRightNode, AsksWholeOf, TypesTurnNode, TypesTurnOperand, TypesInTurn, OpensOperand, OpensOperands, ConcludesNode, ConcludesNodes, ConcludesNodesFirst, TypesTogether, TypesGroupNode}
use Rattle.binding_rows.proofs.Rights.{annotation_none, annotation_some, whole_plain, whole_written, body_typed, right_typed, right_of_parts, right_recorded}
use Rattle.binding_rows.proofs.Typed.{whole_asked}
use Rattle.binding_rows.proofs.Turns.{turn_typed}
use Rattle.binding_rows.proofs.Together.{open_typed, conclusion_typed, concludes_none, concludes_more, concludes_all, together_typed}
use Rattle.binding_rows.proofs.Groups.{group_in_turn, group_together}
use Rattle.binding_rows.proofs.Terms.{binding_term, written_is_type, nodes_are_bindings, nodes_over}

-- no type is written
pub annotation_left_out : (a : Parts) (env : List Entry) → ReadsAnnotationOf a a env None None
annotation_left_out a env = λ carried. annotation_none a env

-- a type is written
pub annotation_there : (a b : Parts) (env : List Entry) (o : Numbered) (m : ℕ) → ReadsOperand a b env o m → ReadsAnnotationOf a b env (Some o) (Some m)
annotation_there a b env o m read = λ carried. annotation_some a b env (type_of a.item o) m (read carried)

-- the type of a binding without a written type
pub whole_of_body : (a b : Parts) (env : List Entry) (o : Numbered) (ms : List ℕ) (right m : ℕ) → MakesArrows a b ms right m → MakesWholeOf a b env o None ms right m
whole_of_body a b env o ms right m made = whole_plain a b env (expression_of a.item o) ms right m made

-- and with one
pub whole_of_written : (a b d : Parts) (env : List Entry) (o : Numbered) (written : ℕ) (ms : List ℕ) (right m : ℕ) → AsksEqual a b env o.at right written → MakesArrows b d ms written m → MakesWholeOf a d env o (Some written) ms right m
whole_of_written a b d env o written ms right m asked made = whole_written a b d env (expression_of a.item o) o.at written ms right m (expression_of_stands a.item o).where_it_is asked made

-- the body of a right side
pub body_of_operand : (a b d : Parts) (env : List Entry) (o : Numbered) (written : Option ℕ) (ms : List ℕ) (right m : ℕ) →
    (IsCarried o → TypesTo a b env (λ c. (expression_of a.item o).typed c) (λ ch. ch.type_at (expression_of a.item o).node) right) → Goes a b → MakesWholeOf b d env o written ms right m → TypesRightBodyOf a d env o written ms right m
body_of_operand a b d env o written ms right m typed goes made = λ carried.
    body_typed a b d env (expression_of a.item o) written ms right m (typed carried) goes (subst (λ i. MakesWhole b d env (expression_of i o) written ms right m) goes.item made)

-- A right side by its operands.
pub right_of_operands : (a b d f : Parts) (env within : List Entry) (os : List Numbered) (w : Option Numbered) (o : Numbered) (ms : List ℕ) (written : Option ℕ) (right m : ℕ) →
    (All IsCarriedPattern os → TypesParameters a b env within (patterns_of a.item os) ms) → Goes a b → ReadsAnnotationOf b d env w written → Goes b d → TypesRightBodyOf d f within o written ms right m → TypesRightOf a f env os w o right m
right_of_operands a b d f env within os w o ms written right m parameters goes read goes' typed = λ patterns types carried.
    right_typed a b d f env within (patterns_of a.item os) (option_map (λ q. type_of a.item q) w) (expression_of a.item o) ms written right m (parameters patterns) goes
    (subst (λ i. ReadsAnnotation b d env (option_map (λ q. type_of i q) w) written) goes.item (read types)) goes'
    (subst (λ i. TypesRightBody d f within (expression_of i o) written ms right m) (goes'.item ∙ goes.item) (typed carried))

-- the right side of a node, by its operands
pub right_of_node : (a b : Parts) (env : List Entry) (n : ℕ) (t : Tree) (os : List Numbered) (w : Option Numbered) (o : Numbered) (right m : ℕ) → os ≡ operands_in n t 1 → w ≡ first_in n t 3 → o ≡ filled_in n t 5 → TypesRightOf a b env os w o right m →
    TypesRightNode a b env n t right m
right_of_node a b env n t os w o right m given written body typed = λ carried.
    right_of_parts a b env (binding_over a.item n t) right m
    (subst (λ q. TypesRightOf a b env (operands_in n t 1) (first_in n t 3) q right m) body (subst (λ q. TypesRightOf a b env (operands_in n t 1) q o right m) written (subst (λ qs. TypesRightOf a b env qs w o right m) given typed))
    carried.parameters (written_is_type n t carried.formed) carried.body)

-- the same after the record of its number
pub right_node_recorded : (a b d : Parts) (env : List Entry) (n : ℕ) (t : Tree) (right m : ℕ) → NotedNameless a b n env None → OnlyIndex a b → Goes a b → TypesRightNode b d env n t right m → RecordsRightNode a d env n t right m
right_node_recorded a b d env n t right m noted rest goes typed = λ carried.
    right_recorded a b d env n (binding_over a.item n t) right m refl noted rest goes (subst (λ i. TypesRight b d env (λ c. right_side c (binding_over i n t)) (binding_over i n t) right m) goes.item (typed carried))

-- the demand on a pattern, and the warnings of it
pub whole_of_pattern : (a b d : Parts) (env : List Entry) (o : Numbered) (found whole : ℕ) → AsksEqual a b env o.at found whole → OnlyWarnings b d → AsksWholeOf a d env o found whole
whole_of_pattern a b d env o found whole asked warned = whole_asked a b d env (pattern_of a.item o) o.at found whole (pattern_of_stands a.item o).where_it_is asked warned

-- a pattern that starts without names
matches_named : {a b : Parts} {env : List Entry} {p : Pattern} {names : List Bind} {seen then : List Name} {m : ℕ} → Matches a b env p [] names seen then m → MatchesTo a b env p seen names m
matches_named {a} {b} {env} {p} {names} {seen} {then} {m} h = subst (λ bs. MatchesTo a b env p seen bs m) (sym h.adds.binds) h.typed

-- A binding without `rec`, by its node.
pub turn_of_node : (a b d e : Parts) (env : List Entry) (n : ℕ) (t : Tree) (seen then : List Name) (names : List Bind) (right whole found : ℕ) → RecordsRightNode a b env n t right whole → Goes a b →
    (IsCarriedPattern (filled_in n t 0) → Matches b d env (pattern_of b.item (filled_in n t 0)) [] names seen then found) → Goes b d → AsksWholeOf d e env (filled_in n t 0) found whole →
    TypesTurnNode a e env n t seen then (record { names = names; right = right })
turn_of_node a b d e env n t seen then names right whole found typed goes matched goes' asked = λ carried.
    let o = filled_in n t 0 in
    let x = binding_over a.item n t in
    let h = subst (λ i. Matches b d env (pattern_of i o) [] names seen then found) goes.item (matched carried.pattern) in
    let k = subst (λ i. AsksWhole d e env (pattern_of i o) found whole) (goes'.item ∙ goes.item) asked in
    record { sees = h.adds.sees; typed = turn_typed a b d e env x seen names right whole found (typed carried) goes (matches_named h) goes' k }

-- what is missing is no binding
nothing_there : (i : ℕ) (o : Operand) → o.node ≡ None → binding_of i (operand_view o) ≡ None
nothing_there i o none = sym (ap (λ m. binding_of i (numbered o.number (place_of o.span) (part_of m o.span))) (sym none))

-- a binding without `rec` that is missing
pub turn_missing : (a : Parts) (env : List Entry) (o : Operand) (seen : List Name) (ys : List TypedBinding) → o.node ≡ None → TypesTurnOperand a a env (operand_view o) seen seen ys ys
turn_missing a env o seen ys none = λ carried. subst (λ x. TypesTurnIf a a env seen seen ys ys x) (sym (nothing_there a.item o none)) (record { adds = refl; sees = refl; still = refl })

-- an operand whose node is there
pub view_there : (o : Operand) (nd : Bor Node) → o.node ≡ Some nd → numbered o.number (place_of o.span) (inner (node_view nd.now)) ≡ operand_view o
view_there o nd there = ap (λ m. numbered o.number (place_of o.span) (part_of m o.span)) (sym there)

-- it is the binding of that node
binding_there : (i : ℕ) (o : Operand) (nd : Bor Node) → o.node ≡ Some nd → IsBindingNode o.number (node_view nd.now) → binding_of i (operand_view o) ≡ Some (binding_over i o.number (node_view nd.now))
binding_there i o nd there here = ap (binding_of i) (sym (view_there o nd there)) ∙ binding_term i o.number (place_of o.span) (node_view nd.now) here.formed here.row

-- one that is there, by its node
pub turn_there : (a b : Parts) (env : List Entry) (o : Operand) (nd : Bor Node) (seen then : List Name) (ys zs : List TypedBinding) (y : TypedBinding) → o.node ≡ Some nd → zs ≡ ys ++ y ∷ [] → TypesTurnNode a b env o.number (node_view nd.now) seen then y →
    TypesTurnOperand a b env (operand_view o) seen then ys zs
turn_there a b env o nd seen then ys zs y there grown typed = λ carried.
    let here : IsBindingNode o.number (node_view nd.now) = subst IsBinding (sym (view_there o nd there)) carried in
    let h = typed here in
    subst (λ x. TypesTurnIf a b env seen then ys zs x) (sym (binding_there a.item o nd there here)) (record { one = y; adds = grown; sees = h.sees; typed = h.typed })

-- the pattern of a binding with `rec` that is missing
pub open_missing : (a : Parts) (env : List Entry) (o : Operand) (seen : List Name) (ys : List OpenedBinding) → o.node ≡ None → OpensOperand a a env (operand_view o) seen seen ys ys
open_missing a env o seen ys none = λ carried. subst (λ x. OpensIf a a env seen seen ys ys x) (sym (nothing_there a.item o none)) (record { adds = refl; sees = refl; still = refl })

-- the pattern of one that is there
pub open_there : (a b d : Parts) (env : List Entry) (o : Operand) (nd : Bor Node) (seen then : List Name) (names : List Bind) (found : ℕ) (ys zs : List OpenedBinding) → o.node ≡ Some nd → zs ≡ ys ++ record { node = found; names = names } ∷ [] →
    NotedNameless a b o.number env None → OnlyIndex a b → Goes a b → (IsCarriedPattern (filled_in o.number (node_view nd.now) 0) → Matches b d env (pattern_of b.item (filled_in o.number (node_view nd.now) 0)) [] names seen then found) →
    OpensOperand a d env (operand_view o) seen then ys zs
open_there a b d env o nd seen then names found ys zs there grown noted rest goes matched = λ carried.
    let here : IsBindingNode o.number (node_view nd.now) = subst IsBinding (sym (view_there o nd there)) carried in
    let p = filled_in o.number (node_view nd.now) 0 in
    let x = binding_over a.item o.number (node_view nd.now) in
    let h = subst (λ i. Matches b d env (pattern_of i p) [] names seen then found) goes.item (matched here.pattern) in
    subst (λ x. OpensIf a d env seen then ys zs x) (sym (binding_there a.item o nd there here))
    (record { one = record { node = found; names = names }; adds = grown; sees = h.adds.sees; opened = open_typed a b d env o.number x seen names found refl noted rest goes (matches_named h) })

-- the right side of a node whose pattern is typed
pub conclusion_of_node : (a b d : Parts) (env : List Entry) (n : ℕ) (t : Tree) (o : OpenedBinding) (right whole : ℕ) → TypesRightNode a b env n t right whole → Goes a b → AsksWholeOf b d env (filled_in n t 0) o.node whole →
    ConcludesNode a d env n t o (record { names = o.names; right = right })
conclusion_of_node a b d env n t o right whole typed goes asked = λ carried.
    conclusion_typed a b d env (binding_over a.item n t) o right whole (typed carried) goes (subst (λ i. AsksWhole b d env (pattern_of i (filled_in n t 0)) o.node whole) goes.item asked)

-- no right side yet
pub concludes_start : (a : Parts) (env : List Entry) (all : List NumberedNode) (os : List OpenedBinding) (ys : List TypedBinding) → ys ≡ [] → All IsNumberedBinding all → ConcludesNodesFirst a a env all all os os ys
concludes_start a env all os ys none are = record { are = are; typed = concludes_none a env (bindings_over a.item all) os ys none }

-- one right side more
pub concludes_step : (a b d : Parts) (env : List Entry) (all left rest : List NumberedNode) (x : NumberedNode) (opened os others : List OpenedBinding) (o : OpenedBinding) (ys zs : List TypedBinding) (y : TypedBinding) → left ≡ x ∷ rest → os ≡ o ∷ others →
    zs ≡ ys ++ y ∷ [] → Goes a b → ConcludesNodesFirst a b env all left opened os ys → ConcludesNode b d env x.number x.tree o y → ConcludesNodesFirst a d env all rest opened others zs
concludes_step a b d env all left rest x opened os others o ys zs y split split' grown goes first one =
    let are = subst (All IsNumberedBinding) split first.are in
    let h = subst (λ i. ConcludesBinding b d env (binding_over i x.number x.tree) o y) goes.item (one (All-head IsNumberedBinding x rest are)) in
    record {
      are = All-tail IsNumberedBinding x rest are;
      typed = concludes_more a b d env (bindings_over a.item all) (bindings_over a.item left) (bindings_over a.item rest) (binding_over a.item x.number x.tree) opened os others o ys zs y (ap (bindings_over a.item) split) split' grown goes first.typed h;
    }

-- all right sides
pub concludes_end : (a b : Parts) (env : List Entry) (all left : List NumberedNode) (opened os : List OpenedBinding) (ys : List TypedBinding) → left ≡ [] → (All IsNumberedBinding all → ConcludesNodesFirst a b env all left opened os ys) → ConcludesNodes a b env all opened ys
concludes_end a b env all left opened os ys none first = λ are. concludes_all a b env (bindings_over a.item all) (bindings_over a.item left) opened os ys (ap (bindings_over a.item) none) (first are).typed

-- Bindings with `rec`, by their operands.
pub together_of_operands : (a b d : Parts) (env within : List Entry) (os : List Numbered) (xs : List NumberedNode) (opened : List OpenedBinding) (ys : List TypedBinding) → OpensOperands a b env os opened → Goes a b → within ≡ names_added (names_opened opened) env →
    xs ≡ nodes_there os → ConcludesNodes b d within xs opened ys → TypesTogether a d env os ys
together_of_operands a b d env within os xs opened ys opens goes brought same concludes = λ all.
    let h = subst (λ zs. ConcludesNodes b d within zs opened ys) same concludes (nodes_are_bindings os all) in
    let k = subst (λ bs. ConcludesAll b d within bs opened ys) (nodes_over b.item os all) h in
    together_typed a b d env within (bindings_of a.item os) opened ys (opens all) goes brought (subst (λ i. ConcludesAll b d within (bindings_of i os) opened ys) goes.item k)

-- a group without `rec`
pub group_of_turns : (a b d : Parts) (env : List Entry) (n : ℕ) (t : Tree) (os : List Numbered) (ys : List TypedBinding) → os ≡ operands_in n t 2 → token_in t 1 ≡ None → AsksNothing a b → Goes a b → TypesInTurn b d env os ys → TypesGroupNode a d env n t ys
group_of_turns a b d env n t os ys given none lost goes typed = λ all.
    let h = subst (λ qs. TypesInTurn b d env qs ys) given typed all in
    group_in_turn a b d env (token_in t 1) (bindings_of a.item (operands_in n t 2)) ys none lost goes (subst (λ i. TypesBindings b d env (λ c. bound_in_turn c [] (bindings_of i (operands_in n t 2))) (bindings_of i (operands_in n t 2)) ys) goes.item h)

-- and with it
pub group_with_rec : (a b d : Parts) (env : List Entry) (n : ℕ) (t : Tree) (k : Tok) (os : List Numbered) (ys : List TypedBinding) → os ≡ operands_in n t 2 → token_in t 1 ≡ Some k → AsksNothing a b → Goes a b → TypesTogether b d env os ys →
    TypesGroupNode a d env n t ys
group_with_rec a b d env n t k os ys given some lost goes typed = λ all.
    let h = subst (λ qs. TypesTogether b d env qs ys) given typed all in
    group_together a b d env (token_in t 1) k (bindings_of a.item (operands_in n t 2)) ys some lost goes (subst (λ i. TypesBindings b d env (λ c. bound_together c (bindings_of i (operands_in n t 2))) (bindings_of i (operands_in n t 2)) ys) goes.item h)
