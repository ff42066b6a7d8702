-- The names in scope that functions of type expressions record, by what their calls do.
use Rattle.std.proofs.Common.{◌≡◌, ◌∙◌, ◌+◌, ◌<◌, ℕ, List, ◌∷◌, length, map, drop, Some, None, refl, sym, ap, subst}
use Rattle.std.specs.Prelude.{All, Option, slice_index_or}
use Rattle.std.proofs.lemmas.List.{drop_more}
use Rattle.std.proofs.lemmas.List.Elements.{All-nil}
use Rattle.tree_model.specs.Rows.{Row, tparen_row, tapp_row, ttuple_row, tarrow_row}
use Rattle.tree_model.specs.Trees.{Tree, node}
use denote.Ref.{Bor}
use Rattle.syntax_tree.specs.View.{place_of, node_view}
use Rattle.syntax_tree.specs.declared.tree.Node.{Node}
use Rattle.row_parts.specs.declared.slots.Operand.{Operand}
use Rattle.row_parts.specs.Numbered.{Numbered, operand_view, part_of, filled_in}
use Rattle.typing_model.specs.TypeExpressions.{read_all}
use Rattle.env_table.specs.declared.entries.Entry.{Entry}
use Rattle.env_table.specs.declared.seen.Seen.{Seen}
use Rattle.typing_state.specs.declared.parts.Parts.{Parts}
use Rattle.typing_state.specs.Goes.{Goes}
use Rattle.typing_state.specs.Notes.{Noted, NotedNameless}
use Rattle.typing_steps.specs.States.{is_aloud}
use Rattle.operand_laws.specs.Formed.{row_of}
use Rattle.operand_laws.specs.Operands.{number_of, type_of}
use Rattle.typing_rows.specs.Rows.{types_read, front_asks}
use Rattle.typing_rows.specs.Operands.{IsTypeOperand}
use Rattle.typing_rows.specs.Treating.{TreatsTo, TreatsOperand, TreatsPart, TreatsOperands, TreatsGiven, TreatsFront, TreatsFirst}
use Rattle.typing_rows.proofs.Noted.{still_scoped, scope_after, plain_scope}
use Rattle.typing_rows.proofs.Placed.{slot_operands, row_operands, filled_operand}
use Rattle.typing_rows.proofs.Treating.{treats_on, treats_as, treats_node, one_treated, unresolved_treats, row_treats}
use Rattle.type_expressions.specs.Operands.{parts_by_row, parts_read, several}
use Rattle.type_expressions.proofs.Carrying.{part_read, alone_operand, several_operand, operand_there}

-- a type expression, once its node is recorded
pub operand_treats : (a b d : Parts) (env : List Entry) (o : Operand) (seen : Seen) → Goes a b → TreatsPart a b env o.number (place_of o.span) (part_of o.node o.span) → seen.env ≡ env → Noted b.telling b d o.number seen → Goes b d → TreatsOperand a d env (operand_view o)
operand_treats a b d env o seen goes read in_scope noted further operand aloud =
    treats_as (λ c. part_read a.item o.number (place_of o.span) (part_of o.node o.span) c operand.formed)
    (treats_node a.item o.number (scope_after a b d o.number seen goes noted aloud ∙ ap Some in_scope) (treats_on (still_scoped further) (read operand.formed aloud)))

-- a type expression that is missing
pub missing_treats : (a b : Parts) (env : List Entry) (o : Operand) → o.node ≡ None → TreatsPart a b env o.number (place_of o.span) (part_of o.node o.span)
missing_treats a b env o none = subst (λ (x : Option (Bor Node)). TreatsPart a b env o.number (place_of o.span) (part_of x o.span)) (sym none) (λ formed aloud. unresolved_treats (number_of a.item o.number))

-- a node: its parts, and then its end
pub node_treats : (a b d : Parts) (env : List Entry) (o : Operand) (nd : Bor Node) → o.node ≡ Some nd → TreatsFront a b env o.number (node_view nd.now) → Goes b d → TreatsPart a d env o.number (place_of o.span) (part_of o.node o.span)
node_treats a b d env o nd there front goes =
    subst (λ (x : Option (Bor Node)). TreatsPart a d env o.number (place_of o.span) (part_of x o.span)) (sym there) (λ formed. row_treats a b d env (λ c. front_asks (row_of (node_view nd.now)) a.item o.number (node_view nd.now) c) (row_of (node_view nd.now)) a.item o.number (place_of o.span) (node_view nd.now) (front formed) goes)

-- what is before a constructor is all that is read there
pub app_treats : (a b : Parts) (env : List Entry) (n : ℕ) (t : Tree) → row_of t ≡ tapp_row → TreatsGiven a b env (filled_in n t 0) → TreatsFront a b env n t
app_treats a b env n t row given formed = subst (λ r. TreatsTo a b env (λ c. front_asks r a.item n t c)) (sym row) (given (filled_operand n t 0 formed))

-- of another row its operands are
pub other_treats : (a b : Parts) (env : List Entry) (n : ℕ) (t : Tree) → (row_of t ≡ tapp_row → ⊥) → TreatsOperands a b env (parts_read n t) → TreatsFront a b env n t
unfolding parts_by_row
other_treats a b env n (node r x ps) other read formed = by r other read
  where
    t : Tree
    t = node r x ps

    by : (q : Row) → (q ≡ tapp_row → ⊥) → TreatsOperands a b env (parts_by_row q n t) → TreatsTo a b env (λ c. front_asks q a.item n t c)
    by tparen_row o h = h (slot_operands n t 1 formed)
    by tapp_row o h = absurd (o refl)
    by ttuple_row o h = h (row_operands n t formed)
    by tarrow_row o h = h (row_operands n t formed)
    by _ o h = h (All-nil IsTypeOperand)

-- one type expression alone before a constructor
pub alone_treats : (a b : Parts) (env : List Entry) (o : Numbered) → several o ≡ None → TreatsOperand a b env o → TreatsGiven a b env o
alone_treats a b env o none read operand aloud = let alone = alone_operand a.item o none operand.formed in treats_as (λ c. sym (alone.read c)) (read operand aloud)

-- several type expressions in parentheses before a constructor, once their node is recorded
pub several_treats : (a b d : Parts) (env : List Entry) (o : Numbered) (os : List Numbered) → several o ≡ Some os → NotedNameless a b o.number env None → Goes a b → TreatsOperands b d env os → Goes b d → TreatsGiven a d env o
several_treats a b d env o os some noted goes read further operand aloud =
    let h = several_operand a.item o os some operand.formed in
    treats_as (λ c. sym (h.asks c))
    (treats_node a.item o.number (still_scoped further a.item o.number env (plain_scope a b o.number env aloud noted)) (subst (λ i. TreatsTo b d env (λ c. read_all c (types_read i os))) goes.item (read h.operands) (ap is_aloud goes.telling ∙ aloud)))

-- one type expression more was read in a loop
pub each_treats : (a b d : Parts) (env : List Entry) (os : List Operand) (i : ℕ) (x : Operand) → i < length os → x ≡ slice_index_or os i x → All IsTypeOperand (map operand_view os) →
    TreatsFirst a b env (types_read a.item (map operand_view os)) (types_read a.item (map operand_view (drop i os))) → Goes a b → Goes b d → TreatsOperand b d env (operand_view x) →
    TreatsFirst a d env (types_read a.item (map operand_view os)) (types_read a.item (map operand_view (drop (i + 1) os)))
each_treats a b d env os i x lt here all first goes further read =
    let cut : drop i os ≡ x ∷ drop (i + 1) os = drop_more os i x lt ∙ ap (λ o. o ∷ drop (i + 1) os) (sym here) in
    let one = subst (λ k. TreatsTo b d env (λ c. (type_of k (operand_view x)).read c)) goes.item (read (operand_there os i x lt here all)) in
    one_treated a b d env (types_read a.item (map operand_view os)) (types_read a.item (map operand_view (drop (i + 1) os))) (type_of a.item (operand_view x))
    (subst (λ us. TreatsFirst a b env (types_read a.item (map operand_view os)) (types_read a.item (map operand_view us))) cut first) goes further one
