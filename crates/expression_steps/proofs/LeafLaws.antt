-- What is told of expressions without parts stays where nothing is told behind it.
use Rattle.std.proofs.Common.{◌≡◌, ◌∙◌, List, sym, subst}
use Rattle.std.specs.Prelude.{Bool, Option, Some, None}
use Rattle.tree_model.specs.Trees.{Tree}
use denote.Ref.{Bor}
use Rattle.syntax_tree.specs.View.{node_view}
use Rattle.syntax_tree.specs.declared.tree.Node.{Node}
use Rattle.row_parts.specs.declared.slots.Operand.{Operand}
use Rattle.row_parts.specs.Numbered.{Written, operand_view, part_of}
use Rattle.env_table.specs.declared.entries.Entry.{Entry}
use Rattle.env_table.specs.declared.entries.Kind.TheVariants as kind
use Rattle.typing_state.specs.declared.parts.Parts.{Parts}
use Rattle.typing_state.specs.Goes.{OnlyIndex, Silent}
use Rattle.typing_state.proofs.Silence.{index_silent}
use Rattle.use_typing.proofs.Telling.{bound_stays, range_stays, use_stays}
use Rattle.expression_steps.specs.declared.forms.RowForm.{RowForm}
use Rattle.expression_steps.specs.declared.forms.RowForm.TheVariants as form
use Rattle.value_forms.specs.Heads.{row_at, constructor_in}
use Rattle.expression_steps.specs.Forms.{Value, named, constant, anything, value_in, form_of}
use Rattle.expression_steps.specs.Leaves.{TellsAlone, TellsAs, TellsEither, TellsValue}

value_stays : (v : Value) (negated : Bool) (env : List Entry) (a b c : Parts) → TellsValue v negated a b env → Silent b c → TellsValue v negated a c env
value_stays (named p) negated env a b c told q = bound_stays p kind.Value env a b c told q
value_stays (constant t) negated env a b c told q = range_stays t negated a b c told q
value_stays anything negated env a b c told q = q ∙ told

either_stays : (p : Option Written) (v : Value) (negated : Bool) (env : List Entry) (a b c : Parts) → TellsEither p v negated a b env → Silent b c → TellsEither p v negated a c env
either_stays None v negated env a b c told q = value_stays v negated env a b c told q
either_stays (Some p) v negated env a b c told q = use_stays p 0 env a b c told q

-- of a row by its form
pub form_stays : (f : RowForm) (t : Tree) (negated : Bool) (env : List Entry) (a b c : Parts) → TellsAs f t negated a b env → Silent b c → TellsAs f t negated a c env
form_stays form.Leaf t negated env a b c told q = either_stays (constructor_in (row_at t) t) (value_in (row_at t) t) negated env a b c told q
form_stays form.Application t negated env a b c told q = tt
form_stays form.Operation t negated env a b c told q = tt
form_stays form.Minus t negated env a b c told q = tt
form_stays form.Record t negated env a b c told q = tt
form_stays form.Let t negated env a b c told q = tt
form_stays form.Match t negated env a b c told q = tt
form_stays form.Cases t negated env a b c told q = tt
form_stays form.Function t negated env a b c told q = tt
form_stays form.Parenthesised t negated env a b c told q = tt
form_stays form.Set t negated env a b c told q = tt
form_stays form.Loop t negated env a b c told q = tt
form_stays form.Plain t negated env a b c told q = tt

-- an expression that is missing
pub alone_missing : (o : Operand) (negated : Bool) (env : List Entry) (a b : Parts) → o.node ≡ None → Silent a b → TellsAlone (operand_view o).part negated a b env
alone_missing o negated env a b e q = subst (λ m. TellsAlone (part_of m o.span) negated a b env) (sym e) q

-- one that is there, once it is recorded
pub alone_there : (o : Operand) (nd : Bor Node) (negated : Bool) (env : List Entry) (a b c : Parts) → o.node ≡ Some nd →
    TellsAs (form_of (row_at (node_view nd.now))) (node_view nd.now) negated a b env → OnlyIndex b c → TellsAlone (operand_view o).part negated a c env
alone_there o nd negated env a b c e told p =
    subst (λ m. TellsAlone (part_of m o.span) negated a c env) (sym e)
    (form_stays (form_of (row_at (node_view nd.now))) (node_view nd.now) negated env a b c told (index_silent b c p))
