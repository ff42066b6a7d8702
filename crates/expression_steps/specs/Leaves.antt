-- What an expression without parts tells, and that it tells nothing else.
use Rattle.std.specs.Prelude.{Bool, List, Option, Some, None}
use Rattle.tree_model.specs.Trees.{Tree, Part, taken, inner, missing}
use Rattle.row_parts.specs.Numbered.{Written}
use Rattle.env_table.specs.declared.entries.Entry.{Entry}
use Rattle.env_table.specs.declared.entries.Kind.TheVariants as kind
use Rattle.typing_state.specs.declared.parts.Parts.{Parts}
use Rattle.typing_state.specs.Goes.{Silent}
use Rattle.use_typing.specs.Constants.{TellsRange}
use Rattle.use_typing.specs.Uses.{TellsBound, TellsUse}
use Rattle.expression_steps.specs.declared.forms.RowForm.{RowForm}
use Rattle.expression_steps.specs.declared.forms.RowForm.TheVariants as form
use Rattle.value_forms.specs.Heads.{row_at, constructor_in}
use Rattle.expression_steps.specs.Forms.{Value, named, constant, anything, value_in, form_of}

-- a value: `bound` of a name, `range` of a constant
abbrev pub TellsValue : Value → (negated : Bool) → (old new : Parts) → List Entry → Type 0
TellsValue (named p) negated old new env = TellsBound p kind.Value old new env
TellsValue (constant t) negated old new env = TellsRange t negated old new
TellsValue anything negated old new env = Silent old new

-- a constructor alone: `bound`, and `arity` of no argument; or else a value
abbrev pub TellsEither : Option Written → Value → (negated : Bool) → (old new : Parts) → List Entry → Type 0
TellsEither None v negated old new env = TellsValue v negated old new env
TellsEither (Some p) v negated old new env = TellsUse p 0 old new env

-- a row without parts
abbrev pub TellsLeaf : Tree → (negated : Bool) → (old new : Parts) → List Entry → Type 0
TellsLeaf t negated old new env = TellsEither (constructor_in (row_at t) t) (value_in (row_at t) t) negated old new env

-- of rows of this form only those without parts are told of
abbrev pub TellsAs : RowForm → Tree → (negated : Bool) → (old new : Parts) → List Entry → Type 0
TellsAs form.Leaf t negated old new env = TellsLeaf t negated old new env
TellsAs _ t negated old new env = Unit {0}

-- an expression, where it is missing or has no parts
abbrev pub TellsAlone : Part → (negated : Bool) → (old new : Parts) → List Entry → Type 0
TellsAlone (taken t) negated old new env = Silent old new
TellsAlone (missing at) negated old new env = Silent old new
TellsAlone (inner t) negated old new env = TellsAs (form_of (row_at t)) t negated old new env
