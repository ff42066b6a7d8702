-- Types that are written behind patterns and expressions.
use Rattle.std.specs.Prelude.{◌≡◌, ℕ, List, Option, Some, None}
use Rattle.text_terms.specs.declared.Span.{Span}
use Rattle.type_terms.specs.declared.types.NodeRef.{NodeRef}
use Rattle.row_parts.specs.Numbered.{Numbered}
use Rattle.env_table.specs.declared.entries.Entry.{Entry}
use Rattle.typing_state.specs.declared.parts.Parts.{Parts}
use Rattle.typing_state.specs.declared.demands.Verdict.{Verdict}
use Rattle.typing_state.specs.Demands.{EqualIs}
use Rattle.typing_state.specs.Goes.{Goes}
use Rattle.tree_model.specs.Trees.{Place}
use Rattle.operand_laws.specs.Operands.{type_of}
use Rattle.typing_rows.specs.Operands.{IsTypeOperand, Annotates}

-- the type that is written behind a part, which is read and which the part has; without one the part's own
abbrev pub IsAsWritten : Option Numbered → Span → NodeRef → (old new : Parts) → List Entry → NodeRef → Type 0
IsAsWritten None at ty old new env n = (n ≡ ty) × (new ≡ old)
IsAsWritten (Some t) at ty old new env n = (read : Parts) × Goes old read × (v : Verdict) × EqualIs v read new at ty n env

-- what is carried of a part that may have a type written behind it
abbrev pub AsksWritten : (a b : Parts) → List Entry → Option Numbered → Place → (found m : ℕ) → Type 0
AsksWritten a b env None place found m = Unit {0}
AsksWritten a b env (Some o) place found m = IsTypeOperand o → Annotates a b env (type_of a.item o) place found m
