-- The token that decides what a row asks: its operator.
use Rattle.std.specs.Prelude.{◌≡◌, Bool, false, not, codes, Option, Some, None, if◌then◌else◌}
use Rattle.std.specs.Str.{bytes_eq}
use Rattle.token_model.specs.Kinds.{Tok}
use Rattle.tree_model.specs.Rows.{Row, prefix_row, eneg_row, infix_row}
use Rattle.tree_model.specs.Trees.{Tree}
use Rattle.signature_model.specs.Declarations.{Name}
use Rattle.syntax_tree.specs.View.{tok_of}
use Rattle.row_parts.specs.Numbered.{token_in}
use Rattle.use_typing.specs.Constants.{is_negated}
use Rattle.expression_steps.specs.declared.operators.Operator.{Operator}

-- the operator of a row
abbrev pub sign_in : Row → Tree → Option Tok
sign_in infix_row t = token_in t 1
sign_in _ t = token_in t 0

-- a row that is an operator with its arguments; a minus is none over a numeral with a point
abbrev pub IsOperation : Row → Bool → Type 0
IsOperation prefix_row is_float = Unit {0}
IsOperation infix_row is_float = Unit {0}
IsOperation eneg_row is_float = is_float ≡ false
IsOperation _ is_float = ⊥

-- the name of the value that an operator is: over an argument alone - is ~-, and -. is ~-.
abbrev pub operator_name : Row → Name → Name
operator_name eneg_row x = if bytes_eq x (codes "-.") then codes "~-." else codes "~-"
operator_name _ x = x

-- whether its argument is directly under a minus
abbrev pub operator_negates : Row → Name → Bool
operator_negates eneg_row x = not (bytes_eq x (codes "-."))
operator_negates _ x = false

-- the operator that a row's token is
pub record IsOperator (r : Row) (t : Tok) (o : Operator) : Type 0 where
  pub start : (tok_of o.named).start ≡ t.start
  pub end : (tok_of o.named).end ≡ t.end
  pub name : (tok_of o.named).name ≡ operator_name r t.name
  pub negates : is_negated o.sign ≡ operator_negates r t.name

-- the operator of a row, which has its token
abbrev pub IsSignOf : Row → Option Tok → Operator → Type 0
IsSignOf r None o = ⊥
IsSignOf r (Some t) o = IsOperator r t o
