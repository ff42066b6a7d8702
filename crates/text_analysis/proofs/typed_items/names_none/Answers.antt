use Rattle.text_analysis.proofs.TypedLaws.{names_nothing, not_carried}
use Rattle.text_analysis.proofs.typed_items.names_none.Goals as goal

pub returns-in-Let-clause-none : goal.returns-in-Let-clause-none
returns-in-Let-clause-none c = λ e. names_nothing c.args.item.now c.in-Let.is

pub returns-in_default : goal.returns-in_default
returns-in_default c = record {
  none = λ e. absurd (cc);
  carried = λ h. absurd (not_carried c.args.item.now c.in_default.not-Let c.in_default.not-Break c.in_default.not-Exception h);
}
