use Rattle.std.proofs.Common.{sym, subst}
use Rattle.service_model.specs.Replies as said
use Rattle.session.specs.Lines.{IsWritten, RefusesEditBy, refusal_in}
use Rattle.session.proofs.session.refused_edit_line.Goals as goal

pub returns-in-BadPosition : goal.returns-in-BadPosition
returns-in-BadPosition c = subst (λ r. RefusesEditBy (refusal_in r) c.error_line.result) (sym c.in-BadPosition.is) (subst (λ k. IsWritten (said.bad_position k) c.error_line.result) c.key_of.ensures c.error_line.ensures)

pub returns-in-SplitsChar : goal.returns-in-SplitsChar
returns-in-SplitsChar c =
    let l = c.error_line-in-SplitsChar.result in
    subst (λ r. RefusesEditBy (refusal_in r) l) (sym c.in-SplitsChar.is) (subst (λ k. IsWritten (said.splits_char k) l) c.key_of-in-SplitsChar.ensures c.error_line-in-SplitsChar.ensures)
