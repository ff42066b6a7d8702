use Rattle.typing_state.proofs.Going.{goes_refl}
use Rattle.std.proofs.Common.{◌∙◌, refl, sym, subst}
use Rattle.std.specs.Prelude.{true, false}
use Rattle.env_table.specs.declared.faults.FaultKind.TheVariants as fault
use Rattle.typing_state.specs.Goes.{Told, faults_of}
use Rattle.typing_state.specs.Messages.{twice_text}
use Rattle.pattern_typing.proofs.Carrying.{fresh_told}
use Rattle.pattern_typing.proofs.patterns.is_new.Goals as goal

pub returns-else-branch-clause-fresh : goal.returns-else-branch-clause-fresh
returns-else-branch-clause-fresh c = fresh_told c.args.at.now c.args.at.now false c.args.token.now c.args.seen.now.items (sym c.if-branch.false ∙ c.in_ok-is_again.ensures.again) refl

pub returns-in_ok-twice-clause-fresh : goal.returns-in_ok-twice-clause-fresh
returns-in_ok-twice-clause-fresh c =
    fresh_told c.args.at.now c.twice.new.self true c.args.token.now c.args.seen.now.items (sym c.if-branch.true ∙ c.in_ok-is_again.ensures.again)
    (subst (λ n. Told c.args.at.now.telling (faults_of c.args.at.now) (faults_of c.twice.new.self) c.args.token.now.span fault.Unique (twice_text n)) c.as_str.ensures c.in_ok-twice.ensures.told, c.twice.ensures.rest)

pub returns-else-branch-clause-goes : goal.returns-else-branch-clause-goes
returns-else-branch-clause-goes c = goes_refl c.args.at.now

pub returns-in_err-is_again-clause-goes : goal.returns-in_err-is_again-clause-goes
returns-in_err-is_again-clause-goes c = goes_refl c.args.at.now

pub returns-in_err-twice-clause-goes : goal.returns-in_err-twice-clause-goes
returns-in_err-twice-clause-goes c = c.twice.ensures.goes

pub returns-in_ok-twice-clause-goes : goal.returns-in_ok-twice-clause-goes
returns-in_ok-twice-clause-goes c = c.twice.ensures.goes
