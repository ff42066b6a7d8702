use Rattle.std.specs.Prelude.{OnOk}
use Rattle.std.proofs.Common.{subst}
use Rattle.env_table.specs.declared.faults.FaultKind.TheVariants as fault
use Rattle.syntax_tree.specs.View.{tok_of}
use Rattle.typing_state.specs.Places.{place_without_point}
use Rattle.typing_state.specs.declared.messages.Word.TheVariants as word
use Rattle.typing_state.specs.Goes.{faults_of, Told}
use Rattle.typing_state.specs.Messages.{unbound_text}
use Rattle.typing_state.specs.Bound.{TellsLost}
use Rattle.typing_state.proofs.Binding.{tells_at}
use Rattle.typing_state.proofs.parts.Parts.lost.Goals as goal

pub returns-in-Some-clause-told : goal.returns-in-Some-clause-told
returns-in-Some-clause-told c =
    let q = tok_of c.in-Some.token.now in
    subst (λ lost. OnOk c.unbound.result (TellsLost lost c.args.self.now c.unbound.new.self (tok_of c.args.last.now) c.args.word)) c.in-Some.ensures.first
    (tells_at c.unbound.result c.args.self.now c.unbound.new.self c.without_point.result (place_without_point q) word.Module q.name c.without_point.ensures
    (subst (λ name. OnOk c.unbound.result (Told c.args.self.now.telling (faults_of c.args.self.now) (faults_of c.unbound.new.self) c.without_point.result fault.Bound (unbound_text word.Module name))) c.as_str.ensures c.unbound.ensures.told))

pub returns-in-None-clause-goes : goal.returns-in-None-clause-goes
returns-in-None-clause-goes c = c.unbound-in-None.ensures.goes

pub returns-in-Some-clause-goes : goal.returns-in-Some-clause-goes
returns-in-Some-clause-goes c = c.unbound.ensures.goes
