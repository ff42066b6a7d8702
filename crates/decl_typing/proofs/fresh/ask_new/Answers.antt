use Rattle.typing_state.proofs.Going.{goes_refl, only_faults_same}
use Rattle.std.proofs.Common.{◌≡◌, refl, subst}
use Rattle.std.specs.Prelude.{if◌then◌else◌, true}
use Rattle.std.specs.Str.{bytes_eq}
use Rattle.decl_typing.specs.Fresh.{has}
use Rattle.decl_typing.proofs.fresh.ask_new.Goals as goal

pub returns-in-Ok-clause-added : goal.returns-in-Ok-clause-added
returns-in-Ok-clause-added c q = subst (λ t. has c.insert.new.self q ≡ (if bytes_eq t q then true else has c.args.names.now q)) c.as_str-text.ensures (c.in-Ok.ensures.updates.0 (record { ref_ptr = (0, 0); now = q }))

pub returns-in-Err-clause-goes : goal.returns-in-Err-clause-goes
returns-in-Err-clause-goes c = goes_refl c.args.at.now

pub returns-in-Ok-clause-goes : goal.returns-in-Ok-clause-goes
returns-in-Ok-clause-goes c = goes_refl c.args.at.now

pub returns-then-contains-clause-goes : goal.returns-then-contains-clause-goes
returns-then-contains-clause-goes c = c.twice.ensures.goes

pub returns-in-Err-clause-rest : goal.returns-in-Err-clause-rest
returns-in-Err-clause-rest c = only_faults_same c.args.at.now c.args.at.now refl

pub returns-in-Ok-clause-rest : goal.returns-in-Ok-clause-rest
returns-in-Ok-clause-rest c = only_faults_same c.args.at.now c.args.at.now refl

pub returns-then-contains-clause-rest : goal.returns-then-contains-clause-rest
returns-then-contains-clause-rest c = c.twice.ensures.rest
