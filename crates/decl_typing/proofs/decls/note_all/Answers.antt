use Rattle.type_expressions.proofs.Untyped.{untyped_same, untyped_then, plain_untyped}
use Rattle.decl_typing.proofs.Denoting.{only_same, index_then}
use Rattle.typing_state.proofs.Going.{goes_refl, goes_trans}
use Rattle.decl_typing.proofs.decls.note_all.Goals as goal

pub returns-clause-goes : goal.returns-clause-goes
returns-clause-goes c = c.loop-number.invariant.goes

pub returns-in_err-note_plain-clause-goes : goal.returns-in_err-note_plain-clause-goes
returns-in_err-note_plain-clause-goes c = goes_trans c.args.at.now c.loop-number.at c.note_plain.new.self c.loop-number.invariant.goes c.note_plain.ensures.goes

pub returns-clause-rest : goal.returns-clause-rest
returns-clause-rest c = c.loop-number.invariant.rest

pub returns-clause-untyped : goal.returns-clause-untyped
returns-clause-untyped c = c.loop-number.invariant.untyped

pub returns-in_err-note_plain-clause-rest : goal.returns-in_err-note_plain-clause-rest
returns-in_err-note_plain-clause-rest c = index_then c.loop-number.invariant.rest c.note_plain.ensures.rest

pub loop-number-init : goal.loop-number-init
loop-number-init c = record { goes = goes_refl c.args.at.now; rest = only_same c.args.at.now; untyped = untyped_same c.args.at.now }

pub loop-number-preserved : goal.loop-number-preserved
loop-number-preserved c = record {
  goes = goes_trans c.args.at.now c.loop-number.at c.note_plain.new.self c.loop-number.invariant.goes c.note_plain.ensures.goes;
  rest = index_then c.loop-number.invariant.rest c.note_plain.ensures.rest;
  untyped = untyped_then c.loop-number.invariant.untyped (plain_untyped c.loop-number.at c.note_plain.new.self _ c.args.env.now c.in_ok-note_plain.ensures.noted c.note_plain.ensures.rest);
}
