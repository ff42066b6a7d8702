use Rattle.type_expressions.proofs.Untyped.{untyped_same, untyped_then, plain_untyped}
use Rattle.typing_state.proofs.Going.{goes_refl, goes_trans}
use Rattle.std.proofs.Common.{refl, subst}
use Rattle.decl_typing.specs.Owned.{IsOwnRight}
use Rattle.decl_typing.proofs.Denoting.{only_same}
use Rattle.decl_typing.proofs.decls.read_other.Goals as goal

pub returns-in-Abstract-clause-goes : goal.returns-in-Abstract-clause-goes
returns-in-Abstract-clause-goes c = goes_refl c.args.at.now

pub returns-in_err-note_plain-in-Abbreviation-clause-goes : goal.returns-in_err-note_plain-in-Abbreviation-clause-goes
returns-in_err-note_plain-in-Abbreviation-clause-goes c = c.note_plain.ensures.goes

pub returns-in_err-note_plain-in-Own-clause-goes : goal.returns-in_err-note_plain-in-Own-clause-goes
returns-in_err-note_plain-in-Own-clause-goes c = c.note_plain-in-Own.ensures.goes

pub returns-in_err-note_plain-in-Reexport-clause-goes : goal.returns-in_err-note_plain-in-Reexport-clause-goes
returns-in_err-note_plain-in-Reexport-clause-goes c = c.note_plain-in-Reexport.ensures.goes

pub returns-in_err-note_plain-in-Reexport-2-clause-goes : goal.returns-in_err-note_plain-in-Reexport-2-clause-goes
returns-in_err-note_plain-in-Reexport-2-clause-goes c = goes_trans c.args.at.now c.read_type-in-Reexport.new.at c.note_plain-in-Reexport-2.new.self (goes_trans c.args.at.now c.note_plain-in-Reexport.new.self c.read_type-in-Reexport.new.at c.note_plain-in-Reexport.ensures.goes c.read_type-in-Reexport.ensures.goes) c.note_plain-in-Reexport-2.ensures.goes

pub returns-in_err-other-in-Reexport-clause-goes : goal.returns-in_err-other-in-Reexport-clause-goes
returns-in_err-other-in-Reexport-clause-goes c = goes_trans c.args.at.now c.note_plain-in-Reexport.new.self c.read_type-in-Reexport.new.at c.note_plain-in-Reexport.ensures.goes c.read_type-in-Reexport.ensures.goes

pub returns-in_err-read_type-in-Abbreviation-clause-goes : goal.returns-in_err-read_type-in-Abbreviation-clause-goes
returns-in_err-read_type-in-Abbreviation-clause-goes c = goes_trans c.args.at.now c.note_plain.new.self c.read_type.new.at c.note_plain.ensures.goes c.read_type.ensures.goes

pub returns-in_ok-note_plain-in-Own-clause-goes : goal.returns-in_ok-note_plain-in-Own-clause-goes
returns-in_ok-note_plain-in-Own-clause-goes c = c.note_plain-in-Own.ensures.goes

pub returns-in_ok-note_plain-in-Reexport-2-clause-goes : goal.returns-in_ok-note_plain-in-Reexport-2-clause-goes
returns-in_ok-note_plain-in-Reexport-2-clause-goes c = goes_trans c.args.at.now c.read_type-in-Reexport.new.at c.note_plain-in-Reexport-2.new.self (goes_trans c.args.at.now c.note_plain-in-Reexport.new.self c.read_type-in-Reexport.new.at c.note_plain-in-Reexport.ensures.goes c.read_type-in-Reexport.ensures.goes) c.note_plain-in-Reexport-2.ensures.goes

pub returns-in_ok-read_type-in-Abbreviation-clause-goes : goal.returns-in_ok-read_type-in-Abbreviation-clause-goes
returns-in_ok-read_type-in-Abbreviation-clause-goes c = goes_trans c.args.at.now c.note_plain.new.self c.read_type.new.at c.note_plain.ensures.goes c.read_type.ensures.goes

pub returns-in-Abstract-clause-own : goal.returns-in-Abstract-clause-own
returns-in-Abstract-clause-own c = λ own. (refl, only_same c.args.at.now)

pub returns-in_ok-note_plain-in-Own-clause-own : goal.returns-in_ok-note_plain-in-Own-clause-own
returns-in_ok-note_plain-in-Own-clause-own c = λ own. (refl, c.note_plain-in-Own.ensures.rest)

pub returns-in_ok-note_plain-in-Reexport-2-clause-own : goal.returns-in_ok-note_plain-in-Reexport-2-clause-own
returns-in_ok-note_plain-in-Reexport-2-clause-own c = λ own. absurd (subst IsOwnRight c.in-Reexport.is own)

pub returns-in_ok-read_type-in-Abbreviation-clause-own : goal.returns-in_ok-read_type-in-Abbreviation-clause-own
returns-in_ok-read_type-in-Abbreviation-clause-own c = λ own. absurd (subst IsOwnRight c.in-Abbreviation.is own)

pub returns-in-Abstract-clause-untyped : goal.returns-in-Abstract-clause-untyped
returns-in-Abstract-clause-untyped c = untyped_same c.args.at.now

pub returns-in_ok-note_plain-in-Own-clause-untyped : goal.returns-in_ok-note_plain-in-Own-clause-untyped
returns-in_ok-note_plain-in-Own-clause-untyped c = plain_untyped c.args.at.now c.note_plain-in-Own.new.self c.in-Own.number c.args.inner.now c.in_ok-note_plain-in-Own.ensures.noted c.note_plain-in-Own.ensures.rest

pub returns-in_ok-read_type-in-Abbreviation-clause-untyped : goal.returns-in_ok-read_type-in-Abbreviation-clause-untyped
returns-in_ok-read_type-in-Abbreviation-clause-untyped c = untyped_then (plain_untyped c.args.at.now c.note_plain.new.self c.in-Abbreviation.number c.args.inner.now c.in_ok-note_plain-in-Abbreviation.ensures.noted c.note_plain.ensures.rest) c.in_ok-read_type-in-Abbreviation.ensures.untyped

pub returns-in_ok-note_plain-in-Reexport-2-clause-untyped : goal.returns-in_ok-note_plain-in-Reexport-2-clause-untyped
returns-in_ok-note_plain-in-Reexport-2-clause-untyped c = untyped_then (untyped_then (plain_untyped c.args.at.now c.note_plain-in-Reexport.new.self c.in-Reexport.number c.args.inner.now c.in_ok-note_plain-in-Reexport.ensures.noted c.note_plain-in-Reexport.ensures.rest) c.in_ok-other-in-Reexport.ensures.untyped) (plain_untyped c.read_type-in-Reexport.new.at c.note_plain-in-Reexport-2.new.self c.in-Reexport.kind c.args.inner.now c.in_ok-note_plain-in-Reexport-2.ensures.noted c.note_plain-in-Reexport-2.ensures.rest)
