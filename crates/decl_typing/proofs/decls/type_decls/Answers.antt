use Rattle.std.proofs.Common.{◌∙◌, map, ap}
use Rattle.std.proofs.lemmas.Result.{IfOk-weaker}
use Rattle.decl_groups.specs.Written.{declaration_view}
use Rattle.typing_state.proofs.Going.{goes_trans, goes_refl}
use Rattle.decl_typing.proofs.decls.type_decls.Goals as goal

pub returns-clause-own : goal.returns-clause-own
returns-clause-own c = IfOk-weaker c.declared_behind.result _ _ (λ d group. record {
  parts = c.deref-2.result.now;
  written = ap (map declaration_view) c.deref-2.ensures.value ∙ c.in_ok-parts.ensures;
  noted = c.note_all.new.at;
  rest = c.note_all.ensures.rest;
  untyped = c.in_ok-note_all.ensures.untyped;
  goes = c.note_all.ensures.goes;
  declares = group;
}) c.declared_behind.ensures.own

pub returns-clause-goes : goal.returns-clause-goes
returns-clause-goes c = goes_trans c.args.at.now c.note_all.new.at c.declared_behind.new.at c.note_all.ensures.goes c.declared_behind.ensures.goes

pub returns-in_err-missing-clause-goes : goal.returns-in_err-missing-clause-goes
returns-in_err-missing-clause-goes c = goes_refl c.args.at.now

pub returns-in_err-note_all-clause-goes : goal.returns-in_err-note_all-clause-goes
returns-in_err-note_all-clause-goes c = c.note_all.ensures.goes

pub returns-in_err-parts-clause-goes : goal.returns-in_err-parts-clause-goes
returns-in_err-parts-clause-goes c = c.note_all.ensures.goes
