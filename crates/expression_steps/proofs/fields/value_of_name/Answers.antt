use Rattle.typing_state.proofs.Going.{goes_trans}
use Rattle.std.proofs.Common.{map, Some, ap, subst}
use Rattle.syntax_tree.specs.View.{tok_of}
use Rattle.typing_model.specs.Expressions.{value_asks}
use Rattle.typing_steps.specs.Typing.{TypesOwn}
use Rattle.expression_steps.proofs.fields.value_of_name.Goals as goal

pub returns-clause-carries : goal.returns-clause-carries
returns-clause-carries c = record {
  used = c.value.new.at;
  node = c.in_ok-used.used.ty.0;
  typed = λ n k. subst (λ q. TypesOwn c.args.at.now c.value.new.at c.args.env.now (λ x t. value_asks x n k (record { qualifiers = q; last = Some (tok_of c.args.name.now) }) t) c.in_ok-used.used.ty.0) (ap (map (λ t. tok_of t.now)) c.new.ensures.items) (c.in_ok-used.ensures.carries n k);
  goes = c.value.ensures.goes;
  equal = c.in_ok-equal_if.ensures.carries;
}

pub returns-clause-goes : goal.returns-clause-goes
returns-clause-goes c = goes_trans c.args.at.now c.value.new.at c.equal_if.new.at c.value.ensures.goes c.equal_if.ensures.goes

pub returns-in_err-equal_if-clause-goes : goal.returns-in_err-equal_if-clause-goes
returns-in_err-equal_if-clause-goes c = goes_trans c.args.at.now c.value.new.at c.equal_if.new.at c.value.ensures.goes c.equal_if.ensures.goes

pub returns-in_err-used-clause-goes : goal.returns-in_err-used-clause-goes
returns-in_err-used-clause-goes c = c.value.ensures.goes
