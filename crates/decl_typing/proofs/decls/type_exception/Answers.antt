use Rattle.std.proofs.Common.{subst}
use Rattle.decl_typing.specs.Entering.{DeclaresPartIf}
use Rattle.decl_typing.proofs.decls.type_exception.Goals as goal

pub returns-clause-goes : goal.returns-clause-goes
returns-clause-goes c = c.exception_part.ensures.goes

pub returns-in_err-entry-clause-goes : goal.returns-in_err-entry-clause-goes
returns-in_err-entry-clause-goes c = c.exception_part.ensures.goes

pub returns-in_err-alone-clause-goes : goal.returns-in_err-alone-clause-goes
returns-in_err-alone-clause-goes c = c.exception_part.ensures.goes

pub returns-in_err-with_entry-clause-goes : goal.returns-in_err-with_entry-clause-goes
returns-in_err-with_entry-clause-goes c = c.exception_part.ensures.goes

pub returns-clause-means : goal.returns-clause-means
returns-clause-means c = record {
  entry = c.in_ok-entry.entry;
  declares = subst (λ o. DeclaresPartIf c.args.at.now c.exception_part.new.at c.args.env.now o c.args.at.now.constants.exn.0 c.in_ok-entry.entry) c.first_operand.ensures c.in_ok-entry.ensures.means;
  entries = c.in_ok-alone.ensures;
  behind = c.in_ok-with_entry.ensures;
  makes = c.new.ensures.items;
}

pub returns-clause-untyped : goal.returns-clause-untyped
returns-clause-untyped c = c.in_ok-entry.ensures.untyped
