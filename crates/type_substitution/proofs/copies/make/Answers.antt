use Rattle.type_substitution.proofs.Made.{call_extends}
use Rattle.type_substitution.proofs.copies.make.Goals as goal

pub returns-in-Arrow-clause-extends : goal.returns-in-Arrow-clause-extends
returns-in-Arrow-clause-extends c = call_extends c.arrow.result c.args.store.now c.arrow.new.self _ c.arrow.ensures.made c.arrow.ensures.failed

pub returns-in-Tuple-clause-extends : goal.returns-in-Tuple-clause-extends
returns-in-Tuple-clause-extends c = call_extends c.tuple.result c.args.store.now c.tuple.new.self _ c.tuple.ensures.made c.tuple.ensures.failed

pub returns-in-Con-clause-extends : goal.returns-in-Con-clause-extends
returns-in-Con-clause-extends c = call_extends c.con.result c.args.store.now c.con.new.self _ c.con.ensures.made c.con.ensures.failed
