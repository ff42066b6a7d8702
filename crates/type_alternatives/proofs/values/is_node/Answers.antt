use Rattle.std.proofs.lemmas.Bool.{ltb-false}
use Rattle.type_alternatives.proofs.Outside.{reads_nothing}
use Rattle.type_alternatives.proofs.values.is_node.Goals as goal

pub returns-clause-outside : goal.returns-clause-outside
returns-clause-outside c h = reads_nothing c.args.store.now.nodes c.args.node.0 (rw c.len.ensures.count at (ltb-false c.args.node.0 c.len.result h))
