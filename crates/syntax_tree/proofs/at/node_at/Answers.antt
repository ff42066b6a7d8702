use Rattle.tree_model.proofs.Lasts.{last_id_lem}
use Rattle.syntax_tree.specs.View.{trees_of}
use Rattle.syntax_tree.proofs.at.node_at.Goals as goal

pub returns : goal.returns
returns c = rw (← last_id_lem c.args.offset 1 (trees_of c.args.tree.now)) c.last_in_items.ensures
