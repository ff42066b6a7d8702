use Rattle.std.proofs.Common.{sym, map, append-nil}
use Rattle.text_queries.specs.Outlines.{member_of}
use Rattle.text_queries.proofs.Empty.{nothing_inside}
use Rattle.text_queries.proofs.outlines.+outline.Goals as goal

pub add_inside-returns-in-None : goal.add_inside-returns-in-None
add_inside-returns-in-None t c = rw (nothing_inside c.args.node.now c.inner_slot.result c.inner_slot.ensures c.in-None.is) (sym (append-nil (map member_of c.args.out.now.items)))
