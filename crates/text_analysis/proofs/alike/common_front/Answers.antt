use Rattle.std.proofs.Common.{◌∙◌, sym, ap, arith}
use Rattle.syntax_tree.specs.View.{node_view}
use Rattle.text_analysis.proofs.Likeness.{front_ends, one_more_alike}
use Rattle.text_analysis.proofs.alike.common_front.Goals as goal

pub loop-k-preserved : goal.loop-k-preserved
loop-k-preserved c =
    one_more_alike c.args.left.now c.args.right.now c.loop-k.k c.index-left-k.result c.index-right-k.result (omega arith) (omega arith) c.loop-k.invariant c.index-left-k.is c.index-right-k.is
    (sym (ap node_view c.deref.ensures) ∙ c.alike_nodes.ensures.alike c.if-not-alike_nodes.false ∙ ap node_view c.deref-in-loop-k.ensures)

pub returns-then-not-alike_nodes : goal.returns-then-not-alike_nodes
returns-then-not-alike_nodes c =
    front_ends c.args.left.now c.args.right.now c.loop-k.k c.index-left-k.result c.index-right-k.result (omega arith) (omega arith) c.loop-k.invariant c.index-left-k.is c.index-right-k.is
    (λ h. let never = c.if-not-alike_nodes.ensures.all (ap node_view c.deref.ensures ∙ h ∙ sym (ap node_view c.deref-in-loop-k.ensures)) in cc)
