use Rattle.std.proofs.Common.{◌∙◌, sym, ap, map, arith}
use denote.Enum.Bare.{differs_false, differs_true}
use Rattle.syntax_tree.specs.contracts.rows.RowName.{the_type}
use Rattle.syntax_tree.specs.declared.tree.Node.{out-Node}
use Rattle.syntax_tree.specs.View.{child_view}
use Rattle.text_analysis.proofs.Likeness.{children_same, ends_differ, extent_same, nodes_alike, one_at, part_same, rest_alike, row_same, same_ends, slot_same}
use Rattle.text_analysis.proofs.OneName.{rows_are_one}
use Rattle.text_analysis.proofs.Sorts.{missing_only, taken_only}
use Rattle.text_analysis.proofs.alike.+alike.Goals as goal
use Rattle.text_analysis.proofs.alike.+alike.Goals.{alike_nodes-then-ne-via-then-ne, alike_nodes-then-ne-via-else-ne+then-ne-2, alike_children-then-child-other-via-then-child-other, alike_children-then-child-other-via-else-child-other+then-not-alike_parts}

pub alike_nodes-returns-then-ne-clause-all : goal.alike_nodes-returns-then-ne-clause-all
alike_nodes-returns-then-ne-clause-all t c h =
    let m = c.args.left.now in
    let n = c.args.right.now in
    let a = out-Node m in
    let b = out-Node n in
    elim c.then-ne.branch [
      | alike_nodes-then-ne-via-then-ne w ↦ absurd (differs_true the_type a.row b.row (sym w.if-ne.ensures) (rows_are_one a.row b.row (row_same m n h)))
      | alike_nodes-then-ne-via-else-ne+then-ne-2 w ↦ absurd (ends_differ a.span.start b.span.start a.span.end b.span.end w.if-ne-2.ensures (ap (λ x. x.span.start) (extent_same m n h)) (ap (λ x. x.span.end) (extent_same m n h)))
    ]

pub alike_nodes-returns-clause-alike : goal.alike_nodes-returns-clause-alike
alike_nodes-returns-clause-alike t c h =
    let a = out-Node c.args.left.now in
    let b = out-Node c.args.right.now in
    let (s, e) = same_ends a.span.start b.span.start a.span.end b.span.end c.if-ne-2.ensures in
    nodes_alike c.args.left.now c.args.right.now (differs_false the_type tt a.row b.row (sym c.if-ne.ensures)) s e c.if-left-right.false c.if-left-right-2.false
    (sym (ap (map child_view) c.deref.ensures.value) ∙ c.alike_children.ensures.alike h ∙ ap (map child_view) c.deref-2.ensures.value)

pub alike_nodes-returns-clause-all : goal.alike_nodes-returns-clause-all
alike_nodes-returns-clause-all t c h =
    c.alike_children.ensures.all (ap (map child_view) c.deref.ensures.value ∙ children_same c.args.left.now c.args.right.now h ∙ sym (ap (map child_view) c.deref-2.ensures.value))

pub alike_children-returns-then-child-other-clause-all : goal.alike_children-returns-then-child-other-clause-all
alike_children-returns-then-child-other-clause-all t c h =
    let k = c.loop-place.place in
    let x = c.index-left-place.result in
    let y = c.index-right-place.result in
    let same = one_at child_view c.args.left.now c.args.right.now k x y (omega arith) (omega arith) c.index-left-place.is c.index-right-place.is h in
    elim c.then-child-other.branch [
      | alike_children-then-child-other-via-then-child-other w ↦ absurd (w.if-child-other.true (slot_same x y same))
      | alike_children-then-child-other-via-else-child-other+then-not-alike_parts w ↦ w.if-not-alike_parts.ensures.all (part_same x y same)
    ]

pub alike_children-loop-place-preserved : goal.alike_children-loop-place-preserved
alike_children-loop-place-preserved t c = (
  c.loop-place.invariant.0,
  λ rest. c.loop-place.invariant.1 (rest_alike c.args.left.now c.args.right.now c.loop-place.place c.index-left-place.result c.index-right-place.result (omega arith) (omega arith)
      c.index-left-place.is c.index-right-place.is c.if-child-other.false (c.alike_parts.ensures.alike c.if-not-alike_parts.false) rest),
)

pub alike_parts-returns-in_default : goal.alike_parts-returns-in_default
alike_parts-returns-in_default t c = record {
  alike = λ never. cc;
  all = λ same. absurd (taken_only c.args.left.now c.args.right.now c.in_default.field-0-0 c.in_default.is-0 c.in_default.not-Taken-1 same);
}

pub alike_parts-returns-in_default-3 : goal.alike_parts-returns-in_default-3
alike_parts-returns-in_default-3 t c = record {
  alike = λ never. cc;
  all = λ same. absurd (missing_only c.args.left.now c.args.right.now c.in_default.field-0-0 c.in_default.is-0 c.in_default.not-Missing-1 same);
}
