use Rattle.std.proofs.Common.{◌≡◌, map, length, drop}
use Rattle.syntax_tree.specs.View.{child_view}
use Rattle.text_analysis.proofs.alike.+alike.Given as goal

-- lists whose rests are alike are alike
abbrev pub invariant-alike_children-loop-place : goal.invariant-alike_children-loop-place
invariant-alike_children-loop-place l =
    (length l.left ≡ length l.right) × (map child_view (drop l.place l.left) ≡ map child_view (drop l.place l.right) → map child_view l.left ≡ map child_view l.right)
