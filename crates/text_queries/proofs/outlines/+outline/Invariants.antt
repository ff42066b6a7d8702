use Rattle.std.proofs.Common.{◌≡◌, ◌++◌, map, drop, Some}
use Rattle.text_terms.specs.Bytes.{str_bytes}
use Rattle.query_model.specs.Outlines.{bound_inside, member, members_of}
use Rattle.syntax_tree.specs.View.{child_view, forest_of, node_view, place_of}
use Rattle.syntax_tree.specs.declared.tree.Node.{out-Node}
use Rattle.query_engine.specs.View.{kind_of}
use Rattle.text_queries.specs.Outlines.{inside, inside_by, member_of, named_as}
use Rattle.text_queries.proofs.outlines.+outline.Given as goal

abbrev pub invariant-add_in_slot-loop-child : goal.invariant-add_in_slot-loop-child
invariant-add_in_slot-loop-child l =
    let left = forest_of (map child_view (drop l.child-index l.child-items)) in
    map member_of l.out.items ++ bound_inside (Some l.slot) left ≡ map member_of l.fn.out.items ++ inside_by (Some l.slot) (node_view l.node)

abbrev pub invariant-add_named-loop-name : goal.invariant-add_named-loop-name
invariant-add_named-loop-name l =
    let left = map str_bytes (drop l.name-index l.name-items) in
    map member_of l.out.items ++ map (λ n. member (kind_of l.binder.kind) n (place_of (out-Node l.node).span) (members_of (inside (node_view l.node)))) left
    ≡ map member_of l.fn.out.items ++ named_as l.binder (node_view l.node)
