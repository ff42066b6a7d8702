use Rattle.std.proofs.Common.{◌+◌, ◌*◌, map, drop}
use Rattle.row_parts.specs.Numbered.{operand_view}
use Rattle.pattern_matrix.specs.Views.{typed_of}
use Rattle.match_warnings.specs.Patterns.{patterns_of, by_labels, field_view}
use Rattle.match_warnings.proofs.Finding.{FindsFirst}
use Rattle.match_warnings.proofs.pats.+pats.Given as goal

abbrev pub decreases-pat_of : goal.decreases-pat_of
decreases-pat_of l = 7 * l.depth.0 + 6

abbrev pub decreases-node_pat : goal.decreases-node_pat
decreases-node_pat l = 7 * l.depth.0 + 5

abbrev pub decreases-compound : goal.decreases-compound
decreases-compound l = 7 * l.depth.0 + 4

abbrev pub decreases-pats_of : goal.decreases-pats_of
decreases-pats_of l = 7 * l.depth.0 + 3

abbrev pub decreases-record : goal.decreases-record
decreases-record l = 7 * l.depth.0 + 3

abbrev pub decreases-whole_pat : goal.decreases-whole_pat
decreases-whole_pat l = 7 * l.depth.0 + 2

abbrev pub decreases-by_labels : goal.decreases-by_labels
decreases-by_labels l = 7 * l.depth.0 + 1

abbrev pub decreases-label_pat : goal.decreases-label_pat
decreases-label_pat l = 7 * l.depth.0

abbrev pub invariant-pats_of-loop-part : goal.invariant-pats_of-loop-part
invariant-pats_of-loop-part l = FindsFirst l.env l.fn.seen.items l.seen.items (map typed_of l.pats.items) (patterns_of l.env (map operand_view (drop l.part-index l.parts))) (patterns_of l.env (map operand_view l.parts))

abbrev pub invariant-by_labels-loop-label : goal.invariant-by_labels-loop-label
invariant-by_labels-loop-label l = FindsFirst l.env l.fn.seen.items l.seen.items (map typed_of l.pats.items) (by_labels (drop l.label-index l.labels) (map (field_view l.env) l.fields)) (by_labels l.labels (map (field_view l.env) l.fields))
