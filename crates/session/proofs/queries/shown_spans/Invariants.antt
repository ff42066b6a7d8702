use Rattle.std.proofs.Common.{◌≡◌, ◌++◌, map, drop}
use Rattle.service_model.specs.Answers.{shown_place}
use Rattle.syntax_tree.specs.View.{place_of}
use Rattle.json_lines.specs.Means.{span_of}
use Rattle.session.proofs.queries.shown_spans.Given as goal

abbrev pub invariant-loop-span : goal.invariant-loop-span
invariant-loop-span l = map span_of l.shown.items ++ map (shown_place l.store) (map place_of (drop l.span-index l.spans)) ≡ map (shown_place l.store) (map place_of l.spans)
