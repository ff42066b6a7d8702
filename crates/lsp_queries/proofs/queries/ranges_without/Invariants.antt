use Rattle.std.proofs.Common.{◌≡◌, ◌++◌, map, drop}
use Rattle.std.specs.Prelude.{option_map}
use Rattle.json_lines.specs.Meets.{pair_of}
use Rattle.json_lines.specs.Means.{span_of}
use Rattle.lsp_front.specs.Sayings.{range_of}
use Rattle.lsp_positions.specs.Texts.{columns_in}
use Rattle.lsp_queries.specs.Answers.{ranges_of}
use Rattle.lsp_queries.proofs.queries.ranges_without.Given as goal

abbrev pub invariant-loop-span : goal.invariant-loop-span
invariant-loop-span g l =
    map range_of l.ranges.items ++ ranges_of (columns_in l.by) l.session.text (option_map pair_of l.left_out) (map span_of (drop l.span-index l.spans)) ≡ ranges_of (columns_in l.by) l.session.text (option_map pair_of l.left_out) (map span_of l.spans)
