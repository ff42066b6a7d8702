use Rattle.std.proofs.Common.{◌≡◌, ◌++◌, map, drop}
use Rattle.service_model.specs.Structure.{shown_member}
use Rattle.text_queries.specs.Outlines.{member_of}
use Rattle.json_lines.specs.Means.{outlined_of}
use Rattle.text_reading.proofs.structure.+shown.Given as goal

abbrev pub invariant-shown_outline-loop-member : goal.invariant-shown_outline-loop-member
invariant-shown_outline-loop-member l = map outlined_of l.shown.items ++ map (shown_member l.store) (map member_of (drop l.member-index l.members)) ≡ map (shown_member l.store) (map member_of l.members)
