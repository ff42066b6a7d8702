use Rattle.std.proofs.Common.{◌≡◌, drop, map, find}
use Rattle.service_model.specs.Answers.{is_id}
use Rattle.syntax_tree.specs.View.{id_of}
use Rattle.plain_typing.specs.View.{seen_of}
use Rattle.text_reading.proofs.plain.find_seen.Given as goal

abbrev pub invariant-loop-node : goal.invariant-loop-node
invariant-loop-node l = find (is_id (id_of l.id)) (map seen_of (drop l.node-index l.seen)) ≡ find (is_id (id_of l.id)) (map seen_of l.seen)
