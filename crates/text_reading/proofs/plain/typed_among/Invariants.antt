use Rattle.std.proofs.Common.{◌≡◌, ◌++◌, drop, map}
use Rattle.service_model.specs.Answers.{typed_among}
use Rattle.syntax_tree.specs.View.{id_of}
use Rattle.json_lines.specs.Means.{typed_of}
use Rattle.plain_typing.specs.View.{seen_of}
use Rattle.text_reading.proofs.plain.typed_among.Given as goal

abbrev pub invariant-loop-id : goal.invariant-loop-id
invariant-loop-id l = map typed_of l.types.items ++ typed_among l.store (map seen_of l.seen) (map id_of (drop l.id-index l.ids)) ≡ typed_among l.store (map seen_of l.seen) (map id_of l.ids)
