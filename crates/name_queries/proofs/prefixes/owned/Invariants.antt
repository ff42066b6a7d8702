use Rattle.std.proofs.Common.{◌≡◌, ◌++◌, map, drop}
use Rattle.text_terms.specs.Bytes.{str_bytes}
use Rattle.name_queries.proofs.prefixes.owned.Given as goal

abbrev pub invariant-loop-part : goal.invariant-loop-part
invariant-loop-part l = map str_bytes l.texts.items ++ map (λ x. x.now) (drop l.part-index l.parts) ≡ map (λ x. x.now) l.parts
