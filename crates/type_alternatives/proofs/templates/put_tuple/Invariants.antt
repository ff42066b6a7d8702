use Rattle.std.proofs.Common.{◌≡◌, ◌++◌, ◌-◌, codes}
use Rattle.std.specs.Prelude.{string_bytes}
use Rattle.type_alternatives.specs.Templates.{repeated}
use Rattle.type_alternatives.proofs.templates.put_tuple.Given as goal

abbrev pub invariant-loop : goal.invariant-loop
invariant-loop l = string_bytes l.text ++ repeated (l.parts - l.counter) (codes ", _") ≡ (string_bytes l.fn.text ++ codes "(_") ++ repeated (l.parts - 1) (codes ", _")
