use Rattle.std.proofs.Common.{map}
use Rattle.std.specs.List.{AllZip}
use Rattle.name_queries.specs.Completions.{IsTold}
use Rattle.name_queries.proofs.completions.told.Given as goal

abbrev pub invariant-loop-entry : goal.invariant-loop-entry
invariant-loop-entry l = AllZip (IsTold l.asked l.env) (map (λ v. v.now.now.value) l.yielded) l.told.items
