use Rattle.std.proofs.Common.{◌≡◌, ◌++◌, map, drop}
use Rattle.pattern_matrix.specs.Views.{members_of}
use Rattle.match_warnings.specs.Patterns.{member}
use Rattle.match_warnings.proofs.pats.built_in.Given as goal

abbrev pub invariant-loop-other : goal.invariant-loop-other
invariant-loop-other l = members_of l.list.items ++ map (λ a. member a.0.now a.1) (drop l.other-index l.all) ≡ map (λ a. member a.0.now a.1) l.all
