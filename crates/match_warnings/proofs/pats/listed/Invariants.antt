use Rattle.std.proofs.Common.{◌≡◌, ◌++◌, map, drop}
use Rattle.pattern_matrix.specs.Views.{members_of}
use Rattle.match_warnings.specs.Patterns.{declared_member}
use Rattle.match_warnings.proofs.pats.listed.Given as goal

abbrev pub invariant-loop-constructor : goal.invariant-loop-constructor
invariant-loop-constructor l = members_of l.all.items ++ map declared_member (drop l.constructor-index l.constructors) ≡ map declared_member l.constructors
