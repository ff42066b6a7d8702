use Rattle.std.proofs.Common.{◌≡◌, map, drop}
use Rattle.pattern_matrix.specs.Lines.{listed, family_in_some}
use Rattle.pattern_matrix.specs.Views.{typed_of}
use Rattle.pattern_matrix.proofs.columns.+family.Given as goal

abbrev pub invariant-family_in_some-loop-pat : goal.invariant-family_in_some-loop-pat
invariant-family_in_some-loop-pat l = family_in_some (listed (map typed_of (drop l.pat-index l.pats))) ≡ family_in_some (listed (map typed_of l.pats))
