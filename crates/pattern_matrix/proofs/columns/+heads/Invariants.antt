use Rattle.std.proofs.Common.{◌≡◌, map, drop}
use Rattle.text_terms.specs.Bytes.{str_bytes}
use Rattle.pattern_matrix.specs.Lines.{listed, some_is_head}
use Rattle.pattern_matrix.specs.Views.{typed_of}
use Rattle.pattern_matrix.proofs.columns.+heads.Given as goal

abbrev pub invariant-some_is_head-loop-pat : goal.invariant-some_is_head-loop-pat
invariant-some_is_head-loop-pat l = some_is_head (str_bytes l.name) (listed (map typed_of (drop l.pat-index l.pats))) ≡ some_is_head (str_bytes l.name) (listed (map typed_of l.pats))
