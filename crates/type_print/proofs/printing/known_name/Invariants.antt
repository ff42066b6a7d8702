use Rattle.std.proofs.Common.{◌≡◌, List, ℕ, drop}
use Rattle.type_model.specs.Types.{Path}
use Rattle.type_terms.specs.Views.{path_of}
use Rattle.type_print.specs.Texts.{KnownAre, is_known}
use Rattle.type_print.proofs.printing.known_name.Given as goal

abbrev pub invariant-loop-k : goal.invariant-loop-k
invariant-loop-k l = ((f : Path → List ℕ) → KnownAre f l.known → KnownAre f (drop l.k-index l.known)) × (is_known (path_of l.origin) l.known ≡ is_known (path_of l.origin) (drop l.k-index l.known))
