-- Origins that no path reaches.
use Rattle.type_model.specs.Types.{Path}
use Rattle.signature_model.specs.Entries.{Environment}
use Rattle.type_print_model.specs.Paths.{NamePath, Reaches, naming}

-- no path reaches an origin
abbrev pub IsHidden : Environment → Path → Type 0
IsHidden E o = (p : NamePath) → Reaches naming E o p → ⊥
