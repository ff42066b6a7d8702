-- Values that may be absent.
use Rattle.std.specs.Prelude.{Option, option_map}
use Rattle.std.specs.Borrow.{Bor}
use Rattle.serde_json.specs.Data.{Data}
use Rattle.serde_json.specs.View.{view}
use Rattle.serde_json.specs.declared.value.Value.{Value}

-- the data of a value that may be absent
abbrev pub seen : Option (Bor Value) → Option Data
seen v = option_map (λ x. view x.now) v
