-- The first environment.
use Rattle.std.specs.Prelude.{◌≡◌, List, [], ◌∷◌}
use Rattle.text_terms.specs.Bytes.{str_bytes}
use Rattle.env_table.specs.declared.entries.Entry.{Entry}
use Rattle.env_table.specs.declared.entries.Kind.TheVariants as kind
use Rattle.env_table.specs.declared.entries.Place.TheVariants as place
use Rattle.typing_state.specs.declared.built_ins.BuiltIn.{BuiltIn}
use Rattle.typing_state.specs.BuiltIns.{name_of, number_of}

-- the entry of a built-in type
pub record IsBuiltIn (e : Entry) (b : BuiltIn) : Type 0 where
  pub name : str_bytes e.name ≡ name_of b
  pub kind : e.kind ≡ kind.TypeName
  pub place : e.place ≡ place.BuiltIn (number_of b)

-- an environment has the entries of built-in types in front of another, the last one newest
abbrev pub HasBuiltIns : List BuiltIn → (before env : List Entry) → Type 0
HasBuiltIns [] before env = env ≡ before
HasBuiltIns (b ∷ bs) before env = (e : Entry) × IsBuiltIn e b × HasBuiltIns bs (e ∷ before) env
