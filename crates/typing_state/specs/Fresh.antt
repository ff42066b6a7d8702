-- A state in which nothing has been typed yet.
use Rattle.std.specs.Prelude.{◌≡◌, ℕ, [], ◌∷◌, None}
use Rattle.type_nodes.specs.Nodes.{Con}
use Rattle.type_nodes.specs.States.{State, state}
use Rattle.type_nodes.specs.Changes.{Makes}
use Rattle.typed_index.specs.Seen.{seen_at}
use Rattle.typing_state.specs.declared.built_ins.BuiltIn.{BuiltIn}
use Rattle.typing_state.specs.declared.built_ins.BuiltIn.TheVariants.{Int, Char, Str, Float, Unit, Bool, Exn}
use Rattle.typing_state.specs.declared.built_ins.Constants.{Constants}
use Rattle.typing_state.specs.declared.parts.Parts.{Parts}
use Rattle.typing_state.specs.declared.parts.Telling.TheVariants.{Aloud}
use Rattle.typing_state.specs.BuiltIns.{first_of, name_of}
use Rattle.typing_state.specs.Goes.{faults_of}

-- the node of a built-in type without parameters is made
abbrev pub MakesConstant : BuiltIn → (old new : State) → (n : ℕ) → Type 0
MakesConstant w old new n = Makes old new n (Con (first_of w ∷ []) (name_of w) [])

-- the nodes of all of these are, one after the other
pub record MakesConstants (old new : State) (k : Constants) : Type 0 where
  pub with_int : State
  pub with_char : State
  pub with_string : State
  pub with_float : State
  pub with_unit : State
  pub with_bool : State
  pub int : MakesConstant Int old with_int k.int.0
  pub char : MakesConstant Char with_int with_char k.char.0
  pub string : MakesConstant Str with_char with_string k.string.0
  pub float : MakesConstant Float with_string with_float k.float.0
  pub unit : MakesConstant Unit with_float with_unit k.unit.0
  pub bool : MakesConstant Bool with_unit with_bool k.bool.0
  pub exn : MakesConstant Exn with_bool new k.exn.0

-- A new state has the built-in types and nothing else; faults are reported, at the lowest level, in the prelude.
pub record IsNew (at : Parts) : Type 0 where
  pub constants : MakesConstants (state [] []) at.store at.constants
  pub unrecorded : (i p : ℕ) → seen_at at.index i p ≡ None
  pub unreported : faults_of at ≡ []
  pub item : at.item ≡ 0
  pub level : at.level ≡ 0
  pub aloud : at.telling ≡ Aloud
