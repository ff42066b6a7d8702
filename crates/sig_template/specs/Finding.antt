-- How a walk over a wanted signature finds the types of the origins that it makes.
use Rattle.std.specs.Prelude.{◌≡◌, ℕ, List, [], ◌∷◌, ◌++◌, length, Option, Some, None, if◌then◌else◌}
use Rattle.std.specs.Option.{option_or, option_and_then}
use Rattle.type_model.specs.Types.{Path}
use Rattle.type_model.specs.Origins.{same_path}
use Rattle.type_terms.specs.Views.{path_of}
use Rattle.type_terms.specs.declared.types.Origin.{Origin}
use Rattle.type_nodes.specs.Nodes.{Node, IsSound}
use Rattle.level_unify.specs.Copies.{Extends}
use Rattle.signature_model.specs.Declarations.{Name}
use Rattle.signature_model.specs.Entries.{Kind}
use Rattle.signature_model.specs.Lookups.{newest_by}
use Rattle.env_table.specs.declared.entries.Declaration.{Declaration}
use Rattle.env_table.specs.declared.entries.Entry.{Entry}
use Rattle.env_table.specs.declared.entries.Sig.{Sig}
use Rattle.env_table.specs.Views.{is_named, names_in, inside_sig}
use Rattle.type_reading.specs.declared.changes.Real.{Real}
use Rattle.sig_template.specs.declared.realising.Actual.{Actual}
use Rattle.sig_template.specs.declared.realising.Actual.TheVariants as actual
use Rattle.sig_template.specs.Abstract.{made_here}
use Rattle.sig_template.specs.Realising.{Side, nothing, unknown_module, known, Given, real_of, IsReal, Finds, FindsIn}

-- the side that the code stands on
abbrev pub side_at : Actual → Side
side_at actual.Nothing = nothing
side_at actual.Hole = unknown_module
side_at (actual.Known s) = known (names_in (inside_sig s.now))

-- the newest entry of a kind and a name on a side
abbrev pub newest_on : Kind → Name → Side → Option Entry
newest_on k n nothing = None
newest_on k n unknown_module = None
newest_on k n (known es) = newest_by (is_named k n) es

-- the origin of a declaration that is one of those made
abbrev pub made_by : List Path → Option Declaration → Option Path
made_by made d = option_and_then (λ (x : Declaration). made_here made x.origin) d

-- a store that had so many nodes, and got only new ones since
pub record IsBefore (before : List Node) (older : ℕ) (now : List Node) : Type 0 where
  pub sound : IsSound before
  pub count : older ≡ length before
  pub extends : Extends before now

-- one type more, which is what is given to this origin
pub record AddsReal (nodes : List Node) (given : Given) (o : Path) (old new : List Real) : Type 0 where
  pub real : Real
  pub origin : path_of real.origin ≡ o
  pub is : IsReal nodes (Some given) (Some real)
  pub items : new ≡ old ++ real ∷ []

-- an unknown type for an origin
abbrev pub IsUnknownFor : Origin → Real → Type 0
IsUnknownFor o r = (path_of r.origin ≡ path_of o) × (r.arity ≡ 0)

-- an origin that had no type has what is given to it, if anything is, and each other one what it had
pub record Gives (nodes : List Node) (given : Option Given) (o : Path) (old new : List Real) : Type 0 where
  pub real : Option Real
  pub is : IsReal nodes given real
  pub each : (p : Path) → real_of p new ≡ option_or (real_of p old) (if same_path p o then real else None)

-- An origin gets what a walk finds for it: by the wanted components of a whole, but for those that are left. One that had a type keeps that.
pub record Finding (nodes : List Node) (made : List Path) (o : Path) (A : Side) (left whole : List Entry) (old new : List Real) : Type 0 where
  pub found : Option Given
  pub finds : (rest : Option Given) → FindsIn made o A left rest → FindsIn made o A whole (option_or found rest)
  pub real : Option Real
  pub is : IsReal nodes found real
  pub each : real_of o new ≡ option_or (real_of o old) real

-- the same of a whole signature
pub record FindingAll (nodes : List Node) (made : List Path) (o : Path) (A : Side) (wanted : Sig) (old new : List Real) : Type 0 where
  pub found : Option Given
  pub finds : Finds made o A wanted found
  pub real : Option Real
  pub is : IsReal nodes found real
  pub each : real_of o new ≡ option_or (real_of o old) real
