-- What is known of the types and names of a text while it is edited, and who found it.
use Rattle.std.specs.Prelude.{◌≡◌, ℕ, Bool, List, [], Option, Some, None, is_some, option_map, if◌then◌else◌}
use Rattle.tree_model.specs.Trees.{Tree}
use Rattle.analysis_api.specs.declared.Analysis.{Analysis}
use Rattle.analysis_api.specs.declared.Analyser.{Ghosts}
use Rattle.text_reading.specs.declared.types.Found.{Found}
use Rattle.text_reading.specs.declared.types.Found.TheVariants.{Kept, New}
use Rattle.text_reading.specs.declared.types.KeptTypes.{KeptTypes}

-- the items of a typer, and none where there is none
abbrev pub items_or_none : Option (List Tree) → List Tree
items_or_none None = []
items_or_none (Some items) = items

-- the items whose types are held, be they those of the present text or not
abbrev pub held : {A : Type 0} {g : Ghosts A} → (A → List Tree) → KeptTypes A g → List Tree
held items k = items_or_none (option_map items k.typer)

-- the items whose types are known, where these are those of the present text
abbrev pub known : {A : Type 0} {g : Ghosts A} → (A → List Tree) → KeptTypes A g → Option (List Tree)
known items k = if k.is_current then option_map items k.typer else None

-- how many of the items that are held are known to be those of the present tree
abbrev pub known_front : {A : Type 0} {g : Ghosts A} → KeptTypes A g → ℕ
known_front k = k.front

-- whether a typer has begun
abbrev pub has_begun : {A : Type 0} {g : Ghosts A} → KeptTypes A g → Bool
has_begun k = is_some k.typer

-- how many of the prelude's tokens, of which there are n, are still to be read: all, until a typer has begun
abbrev pub opening : ℕ → Bool → ℕ
opening n begun = if begun then 0 else n

-- the items that a typer holds which is kept or new
abbrev pub items_in : {A : Type 0} → (A → List Tree) → Found A → List Tree
items_in items (Kept a) = items a.now
items_in items (New a) = items a

-- what holds of a typer that is kept or new
abbrev pub holds_in : {A : Type 0} → (A → Type 0) → Found A → Type 0
holds_in P (Kept a) = P a.now
holds_in P (New a) = P a

-- this is what a typer finds that holds these items, and no others
abbrev pub IsOf : {A : Type 0} → (A → List Tree) → (A → Analysis → Type 0) → List Tree → Analysis → Type 0
IsOf items finds trees x = (a : _) × (items a ≡ trees) × finds a x
