-- What the parameters of a declaration and a type of its own denote, and that the variables of roots are bound.
use Rattle.std.specs.Prelude.{◌≡◌, ℕ, List, [], length, map, slice_get, Some}
use denote.Ref.{Bor}
use Rattle.text_terms.specs.Bytes.{str_bytes}
use Rattle.syntax_tree.specs.declared.tree.Token.{Token}
use Rattle.type_model.specs.Types.{Path, Typ}
use Rattle.type_model.specs.Types.{Typ as type}
use Rattle.signature_model.specs.Declarations.{Name, parameters_from}
use Rattle.type_nodes.specs.Nodes.{IsNode}
use Rattle.type_nodes.specs.Readings.{Types}
use Rattle.env_table.specs.declared.entries.Constructor.{Constructor}
use Rattle.env_table.specs.declared.entries.Label.{Label}
use Rattle.env_table.specs.declared.entries.Shape.{Shape}
use Rattle.env_table.specs.declared.entries.Shape.TheVariants as shape
use Rattle.typing_state.specs.declared.parts.Parts.{Parts}
use Rattle.typing_conditions.specs.Declared.{with_parameters}
use Rattle.typing_conditions.specs.Frames.{Frame}
use Rattle.typing_conditions.specs.Locals.{IsOwn, ClosesAll}
use Rattle.typing_steps.specs.States.{sight}
use Rattle.declared_rows.specs.Assignments.{Assignment, Assigns, Assigned, Denotes, AssignedTo}
use Rattle.declared_rows.specs.Contracts.{AreParameters}

-- the names of tokens
abbrev pub token_names : List (Bor Token) → List Name
token_names ts = map (λ (t : Bor Token). str_bytes t.now.name) ts

-- an assignment without parameters goes on to one in which these nodes are the parameters
pub record ParametersMade (F : Frame) (arity : ℕ) (U : List ℕ) (a b : Parts) (A : Assignment) (ps : List ℕ) : Type 0 where
  pub on : Assigned F arity U (sight a) (sight b) A
  pub are : AreParameters on.after ps

-- A call makes parameters: each node denotes the variable of its number.
abbrev pub MakesParameters : (a b : Parts) → (ps : List ℕ) → Type 0
MakesParameters a b ps = (F : Frame) (U : List ℕ) (A : Assignment) → Assigns F 0 U (sight a) A → ParametersMade F (length ps) U a b A ps

-- A call makes the root of a declaration of these parameters from a node that denotes its type.
abbrev pub MakesDeclared : (a b : Parts) → (ps : List ℕ) → (body root : ℕ) → Type 0
MakesDeclared a b ps body root = (F : Frame) (arity : ℕ) (U : List ℕ) (A : Assignment) (t : Typ) → Assigns F arity U (sight a) A → AreParameters A ps → Denotes A body t → AssignedTo F arity U (sight a) (sight b) A root (with_parameters (length ps) t)

-- a type of its own: its body denotes the constructor of its path over so many parameters, and its root is that of a declaration with this type
pub record OwnMade (F : Frame) (arity : ℕ) (U : List ℕ) (a b : Parts) (A : Assignment) (k : ℕ) (path : Path) (root body : ℕ) : Type 0 where
  pub on : Assigned F arity U (sight a) (sight b) A
  pub of_body : Denotes on.after body (type.Con path (parameters_from 0 k))
  pub of_root : Denotes on.after root (with_parameters k (type.Con path (parameters_from 0 k)))

-- A call makes a type of its own over these parameters.
abbrev pub MakesOwn : (a b : Parts) → (ps : List ℕ) → Path → (root body : ℕ) → Type 0
MakesOwn a b ps path root body = (F : Frame) (arity : ℕ) (U : List ℕ) (A : Assignment) → Assigns F arity U (sight a) A → AreParameters A ps → OwnMade F arity U a b A (length ps) path root body

-- the roots of constructors, of labels, and of a shape
abbrev pub constructor_roots : List Constructor → List ℕ
constructor_roots ks = map (λ (k : Constructor). k.root.0) ks

abbrev pub label_roots : List Label → List ℕ
label_roots ls = map (λ (l : Label). l.root.0) ls

abbrev pub shape_roots : Shape → List ℕ
shape_roots (shape.Variant ks) = constructor_roots ks.items
shape_roots (shape.Labels ls) = label_roots ls.items
shape_roots _ = []

-- numbers are nodes of a state
abbrev pub AreInside : List ℕ → Parts → Type 0
AreInside rs a = (k r : ℕ) → slice_get rs k ≡ Some r → IsNode a.store.nodes r

-- A call binds the variables of these roots that are above the present level.
abbrev pub ClosesRoots : (a b : Parts) → List ℕ → Type 0
ClosesRoots a b rs = AreInside rs a → (K : Types) → IsOwn a.store.nodes K → ClosesAll a.store.nodes b.store.nodes K rs a.level
