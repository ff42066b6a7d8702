-- Names that patterns bind: those of the code stand for those of the definitions.
use Rattle.std.specs.Prelude.{◌≡◌, ℕ, List, [], ◌∷◌, ◌++◌}
use Rattle.token_model.specs.Kinds.{Tok}
use Rattle.signature_model.specs.Declarations.{Name, in_text}
use Rattle.signature_model.specs.Matching.{IsKnown}
use Rattle.typing_model.specs.Contexts.{Choice, Context, Bound}
use Rattle.typing_model.specs.Parts.{place_of}
use Rattle.type_terms.specs.declared.types.NodeRef.{NodeRef}
use Rattle.type_nodes.specs.Readings.{Types}
use Rattle.env_table.specs.declared.entries.Entry.{Entry}
use Rattle.typing_conditions.specs.Sights.{Sight, Letters, Agrees}
use Rattle.typing_conditions.specs.Frames.{Frame}
use Rattle.typing_conditions.specs.Meanings.{Means}
use Rattle.typing_conditions.specs.Surroundings.{IsEntry, context_of}

-- a name that the code binds: its token, the node of its type, and its entry
pub record Bind : Type 0 where
  pub token : Tok
  pub node : NodeRef
  pub entry : Entry

-- no unknown type stands in the type of a node, whatever is chosen
abbrev pub AlwaysKnown : Frame → Sight → Letters → ℕ → Type 0
AlwaysKnown F b G m = (V : Types) (ch : Choice) → Agrees F.owner b G V ch → IsKnown (V m)

-- The name stands for one of the definitions: its bytes, its place and its type, which only what is chosen decides, and in which no unknown type stands; and its
-- entry brings it into scope.
pub record IsBound (F : Frame) (b : Sight) (G : Letters) (bound : Bound) (code : Bind) : Type 0 where
  pub named : bound.name ≡ code.token.name
  pub placed : bound.place ≡ place_of code.token
  pub chosen : (c : Context) → bound.has_type c ≡ bound.has_type (context_of c.chosen)
  pub means : Means F b G (λ ch. bound.has_type (context_of ch)) code.node.0
  pub known : AlwaysKnown F b G code.node.0
  pub entry : IsEntry code.entry bound.name (in_text bound.place) code.node

-- names stand for others, one by one and in order
pub data AllBound (F : Frame) (b : Sight) (G : Letters) : List Bound → List Bind → Type 0 where
  none_bound : AllBound F b G [] []
  one_bound : {x : Bound} {xs : List Bound} {y : Bind} {ys : List Bind} → IsBound F b G x y → AllBound F b G xs ys → AllBound F b G (x ∷ xs) (y ∷ ys)

-- What a call does with names: those that it binds stand behind those from before, and those that it mentions behind those seen before.
pub record Adds (names names' added : List Bind) (seen seen' mentions : List Name) : Type 0 where
  pub binds : names' ≡ names ++ added
  pub sees : seen' ≡ seen ++ mentions
