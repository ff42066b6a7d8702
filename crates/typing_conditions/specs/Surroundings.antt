-- What a part is typed among: the names of the code's environment stand for those of the definitions; and the scopes with further names.
use Rattle.std.specs.Prelude.{◌≡◌, ℕ, ◌≤◌, true, false, List, [], ◌∷◌, slice_get, Option, Some}
use Rattle.text_terms.specs.Bytes.{str_bytes}
use Rattle.type_model.specs.Types.{Path, Typ}
use Rattle.signature_model.specs.Declarations as rules
use Rattle.signature_model.specs.Declarations.{Name}
use Rattle.signature_model.specs.Entries.{entry, a_value, value_kind}
use Rattle.typing_model.specs.Contexts.{Choice, Context, Bound, in_item, monomorphic, generalised_in, entries_with}
use Rattle.type_terms.specs.declared.types.NodeRef.{NodeRef}
use Rattle.type_nodes.specs.Nodes.{Node}
use Rattle.type_nodes.specs.Readings.{Types, IsReading}
use Rattle.level_unify.specs.Solutions.{Loose}
use Rattle.env_table.specs.declared.entries.Constructor.{Constructor}
use Rattle.env_table.specs.declared.entries.Declaration.{Declaration}
use Rattle.env_table.specs.declared.entries.Entry.{Entry}
use Rattle.env_table.specs.declared.entries.What.TheVariants as what
use Rattle.env_table.specs.Views.{kind_of}
use Rattle.typing_conditions.specs.Locals.{IsOwn, Refines}
use Rattle.typing_conditions.specs.Assumptions.{SchemeFits, SchemeReads}
use Rattle.typing_conditions.specs.Environments.{defined_at}
use Rattle.typing_conditions.specs.Standing.{IsIn, Covers, Stands}
use Rattle.typing_conditions.specs.Declared.{UnknownApart, NoneUnknown, DeclaredAs, ExceptionAs}
use Rattle.typing_conditions.specs.Sights.{Sight, Letters, Agrees}
use Rattle.typing_conditions.specs.Frames.{Frame, Reaches, IsRoot}
use Rattle.typing_conditions.specs.Meanings.{KnowsFixed, KnowsWritten}
use Rattle.typing_conditions.specs.Carrying.{Scope, HoldsWritten, HoldsUnbound}

-- How the code's declarations and exceptions stand for those of the definitions, by the nodes of the store, the roots of their types, and the names of the
-- variables in these.
pub record Declared : Type 1 where
  pub declaration : List Node → List ℕ → Types → Declaration → rules.Declaration → Type 0
  pub exception : List Node → List ℕ → Types → Constructor → Option Typ → Type 0

-- What stands for one does so later on, and among more roots; and in any case it is one by its parts (`DeclaredAs`, `ExceptionAs`).
pub record IsSteady (D : Declared) : Type 0 where
  pub declaration : {old new : List Node} {I J N : Types} {C C' : List ℕ} {d : Declaration} {e : rules.Declaration} → IsOwn old I → Refines old new J → ((r : ℕ) → IsIn C r → IsIn C' r) → D.declaration old C N d e → D.declaration new C' N d e
  pub exception : {old new : List Node} {I J N : Types} {C C' : List ℕ} {c : Constructor} {o : Option Typ} → IsOwn old I → Refines old new J → ((r : ℕ) → IsIn C r → IsIn C' r) → D.exception old C N c o → D.exception new C' N c o
  pub declared : {nodes : List Node} {C : List ℕ} {N : Types} {d : Declaration} {e : rules.Declaration} → D.declaration nodes C N d e → DeclaredAs nodes C N d e
  pub excepted : {nodes : List Node} {C : List ℕ} {N : Types} {c : Constructor} {o : Option Typ} → D.exception nodes C N c o → ExceptionAs nodes C N c o

-- a type with labels is a type of its own
abbrev pub HasOwnLabels : rules.Declaration → Type 0
HasOwnLabels e = (ls : List rules.Label) → e.shape ≡ rules.Labels ls → (o : Path) × (e.definition ≡ rules.Own o)

-- What is to be known of names so that no letter is in doubt: no variable in the roots of declarations has an unknown type as its name, and each type with labels is a type of its own.
pub record KnowsNames (D : Declared) (nodes : List Node) (roots : List ℕ) (names : Types) (env : List Entry) : Type 0 where
  pub plain : NoneUnknown names
  pub covered : Covers (λ d e. D.declaration nodes roots names d e × HasOwnLabels e) (D.exception nodes roots names) roots env

-- A state that the frame allows, where the code's names stand for those of the scope: at each reading schemes both ways, under types that fit one way.
-- `roots` are those of the schemes and of the declarations, and `names` what the bound variables of declarations are in the definitions. Written type variables
-- are those of the frame's item; `apart`: so an unknown type belongs to one root. `inside`: only expressions and patterns inside an item are typed among such names, and the item's own level is below theirs.
-- `known`: what a frame says to be known of them.
-- The names stand for those of the scope where it holds the type variables that are written; and at a reading, where nothing that it holds is bound.
pub record Surrounds (D : Declared) (F : Frame) (a : Sight) (G : Letters) (env : List Entry) (scope : Scope) : Type 0 where
  pub reached : Reaches F a
  pub inside : 1 ≤ F.level
  pub fixed : KnowsFixed F a
  pub written : KnowsWritten F a
  pub item : scope.variables ≡ in_item F.owner
  pub roots : List ℕ
  pub names : Types
  pub apart : UnknownApart names
  pub steady : IsSteady D
  pub are_roots : (k r : ℕ) → slice_get roots k ≡ Some r → IsRoot F a r
  pub covered : Covers (D.declaration a.nodes roots names) (D.exception a.nodes roots names) roots env
  pub known : F.known ≡ true → KnowsNames D a.nodes roots names env
  pub reads : (J V : Types) (ch : Choice) → IsOwn a.nodes J → IsReading a.nodes V → Agrees F.owner a G V ch → HoldsWritten scope a → HoldsUnbound F scope a ch → Stands SchemeReads (D.declaration a.nodes roots names) (D.exception a.nodes roots names) a.nodes J roots V env (scope.env ch)
  pub fits : (J V : Types) (ch : Choice) → IsOwn a.nodes J → Loose a.nodes V → Agrees F.owner a G V ch → HoldsWritten scope a → Stands SchemeFits (D.declaration a.nodes roots names) (D.exception a.nodes roots names) a.nodes J roots V env (scope.env ch)

-- a scope with a further name of one type, as a pattern brings it in
abbrev pub with_one : Name → rules.Place → (Choice → Typ) → Scope → Scope
with_one x at type scope = record scope { env = λ ch. entry x at (a_value (monomorphic (type ch))) ∷ scope.env ch }

-- the code's entry of such a name, which is defined at this place
pub record IsEntry (e : Entry) (x : Name) (at : rules.Place) (n : NodeRef) : Type 0 where
  pub named : x ≡ str_bytes e.name
  pub kind : kind_of e.kind ≡ value_kind
  pub placed : defined_at e.place ≡ at
  pub is : e.what ≡ what.Scheme n

-- a context that has only what is chosen, for the types of names
abbrev pub context_of : Choice → Context
context_of ch = record { env = []; variables = in_item 0; held = []; kept = λ s. false; chosen = ch }

-- a scope after a `let`: its names with their types generalised in the environment outside, but for what is held
abbrev pub with_closed : List Bound → (Choice → List Typ) → Scope → Scope
with_closed bs held scope = record scope { env = λ ch. entries_with (generalised_in (scope.env ch) (held ch)) (context_of ch) bs (scope.env ch) }
