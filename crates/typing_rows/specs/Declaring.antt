-- What calls carry that give the declaration of a type its arguments.
use Rattle.std.specs.Prelude.{◌≡◌, ℕ, true, List, [], ◌++◌, length, map, slice_get, Option, Some, None}
use Rattle.token_model.specs.Kinds.{Tok}
use Rattle.type_model.specs.Types.{Typ, types_of}
use Rattle.signature_model.specs.Declarations as rules
use Rattle.signature_model.specs.Declarations.{type_of}
use Rattle.signature_model.specs.Changes.{argument}
use Rattle.signature_model.specs.Matching.{used}
use Rattle.typing_model.specs.Contexts.{Choice, in_item}
use Rattle.typing_model.specs.TypeExpressions.{declared_type}
use Rattle.type_nodes.specs.Readings.{Types}
use Rattle.env_table.specs.declared.entries.Declaration.{Declaration}
use Rattle.env_table.specs.declared.entries.Entry.{Entry}
use Rattle.env_table.specs.declared.entries.What.{What}
use Rattle.env_table.specs.declared.entries.What.TheVariants as what
use Rattle.typing_state.specs.declared.parts.Parts.{Parts}
use Rattle.typing_state.specs.Goes.{OnlyStore}
use Rattle.typing_state.specs.Types.{MakesVar, any_scope}
use Rattle.typing_conditions.specs.Declared.{NoneUnknown, DeclaredAs}
use Rattle.typing_conditions.specs.Sights.{Sight, Letters}
use Rattle.typing_conditions.specs.Frames.{Frame, Reaches, IsRoot}
use Rattle.typing_conditions.specs.Meanings.{AllMean}
use Rattle.typing_conditions.specs.Carrying.{Scope, CarriedTo}
use Rattle.typing_conditions.specs.Hiding.{AreOfRow}
use Rattle.typing_steps.specs.States.{is_aloud, sight}
use Rattle.typing_rows.specs.TypeContracts.{types_at, RowReadIf}

-- the declaration of a type's entry
abbrev pub declared_in : What → Option Declaration
declared_in (what.Type d) = Some d.value
declared_in _ = None

-- the type of a declaration over the types of nodes, by what is chosen; its unknown types are chosen at the node n
abbrev pub applied_by : ℕ → List ℕ → Typ → Choice → Typ
applied_by n ns t ch = used (argument (types_of (map ch.type_at ns))) (ch.filled n) t

-- Nothing is asked, and a node has the type of a declaration over the types of the nodes ns; there are letters for its unknown types, which belong to the row alone where no
-- name is an unknown type.
pub record AppliedAs (names : Types) (F : Frame) (scope : Scope) (a : Sight) (G : Letters) (b : Sight) (n : ℕ) (ns : List ℕ) (t : Typ) (m : ℕ) : Type 0 where
  pub letters : Letters
  pub typed : CarriedTo F scope (λ c. []) a G b (letters ++ G) (applied_by n ns t) m
  pub of_row : NoneUnknown names → AreOfRow n letters

-- A call gives a declaration of the code these arguments: its node has the type of the definitions' declaration over the types of their nodes.
abbrev pub AppliesTo : (a b : Parts) → Declaration → List ℕ → ℕ → Type 0
AppliesTo a b d ms m = (F : Frame) (scope : Scope) (G : Letters) (n : ℕ) (ns roots : List ℕ) (names : Types) (e : rules.Declaration) → Reaches F (sight a) → DeclaredAs a.store.nodes roots names d e →
    ((k r : ℕ) → slice_get roots k ≡ Some r → IsRoot F (sight a) r) → length ns ≡ e.arity → AllMean F (sight a) G (types_at ns) ms → AppliedAs names F scope (sight a) G (sight b) n ns (type_of e) m

-- Where faults are reported, a call carries what the definitions ask of the name t of the type with this entry, over arguments.
abbrev pub DeclaresTo : (a b : Parts) → Tok → Entry → List ℕ → ℕ → Type 0
DeclaresTo a b t x ms m = is_aloud a.telling ≡ true → (F : Frame) (scope : Scope) (G : Letters) (n : ℕ) (ns roots : List ℕ) (names : Types) (d : Declaration) (e : rules.Declaration) → Reaches F (sight a) → scope.variables ≡ in_item F.owner →
    declared_in x.what ≡ Some d → DeclaredAs a.store.nodes roots names d e → ((k r : ℕ) → slice_get roots k ≡ Some r → IsRoot F (sight a) r) → AllMean F (sight a) G (types_at ns) ms →
    RowReadIf (NoneUnknown names) F scope (λ c. declared_type c n t ns (Some e)) (sight a) G (sight b) n m

-- the same where an entry is found; else the type is a new one
abbrev pub NamesTo : Option Entry → (a b : Parts) → Tok → List ℕ → ℕ → Type 0
NamesTo None a b t ms m = MakesVar a b m any_scope × OnlyStore a b
NamesTo (Some x) a b t ms m = DeclaresTo a b t x ms m
