-- What is made of a type of its own: its root, its type, and what is told of it.
use Rattle.std.specs.Prelude.{◌≡◌, ◌≢◌, ℕ, ◌<◌, ◌^◌, true, List, [], ◌∷◌, ◌++◌, All, length, map, Option, Some, None, option_map}
use Rattle.std.specs.declared.rc.Rc.{Rc}
use Rattle.std.specs.declared.vec.Vec.{Vec}
use Rattle.std.specs.declared.alloc.Global.{Global}
use Rattle.token_model.specs.Kinds.{Tok}
use Rattle.type_model.specs.Types.{Path, Typ}
use Rattle.type_model.specs.Types.{Typ as type}
use Rattle.signature_model.specs.Declarations.{Name, parameters_from}
use Rattle.typing_model.specs.Contexts.{Context, Choice, parameters, tell}
use Rattle.typing_model.specs.Demands.{Condition}
use Rattle.typing_model.specs.Patterns.{ask_all}
use Rattle.typing_model.specs.Parts as parts
use Rattle.typing_model.specs.Declarations.{shape_asks, new_tokens, names_of_tokens}
use Rattle.type_nodes.specs.Nodes.{Con, IsNode, IsSound}
use Rattle.type_nodes.specs.Links.{reading}
use Rattle.type_nodes.specs.Readings.{Types}
use Rattle.env_table.specs.declared.entries.Declaration.{Declaration}
use Rattle.env_table.specs.declared.entries.Entry.{Entry}
use Rattle.env_table.specs.declared.entries.Shape.{Shape}
use Rattle.env_table.specs.declared.entries.Shape.TheVariants as shape
use Rattle.typing_state.specs.declared.parts.Parts.{Parts}
use Rattle.typing_state.specs.Goes.{OnlyStore}
use Rattle.typing_conditions.specs.Declared.{with_parameters}
use Rattle.typing_conditions.specs.Frames.{Frame}
use Rattle.typing_conditions.specs.Judging.{Judgement}
use Rattle.typing_conditions.specs.Locals.{IsPlain, IsOwn, ClosesAll}
use Rattle.typing_conditions.specs.Sights.{Report, Sight}
use Rattle.typing_steps.specs.States.{is_aloud, sight}
use Rattle.operand_laws.specs.Operands.{number_of}
use Rattle.typing_rows.specs.Settled.{Fixes, AreFixed, Before, Around, Settled}
use Rattle.declared_rows.specs.Assignments.{Assignment, Assigns, Assigned, Denotes, AssignedTo}
use Rattle.declared_rows.specs.Contracts.{Inside, KnowsTypes, AreNoted}
use Rattle.decl_groups.specs.declared.groups.ConstructorPart.{ConstructorPart}
use Rattle.decl_groups.specs.declared.groups.DeclarationPart.{DeclarationPart}
use Rattle.decl_groups.specs.declared.groups.LabelPart.{LabelPart}
use Rattle.decl_groups.specs.declared.groups.Right.{Right}
use Rattle.decl_groups.specs.declared.groups.Right.TheVariants.{Abstract, Reexport, Own}
use Rattle.decl_groups.specs.declared.groups.Told.{Told}
use Rattle.decl_groups.specs.declared.groups.Told.TheVariants.{Constructors, Labels}
use Rattle.decl_typing.specs.Settling.{constructors_as, argument_at, HasOperand}
use Rattle.decl_typing.specs.Labels.{labels_as, body_at, HasBody}
use Rattle.decl_typing.specs.Asked.{tokens_as}
use Rattle.decl_typing.specs.Denoting.{raised}
use Rattle.decl_typing.specs.Parts.{AreMade, shape_constructors}
use Rattle.decl_typing.specs.LabelParts.{AreLabels, shape_labels}
use Rattle.decl_typing.specs.Parameters.{token_names, shape_roots}

-- a right side that is no other type
abbrev pub IsOwnRight : Right → Type 0
IsOwnRight Abstract = Unit {0}
IsOwnRight (Own n k) = Unit {0}
IsOwnRight _ = ⊥

-- no declaration of some has a right side that is another type
abbrev pub AreOwnRights : List DeclarationPart → Type 0
AreOwnRights ps = All (λ (p : DeclarationPart). IsOwnRight p.right) ps

-- what a right side tells of values
abbrev pub told_in : Right → Option Told
told_in (Reexport n t m k) = Some k
told_in (Own n k) = Some k
told_in _ = None

-- what is told, as the definitions take it
abbrev pub told_as : ℕ → Told → parts.Told
told_as i (Constructors ps) = parts.constructors (constructors_as i ps.items)
told_as i (Labels ps) = parts.labels (labels_as i ps.items)

-- each part of what is told is well formed
abbrev pub HasParts : Option Told → Type 0
HasParts None = Unit {0}
HasParts (Some (Constructors ps)) = All HasOperand ps.items
HasParts (Some (Labels ps)) = All HasBody ps.items

-- a shape that constructors have: none of them has a name, or some have
abbrev pub IsVariant : Shape → Type 0
IsVariant shape.Opaque = Unit {0}
IsVariant (shape.Variant ks) = ks.items ≢ []
IsVariant (shape.Labels ls) = ⊥

-- a shape that labels have
abbrev pub IsRecord : Shape → Type 0
IsRecord (shape.Labels ls) = Unit {0}
IsRecord _ = ⊥

-- What is told of a type is made, by an assignment and by types that are decided: each root denotes its type.
pub data ShapeMade (A : Assignment) (owner : Typ) (fixes : Fixes) (i : ℕ) : Option Told → Shape → Type 0 where
  nothing_made : {z : Shape} → z ≡ shape.Opaque → ShapeMade A owner fixes i None z
  constructors_made : {ps : Vec ConstructorPart Global} {z : Shape} (types : List (Option Typ)) → ((ch : Choice) → AreFixed fixes ch → map (argument_at ch) (constructors_as i ps.items) ≡ types) → AreMade A owner ps.items types (shape_constructors z) → IsVariant z → ShapeMade A owner fixes i (Some (Constructors ps)) z
  labels_made : {ps : Vec LabelPart Global} {z : Shape} (types : List Typ) → ((ch : Choice) → AreFixed fixes ch → map (body_at ch) (labels_as i ps.items) ≡ types) → AreLabels A owner ps.items types (shape_labels z) → IsRecord z → ShapeMade A owner fixes i (Some (Labels ps)) z

-- what is asked of it is settled
pub record ShapeSettled (B : Before) (told : Option parts.Told) (a b : Sight) : Type 0 where
  pub judged : List Judgement
  pub reported : List Report
  pub fixes : Fixes
  pub reports : b.reports ≡ a.reports ++ reported
  pub settled : Settled B (λ c. shape_asks c told) judged reported fixes

-- what is told of a type is read, in the item i
pub record ToldRead (B : Before) (F : Frame) (arity i : ℕ) (a b : Parts) (A : Assignment) (owner : Typ) (told : Option Told) (z : Shape) : Type 0 where
  pub settled : ShapeSettled B (option_map (told_as i) told) (sight a) (sight b)
  pub numbers : List ℕ
  pub on : Assigned F arity numbers (sight a) (sight b) A
  pub made : ShapeMade on.after owner settled.fixes i told z
  pub noted : AreNoted numbers b

-- Where faults are reported, a call reads what is told of the type that e denotes.
abbrev pub ReadsTold : (a b : Parts) → List Entry → List Name → (ps : List ℕ) → Option Told → (owner : Typ) → (e : ℕ) → Shape → Type 0
ReadsTold a b env names ps told owner e z = HasParts told → is_aloud a.telling ≡ true → (B : Before) → Around env names B → (F : Frame) (arity : ℕ) (U : List ℕ) (A : Assignment) → Inside F arity U a A B.named env ps → AreNoted U a → Denotes A e owner → ToldRead B F arity a.item a b A owner told z

-- a type of its own over so many new parameters: its body denotes the constructor of its path over them, its root is that of a declaration, and what is told of it is read
pub record TypeMade (B : Before) (F : Frame) (k : ℕ) (a b : Parts) (A : Assignment) (path : Path) (told : Option Told) (root body : ℕ) (z : Shape) : Type 0 where
  pub settled : ShapeSettled B (option_map (told_as a.item) told) (sight a) (sight b)
  pub numbers : List ℕ
  pub on : Assigned F k numbers (sight a) (sight b) A
  pub of_body : Denotes on.after body (type.Con path (parameters_from 0 k))
  pub of_root : Denotes on.after root (with_parameters k (type.Con path (parameters_from 0 k)))
  pub made : ShapeMade on.after (type.Con path (parameters_from 0 k)) settled.fixes a.item told z
  pub noted : AreNoted numbers b

-- Where faults are reported, a call makes the type of a declaration that is a type of its own.
abbrev pub MakesType : (a b : Parts) → List Entry → DeclarationPart → (root body : ℕ) → Shape → Type 0
MakesType a b env p root body z = IsOwnRight p.right → HasParts (told_in p.right) → is_aloud a.telling ≡ true → (B : Before) → Around env (token_names p.parameters.items) B → (F : Frame) (U : List ℕ) (A : Assignment) → Assigns F 0 U (sight a) A → KnowsTypes F B.named env → AreNoted U a →
    TypeMade B F (length p.parameters.items) a b A (number_of a.item p.number ∷ []) (told_in p.right) root body z

-- the same of a call between items that then binds the variables of its roots: there is a state before that
pub record TypeClosed (B : Before) (F : Frame) (k : ℕ) (a c : Parts) (A : Assignment) (path : Path) (told : Option Told) (root body : ℕ) (z : Shape) : Type 0 where
  pub before : Parts
  pub makes : TypeMade B F k (raised a) before A path told root body z
  pub reports : (sight c).reports ≡ (sight before).reports
  pub closes : (K : Types) → IsOwn before.store.nodes K → ClosesAll before.store.nodes c.store.nodes K (root ∷ shape_roots z) 0
  pub sound : IsSound c.store.nodes
  pub plain : IsPlain c.store.nodes
  pub level : c.level ≡ a.level
  pub noted : AreNoted makes.numbers c

-- Where faults are reported, a call between items makes and closes the type of a declaration that is a type of its own.
abbrev pub ClosesType : (a c : Parts) → List Entry → DeclarationPart → (root body : ℕ) → Shape → Type 0
ClosesType a c env p root body z = IsOwnRight p.right → HasParts (told_in p.right) → is_aloud a.telling ≡ true → a.level ≡ 0 → (B : Before) → Around env (token_names p.parameters.items) B → (F : Frame) (U : List ℕ) (A : Assignment) → Assigns F 0 U (sight (raised a)) A → KnowsTypes F B.named env → AreNoted U a →
    TypeClosed B F (length p.parameters.items) a c A (number_of a.item p.number ∷ []) (told_in p.right) root body z

-- the conditions of a declaration that is a type of its own: its node is made known, its parameters are new, and then what is asked of its parts, in which they are the type variables
abbrev pub own_asks : (n : ℕ) → List Tok → Option parts.Told → Context → List Condition
own_asks n ts told c = tell n c ++ ask_all n 1 (new_tokens [] ts) ++ shape_asks (record c { variables = parameters (names_of_tokens ts) }) told

-- the path that is answered of a node which reads as a constructor is that constructor's
abbrev pub OriginOf : Parts → ℕ → Option Path → Type 0
OriginOf a n given = (path name ms : List ℕ) → IsNode a.store.nodes n → reading a.store.nodes n ≡ Some (Con path name ms) → given ≡ Some path

-- these conditions are settled, and its type is made and closed; it defines its own path
pub record TypeDeclared (B : Before) (F : Frame) (a c : Parts) (A : Assignment) (p : DeclarationPart) (root : ℕ) (defines : Option Path) (z : Shape) : Type 0 where
  pub judged : List Judgement
  pub reported : List Report
  pub fixes : Fixes
  pub reports : (sight c).reports ≡ (sight a).reports ++ reported
  pub settled : Settled B (own_asks (number_of a.item p.number) (tokens_as p.parameters.items) (option_map (told_as a.item) (told_in p.right))) judged reported fixes
  pub numbers : List ℕ
  pub before : Parts
  pub on : Assigned F (length p.parameters.items) numbers (sight (raised a)) (sight before) A
  pub of_root : Denotes on.after root (with_parameters (length p.parameters.items) (type.Con (number_of a.item p.number ∷ []) (parameters_from 0 (length p.parameters.items))))
  pub path : defines ≡ Some (number_of a.item p.number ∷ [])
  pub made : ShapeMade on.after (type.Con (number_of a.item p.number ∷ []) (parameters_from 0 (length p.parameters.items))) fixes a.item (told_in p.right) z
  pub closes : (K : Types) → IsOwn before.store.nodes K → ClosesAll before.store.nodes c.store.nodes K (root ∷ shape_roots z) 0
  pub sound : IsSound c.store.nodes
  pub plain : IsPlain c.store.nodes
  pub level : c.level ≡ a.level
  pub noted : AreNoted numbers c

-- Where faults are reported, a call between items declares a type of its own.
abbrev pub DeclaresType : (a c : Parts) → List Entry → DeclarationPart → (root : ℕ) → Option Path → Shape → Type 0
DeclaresType a c env p root defines z = IsOwnRight p.right → HasParts (told_in p.right) → is_aloud a.telling ≡ true → a.level ≡ 0 → (B : Before) → Around env (token_names p.parameters.items) B → (F : Frame) (U : List ℕ) (A : Assignment) → Assigns F 0 U (sight (raised a)) A → KnowsTypes F B.named env → AreNoted U a →
    TypeDeclared B F a c A p root defines z

-- the root of a type of its own over new parameters is made
abbrev pub MakesOwnRoot : (a b : Parts) → DeclarationPart → (root : ℕ) → Type 0
MakesOwnRoot a b p root = (F : Frame) (U : List ℕ) (A : Assignment) → Assigns F 0 U (sight a) A →
    AssignedTo F (length p.parameters.items) U (sight a) (sight b) A root (with_parameters (length p.parameters.items) (type.Con (number_of a.item p.number ∷ []) (parameters_from 0 (length p.parameters.items))))

-- between items it is made and closed
pub record RootClosed (F : Frame) (U : List ℕ) (a c : Parts) (A : Assignment) (p : DeclarationPart) (root : ℕ) : Type 0 where
  pub before : Parts
  pub to : AssignedTo F (length p.parameters.items) U (sight (raised a)) (sight before) A root (with_parameters (length p.parameters.items) (type.Con (number_of a.item p.number ∷ []) (parameters_from 0 (length p.parameters.items))))
  pub closes : (K : Types) → IsOwn before.store.nodes K → ClosesAll before.store.nodes c.store.nodes K (root ∷ []) 0
  pub sound : IsSound c.store.nodes
  pub plain : IsPlain c.store.nodes
  pub level : c.level ≡ a.level

-- A call between items makes a declaration that is a type of its own, of which nothing more is known.
pub record MakesOpaque (a c : Parts) (p : DeclarationPart) (d : Declaration) : Type 0 where
  pub closes : a.level ≡ 0 → (F : Frame) (U : List ℕ) (A : Assignment) → Assigns F 0 U (sight (raised a)) A → RootClosed F U a c A p d.root.0
  pub shape : d.shape ≡ shape.Opaque
  pub arity : length p.parameters.items < 2 ^ 32 → d.arity ≡ length p.parameters.items
  pub origin : option_map (λ o. o.path.items) d.origin ≡ Some (number_of a.item p.number ∷ [])
  pub defines : option_map (λ o. o.path.items) d.defines ≡ Some (number_of a.item p.number ∷ [])

-- One after the other, declarations are made that are types of their own, and all but the store is as before.
pub data AreOpaque : (a c : Parts) → List DeclarationPart → List (Rc Declaration Global) → Type 0 where
  none_opaque : {a : Parts} → AreOpaque a a [] []
  one_opaque : {a b c : Parts} {p : DeclarationPart} {ps : List DeclarationPart} {d : Rc Declaration Global} {ds : List (Rc Declaration Global)} → MakesOpaque a b p d.value → OnlyStore a b → AreOpaque b c ps ds → AreOpaque a c (p ∷ ps) (d ∷ ds)
