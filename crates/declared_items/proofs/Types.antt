-- After a type of its own is declared between items the next item starts among the names of before and its own.
use Rattle.std.proofs.Common.{◌≡◌, ◌∙◌, ℕ, zero, suc, ◌<◌, ◌^◌, List, [], ◌∷◌, ◌++◌, length, reverse, Option, Some, None, option_map, refl, sym, subst}
use Rattle.std.specs.Prelude.{slice_get}
use Rattle.std.specs.declared.rc.Rc.{Rc}
use Rattle.std.specs.declared.alloc.Global.{Global}
use Rattle.syntax_tree.specs.View.{tok_of}
use Rattle.env_table.specs.declared.Origin.{Origin}
use Rattle.type_model.specs.Types.{Typ}
use Rattle.type_model.specs.Types.{Typ as type}
use Rattle.signature_model.specs.Declarations as rules
use Rattle.signature_model.specs.Declarations.{parameters_from}
use Rattle.signature_model.specs.Entries.{Environment, entries_of_shape}
use Rattle.typing_model.specs.Contexts.{Choice}
use Rattle.typing_model.specs.Declarations.{type_entry}
use Rattle.env_table.specs.declared.entries.Constructor.{Constructor}
use Rattle.env_table.specs.declared.entries.Declaration.{Declaration}
use Rattle.env_table.specs.declared.entries.Entry.{Entry}
use Rattle.env_table.specs.declared.entries.Label.{Label}
use Rattle.env_table.specs.declared.entries.Shape.{Shape}
use Rattle.env_table.specs.declared.entries.Shape.TheVariants as shape
use Rattle.type_nodes.specs.Nodes.{IsSound}
use Rattle.type_nodes.specs.Readings.{Types}
use Rattle.typing_state.specs.declared.parts.Parts.{Parts}
use Rattle.typing_state.specs.Goes.{Goes}
use Rattle.typing_conditions.specs.Declared.{building, RootAs, ShapeAs, with_parameters, DeclaredAs}
use Rattle.typing_conditions.specs.Frames.{Frame}
use Rattle.typing_conditions.specs.Locals.{IsPlain, IsOwn, ClosesAll}
use Rattle.typing_conditions.specs.Sights.{Letters}
use Rattle.typing_steps.specs.Constants.{HasConstants}
use Rattle.typing_steps.specs.States.{sight}
use Rattle.typing_steps.specs.Typing.{as_declared}
use Rattle.operand_laws.specs.Operands.{number_of}
use Rattle.type_expressions.specs.Untyped.{Untyped}
use Rattle.typing_rows.specs.Settled.{Fixes, Before}
use Rattle.typing_rows.proofs.Noted.{still_noted}
use Rattle.binding_rows.proofs.ItemKinds.{still_scoped}
use Rattle.declared_rows.specs.Assignments.{Assignment, Assigned, Denotes}
use Rattle.binding_rows.specs.Outside.{Outside}
use Rattle.first_laws.specs.Built.{HasPath}
use Rattle.first_laws.specs.Declaring.{NoneTyped, OnlyTypes, StartsAfter}
use Rattle.first_laws.proofs.Types.{own_type_as, constructors_as, labels_as, outside_type}
use Rattle.first_laws.proofs.Whole.{DenotesSome, names, whole_types, whole_root}
use Rattle.decl_groups.specs.declared.groups.ConstructorPart.{ConstructorPart}
use Rattle.decl_groups.specs.declared.groups.DeclarationPart.{DeclarationPart}
use Rattle.decl_groups.specs.declared.groups.LabelPart.{LabelPart}
use Rattle.decl_groups.specs.declared.groups.Told.{Told}
use Rattle.decl_typing.specs.Denoting.{raised}
use Rattle.decl_typing.specs.Entries.{TypeEntryIf, values_of, EntriesOf}
use Rattle.decl_typing.specs.Entering.{alone}
use Rattle.decl_typing.specs.LabelParts.{AreLabels, no_labels, one_label, nameless_label, shape_labels}
use Rattle.decl_typing.specs.Owned.{IsVariant, IsRecord, ShapeMade, nothing_made, constructors_made, labels_made, told_in, TypeDeclared, RootClosed, MakesOpaque}
use Rattle.decl_typing.specs.Parameters.{token_names, constructor_roots, label_roots, shape_roots}
use Rattle.decl_typing.specs.Parts.{AreMade, none_made, one_made, nameless, shape_constructors}
use Rattle.declared_items.specs.Shapes.{shape_by}
use Rattle.declared_items.proofs.Frames.{own_types, own_at, exn_node, exn_inside, exn_closed, item_frame, starts, starts_assigned, names_before}
use Rattle.declared_items.proofs.Shapes.{shape_as}
use Rattle.declared_items.proofs.Entries.{OwnEntries, name_entry, own_entries}

-- a node denotes some type
record SomeType (A : Assignment) (r : ℕ) : Type 0 where
  type_of : Typ
  denotes : Denotes A r type_of

constructor_denotes : {A : Assignment} {result : Typ} {ps : List ConstructorPart} {ts : List _} {ks : List Constructor} → AreMade A result ps ts ks → (j r : ℕ) → slice_get (constructor_roots ks) j ≡ Some r → SomeType A r
constructor_denotes none_made j r e = absurd (cc)
constructor_denotes {A} {result} (one_made {t = t} {k = k} s is given d more) zero r e = let f : k.root.0 ≡ r = cc in record { type_of = building result t; denotes = subst (λ n. Denotes A n (building result t)) (sym is.root ∙ f) d }
constructor_denotes (one_made s is given d more) (suc j) r e = constructor_denotes more j r e
constructor_denotes (nameless none more) j r e = constructor_denotes more j r e

label_denotes : {A : Assignment} {owner : Typ} {ps : List LabelPart} {ts : List Typ} {ls : List Label} → AreLabels A owner ps ts ls → (j r : ℕ) → slice_get (label_roots ls) j ≡ Some r → SomeType A r
label_denotes no_labels j r e = absurd (cc)
label_denotes {A} {owner} (one_label {t = t} {l = l} s is d more) zero r e = let f : l.root.0 ≡ r = cc in record { type_of = type.Arrow owner t; denotes = subst (λ n. Denotes A n (type.Arrow owner t)) (sym is.root ∙ f) d }
label_denotes (one_label s is d more) (suc j) r e = label_denotes more j r e
label_denotes (nameless_label none more) j r e = label_denotes more j r e

-- each root of what is told denotes a type
shape_denotes : {A : Assignment} {owner : Typ} {fixes : Fixes} {i : ℕ} {told : _} {z : Shape} → ShapeMade A owner fixes i told z → (j r : ℕ) → slice_get (shape_roots z) j ≡ Some r → SomeType A r
shape_denotes (nothing_made is) j r e = let f : slice_get (shape_roots shape.Opaque) j ≡ Some r = subst (λ s. slice_get (shape_roots s) j ≡ Some r) is e in absurd (cc)
shape_denotes {A} {owner} (constructors_made {z = z} types gives made is) j r e = by z is made e
  where
    by : (s : Shape) → IsVariant s → {ps : List ConstructorPart} → AreMade A owner ps types (shape_constructors s) → slice_get (shape_roots s) j ≡ Some r → SomeType A r
    by shape.Opaque is made e = absurd (cc)
    by (shape.Variant cs) is made e = constructor_denotes made j r e
    by (shape.Labels ls) is made e = absurd is
shape_denotes {A} {owner} (labels_made {z = z} types gives made is) j r e = by z is made e
  where
    by : (s : Shape) → IsRecord s → {ps : List LabelPart} → AreLabels A owner ps types (shape_labels s) → slice_get (shape_roots s) j ≡ Some r → SomeType A r
    by (shape.Labels ls) is made e = label_denotes made j r e
    by shape.Opaque is made e = absurd is
    by (shape.Variant cs) is made e = absurd is

-- an origin with this path
path_there : (given : Option Origin) (path : List ℕ) → option_map (λ (o : Origin). o.path.items) given ≡ Some path → HasPath given path
path_there None path e = absurd (cc)
path_there (Some o) path e = (o, refl, (let f : o.path.items ≡ path = cc in f))

-- the type of a declaration that is a type of its own, by its path, and that of its root
abbrev made_type : ℕ → DeclarationPart → Typ
made_type i p = type.Con (number_of i p.number ∷ []) (parameters_from 0 (length p.parameters.items))

abbrev made_root : ℕ → DeclarationPart → Typ
made_root i p = with_parameters (length p.parameters.items) (made_type i p)

-- its declaration in the definitions, which tells this of its values
abbrev pub own_rule : ℕ → DeclarationPart → rules.Shape → rules.Declaration
own_rule i p z = record { arity = length p.parameters.items; definition = rules.Own (number_of i p.number ∷ []); shape = z }

-- A type of its own was made over the parameters of p, with what is told of it, and then its variables were bound: its root, and those of what is told, denote their types.
pub record OwnMade (b d : Parts) (F : Frame) (A : Assignment) (p : DeclarationPart) (told : Option Told) (x : Declaration) : Type 0 where
  pub numbers : List ℕ
  pub fixes : Fixes
  pub before : Parts
  pub on : Assigned F (length p.parameters.items) numbers (sight (raised b)) (sight before) A
  pub of_root : Denotes on.after x.root.0 (made_root b.item p)
  pub made : ShapeMade on.after (made_type b.item p) fixes b.item told x.shape
  pub closes : (K : Types) → IsOwn before.store.nodes K → ClosesAll before.store.nodes d.store.nodes K (x.root.0 ∷ shape_roots x.shape) 0
  pub sound : IsSound d.store.nodes
  pub plain : IsPlain d.store.nodes
  pub level : d.level ≡ b.level

-- Such a type is made from a state between items, and has this declaration of the code, of this path.
module _ (b d : Parts) {G : Letters} {env : List Entry} {E : Choice → Environment} (at : Outside as_declared (sight b) G env E) (constants : HasConstants b) (p : DeclarationPart) (x : Declaration) {told : Option Told} (own : OwnMade b d (item_frame b at constants) (starts b at constants) p told x)
    (count : x.arity ≡ length p.parameters.items) (origin : option_map (λ (o : Origin). o.path.items) x.origin ≡ Some (number_of b.item p.number ∷ [])) (defines : option_map (λ (o : Origin). o.path.items) x.defines ≡ Some (number_of b.item p.number ∷ [])) (untyped : Untyped b d) (goes : Goes b d) where
  -- how many parameters it has
  abbrev arity : ℕ
  arity = length p.parameters.items

  -- its path
  abbrev pub path : List ℕ
  path = number_of b.item p.number ∷ []

  -- its roots
  abbrev pub roots : List ℕ
  roots = x.root.0 ∷ shape_roots x.shape

  pub denote : (k r : ℕ) → slice_get roots k ≡ Some r → DenotesSome (item_frame b at constants) arity own.numbers (sight (raised b)) (sight own.before) (starts b at constants) own.on r
  denote zero r e = let f : x.root.0 ≡ r = cc in subst (DenotesSome (item_frame b at constants) arity own.numbers (sight (raised b)) (sight own.before) (starts b at constants) own.on) f (record { type = made_root b.item p; denotes = own.of_root })
  denote (suc k) r e = let s = shape_denotes own.made k r e in record { type = s.type_of; denotes = s.denotes }

  -- no type is recorded for the nodes of the text
  pub none_typed : NoneTyped (sight b) (sight d)
  none_typed = record { types = untyped.types; noted = still_noted goes; scopes = still_scoped goes }

  -- types alone were made
  pub own_types_made : OnlyTypes (sight b) (sight d)
  own_types_made = whole_types (sight d) at (own_types b at constants) (own_at b at constants) (exn_node b at constants) (exn_inside b at constants) (exn_closed b at constants) refl own.on roots denote own.closes own.plain own.sound own.level none_typed

  -- the names of all variables afterwards
  abbrev pub names_after : Types
  names_after = names (sight d) at (own_types b at constants) (own_at b at constants) (exn_node b at constants) (exn_inside b at constants) (exn_closed b at constants) refl own.on roots denote own.closes own.plain own.sound own.level none_typed

  root_as : RootAs d.store.nodes (roots ++ at.roots) names_after arity x.root.0 (made_root b.item p)
  root_as = whole_root (sight d) at (own_types b at constants) (own_at b at constants) (exn_node b at constants) (exn_inside b at constants) (exn_closed b at constants) refl own.on roots denote own.closes own.plain own.sound own.level none_typed (zero, refl) own.of_root

  told_as_made : ShapeAs d.store.nodes (roots ++ at.roots) names_after arity (made_type b.item p) x.shape (shape_by own.made)
  told_as_made = shape_as roots own.made (λ j r e. (suc j, e))
      (λ cs ks h. constructors_as (sight d) at (own_types b at constants) (own_at b at constants) (exn_node b at constants) (exn_inside b at constants) (exn_closed b at constants) refl own.on roots denote own.closes own.plain own.sound own.level none_typed h)
      (λ ls ks h. labels_as (sight d) at (own_types b at constants) (own_at b at constants) (exn_node b at constants) (exn_inside b at constants) (exn_closed b at constants) refl own.on roots denote own.closes own.plain own.sound own.level none_typed h)

  -- the declaration in the definitions
  abbrev pub rule : rules.Declaration
  rule = own_rule b.item p (shape_by own.made)

  -- The declaration of the code stands for it.
  pub declaration_as : DeclaredAs d.store.nodes (roots ++ at.roots) names_after x rule
  declaration_as = own_type_as arity (sym count) (path_there x.origin path origin) (path_there x.defines path defines) root_as told_as_made

  -- The next item starts among the names of before and entries in which it stands for that.
  pub starts_with : (more : List Entry) (fs : Environment) → OwnEntries x rule more fs → StartsAfter at (sight d) G more fs own.numbers
  starts_with more fs entries =
      outside_type (sight d) at (own_types b at constants) (own_at b at constants) (exn_node b at constants) (exn_inside b at constants) (exn_closed b at constants) refl own.on roots denote own.closes own.plain own.sound own.level none_typed
      x rule declaration_as more fs entries

-- The type of a declaration that is declared was made so.
abbrev declared_made : {b d : Parts} {B : Before} {F : Frame} {A : Assignment} {p : DeclarationPart} {x : Declaration} → TypeDeclared B F b d A p x.root.0 (option_map (λ (o : Origin). o.path.items) x.defines) x.shape → OwnMade b d F A p (told_in p.right) x
declared_made t = record { numbers = t.numbers; fixes = t.fixes; before = t.before; on = t.on; of_root = t.of_root; made = t.made; closes = t.closes; sound = t.sound; plain = t.plain; level = t.level }

-- A type of its own is declared from a state between items, over the parameters of p, by this declaration of the code.
module _ (b d : Parts) {G : Letters} {env : List Entry} {E : Choice → Environment} (at : Outside as_declared (sight b) G env E) (constants : HasConstants b) (p : DeclarationPart) (x : Declaration)
    (declared : TypeDeclared (names_before b at constants (token_names p.parameters.items)) (item_frame b at constants) b d (starts b at constants) p x.root.0 (option_map (λ (o : Origin). o.path.items) x.defines) x.shape)
    (count : x.arity ≡ length p.parameters.items) (origin : option_map (λ (o : Origin). o.path.items) x.origin ≡ Some (number_of b.item p.number ∷ [])) (untyped : Untyped b d) (goes : Goes b d) where
  -- its declaration in the definitions
  abbrev declared_rule : rules.Declaration
  declared_rule = own_rule b.item p (shape_by declared.made)

  -- The next item starts among the names of before and its entries, its name and then its constructors or labels.
  pub type_starts : (es : List (Rc Entry Global)) → EntriesOf x p es →
      StartsAfter at (sight d) G (reverse (values_of es)) (reverse (type_entry declared_rule (option_map (λ t. tok_of t.now) p.name) ++ entries_of_shape declared_rule declared_rule.shape)) declared.numbers
  type_starts es of = starts_with b d at constants p x (declared_made {x = x} declared) count origin declared.path untyped goes (reverse (values_of es)) (reverse (type_entry declared_rule (option_map (λ t. tok_of t.now) p.name) ++ entries_of_shape declared_rule declared_rule.shape))
      (own_entries x declared_rule p es declared.made refl of)

-- Of a type of its own nothing is told yet; the declaration of the code was made from a state between items.
module _ (b d : Parts) {G : Letters} {env : List Entry} {E : Choice → Environment} (at : Outside as_declared (sight b) G env E) (constants : HasConstants b) (p : DeclarationPart) (x : Declaration) (makes : MakesOpaque b d p x) (few : length p.parameters.items < 2 ^ 32) (untyped : Untyped b d) (goes : Goes b d) where
  pub closed : RootClosed (item_frame b at constants) at.older b d (starts b at constants) p x.root.0
  closed = makes.closes at.level (item_frame b at constants) at.older (starts b at constants) (starts_assigned b at constants)

  abbrev opaque_made : OwnMade b d (item_frame b at constants) (starts b at constants) p None x
  opaque_made = record {
    numbers = at.older;
    fixes = [];
    before = closed.before;
    on = closed.to.on;
    of_root = closed.to.denotes;
    made = nothing_made makes.shape;
    closes = λ K own. subst (λ z. ClosesAll closed.before.store.nodes d.store.nodes K (x.root.0 ∷ shape_roots z) 0) (sym makes.shape) (closed.closes K own);
    sound = closed.sound;
    plain = closed.plain;
    level = closed.level;
  }

  -- The next item starts among the names of before and its name, which stands for a declaration that tells nothing.
  pub opaque_starts : (e : Option (Rc Entry Global)) → TypeEntryIf x p.name e → StartsAfter at (sight d) G (values_of (alone e)) (type_entry (own_rule b.item p rules.Opaque) (option_map (λ t. tok_of t.now) p.name)) at.older
  opaque_starts e named = starts_with b d at constants p x opaque_made (makes.arity few) makes.origin makes.defines untyped goes (values_of (alone e)) (type_entry (own_rule b.item p rules.Opaque) (option_map (λ t. tok_of t.now) p.name)) (name_entry x (own_rule b.item p rules.Opaque) p.name e named)
