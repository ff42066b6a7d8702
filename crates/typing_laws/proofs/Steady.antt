-- Parts of a program whose demands are decided in order: what two sets of kept demands ask of them goes together.
use Rattle.std.proofs.Common.{◌≡◌, ℕ, Bool, true, false, List, [], ◌∷◌, ◌++◌, Option, Some, None, refl, ◌∙◌, ap, subst}
use Rattle.type_model.specs.Types.{Typ}
use Rattle.type_model.specs.Schemes.{Scheme}
use Rattle.token_model.specs.Kinds.{Tok}
use Rattle.signature_model.specs.Declarations.{Name, Declaration, in_text}
use Rattle.signature_model.specs.Entries.{Environment, entry, a_value, type_kind}
use Rattle.signature_model.specs.Lookups.{lookup}
use Rattle.typing_model.specs.Demands.{Condition}
use Rattle.typing_model.specs.Contexts.{Context, Bound, under, entries_with, with_names, monomorphic}
use Rattle.typing_model.specs.Names.{then_by, referent_of, declaration_in}
use Rattle.typing_model.specs.Parts.{Form, a_constructor, a_path, a_float, a_false, a_field, no_expression, other, Expression, Pattern, TypeExpression, Binding, Case, Field, FieldPattern, ConstructorPart, LabelPart, Told, constructors, labels, RightSide, another, own, DeclarationPart, ModuleExpression, ModuleType, WithClause, Parameter, Seen, Item, Child}
use Rattle.typing_laws.proofs.Together.{Kept, keeping, Together, Agreed}
use Rattle.typing_laws.proofs.Whole.{Whole}

-- each of a list has a property
pub data Each {A : Type 0} (P : A → Type 0) : List A → Type 0 where
  no_one : Each P []
  one_and : {x : A} {xs : List A} → P x → Each P xs → Each P (x ∷ xs)

-- what may be none has a property if it is there
pub data IfThere {A : Type 0} (P : A → Type 0) : Option A → Type 0 where
  absent : IfThere P None
  there : {x : A} → P x → IfThere P (Some x)

pub each_append : {A : Type 0} {P : A → Type 0} {xs ys : List A} → Each P xs → Each P ys → Each P (xs ++ ys)
each_append no_one h = h
each_append (one_and p g) h = one_and p (each_append g h)

-- a name has one type for both
pub record SameName (k m : Kept) (b : Bound) : Type 0 where
  pub one : (c : Context) → b.has_type (keeping k c) ≡ b.has_type (keeping m c)

abbrev pub declares : Option Declaration → Bool
declares None = false
declares (Some d) = true

-- two environments find declarations of types at the same paths
pub record TypesAlike (E F : Environment) : Type 0 where
  pub finds : (path : List Name) (n : Name) → declares (then_by (referent_of (lookup E path type_kind n)) declaration_in) ≡ declares (then_by (referent_of (lookup F path type_kind n)) declaration_in)

-- a type expression asks the same of both where it stands in one environment
pub record WholeType (k m : Kept) (t : TypeExpression) : Type 0 where
  pub reads : (c : Context) → Whole k m (t.read (keeping k c)) (t.read (keeping m c))
  pub reads_group : (c : Context) → Whole k m (t.grouped_read (keeping k c)) (t.grouped_read (keeping m c))

-- and it has the same demands in two where the same declarations are found
pub record SteadyType (k m : Kept) (t : TypeExpression) : Type 0 where
  pub reads : (c : Context) (E F : Environment) → TypesAlike E F → Together k m (t.read (under E (keeping k c))) (t.read (under F (keeping m c)))
  pub reads_group : (c : Context) (E F : Environment) → TypesAlike E F → Together k m (t.grouped_read (under E (keeping k c))) (t.grouped_read (under F (keeping m c)))

-- the label of a field is one where the field's demands are kept alike
abbrev pub IsFormSteady : Kept → Kept → (Context → List Condition) → Form → Type 0
IsFormSteady k m typed (a_constructor p) = Unit {0}
IsFormSteady k m typed (a_path p) = Unit {0}
IsFormSteady k m typed a_float = Unit {0}
IsFormSteady k m typed a_false = Unit {0}
IsFormSteady k m typed (a_field p label) = (c : Context) → Agreed k m (typed (keeping k c)) → label (keeping k c) ≡ label (keeping m c)
IsFormSteady k m typed no_expression = Unit {0}
IsFormSteady k m typed other = Unit {0}

pub record SteadyExpression (k m : Kept) (e : Expression) : Type 0 where
  pub types : (c : Context) → Whole k m (e.typed (keeping k c)) (e.typed (keeping m c))
  pub negates : (c : Context) → Whole k m (e.negated (keeping k c)) (e.negated (keeping m c))
  pub values : (c : Context) → e.is_value (keeping k c) ≡ e.is_value (keeping m c)
  pub forms : IsFormSteady k m e.typed e.form

pub record SteadyPattern (k m : Kept) (p : Pattern) : Type 0 where
  pub binds : Each (SameName k m) p.names
  pub matches : (c : Context) (seen : List Name) → Whole k m (p.matched (keeping k c) seen) (p.matched (keeping m c) seen)

pub record SteadyBinding (k m : Kept) (b : Binding) : Type 0 where
  pub pattern : SteadyPattern k m b.pattern
  pub parameters : Each (SteadyPattern k m) b.parameters
  pub annotation : IfThere (WholeType k m) b.annotation
  pub body : SteadyExpression k m b.body

pub record SteadyCase (k m : Kept) (a : Case) : Type 0 where
  pub pattern : SteadyPattern k m a.pattern
  pub guard : IfThere (SteadyExpression k m) a.guard
  pub body : SteadyExpression k m a.body

pub record SteadyField (k m : Kept) (f : Field) : Type 0 where
  pub value : IfThere (SteadyExpression k m) f.value

pub record SteadyFieldPattern (k m : Kept) (f : FieldPattern) : Type 0 where
  pub pattern : IfThere (SteadyPattern k m) f.pattern

pub record SteadyConstructor (k m : Kept) (a : ConstructorPart) : Type 0 where
  pub argument : IfThere (SteadyType k m) a.argument
  pub whole_argument : IfThere (WholeType k m) a.argument

pub record SteadyLabel (k m : Kept) (l : LabelPart) : Type 0 where
  pub body : SteadyType k m l.body
  pub whole_body : WholeType k m l.body

pub data SteadyTold (k m : Kept) : Told → Type 0 where
  of_constructors : {ks : List ConstructorPart} → Each (SteadyConstructor k m) ks → SteadyTold k m (constructors ks)
  of_labels : {ls : List LabelPart} → Each (SteadyLabel k m) ls → SteadyTold k m (labels ls)

pub data SteadyRight (k m : Kept) : RightSide → Type 0 where
  of_another : {n : ℕ} {t : TypeExpression} {l : Option Tok} {told : Option Told} → SteadyType k m t → WholeType k m t → IfThere (SteadyTold k m) told → SteadyRight k m (another n t l told)
  of_own : {r : Told} → SteadyTold k m r → SteadyRight k m (own r)

pub record SteadyDeclaration (k m : Kept) (d : DeclarationPart) : Type 0 where
  pub right : IfThere (SteadyRight k m) d.right

pub record SteadyModule (k m : Kept) (x : ModuleExpression) : Type 0 where
  pub asks : (c : Context) → Together k m (x.asks (keeping k c)) (x.asks (keeping m c))
  pub signs : (c : Context) → Agreed k m (x.asks (keeping k c)) → x.signature (keeping k c) ≡ x.signature (keeping m c)
  pub makes : (c : Context) → Agreed k m (x.asks (keeping k c)) → x.makes (keeping k c) ≡ x.makes (keeping m c)

pub record SteadyModuleType (k m : Kept) (y : ModuleType) : Type 0 where
  pub asks : (c : Context) → Together k m (y.asks (keeping k c)) (y.asks (keeping m c))
  pub templates : (c : Context) → Agreed k m (y.asks (keeping k c)) → y.template (keeping k c) ≡ y.template (keeping m c)

pub record SteadyClause (k m : Kept) (w : WithClause) : Type 0 where
  pub body : SteadyType k m w.body

pub record SteadyParameter (k m : Kept) (p : Parameter) : Type 0 where
  pub module_type : SteadyModuleType k m p.module_type

pub record SteadyItem (k m : Kept) (i : Item) : Type 0 where
  pub asks : (c : Context) (seen : Seen) → Together k m (i.asks (keeping k c) seen) (i.asks (keeping m c) seen)
  pub adds : (c : Context) (seen : Seen) → Agreed k m (i.asks (keeping k c) seen) → i.adds (keeping k c) ≡ i.adds (keeping m c)
  pub components : (c : Context) (seen : Seen) → Agreed k m (i.asks (keeping k c) seen) → i.components (keeping k c) ≡ i.components (keeping m c)
  pub named : (c : Context) (seen : Seen) → Agreed k m (i.asks (keeping k c) seen) → i.named (keeping k c) ≡ i.named (keeping m c)
  pub makes : (c : Context) (seen : Seen) → Agreed k m (i.asks (keeping k c) seen) → i.makes (keeping k c) ≡ i.makes (keeping m c)

-- a part of a row, as each sort
pub record SteadyChild (k m : Kept) (x : Child) : Type 0 where
  pub expression : SteadyExpression k m x.expression
  pub pattern : SteadyPattern k m x.pattern
  pub type_expression : SteadyType k m x.type_expression
  pub whole_type : WholeType k m x.type_expression
  pub binding : IfThere (SteadyBinding k m) x.binding
  pub case : IfThere (SteadyCase k m) x.case
  pub field : IfThere (SteadyField k m) x.field
  pub field_pattern : IfThere (SteadyFieldPattern k m) x.field_pattern
  pub constructor : IfThere (SteadyConstructor k m) x.constructor
  pub label : IfThere (SteadyLabel k m) x.label
  pub told : IfThere (SteadyTold k m) x.told
  pub right_side : IfThere (SteadyRight k m) x.right_side
  pub declaration : IfThere (SteadyDeclaration k m) x.declaration
  pub item : IfThere (SteadyItem k m) x.item
  pub signature_item : IfThere (SteadyItem k m) x.signature_item
  pub module_expression : SteadyModule k m x.module_expression
  pub module_type : SteadyModuleType k m x.module_type
  pub with_clause : IfThere (SteadyClause k m) x.with_clause

-- environments find the same where they are one
pub as_itself : (E : Environment) → TypesAlike E E
as_itself E = record { finds = λ path n. refl }

-- names with one type each make one environment
pub entries_alike : {k m : Kept} (scheme : Typ → Scheme) (c : Context) {bs : List Bound} (E : Environment) → Each (SameName k m) bs → entries_with scheme (keeping k c) bs E ≡ entries_with scheme (keeping m c) bs E
entries_alike scheme c E no_one = refl
entries_alike {k} {m} scheme c E (one_and {x = b} {xs = bs} p h) =
    entries_alike scheme c (entry b.name (in_text b.place) (a_value (scheme (b.has_type (keeping k c)))) ∷ E) h ∙
    ap (λ t. entries_with scheme (keeping m c) bs (entry b.name (in_text b.place) (a_value (scheme t)) ∷ E)) (p.one c)

-- what stands in scope of names with one type each is one for both
pub in_scope : {k m : Kept} (f : Context → List Condition) (c : Context) (bs : List Bound) → Each (SameName k m) bs → ((d : Context) → Whole k m (f (keeping k d)) (f (keeping m d))) →
    Whole k m (f (with_names (keeping k c) bs)) (f (with_names (keeping m c) bs))
in_scope {k} {m} f c bs each h = subst (λ E. Whole k m (f (with_names (keeping k c) bs)) (f (under E (keeping m c)))) (entries_alike monomorphic c c.env each) (h (with_names (keeping k c) bs))
