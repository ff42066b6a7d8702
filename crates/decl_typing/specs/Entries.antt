-- The entries of a declared type: its name, and then its constructors or labels (OCaml manual, 11.8).
use Rattle.std.specs.Prelude.{◌≡◌, ℕ, suc, ◌<◌, ◌^◌, List, [], ◌∷◌, ◌++◌, length, map, Option, Some, None}
use Rattle.std.specs.declared.rc.Rc.{Rc}
use Rattle.std.specs.declared.alloc.Global.{Global}
use denote.Ref.{Bor}
use Rattle.text_terms.specs.Bytes.{str_bytes}
use Rattle.token_model.specs.Kinds.{Tok}
use Rattle.syntax_tree.specs.View.{tok_of}
use Rattle.syntax_tree.specs.declared.tree.Token.{Token}
use Rattle.signature_model.specs.Declarations.{in_text}
use Rattle.typing_model.specs.Parts.{place_of}
use Rattle.typing_conditions.specs.Environments.{defined_at}
use Rattle.env_table.specs.declared.entries.Declaration.{Declaration}
use Rattle.env_table.specs.declared.entries.Entry.{Entry}
use Rattle.env_table.specs.declared.entries.Kind.{Kind}
use Rattle.env_table.specs.declared.entries.Kind.TheVariants as kind
use Rattle.env_table.specs.declared.entries.Shape.{Shape}
use Rattle.env_table.specs.declared.entries.Shape.TheVariants as shape
use Rattle.env_table.specs.declared.entries.What.{What}
use Rattle.env_table.specs.declared.entries.What.TheVariants as what
use Rattle.decl_groups.specs.declared.groups.ConstructorPart.{ConstructorPart}
use Rattle.decl_groups.specs.declared.groups.DeclarationPart.{DeclarationPart}
use Rattle.decl_groups.specs.declared.groups.LabelPart.{LabelPart}
use Rattle.decl_groups.specs.declared.groups.Told.{Told}
use Rattle.decl_groups.specs.declared.groups.Told.TheVariants.{Constructors, Labels}
use Rattle.decl_typing.specs.Entering.{alone, entered}
use Rattle.typing_state.specs.declared.parts.Parts.{Parts}
use Rattle.typing_state.specs.declared.parts.Telling.TheVariants.{Quiet}
use Rattle.decl_typing.specs.Owned.{told_in, AreOpaque}

-- an entry is the name of a type with this declaration, which is written as this token
pub record IsTypeEntry (x : Declaration) (t : Tok) (e : Entry) : Type 0 where
  pub cell : Rc Declaration Global
  pub what : e.what ≡ what.Type cell
  pub is : cell.value ≡ x
  pub name : str_bytes e.name ≡ t.name
  pub kind : e.kind ≡ kind.TypeName
  pub placed : defined_at e.place ≡ in_text (place_of t)

-- what the name of a constructor or label stands for: its declaration, and its place there
abbrev pub told_what : Shape → Rc Declaration Global → ℕ → What
told_what (shape.Labels ls) cell k = what.Label cell k
told_what _ cell k = what.Constructor cell k

-- the kind of such a name
abbrev pub told_kind : Shape → Kind
told_kind (shape.Labels ls) = kind.Label
told_kind _ = kind.Constructor

-- an entry is the constructor or label of a declaration at a place, whose name is written as this token
pub record IsToldEntry (x : Declaration) (place : ℕ) (t : Tok) (e : Entry) : Type 0 where
  pub cell : Rc Declaration Global
  pub what : e.what ≡ told_what x.shape cell place
  pub is : cell.value ≡ x
  pub name : str_bytes e.name ≡ t.name
  pub kind : e.kind ≡ told_kind x.shape
  pub placed : defined_at e.place ≡ in_text (place_of t)

-- a type has an entry where it has a name
abbrev pub TypeEntryIf : Declaration → Option (Bor Token) → Option (Rc Entry Global) → Type 0
TypeEntryIf x None None = Unit {0}
TypeEntryIf x (Some t) (Some e) = IsTypeEntry x (tok_of t.now) e.value
TypeEntryIf x _ _ = ⊥

-- entries are the constructors or labels of a declaration from a place on, in order
pub data AreTold (x : Declaration) : (place : ℕ) → List Tok → List Entry → Type 0 where
  none_told : {k : ℕ} → AreTold x k [] []
  one_told : {k : ℕ} {t : Tok} {ts : List Tok} {e : Entry} {es : List Entry} → IsToldEntry x k t e → AreTold x (suc k) ts es → AreTold x k (t ∷ ts) (e ∷ es)

-- a name that may be missing, before others
abbrev pub named_first : Option (Bor Token) → List Tok → List Tok
named_first None ts = ts
named_first (Some t) ts = tok_of t.now ∷ ts

-- the names of constructors, and of labels, that have one
abbrev pub constructor_names : List ConstructorPart → List Tok
constructor_names [] = []
constructor_names (p ∷ ps) = named_first p.name (constructor_names ps)

abbrev pub label_names : List LabelPart → List Tok
label_names [] = []
label_names (p ∷ ps) = named_first p.name (label_names ps)

-- the names of what is told of a type
abbrev pub names_told : Told → List Tok
names_told (Constructors ps) = constructor_names ps.items
names_told (Labels ps) = label_names ps.items

-- the same where something is told
abbrev pub names_told_if : Option Told → List Tok
names_told_if None = []
names_told_if (Some k) = names_told k

-- names with numbers, as the code has them
abbrev pub second_names : List (ℕ × Bor Token) → List Tok
second_names ts = map (λ (t : ℕ × Bor Token). tok_of t.1.now) ts

-- entries of the code
abbrev pub values_of : List (Rc Entry Global) → List Entry
values_of es = map (λ (e : Rc Entry Global). e.value) es

-- The entries of these names are added after others, where their places are numbers of 32 bits.
abbrev pub AddsTold : Declaration → List Tok → (before after : List (Rc Entry Global)) → Type 0
AddsTold x ns before after = length ns < 2 ^ 32 → (es : List (Rc Entry Global)) × (after ≡ before ++ es) × AreTold x 0 ns (values_of es)

-- The entries of a declaration: that of its name, and then those of its constructors or labels.
pub record EntriesOf (x : Declaration) (p : DeclarationPart) (es : List (Rc Entry Global)) : Type 0 where
  pub type : Option (Rc Entry Global)
  pub told : List (Rc Entry Global)
  pub named : TypeEntryIf x p.name type
  pub are_told : AreTold x 0 (names_told_if (told_in p.right)) (values_of told)
  pub all : es ≡ alone type ++ told

-- they are added after others
abbrev pub AddsEntries : Declaration → DeclarationPart → (before after : List (Rc Entry Global)) → Type 0
AddsEntries x p before after = length (names_told_if (told_in p.right)) < 2 ^ 32 → (es : List (Rc Entry Global)) × (after ≡ before ++ es) × EntriesOf x p es

-- The names of declarations are put before others, in order, where they have some.
pub data EntersNames : List DeclarationPart → List (Rc Declaration Global) → (before after : List Entry) → Type 0 where
  no_parts : {ds : List (Rc Declaration Global)} {env : List Entry} → EntersNames [] ds env env
  no_more : {ps : List DeclarationPart} {env : List Entry} → EntersNames ps [] env env
  one_name : {p : DeclarationPart} {ps : List DeclarationPart} {d : Rc Declaration Global} {ds : List (Rc Declaration Global)} {env after : List Entry} (e : Option (Rc Entry Global)) → TypeEntryIf d.value p.name e → EntersNames ps ds (entered e env) after → EntersNames (p ∷ ps) (d ∷ ds) env after

-- The names of a group in which no declaration is another type are in scope: each is made as a type of its own, and then they are entered.
pub record GroupEntered (a b : Parts) (ps : List DeclarationPart) (env after : List Entry) : Type 0 where
  pub declared : List (Rc Declaration Global)
  pub are : AreOpaque a b ps declared
  pub names : EntersNames ps declared env after

-- The same quietly: no fault is told in between.
abbrev pub QuietlyEntered : (a b : Parts) → List DeclarationPart → (env after : List Entry) → Type 0
QuietlyEntered a b ps env after = (c : Parts) × GroupEntered (record a { telling = Quiet }) c ps env after × (b ≡ record c { telling = a.telling })
