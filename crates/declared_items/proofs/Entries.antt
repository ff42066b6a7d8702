-- The entries of a type of its own are those of the definitions, its name and then its constructors or labels.
use Rattle.std.proofs.Common.{◌≡◌, ◌∙◌, ℕ, suc, ◌+◌, List, [], ◌∷◌, ◌++◌, map, reverse, Option, Some, None, option_map, refl, sym, ap, subst, arith}
use Rattle.std.specs.Prelude.{slice_get}
use Rattle.std.proofs.lemmas.List.{map-append}
use Rattle.std.specs.declared.rc.Rc.{Rc}
use Rattle.std.specs.declared.alloc.Global.{Global}
use denote.Ref.{Bor}
use Rattle.token_model.specs.Kinds.{Tok}
use Rattle.syntax_tree.specs.declared.tree.Token.{Token}
use Rattle.syntax_tree.specs.View.{tok_of}
use Rattle.type_model.specs.Types.{Typ}
use Rattle.type_model.specs.Schemes.{Scheme}
use Rattle.signature_model.specs.Declarations as rules
use Rattle.signature_model.specs.Declarations.{in_text}
use Rattle.signature_model.specs.Entries.{Environment, entry, a_constructor, a_label, entries_of_shape}
use Rattle.signature_model.specs.Entries.{Entry as Named}
use Rattle.typing_model.specs.Declarations.{variant_of, type_entry}
use Rattle.typing_model.specs.Parts.{place_of}
use Rattle.env_table.specs.declared.entries.Constructor.{Constructor}
use Rattle.env_table.specs.declared.entries.Declaration.{Declaration}
use Rattle.env_table.specs.declared.entries.Entry.{Entry}
use Rattle.env_table.specs.declared.entries.Kind.TheVariants as kind
use Rattle.env_table.specs.declared.entries.Shape.{Shape}
use Rattle.env_table.specs.declared.entries.Shape.TheVariants as shape
use Rattle.env_table.specs.declared.entries.What.TheVariants as what
use Rattle.env_table.specs.Views.{kind_of}
use Rattle.typing_conditions.specs.Environments.{constructor_at, label_at, of_constructor, of_label, of_type, EntryAs, entry_as, EnvAs, no_names, newest}
use Rattle.typing_conditions.proofs.Environments.{env_append, env_reverse}
use Rattle.typing_rows.specs.Settled.{Fixes}
use Rattle.declared_rows.specs.Assignments.{Assignment}
use Rattle.decl_groups.specs.declared.groups.ConstructorPart.{ConstructorPart}
use Rattle.decl_groups.specs.declared.groups.DeclarationPart.{DeclarationPart}
use Rattle.decl_groups.specs.declared.groups.LabelPart.{LabelPart}
use Rattle.decl_groups.specs.declared.groups.Told.{Told}
use Rattle.decl_typing.specs.Entering.{alone}
use Rattle.decl_typing.specs.Entries.{TypeEntryIf, told_what, told_kind, IsToldEntry, AreTold, none_told, one_told, named_first, constructor_names, label_names, names_told_if, values_of, EntriesOf}
use Rattle.decl_typing.specs.LabelParts.{AreLabels, no_labels, one_label, nameless_label}
use Rattle.decl_typing.specs.Owned.{IsVariant, IsRecord, ShapeMade, nothing_made, constructors_made, labels_made, told_in}
use Rattle.decl_typing.specs.Parts.{AreMade, none_made, one_made, nameless}
use Rattle.declared_items.specs.Shapes.{with_constructor, constructors_by, with_label, labels_by, shape_by}

module _ (x : Declaration) (rule : rules.Declaration) where
  -- x stands for this rule, and nothing else is there
  abbrev No : ℕ → Scheme → Type 0
  No r sc = ⊥

  abbrev Own : Declaration → rules.Declaration → Type 0
  Own y e = (y ≡ x) × (e ≡ rule)

  abbrev None_too : Constructor → Option Typ → Type 0
  None_too y o = ⊥

  -- entries of the code are those of the definitions, where x stands for this rule
  abbrev pub OwnEntries : List Entry → Environment → Type 0
  OwnEntries = EnvAs No Own None_too

  -- what the names of constructors, and of labels, stand for
  what_variant : (z : Shape) → IsVariant z → (cell : Rc Declaration Global) (k : ℕ) → (told_what z cell k ≡ what.Constructor cell k) × (told_kind z ≡ kind.Constructor)
  what_variant shape.Opaque is cell k = (refl, refl)
  what_variant (shape.Variant ks) is cell k = (refl, refl)
  what_variant (shape.Labels ls) is cell k = absurd is

  what_record : (z : Shape) → IsRecord z → (cell : Rc Declaration Global) (k : ℕ) → (told_what z cell k ≡ what.Label cell k) × (told_kind z ≡ kind.Label)
  what_record (shape.Labels ls) is cell k = (refl, refl)
  what_record shape.Opaque is cell k = absurd is
  what_record (shape.Variant ks) is cell k = absurd is

  -- one constructor, and one label
  constructor_told : (k : ℕ) (t : Tok) (e : Entry) (c : rules.Constructor) → IsVariant x.shape → constructor_at rule.shape k ≡ Some c → c.name ≡ t.name → c.place ≡ in_text (place_of t) → IsToldEntry x k t e → EntryAs No Own None_too e (entry c.name c.place (a_constructor rule c))
  constructor_told k t e c is there name place told =
      let w = what_variant x.shape is told.cell k in
      entry_as (name ∙ sym told.name) (sym (ap kind_of (told.kind ∙ w.1))) (told.placed ∙ sym place) (of_constructor (told.what ∙ w.0) (told.is, refl) there)

  label_told : (k : ℕ) (t : Tok) (e : Entry) (l : rules.Label) → IsRecord x.shape → label_at rule.shape k ≡ Some l → l.name ≡ t.name → l.place ≡ in_text (place_of t) → IsToldEntry x k t e → EntryAs No Own None_too e (entry l.name l.place (a_label rule l))
  label_told k t e l is there name place told =
      let w = what_record x.shape is told.cell k in
      entry_as (name ∙ sym told.name) (sym (ap kind_of (told.kind ∙ w.1))) (told.placed ∙ sym place) (of_label (told.what ∙ w.0) (told.is, refl) there)

  -- the entries of constructors in the definitions, and of labels
  abbrev constructor_entries : List rules.Constructor → List Named
  constructor_entries cs = map (λ (c : rules.Constructor). entry c.name c.place (a_constructor rule c)) cs

  abbrev label_entries : List rules.Label → List Named
  label_entries ls = map (λ (l : rules.Label). entry l.name l.place (a_label rule l)) ls

  -- the constructors from a place on
  constructors_told : {A : Assignment} {result : Typ} {ps : List ConstructorPart} {ts : List (Option Typ)} {ks : List _} (k : ℕ) (es : List Entry) → IsVariant x.shape → AreMade A result ps ts ks → ((j : ℕ) (c : rules.Constructor) → slice_get (constructors_by ps ts) j ≡ Some c → constructor_at rule.shape (k + j) ≡ Some c) →
      AreTold x k (constructor_names ps) es → OwnEntries es (constructor_entries (constructors_by ps ts))
  constructors_told k es is none_made at none_told = no_names
  constructors_told k es is (one_made {p} {ps} {t} {ts} r s given d more) at told = by p.name es (λ m ys a h. constructors_told m ys is more a h) at told
    where
      by : (o : Option (Bor Token)) (zs : List Entry) → ((m : ℕ) (ys : List Entry) → ((j : ℕ) (u : rules.Constructor) → slice_get (constructors_by ps ts) j ≡ Some u → constructor_at rule.shape (m + j) ≡ Some u) → AreTold x m (constructor_names ps) ys → OwnEntries ys (constructor_entries (constructors_by ps ts))) → ((j : ℕ) (u : rules.Constructor) → slice_get (with_constructor o t (constructors_by ps ts)) j ≡ Some u → constructor_at rule.shape (k + j) ≡ Some u) → AreTold x k (named_first o (constructor_names ps)) zs → OwnEntries zs (constructor_entries (with_constructor o t (constructors_by ps ts)))
      by None zs rec at told = rec k zs at told
      by (Some m) zs rec at (one_told {e = y} {es = ys} one rest) =
          newest (constructor_told k _ y _ is (ap (constructor_at rule.shape) (omega arith) ∙ at 0 _ refl) refl refl one)
          (rec (suc k) ys (λ j u h. ap (constructor_at rule.shape) (let f : suc k + j ≡ k + suc j = omega arith in f) ∙ at (suc j) u h) rest)
  constructors_told k es is (nameless {p} {ps} {t} {ts} none more) at told =
      let at' = subst (λ o. (j : ℕ) (u : rules.Constructor) → slice_get (with_constructor o t (constructors_by ps ts)) j ≡ Some u → constructor_at rule.shape (k + j) ≡ Some u) none at in
      let told' = subst (λ o. AreTold x k (named_first o (constructor_names ps)) es) none told in
      subst (λ o. OwnEntries es (constructor_entries (with_constructor o t (constructors_by ps ts)))) (sym none) (constructors_told k es is more at' told')

  -- and the labels
  labels_told : {A : Assignment} {owner : Typ} {ps : List LabelPart} {ts : List Typ} {ls : List _} (k : ℕ) (es : List Entry) → IsRecord x.shape → AreLabels A owner ps ts ls → ((j : ℕ) (c : rules.Label) → slice_get (labels_by ps ts) j ≡ Some c → label_at rule.shape (k + j) ≡ Some c) →
      AreTold x k (label_names ps) es → OwnEntries es (label_entries (labels_by ps ts))
  labels_told k es is no_labels at none_told = no_names
  labels_told k es is (one_label {p} {ps} {t} {ts} r s d more) at told = by p.name es (λ m ys a h. labels_told m ys is more a h) at told
    where
      by : (o : Option (Bor Token)) (zs : List Entry) → ((m : ℕ) (ys : List Entry) → ((j : ℕ) (u : rules.Label) → slice_get (labels_by ps ts) j ≡ Some u → label_at rule.shape (m + j) ≡ Some u) → AreTold x m (label_names ps) ys → OwnEntries ys (label_entries (labels_by ps ts))) → ((j : ℕ) (u : rules.Label) → slice_get (with_label p o t (labels_by ps ts)) j ≡ Some u → label_at rule.shape (k + j) ≡ Some u) → AreTold x k (named_first o (label_names ps)) zs → OwnEntries zs (label_entries (with_label p o t (labels_by ps ts)))
      by None zs rec at told = rec k zs at told
      by (Some m) zs rec at (one_told {e = y} {es = ys} one rest) =
          newest (label_told k _ y _ is (ap (label_at rule.shape) (omega arith) ∙ at 0 _ refl) refl refl one)
          (rec (suc k) ys (λ j u h. ap (label_at rule.shape) (let f : suc k + j ≡ k + suc j = omega arith in f) ∙ at (suc j) u h) rest)
  labels_told k es is (nameless_label {p} {ps} {t} {ts} none more) at told =
      let at' = subst (λ o. (j : ℕ) (u : rules.Label) → slice_get (with_label p o t (labels_by ps ts)) j ≡ Some u → label_at rule.shape (k + j) ≡ Some u) none at in
      let told' = subst (λ o. AreTold x k (named_first o (label_names ps)) es) none told in
      subst (λ o. OwnEntries es (label_entries (with_label p o t (labels_by ps ts)))) (sym none) (labels_told k es is more at' told')

  -- a variant has its constructors, and their entries
  at_variant : (cs : List rules.Constructor) (j : ℕ) (c : rules.Constructor) → slice_get cs j ≡ Some c → constructor_at (variant_of cs) j ≡ Some c
  at_variant [] j c e = absurd (cc)
  at_variant (k ∷ cs) j c e = e

  entries_of_variant : (cs : List rules.Constructor) → entries_of_shape rule (variant_of cs) ≡ constructor_entries cs
  entries_of_variant [] = refl
  entries_of_variant (k ∷ cs) = refl

  -- the entries of what is told
  told_entries : {A : Assignment} {owner : Typ} {fixes : Fixes} {i : ℕ} {told : Option Told} (es : List Entry) (m : ShapeMade A owner fixes i told x.shape) → rule.shape ≡ shape_by m → AreTold x 0 (names_told_if told) es → OwnEntries es (entries_of_shape rule (shape_by m))
  told_entries es (nothing_made e) is none_told = no_names
  told_entries es (constructors_made {ps = ps} types gives made v) is told = subst (OwnEntries es) (sym (entries_of_variant (constructors_by ps.items types)))
      (constructors_told 0 es v made (λ j c e. ap (constructor_at rule.shape) (let f : 0 + j ≡ j = omega arith in f) ∙ ap (λ z. constructor_at z j) is ∙ at_variant (constructors_by ps.items types) j c e) told)
  told_entries es (labels_made {ps = ps} types gives made v) is told = labels_told 0 es v made (λ j c e. ap (label_at rule.shape) (let f : 0 + j ≡ j = omega arith in f) ∙ ap (λ z. label_at z j) is ∙ e) told

  -- the entry of the name
  pub name_entry : (o : Option (Bor Token)) (type : Option (Rc Entry Global)) → TypeEntryIf x o type → OwnEntries (values_of (alone type)) (type_entry rule (option_map (λ (t : Bor Token). tok_of t.now) o))
  name_entry None None is = no_names
  name_entry None (Some e) is = absurd is
  name_entry (Some t) None is = absurd is
  name_entry (Some t) (Some e) is = newest (entry_as (sym is.name) (sym (ap kind_of is.kind)) is.placed (of_type is.what (is.is, refl))) no_names

  -- The entries of a declaration, the newest first, are those of the definitions.
  pub own_entries : {A : Assignment} {owner : Typ} {fixes : Fixes} {i : ℕ} (p : DeclarationPart) (es : List (Rc Entry Global)) (m : ShapeMade A owner fixes i (told_in p.right) x.shape) → rule.shape ≡ shape_by m → EntriesOf x p es →
      OwnEntries (reverse (values_of es)) (reverse (type_entry rule (option_map (λ (t : Bor Token). tok_of t.now) p.name) ++ entries_of_shape rule rule.shape))
  own_entries p es m is of = env_reverse No Own None_too (subst (λ ys. OwnEntries ys (type_entry rule (option_map (λ (t : Bor Token). tok_of t.now) p.name) ++ entries_of_shape rule rule.shape)) (sym (ap values_of of.all ∙ map-append (λ (y : Rc Entry Global). y.value) (alone of.type) of.told))
      (env_append No Own None_too (name_entry p.name of.type of.named) (subst (λ z. OwnEntries (values_of of.told) (entries_of_shape rule z)) (sym is) (told_entries (values_of of.told) m is of.are_told))))
