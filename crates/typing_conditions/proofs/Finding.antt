-- Where a path finds a constructor or a label, the definitions find the one that it stands for.
use Rattle.std.proofs.Common.{◌≡◌, ℕ, zero, suc, List, Option, Some, None, refl, sym, ◌∙◌, ap, subst}
use Rattle.std.specs.Prelude.{slice_get}
use Rattle.std.specs.declared.rc.Rc.{Rc}
use Rattle.std.specs.declared.alloc.Global.{Global}
use Rattle.type_model.specs.Types.{Typ}
use Rattle.type_model.specs.Types.{Typ as type}
use Rattle.type_model.specs.Schemes.{Scheme}
use Rattle.signature_model.specs.Declarations as rules
use Rattle.signature_model.specs.Declarations.{Name, type_of}
use Rattle.signature_model.specs.Entries.{Environment, constructor_kind, label_kind}
use Rattle.signature_model.specs.Entries.{Entry as Named, Referent, kind_of as kind_named}
use Rattle.signature_model.specs.Lookups.{FoundAmong, an_entry, lookup, lookup_by}
use Rattle.typing_model.specs.BuiltIns.{exn_type}
use Rattle.typing_model.specs.Names.{referent_of, then_by, Built, built, built_in, label_in}
use Rattle.type_nodes.specs.Nodes.{Node}
use Rattle.type_nodes.specs.Readings.{Types}
use Rattle.env_table.specs.declared.entries.Constructor.{Constructor}
use Rattle.env_table.specs.declared.entries.Declaration.{Declaration}
use Rattle.env_table.specs.declared.entries.Label.{Label}
use Rattle.env_table.specs.declared.entries.Shape.{Shape}
use Rattle.env_table.specs.declared.entries.Shape.TheVariants as shape
use Rattle.env_table.specs.declared.entries.Entry.{Entry}
use Rattle.env_table.specs.declared.entries.What.{What}
use Rattle.env_table.specs.declared.entries.What as whats
use Rattle.env_table.specs.declared.entries.What.TheVariants as what
use Rattle.env_table.specs.Views.{is_named, inside, kind_of}
use Rattle.typing_conditions.specs.Environments.{constructor_at, label_at, WhatAs, of_value, of_constructor, of_exception, of_label, of_type, of_module, of_module_type, EntryAs, entry_as, EnvAs}
use Rattle.typing_conditions.proofs.Environments.{ComesTo, to_entry, to_hole, to_nothing, lookup_alike}
use Rattle.typing_conditions.specs.Declared as code
use Rattle.signature_model.specs.Records.{is_some}
use Rattle.typing_conditions.specs.Locals.{IsOwn}
use Rattle.typing_conditions.specs.Declared.{building, constructor_in, MakesAs, ConstructorAs, LabelAs, OneByOne, no_more, one_more, ShapeAs, tell_nothing, tell_constructors, tell_labels, DeclaredAs, ExceptionAs}

-- the one at a place
one_at : {A B : Type 0} {P : A → B → Type 0} {xs : List A} {ys : List B} → OneByOne P xs ys → (k : ℕ) (y : B) → slice_get ys k ≡ Some y → (x : A) × (slice_get xs k ≡ Some x) × P x y
one_at no_more k y e = absurd (cc)
one_at {P = P} (one_more {x = x} {y = z} p ps) zero y e = let s : z ≡ y = cc in (x, refl, subst (λ w. P x w) s p)
one_at (one_more p ps) (suc k) y e = one_at ps k y e

module _ {nodes : List Node} {C : List ℕ} {N : Types} {arity : ℕ} {owner : Typ} where
  constructor_there : {s : Shape} {z : rules.Shape} → ShapeAs nodes C N arity owner s z → (place : ℕ) (k : rules.Constructor) → constructor_at z place ≡ Some k →
      (cs : _) × (s ≡ shape.Variant cs) × ((c : Constructor) × (slice_get cs.items place ≡ Some c) × ConstructorAs nodes C N arity owner c k)
  constructor_there (tell_nothing e) place k is = absurd (cc)
  constructor_there (tell_constructors {cs = cs} e h) place k is = (cs, e, one_at h place k is)
  constructor_there (tell_labels e h) place k is = absurd (cc)

  label_there : {s : Shape} {z : rules.Shape} → ShapeAs nodes C N arity owner s z → (place : ℕ) (k : rules.Label) → label_at z place ≡ Some k →
      (ls : _) × (s ≡ shape.Labels ls) × ((l : Label) × (slice_get ls.items place ≡ Some l) × LabelAs nodes C N arity owner l k)
  label_there (tell_nothing e) place k is = absurd (cc)
  label_there (tell_constructors e h) place k is = absurd (cc)
  label_there (tell_labels {ls = ls} e h) place k is = (ls, e, one_at h place k is)

of_declaration : (d : Rc Declaration Global) (place : ℕ) → constructor_in (what.Constructor d place) ≡ code.constructor_at d.value.shape place
unfolding whats.out-What denote.Hole.Carrier.out
of_declaration d place = refl

of_exceptions : (c : Rc Constructor Global) → constructor_in (what.Exception c) ≡ Some c.value
unfolding whats.out-What denote.Hole.Carrier.out
of_exceptions c = refl

label_of : (d : Rc Declaration Global) (place : ℕ) → code.label_in (what.Label d place) ≡ code.label_at d.value.shape place
unfolding whats.out-What denote.Hole.Carrier.out
label_of d place = refl

module _ (R : ℕ → Scheme → Type 0) (nodes : List Node) (C : List ℕ) (N : Types) where
  -- what the definitions have for an entry that is a constructor
  pub record HasConstructor (w : What) (f : Referent) : Type 0 where
    pub constructor : Constructor
    pub here : constructor_in w ≡ Some constructor
    pub arity : ℕ
    pub building : Built
    pub is : built_in exn_type f ≡ Some building
    pub makes : MakesAs nodes C N arity constructor building.result building.argument

  what_constructor : {w : What} {f : Referent} → WhatAs R (DeclaredAs nodes C N) (ExceptionAs nodes C N) w f → kind_named f ≡ constructor_kind → HasConstructor w f
  what_constructor (of_value e h) k = absurd (cc)
  what_constructor (of_constructor {d = d} {place = place} {e = e} {k = x} is h at) k =
      let (cs, shaped, (c, there, alike)) = constructor_there h.shape place x at in
      record { constructor = c; here = ap constructor_in is ∙ of_declaration d place ∙ ap (λ z. code.constructor_at z place) shaped ∙ there; arity = e.arity; building = built (type_of e) x.argument; is = refl; makes = alike.makes }
  what_constructor (of_exception {c = c} {o = o} is h) k = record { constructor = c.value; here = ap constructor_in is ∙ of_exceptions c; arity = 0; building = built exn_type o; is = refl; makes = h }
  what_constructor (of_label e h l) k = absurd (cc)
  what_constructor (of_type e h) k = absurd (cc)
  what_constructor (of_module e h) k = absurd (cc)
  what_constructor (of_module_type e h) k = absurd (cc)

  -- and what a path finds
  pub record FindsConstructor (e : Entry) (found : FoundAmong Named) : Type 0 where
    pub constructor : Constructor
    pub here : constructor_in e.what ≡ Some constructor
    pub arity : ℕ
    pub building : Built
    pub is : then_by (referent_of found) (built_in exn_type) ≡ Some building
    pub makes : MakesAs nodes C N arity constructor building.result building.argument

  entry_constructor : {e : Entry} {f : Named} → EntryAs R (DeclaredAs nodes C N) (ExceptionAs nodes C N) e f → kind_of e.kind ≡ constructor_kind → FindsConstructor e (an_entry f)
  entry_constructor (entry_as n k p w) is = let h = what_constructor w (k ∙ is) in record { constructor = h.constructor; here = h.here; arity = h.arity; building = h.building; is = h.is; makes = h.makes }

  found_constructor : {x : FoundAmong Entry} {y : FoundAmong Named} (e : Entry) → x ≡ an_entry e → kind_of e.kind ≡ constructor_kind → ComesTo R (DeclaredAs nodes C N) (ExceptionAs nodes C N) x y → FindsConstructor e y
  found_constructor e f is (to_entry {e = d} {f = g} h) = let s : d ≡ e = cc in subst (λ z. FindsConstructor z (an_entry g)) s (entry_constructor h (ap (λ (z : Entry). kind_of z.kind) s ∙ is))
  found_constructor e f is to_hole = absurd (cc)
  found_constructor e f is to_nothing = absurd (cc)

  -- so the definitions find what the constructor builds
  pub finds_constructor : (ms : List Name) (x : Name) (e : Entry) {es : List Entry} {fs : Environment} → lookup_by is_named inside es ms constructor_kind x ≡ an_entry e → kind_of e.kind ≡ constructor_kind →
      EnvAs R (DeclaredAs nodes C N) (ExceptionAs nodes C N) es fs → FindsConstructor e (lookup fs ms constructor_kind x)
  finds_constructor ms x e f is h = found_constructor e f is (lookup_alike R (DeclaredAs nodes C N) (ExceptionAs nodes C N) ms constructor_kind x h)

  -- what the definitions have for an entry that is a label
  pub record HasLabel (w : What) (f : Referent) : Type 0 where
    pub label : Label
    pub here : code.label_in w ≡ Some label
    pub owner : rules.Declaration
    pub named : rules.Label
    pub is : label_in f ≡ Some (owner, named)
    pub alike : LabelAs nodes C N owner.arity (type_of owner) label named

  what_label : {w : What} {f : Referent} → WhatAs R (DeclaredAs nodes C N) (ExceptionAs nodes C N) w f → kind_named f ≡ label_kind → HasLabel w f
  what_label (of_value e h) k = absurd (cc)
  what_label (of_constructor e h c) k = absurd (cc)
  what_label (of_exception e h) k = absurd (cc)
  what_label (of_label {d = d} {place = place} {e = e} {l = x} is h at) k =
      let (ls, shaped, (l, there, alike)) = label_there h.shape place x at in
      record { label = l; here = ap code.label_in is ∙ label_of d place ∙ ap (λ z. code.label_at z place) shaped ∙ there; owner = e; named = x; is = refl; alike = alike }
  what_label (of_type e h) k = absurd (cc)
  what_label (of_module e h) k = absurd (cc)
  what_label (of_module_type e h) k = absurd (cc)

  -- and what a path finds
  pub record FindsLabel (e : Entry) (found : FoundAmong Named) : Type 0 where
    pub label : Label
    pub here : code.label_in e.what ≡ Some label
    pub owner : rules.Declaration
    pub named : rules.Label
    pub is : then_by (referent_of found) label_in ≡ Some (owner, named)
    pub alike : LabelAs nodes C N owner.arity (type_of owner) label named

  entry_label : {e : Entry} {f : Named} → EntryAs R (DeclaredAs nodes C N) (ExceptionAs nodes C N) e f → kind_of e.kind ≡ label_kind → FindsLabel e (an_entry f)
  entry_label (entry_as n k p w) is = let h = what_label w (k ∙ is) in record { label = h.label; here = h.here; owner = h.owner; named = h.named; is = h.is; alike = h.alike }

  found_label : {x : FoundAmong Entry} {y : FoundAmong Named} (e : Entry) → x ≡ an_entry e → kind_of e.kind ≡ label_kind → ComesTo R (DeclaredAs nodes C N) (ExceptionAs nodes C N) x y → FindsLabel e y
  found_label e f is (to_entry {e = d} {f = g} h) = let s : d ≡ e = cc in subst (λ z. FindsLabel z (an_entry g)) s (entry_label h (ap (λ (z : Entry). kind_of z.kind) s ∙ is))
  found_label e f is to_hole = absurd (cc)
  found_label e f is to_nothing = absurd (cc)

  -- so the definitions find the label with its declaration
  pub finds_label : (ms : List Name) (x : Name) (e : Entry) {es : List Entry} {fs : Environment} → lookup_by is_named inside es ms label_kind x ≡ an_entry e → kind_of e.kind ≡ label_kind →
      EnvAs R (DeclaredAs nodes C N) (ExceptionAs nodes C N) es fs → FindsLabel e (lookup fs ms label_kind x)
  finds_label ms x e f is h = found_label e f is (lookup_alike R (DeclaredAs nodes C N) (ExceptionAs nodes C N) ms label_kind x h)

-- a constructor stands for one result and one argument alone
pub same_building : {nodes : List Node} {I : Types} {C : List ℕ} {N : Types} {k l : ℕ} {c : Constructor} {r s : Typ} {t u : Option Typ} → IsOwn nodes I → MakesAs nodes C N k c r t → MakesAs nodes C N l c s u → built r t ≡ built s u
same_building {I = I} {c = c} {r = r} {s = s} {t = t} {u = u} own one two = by t u (sym one.takes ∙ two.takes) (one.root.is I own ∙ sym (two.root.is I own))
  where
    by : (t u : Option Typ) → is_some t ≡ is_some u → building r t ≡ building s u → built r t ≡ built s u
    by None None e f = ap (λ x. built x None) f
    by None (Some u) e f = absurd (cc)
    by (Some t) None e f = absurd (cc)
    by (Some t) (Some u) e f = let p : t ≡ u = cc in let q : r ≡ s = cc in (λ i. built (q i) (Some (p i)))

-- and so does a label for one record and one field
pub same_label : {nodes : List Node} {I : Types} {C : List ℕ} {N : Types} {k l : ℕ} {x : Label} {r s : Typ} {t u : rules.Label} → IsOwn nodes I → LabelAs nodes C N k r x t → LabelAs nodes C N l s x u → (r ≡ s) × (t.body ≡ u.body) × (t.is_mutable ≡ u.is_mutable)
same_label {I = I} {r = r} {s = s} {t = t} {u = u} own one two =
    let f : type.Arrow r t.body ≡ type.Arrow s u.body = one.root.is I own ∙ sym (two.root.is I own) in
    let p : r ≡ s = cc in let q : t.body ≡ u.body = cc in (p, q, sym one.mutable ∙ two.mutable)
