-- Where labels find a record type, the definitions find a declaration that it stands for; and all of these are one.
use Rattle.std.proofs.Common.{◌≡◌, ◌∙◌, ◌&&◌, ℕ, zero, suc, Bool, true, false, List, [], ◌∷◌, Option, Some, None, option_map, refl, sym, ap, subst, if◌then◌else◌}
use Rattle.std.specs.declared.rc.Rc.{Rc}
use Rattle.std.specs.declared.alloc.Global.{Global}
use Rattle.type_terms.specs.Views.{path_of}
use Rattle.type_terms.specs.declared.types.Origin.{Origin}
use Rattle.type_model.specs.Types.{Path, Typ, Typs}
use Rattle.type_model.specs.Types.{Typs as types}
use Rattle.type_model.specs.Schemes.{Scheme}
use Rattle.typing_laws.proofs.Bools.{no_yes, and_cases}
use Rattle.signature_model.specs.Declarations as rules
use Rattle.signature_model.specs.Declarations.{Name, type_of, parameters_from}
use Rattle.signature_model.specs.Entries.{Environment, label_kind}
use Rattle.signature_model.specs.Entries.{Entry as Named, Referent, kind_of as kind_named}
use Rattle.signature_model.specs.Lookups.{FoundAmong, an_entry, a_hole, nothing, ScopeOf, known, unknown_scope, no_scope, newest_by}
use Rattle.signature_model.specs.Records.{Written, origin_of, Labelled, is_there, is_known, each_scope, first_label, newest_label, has_name, belongs_to, record_by, record_of}
use Rattle.typing_model.specs.Names.{entry_of, then_by, label_in}
use Rattle.typing_model.specs.Records.{labels_in}
use Rattle.type_nodes.specs.Nodes.{Node}
use Rattle.type_nodes.specs.Readings.{Types}
use Rattle.env_table.specs.declared.entries.Constructor.{Constructor}
use Rattle.env_table.specs.declared.entries.Declaration.{Declaration}
use Rattle.env_table.specs.declared.entries.Label.{Label}
use Rattle.env_table.specs.declared.entries.Shape.{Shape}
use Rattle.env_table.specs.declared.entries.Shape.TheVariants as shape
use Rattle.env_table.specs.declared.entries.Entry.{Entry}
use Rattle.env_table.specs.declared.entries.Kind.{Kind as CodeKind}
use Rattle.env_table.specs.declared.entries.Kind.TheVariants as kind
use Rattle.env_table.specs.declared.entries.What.{What}
use Rattle.env_table.specs.declared.entries.What.TheVariants as what
use Rattle.env_table.specs.Views.{kind_of}
use Rattle.env_table.specs.Labels.{record_by_kind, labelled, scope_for}
use Rattle.typing_conditions.specs.Environments.{label_at, WhatAs, of_value, of_constructor, of_exception, of_label, of_type, of_module, of_module_type, EntryAs, entry_as, EnvAs}
use Rattle.typing_conditions.specs.Locals.{IsOwn}
use Rattle.typing_conditions.proofs.Environments.{ComesTo, to_entry, to_hole, to_nothing}
use Rattle.typing_conditions.specs.Declared.{LabelAs, OneByOne, no_more, one_more, ShapeAs, tell_nothing, tell_constructors, tell_labels, OriginAs, DeclaredAs, and_last, with_parameters}
use Rattle.typing_conditions.proofs.Finding.{same_label}
use Rattle.record_steps.specs.Alike.{SameLabel, SameRecord}
use Rattle.record_steps.proofs.Finding.{record_alike}
use Rattle.typing_steps.proofs.Valued.{found_some, newest_passes}

-- what belongs to a record type has one
has_one : {E : Type 0} (L : Labelled E) (scope : Written → ScopeOf E) (all : List Written) (o : Option Path) → belongs_to L scope all o ≡ true → (p : Path) × (o ≡ Some p)
has_one L scope all None h = absurd (no_yes h)
has_one L scope all (Some p) h = (p, refl)

-- the label that is found has a record type
newest_has : {E : Type 0} (L : Labelled E) (scope : Written → ScopeOf E) (all : List Written) (n : Option Name) (x : ScopeOf E) (e : E) → newest_label L scope all n x ≡ an_entry e → (p : Path) × (L.record_type e ≡ Some p)
newest_has {E} L scope all n (known env) e h =
    let test : E → Bool = λ x. has_name n (L.name_of x) && belongs_to L scope all (L.record_type x) in
    has_one L scope all (L.record_type e) (and_cases (has_name n (L.name_of e)) (belongs_to L scope all (L.record_type e)) (newest_passes test env e (found_some (newest_by test env) e h))).1
newest_has L scope all n unknown_scope e h = absurd (cc)
newest_has L scope all n no_scope e h = absurd (cc)

-- the label that tells the record type of some labels has one
record_has : {E : Type 0} (L : Labelled E) (env : List E) (scope : Written → ScopeOf E) (ls : List Written) (e : E) → record_by L env scope ls ≡ an_entry e → (p : Path) × (L.record_type e ≡ Some p)
record_has {E} L env scope ls e h = at (each_scope is_there scope ls) refl (each_scope is_known scope ls) refl
  where
    by : (ks : List Written) → first_label L env scope ls ks ≡ an_entry e → (p : Path) × (L.record_type e ≡ Some p)
    by [] k = newest_has L scope ls None (known env) e k
    by (l ∷ ks) k = newest_has L scope ls (Some l.name) (scope l) e k

    at : (a : Bool) → each_scope is_there scope ls ≡ a → (b : Bool) → each_scope is_known scope ls ≡ b → (p : Path) × (L.record_type e ≡ Some p)
    at true p true q = by ls (sym (λ i. if p i then (if q i then first_label L env scope ls ls else a_hole) else nothing) ∙ h)
    at true p false q = absurd (let f : a_hole ≡ an_entry e = sym (λ i. if p i then (if q i then first_label L env scope ls ls else a_hole) else nothing) ∙ h in cc)
    at false p b q = absurd (let f : nothing ≡ an_entry e = sym (ap (λ t. if t then (if each_scope is_known scope ls then first_label L env scope ls ls else a_hole) else nothing) p) ∙ h in cc)

-- what has a record type is a label
label_alone : (k : CodeKind) (w : What) (p : Path) → record_by_kind k w ≡ Some p → kind_of k ≡ label_kind
label_alone kind.Label w p e = refl
label_alone kind.Value w p e = absurd (cc)
label_alone kind.Constructor w p e = absurd (cc)
label_alone kind.TypeName w p e = absurd (cc)
label_alone kind.Module w p e = absurd (cc)
label_alone kind.ModuleType w p e = absurd (cc)

-- where a label is the type has labels
labels_there : (s : rules.Shape) (k : ℕ) (l : rules.Label) → label_at s k ≡ Some l → (ls : List rules.Label) × (s ≡ rules.Labels ls)
labels_there rules.Opaque k l e = absurd (cc)
labels_there (rules.Variant cs) k l e = absurd (cc)
labels_there (rules.Labels ls) k l e = (ls, refl)

module _ (R : ℕ → Scheme → Type 0) (D : Declaration → rules.Declaration → Type 0) (X : Constructor → Option Typ → Type 0) (origins : (d : Declaration) (e : rules.Declaration) → D d e → option_map path_of d.defines ≡ origin_of (type_of e)) where
  -- the declaration of a label, and that of the definitions' label
  record HasRecord (w : What) (f : Referent) : Type 0 where
    declared : Rc Declaration Global
    place : ℕ
    here : w ≡ what.Label declared place
    owner : rules.Declaration
    named : rules.Label
    is : label_in f ≡ Some (owner, named)
    alike : D declared.value owner
    labels : (ls : List rules.Label) × (owner.shape ≡ rules.Labels ls)

  what_record : {w : What} {f : Referent} → WhatAs R D X w f → kind_named f ≡ label_kind → HasRecord w f
  what_record (of_value e h) k = absurd (cc)
  what_record (of_constructor e h c) k = absurd (cc)
  what_record (of_exception e h) k = absurd (cc)
  what_record (of_label {d = d} {place = place} {e = x} {l = l} is h at) k = record { declared = d; place = place; here = is; owner = x; named = l; is = refl; alike = h; labels = labels_there x.shape place l at }
  what_record (of_type e h) k = absurd (cc)
  what_record (of_module e h) k = absurd (cc)
  what_record (of_module_type e h) k = absurd (cc)

  -- the declaration that the definitions find for the entry of a label
  pub record FindsRecord (e : Entry) (y : FoundAmong Named) : Type 0 where
    pub declared : Rc Declaration Global
    pub place : ℕ
    pub here : e.what ≡ what.Label declared place
    pub owner : rules.Declaration
    pub is : then_by (entry_of y) (λ f. option_map (λ r. r.0) (label_in f.stands_for)) ≡ Some owner
    pub alike : D declared.value owner
    pub labels : (ls : List rules.Label) × (owner.shape ≡ rules.Labels ls)

  entry_record : {e : Entry} {f : Named} → EntryAs R D X e f → kind_of e.kind ≡ label_kind → FindsRecord e (an_entry f)
  entry_record (entry_as {f = f} n k p w) is =
      let h = what_record w (k ∙ is) in record { declared = h.declared; place = h.place; here = h.here; owner = h.owner; is = ap (option_map (λ (r : rules.Declaration × rules.Label). r.0)) h.is; alike = h.alike; labels = h.labels }

  found_record : {x : FoundAmong Entry} {y : FoundAmong Named} (e : Entry) → x ≡ an_entry e → kind_of e.kind ≡ label_kind → ComesTo R D X x y → FindsRecord e y
  found_record e f is (to_entry {e = d} {f = g} h) = let s : d ≡ e = cc in subst (λ z. FindsRecord z (an_entry g)) s (entry_record h (ap (λ (z : Entry). kind_of z.kind) s ∙ is))
  found_record e f is to_hole = absurd (cc)
  found_record e f is to_nothing = absurd (cc)

  -- labels come to the same
  pub labels_alike : (ls : List Written) {es : List Entry} {fs : Environment} → EnvAs R D X es fs →
      ComesTo R D X (record_by labelled es (scope_for es ls) ls) (record_of fs ls)
  labels_alike ls h = record_alike R D X origins ls h

  -- so the definitions find the declaration
  pub finds_record : (ls : List Written) (e : Entry) {es : List Entry} {fs : Environment} → record_by labelled es (scope_for es ls) ls ≡ an_entry e → EnvAs R D X es fs → FindsRecord e (record_of fs ls)
  finds_record ls e {es} f h = let has = record_has labelled es (scope_for es ls) ls e f in found_record e f (label_alone e.kind e.what has.0 has.1) (labels_alike ls h)

-- a type after others
last_alike : (ts us : Typs) {t u : Typ} → ts ≡ us → and_last ts t ≡ and_last us u → t ≡ u
last_alike types.Nil types.Nil e f = cc
last_alike types.Nil (types.Cons u us) e f = absurd (cc)
last_alike (types.Cons t ts) types.Nil e f = absurd (cc)
last_alike (types.Cons x xs) (types.Cons y ys) {t} {u} e f = let p : xs ≡ ys = cc in let q : and_last xs t ≡ and_last ys u = cc in last_alike xs ys p q

-- one tuple over as many parameters is of one type
body_alike : (k : ℕ) {t u : Typ} → with_parameters k t ≡ with_parameters k u → t ≡ u
body_alike zero e = e
body_alike (suc k) {t} {u} e = let f : and_last (parameters_from 0 (suc k)) t ≡ and_last (parameters_from 0 (suc k)) u = cc in last_alike (parameters_from 0 (suc k)) (parameters_from 0 (suc k)) refl f

-- labels for which the same labels of the code stand
module _ {nodes : List Node} {I : Types} {C : List ℕ} {N : Types} {k l : ℕ} {r s : Typ} (own : IsOwn nodes I) where
  labels_one : {xs : List Label} {ks ls : List rules.Label} → OneByOne (LabelAs nodes C N k r) xs ks → OneByOne (LabelAs nodes C N l s) xs ls → OneByOne SameLabel ks ls
  labels_one no_more no_more = no_more
  labels_one (one_more p ps) (one_more q qs) =
      let z = same_label own p q in
      one_more (record { name = p.name ∙ sym q.name; mutable = z.2; body = z.1 }) (labels_one ps qs)

  shape_one : {z : Shape} {x y : rules.Shape} → ShapeAs nodes C N k r z x → ShapeAs nodes C N l s z y → OneByOne SameLabel (labels_in x) (labels_in y)
  shape_one (tell_nothing e) (tell_nothing f) = no_more
  shape_one (tell_nothing e) (tell_constructors f q) = no_more
  shape_one (tell_nothing e) (tell_labels f q) = absurd (cc)
  shape_one (tell_constructors e p) (tell_nothing f) = no_more
  shape_one (tell_constructors e p) (tell_constructors f q) = no_more
  shape_one (tell_constructors e p) (tell_labels f q) = absurd (cc)
  shape_one (tell_labels e p) (tell_nothing f) = absurd (cc)
  shape_one (tell_labels e p) (tell_constructors f q) = absurd (cc)
  shape_one (tell_labels {ls = xs} {ks = ks} e p) (tell_labels {ls = ys} {ks = js} f q) =
      let w : shape.Labels xs ≡ shape.Labels ys = sym e ∙ f in let v : xs ≡ ys = cc in
      labels_one p (subst (λ (zs : _). OneByOne (LabelAs nodes C N l s) zs.items js) (sym v) q)

-- the declarations for which one of the code stands are one as records
pub same_record : {nodes : List Node} {I : Types} {C : List ℕ} {N : Types} {d : Declaration} {e f : rules.Declaration} → IsOwn nodes I → DeclaredAs nodes C N d e → DeclaredAs nodes C N d f → SameRecord e f
same_record {I = I} {e = e} {f = f} own p q =
    let as_many : e.arity ≡ f.arity = p.arity ∙ sym q.arity in
    record {
      owner = body_alike e.arity (p.root.is I own ∙ sym (q.root.is I own) ∙ ap (λ k. with_parameters k (type_of f)) (sym as_many));
      labels = shape_one own p.shape q.shape;
    }

-- and where one is a type of its own, so is the other
pub own_too : {nodes : List Node} {C : List ℕ} {N : Types} {d : Declaration} {e f : rules.Declaration} → DeclaredAs nodes C N d e → DeclaredAs nodes C N d f → (o : Path) × (f.definition ≡ rules.Own o) → (o : Path) × (e.definition ≡ rules.Own o)
own_too {d = d} {e = e} {f = f} p q own = by d.origin e.definition f.definition p.origin q.origin own
  where
    by : (x : Option Origin) (u v : rules.Definition) → OriginAs x u → OriginAs x v → (o : Path) × (v ≡ rules.Own o) → (o : Path) × (u ≡ rules.Own o)
    by x (rules.Own o) v h k own = (o, refl)
    by None (rules.Is t) v h k (o, is) = absurd (subst (OriginAs None) is k)
    by (Some y) (rules.Is t) v h k own = absurd h
