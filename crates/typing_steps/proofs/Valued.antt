-- An entry that a path finds as a value stands for a scheme, by a root of the store.
use Rattle.std.proofs.Common.{◌≡◌, ◌∙◌, Bool, true, false, if◌then◌else◌, List, [], ◌∷◌, Option, Some, None, refl, sym, ap, subst, ℕ}
use Rattle.std.specs.Str.{bytes_eq}
use Rattle.text_terms.specs.Bytes.{str_bytes}
use Rattle.type_model.specs.Types.{Typ}
use Rattle.type_model.specs.Schemes.{Scheme}
use Rattle.signature_model.specs.Declarations as rules
use Rattle.signature_model.specs.Declarations.{Name}
use Rattle.signature_model.specs.Entries.{Kind, value_kind, constructor_kind, label_kind, type_kind, module_kind, module_type_kind, Referent, Environment}
use Rattle.signature_model.specs.Entries.{kind_of as kind_named, Entry as Named}
use Rattle.signature_model.specs.Lookups.{same_kind, FoundAmong, an_entry, ScopeOf, known, unknown_scope, no_scope, newest_by, found, found_in, scope_by, lookup_by}
use Rattle.typing_laws.proofs.Bools.{and_cases, no_yes}
use Rattle.type_terms.specs.declared.types.NodeRef.{NodeRef}
use Rattle.env_table.specs.declared.entries.Constructor.{Constructor}
use Rattle.env_table.specs.declared.entries.Declaration.{Declaration}
use Rattle.env_table.specs.declared.entries.Entry.{Entry}
use Rattle.env_table.specs.declared.entries.What.{What}
use Rattle.env_table.specs.declared.entries.What.TheVariants as what
use Rattle.env_table.specs.Views.{is_named, inside, kind_of}
use Rattle.typing_conditions.specs.Environments.{WhatAs, of_value, of_constructor, of_exception, of_label, of_type, of_module, of_module_type, EntryAs, entry_as, EnvAs}
use Rattle.typing_conditions.proofs.Environments.{ComesTo, to_entry, to_hole, to_nothing, lookup_alike}

one_entry : {E : Type 0} (x e : E) → Some x ≡ Some e → x ≡ e
one_entry x e h = cc

-- the newest entry that a test holds of passes it
pub newest_passes : {E : Type 0} (test : E → Bool) (es : List E) (e : E) → newest_by test es ≡ Some e → test e ≡ true
newest_passes test [] e h = absurd (cc)
newest_passes {E} test (x ∷ es) e h = at (test x) refl (newest_passes test es e)
  where
    at : (t : Bool) → test x ≡ t → (newest_by test es ≡ Some e → test e ≡ true) → test e ≡ true
    at true f later = ap test (sym (one_entry x e (sym (ap (λ t. if t then Some x else newest_by test es) f) ∙ h))) ∙ f
    at false f later = later (sym (ap (λ t. if t then Some x else newest_by test es) f) ∙ h)

pub found_some : {E : Type 0} (o : Option E) (e : E) → found o ≡ an_entry e → o ≡ Some e
found_some None e h = absurd (cc)
found_some (Some x) e h = let s : x ≡ e = cc in ap (λ y. Some y) s

-- what is found in a scope passes the test
found_passes : {E : Type 0} (test : E → Bool) (s : ScopeOf E) (e : E) → found_in test s ≡ an_entry e → test e ≡ true
found_passes test (known es) e h = newest_passes test es e (found_some (newest_by test es) e h)
found_passes test unknown_scope e h = absurd (cc)
found_passes test no_scope e h = absurd (cc)

value_alone : (k : Kind) → same_kind value_kind k ≡ true → k ≡ value_kind
value_alone value_kind h = refl
value_alone constructor_kind h = absurd (no_yes h)
value_alone label_kind h = absurd (no_yes h)
value_alone type_kind h = absurd (no_yes h)
value_alone module_kind h = absurd (no_yes h)
value_alone module_type_kind h = absurd (no_yes h)

kind_alone : (j k : Kind) → same_kind j k ≡ true → k ≡ j
kind_alone value_kind k h = value_alone k h
kind_alone constructor_kind value_kind h = absurd (no_yes h)
kind_alone constructor_kind constructor_kind h = refl
kind_alone constructor_kind label_kind h = absurd (no_yes h)
kind_alone constructor_kind type_kind h = absurd (no_yes h)
kind_alone constructor_kind module_kind h = absurd (no_yes h)
kind_alone constructor_kind module_type_kind h = absurd (no_yes h)
kind_alone label_kind value_kind h = absurd (no_yes h)
kind_alone label_kind constructor_kind h = absurd (no_yes h)
kind_alone label_kind label_kind h = refl
kind_alone label_kind type_kind h = absurd (no_yes h)
kind_alone label_kind module_kind h = absurd (no_yes h)
kind_alone label_kind module_type_kind h = absurd (no_yes h)
kind_alone type_kind value_kind h = absurd (no_yes h)
kind_alone type_kind constructor_kind h = absurd (no_yes h)
kind_alone type_kind label_kind h = absurd (no_yes h)
kind_alone type_kind type_kind h = refl
kind_alone type_kind module_kind h = absurd (no_yes h)
kind_alone type_kind module_type_kind h = absurd (no_yes h)
kind_alone module_kind value_kind h = absurd (no_yes h)
kind_alone module_kind constructor_kind h = absurd (no_yes h)
kind_alone module_kind label_kind h = absurd (no_yes h)
kind_alone module_kind type_kind h = absurd (no_yes h)
kind_alone module_kind module_kind h = refl
kind_alone module_kind module_type_kind h = absurd (no_yes h)
kind_alone module_type_kind value_kind h = absurd (no_yes h)
kind_alone module_type_kind constructor_kind h = absurd (no_yes h)
kind_alone module_type_kind label_kind h = absurd (no_yes h)
kind_alone module_type_kind type_kind h = absurd (no_yes h)
kind_alone module_type_kind module_kind h = absurd (no_yes h)
kind_alone module_type_kind module_type_kind h = refl

-- an entry that a path finds as one of a kind has that kind
pub found_of_kind : (k : Kind) (env : List Entry) (ms : List Name) (x : Name) (e : Entry) → lookup_by is_named inside env ms k x ≡ an_entry e → kind_of e.kind ≡ k
found_of_kind k env ms x e h = kind_alone k (kind_of e.kind) (and_cases (same_kind k (kind_of e.kind)) (bytes_eq x (str_bytes e.name)) (found_passes (is_named k x) (scope_by is_named inside env ms) e h)).0

-- an entry that a path finds as a value has that kind
pub value_by_kind : (env : List Entry) (ms : List Name) (x : Name) (e : Entry) → lookup_by is_named inside env ms value_kind x ≡ an_entry e → kind_of e.kind ≡ value_kind
value_by_kind env ms x e h = value_alone (kind_of e.kind) (and_cases (same_kind value_kind (kind_of e.kind)) (bytes_eq x (str_bytes e.name)) (found_passes (is_named value_kind x) (scope_by is_named inside env ms) e h)).0

module _ (R : ℕ → Scheme → Type 0) (D : Declaration → rules.Declaration → Type 0) (X : Constructor → Option Typ → Type 0) where
  root_of_value : {w : What} {f : Referent} → WhatAs R D X w f → kind_named f ≡ value_kind → (root : NodeRef) × (w ≡ what.Scheme root)
  root_of_value (of_value {n = n} e h) k = (n, e)
  root_of_value (of_constructor e h c) k = absurd (cc)
  root_of_value (of_exception e h) k = absurd (cc)
  root_of_value (of_label e h c) k = absurd (cc)
  root_of_value (of_type e h) k = absurd (cc)
  root_of_value (of_module e h) k = absurd (cc)
  root_of_value (of_module_type e h) k = absurd (cc)

  root_of_entry : {e : Entry} {f : Named} → EntryAs R D X e f → kind_of e.kind ≡ value_kind → (root : NodeRef) × (e.what ≡ what.Scheme root)
  root_of_entry (entry_as n k p w) is = root_of_value w (k ∙ is)

  root_of_found : {a : FoundAmong Entry} {b : FoundAmong Named} (e : Entry) → a ≡ an_entry e → ComesTo R D X a b → kind_of e.kind ≡ value_kind → (root : NodeRef) × (e.what ≡ what.Scheme root)
  root_of_found e f (to_entry {e = d} h) is = let s : d ≡ e = cc in subst (λ (z : Entry). (root : NodeRef) × (z.what ≡ what.Scheme root)) s (root_of_entry h (ap (λ (z : Entry). kind_of z.kind) s ∙ is))
  root_of_found e f to_hole is = absurd (cc)
  root_of_found e f to_nothing is = absurd (cc)

  -- it has a root
  pub value_has_root : {env : List Entry} {E : Environment} (ms : List Name) (x : Name) (e : Entry) → lookup_by is_named inside env ms value_kind x ≡ an_entry e → EnvAs R D X env E → (root : NodeRef) × (e.what ≡ what.Scheme root)
  value_has_root {env = env} ms x e h names = root_of_found e h (lookup_alike R D X ms value_kind x names) (value_by_kind env ms x e h)
