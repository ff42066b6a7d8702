-- The record type that labels find: the names of the code and those of the definitions find alike.
use Rattle.std.proofs.Common.{◌≡◌, ◌∙◌, ◌&&◌, ℕ, Bool, true, false, List, [], ◌∷◌, Option, Some, None, option_map, refl, sym, ap, if◌then◌else◌}
use Rattle.text_terms.specs.Bytes.{str_bytes}
use Rattle.type_terms.specs.Views.{path_of}
use Rattle.type_model.specs.Types.{Path, Typ}
use Rattle.type_model.specs.Schemes.{Scheme}
use Rattle.signature_model.specs.Declarations as rules
use Rattle.signature_model.specs.Declarations.{Name, type_of}
use Rattle.signature_model.specs.Components.{same_name}
use Rattle.signature_model.specs.Entries.{Environment, label_kind}
use Rattle.signature_model.specs.Entries.{Entry as Named, Referent, kind_of as kind_named}
use Rattle.signature_model.specs.Lookups.{ScopeOf, newest_by, found, a_hole, nothing}
use Rattle.signature_model.specs.Records.{Written, path_for, is_of_type, is_label_of, is_some, has_label, has_each, belongs_to, has_name, newest_label, is_there, is_known, each_scope, first_label, record_by, origin_of, record_of_label, label_entries, record_of}
use Rattle.signature_model.specs.Records as rule
use Rattle.env_table.specs.declared.entries.Constructor.{Constructor}
use Rattle.env_table.specs.declared.entries.Declaration.{Declaration}
use Rattle.env_table.specs.declared.entries.Entry.{Entry}
use Rattle.env_table.specs.declared.entries.Kind.{Kind as CodeKind}
use Rattle.env_table.specs.declared.entries.Kind.TheVariants as kind
use Rattle.env_table.specs.declared.entries.What.{What}
use Rattle.env_table.specs.Views.{kind_of}
use Rattle.env_table.specs.Labels as code
use Rattle.env_table.specs.Labels.{record_by_kind, labelled}
use Rattle.typing_conditions.specs.Environments.{WhatAs, of_value, of_constructor, of_exception, of_label, of_type, of_module, of_module_type, EntryAs, entry_as, EnvAs, no_names, newest}
use Rattle.typing_conditions.proofs.Environments.{FoundAs, neither, both, ScopeAs, both_known, both_unknown, both_absent, scope_alike, ComesTo, to_entry, to_hole, to_nothing}

-- what is no label has no record type
no_label : (k : CodeKind) (w : What) → (kind_of k ≡ label_kind → ⊥) → record_by_kind k w ≡ None
no_label kind.Label w other = absurd (other refl)
no_label kind.Value w other = refl
no_label kind.Constructor w other = refl
no_label kind.TypeName w other = refl
no_label kind.Module w other = refl
no_label kind.ModuleType w other = refl

module _ (R : ℕ → Scheme → Type 0) (D : Declaration → rules.Declaration → Type 0) (X : Constructor → Option Typ → Type 0) (origins : (d : Declaration) (e : rules.Declaration) → D d e → option_map path_of d.defines ≡ origin_of (type_of e)) where
  -- the record type of what a name stands for
  type_alike : (k : CodeKind) {w : What} {f : Referent} → WhatAs R D X w f → kind_named f ≡ kind_of k → record_by_kind k w ≡ record_of_label f
  type_alike k {w} (of_value e h) is = no_label k w (λ l. let s = is ∙ l in absurd (cc))
  type_alike k {w} (of_constructor e h c) is = no_label k w (λ l. let s = is ∙ l in absurd (cc))
  type_alike k {w} (of_exception e h) is = no_label k w (λ l. let s = is ∙ l in absurd (cc))
  type_alike k {w} (of_type e h) is = no_label k w (λ l. let s = is ∙ l in absurd (cc))
  type_alike k {w} (of_module e h) is = no_label k w (λ l. let s = is ∙ l in absurd (cc))
  type_alike k {w} (of_module_type e h) is = no_label k w (λ l. let s = is ∙ l in absurd (cc))
  type_alike kind.Label (of_label {d = d} {e = x} e h l) is = ap (record_by_kind kind.Label) e ∙ origins d.value x h
  type_alike kind.Value (of_label e h l) is = absurd (cc)
  type_alike kind.Constructor (of_label e h l) is = absurd (cc)
  type_alike kind.TypeName (of_label e h l) is = absurd (cc)
  type_alike kind.Module (of_label e h l) is = absurd (cc)
  type_alike kind.ModuleType (of_label e h l) is = absurd (cc)

  -- an entry has the same name and record type
  record LabelAlike (e : Entry) (f : Named) : Type 0 where
    name : str_bytes e.name ≡ f.name
    record_type : code.record_of e ≡ record_of_label f.stands_for

  label_alike : {e : Entry} {f : Named} → EntryAs R D X e f → LabelAlike e f
  label_alike (entry_as {e = e} name k p w) = record { name = sym name; record_type = type_alike e.kind w k }

  chosen : {e : Entry} {f : Named} {x : Option Entry} {y : Option Named} (a b : Bool) → a ≡ b → EntryAs R D X e f → FoundAs R D X x y → FoundAs R D X (if a then Some e else x) (if b then Some f else y)
  chosen true true p h r = both h
  chosen true false p h r = absurd (cc)
  chosen false true p h r = absurd (cc)
  chosen false false p h r = r

  -- the newest entries of which tests hold, where they hold of the same entries
  by_tests : (p : Entry → Bool) (q : Named → Bool) → ((e : Entry) (f : Named) → EntryAs R D X e f → p e ≡ q f) → {es : List Entry} {fs : Environment} → EnvAs R D X es fs → FoundAs R D X (newest_by p es) (newest_by q fs)
  by_tests p q alike no_names = neither
  by_tests p q alike (newest {e = e} {f = f} h hs) = chosen (p e) (q f) (alike e f h) h (by_tests p q alike hs)

  found_alike : {x : Option Entry} {y : Option Named} → FoundAs R D X x y → ComesTo R D X (found x) (found y)
  found_alike neither = to_nothing
  found_alike (both h) = to_entry h

  some_alike : {x : Option Entry} {y : Option Named} → FoundAs R D X x y → is_some x ≡ is_some y
  some_alike neither = refl
  some_alike (both h) = refl

  -- a record type has a label in both scopes or in none
  has_alike : (o : Path) (n : Name) {x : ScopeOf Entry} {y : ScopeOf Named} → ScopeAs R D X x y → has_label labelled o n x ≡ has_label label_entries o n y
  has_alike o n (both_known h) = some_alike (by_tests (is_label_of labelled o n) (is_label_of label_entries o n) (λ e f k. let l = label_alike k in (λ i. same_name n (l.name i) && is_of_type o (l.record_type i))) h)
  has_alike o n both_unknown = refl
  has_alike o n both_absent = refl

  -- scopes of labels, one by one
  abbrev EachAs : (Written → ScopeOf Entry) → (Written → ScopeOf Named) → Type 0
  EachAs s z = (l : Written) → ScopeAs R D X (s l) (z l)

  each_alike : (s : Written → ScopeOf Entry) (z : Written → ScopeOf Named) → EachAs s z → (o : Path) (ls : List Written) → has_each labelled s o ls ≡ has_each label_entries z o ls
  each_alike s z h o [] = refl
  each_alike s z h o (l ∷ ls) = (let p = has_alike o l.name (h l) in let q = each_alike s z h o ls in (λ i. p i && q i))

  belongs_alike : (s : Written → ScopeOf Entry) (z : Written → ScopeOf Named) → EachAs s z → (all : List Written) (o : Option Path) → belongs_to labelled s all o ≡ belongs_to label_entries z all o
  belongs_alike s z h all None = refl
  belongs_alike s z h all (Some o) = each_alike s z h o all

  -- the newest label of a record type that has all labels
  newest_label_alike : (s : Written → ScopeOf Entry) (z : Written → ScopeOf Named) → EachAs s z → (all : List Written) (n : Option Name) {x : ScopeOf Entry} {y : ScopeOf Named} → ScopeAs R D X x y →
      ComesTo R D X (newest_label labelled s all n x) (newest_label label_entries z all n y)
  newest_label_alike s z h all n (both_known k) =
      found_alike (by_tests (λ e. has_name n (str_bytes e.name) && belongs_to labelled s all (code.record_of e)) (λ f. has_name n f.name && belongs_to label_entries z all (record_of_label f.stands_for))
      (λ e f m. let l = label_alike m in (λ i. has_name n (l.name i) && belongs_to labelled s all (l.record_type i)) ∙ ap (λ b. has_name n f.name && b) (belongs_alike s z h all (record_of_label f.stands_for))) k)
  newest_label_alike s z h all n both_unknown = to_hole
  newest_label_alike s z h all n both_absent = to_nothing

  scopes_alike : (p : ScopeOf Entry → Bool) (q : ScopeOf Named → Bool) → ((x : ScopeOf Entry) (y : ScopeOf Named) → ScopeAs R D X x y → p x ≡ q y) → (s : Written → ScopeOf Entry) (z : Written → ScopeOf Named) → EachAs s z → (ls : List Written) → each_scope p s ls ≡ each_scope q z ls
  scopes_alike p q alike s z h [] = refl
  scopes_alike p q alike s z h (l ∷ ls) = (let a = alike (s l) (z l) (h l) in let b = scopes_alike p q alike s z h ls in (λ i. a i && b i))

  there_alike : (x : ScopeOf Entry) (y : ScopeOf Named) → ScopeAs R D X x y → is_there x ≡ is_there y
  there_alike x y (both_known h) = refl
  there_alike x y both_unknown = refl
  there_alike x y both_absent = refl

  known_alike : (x : ScopeOf Entry) (y : ScopeOf Named) → ScopeAs R D X x y → is_known x ≡ is_known y
  known_alike x y (both_known h) = refl
  known_alike x y both_unknown = refl
  known_alike x y both_absent = refl

  first_alike : (s : Written → ScopeOf Entry) (z : Written → ScopeOf Named) → EachAs s z → (all ls : List Written) {es : List Entry} {fs : Environment} → EnvAs R D X es fs → ComesTo R D X (first_label labelled es s all ls) (first_label label_entries fs z all ls)
  first_alike s z h all [] k = newest_label_alike s z h all None (both_known k)
  first_alike s z h all (l ∷ ls) k = newest_label_alike s z h all (Some l.name) (h l)

  -- labels find alike
  pub record_alike : (ls : List Written) {es : List Entry} {fs : Environment} → EnvAs R D X es fs → ComesTo R D X (record_by labelled es (code.scope_for es ls) ls) (record_of fs ls)
  record_alike ls {es} {fs} h =
      by (each_scope is_there s ls) (each_scope is_there z ls) (scopes_alike is_there is_there there_alike s z each ls) (each_scope is_known s ls) (each_scope is_known z ls) (scopes_alike is_known is_known known_alike s z each ls)
    where
      s : Written → ScopeOf Entry
      s = code.scope_for es ls

      z : Written → ScopeOf Named
      z = rule.scope_for fs ls

      each : EachAs s z
      each l = scope_alike R D X (path_for ls l) es fs h

      by : (a b : Bool) → a ≡ b → (p q : Bool) → p ≡ q → ComesTo R D X (if a then (if p then first_label labelled es s ls ls else a_hole) else nothing) (if b then (if q then first_label label_entries fs z ls ls else a_hole) else nothing)
      by true true e true true f = first_alike s z each ls ls h
      by true true e false false f = to_hole
      by true true e true false f = absurd (cc)
      by true true e false true f = absurd (cc)
      by false false e p q f = to_nothing
      by true false e p q f = absurd (cc)
      by false true e p q f = absurd (cc)
