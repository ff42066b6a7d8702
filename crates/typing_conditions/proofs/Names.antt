-- Where a path finds an entry that stands for a scheme, the definitions find that scheme.
use Rattle.std.proofs.Common.{◌≡◌, ℕ, List, Option, Some, None, refl, sym, ◌∙◌, ap, subst}
use Rattle.std.specs.declared.rc.Rc.{Rc}
use Rattle.std.specs.declared.alloc.Global.{Global}
use Rattle.type_model.specs.Types.{Typ}
use Rattle.type_model.specs.Schemes.{Scheme}
use Rattle.type_terms.specs.declared.types.NodeRef.{NodeRef}
use Rattle.signature_model.specs.Declarations as rules
use Rattle.signature_model.specs.Declarations.{Name}
use Rattle.signature_model.specs.Entries.{Environment, value_kind}
use Rattle.signature_model.specs.Entries.{Entry as Named, Referent}
use Rattle.signature_model.specs.Lookups.{FoundAmong, an_entry, lookup, lookup_by}
use Rattle.typing_model.specs.Names.{referent_of, then_by, scheme_in}
use Rattle.env_table.specs.declared.entries.Constructor.{Constructor}
use Rattle.env_table.specs.declared.entries.Declaration.{Declaration}
use Rattle.env_table.specs.declared.entries.Entry.{Entry}
use Rattle.env_table.specs.declared.entries.Sig.{Sig}
use Rattle.env_table.specs.declared.entries.Template.{Template}
use Rattle.env_table.specs.declared.entries.What.{What}
use Rattle.env_table.specs.declared.entries.What as whats
use Rattle.env_table.specs.declared.entries.What.TheVariants as what
use Rattle.env_table.specs.Views.{is_named, inside}
use Rattle.typing_conditions.specs.Environments.{WhatAs, of_value, of_constructor, of_exception, of_label, of_type, of_module, of_module_type, EntryAs, entry_as, EnvAs}
use Rattle.typing_conditions.proofs.Environments.{ComesTo, to_entry, to_hole, to_nothing, lookup_alike}

-- the root of a value's scheme
abbrev root_of : What → Option NodeRef
root_of (what.Scheme root) = Some root
root_of _ = None

root_here : (root : NodeRef) → root_of (what.Scheme root) ≡ Some root
unfolding whats.out-What denote.Hole.Carrier.out
root_here root = refl

constructor_none : (d : Rc Declaration Global) (k : ℕ) → root_of (what.Constructor d k) ≡ None
unfolding whats.out-What denote.Hole.Carrier.out
constructor_none d k = refl

exception_none : (c : Rc Constructor Global) → root_of (what.Exception c) ≡ None
unfolding whats.out-What denote.Hole.Carrier.out
exception_none c = refl

label_none : (d : Rc Declaration Global) (k : ℕ) → root_of (what.Label d k) ≡ None
unfolding whats.out-What denote.Hole.Carrier.out
label_none d k = refl

type_none : (d : Rc Declaration Global) → root_of (what.Type d) ≡ None
unfolding whats.out-What denote.Hole.Carrier.out
type_none d = refl

module_none : (s : Rc Sig Global) → root_of (what.Module s) ≡ None
unfolding whats.out-What denote.Hole.Carrier.out
module_none s = refl

template_none : (t : Rc Template Global) → root_of (what.ModuleType t) ≡ None
unfolding whats.out-What denote.Hole.Carrier.out
template_none t = refl

module _ (R : ℕ → Scheme → Type 0) (D : Declaration → rules.Declaration → Type 0) (X : Constructor → Option Typ → Type 0) (root : NodeRef) where
  -- what the definitions have for an entry that stands for a scheme
  pub record HasScheme (f : Referent) : Type 0 where
    pub scheme : Scheme
    pub is : scheme_in f ≡ Some scheme
    pub holds : R root.0 scheme

  other_root : (w v : What) → w ≡ what.Scheme root → w ≡ v → root_of v ≡ None → ⊥
  other_root w v e f none = let g : Some root ≡ None = sym (root_here root) ∙ ap root_of (sym e ∙ f) ∙ none in cc

  what_scheme : {w : What} {f : Referent} → w ≡ what.Scheme root → WhatAs R D X w f → HasScheme f
  what_scheme {w} is (of_value {n = n} {sc = sc} e h) =
      let g : Some n ≡ Some root = sym (root_here n) ∙ ap root_of (sym e ∙ is) ∙ root_here root in
      let s : n ≡ root = cc in
      record { scheme = sc; is = refl; holds = subst (λ (m : NodeRef). R m.0 sc) s h }
  what_scheme {w} is (of_constructor {d = d} {place = k} e h c) = absurd (other_root w (what.Constructor d k) is e (constructor_none d k))
  what_scheme {w} is (of_exception {c = c} e h) = absurd (other_root w (what.Exception c) is e (exception_none c))
  what_scheme {w} is (of_label {d = d} {place = k} e h l) = absurd (other_root w (what.Label d k) is e (label_none d k))
  what_scheme {w} is (of_type {d = d} e h) = absurd (other_root w (what.Type d) is e (type_none d))
  what_scheme {w} is (of_module {s = s} e h) = absurd (other_root w (what.Module s) is e (module_none s))
  what_scheme {w} is (of_module_type {t = t} e h) = absurd (other_root w (what.ModuleType t) is e (template_none t))

  entry_scheme : {e : Entry} {f : Named} → e.what ≡ what.Scheme root → EntryAs R D X e f → HasScheme f.stands_for
  entry_scheme is (entry_as n k p w) = what_scheme is w

  -- and what a path finds
  pub record FindsScheme (found : FoundAmong Named) : Type 0 where
    pub scheme : Scheme
    pub is : then_by (referent_of found) scheme_in ≡ Some scheme
    pub holds : R root.0 scheme

  found_scheme : {x : FoundAmong Entry} {y : FoundAmong Named} (e : Entry) → x ≡ an_entry e → e.what ≡ what.Scheme root → ComesTo R D X x y → FindsScheme y
  found_scheme e f is (to_entry {e = d} h) = let s : d ≡ e = cc in let r = entry_scheme (ap (λ (z : Entry). z.what) s ∙ is) h in record { scheme = r.scheme; is = r.is; holds = r.holds }
  found_scheme e f is to_hole = absurd (cc)
  found_scheme e f is to_nothing = absurd (cc)

  -- so the definitions find the scheme of the root that the code finds
  pub finds_scheme : (ms : List Name) (x : Name) (e : Entry) {es : List Entry} {fs : Environment} → lookup_by is_named inside es ms value_kind x ≡ an_entry e → e.what ≡ what.Scheme root → EnvAs R D X es fs → FindsScheme (lookup fs ms value_kind x)
  finds_scheme ms x e f is h = found_scheme e f is (lookup_alike R D X ms value_kind x h)
