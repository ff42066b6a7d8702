-- Names of the code against names of the definitions: lookups commute, what holds of the schemes carries over, and which variables are free.
use Rattle.std.proofs.Common.{◌≡◌, ℕ, Bool, true, false, ◌||◌, ◌&&◌, List, [], ◌∷◌, ◌++◌, reverse, Option, Some, None, refl, sym, ◌∙◌, ap, subst, inl, inr, if◌then◌else◌}
use Rattle.std.proofs.lemmas.Grind.{reverse_onto}
use Rattle.std.specs.Str.{bytes_eq}
use Rattle.type_model.specs.Types.{Typ}
use Rattle.type_model.specs.Schemes.{Scheme, free_in_scheme}
use Rattle.type_model.proofs.Applying.{or_cases}
use Rattle.signature_model.specs.Declarations as rules
use Rattle.signature_model.specs.Declarations.{Name}
use Rattle.signature_model.specs.Signatures.{Signature, Components, Template, Meaning}
use Rattle.signature_model.specs.Signatures.{Meaning as meaning, Components as components}
use Rattle.signature_model.specs.Entries.{Kind, Referent, Environment, free_in, free_in_signature, free_in_components, free_in_meaning, free_in_referent, entries_in, entries_of, entries_of_shape}
use Rattle.signature_model.specs.Entries.{Entry as Named}
use Rattle.signature_model.specs.Lookups.{same_kind, FoundAmong, an_entry, a_hole, nothing, ScopeOf, known, unknown_scope, no_scope, newest_by, found, found_in, through, scope_by, lookup_by, lookup, scope_behind}
use Rattle.signature_model.specs.Lookups as lookups
use Rattle.signature_model.specs.Entries.{module_kind}
use Rattle.typing_laws.proofs.Bools.{no_yes}
use Rattle.env_table.specs.declared.entries.Constructor.{Constructor}
use Rattle.env_table.specs.declared.entries.Declaration.{Declaration}
use Rattle.env_table.specs.declared.entries.What.{What, out-What}
use Rattle.env_table.specs.declared.entries.What as whats
use Rattle.env_table.specs.declared.entries.Entry.{Entry}
use Rattle.env_table.specs.declared.entries.Sig.{Sig}
use Rattle.env_table.specs.declared.entries.Sig as sigs
use Rattle.env_table.specs.declared.entries.Template.{Template as CodeTemplate}
use Rattle.env_table.specs.Views.{is_named, inside, what_opened, inside_sig}
use Rattle.typing_conditions.specs.Environments.{WhatAs, of_value, of_constructor, of_exception, of_label, of_type, of_module, of_module_type, EntryAs, entry_as, EnvAs, no_names, newest, SigAs, of_hole, of_structure, of_functor, TemplateAs, of_template}

-- what holds of schemes, declarations and exceptions carries over
module _ (R S : ℕ → Scheme → Type 0) (D D' : Declaration → rules.Declaration → Type 0) (X X' : Constructor → Option Typ → Type 0)
    (on_scheme : (r : ℕ) (sc : Scheme) → R r sc → S r sc) (on_declaration : (d : Declaration) (e : rules.Declaration) → D d e → D' d e) (on_exception : (c : Constructor) (o : Option Typ) → X c o → X' c o) where
  mutual
    what_map : {w : What} {f : Referent} → WhatAs R D X w f → WhatAs S D' X' w f
    what_map (of_value {n = n} {sc = sc} e h) = of_value e (on_scheme n.0 sc h)
    what_map (of_constructor {d = d} {e = x} e h k) = of_constructor e (on_declaration d.value x h) k
    what_map (of_exception {c = c} {o = o} e h) = of_exception e (on_exception c.value o h)
    what_map (of_label {d = d} {e = x} e h k) = of_label e (on_declaration d.value x h) k
    what_map (of_type {d = d} {e = x} e h) = of_type e (on_declaration d.value x h)
    what_map (of_module e h) = of_module e (sig_map h)
    what_map (of_module_type e h) = of_module_type e (template_map h)

    entry_map : {e : Entry} {f : Named} → EntryAs R D X e f → EntryAs S D' X' e f
    entry_map (entry_as n k p w) = entry_as n k p (what_map w)

    pub env_map : {es : List Entry} {fs : Environment} → EnvAs R D X es fs → EnvAs S D' X' es fs
    env_map no_names = no_names
    env_map (newest h hs) = newest (entry_map h) (env_map hs)

    sig_map : {s : Sig} {T : Signature} → SigAs R D X s T → SigAs S D' X' s T
    sig_map (of_hole e) = of_hole e
    sig_map (of_structure e h) = of_structure e (env_map h)
    sig_map (of_functor e p b) = of_functor e (template_map p) (template_map b)

    template_map : {t : CodeTemplate} {u : Template} → TemplateAs R D X t u → TemplateAs S D' X' t u
    template_map (of_template m h) = of_template m (sig_map h)

module _ (R : ℕ → Scheme → Type 0) (D : Declaration → rules.Declaration → Type 0) (X : Constructor → Option Typ → Type 0) where
  -- an entry has the same name and kind
  named_alike : (k : Kind) (n : Name) {e : Entry} {f : Named} → EntryAs R D X e f → is_named k n e ≡ lookups.is_named k n f
  named_alike k n (entry_as {e = e} {f = f} name kind at w) = (let p = sym kind in let q = sym name in (λ i. same_kind k (p i) && bytes_eq n (q i)))

  -- what an optional entry stands for
  pub data FoundAs : Option Entry → Option Named → Type 0 where
    neither : FoundAs None None
    both : {e : Entry} {f : Named} → EntryAs R D X e f → FoundAs (Some e) (Some f)

  chosen : {e : Entry} {f : Named} {x : Option Entry} {y : Option Named} (a b : Bool) → a ≡ b → EntryAs R D X e f → FoundAs x y → FoundAs (if a then Some e else x) (if b then Some f else y)
  chosen true true p h r = both h
  chosen true false p h r = absurd (cc)
  chosen false true p h r = absurd (cc)
  chosen false false p h r = r

  -- the newest entries of a name are alike
  pub newest_alike : (k : Kind) (n : Name) {es : List Entry} {fs : Environment} → EnvAs R D X es fs → FoundAs (newest_by (is_named k n) es) (newest_by (lookups.is_named k n) fs)
  newest_alike k n no_names = neither
  newest_alike k n (newest {e = e} {f = f} h hs) = chosen (is_named k n e) (lookups.is_named k n f) (named_alike k n h) h (newest_alike k n hs)

  -- scopes, the names of which stand for each other
  pub data ScopeAs : ScopeOf Entry → ScopeOf Named → Type 0 where
    both_known : {es : List Entry} {fs : Environment} → EnvAs R D X es fs → ScopeAs (known es) (known fs)
    both_unknown : ScopeAs unknown_scope unknown_scope
    both_absent : ScopeAs no_scope no_scope

  -- entries after others
  pub env_append : {es es' : List Entry} {fs fs' : Environment} → EnvAs R D X es fs → EnvAs R D X es' fs' → EnvAs R D X (es ++ es') (fs ++ fs')
  env_append no_names k = k
  env_append (newest h hs) k = newest h (env_append hs k)

  -- entries in the other order
  pub env_reverse : {es : List Entry} {fs : Environment} → EnvAs R D X es fs → EnvAs R D X (reverse es) (reverse fs)
  env_reverse no_names = no_names
  env_reverse (newest {e = e} {f = f} {es = es} {fs = fs} h hs) =
      subst (λ z. EnvAs R D X z (reverse (f ∷ fs))) (sym (reverse_onto es e []))
      (subst (λ z. EnvAs R D X (reverse es ++ e ∷ []) z) (sym (reverse_onto fs f [])) (env_append (env_reverse hs) (newest h no_names)))

  scope_is : (x : ScopeOf Entry) (y : ScopeOf Named) (x' : ScopeOf Entry) → x ≡ x' → ScopeAs x' y → ScopeAs x y
  scope_is x y x' e h = subst (λ z. ScopeAs z y) (sym e) h

  sig_inside : {s : Sig} {T : Signature} → SigAs R D X s T → ScopeAs (inside_sig s) (lookups.inside_signature T)
  unfolding sigs.out-Sig denote.Hole.Carrier.out
  sig_inside (of_hole e) = scope_is _ _ _ (ap inside_sig e) both_unknown
  sig_inside (of_structure e h) = scope_is _ _ _ (ap inside_sig e) (both_known (env_reverse h))
  sig_inside (of_functor e p b) = scope_is _ _ _ (ap inside_sig e) (both_known no_names)

  what_inside : {w : What} {f : Referent} → WhatAs R D X w f → ScopeAs (what_opened (out-What w)) (lookups.inside_referent f)
  unfolding whats.out-What denote.Hole.Carrier.out
  what_inside (of_value e h) = scope_is _ _ _ (ap (λ w. what_opened (out-What w)) e) both_absent
  what_inside (of_constructor e h k) = scope_is _ _ _ (ap (λ w. what_opened (out-What w)) e) both_absent
  what_inside (of_exception e h) = scope_is _ _ _ (ap (λ w. what_opened (out-What w)) e) both_absent
  what_inside (of_label e h k) = scope_is _ _ _ (ap (λ w. what_opened (out-What w)) e) both_absent
  what_inside (of_type e h) = scope_is _ _ _ (ap (λ w. what_opened (out-What w)) e) both_absent
  what_inside (of_module {s = s} e h) = scope_is _ _ _ (ap (λ w. what_opened (out-What w)) e) (sig_inside h)
  what_inside (of_module_type e h) = scope_is _ _ _ (ap (λ w. what_opened (out-What w)) e) both_absent

  -- the scopes inside two entries are alike
  pub inside_alike : {e : Entry} {f : Named} → EntryAs R D X e f → ScopeAs (inside e) (lookups.inside f)
  inside_alike (entry_as n k p w) = what_inside w

  -- the scopes after a path, for all names from which it may start
  abbrev Onward : List Name → Type 0
  Onward ms = (es : List Entry) (fs : Environment) → EnvAs R D X es fs → ScopeAs (scope_by is_named inside es ms) (scope_behind fs ms)

  through_alike : (ms : List Name) (x : ScopeOf Entry) (y : ScopeOf Named) → ScopeAs x y → Onward ms → ScopeAs (through x (λ inner. scope_by is_named inside inner ms)) (through y (λ inner. scope_behind inner ms))
  through_alike ms _ _ (both_known {es = es} {fs = fs} k) go = go es fs k
  through_alike ms _ _ both_unknown go = both_unknown
  through_alike ms _ _ both_absent go = both_absent

  step_alike : (ms : List Name) (a : Option Entry) (b : Option Named) → FoundAs a b → Onward ms →
      ScopeAs (elim a [ None ↦ no_scope | Some e ↦ through (inside e) (λ inner. scope_by is_named inside inner ms) ]) (elim b [ None ↦ no_scope | Some f ↦ through (lookups.inside f) (λ inner. scope_behind inner ms) ])
  step_alike ms _ _ neither go = both_absent
  step_alike ms _ _ (both {e = e} {f = f} k) go = through_alike ms (inside e) (lookups.inside f) (inside_alike k) go

  -- and so are those that a path names
  pub scope_alike : (ms : List Name) (es : List Entry) (fs : Environment) → EnvAs R D X es fs → ScopeAs (scope_by is_named inside es ms) (scope_behind fs ms)
  scope_alike [] es fs h = both_known h
  scope_alike (m ∷ ms) es fs h = step_alike ms (newest_by (is_named module_kind m) es) (newest_by (lookups.is_named module_kind m) fs) (newest_alike module_kind m h) (scope_alike ms)

  -- what a path of names finds
  pub data ComesTo : FoundAmong Entry → FoundAmong Named → Type 0 where
    to_entry : {e : Entry} {f : Named} → EntryAs R D X e f → ComesTo (an_entry e) (an_entry f)
    to_hole : ComesTo a_hole a_hole
    to_nothing : ComesTo nothing nothing

  found_alike : {a : Option Entry} {b : Option Named} → FoundAs a b → ComesTo (found a) (found b)
  found_alike neither = to_nothing
  found_alike (both k) = to_entry k

  in_scope_alike : (k : Kind) (n : Name) {x : ScopeOf Entry} {y : ScopeOf Named} → ScopeAs x y → ComesTo (found_in (is_named k n) x) (found_in (lookups.is_named k n) y)
  in_scope_alike k n (both_known h) = found_alike (newest_alike k n h)
  in_scope_alike k n both_unknown = to_hole
  in_scope_alike k n both_absent = to_nothing

  -- a path of names finds alike
  pub lookup_alike : (ms : List Name) (k : Kind) (n : Name) {es : List Entry} {fs : Environment} → EnvAs R D X es fs → ComesTo (lookup_by is_named inside es ms k n) (lookup fs ms k n)
  lookup_alike ms k n {es} {fs} h = in_scope_alike k n (scope_alike ms es fs h)

-- among the entries of components as among the components
or_none : (b : Bool) → (b || false) ≡ b
or_none true = refl
or_none false = refl

free_append : (w : ℕ) (xs ys : Environment) → free_in w (xs ++ ys) ≡ (free_in w xs || free_in w ys)
free_append w [] ys = refl
free_append w (x ∷ xs) ys = ap (λ b. free_in_referent w x.stands_for || b) (free_append w xs ys) ∙ or_assoc (free_in_referent w x.stands_for) (free_in w xs) (free_in w ys)
  where
    or_assoc : (a b c : Bool) → (a || (b || c)) ≡ ((a || b) || c)
    or_assoc true b c = refl
    or_assoc false b c = refl

constructors_free : (w : ℕ) (d : rules.Declaration) (ks : List rules.Constructor) → free_in w (entries_of_shape d (rules.Variant ks)) ≡ false
constructors_free w d [] = refl
constructors_free w d (k ∷ ks) = constructors_free w d ks

labels_free : (w : ℕ) (d : rules.Declaration) (ls : List rules.Label) → free_in w (entries_of_shape d (rules.Labels ls)) ≡ false
labels_free w d [] = refl
labels_free w d (l ∷ ls) = labels_free w d ls

shape_free : (w : ℕ) (d : rules.Declaration) (s : rules.Shape) → free_in w (entries_of_shape d s) ≡ false
shape_free w d rules.Opaque = refl
shape_free w d (rules.Variant ks) = constructors_free w d ks
shape_free w d (rules.Labels ls) = labels_free w d ls

meaning_entries : (w : ℕ) (n : Name) (at : rules.Place) (m : Meaning) → free_in w (entries_of n at m) ≡ free_in_meaning w m
meaning_entries w n at (meaning.Value s) = or_none (free_in_scheme w s)
meaning_entries w n at (meaning.TypeName d) = shape_free w d d.shape
meaning_entries w n at (meaning.Exception o) = refl
meaning_entries w n at (meaning.Module s) = or_none (free_in_signature w s)
meaning_entries w n at (meaning.ModuleType made s) = refl

-- a variable is free in components where it is free in them as entries
pub free_as_entries : (w : ℕ) (cs : Components) → free_in_components w cs ≡ free_in w (entries_in cs)
free_as_entries w components.Done = refl
free_as_entries w (components.Component n at m cs) =
    (let p = sym (meaning_entries w n at m) in let q = free_as_entries w cs in (λ i. p i || q i)) ∙ sym (free_append w (entries_of n at m) (entries_in cs))

module _ (R : ℕ → Scheme → Type 0) (D : Declaration → rules.Declaration → Type 0) (X : Constructor → Option Typ → Type 0) where
  -- a variable that is free in an environment is free in a scheme of it
  module _ (w : ℕ) (P : Type 0) (on_scheme : (r : ℕ) (sc : Scheme) → R r sc → free_in_scheme w sc ≡ true → P) where
    mutual
      what_free : {v : What} {f : Referent} → WhatAs R D X v f → free_in_referent w f ≡ true → P
      what_free (of_value {n = n} {sc = sc} e h) t = on_scheme n.0 sc h t
      what_free (of_constructor e h k) t = absurd (no_yes t)
      what_free (of_exception e h) t = absurd (no_yes t)
      what_free (of_label e h k) t = absurd (no_yes t)
      what_free (of_type e h) t = absurd (no_yes t)
      what_free (of_module e h) t = sig_free h t
      what_free (of_module_type e h) t = absurd (no_yes t)

      entry_free : {e : Entry} {f : Named} → EntryAs R D X e f → free_in_referent w f.stands_for ≡ true → P
      entry_free (entry_as n k p h) t = what_free h t

      -- what follows from being free in a scheme follows from being free in the environment
      pub env_free : {es : List Entry} {fs : Environment} → EnvAs R D X es fs → free_in w fs ≡ true → P
      env_free no_names t = absurd (no_yes t)
      env_free (newest {f = f} {fs = fs} h hs) t = elim (or_cases (free_in_referent w f.stands_for) (free_in w fs) t) [ inl i ↦ entry_free h i | inr i ↦ env_free hs i ]

      sig_free : {s : Sig} {T : Signature} → SigAs R D X s T → free_in_signature w T ≡ true → P
      sig_free (of_hole e) t = absurd (no_yes t)
      sig_free (of_structure {cs = cs} e h) t = env_free h (sym (free_as_entries w cs) ∙ t)
      sig_free (of_functor {P = A} {B = B} e p b) t = elim (or_cases (free_in_signature w A) (free_in_signature w B) t) [ inl i ↦ template_free p i | inr i ↦ template_free b i ]

      template_free : {t : CodeTemplate} {u : Template} → TemplateAs R D X t u → free_in_signature w u.signature ≡ true → P
      template_free (of_template m h) t = sig_free h t
