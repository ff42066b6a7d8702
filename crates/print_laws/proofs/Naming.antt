-- Where the names of the code stand for those of the definitions, an origin has the same names in both.
use Rattle.std.proofs.Common.{◌≡◌, ◌<◌, ◌⊎◌, ℕ, suc, ◌&&◌, List, [], ◌∷◌, ◌++◌, Option, Some, None, refl, sym, ◌∙◌, ap, subst, if◌then◌else◌}
use Rattle.std.specs.Prelude.{option_map}
use Rattle.std.specs.Str.{bytes_eq}
use Rattle.type_terms.specs.Views.{path_of}
use Rattle.type_terms.specs.declared.types.Origin.{Origin}
use Rattle.type_model.specs.Types.{Path, Typ}
use Rattle.type_model.specs.Schemes.{Scheme}
use Rattle.signature_model.specs.Declarations as rules
use Rattle.signature_model.specs.Declarations.{Name}
use Rattle.signature_model.specs.Entries.{Kind, Referent, Environment, type_kind, module_kind}
use Rattle.signature_model.specs.Entries.{Entry as Named}
use Rattle.signature_model.specs.Lookups.{same_kind, FoundAmong, an_entry, ScopeOf}
use Rattle.signature_model.specs.Lookups as lookups
use Rattle.type_print_model.specs.Paths.{NamePath, Reaches, age, age_in, ages, GoesBefore, IsNewer, length_of, IsNameOf, shown, hidden, own_origin, origin_made}
use Rattle.type_print_model.specs.Paths as model
use Rattle.type_nodes.specs.Nodes.{Node}
use Rattle.type_nodes.specs.Readings.{Types}
use Rattle.env_table.specs.declared.entries.Constructor.{Constructor}
use Rattle.env_table.specs.declared.entries.What.{What, out-What}
use Rattle.env_table.specs.declared.entries.What as whats
use Rattle.env_table.specs.declared.entries.Entry.{Entry}
use Rattle.env_table.specs.Views.{is_named, made_by, makes}
use Rattle.type_print.specs.Paths.{naming}
use Rattle.typing_conditions.specs.Environments.{WhatAs, of_value, of_constructor, of_exception, of_label, of_type, of_module, of_module_type, EntryAs, entry_as, EnvAs, no_names, newest}
use Rattle.typing_conditions.proofs.Environments.{ScopeAs, both_known, both_unknown, both_absent, scope_alike, ComesTo, to_entry, to_hole, to_nothing, lookup_alike}
use Rattle.typing_conditions.specs.Declared.{OriginAs, DeclaredAs}

-- an origin of the code that is one of the definitions is made alike
origin_alike : (o : Option Origin) (d : rules.Definition) → OriginAs o d → option_map path_of o ≡ own_origin d
origin_alike None (rules.Own p) h = absurd h
origin_alike None (rules.Is t) h = refl
origin_alike (Some q) (rules.Own p) h = ap (λ x. Some x) h
origin_alike (Some q) (rules.Is t) h = absurd h

module _ {R : ℕ → Scheme → Type 0} {nodes : List Node} {C : List ℕ} {N : Types} {X : Constructor → Option Typ → Type 0} where
  -- what stands for each other makes the same origin
  what_makes : {w : What} {f : Referent} → WhatAs R (DeclaredAs nodes C N) X w f → made_by (out-What w) ≡ origin_made f
  unfolding whats.out-What denote.Hole.Carrier.out
  what_makes (of_value e h) = ap (λ w. made_by (out-What w)) e
  what_makes (of_constructor e h k) = ap (λ w. made_by (out-What w)) e
  what_makes (of_exception e h) = ap (λ w. made_by (out-What w)) e
  what_makes (of_label e h k) = ap (λ w. made_by (out-What w)) e
  what_makes (of_type {d = d} {e = x} e h) = ap (λ w. made_by (out-What w)) e ∙ origin_alike d.value.origin x.definition h.origin
  what_makes (of_module e h) = ap (λ w. made_by (out-What w)) e
  what_makes (of_module_type e h) = ap (λ w. made_by (out-What w)) e

  entry_makes : {e : Entry} {f : Named} → EntryAs R (DeclaredAs nodes C N) X e f → makes e ≡ origin_made f.stands_for
  entry_makes (entry_as n k p w) = what_makes w

  -- an entry has the same name and kind
  named_so : (k : Kind) (n : Name) {e : Entry} {f : Named} → EntryAs R (DeclaredAs nodes C N) X e f → is_named k n e ≡ lookups.is_named k n f
  named_so k n (entry_as {e = e} {f = f} name kind at w) = (let p = sym kind in let q = sym name in (λ i. same_kind k (p i) && bytes_eq n (q i)))

  -- the newest of a name is as old
  age_alike : (k : Kind) (n : Name) {es : List Entry} {fs : Environment} → EnvAs R (DeclaredAs nodes C N) X es fs → age (is_named k n) es ≡ age (lookups.is_named k n) fs
  age_alike k n no_names = refl
  age_alike k n (newest h hs) = (let p = named_so k n h in let q = age_alike k n hs in (λ i. if p i then 0 else suc (q i)))

  age_in_alike : (k : Kind) (n : Name) {x : ScopeOf Entry} {y : ScopeOf Named} → ScopeAs R (DeclaredAs nodes C N) X x y → age_in (is_named k n) x ≡ age_in (lookups.is_named k n) y
  age_in_alike k n (both_known h) = age_alike k n h
  age_in_alike k n both_unknown = refl
  age_in_alike k n both_absent = refl

  -- and so is all that a path names
  ages_alike : {es : List Entry} {fs : Environment} → EnvAs R (DeclaredAs nodes C N) X es fs → (outer ms : List Name) (n : Name) → ages naming es outer ms n ≡ ages model.naming fs outer ms n
  ages_alike {es = es} {fs = fs} h outer [] n = ap (λ a. a ∷ []) (age_in_alike type_kind n (scope_alike R (DeclaredAs nodes C N) X outer es fs h))
  ages_alike {es = es} {fs = fs} h outer (m ∷ ms) n =
      (let p = age_in_alike module_kind m (scope_alike R (DeclaredAs nodes C N) X outer es fs h) in let q = ages_alike h (outer ++ m ∷ []) ms n in (λ i. p i ∷ q i))

  -- so one path goes before another in both
  before_alike : {es : List Entry} {fs : Environment} → EnvAs R (DeclaredAs nodes C N) X es fs → (p q : NamePath) → GoesBefore naming es p q ≡ GoesBefore model.naming fs p q
  before_alike h p q = (let x = ages_alike h [] p.modules p.name in let y = ages_alike h [] q.modules q.name in (λ i. (length_of p < length_of q) ⊎ ((length_of p ≡ length_of q) × IsNewer (x i) (y i))))

  -- what a path finds in the definitions, where it finds an entry in the code
  found_so : {x : FoundAmong Entry} {y : FoundAmong Named} (e : Entry) → x ≡ an_entry e → ComesTo R (DeclaredAs nodes C N) X x y → (f : Named) × (y ≡ an_entry f) × EntryAs R (DeclaredAs nodes C N) X e f
  found_so e is (to_entry {e = d} {f = f} h) = let s : d ≡ e = cc in (f, refl, subst (λ z. EntryAs R (DeclaredAs nodes C N) X z f) s h)
  found_so e is to_hole = absurd (cc)
  found_so e is to_nothing = absurd (cc)

  -- and the other way round
  found_back : {x : FoundAmong Entry} {y : FoundAmong Named} (f : Named) → y ≡ an_entry f → ComesTo R (DeclaredAs nodes C N) X x y → (e : Entry) × (x ≡ an_entry e) × EntryAs R (DeclaredAs nodes C N) X e f
  found_back f is (to_entry {e = e} {f = g} h) = let s : g ≡ f = cc in (e, refl, subst (λ z. EntryAs R (DeclaredAs nodes C N) X e z) s h)
  found_back f is to_hole = absurd (cc)
  found_back f is to_nothing = absurd (cc)

  -- a path reaches an origin in both
  reaches_as : {es : List Entry} {fs : Environment} → EnvAs R (DeclaredAs nodes C N) X es fs → (o : Path) (p : NamePath) → Reaches naming es o p → Reaches model.naming fs o p
  reaches_as h o p r =
      let (f, is, alike) = found_so r.entry r.found (lookup_alike R (DeclaredAs nodes C N) X p.modules type_kind p.name h) in
      record { entry = f; found = is; makes = sym (entry_makes alike) ∙ r.makes }

  reaches_back : {es : List Entry} {fs : Environment} → EnvAs R (DeclaredAs nodes C N) X es fs → (o : Path) (p : NamePath) → Reaches model.naming fs o p → Reaches naming es o p
  reaches_back h o p r =
      let (e, is, alike) = found_back r.entry r.found (lookup_alike R (DeclaredAs nodes C N) X p.modules type_kind p.name h) in
      record { entry = e; found = is; makes = entry_makes alike ∙ r.makes }

  -- so an origin has the same names in both
  pub names_as : {env : List Entry} {E : Environment} → EnvAs R (DeclaredAs nodes C N) X env E → (declared : Path → Name) (o : Path) (s : List ℕ) → IsNameOf naming env declared o s → IsNameOf model.naming E declared o s
  names_as h declared o _ (shown {p = p} is) = shown (record {
    reaches = reaches_as h o p is.reaches;
    first = λ q r before. is.first q (reaches_back h o q r) (subst (λ (T : Type 0). T) (sym (before_alike h q p)) before);
  })
  names_as h declared o _ (hidden none) = hidden (λ p r. none p (reaches_back h o p r))

  -- and the other way round
  pub names_back : {env : List Entry} {E : Environment} → EnvAs R (DeclaredAs nodes C N) X env E → (declared : Path → Name) (o : Path) (s : List ℕ) → IsNameOf model.naming E declared o s → IsNameOf naming env declared o s
  names_back h declared o _ (shown {p = p} is) = shown (record {
    reaches = reaches_back h o p is.reaches;
    first = λ q r before. is.first q (reaches_as h o q r) (subst (λ (T : Type 0). T) (before_alike h q p) before);
  })
  names_back h declared o _ (hidden none) = hidden (λ p r. none p (reaches_as h o p r))
