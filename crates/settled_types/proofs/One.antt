-- What isn't a value is found as one thing with the types and with what is left of them.
use Rattle.std.proofs.Common.{◌≡◌, ◌∙◌, Bool, true, false, ◌&&◌, List, [], ◌∷◌, Option, Some, None, refl, ap, subst, if◌then◌else◌}
use Rattle.std.proofs.Math.Path.{fun_ext}
use Rattle.type_model.specs.Types.{Path}
use Rattle.signature_model.specs.Declarations.{Name}
use Rattle.signature_model.specs.Components.{same_name}
use Rattle.signature_model.specs.Entries.{Kind, value_kind, module_kind, Entry, Environment}
use Rattle.signature_model.specs.Lookups.{a_hole, nothing, same_kind, found, found_in, ScopeOf, known, unknown_scope, no_scope, newest_by, is_named, scope_behind, lookup}
use Rattle.signature_model.specs.Records.{Written, path_for, is_label_of, has_label, has_each, belongs_to, has_name, newest_label, is_there, is_known, each_scope, first_label, record_of_label, label_entries, scope_for, record_of}
use Rattle.signature_model.specs.Records as labels
use Rattle.settled_types.proofs.Found.{ErasedNames, module_scope, same_newest}

module _ (os : List Path) where
  -- a scope behind modules
  scope_one : {E F : Environment} (m : Name) (ms : List Name) → ErasedNames os E F → scope_behind E (m ∷ ms) ≡ scope_behind F (m ∷ ms)
  scope_one m ms h = ap (module_scope os ms) (same_newest os (is_named module_kind m) (λ n at s. refl) h)

  -- a path to a name of another kind than values
  pub lookup_one : {E F : Environment} (path : List Name) (k : Kind) (n : Name) → same_kind k value_kind ≡ false → ErasedNames os E F → lookup E path k n ≡ lookup F path k n
  lookup_one [] k n apart h = ap found (same_newest os (is_named k n) (λ m at s. ap (λ b. b && same_name n m) apart) h)
  lookup_one (m ∷ ms) k n apart h = ap (found_in (is_named k n)) (scope_one m ms h)

  -- scopes in which the same labels are found
  data ScopesOne : ScopeOf Entry → ScopeOf Entry → Type 0 where
    both_known : {E F : Environment} → ErasedNames os E F → ScopesOne (known E) (known F)
    one_scope : {s : ScopeOf Entry} → ScopesOne s s

  scopes_one : {E F : Environment} (path : List Name) → ErasedNames os E F → ScopesOne (scope_behind E path) (scope_behind F path)
  scopes_one [] h = both_known h
  scopes_one {E} (m ∷ ms) h = subst (ScopesOne (scope_behind E (m ∷ ms))) (scope_one m ms h) one_scope

  no_label : (b : Bool) → (b && false) ≡ false
  no_label true = refl
  no_label false = refl

  has_label_one : (o : Path) (n : Name) {s t : ScopeOf Entry} → ScopesOne s t → has_label label_entries o n s ≡ has_label label_entries o n t
  has_label_one o n (both_known h) = ap labels.is_some (same_newest os (is_label_of label_entries o n) (λ m at s. no_label (same_name n m)) h)
  has_label_one o n one_scope = refl

  and_one : (a b c d : Bool) → a ≡ c → b ≡ d → (a && b) ≡ (c && d)
  and_one a b c d e f = cc

  has_each_one : (s t : Written → ScopeOf Entry) → ((l : Written) → ScopesOne (s l) (t l)) → (o : Path) (ls : List Written) → has_each label_entries s o ls ≡ has_each label_entries t o ls
  has_each_one s t h o [] = refl
  has_each_one s t h o (l ∷ ls) = and_one (has_label label_entries o l.name (s l)) (has_each label_entries s o ls) (has_label label_entries o l.name (t l)) (has_each label_entries t o ls) (has_label_one o l.name (h l)) (has_each_one s t h o ls)

  belongs_one : (s t : Written → ScopeOf Entry) → ((l : Written) → ScopesOne (s l) (t l)) → (ls : List Written) (o : Option Path) → belongs_to label_entries s ls o ≡ belongs_to label_entries t ls o
  belongs_one s t h ls None = refl
  belongs_one s t h ls (Some o) = has_each_one s t h o ls

  each_scope_one : (test : ScopeOf Entry → Bool) (s t : Written → ScopeOf Entry) → ((l : Written) → test (s l) ≡ test (t l)) → (ls : List Written) → each_scope test s ls ≡ each_scope test t ls
  each_scope_one test s t h [] = refl
  each_scope_one test s t h (l ∷ ls) = and_one (test (s l)) (each_scope test s ls) (test (t l)) (each_scope test t ls) (h l) (each_scope_one test s t h ls)

  there_one : {s t : ScopeOf Entry} → ScopesOne s t → is_there s ≡ is_there t
  there_one (both_known h) = refl
  there_one one_scope = refl

  known_one : {s t : ScopeOf Entry} → ScopesOne s t → is_known s ≡ is_known t
  known_one (both_known h) = refl
  known_one one_scope = refl

  -- whether an entry is a label of this name that belongs to the record
  abbrev is_wanted : (Written → ScopeOf Entry) → List Written → Option Name → Entry → Bool
  is_wanted s ls n e = has_name n e.name && belongs_to label_entries s ls (record_of_label e.stands_for)

  newest_label_one : (s t : Written → ScopeOf Entry) → ((l : Written) → ScopesOne (s l) (t l)) → (ls : List Written) (n : Option Name) {x y : ScopeOf Entry} → ScopesOne x y →
      newest_label label_entries s ls n x ≡ newest_label label_entries t ls n y
  newest_label_one s t h ls n {x} {y} a = by a
    where
      wanted : is_wanted s ls n ≡ is_wanted t ls n
      wanted = fun_ext (λ (e : Entry). ap (λ b. has_name n e.name && b) (belongs_one s t h ls (record_of_label e.stands_for)))

      by : {x y : ScopeOf Entry} → ScopesOne x y → newest_label label_entries s ls n x ≡ newest_label label_entries t ls n y
      by (both_known {F = F} g) = ap found (same_newest os (is_wanted s ls n) (λ m at z. no_label (has_name n m)) g ∙ ap (λ v. newest_by v F) wanted)
      by (one_scope {s = known E}) = ap (λ v. found (newest_by v E)) wanted
      by (one_scope {s = unknown_scope}) = refl
      by (one_scope {s = no_scope}) = refl

  first_label_one : {E F : Environment} (s t : Written → ScopeOf Entry) → ErasedNames os E F → ((l : Written) → ScopesOne (s l) (t l)) → (all ls : List Written) → first_label label_entries E s all ls ≡ first_label label_entries F t all ls
  first_label_one s t g h all [] = newest_label_one s t h all None (both_known g)
  first_label_one s t g h all (l ∷ ls) = newest_label_one s t h all (Some l.name) (h l)

  -- labels find the same record type
  pub record_one : {E F : Environment} (ls : List Written) → ErasedNames os E F → record_of E ls ≡ record_of F ls
  record_one {E} {F} ls g = by (each_scope is_there s ls) (each_scope is_there t ls) (each_scope is_known s ls) (each_scope is_known t ls)
      (each_scope_one is_there s t (λ l. there_one (h l)) ls) (each_scope_one is_known s t (λ l. known_one (h l)) ls)
    where
      s : Written → ScopeOf Entry
      s = scope_for E ls

      t : Written → ScopeOf Entry
      t = scope_for F ls

      h : (l : Written) → ScopesOne (s l) (t l)
      h l = scopes_one (path_for ls l) g

      by : (a b c d : Bool) → a ≡ b → c ≡ d →
          (if a then (if c then first_label label_entries E s ls ls else a_hole) else nothing) ≡ (if b then (if d then first_label label_entries F t ls ls else a_hole) else nothing)
      by a b c d i j =
          ap (λ x. if x then (if c then first_label label_entries E s ls ls else a_hole) else nothing) i ∙
          ap (λ x. if b then (if x then first_label label_entries E s ls ls else a_hole) else nothing) j ∙
          ap (λ x. if b then (if d then x else a_hole) else nothing) (first_label_one s t g h ls ls)
