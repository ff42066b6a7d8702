-- Environments in which the same records are found by their labels, whatever the types of their values.
use Rattle.std.proofs.Common.{◌≡◌, Bool, true, false, ◌&&◌, List, [], ◌∷◌, Option, Some, None, option_map, refl, sym, ◌∙◌, ap, subst, if◌then◌else◌}
use Rattle.std.proofs.Math.Path.{fun_ext}
use Rattle.type_model.specs.Types.{Path}
use Rattle.signature_model.specs.Declarations.{Name}
use Rattle.signature_model.specs.Components.{same_name}
use Rattle.signature_model.specs.Entries.{Environment, Entry, Referent, module_kind}
use Rattle.signature_model.specs.Lookups.{Found, an_entry, a_hole, nothing, found, ScopeOf, known, unknown_scope, no_scope, newest_by, is_named, scope_behind, scope_by, inside, through}
use Rattle.signature_model.specs.Records.{Written, path_for, is_of_type, is_label_of, has_label, has_each, belongs_to, has_name, newest_label, is_there, is_known, each_scope, first_label, record_of_label, label_entries, scope_for, record_of}
use Rattle.typing_model.specs.Names.{label_in}
use Rattle.typing_model.specs.Records.{labels_in}
use Rattle.typing_model.specs.Expressions.{none_mutable, is_some}

-- whether the record of a label, if it is one, has no mutable label
abbrev pub constant_of : Referent → Bool
constant_of r = elim (option_map (λ x. x.0) (label_in r)) [ None ↦ true | Some d ↦ none_mutable (labels_in d.shape) ]

-- the same of what is found
abbrev pub constant_found : Found → Bool
constant_found (an_entry e) = constant_of e.stands_for
constant_found a_hole = true
constant_found nothing = true

-- what stands behind a module of a path, if it is there
abbrev behind : Name → List Name → Option Entry → ScopeOf Entry
behind m ms o = elim o [ None ↦ no_scope | Some e ↦ through (inside e) (λ inner. scope_by is_named inside inner ms) ]

-- two entries of one name, none of them a module, and both labels of one record type or neither
pub record EntryAlike (e f : Entry) : Type 0 where
  pub name : e.name ≡ f.name
  pub label : record_of_label e.stands_for ≡ record_of_label f.stands_for
  pub constant : constant_of e.stands_for ≡ constant_of f.stands_for
  pub no_module : (n : Name) → is_named module_kind n e ≡ false
  pub neither : (n : Name) → is_named module_kind n f ≡ false

pub data EntriesAlike : Environment → Environment → Type 0 where
  as_one : {E : Environment} → EntriesAlike E E
  next : {e f : Entry} {E F : Environment} → EntryAlike e f → EntriesAlike E F → EntriesAlike (e ∷ E) (f ∷ F)

pub data ScopesAlike : ScopeOf Entry → ScopeOf Entry → Type 0 where
  known_alike : {E F : Environment} → EntriesAlike E F → ScopesAlike (known E) (known F)
  one_scope : {s : ScopeOf Entry} → ScopesAlike s s

-- modules are the same
newest_module : (n : Name) {E F : Environment} → EntriesAlike E F → newest_by (is_named module_kind n) E ≡ newest_by (is_named module_kind n) F
newest_module n as_one = refl
newest_module n (next {e = e} {f = f} {E = E} {F = F} a h) =
    ap (λ b. if b then Some e else newest_by (is_named module_kind n) E) (a.no_module n) ∙ newest_module n h ∙ sym (ap (λ b. if b then Some f else newest_by (is_named module_kind n) F) (a.neither n))

scopes_alike : {E F : Environment} (path : List Name) → EntriesAlike E F → ScopesAlike (scope_behind E path) (scope_behind F path)
scopes_alike [] h = known_alike h
scopes_alike {E} {F} (m ∷ ms) h = subst (ScopesAlike (scope_behind E (m ∷ ms))) (ap (λ o. behind m ms o) (newest_module m h)) one_scope

-- what is found of a test that comes out alike
pub record NewestAlike (o p : Option Entry) : Type 0 where
  pub some : is_some o ≡ is_some p
  pub constant : constant_found (found o) ≡ constant_found (found p)

newest_one : (o : Option Entry) → NewestAlike o o
newest_one o = record { some = refl; constant = refl }

newest_alike : (t u : Entry → Bool) → ((e : Entry) → t e ≡ u e) → ((e f : Entry) → EntryAlike e f → t e ≡ u f) → {E F : Environment} → EntriesAlike E F → NewestAlike (newest_by t E) (newest_by u F)
newest_alike t u same alike (as_one {E = E}) = subst (λ v. NewestAlike (newest_by t E) (newest_by v E)) (fun_ext same) (newest_one (newest_by t E))
newest_alike t u same alike (next {e = e} {f = f} {E = E} {F = F} a h) = by (t e) (u f) (alike e f a) (newest_alike t u same alike h)
  where
    by : (b c : Bool) → b ≡ c → NewestAlike (newest_by t E) (newest_by u F) → NewestAlike (if b then Some e else newest_by t E) (if c then Some f else newest_by u F)
    by true true i g = record { some = refl; constant = a.constant }
    by false false i g = g
    by true false i g = absurd (cc)
    by false true i g = absurd (cc)

and_both : (a b c d : Bool) → a ≡ c → b ≡ d → (a && b) ≡ (c && d)
and_both a b c d e f = cc

label_test : (o : Path) (n : Name) (e f : Entry) → EntryAlike e f → is_label_of label_entries o n e ≡ is_label_of label_entries o n f
label_test o n e f a = and_both (same_name n e.name) (is_of_type o (record_of_label e.stands_for)) (same_name n f.name) (is_of_type o (record_of_label f.stands_for)) (ap (same_name n) a.name) (ap (is_of_type o) a.label)

has_label_alike : (o : Path) (n : Name) {s t : ScopeOf Entry} → ScopesAlike s t → has_label label_entries o n s ≡ has_label label_entries o n t
has_label_alike o n (known_alike h) = (newest_alike (is_label_of label_entries o n) (is_label_of label_entries o n) (λ e. refl) (label_test o n) h).some
has_label_alike o n one_scope = refl

has_each_alike : (s t : Written → ScopeOf Entry) → ((l : Written) → ScopesAlike (s l) (t l)) → (o : Path) (ls : List Written) → has_each label_entries s o ls ≡ has_each label_entries t o ls
has_each_alike s t h o [] = refl
has_each_alike s t h o (l ∷ ls) = and_both (has_label label_entries o l.name (s l)) (has_each label_entries s o ls) (has_label label_entries o l.name (t l)) (has_each label_entries t o ls) (has_label_alike o l.name (h l)) (has_each_alike s t h o ls)

belongs_alike : (s t : Written → ScopeOf Entry) → ((l : Written) → ScopesAlike (s l) (t l)) → (ls : List Written) (o : Option Path) → belongs_to label_entries s ls o ≡ belongs_to label_entries t ls o
belongs_alike s t h ls None = refl
belongs_alike s t h ls (Some o) = has_each_alike s t h o ls

each_there : {s t : ScopeOf Entry} → ScopesAlike s t → (is_there s ≡ is_there t) × (is_known s ≡ is_known t)
each_there (known_alike h) = (refl, refl)
each_there one_scope = (refl, refl)

each_scope_alike : (test : ScopeOf Entry → Bool) (s t : Written → ScopeOf Entry) → ((l : Written) → test (s l) ≡ test (t l)) → (ls : List Written) → each_scope test s ls ≡ each_scope test t ls
each_scope_alike test s t h [] = refl
each_scope_alike test s t h (l ∷ ls) = and_both (test (s l)) (each_scope test s ls) (test (t l)) (each_scope test t ls) (h l) (each_scope_alike test s t h ls)

newest_label_alike : (s t : Written → ScopeOf Entry) → ((l : Written) → ScopesAlike (s l) (t l)) → (ls : List Written) (n : Option Name) {x y : ScopeOf Entry} → ScopesAlike x y →
    constant_found (newest_label label_entries s ls n x) ≡ constant_found (newest_label label_entries t ls n y)
newest_label_alike s t h ls n (known_alike g) =
    (newest_alike (λ e. has_name n e.name && belongs_to label_entries s ls (record_of_label e.stands_for)) (λ e. has_name n e.name && belongs_to label_entries t ls (record_of_label e.stands_for))
    (λ e. ap (λ b. has_name n e.name && b) (belongs_alike s t h ls (record_of_label e.stands_for)))
    (λ e f a. and_both (has_name n e.name) (belongs_to label_entries s ls (record_of_label e.stands_for)) (has_name n f.name) (belongs_to label_entries t ls (record_of_label f.stands_for)) (ap (has_name n) a.name)
    (belongs_alike s t h ls (record_of_label e.stands_for) ∙ ap (belongs_to label_entries t ls) a.label)) g).constant
newest_label_alike s t h ls n (one_scope {s = known E}) =
    (newest_alike (λ e. has_name n e.name && belongs_to label_entries s ls (record_of_label e.stands_for)) (λ e. has_name n e.name && belongs_to label_entries t ls (record_of_label e.stands_for))
    (λ e. ap (λ b. has_name n e.name && b) (belongs_alike s t h ls (record_of_label e.stands_for)))
    (λ e f a. and_both (has_name n e.name) (belongs_to label_entries s ls (record_of_label e.stands_for)) (has_name n f.name) (belongs_to label_entries t ls (record_of_label f.stands_for)) (ap (has_name n) a.name)
    (belongs_alike s t h ls (record_of_label e.stands_for) ∙ ap (belongs_to label_entries t ls) a.label)) (as_one {E = E})).constant
newest_label_alike s t h ls n (one_scope {s = unknown_scope}) = refl
newest_label_alike s t h ls n (one_scope {s = no_scope}) = refl

first_label_alike : (E F : Environment) (s t : Written → ScopeOf Entry) → EntriesAlike E F → ((l : Written) → ScopesAlike (s l) (t l)) → (all ls : List Written) →
    constant_found (first_label label_entries E s all ls) ≡ constant_found (first_label label_entries F t all ls)
first_label_alike E F s t g h all [] = newest_label_alike s t h all None (known_alike g)
first_label_alike E F s t g h all (l ∷ ls) = newest_label_alike s t h all (Some l.name) (h l)

-- the record that labels find is constant in both or in neither
pub records_alike : (E F : Environment) (ls : List Written) → EntriesAlike E F → constant_found (record_of E ls) ≡ constant_found (record_of F ls)
records_alike E F ls g = by (each_scope is_there s ls) (each_scope is_there t ls) (each_scope is_known s ls) (each_scope is_known t ls)
    (each_scope_alike is_there s t (λ l. (each_there (h l)).0) ls) (each_scope_alike is_known s t (λ l. (each_there (h l)).1) ls)
  where
    s : Written → ScopeOf Entry
    s = scope_for E ls

    t : Written → ScopeOf Entry
    t = scope_for F ls

    h : (l : Written) → ScopesAlike (s l) (t l)
    h l = scopes_alike (path_for ls l) g

    by : (a b c d : Bool) → a ≡ b → c ≡ d → constant_found (if a then (if c then first_label label_entries E s ls ls else a_hole) else nothing) ≡ constant_found (if b then (if d then first_label label_entries F t ls ls else a_hole) else nothing)
    by true true true true i j = first_label_alike E F s t g h ls ls
    by true true false false i j = refl
    by false false c d i j = refl
    by true false c d i j = absurd (cc)
    by false true c d i j = absurd (cc)
    by true true true false i j = absurd (cc)
    by true true false true i j = absurd (cc)
