-- Where environments differ in the types of values alone, what is found beside values is one thing.
use Rattle.std.proofs.Common.{◌≡◌, ◌∙◌, ℕ, Bool, true, false, ◌&&◌, List, [], ◌∷◌, Option, Some, None, option_map, refl, sym, ap, subst, if◌then◌else◌}
use Rattle.std.proofs.Math.Path.{fun_ext}
use Rattle.token_model.specs.Kinds.{Tok}
use Rattle.type_model.specs.Schemes.{Scheme}
use Rattle.signature_model.specs.Declarations.{Name}
use Rattle.signature_model.specs.Declarations as declarations
use Rattle.signature_model.specs.Components.{same_name}
use Rattle.signature_model.specs.Entries.{Environment, Entry, Kind, value_kind, constructor_kind, label_kind, entry, a_value}
use Rattle.signature_model.specs.Lookups.{a_hole, nothing, same_kind, found, found_in, ScopeOf, known, unknown_scope, no_scope, newest_by, is_named, scope_behind, lookup}
use Rattle.signature_model.specs.Records.{Written, path_for, has_name, newest_label, each_scope, is_there, is_known, first_label, record_of_label, label_entries, scope_for, record_of}
use Rattle.typing_model.specs.Demands.{site}
use Rattle.typing_model.specs.Names.{names_of, found_by, entry_of, label_in, then_by, referent_of, built_in}
use Rattle.typing_model.specs.BuiltIns.{exn_type}
use Rattle.typing_model.specs.Parts as parts
use Rattle.typing_model.specs.Patterns.{built_by, kept_record}
use Rattle.typing_model.specs.Records.{labels_of, declaration_found, first_token}
use Rattle.typing_model.specs.Expressions.{label_found}
use Rattle.demand_laws.proofs.Alike.{two_values, NamesAlike, as_one as all_alike, next as then_alike, Two, left, right, scope_alike, ScopesAlike, scopes_alike, is_wanted, belongs_alike, each_scope_alike, there_alike, known_alike}

-- two environments are one but for the types of values in front
pub data ValuesAlike : Environment → Environment → Type 0 where
  as_one : {E : Environment} → ValuesAlike E E
  next : {n : Name} {at : declarations.Place} {s z : Scheme} {E F : Environment} → ValuesAlike E F → ValuesAlike (entry n at (a_value s) ∷ E) (entry n at (a_value z) ∷ F)

-- so they are one but for types
pub names_alike : {E F : Environment} → ValuesAlike E F → NamesAlike E F
names_alike (as_one {E = E}) = all_alike E
names_alike (next h) = then_alike (record { name = refl; stands = two_values }) (names_alike h)

-- What finds no value finds the same in both.
newest_one : (t u : Entry → Bool) → ((e : Entry) → t e ≡ u e) → ((n : Name) (at : declarations.Place) (s : Scheme) → t (entry n at (a_value s)) ≡ false) → {E F : Environment} → ValuesAlike E F → newest_by t E ≡ newest_by u F
newest_one t u one none (as_one {E = E}) = ap (λ v. newest_by v E) (fun_ext one)
newest_one t u one none (next {n = n} {at = at} {s = s} {z = z} {E = E} {F = F} h) =
    ap (λ b. if b then Some (entry n at (a_value s)) else newest_by t E) (none n at s) ∙ newest_one t u one none h ∙
    sym (ap (λ b. if b then Some (entry n at (a_value z)) else newest_by u F) (sym (one (entry n at (a_value z))) ∙ none n at z))

-- a path to a name of another kind than values finds the same
pub lookup_one : {E F : Environment} (path : List Name) (k : Kind) (n : Name) → same_kind k value_kind ≡ false → ValuesAlike E F → lookup E path k n ≡ lookup F path k n
lookup_one [] k n apart h = ap found (newest_one (is_named k n) (is_named k n) (λ e. refl) (λ m at s. ap (λ b. b && same_name n m) apart) h)
lookup_one (m ∷ ms) k n apart h = ap (found_in (is_named k n)) (scope_alike m ms (names_alike h))

-- scopes that are one but for such types
data ScopesOne : ScopeOf Entry → ScopeOf Entry → Type 0 where
  both_open : {E F : Environment} → ValuesAlike E F → ScopesOne (known E) (known F)
  the_same : {s : ScopeOf Entry} → ScopesOne s s

scopes_one : {E F : Environment} (path : List Name) → ValuesAlike E F → ScopesOne (scope_behind E path) (scope_behind F path)
scopes_one [] h = both_open h
scopes_one {E} (m ∷ ms) h = subst (ScopesOne (scope_behind E (m ∷ ms))) (scope_alike m ms (names_alike h)) the_same

no_label : (b : Bool) → (b && false) ≡ false
no_label true = refl
no_label false = refl

label_one : (s t : Written → ScopeOf Entry) → ((l : Written) → ScopesAlike (s l) (t l)) → (ls : List Written) (n : Option Name) {x y : ScopeOf Entry} → ScopesOne x y → newest_label label_entries s ls n x ≡ newest_label label_entries t ls n y
label_one s t h ls n a = by a
  where
    wanted : (e : Entry) → is_wanted s ls n e ≡ is_wanted t ls n e
    wanted e = ap (λ b. has_name n e.name && b) (belongs_alike s t h ls (record_of_label e.stands_for))

    within : {E F : Environment} → ValuesAlike E F → newest_label label_entries s ls n (known E) ≡ newest_label label_entries t ls n (known F)
    within g = ap found (newest_one (is_wanted s ls n) (is_wanted t ls n) wanted (λ m at z. no_label (has_name n m)) g)

    by : {x y : ScopeOf Entry} → ScopesOne x y → newest_label label_entries s ls n x ≡ newest_label label_entries t ls n y
    by (both_open g) = within g
    by (the_same {s = known E}) = within (as_one {E = E})
    by (the_same {s = unknown_scope}) = refl
    by (the_same {s = no_scope}) = refl

-- labels find the same record type
pub record_one : {E F : Environment} (ls : List Written) → ValuesAlike E F → record_of E ls ≡ record_of F ls
record_one {E} {F} ls g = by (each_scope is_there s ls) (each_scope is_there t ls) (each_scope is_known s ls) (each_scope is_known t ls)
    (each_scope_alike is_there s t (λ l. there_alike (h l)) ls) (each_scope_alike is_known s t (λ l. known_alike (h l)) ls)
  where
    s : Written → ScopeOf Entry
    s = scope_for E ls

    t : Written → ScopeOf Entry
    t = scope_for F ls

    h : (l : Written) → ScopesAlike (s l) (t l)
    h l = scopes_alike (path_for ls l) (names_alike g)

    first : (ms : List Written) → first_label label_entries E s ls ms ≡ first_label label_entries F t ls ms
    first [] = label_one s t h ls None (both_open g)
    first (l ∷ ms) = label_one s t h ls (Some l.name) (scopes_one (path_for ls l) g)

    by : (a b c d : Bool) → a ≡ b → c ≡ d →
        (if a then (if c then first_label label_entries E s ls ls else a_hole) else nothing) ≡ (if b then (if d then first_label label_entries F t ls ls else a_hole) else nothing)
    by a b c d i j =
        ap (λ x. if x then (if c then first_label label_entries E s ls ls else a_hole) else nothing) i ∙
        ap (λ x. if b then (if x then first_label label_entries E s ls ls else a_hole) else nothing) j ∙
        ap (λ x. if b then (if d then x else a_hole) else nothing) (first ls)

-- So the constructor, the label and the record that are found are one in two such contexts.
pub built_one : (c : Two) → ValuesAlike c.first.env c.env → (n : ℕ) (p : parts.Written) (t : Tok) → built_by (left c) n p t ≡ built_by (right c) n p t
built_one c h n p t = ap (λ f. if c.first.kept (site n 0) then then_by (referent_of f) (built_in exn_type) else None) (lookup_one (names_of p.qualifiers) constructor_kind t.name refl h)

pub label_found_one : (c : Two) → ValuesAlike c.first.env c.env → (p : parts.Written) → label_found (left c) p ≡ label_found (right c) p
label_found_one c h p = by p.last
  where
    by : (o : Option Tok) → then_by o (λ t. then_by (referent_of (found_by (left c) label_kind p t)) label_in) ≡ then_by o (λ t. then_by (referent_of (found_by (right c) label_kind p t)) label_in)
    by None = refl
    by (Some t) = ap (λ f. then_by (referent_of f) label_in) (lookup_one (names_of p.qualifiers) label_kind t.name refl h)

pub declaration_found_one : (c : Two) → ValuesAlike c.first.env c.env → (ps : List parts.Written) → declaration_found (left c) ps ≡ declaration_found (right c) ps
declaration_found_one c h ps = ap (λ f. then_by (entry_of f) (λ e. option_map (λ r. r.0) (label_in e.stands_for))) (record_one (labels_of ps) h)

pub kept_record_one : (c : Two) → ValuesAlike c.first.env c.env → (n j : ℕ) (ps : List parts.Written) → kept_record (left c) n j ps ≡ kept_record (right c) n j ps
kept_record_one c h n j ps = ap (λ o. if c.first.kept (site n j) then o else elim (first_token ps) [ None ↦ o | Some t ↦ None ]) (declaration_found_one c h ps)
