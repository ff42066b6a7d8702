-- A constructor of types by its path, in a declaration: the demand that it is bound, that it takes as many arguments as are given, and what its declaration is over them.
use Rattle.std.proofs.Common.{◌≡◌, ◌∙◌, ◌++◌, ◌==◌, ℕ, Bool, true, false, List, [], ◌∷◌, length, Option, Some, None, refl, sym, ap, subst, if◌then◌else◌}
use Rattle.token_model.specs.Kinds.{Tok}
use Rattle.text_terms.specs.declared.Span.{Span}
use Rattle.syntax_tree.specs.View.{place_of}
use Rattle.type_model.specs.Types.{Path, Typ, types_of}
use Rattle.type_model.specs.Types.{Typ as type, Typs as types}
use Rattle.type_model.specs.Schemes.{Scheme}
use Rattle.signature_model.specs.Declarations as rules
use Rattle.signature_model.specs.Declarations.{Name}
use Rattle.signature_model.specs.Entries.{type_kind}
use Rattle.signature_model.specs.Entries.{Entry as Named, Referent, kind_of as kind_named}
use Rattle.signature_model.specs.Changes.{argument}
use Rattle.signature_model.specs.Matching.{used}
use Rattle.signature_model.specs.Lookups.{FoundAmong, an_entry, a_hole, nothing, lookup}
use Rattle.typing_model.specs.Demands.{site, type_word, same, test, arity}
use Rattle.typing_model.specs.Contexts.{Context, parameters, is_kept, ask, type_at, unresolved, filled_at, filled_in}
use Rattle.typing_model.specs.Parts as parts
use Rattle.typing_model.specs.Names.{names_of, referent_of, then_by, declaration_in}
use Rattle.typing_model.specs.TypeExpressions.{types_of_nodes, declared_type, constructor_asks}
use Rattle.env_table.specs.declared.entries.Constructor.{Constructor}
use Rattle.env_table.specs.declared.entries.Declaration.{Declaration}
use Rattle.env_table.specs.declared.entries.Entry.{Entry}
use Rattle.env_table.specs.declared.entries.Kind.TheVariants as kind
use Rattle.env_table.specs.declared.entries.What.{What}
use Rattle.env_table.specs.Views.{kind_of}
use Rattle.typing_state.specs.declared.parts.Parts.{Parts}
use Rattle.typing_state.specs.declared.demands.Verdict.{Verdict}
use Rattle.typing_state.specs.declared.demands.Verdict.TheVariants.{Kept, Reported}
use Rattle.typing_state.specs.declared.messages.Word.TheVariants as word
use Rattle.typing_state.specs.Demands.{ArityIs}
use Rattle.typing_state.specs.Bound.{lost_among, found_at, BoundIs}
use Rattle.typing_conditions.specs.Environments.{WhatAs, of_value, of_constructor, of_exception, of_label, of_type, of_module, of_module_type, EntryAs, entry_as}
use Rattle.typing_conditions.proofs.Environments.{ComesTo, to_entry, to_hole, to_nothing, lookup_alike}
use Rattle.typing_conditions.proofs.Equals.{judged_as}
use Rattle.typing_conditions.proofs.Judged.{kept_right}
use Rattle.typing_steps.specs.States.{is_aloud, sight}
use Rattle.typing_steps.specs.Demands.{is_found_here}
use Rattle.typing_steps.specs.Demands as verdicts
use Rattle.typing_steps.proofs.Valued.{found_of_kind}
use Rattle.typing_steps.proofs.Constructing.{hole_none}
use Rattle.typing_rows.specs.Declaring.{declared_in}
use Rattle.typing_rows.specs.Settled.{Before, IsBehind, behind, Around, GivesAll, SettledTo}
use Rattle.typing_rows.specs.Around.{TypeAs, TypesAs}
use Rattle.typing_rows.specs.DeclaredContracts.{SettlesEnd, declared_by, SettlesDeclared, SettlesNamed}
use Rattle.typing_rows.proofs.Settling.{all_left}
use Rattle.typing_rows.proofs.Judging.{Judges, arity_judges, bound_judges}
use Rattle.typing_rows.proofs.DeclaredOrdered.{to_here, same_to, unresolved_to}
use Rattle.typing_rows.proofs.DeclaredComposed.{judged_then}
use Rattle.typing_rows.proofs.Named.{after_lookup, path_to}
use Rattle.typing_rows.proofs.Declared.{of_declared}

-- the demand on the number of arguments
pub counted : (a b : Parts) {B : Before} (t : Tok) (n k given many : ℕ) (span : Span) (v : Verdict) → place_of span ≡ parts.place_of t → many ≡ given → is_aloud a.telling ≡ true → ArityIs v a b span t.name k given →
    Judges B (λ c. ask n 1 (parts.place_of t) (test (arity t.name k many) (k == many))) (sight a) (sight b) (site n 1) (verdicts.is_kept v)
counted a b {B} t n k given many span v place counts aloud is =
    subst (λ p. Judges B (λ c. ask n 1 p (test (arity t.name k many) (k == many))) (sight a) (sight b) (site n 1) (verdicts.is_kept v)) place
    (subst (λ m. Judges B (λ c. ask n 1 (place_of span) (test (arity t.name k m) (k == m))) (sight a) (sight b) (site n 1) (verdicts.is_kept v)) (sym counts) (arity_judges a b (site n 1) v aloud is))

-- the last judgement before a context is kept so
pub kept_last : (B : Before) {c : Context} (n k : ℕ) (v : Bool) → IsBehind (behind B (judged_as (site n k) v) []) c → is_kept c n k ≡ v
kept_last B {c} n k v h = (kept_right c.kept B.judged (judged_as (site n k) v) h.kept).0

-- a declaration over nodes that have one type each, where parameters are in scope
abbrev over_types : ℕ → List Typ → Typ → Typ
over_types n ts u = used (argument (types_of ts)) (λ (o : Path). type.Con (o ++ n ∷ []) types.Nil) u

-- so it has one type
pub over_fixed : {B : Before} {c : Context} (names : List Name) (n : ℕ) (ns : List ℕ) (ts : List Typ) (u : Typ) → B.names ≡ names → GivesAll B.fixes ns ts → IsBehind B c →
    used (argument (types_of (types_of_nodes c ns))) (filled_at c n) u ≡ over_types n ts u
over_fixed {B} {c} names n ns ts u are gives h =
    let same = gives c.chosen h.fixed in
    let fill = ap (λ v. filled_in c n v) (h.variables ∙ ap parameters are) in
    λ i. used (argument (types_of (same i))) (fill i) u

-- The type of a name is its declaration over the arguments, where there are as many as it takes.
pub declared_kept : (a b d : Parts) (names : List Name) (t : Tok) (decl : Declaration) (ms : List ℕ) (span : Span) → place_of span ≡ parts.place_of t → ArityIs Kept a b span t.name decl.arity (length ms) → (sight d).reports ≡ (sight b).reports → SettlesDeclared (Some decl) a d names t ms
declared_kept a b d names t decl ms span place is kept = λ aloud B n ns ts u are gives many.
    judged_then (counted a b t n decl.arity (length ms) (length ns) span Kept place many aloud is)
    (to_here (λ c h. sym (ap (λ (v : Bool). if v then same (type_at c n) (used (argument (types_of (types_of_nodes c ns))) (filled_at c n) u) ∷ [] else unresolved c n) (kept_last B n 1 true h)))
    (same_to n (over_types n ts u) (λ c. used (argument (types_of (types_of_nodes c ns))) (filled_at c n) u) (λ c h. over_fixed names n ns ts u are (all_left B.fixes [] ns ts gives) h) kept))

-- Else that is reported, and the type is an unknown one.
pub declared_reported : (a b d : Parts) (names : List Name) (t : Tok) (decl : Declaration) (ms : List ℕ) (span : Span) → place_of span ≡ parts.place_of t → ArityIs Reported a b span t.name decl.arity (length ms) → (sight d).reports ≡ (sight b).reports → SettlesDeclared (Some decl) a d names t ms
declared_reported a b d names t decl ms span place is kept = λ aloud B n ns ts u are gives many.
    judged_then (counted a b t n decl.arity (length ms) (length ns) span Reported place many aloud is)
    (to_here (λ c h. sym (ap (λ (v : Bool). if v then same (type_at c n) (used (argument (types_of (types_of_nodes c ns))) (filled_at c n) u) ∷ [] else unresolved c n) (kept_last B n 1 false h)))
    (unresolved_to names n are kept))

module _ (R : ℕ → Scheme → Type 0) (named : Declaration → Typ) (X : Constructor → Option Typ → Type 0) where
  -- what the definitions have for an entry that is a type
  record HasDeclaration (w : What) (f : Referent) : Type 0 where
    pub declaration : Declaration
    pub here : declared_in w ≡ Some declaration
    pub rule : rules.Declaration
    pub is : declaration_in f ≡ Some rule
    pub alike : TypeAs named declaration rule

  what_declaration : {w : What} {f : Referent} → WhatAs R (TypeAs named) X w f → kind_named f ≡ type_kind → HasDeclaration w f
  what_declaration (of_value e h) k = absurd (cc)
  what_declaration (of_constructor e h c) k = absurd (cc)
  what_declaration (of_exception e h) k = absurd (cc)
  what_declaration (of_label e h l) k = absurd (cc)
  what_declaration (of_type {d = d} {e = e} is h) k = record { declaration = d.value; here = ap declared_in is ∙ of_declared d; rule = e; is = refl; alike = h }
  what_declaration (of_module e h) k = absurd (cc)
  what_declaration (of_module_type e h) k = absurd (cc)

  -- and what a path finds
  pub record FindsType (e : Entry) (found : FoundAmong Named) : Type 0 where
    pub declaration : Declaration
    pub here : declared_in e.what ≡ Some declaration
    pub rule : rules.Declaration
    pub is : then_by (referent_of found) declaration_in ≡ Some rule
    pub alike : TypeAs named declaration rule

  entry_declaration : {e : Entry} {f : Named} → EntryAs R (TypeAs named) X e f → kind_of e.kind ≡ type_kind → FindsType e (an_entry f)
  entry_declaration (entry_as n k p w) is = let h = what_declaration w (k ∙ is) in record { declaration = h.declaration; here = h.here; rule = h.rule; is = h.is; alike = h.alike }

  pub found_type : {x : FoundAmong Entry} {y : FoundAmong Named} (e : Entry) → x ≡ an_entry e → kind_of e.kind ≡ type_kind → ComesTo R (TypeAs named) X x y → FindsType e y
  found_type e f is (to_entry {e = d} {f = g} h) = let s : d ≡ e = cc in subst (λ z. FindsType z (an_entry g)) s (entry_declaration h (ap (λ (z : Entry). kind_of z.kind) s ∙ is))
  found_type e f is to_hole = absurd (cc)
  found_type e f is to_nothing = absurd (cc)

-- The path was looked up.
module _ (a b e : Parts) (env : List Entry) (names : List Name) (given : Option Entry) (qs : List Tok) (t : Tok) (ns ms : List ℕ) (n : ℕ) (names_to : SettlesNamed given b e names t ms)
    (B : Before) (aloud : is_aloud a.telling ≡ true) (around : Around env names B) (ts : List Typ) (gives : GivesAll B.fixes ns ts) (many : length ns ≡ length ms) where
  -- the conditions behind the lookup, where it came to this
  abbrev Behind : FoundAmong Entry → Before
  Behind f = behind B (judged_as (site n 0) (is_found_here f)) []

  comes_to : (f : FoundAmong Entry) (c : Context) → IsBehind (Behind f) c → ComesTo (λ r sc. Unit {0}) (TypeAs B.named) (λ x o. Unit {0}) (found_at env qs kind.TypeName t) (lookup c.env (names_of qs) type_kind t.name)
  comes_to f c h = lookup_alike (λ r sc. Unit {0}) (TypeAs B.named) (λ x o. Unit {0}) (names_of qs) type_kind t.name (subst (λ es. TypesAs B.named es c.env) around.0 h.types)

  -- nothing is known of the name
  unknown_type : (f : FoundAmong Entry) → ((c : Context) → IsBehind (Behind f) c → after_lookup c n qs t ns ≡ unresolved c n) → SettlesNamed None b e names t ms → SettledTo (Behind f) (λ c. after_lookup c n qs t ns) (sight b) (sight e) n
  unknown_type f actual to = to_here (λ c h. sym (actual c h)) (unresolved_to names n around.1 to)

  by_found : (f : FoundAmong Entry) → found_at env qs kind.TypeName t ≡ f → BoundIs f given a b (lost_among env qs) t word.Type → SettledTo (Behind f) (λ c. after_lookup c n qs t ns) (sight b) (sight e) n
  by_found nothing finds is =
      unknown_type nothing (λ c h. ap (λ (v : Bool). declared_type c n t ns (if v then then_by (referent_of (lookup c.env (names_of qs) type_kind t.name)) declaration_in else None)) (kept_last B n 0 false h)) (subst (λ o. SettlesNamed o b e names t ms) is.0 names_to)
  by_found a_hole finds is =
      unknown_type a_hole (λ c h. ap (λ (v : Bool). declared_type c n t ns (if v then then_by (referent_of (lookup c.env (names_of qs) type_kind t.name)) declaration_in else None)) (kept_last B n 0 true h) ∙
      ap (declared_type c n t ns) (hole_none (λ f. then_by (referent_of f) declaration_in) refl finds (comes_to a_hole c h))) (subst (λ o. SettlesNamed o b e names t ms) is.0 names_to)
  by_found (an_entry x) finds is = by (declared_in x.what) refl (subst (λ o. SettlesNamed o b e names t ms) is.0 names_to)
    where
      is_kind : kind_of x.kind ≡ type_kind
      is_kind = found_of_kind type_kind env (names_of qs) t.name x finds

      finds_in : (c : Context) → IsBehind (Behind (an_entry x)) c → FindsType (λ r sc. Unit {0}) B.named (λ y o. Unit {0}) x (lookup c.env (names_of qs) type_kind t.name)
      finds_in c h = found_type (λ r sc. Unit {0}) B.named (λ y o. Unit {0}) x finds is_kind (comes_to (an_entry x) c h)

      -- in each context it is of the same arity and type
      each : (d : Declaration) → declared_in x.what ≡ Some d → (c : Context) → IsBehind (Behind (an_entry x)) c → after_lookup c n qs t ns ≡ declared_by c n t ns d.arity (B.named d)
      each d there c h =
          let f = finds_in c h in
          let s : f.declaration ≡ d = (let q : Some f.declaration ≡ Some d = sym f.here ∙ there in cc) in
          let arity_is = f.alike.0 ∙ ap (λ (d : Declaration). d.arity) s in
          let type_is = f.alike.1 ∙ ap B.named s in
          ap (λ (v : Bool). declared_type c n t ns (if v then then_by (referent_of (lookup c.env (names_of qs) type_kind t.name)) declaration_in else None)) (kept_last B n 0 true h) ∙
          ap (declared_type c n t ns) f.is ∙ (λ i. declared_by c n t ns (arity_is i) (type_is i))

      none : (c : Context) → IsBehind (Behind (an_entry x)) c → declared_in x.what ≡ None → ⊥
      none c h missing = let f = finds_in c h in let q : None ≡ Some f.declaration = sym missing ∙ f.here in cc

      by : (o : Option Declaration) → declared_in x.what ≡ o → SettlesDeclared o b e names t ms → SettledTo (Behind (an_entry x)) (λ c. after_lookup c n qs t ns) (sight b) (sight e) n
      by None missing kept = to_here (λ c h. absurd (none c h missing)) (unresolved_to names n around.1 kept)
      by (Some d) there to = to_here (λ c h. sym (each d there c h)) (to (subst (λ (p : Parts). is_aloud p.telling ≡ true) (sym is.1) aloud) (Behind (an_entry x)) n ns ts (B.named d) around.1 (all_left B.fixes [] ns ts gives) many)

  pub looked_up : BoundIs (found_at env qs kind.TypeName t) given a b (lost_among env qs) t word.Type → SettledTo B (λ c. constructor_asks c n (path_to qs t) ns) (sight a) (sight e) n
  looked_up bound =
      judged_then (bound_judges a b {B = B} given word.Type qs t kind.TypeName type_word refl (site n 0) around.0 aloud bound) (by_found (found_at env qs kind.TypeName t) refl bound)

-- A constructor of types whose name is there.
pub name_settles : (a b e : Parts) (env : List Entry) (names : List Name) (given : Option Entry) (qs : List Tok) (t : Tok) (ns ms : List ℕ) (n : ℕ) → BoundIs (found_at env qs kind.TypeName t) given a b (lost_among env qs) t word.Type → SettlesNamed given b e names t ms →
    SettlesEnd a e env names (λ c. constructor_asks c n (path_to qs t) ns) ns ms n
name_settles a b e env names given qs t ns ms n bound names_to = λ aloud B around ts gives many. looked_up a b e env names given qs t ns ms n names_to B aloud around ts gives many bound

-- A constructor of types whose name is missing.
pub nameless_settles : (a b : Parts) (env : List Entry) (names : List Name) (qs : List Tok) (ns ms : List ℕ) (n : ℕ) → (sight b).reports ≡ (sight a).reports → SettlesEnd a b env names (λ c. constructor_asks c n (record { qualifiers = qs; last = None }) ns) ns ms n
nameless_settles a b env names qs ns ms n kept = λ aloud B around ts gives many. unresolved_to names n around.1 kept
