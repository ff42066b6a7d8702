-- A constructor of types by its path, in a declaration: its node denotes what the declaration that is found gives the arguments.
use Rattle.std.proofs.Common.{◌≡◌, ◌∙◌, ℕ, Bool, true, false, List, [], ◌∷◌, length, Option, Some, None, refl, sym, ap, subst, if◌then◌else◌}
use Rattle.token_model.specs.Kinds.{Tok}
use Rattle.text_terms.specs.declared.Span.{Span}
use Rattle.syntax_tree.specs.View.{place_of}
use Rattle.type_model.specs.Types.{Typ, types_of}
use Rattle.type_model.specs.Schemes.{Scheme}
use Rattle.signature_model.specs.Declarations as rules
use Rattle.signature_model.specs.Declarations.{Name}
use Rattle.signature_model.specs.Entries.{type_kind}
use Rattle.signature_model.specs.Entries.{Entry as Named, Referent, kind_of as kind_named}
use Rattle.signature_model.specs.Changes.{argument}
use Rattle.signature_model.specs.Matching.{used}
use Rattle.signature_model.specs.Lookups.{FoundAmong, an_entry, a_hole, nothing, lookup}
use Rattle.typing_model.specs.Demands.{site, type_word, same}
use Rattle.typing_model.specs.Contexts.{Context, type_at, unresolved, filled_at}
use Rattle.typing_model.specs.Parts as parts
use Rattle.typing_model.specs.Names.{names_of, referent_of, then_by, declaration_in}
use Rattle.typing_model.specs.TypeExpressions.{types_of_nodes, declared_type, constructor_asks}
use Rattle.env_table.specs.declared.entries.Constructor.{Constructor}
use Rattle.env_table.specs.declared.entries.Declaration.{Declaration}
use Rattle.env_table.specs.declared.entries.Entry.{Entry}
use Rattle.env_table.specs.declared.entries.Kind.TheVariants as kind
use Rattle.env_table.specs.declared.entries.What.{What}
use Rattle.env_table.specs.Views.{kind_of}
use Rattle.typing_state.specs.declared.parts.Parts.{Parts}
use Rattle.typing_state.specs.declared.demands.Verdict.TheVariants.{Kept, Reported}
use Rattle.typing_state.specs.declared.messages.Word.TheVariants as word
use Rattle.typing_state.specs.Demands.{ArityIs}
use Rattle.typing_state.specs.Goes.{OnlyFaults}
use Rattle.typing_state.specs.Bound.{lost_among, found_at, BoundIs}
use Rattle.typing_conditions.specs.Environments.{WhatAs, of_value, of_constructor, of_exception, of_label, of_type, of_module, of_module_type, EntryAs, entry_as}
use Rattle.typing_conditions.proofs.Environments.{ComesTo, to_entry, to_hole, to_nothing, lookup_alike}
use Rattle.typing_conditions.specs.Frames.{Frame}
use Rattle.typing_conditions.proofs.Equals.{judged_as}
use Rattle.typing_steps.specs.States.{is_aloud, sight}
use Rattle.typing_steps.specs.Demands.{is_found_here}
use Rattle.typing_steps.proofs.Valued.{found_of_kind}
use Rattle.typing_steps.proofs.Constructing.{hole_none}
use Rattle.typing_rows.specs.Declaring.{declared_in}
use Rattle.typing_rows.specs.Settled.{Before, IsBehind, behind, Around, GivesAll}
use Rattle.typing_rows.specs.Around.{TypeAs, TypesAs}
use Rattle.typing_rows.specs.DeclaredContracts.{declared_by}
use Rattle.typing_rows.proofs.Settling.{all_left}
use Rattle.typing_rows.proofs.Judging.{bound_judges}
use Rattle.typing_rows.proofs.DeclaredNamed.{found_type, FindsType, counted, kept_last, over_fixed}
use Rattle.declared_rows.specs.Assignments.{Assignment, Assigns, AllDenote}
use Rattle.declared_rows.specs.Contracts.{KnownAs, IsKnownBy, Inside, EndDenoted, DenotesEnd, MakesUnknown, DenotesDeclared, DenotesNamed}
use Rattle.declared_rows.specs.Applied.{AppliesWith, over_types}
use Rattle.declared_rows.proofs.Judged.{settled_as, unknown_denoted, end_here, same_faults, faults_assigns, judged_denoted}
use Rattle.typing_rows.proofs.Named.{after_lookup, path_to}
use Rattle.typing_rows.proofs.Declared.{of_declared}

-- The node of a name denotes its declaration over the arguments, where there are as many as it takes.
pub declared_kept : (a b d : Parts) (names : List Name) (t : Tok) (decl : Declaration) (ms : List ℕ) (m : ℕ) (span : Span) → place_of span ≡ parts.place_of t → ArityIs Kept a b span t.name decl.arity (length ms) → (sight d).reports ≡ (sight b).reports → AppliesWith b d decl ms m → DenotesDeclared (Some decl) a d names t ms m
declared_kept a b d names t decl ms m span place is kept applies = λ aloud B n ns ts u are gives many F arity U A here known all.
    judged_denoted a b d (counted a b t n decl.arity (length ms) (length ns) span Kept place many aloud is) (same_faults a b is.1) here (record {
      settled = settled_as (over_types n ts u) (λ c. used (argument (types_of (types_of_nodes c ns))) (filled_at c n) u) (λ c h. over_fixed names n ns ts u are (all_left B.fixes [] ns ts gives) h)
          (λ c h. sym (ap (λ (v : Bool). if v then same (type_at c n) (used (argument (types_of (types_of_nodes c ns))) (filled_at c n) u) ∷ [] else unresolved c n) (kept_last B n 1 true h))) kept;
      to = λ new. applies F arity n U A ts u (faults_assigns a b (same_faults a b is.1) here) known all (sym is.0) new;
    })

-- Else that is reported, and it is an unknown type.
pub declared_reported : (a b d : Parts) (names : List Name) (t : Tok) (decl : Declaration) (ms : List ℕ) (m : ℕ) (span : Span) → place_of span ≡ parts.place_of t → ArityIs Reported a b span t.name decl.arity (length ms) → OnlyFaults a b → MakesUnknown b d m → DenotesDeclared (Some decl) a d names t ms m
declared_reported a b d names t decl ms m span place is rest made = λ aloud B n ns ts u are gives many F arity U A here known all.
    judged_denoted a b d (counted a b t n decl.arity (length ms) (length ns) span Reported place many aloud is) rest here
    (unknown_denoted b d _ n m (λ c h. sym (ap (λ (v : Bool). if v then same (type_at c n) (used (argument (types_of (types_of_nodes c ns))) (filled_at c n) u) ∷ [] else unresolved c n) (kept_last B n 1 false h))) names are (faults_assigns a b rest here) made)

-- The declaration of a type that is found stands for one of the definitions.
module _ {R : ℕ → Scheme → Type 0} {D : Declaration → rules.Declaration → Type 0} {X : Constructor → Option Typ → Type 0} where
  what_known : {w : What} {f : Referent} (d : Declaration) → WhatAs R D X w f → kind_named f ≡ type_kind → declared_in w ≡ Some d → (e : rules.Declaration) × D d e
  what_known d (of_value e h) k there = absurd (cc)
  what_known d (of_constructor e h c) k there = absurd (cc)
  what_known d (of_exception e h) k there = absurd (cc)
  what_known d (of_label e h l) k there = absurd (cc)
  what_known d (of_type {d = c} {e = e} is h) k there =
      let s : c.value ≡ d = (let q : Some c.value ≡ Some d = sym (ap declared_in is ∙ of_declared c) ∙ there in cc) in
      (e, subst (λ x. D x e) s h)
  what_known d (of_module e h) k there = absurd (cc)
  what_known d (of_module_type e h) k there = absurd (cc)

  entry_known : {x : Entry} {f : Named} (d : Declaration) → EntryAs R D X x f → kind_of x.kind ≡ type_kind → declared_in x.what ≡ Some d → (e : rules.Declaration) × D d e
  entry_known d (entry_as n k p w) is there = what_known d w (k ∙ is) there

  pub found_known : {y : FoundAmong Entry} {z : FoundAmong Named} (x : Entry) (d : Declaration) → y ≡ an_entry x → kind_of x.kind ≡ type_kind → ComesTo R D X y z → declared_in x.what ≡ Some d → (e : rules.Declaration) × D d e
  found_known x d f is (to_entry {e = w} {f = g} h) there =
      let s : w ≡ x = cc in
      entry_known d h (ap (λ (q : Entry). kind_of q.kind) s ∙ is) (ap (λ (q : Entry). declared_in q.what) s ∙ there)
  found_known x d f is to_hole there = absurd (cc)
  found_known x d f is to_nothing there = absurd (cc)

-- the faults alone change in the look-up
lookup_faults : (a b : Parts) (given : Option Entry) (lost : Option Tok) (t : Tok) (f : FoundAmong Entry) → BoundIs f given a b lost t word.Type → OnlyFaults a b
lookup_faults a b given lost t (an_entry e) is = same_faults a b is.1
lookup_faults a b given lost t a_hole is = same_faults a b is.1
lookup_faults a b given lost t nothing is = is.1.rest

-- The path was looked up.
module _ (a b e : Parts) (env : List Entry) (names : List Name) (ps : List ℕ) (given : Option Entry) (qs : List Tok) (t : Tok) (ns ms : List ℕ) (n m : ℕ) (names_to : DenotesNamed given b e names t ms m)
    (B : Before) (aloud : is_aloud a.telling ≡ true) (around : Around env names B) (ts : List Typ) (gives : GivesAll B.fixes ns ts) (many : length ns ≡ length ms)
    (F : Frame) (arity : ℕ) (U : List ℕ) (A : Assignment) (inside : Inside F arity U a A B.named env ps) (all : AllDenote A ms ts) (bound : BoundIs (found_at env qs kind.TypeName t) given a b (lost_among env qs) t word.Type) where
  faults : OnlyFaults a b
  faults = lookup_faults a b given (lost_among env qs) t (found_at env qs kind.TypeName t) bound

  here : Assigns F arity U (sight b) A
  here = faults_assigns a b faults inside.assigns

  -- the conditions behind the lookup, where it came to this
  abbrev Behind : FoundAmong Entry → Before
  Behind f = behind B (judged_as (site n 0) (is_found_here f)) []

  comes_to : (f : FoundAmong Entry) (c : Context) → IsBehind (Behind f) c → ComesTo (λ r sc. Unit {0}) (TypeAs B.named) (λ x o. Unit {0}) (found_at env qs kind.TypeName t) (lookup c.env (names_of qs) type_kind t.name)
  comes_to f c h = lookup_alike (λ r sc. Unit {0}) (TypeAs B.named) (λ x o. Unit {0}) (names_of qs) type_kind t.name (subst (λ es. TypesAs B.named es c.env) around.0 h.types)

  -- nothing is known of the name
  unknown_name : (f : FoundAmong Entry) → ((c : Context) → IsBehind (Behind f) c → after_lookup c n qs t ns ≡ unresolved c n) → DenotesNamed None b e names t ms m → EndDenoted (Behind f) (λ c. after_lookup c n qs t ns) F arity U b e A n m
  unknown_name f actual made = unknown_denoted b e (λ c. after_lookup c n qs t ns) n m (λ c h. sym (actual c h)) names around.1 here made

  by_found : (f : FoundAmong Entry) → found_at env qs kind.TypeName t ≡ f → BoundIs f given a b (lost_among env qs) t word.Type → EndDenoted (Behind f) (λ c. after_lookup c n qs t ns) F arity U b e A n m
  by_found nothing finds is =
      unknown_name nothing (λ c h. ap (λ (v : Bool). declared_type c n t ns (if v then then_by (referent_of (lookup c.env (names_of qs) type_kind t.name)) declaration_in else None)) (kept_last B n 0 false h)) (subst (λ o. DenotesNamed o b e names t ms m) is.0 names_to)
  by_found a_hole finds is =
      unknown_name a_hole (λ c h. ap (λ (v : Bool). declared_type c n t ns (if v then then_by (referent_of (lookup c.env (names_of qs) type_kind t.name)) declaration_in else None)) (kept_last B n 0 true h) ∙
      ap (declared_type c n t ns) (hole_none (λ f. then_by (referent_of f) declaration_in) refl finds (comes_to a_hole c h))) (subst (λ o. DenotesNamed o b e names t ms m) is.0 names_to)
  by_found (an_entry x) finds is = by (declared_in x.what) refl (subst (λ o. DenotesNamed o b e names t ms m) is.0 names_to)
    where
      is_kind : kind_of x.kind ≡ type_kind
      is_kind = found_of_kind type_kind env (names_of qs) t.name x finds

      finds_in : (c : Context) → IsBehind (Behind (an_entry x)) c → FindsType (λ r sc. Unit {0}) B.named (λ y o. Unit {0}) x (lookup c.env (names_of qs) type_kind t.name)
      finds_in c h = found_type (λ r sc. Unit {0}) B.named (λ y o. Unit {0}) x finds is_kind (comes_to (an_entry x) c h)

      -- in each context it is of the same arity and type
      each : (d : Declaration) → declared_in x.what ≡ Some d → (c : Context) → IsBehind (Behind (an_entry x)) c → after_lookup c n qs t ns ≡ declared_by c n t ns d.arity (B.named d)
      each d there c h =
          let f = finds_in c h in
          let s : f.declaration ≡ d = (let q : Some f.declaration ≡ Some d = sym f.here ∙ there in cc) in
          let arity_is = f.alike.0 ∙ ap (λ (d : Declaration). d.arity) s in
          let type_is = f.alike.1 ∙ ap B.named s in
          ap (λ (v : Bool). declared_type c n t ns (if v then then_by (referent_of (lookup c.env (names_of qs) type_kind t.name)) declaration_in else None)) (kept_last B n 0 true h) ∙
          ap (declared_type c n t ns) f.is ∙ (λ i. declared_by c n t ns (arity_is i) (type_is i))

      none : (c : Context) → IsBehind (Behind (an_entry x)) c → declared_in x.what ≡ None → ⊥
      none c h missing = let f = finds_in c h in let q : None ≡ Some f.declaration = sym missing ∙ f.here in cc

      -- and its root stands for this type
      known : (d : Declaration) → declared_in x.what ≡ Some d → IsKnownBy F d (B.named d)
      known d there =
          let (rule, alike) = found_known x d finds is_kind (lookup_alike (λ (r : ℕ) (sc : Scheme). Unit {0}) (KnownAs F.start F.roots inside.types.names B.named) (λ (y : Constructor) (o : Option Typ). Unit {0}) (names_of qs) type_kind t.name inside.types.entries) there in
          record { names = inside.types.names; rule = rule; alike = alike.0; is = alike.1 }

      by : (o : Option Declaration) → declared_in x.what ≡ o → DenotesDeclared o b e names t ms m → EndDenoted (Behind (an_entry x)) (λ c. after_lookup c n qs t ns) F arity U b e A n m
      by None missing made = unknown_denoted b e (λ c. after_lookup c n qs t ns) n m (λ c h. absurd (none c h missing)) names around.1 here made
      by (Some d) there to =
          end_here (λ c h. sym (each d there c h)) (to (subst (λ (p : Parts). is_aloud p.telling ≡ true) (sym is.1) aloud) (Behind (an_entry x)) n ns ts (B.named d) around.1 (all_left B.fixes [] ns ts gives) many F arity U A here (known d there) all)

  pub name_looked_up : EndDenoted B (λ c. constructor_asks c n (path_to qs t) ns) F arity U a e A n m
  name_looked_up =
      judged_denoted a b e (bound_judges a b {B = B} given word.Type qs t kind.TypeName type_word refl (site n 0) around.0 aloud bound) faults inside.assigns (by_found (found_at env qs kind.TypeName t) refl bound)

-- A constructor of types whose name is there.
pub name_denotes : (a b e : Parts) (env : List Entry) (names : List Name) (ps : List ℕ) (given : Option Entry) (qs : List Tok) (t : Tok) (ns ms : List ℕ) (n m : ℕ) → BoundIs (found_at env qs kind.TypeName t) given a b (lost_among env qs) t word.Type → DenotesNamed given b e names t ms m →
    DenotesEnd a e env names ps (λ c. constructor_asks c n (path_to qs t) ns) ns ms n m
name_denotes a b e env names ps given qs t ns ms n m bound names_to = λ aloud B around ts gives many F arity U A inside all. name_looked_up a b e env names ps given qs t ns ms n m names_to B aloud around ts gives many F arity U A inside all bound

-- A constructor of types whose name is missing.
pub nameless_denotes : (a b : Parts) (env : List Entry) (names : List Name) (ps : List ℕ) (qs : List Tok) (ns ms : List ℕ) (n m : ℕ) → MakesUnknown a b m → DenotesEnd a b env names ps (λ c. constructor_asks c n (record { qualifiers = qs; last = None }) ns) ns ms n m
nameless_denotes a b env names ps qs ns ms n m made = λ aloud B around ts gives many F arity U A inside all. unknown_denoted a b _ n m (λ c h. refl) names around.1 inside.assigns made
