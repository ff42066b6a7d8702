-- A constructor of types by its path: the demand that it is bound, that it takes as many arguments as are given, and what its declaration is over them.
use Rattle.std.proofs.Common.{◌≡◌, ◌∙◌, ◌++◌, ◌==◌, ℕ, Bool, true, false, List, [], ◌∷◌, length, Option, Some, None, refl, sym, ap, subst, if◌then◌else◌}
use Rattle.token_model.specs.Kinds.{Tok}
use Rattle.text_terms.specs.declared.Span.{Span}
use Rattle.syntax_tree.specs.View.{place_of}
use Rattle.type_model.specs.Types.{Typ, types_of}
use Rattle.signature_model.specs.Declarations.{type_of}
use Rattle.signature_model.specs.Entries.{type_kind}
use Rattle.signature_model.specs.Changes.{argument}
use Rattle.signature_model.specs.Matching.{used}
use Rattle.signature_model.specs.Lookups.{FoundAmong, an_entry, a_hole, nothing, lookup}
use Rattle.typing_model.specs.Demands.{site, type_word, Condition, same, test, arity}
use Rattle.typing_model.specs.Contexts.{Context, is_kept, ask, type_at, unresolved, filled_at, filled_in}
use Rattle.typing_model.specs.Parts as parts
use Rattle.typing_model.specs.Names.{names_of, referent_of, then_by, declaration_in}
use Rattle.typing_model.specs.TypeExpressions.{types_of_nodes, declared_type, constructor_asks}
use Rattle.type_nodes.specs.Readings.{Types}
use Rattle.level_unify.specs.Solutions.{Loose}
use Rattle.env_table.specs.declared.entries.Declaration.{Declaration}
use Rattle.env_table.specs.declared.entries.Entry.{Entry}
use Rattle.env_table.specs.declared.entries.Kind.TheVariants as kind
use Rattle.env_table.specs.Views.{kind_of}
use Rattle.typing_state.specs.declared.parts.Parts.{Parts}
use Rattle.typing_state.specs.declared.demands.Verdict.{Verdict}
use Rattle.typing_state.specs.declared.demands.Verdict.TheVariants.{Kept, Reported}
use Rattle.typing_state.specs.declared.messages.Word.TheVariants as word
use Rattle.typing_state.specs.Demands.{ArityIs}
use Rattle.typing_state.specs.Goes.{OnlyFaults, OnlyStore}
use Rattle.typing_state.specs.Types.{MakesVar, any_scope}
use Rattle.typing_state.specs.Bound.{lost_among, found_at, BoundIs}
use Rattle.typing_conditions.specs.Locals.{IsOwn}
use Rattle.typing_conditions.specs.Assumptions.{SchemeFits}
use Rattle.typing_conditions.specs.Standing.{IsIn}
use Rattle.typing_conditions.proofs.Own.{own_of}
use Rattle.typing_conditions.proofs.Environments.{lookup_alike}
use Rattle.typing_conditions.specs.Declared.{NoneUnknown, DeclaredAs, ExceptionAs}
use Rattle.typing_conditions.proofs.DeclaredLater.{declared_after}
use Rattle.typing_conditions.specs.Sights.{Letters, Agrees}
use Rattle.typing_conditions.specs.Frames.{Frame}
use Rattle.typing_conditions.specs.Judging.{judged_at, AreKept}
use Rattle.typing_conditions.specs.Meanings.{AllMean}
use Rattle.typing_conditions.specs.Carrying.{Scope, HoldsWritten, IsUnder}
use Rattle.typing_conditions.specs.Surroundings.{Surrounds}
use Rattle.typing_conditions.proofs.Framing.{root_on}
use Rattle.typing_conditions.proofs.Meaning.{all_mean_on}
use Rattle.typing_conditions.proofs.Branching.{carried_after, after_hides}
use Rattle.typing_conditions.proofs.Carried.{trans_hides}
use Rattle.typing_conditions.specs.Hiding.{HasCopy}
use Rattle.typing_conditions.proofs.Hiding.{keeps_same, owns_on}
use Rattle.typing_steps.specs.States.{is_aloud, sight}
use Rattle.typing_steps.specs.Demands.{JudgedAs, is_found_here, bound_asks}
use Rattle.typing_steps.specs.Demands as verdicts
use Rattle.typing_steps.specs.Typing.{as_declared}
use Rattle.typing_steps.proofs.Testing.{carried_here, arity_asked, judged_if}
use Rattle.typing_steps.proofs.Finding.{bound_asked}
use Rattle.typing_steps.proofs.Valued.{found_of_kind}
use Rattle.typing_steps.proofs.Constructing.{hole_none}
use Rattle.typing_rows.specs.TypeContracts.{RowReadIf, RowRead, types_at, EndsRead}
use Rattle.typing_rows.specs.Declaring.{declared_in, AppliesTo, DeclaresTo, NamesTo}
use Rattle.typing_rows.proofs.Reading.{row_read, alone_row, same_carried, unresolved_made, unresolved_read}
use Rattle.typing_rows.proofs.Composed.{as_many}
use Rattle.typing_rows.proofs.Declared.{same_declared, FindsDeclaration, finds_declaration}

-- what the definitions ask of the name of a type, by the arity and the type of its declaration
abbrev declared_by : Context → ℕ → Tok → List ℕ → ℕ → Typ → List Condition
declared_by c n t ns k u =
    ask n 1 (parts.place_of t) (test (arity t.name k (length ns)) (k == length ns)) ++ (if is_kept c n 1 then same (type_at c n) (used (argument (types_of (types_of_nodes c ns))) (filled_at c n) u) ∷ [] else unresolved c n)

-- the demand on the number of arguments
counted : (a b : Parts) {F : Frame} {scope : Scope} {G : Letters} (t : Tok) (n k given : ℕ) (span : Span) (v : Verdict) → place_of span ≡ parts.place_of t → is_aloud a.telling ≡ true → ArityIs v a b span t.name k given → OnlyFaults a b →
    JudgedAs F scope (λ c. ask n 1 (parts.place_of t) (test (arity t.name k given) (k == given))) (sight a) G (sight b) G (site n 1) (verdicts.is_kept v)
counted a b {F} {scope} {G} t n k given span v place aloud is only =
    subst (λ p. JudgedAs F scope (λ c. ask n 1 p (test (arity t.name k given) (k == given))) (sight a) G (sight b) G (site n 1) (verdicts.is_kept v)) place (arity_asked a b (site n 1) v aloud is only)

-- The type of a name is its declaration over the arguments, where there are as many as it takes.
pub declared_kept : (a b d : Parts) (t : Tok) (x : Entry) (decl : Declaration) (ms : List ℕ) (m : ℕ) (span : Span) → place_of span ≡ parts.place_of t → declared_in x.what ≡ Some decl → ArityIs Kept a b span t.name decl.arity (length ms) → OnlyFaults a b → AppliesTo b d decl ms m →
    DeclaresTo a d t x ms m
declared_kept a b d t x decl ms m span place here is only applies aloud F scope G n ns roots names decl' e reached item there alike are_roots all = by one
  where
    one : decl' ≡ decl
    one = let f : Some decl' ≡ Some decl = sym there ∙ here in cc

    by : decl' ≡ decl → RowReadIf (NoneUnknown names) F scope (λ c. declared_type c n t ns (Some e)) (sight a) G (sight d) n m
    by same_one =
        let as_decl = subst (λ z. DeclaredAs a.store.nodes roots names z e) same_one alike in
        let many : length ns ≡ length ms = as_many ns ms all in
        let arity_is : decl.arity ≡ e.arity = sym as_decl.arity in
        let judged = subst (λ k. JudgedAs F scope (λ c. ask n 1 (parts.place_of t) (test (arity t.name e.arity k) (e.arity == k))) (sight a) G (sight b) G (site n 1) true) (sym many)
        (subst (λ k. JudgedAs F scope (λ c. ask n 1 (parts.place_of t) (test (arity t.name k (length ms)) (k == length ms))) (sight a) G (sight b) G (site n 1) true) arity_is
        (counted a b {F = F} {scope = scope} {G = G} t n decl.arity (length ms) span Kept place aloud is only)) in
        let stays = judged.carried.stays in
        let own_a = own_of a.store.nodes reached.sound in
        let own_b = own_of b.store.nodes (stays.reaches reached).sound in
        let later = declared_after own_a.1 (stays.refines reached own_b.0 own_b.1) (λ r i. i) as_decl in
        let typed = applies F scope G n ns roots names e (stays.reaches reached) later (λ k r f. root_on stays reached (are_roots k r f)) (many ∙ sym is.0 ∙ arity_is) (all_mean_on stays all) in
        let ended = same_carried n typed.letters typed.typed in
        let asked = carried_here (λ V c loose under g named. ap (λ f. same (type_at c n) (used (argument (types_of (types_of_nodes c ns))) f (type_of e)) ∷ []) (sym (ap (λ v. filled_in c n v) (under.variables ∙ item)))) ended.carried in
        row_read n typed.letters (judged_if (λ c. same (type_at c n) (used (argument (types_of (types_of_nodes c ns))) (filled_at c n) (type_of e)) ∷ []) (λ c. unresolved c n) judged asked) ended.means.open_node typed.of_row

-- Else that is reported, and the type is any one.
pub declared_reported : (a b d : Parts) (t : Tok) (x : Entry) (decl : Declaration) (ms : List ℕ) (m : ℕ) (span : Span) → place_of span ≡ parts.place_of t → declared_in x.what ≡ Some decl → ArityIs Reported a b span t.name decl.arity (length ms) → OnlyFaults a b →
    MakesVar b d m any_scope → OnlyStore b d → DeclaresTo a d t x ms m
declared_reported a b d t x decl ms m span place here is only made rest aloud F scope G n ns roots names decl' e reached item there alike are_roots all = by one
  where
    one : decl' ≡ decl
    one = let f : Some decl' ≡ Some decl = sym there ∙ here in cc

    by : decl' ≡ decl → RowReadIf (NoneUnknown names) F scope (λ c. declared_type c n t ns (Some e)) (sight a) G (sight d) n m
    by same_one =
        let as_decl = subst (λ z. DeclaredAs a.store.nodes roots names z e) same_one alike in
        let many : length ns ≡ length ms = as_many ns ms all in
        let arity_is : decl.arity ≡ e.arity = sym as_decl.arity in
        let judged = subst (λ k. JudgedAs F scope (λ c. ask n 1 (parts.place_of t) (test (arity t.name e.arity k) (e.arity == k))) (sight a) G (sight b) G (site n 1) false) (sym many)
        (subst (λ k. JudgedAs F scope (λ c. ask n 1 (parts.place_of t) (test (arity t.name k (length ms)) (k == length ms))) (sight a) G (sight b) G (site n 1) false) arity_is
        (counted a b {F = F} {scope = scope} {G = G} t n decl.arity (length ms) span Reported place aloud is only)) in
        let ended = unresolved_made b d {F = F} {scope = scope} {G = G} n (judged.carried.stays.reaches reached) item made rest in
        alone_row n (judged_if (λ c. same (type_at c n) (used (argument (types_of (types_of_nodes c ns))) (filled_at c n) (type_of e)) ∷ []) (λ c. unresolved c n) judged ended.carried) ended.means.open_node

-- the path of a name that is there
abbrev pub path_to : List Tok → Tok → parts.Written
path_to qs t = record { qualifiers = qs; last = Some t }

-- what is asked once the path is looked up
abbrev pub after_lookup : Context → ℕ → List Tok → Tok → List ℕ → List Condition
after_lookup c n qs t ns = declared_type c n t ns (if is_kept c n 0 then then_by (referent_of (lookup c.env (names_of qs) type_kind t.name)) declaration_in else None)

-- The path was looked up.
module _ (a b e : Parts) (env : List Entry) (given : Option Entry) (qs : List Tok) (t : Tok) (ns ms : List ℕ) (n m : ℕ) (bound : BoundIs (found_at env qs kind.TypeName t) given a b (lost_among env qs) t word.Type) (names_to : NamesTo given b e t ms m)
    {F : Frame} {scope : Scope} {G : Letters} (aloud : is_aloud a.telling ≡ true) (names : Surrounds as_declared F (sight a) G env scope) (all : AllMean F (sight a) G (types_at ns) ms) where
  judged : JudgedAs F scope (λ c. bound_asks c (site n 0) type_kind type_word qs t) (sight a) G (sight b) G (site n 0) (is_found_here (found_at env qs kind.TypeName t))
  judged = bound_asked a b given word.Type qs t kind.TypeName type_word refl (site n 0) names aloud bound

  kept_as : (c : Context) (v : Bool) → is_found_here (found_at env qs kind.TypeName t) ≡ v → AreKept c.kept judged.carried.judged → c.kept (site n 0) ≡ v
  kept_as c v f h = let k : AreKept c.kept (judged_at (site n 0) (is_found_here (found_at env qs kind.TypeName t)) false ∷ []) = subst (AreKept c.kept) judged.verdict h in k.0 ∙ f

  own_a : (I : Types) × IsOwn a.store.nodes I
  own_a = own_of a.store.nodes names.reached.sound

  -- nothing is known of the name
  unknown : (actual : (c : Context) → AreKept c.kept judged.carried.judged → (V : Types) → Loose a.store.nodes V → IsUnder scope c → Agrees F.owner (sight a) G V c.chosen → HoldsWritten scope (sight a) → after_lookup c n qs t ns ≡ unresolved c n) → NamesTo None b e t ms m →
      RowRead F scope (λ c. constructor_asks c n (path_to qs t) ns) (sight a) G (sight e) n m
  unknown actual to =
      let x = unresolved_made b e {F = F} {scope = scope} {G = G} n (judged.carried.stays.reaches names.reached) names.item to.0 to.1 in
      alone_row n (carried_after judged.carried (λ V c loose under g named h. actual c h V loose under g named) x.carried) x.means.open_node

  pub by_found : (f : FoundAmong Entry) → found_at env qs kind.TypeName t ≡ f → BoundIs f given a b (lost_among env qs) t word.Type → RowRead F scope (λ c. constructor_asks c n (path_to qs t) ns) (sight a) G (sight e) n m
  by_found nothing finds is = unknown (λ c h V loose under g named. ap (λ v. declared_type c n t ns (if v then then_by (referent_of (lookup c.env (names_of qs) type_kind t.name)) declaration_in else None)) (kept_as c false (ap is_found_here finds) h)) (subst (λ o. NamesTo o b e t ms m) is.0 names_to)
  by_found a_hole finds is = unknown (λ c h V loose under g named.
      ap (λ v. declared_type c n t ns (if v then then_by (referent_of (lookup c.env (names_of qs) type_kind t.name)) declaration_in else None)) (kept_as c true (ap is_found_here finds) h) ∙
      ap (declared_type c n t ns) (ap (λ E. then_by (referent_of (lookup E (names_of qs) type_kind t.name)) declaration_in) under.env ∙ hole_none (λ f. then_by (referent_of f) declaration_in) refl finds
      (lookup_alike (λ r sc. SchemeFits a.store.nodes V r sc × IsIn names.roots r) (DeclaredAs a.store.nodes names.roots names.names) (ExceptionAs a.store.nodes names.roots names.names) (names_of qs) type_kind t.name
      (names.fits own_a.0 V c.chosen own_a.1 loose g named).names))) (subst (λ o. NamesTo o b e t ms m) is.0 names_to)
  by_found (an_entry x) finds is = found
    where
      is_kind : kind_of x.kind ≡ type_kind
      is_kind = found_of_kind type_kind env (names_of qs) t.name x finds

      here : FindsDeclaration (λ r sc. IsIn names.roots r) a.store.nodes names.roots names.names x (lookup names.covered.0 (names_of qs) type_kind t.name)
      here = finds_declaration (λ r sc. IsIn names.roots r) a.store.nodes names.roots names.names (names_of qs) t.name x finds is_kind names.covered.1

      -- in each context it is of the same arity and type
      each : (V : Types) (c : Context) → Loose a.store.nodes V → IsUnder scope c → Agrees F.owner (sight a) G V c.chosen → HoldsWritten scope (sight a) → AreKept c.kept judged.carried.judged → after_lookup c n qs t ns ≡ declared_type c n t ns (Some here.named)
      each V c loose under g named h =
          let f = finds_declaration (λ r sc. SchemeFits a.store.nodes V r sc × IsIn names.roots r) a.store.nodes names.roots names.names (names_of qs) t.name x finds is_kind (names.fits own_a.0 V c.chosen own_a.1 loose g named).names in
          let s : f.declaration ≡ here.declaration = (let q : Some f.declaration ≡ Some here.declaration = sym f.here ∙ here.here in cc) in
          let alike = same_declared own_a.1 (subst (λ z. DeclaredAs a.store.nodes names.roots names.names z f.named) s f.alike) here.alike in
          ap (λ v. declared_type c n t ns (if v then then_by (referent_of (lookup c.env (names_of qs) type_kind t.name)) declaration_in else None)) (kept_as c true (ap is_found_here finds) h) ∙
          ap (declared_type c n t ns) (ap (λ E. then_by (referent_of (lookup E (names_of qs) type_kind t.name)) declaration_in) under.env ∙ f.is) ∙
          (λ i. declared_by c n t ns (alike.0 i) (alike.1 i))

      to : DeclaresTo b e t x ms m
      to = subst (λ o. NamesTo o b e t ms m) is.0 names_to

      alike_b : DeclaredAs b.store.nodes names.roots names.names here.declaration here.named
      alike_b = let own_b = own_of b.store.nodes (judged.carried.stays.reaches names.reached).sound in declared_after own_a.1 (judged.carried.stays.refines names.reached own_b.0 own_b.1) (λ r i. i) here.alike

      found : RowRead F scope (λ c. constructor_asks c n (path_to qs t) ns) (sight a) G (sight e) n m
      found =
          let st = judged.carried.stays in
          let y = to (st.aloud ∙ aloud) F scope G n ns names.roots names.names here.declaration here.named (st.reaches names.reached) names.item here.here alike_b
          (λ k r f. root_on st names.reached (names.are_roots k r f)) (all_mean_on st all) in
          record {
            letters = y.letters;
            carried = carried_after judged.carried each y.carried;
            means = y.means;
            owns = λ known. owns_on keeps_same (λ z h. subst (λ xs. HasCopy xs z) (sym (after_hides judged.carried each y.carried)) ((trans_hides judged.carried y.carried).1 z h)) (y.owns (names.known known).plain);
          }

-- A constructor of types whose name is there.
pub name_ends : (a b e : Parts) (env : List Entry) (given : Option Entry) (qs : List Tok) (t : Tok) (ns ms : List ℕ) (n m : ℕ) → BoundIs (found_at env qs kind.TypeName t) given a b (lost_among env qs) t word.Type → NamesTo given b e t ms m →
    EndsRead a e env (λ c. constructor_asks c n (path_to qs t) ns) ns ms n m
name_ends a b e env given qs t ns ms n m bound names_to = λ aloud F scope G names all. by_found a b e env given qs t ns ms n m bound names_to aloud names all (found_at env qs kind.TypeName t) refl bound

-- A constructor of types whose name is missing.
pub nameless_ends : (a b : Parts) (env : List Entry) (qs : List Tok) (ns ms : List ℕ) (n m : ℕ) → MakesVar a b m any_scope → OnlyStore a b → EndsRead a b env (λ c. constructor_asks c n (record { qualifiers = qs; last = None }) ns) ns ms n m
nameless_ends a b env qs ns ms n m made rest = λ aloud F scope G s all. unresolved_read a b n s.reached s.item made rest
