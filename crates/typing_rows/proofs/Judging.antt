-- Demands on names in a declaration: each is judged, kept or reported, whatever the types.
use Rattle.std.proofs.Common.{◌≡◌, ◌∙◌, ◌++◌, ◌⊎◌, inl, inr, ℕ, ◌+◌, ◌==◌, Bool, true, false, List, [], ◌∷◌, Option, Some, None, refl, sym, ap, subst, append-nil, arith}
use Rattle.std.specs.Prelude.{slice_get}
use Rattle.std.proofs.lemmas.Bool.{ne_eqb}
use Rattle.token_model.specs.Kinds.{Tok}
use Rattle.text_terms.specs.declared.Span.{Span}
use Rattle.tree_model.specs.Trees.{Place}
use Rattle.syntax_tree.specs.View.{place_of}
use Rattle.type_model.proofs.Applying.{eqb_same}
use Rattle.type_model.specs.Types.{Typ}
use Rattle.type_model.specs.Schemes.{Scheme}
use Rattle.signature_model.specs.Lookups.{FoundAmong, an_entry, a_hole, nothing, lookup}
use Rattle.typing_model.specs.Demands.{Site, Word, Complaint, demand, test, AllHold}
use Rattle.typing_model.specs.Demands as complaint
use Rattle.typing_model.specs.Contexts.{Context}
use Rattle.typing_model.specs.Names as rules
use Rattle.typing_model.specs.Names.{names_of, place_unbound, complaint_unbound}
use Rattle.typing_model.specs.Messages.{word_text, complaint_text}
use Rattle.env_table.specs.declared.entries.Constructor.{Constructor}
use Rattle.env_table.specs.declared.entries.Entry.{Entry}
use Rattle.env_table.specs.declared.entries.Kind.{Kind}
use Rattle.env_table.specs.Views.{kind_of}
use Rattle.typing_state.specs.declared.parts.Parts.{Parts}
use Rattle.typing_state.specs.declared.demands.Verdict.{Verdict}
use Rattle.typing_state.specs.declared.demands.Verdict.TheVariants.{Kept, Reported}
use Rattle.typing_state.specs.declared.messages.Word.{Word as Called}
use Rattle.typing_state.specs.declared.messages.Word.TheVariants as word
use Rattle.typing_state.specs.Messages as messages
use Rattle.typing_state.specs.Demands.{ArityIs}
use Rattle.typing_state.specs.Goes.{faults_of, Told}
use Rattle.typing_state.specs.Bound.{lost_among, found_at, BoundIs}
use Rattle.typing_conditions.proofs.Environments.{lookup_alike}
use Rattle.typing_conditions.proofs.Equals.{judged_as, falls_short, not_both}
use Rattle.typing_conditions.specs.Sights.{Report, Sight}
use Rattle.typing_conditions.specs.Steps.{IsTold}
use Rattle.typing_conditions.specs.Judging.{judgements, FallsShort, TellBy}
use Rattle.typing_conditions.specs.Judging as judging
use Rattle.typing_conditions.specs.Carrying.{Asks}
use Rattle.typing_steps.specs.States.{is_aloud, sight}
use Rattle.typing_steps.specs.Demands.{is_kept, is_found_here, bound_asks}
use Rattle.typing_steps.proofs.Seeing.{tells_one}
use Rattle.typing_steps.proofs.Testing.{complains_really}
use Rattle.typing_steps.proofs.Finding.{found_so, lost_so, tells_unbound, tells_called}
use Rattle.typing_rows.specs.Settled.{AreFixed, Before, IsBehind, Settled}
use Rattle.typing_rows.specs.Around.{TypeAs, TypesAs}
use Rattle.typing_rows.proofs.Settling.{first_single, settled_here}

-- from one state to another the one demand of conditions is judged so, and is reported where it isn't kept
pub record Judges (B : Before) (asks : Asks) (a b : Sight) (s : Site) (v : Bool) : Type 0 where
  pub told : List Report
  pub reports : b.reports ≡ a.reports ++ told
  pub settled : Settled B asks (judged_as s v) told []

-- a test that holds
test_held : {B : Before} {at : Place} (x : Complaint) (s : Site) → Settled B (λ c. demand s at (test x true) ∷ []) (judged_as s true) [] []
test_held {B} {at} x s = record {
  counted = refl;
  sound = λ c b k f. record {
    same = ap (judged_as s) k.0;
    holds = ((λ kept. refl), tt);
    tells = subst (λ t. TellBy t at (test x true) (λ later. later ≡ []) []) (sym k.0) refl;
    sees = tt;
    starts = refl;
  };
  follows = λ c b f. (refl, λ k. refl);
  complete = complete;
  first = first_single [] (λ c. demand s at (test x true)) complete;
}
  where
    by : (c : Context) (t : Bool) → c.kept s ≡ t → ((judged_as s (c.kept s) ≡ judged_as s true) × AreFixed [] c.chosen) ⊎ FallsShort (judged_as s (c.kept s)) (judged_as s true)
    by c true k = inl (ap (judged_as s) k, tt)
    by c false k = inr (falls_short s k)

    complete : (c : Context) → IsBehind B c → AllHold c.kept (demand s at (test x true) ∷ []) → ((judgements c.kept (demand s at (test x true) ∷ []) ≡ judged_as s true) × AreFixed [] c.chosen) ⊎ FallsShort (judgements c.kept (demand s at (test x true) ∷ [])) (judged_as s true)
    complete c b h = by c (c.kept s) refl

-- a test that doesn't hold, and is reported
test_reported : {B : Before} {at : Place} (x : Complaint) (s : Site) (r : Report) → r.at ≡ at → r.kind ≡ judging.kind_of x → r.message ≡ complaint_text x → Settled B (λ c. demand s at (test x false) ∷ []) (judged_as s false) (r ∷ []) []
test_reported {B} {at} x s r place kind message = record {
  counted = refl;
  sound = λ c b k f. record {
    same = ap (judged_as s) k.0;
    holds = ((λ kept. absurd (not_both k.0 kept)), tt);
    tells = subst (λ t. TellBy t at (test x false) (λ later. later ≡ []) (r ∷ [])) (sym k.0) (r, [], refl, record { place = place; kind = kind; message = message }, refl);
    sees = tt;
    starts = refl;
  };
  follows = λ c b f. (refl, λ k. refl);
  complete = complete;
  first = first_single [] (λ c. demand s at (test x false)) complete;
}
  where
    by : (c : Context) → (c.kept s ≡ true → false ≡ true) → (t : Bool) → c.kept s ≡ t → ((judged_as s (c.kept s) ≡ judged_as s false) × AreFixed [] c.chosen) ⊎ FallsShort (judged_as s (c.kept s)) (judged_as s false)
    by c h true k = absurd (let e : false ≡ true = h k in cc)
    by c h false k = inl (ap (judged_as s) k, tt)

    complete : (c : Context) → IsBehind B c → AllHold c.kept (demand s at (test x false) ∷ []) → ((judgements c.kept (demand s at (test x false) ∷ []) ≡ judged_as s false) × AreFixed [] c.chosen) ⊎ FallsShort (judgements c.kept (demand s at (test x false) ∷ [])) (judged_as s false)
    complete c b h = by c h.0 (c.kept s) refl

-- a test that leaves the reports where it holds, and is told where it doesn't
pub test_judges : {B : Before} {at : Place} {a b : Sight} (x : Complaint) (s : Site) (v : Bool) → IsTold a b at (judging.kind_of x) (complaint_text x) v → Judges B (λ c. demand s at (test x v) ∷ []) a b s v
test_judges {a = a} x s true tells = record { told = []; reports = tells ∙ sym (append-nil a.reports); settled = test_held x s }
test_judges x s false tells = record { told = tells.report ∷ []; reports = tells.reports; settled = test_reported x s tells.report tells.place tells.is_kind tells.says }

-- the conditions may be written in another way, where they are the same in each context that stands there
pub judges_here : {B : Before} {asks others : Asks} {a b : Sight} {s : Site} {v : Bool} → ((c : Context) → IsBehind B c → asks c ≡ others c) → Judges B asks a b s v → Judges B others a b s v
judges_here e p = record { told = p.told; reports = p.reports; settled = settled_here e p.settled }

-- a call that reports a complaint, by its own clauses
pub complaint_judges : (a b : Parts) {B : Before} {at : Span} (x : Complaint) (s : Site) → is_aloud a.telling ≡ true → Told a.telling (faults_of a) (faults_of b) at (judging.kind_of x) (complaint_text x) →
    Judges B (λ c. demand s (place_of at) (test x false) ∷ []) (sight a) (sight b) s false
complaint_judges a b {at = at} x s aloud told = test_judges x s false (tells_one a b at (judging.kind_of x) (complaint_text x) (complains_really x) aloud told)

-- `arity`: as many arguments are given as are taken, or that is reported
pub arity_judges : (a b : Parts) {B : Before} {at : Span} {name : List ℕ} {taken given : ℕ} (s : Site) (v : Verdict) → is_aloud a.telling ≡ true → ArityIs v a b at name taken given →
    Judges B (λ c. demand s (place_of at) (test (complaint.arity name taken given) (taken == given)) ∷ []) (sight a) (sight b) s (is_kept v)
arity_judges a b {B} {at} {name} {taken} {given} s Kept aloud (e, same) =
    let holds : true ≡ (taken == given) = sym (ap (λ n. taken == n) (sym e) ∙ eqb_same taken) in
    subst (λ t. Judges B (λ c. demand s (place_of at) (test (complaint.arity name taken given) t) ∷ []) (sight a) (sight b) s true) holds
    (test_judges (complaint.arity name taken given) s true (ap (λ p. (sight p).reports) same))
arity_judges a b {B} {at} {name} {taken} {given} s Reported aloud (other, told) =
    subst (λ t. Judges B (λ c. demand s (place_of at) (test (complaint.arity name taken given) t) ∷ []) (sight a) (sight b) s false) (sym (ne_eqb taken given other))
    (test_judges (complaint.arity name taken given) s false (tells_one a b at (judging.kind_of (complaint.arity name taken given)) _ refl aloud told))

-- what comes of the demand that a path is bound, whatever the names stand for
bound_so : (a b : Parts) {B : Before} (x : FoundAmong Entry) (given : Option Entry) (lost : Option Tok) (t : Tok) (called : Called) (w : Word) (s : Site) → messages.word_text called ≡ word_text w → is_aloud a.telling ≡ true → BoundIs x given a b lost t called →
    Judges B (λ c. demand s (place_unbound lost t) (test (complaint_unbound lost w t) (is_found_here x)) ∷ []) (sight a) (sight b) s (is_found_here x)
bound_so a b (an_entry e) given lost t called w s one aloud (_, same) = test_judges (complaint_unbound lost w t) s true (ap (λ p. (sight p).reports) same)
bound_so a b a_hole given lost t called w s one aloud (_, same) = test_judges (complaint_unbound lost w t) s true (ap (λ p. (sight p).reports) same)
bound_so a b nothing given None t called w s one aloud (_, lost) = test_judges (complaint_unbound None w t) s false (tells_called a b called w t.name one aloud lost.told)
bound_so a b nothing given (Some q) t called w s one aloud (_, lost) = test_judges (complaint_unbound (Some q) w t) s false (tells_unbound a b word.Module q.name aloud lost.told)

-- `bound`: a path finds what the definitions find, a hole included; where it finds nothing, that is reported
pub bound_judges : (a b : Parts) {B : Before} {env : List Entry} (given : Option Entry) (called : Called) (qs : List Tok) (t : Tok) (kind : Kind) (w : Word) → messages.word_text called ≡ word_text w → (s : Site) → B.env ≡ env →
    is_aloud a.telling ≡ true → BoundIs (found_at env qs kind t) given a b (lost_among env qs) t called → Judges B (λ c. bound_asks c s (kind_of kind) w qs t) (sight a) (sight b) s (is_found_here (found_at env qs kind t))
bound_judges a b {B} {env} given called qs t kind w one s at aloud is = judges_here same (bound_so a b (found_at env qs kind t) given (lost_among env qs) t called w s one aloud is)
  where
    same : (c : Context) → IsBehind B c → demand s (place_unbound (lost_among env qs) t) (test (complaint_unbound (lost_among env qs) w t) (is_found_here (found_at env qs kind t))) ∷ [] ≡ bound_asks c s (kind_of kind) w qs t
    same c behind =
        let stands = subst (λ es. TypesAs B.named es c.env) at behind.types in
        let R : ℕ → Scheme → Type 0 = λ r sc. Unit {0} in
        let X : Constructor → Option Typ → Type 0 = λ x o. Unit {0} in
        let lost : lost_among env qs ≡ rules.lost_behind c.env [] qs = lost_so R (TypeAs B.named) X env c.env stands qs [] 0 qs (λ j. ap (slice_get qs) (let e : 0 + j ≡ j = omega arith in e)) in
        let found : is_found_here (found_at env qs kind t) ≡ rules.is_found (lookup c.env (names_of qs) (kind_of kind) t.name) = found_so R (TypeAs B.named) X (lookup_alike R (TypeAs B.named) X (names_of qs) (kind_of kind) t.name stands) in
        λ i. demand s (place_unbound (lost i) t) (test (complaint_unbound (lost i) w t) (found i)) ∷ []
