-- Cases in order, whose bodies have one type.
use Rattle.std.proofs.Common.{◌≡◌, ◌∙◌, ◌++◌, ℕ, ◌+◌, List, [], ◌∷◌, Option, Some, None, option_map, refl, sym, ap, subst, append_assoc, append-nil, inl, inr, ◌⊎◌, arith}
use Rattle.std.specs.List.{cons_option}
use Rattle.type_model.specs.Types.{Typ}
use Rattle.typing_model.specs.Contexts.{Choice, Context}
use Rattle.typing_model.specs.Parts.{Case}
use Rattle.typing_model.specs.Expressions.{case_asks}
use Rattle.type_terms.specs.declared.types.NodeRef.{NodeRef}
use Rattle.env_table.specs.declared.entries.Entry.{Entry}
use Rattle.typing_state.specs.declared.parts.Parts.{Parts}
use Rattle.typing_state.specs.Goes.{Goes}
use Rattle.typing_conditions.specs.Sights.{Sight, Letters, letter, Key}
use Rattle.typing_conditions.specs.Frames.{Frame}
use Rattle.typing_conditions.specs.Meanings.{Means}
use Rattle.typing_conditions.specs.Carrying.{Scope, Carried, CarriedTo}
use Rattle.typing_conditions.specs.Hiding.{NoneDoubtful, AreOfRow, AreDone, IsOwned, of_row, of_done, Owns}
use Rattle.typing_conditions.proofs.Carried.{carried_refl, carried_trans, carried_as, done_then, done_as, done_last}
use Rattle.typing_conditions.proofs.Meaning.{means_on}
use Rattle.typing_conditions.proofs.Surrounding.{surrounds_on}
use Rattle.typing_conditions.proofs.Hiding.{done_none, done_both, below_more, split_get, in_first, in_second}
use Rattle.typing_steps.specs.States.{is_aloud, sight}
use Rattle.typing_steps.specs.Warning.{OnlyWarnings}
use Rattle.binding_rows.specs.Cases.{type_by, MeansIf, cases_from, body_type, bodies_type, result_type, TypesCase, TypesCaseIf, CasesCarried, TypesEachCase, TypesCasesFirst, CasesTo, TypesCases, GivenOrAny}
use Rattle.binding_rows.proofs.Scopes.{only_warned}
use Rattle.binding_rows.proofs.Cases.{means_if_on}
use Rattle.pattern_rows.proofs.Opened.{done_grouped}
use Rattle.std.specs.Prelude.{slice_get}

-- no case yet
pub cases_none : (a : Parts) (env : List Entry) (all : List Case) (matched : ℕ) (known : Option ℕ) → TypesCasesFirst a a env all all matched known known
cases_none a env all matched known = λ aloud F scope G n subject result its s of_subject has. record { done = λ c. []; k = 0; now = result; own = []; carried = carried_refl; rows_done = done_none; means = has; asks = λ c. refl; gives = refl }

-- what cases ask, by the first of them
cases_step : (c : Context) (n k : ℕ) (subject : Typ) (result : Option (Choice → Typ)) (x : Case) (xs : List Case) →
    cases_from c n k subject (type_by c.chosen result) (x ∷ xs) ≡ case_asks c n k subject (type_by c.chosen result) x ++ cases_from c n (k + 3) subject (Some (body_type result x.body c.chosen)) xs
cases_step c n k subject None x xs = refl
cases_step c n k subject (Some t) x xs = refl

-- the type of the bodies, by the first of them
bodies_step : (result : Option (Choice → Typ)) (x : Case) (xs : List Case) → bodies_type result (x ∷ xs) ≡ bodies_type (Some (body_type result x.body)) xs
bodies_step None x xs = refl
bodies_step (Some t) x xs = refl

-- one case more
pub cases_more : (a b d : Parts) (env : List Entry) (all left rest : List Case) (x : Case) (matched : ℕ) (known bodies : Option ℕ) (m : ℕ) → left ≡ x ∷ rest → Goes a b → TypesCasesFirst a b env all left matched known bodies → TypesCase b d env x matched bodies m →
    TypesCasesFirst a d env all rest matched known (Some m)
cases_more a b d env all left rest x matched known bodies m split goes first one = λ aloud F scope G n subject result its s of_subject has.
    let p = first aloud F scope G n subject result its s of_subject has in
    let q = one (ap is_aloud goes.telling ∙ aloud) F scope (p.own ++ G) n p.k subject p.now its (surrounds_on p.carried.stays s) (means_on p.carried.stays of_subject) p.means in
    let same = sym (append_assoc q.own p.own G) in
    record {
      done = λ c. p.done c ++ case_asks c n p.k (subject c.chosen) (type_by c.chosen p.now) x;
      k = p.k + 3;
      now = Some (body_type p.now x.body);
      own = q.own ++ p.own;
      carried = subst (λ H. Carried F scope (λ c. p.done c ++ case_asks c n p.k (subject c.chosen) (type_by c.chosen p.now) x) (sight a) G (sight d) H) same (carried_trans p.carried q.carried);
      rows_done = done_grouped same (carried_trans p.carried q.carried) (done_both (done_last p.carried q.carried q.done) (done_then p.carried q.carried p.rows_done));
      means = subst (λ H. Means F (sight d) H (body_type p.now x.body) m) same q.means;
      asks = λ c.
          p.asks c ∙ ap (λ xs. p.done c ++ cases_from c n p.k (subject c.chosen) (type_by c.chosen p.now) xs) split ∙ ap (λ ys. p.done c ++ ys) (cases_step c n p.k (subject c.chosen) p.now x rest) ∙
          sym (append_assoc (p.done c) (case_asks c n p.k (subject c.chosen) (type_by c.chosen p.now) x) (cases_from c n (p.k + 3) (subject c.chosen) (Some (body_type p.now x.body c.chosen)) rest));
      gives = p.gives ∙ ap (bodies_type p.now) split ∙ bodies_step p.now x rest;
    }

-- an operand that is no case
pub cases_same : (a b d : Parts) (env : List Entry) (all left : List Case) (matched : ℕ) (known bodies : Option ℕ) → Goes a b → TypesCasesFirst a b env all left matched known bodies →
    ((F : Frame) (scope : Scope) (G : Letters) → Carried F scope (λ c. []) (sight b) G (sight d) G) → TypesCasesFirst a d env all left matched known bodies
cases_same a b d env all left matched known bodies goes first still = λ aloud F scope G n subject result its s of_subject has.
    let p = first aloud F scope G n subject result its s of_subject has in
    let q = still F scope (p.own ++ G) in
    record {
      done = p.done;
      k = p.k;
      now = p.now;
      own = p.own;
      carried = carried_as (λ c. append-nil (p.done c)) (carried_trans p.carried q);
      rows_done = done_as _ (carried_trans p.carried q) (done_then p.carried q p.rows_done);
      means = means_if_on p.now bodies q.stays p.means;
      asks = p.asks;
      gives = p.gives;
    }

-- one operand more, which may be no case
pub cases_further : (a b d : Parts) (env : List Entry) (all left rest : List Case) (x : Option Case) (matched : ℕ) (known bodies now : Option ℕ) → left ≡ cons_option x rest → Goes a b →
    TypesCasesFirst a b env all left matched known bodies → TypesCaseIf b d env x matched bodies now → TypesCasesFirst a d env all rest matched known now
cases_further a b d env all left rest None matched known bodies now split goes first (same, still) =
    subst (λ o. TypesCasesFirst a d env all rest matched known o) (sym same) (subst (λ xs. TypesCasesFirst a d env all xs matched known bodies) split (cases_same a b d env all left matched known bodies goes first still))
cases_further a b d env all left rest (Some x) matched known bodies now split goes first (m, is, one) =
    subst (λ o. TypesCasesFirst a d env all rest matched known o) (sym is) (cases_more a b d env all left rest x matched known bodies m split goes first one)

-- after the last case nothing is asked
asks_end : (c : Context) (n k : ℕ) (subject : Typ) (result : Option Typ) → cases_from c n k subject result [] ≡ []
asks_end c n k subject None = refl
asks_end c n k subject (Some t) = refl

-- and the type of the bodies is that so far
bodies_end : (result : Option (Choice → Typ)) → bodies_type result [] ≡ result
bodies_end None = refl
bodies_end (Some t) = refl

-- all cases
pub cases_all : (a b : Parts) (env : List Entry) (all left : List Case) (matched : ℕ) (known bodies : Option ℕ) → left ≡ [] → TypesCasesFirst a b env all left matched known bodies → TypesEachCase a b env all matched known bodies
cases_all a b env all left matched known bodies none first = λ aloud F scope G n subject result its s of_subject has.
    let p = first aloud F scope G n subject result its s of_subject has in
    record {
      own = p.own;
      carried = carried_as (λ c. sym (append-nil (p.done c)) ∙ ap (λ ys. p.done c ++ ys) (sym (asks_end c n p.k (subject c.chosen) (type_by c.chosen p.now))) ∙
          ap (λ xs. p.done c ++ cases_from c n p.k (subject c.chosen) (type_by c.chosen p.now) xs) (sym none) ∙ sym (p.asks c)) p.carried;
      done = done_as _ p.carried p.rows_done;
      means = subst (λ t. MeansIf F (sight b) (p.own ++ G) t bodies) (sym (p.gives ∙ ap (bodies_type p.now) none ∙ bodies_end p.now)) p.means;
    }

-- letters of a row around those of rows that are done
owns_around : {n m : ℕ} {b : Sight} {xs ys : Letters} (front back : Letters) → AreOfRow n (front ++ back) → AreDone b xs ys → Owns n m b xs (front ++ (ys ++ back))
owns_around {n} {m} {b} {xs} {ys} front back r h = record { sure = sure; mine = front ++ back; of_row = r; each = each }
  where
    in_three : (k : ℕ) (x : Key × ℕ) → slice_get (front ++ (ys ++ back)) k ≡ Some x → ((j : ℕ) × (slice_get (front ++ back) j ≡ Some x)) ⊎ ((j : ℕ) × (slice_get ys j ≡ Some x))
    in_three k x e = elim (split_get front (ys ++ back) k x e) [
      | inl g ↦ inl (in_first front back g.0 x g.1)
      | inr g ↦ elim (split_get ys back g.0 x g.1) [ inl i ↦ inr i | inr i ↦ inl (in_second front back i.0 x i.1) ]
    ]

    sure : NoneDoubtful (front ++ (ys ++ back))
    sure k x e = elim (in_three k x e) [ inl g ↦ r.sure g.0 x g.1 | inr g ↦ h.sure g.0 x g.1 ]

    each : (k : ℕ) (x : Key × ℕ) → slice_get (front ++ (ys ++ back)) k ≡ Some x → IsOwned n m b xs (front ++ back) x
    each k x e = elim (in_three k x e) [ inl g ↦ of_row g.0 g.1 | inr g ↦ of_done (h.each g.0 x g.1) ]

-- the type of the bodies by its node, where there is one
known_result : {F : Frame} {scope : Scope} {a b : Sight} {G : Letters} {n : ℕ} {subject : Choice → Typ} {result : Option (Choice → Typ)} {all : List Case} (m : ℕ) → CasesCarried F scope a G b n subject result all (Some m) → CasesTo F scope a G b n subject result all m
known_result {F} {scope} {a} {b} {G} {n} {subject} {result} {all} m x = record { own = x.own; typed = record { carried = x.carried; means = by (bodies_type result all) x.means }; owns = λ k before below. owns_around [] before below.of_row x.done }
  where
    by : (t : Option (Choice → Typ)) → MeansIf F b (x.own ++ G) t (Some m) → Means F b (x.own ++ G) (result_type n t) m
    by None h = absurd h
    by (Some t) h = h

-- and where there is none, a new variable
new_result : {F : Frame} {scope : Scope} {a b d : Sight} {G : Letters} {n : ℕ} {subject : Choice → Typ} {result : Option (Choice → Typ)} {all : List Case} (m : ℕ) → (x : CasesCarried F scope a G b n subject result all None) →
    CarriedTo F scope (λ c. []) b (x.own ++ G) d ((letter n 1, m) ∷ (x.own ++ G)) (λ ch. ch.letter n 1) m → CasesTo F scope a G d n subject result all m
new_result {F} {scope} {a} {b} {d} {G} {n} {subject} {result} {all} m x y = record {
  own = (letter n 1, m) ∷ x.own;
  typed = record { carried = carried_as (λ c. append-nil (cases_from c n 0 (subject c.chosen) (type_by c.chosen result) all)) (carried_trans x.carried y.carried); means = by (bodies_type result all) x.means };
  owns = λ k before below. owns_around ((letter n 1, m) ∷ []) before (below_more 1 2 m (omega arith) (omega arith) below).of_row (done_as _ (carried_trans x.carried y.carried) (done_then x.carried y.carried x.done));
}
  where
    by : (t : Option (Choice → Typ)) → MeansIf F b (x.own ++ G) t None → Means F d ((letter n 1, m) ∷ (x.own ++ G)) (result_type n t) m
    by None h = y.means
    by (Some t) h = absurd h

-- warnings after cases
warned_cases : {F : Frame} {scope : Scope} {a b d : Sight} {G : Letters} {n : ℕ} {subject : Choice → Typ} {result : Option (Choice → Typ)} {all : List Case} (bodies : Option ℕ) → (x : CasesCarried F scope a G b n subject result all bodies) →
    Carried F scope (λ c. []) b (x.own ++ G) d (x.own ++ G) → CasesCarried F scope a G d n subject result all bodies
warned_cases {n = n} {subject = subject} {result = result} {all = all} bodies x w = record {
  own = x.own;
  carried = carried_as (λ c. append-nil (cases_from c n 0 (subject c.chosen) (type_by c.chosen result) all)) (carried_trans x.carried w);
  done = done_as _ (carried_trans x.carried w) (done_then x.carried w x.done);
  means = means_if_on (bodies_type result all) bodies w.stays x.means;
}

-- The cases of a row, their warnings, and the type of their bodies.
pub cases_typed : (a b d e : Parts) (env : List Entry) (all : List Case) (matched : ℕ) (known : Option ℕ) (bodies : Option NodeRef) (ty : NodeRef) → TypesEachCase a b env all matched known (option_map (λ (w : NodeRef). w.0) bodies) → OnlyWarnings b d →
    GivenOrAny bodies d e ty → TypesCases a e env all matched known ty.0
unfolding warned_cases
cases_typed a b d e env all matched known None ty typed warned any = λ aloud F scope G n subject result its s of_subject has.
    let x = typed aloud F scope G n subject result its s of_subject has in
    let w = only_warned b d {F = F} {scope = scope} {G = x.own ++ G} warned in
    let y = any F scope (x.own ++ G) (letter n 1) (λ t. tt) (surrounds_on w.stays (surrounds_on x.carried.stays s)).reached in
    new_result ty.0 (warned_cases None x w) y
cases_typed a b d e env all matched known (Some w) ty typed warned (is, same) = λ aloud F scope G n subject result its s of_subject has.
    let x = typed aloud F scope G n subject result its s of_subject has in
    let H = x.own ++ G in
    let y : Carried F scope (λ c. []) (sight b) H (sight e) H = subst (λ q. Carried F scope (λ c. []) (sight b) H (sight q) H) (sym same) (only_warned b d warned) in
    subst (λ (m : NodeRef). CasesTo F scope (sight a) G (sight e) n subject result all m.0) (sym is) (known_result w.0 (warned_cases (Some w.0) x y))
