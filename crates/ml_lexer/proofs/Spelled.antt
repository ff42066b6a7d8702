-- What is found at the front is spelled there, and nothing longer is.
use Rattle.std.proofs.Common.{◌≡◌, ◌+◌, ◌≤◌, ◌<◌, ◌++◌, ◌∷◌, [], ℕ, suc, List, Bool, true, false, take, drop, length, get_or, sym, subst, arith, refl, ap, ◌∙◌, append_assoc, length-append, length-take, inl, inr}
use Rattle.std.specs.Prelude.{if◌then◌else◌, ◌==◌, codes}
use Rattle.std.specs.List.{list_all}
use Rattle.std.proofs.Math.Seq.{take-append_seam, get_or-append_seam}
use Rattle.std.proofs.lemmas.List.{take-append-drop}
use Rattle.std.proofs.lemmas.Bool.{and_parts, and_from, eqb-true, eqb-false}
use Rattle.std.proofs.lemmas.Bool.Decides.{nat_tests}
use Rattle.token_model.specs.Kinds.{Kind, upper, qualifier}
use Rattle.token_model.specs.Bytes.{is_upper, goes_on, begins}
use Rattle.token_model.specs.Spellings.{Run, Spells, an_upper, a_qualifier}
use Rattle.ml_lexer.specs.Scans.{Found, found, run_length, run_end, upper_found}
use Rattle.ml_lexer.proofs.Runs.{front_in_run, run_exact, run_passes, run_le}
use Rattle.ml_lexer.proofs.Quoted.{split_at}
use Rattle.ml_lexer.proofs.Classes.{Class, Of, upper_class}

-- nothing longer of a class is spelled at the front
abbrev pub NoLonger : Class → List ℕ → ℕ → Type 0
NoLonger c bs n = (front behind : List ℕ) → bs ≡ front ++ behind → Of c front behind → length front ≤ n

-- what is found is spelled, and nothing longer of its class is
pub record IsSpelled (c : Class) (bs : List ℕ) (f : Found) : Type 0 where
  pub spelled : List ℕ
  pub name : List ℕ
  pub rest : List ℕ
  pub whole : bs ≡ spelled ++ rest
  pub size : f.size ≡ length spelled
  pub named : take f.name_size (drop f.name_start bs) ≡ name
  pub spells : Spells f.kind spelled name rest
  pub longest : NoLonger c bs f.size

-- a token whose name is its spelling
pub plainly : (c : Class) (bs w rest : List ℕ) (k : Kind) (n : ℕ) → bs ≡ w ++ rest → n ≡ length w → Spells k w w rest → NoLonger c bs n → IsSpelled c bs (found k n)
plainly c bs w rest k n whole size spells longest = record {
  spelled = w;
  name = w;
  rest = rest;
  whole = whole;
  size = size;
  named = ap (λ (l : List ℕ). take n l) whole ∙ ap (λ k. take k (w ++ rest)) size ∙ take-append_seam w rest;
  spells = spells;
  longest = longest;
}

-- a test that implies another at each byte does so for a list
pub all_weaker : (p q : ℕ → Bool) (bs : List ℕ) → ((b : ℕ) → p b ≡ true → q b ≡ true) → list_all p bs ≡ true → list_all q bs ≡ true
all_weaker p q [] weaker all = refl
all_weaker p q (b ∷ bs) weaker all = let parts = and_parts (p b) (list_all p bs) all in and_from (q b) (list_all q bs) (weaker b parts.0) (all_weaker p q bs weaker parts.1)

-- a run is of bytes that all go on
pub run_all : (first more : ℕ → Bool) (w : List ℕ) → ((b : ℕ) → first b ≡ true → more b ≡ true) → Run first more w → list_all more w ≡ true
run_all first more [] weaker run = absurd run
run_all first more (b ∷ bs) weaker run = and_from (more b) (list_all more bs) (weaker b run.0) run.1

-- the longest front of a sort is a run
pub run_front : (first more : ℕ → Bool) (bs : List ℕ) → 0 < length bs → first (get_or bs 0 0) ≡ true → more (get_or bs 0 0) ≡ true → Run first more (take (run_length more bs) bs)
run_front first more [] some begins goes = absurd (omega arith)
run_front first more (b ∷ bs) some begins goes =
    let size : run_length more (b ∷ bs) ≡ suc (run_length more bs) = ap (λ t. if t then run_length more bs + 1 else 0) goes ∙ add_one (run_length more bs) in
    subst (λ n. Run first more (take n (b ∷ bs))) (sym size) (begins, run_passes more bs)
  where
    add_one : (n : ℕ) → n + 1 ≡ suc n
    add_one n = omega arith

upper_goes_on : (b : ℕ) → is_upper b ≡ true → goes_on b ≡ true
upper_goes_on b is = grind (arith, nat_tests)

-- the end of a run from the front
pub end_is : (test : ℕ → Bool) (bs : List ℕ) → run_end test 0 bs ≡ run_length test bs
end_is test bs = omega arith

take_long : (n : ℕ) (bs : List ℕ) → n ≤ length bs → n ≡ length (take n bs)
take_long n bs fits = omega (arith, length-take n bs)

pub upper_spelled : (bs : List ℕ) → 0 < length bs → is_upper (get_or bs 0 0) ≡ true → IsSpelled upper_class bs (upper_found bs)
unfolding upper_found
upper_spelled bs some is =
    let n = run_length goes_on bs in
    let goes = upper_goes_on (get_or bs 0 0) is in
    let run = run_front is_upper goes_on bs some is goes in
    let long : n ≡ length (take n bs) = take_long n bs (run_le goes_on bs) in
    let short : (front behind : List ℕ) → bs ≡ front ++ behind → Run is_upper goes_on front → length front ≤ n = λ front behind whole r.
    subst (λ (l : List ℕ). length front ≤ run_length goes_on l) (sym whole) (front_in_run goes_on front behind (run_all is_upper goes_on front upper_goes_on r)) in
    elim (get_or bs (run_end goes_on 0 bs) 0 == 46) as (λ t. (get_or bs (run_end goes_on 0 bs) 0 == 46) ≡ t → IsSpelled upper_class bs (if t then record { kind = qualifier; size = run_end goes_on 0 bs + 1; name_start = 0; name_size = run_end goes_on 0 bs } else found upper (run_end goes_on 0 bs))) [
      | true ↦ λ e.
          let point : get_or bs n 0 ≡ 46 = ap (λ k. get_or bs k 0) (sym (end_is goes_on bs)) ∙ eqb-true (get_or bs (run_end goes_on 0 bs) 0) 46 e in
          record {
            spelled = take n bs ++ codes ".";
            name = take n bs;
            rest = drop (suc n) bs;
            whole = split_at bs n 46 point (omega arith) ∙ sym (append_assoc (take n bs) (codes ".") (drop (suc n) bs));
            size = omega (arith, long, length-append (take n bs) (codes "."));
            named = ap (λ k. take k bs) (end_is goes_on bs);
            spells = a_qualifier run;
            longest = λ front behind whole of. elim of [
              | inl r ↦ omega (arith, short front behind whole r)
              | inr q ↦ omega (arith, short q.0 (codes "." ++ behind) (whole ∙ ap (λ (l : List ℕ). l ++ behind) q.2 ∙ append_assoc q.0 (codes ".") behind) q.1, ap length q.2, length-append q.0 (codes "."))
            ];
          }
      | false ↦ λ e. plainly upper_class bs (take n bs) (drop n bs) upper (run_end goes_on 0 bs) (sym (take-append-drop n bs)) (omega (arith, long)) (an_upper run) (λ front behind whole of. elim of [
        | inl r ↦ omega (arith, short front behind whole r)
        | inr q ↦ absurd (
            let split : bs ≡ q.0 ++ 46 ∷ behind = whole ∙ ap (λ (l : List ℕ). l ++ behind) q.2 ∙ append_assoc q.0 (codes ".") behind in
            let exact : n ≡ length q.0 = ap (run_length goes_on) split ∙ run_exact goes_on q.0 (46 ∷ behind) (run_all is_upper goes_on q.0 upper_goes_on q.1) refl in
            let point : get_or bs (run_end goes_on 0 bs) 0 ≡ 46 = ap (λ k. get_or bs k 0) (end_is goes_on bs ∙ exact) ∙ ap (λ (l : List ℕ). get_or l (length q.0) 0) split ∙ get_or-append_seam q.0 46 behind 0 in
            eqb-false (get_or bs (run_end goes_on 0 bs) 0) 46 e point)
      ])
    ] refl
