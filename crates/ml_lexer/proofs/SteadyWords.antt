-- How far a word is looked at.
use Rattle.std.proofs.Common.{◌≡◌, ◌+◌, ◌≤◌, ◌<◌, ℕ, List, Bool, true, false, take, get_or, sym, ap, ◌∙◌, arith, refl}
use Rattle.std.specs.Prelude.{if◌then◌else◌, ◌==◌, ◌&&◌, nat_lt}
use Rattle.std.proofs.lemmas.Bool.{and_parts, and_from, and_left, eqb-true, both_ways, false_from_ne_true}
use Rattle.token_model.specs.Kinds.{module_type, qualifier, upper}
use Rattle.token_model.specs.Bytes.{is_blank, goes_on}
use Rattle.token_model.specs.Words.{word_kind}
use Rattle.ml_lexer.specs.Scans.{found, run_end, is_module_word, is_type_word, module_type_end, is_module_type, word_found, upper_found}
use Rattle.ml_lexer.specs.Reaches.{type_reach, word_reach, upper_reach}
use Rattle.ml_lexer.proofs.Agree.{agree_less, agree_get, agree_end, Keeps, Steady, steady_if, byte_keeps, least_if}

-- `module` and `type` are looked at up to the word's end
module_keeps : (to r : ℕ) (bs cs : List ℕ) → to < r → take r bs ≡ take r cs → is_module_word to cs ≡ is_module_word to bs
module_keeps to r bs cs h e =
    elim (to == 6) as (λ t. (to == 6) ≡ t → (t && get_or cs 0 0 == 109 && get_or cs 1 0 == 111 && get_or cs 2 0 == 100 && get_or cs 3 0 == 117 && get_or cs 4 0 == 108 && get_or cs 5 0 == 101) ≡ (t && get_or bs 0 0 == 109 && get_or bs 1 0 == 111 && get_or bs 2 0 == 100 && get_or bs 3 0 == 117 && get_or bs 4 0 == 108 && get_or bs 5 0 == 101)) [
      | true ↦ λ is.
          let six : to ≡ 6 = eqb-true to 6 is in
          let e0 = agree_get r 0 bs cs (omega arith) e in
          let e1 = agree_get r 1 bs cs (omega arith) e in
          let e2 = agree_get r 2 bs cs (omega arith) e in
          let e3 = agree_get r 3 bs cs (omega arith) e in
          let e4 = agree_get r 4 bs cs (omega arith) e in
          let e5 = agree_get r 5 bs cs (omega arith) e in cc
      | false ↦ λ is. refl
    ] refl

-- `type` is looked at up to its end
type_keeps : (from to r : ℕ) (bs cs : List ℕ) → to < r → take r bs ≡ take r cs → is_type_word from to cs ≡ is_type_word from to bs
type_keeps from to r bs cs h e =
    elim (to == from + 4) as (λ t. (to == from + 4) ≡ t → (t && get_or cs from 0 == 116 && get_or cs (from + 1) 0 == 121 && get_or cs (from + 2) 0 == 112 && get_or cs (from + 3) 0 == 101) ≡ (t && get_or bs from 0 == 116 && get_or bs (from + 1) 0 == 121 && get_or bs (from + 2) 0 == 112 && get_or bs (from + 3) 0 == 101)) [
      | true ↦ λ is.
          let four : to ≡ from + 4 = eqb-true to (from + 4) is in
          let e0 = agree_get r from bs cs (omega arith) e in
          let e1 = agree_get r (from + 1) bs cs (omega arith) e in
          let e2 = agree_get r (from + 2) bs cs (omega arith) e in
          let e3 = agree_get r (from + 3) bs cs (omega arith) e in cc
      | false ↦ λ is. refl
    ] refl

-- the letters of `type`, from the second, third and fourth on
abbrev from_y : ℕ → List ℕ → ℕ
from_y p l = if get_or l (p + 1) 0 == 121 then (if get_or l (p + 2) 0 == 112 then (if get_or l (p + 3) 0 == 101 then p + 5 else p + 4) else p + 3) else p + 2

-- from the third letter on
abbrev from_p : ℕ → List ℕ → ℕ
from_p p l = if get_or l (p + 2) 0 == 112 then (if get_or l (p + 3) 0 == 101 then p + 5 else p + 4) else p + 3

-- from the fourth letter on
abbrev from_e : ℕ → List ℕ → ℕ
from_e p l = if get_or l (p + 3) 0 == 101 then p + 5 else p + 4

-- the letters before are looked at, and the one there
least_e : (p : ℕ) (l : List ℕ) → p + 4 ≤ from_e p l
least_e p l = least_if (get_or l (p + 3) 0 == 101) (p + 5) (p + 4) (p + 4) (omega arith) (omega arith)

-- the same from the third letter on
least_p : (p : ℕ) (l : List ℕ) → p + 3 ≤ from_p p l
least_p p l = least_if (get_or l (p + 2) 0 == 112) (from_e p l) (p + 3) (p + 3) (omega (arith, least_e p l)) (omega arith)

-- the same from the second
least_y : (p : ℕ) (l : List ℕ) → p + 2 ≤ from_y p l
least_y p l = least_if (get_or l (p + 1) 0 == 121) (from_p p l) (p + 2) (p + 2) (omega (arith, least_p p l)) (omega arith)

-- the byte at the place is looked at
pub type_least : (p : ℕ) (l : List ℕ) → p + 1 ≤ type_reach p l
type_least p l = least_if (get_or l p 0 == 116) (from_y p l) (p + 1) (p + 1) (omega (arith, least_y p l)) (omega arith)

-- the fourth letter
e_steady : (p : ℕ) (bs : List ℕ) → Steady (from_e p) (from_e p) bs
e_steady p bs = steady_if (λ l. get_or l (p + 3) 0 == 101) (λ _. p + 5) (λ _. p + 4) (λ _. p + 5) (λ _. p + 4) bs
    (λ _. byte_keeps (λ b. b == 101) (p + 3) (p + 5) bs (omega arith)) (λ _. byte_keeps (λ b. b == 101) (p + 3) (p + 4) bs (omega arith)) (λ _. λ cs e. (refl, refl)) (λ _. λ cs e. (refl, refl))

-- the third letter and the fourth
p_steady : (p : ℕ) (bs : List ℕ) → Steady (from_p p) (from_p p) bs
p_steady p bs = steady_if (λ l. get_or l (p + 2) 0 == 112) (from_e p) (λ _. p + 3) (from_e p) (λ _. p + 3) bs
    (λ _. byte_keeps (λ b. b == 112) (p + 2) (from_e p bs) bs (omega (arith, least_e p bs))) (λ _. byte_keeps (λ b. b == 112) (p + 2) (p + 3) bs (omega arith)) (λ _. e_steady p bs) (λ _. λ cs e. (refl, refl))

-- the letters behind the first
y_steady : (p : ℕ) (bs : List ℕ) → Steady (from_y p) (from_y p) bs
y_steady p bs = steady_if (λ l. get_or l (p + 1) 0 == 121) (from_p p) (λ _. p + 2) (from_p p) (λ _. p + 2) bs
    (λ _. byte_keeps (λ b. b == 121) (p + 1) (from_p p bs) bs (omega (arith, least_p p bs))) (λ _. byte_keeps (λ b. b == 121) (p + 1) (p + 2) bs (omega arith)) (λ _. p_steady p bs) (λ _. λ cs e. (refl, refl))

-- the letters that stand there are the same
type_steady : (p : ℕ) (bs : List ℕ) → Steady (type_reach p) (type_reach p) bs
type_steady p bs = steady_if (λ l. get_or l p 0 == 116) (from_y p) (λ _. p + 1) (from_y p) (λ _. p + 1) bs
    (λ _. byte_keeps (λ b. b == 116) p (from_y p bs) bs (omega (arith, least_y p bs))) (λ _. byte_keeps (λ b. b == 116) p (p + 1) bs (omega arith)) (λ _. y_steady p bs) (λ _. λ cs e. (refl, refl))

-- `type` ends where its letters do, and they are all looked at
type_whole : (p to : ℕ) (l : List ℕ) → is_type_word p to l ≡ true → (to ≡ p + 4) × (type_reach p l ≡ p + 5)
type_whole p to l is =
    let t = get_or l p 0 == 116 in
    let y = get_or l (p + 1) 0 == 121 in
    let q = get_or l (p + 2) 0 == 112 in
    let e = get_or l (p + 3) 0 == 101 in
    let p4 = and_parts (to == p + 4 && t && y && q) e is in
    let p3 = and_parts (to == p + 4 && t && y) q p4.0 in
    let p2 = and_parts (to == p + 4 && t) y p3.0 in
    let p1 = and_parts (to == p + 4) t p2.0 in (
      eqb-true to (p + 4) p1.0,
      ap (λ x. if x then from_y p l else p + 1) p1.1 ∙ ap (λ x. if x then from_p p l else p + 2) p2.1 ∙ ap (λ x. if x then from_e p l else p + 3) p3.1 ∙ ap (λ x. if x then p + 5 else p + 4) p4.1,
    )

-- `type` stands there in one of the two lists where it does in the other
type_back : (p : ℕ) (bs cs : List ℕ) → take (type_reach p bs) bs ≡ take (type_reach p bs) cs → is_type_word p (run_end goes_on p cs) cs ≡ true → is_type_word p (run_end goes_on p bs) bs ≡ true
type_back p bs cs e is =
    let whole = type_whole p (run_end goes_on p cs) cs is in
    let reach : type_reach p bs ≡ p + 5 = sym (type_steady p bs cs e).1 ∙ whole.1 in
    let back : take (type_reach p bs) cs ≡ take (type_reach p bs) bs = sym e in
    let end : run_end goes_on p bs ≡ run_end goes_on p cs = agree_end goes_on p (type_reach p bs) cs bs back (omega (arith, whole.0, reach)) in
    ap (λ k. is_type_word p k bs) end ∙ type_keeps p (run_end goes_on p cs) (type_reach p bs) cs bs (omega (arith, whole.0, reach)) back ∙ is

-- the ends of a word, of blanks and of a second word
abbrev pub name_end : List ℕ → ℕ
name_end l = run_end goes_on 0 l

-- the end of the blanks behind the word
abbrev pub gap_end : List ℕ → ℕ
gap_end l = run_end is_blank (name_end l) l

-- the end of the word behind the blanks
abbrev pub both_end : List ℕ → ℕ
both_end l = module_type_end (name_end l) l

-- a word that ends before the reach is the same
name_same : (r : ℕ) (bs cs : List ℕ) → take r bs ≡ take r cs → name_end bs < r → name_end cs ≡ name_end bs
name_same r bs cs e h = agree_end goes_on 0 r bs cs e h

-- so are the blanks behind it
gap_same : (r : ℕ) (bs cs : List ℕ) → take r bs ≡ take r cs → gap_end bs < r → gap_end cs ≡ gap_end bs
gap_same r bs cs e h = ap (λ k. run_end is_blank k cs) (name_same r bs cs e (omega (arith, h))) ∙ agree_end is_blank (name_end bs) r bs cs e h

-- and the word behind these
both_same : (r : ℕ) (bs cs : List ℕ) → take r bs ≡ take r cs → both_end bs < r → both_end cs ≡ both_end bs
both_same r bs cs e h = ap (λ k. run_end goes_on k cs) (gap_same r bs cs e (omega (arith, h))) ∙ agree_end goes_on (gap_end bs) r bs cs e h

-- whether `module type` stands there, with the ends given
abbrev typed : ℕ → ℕ → ℕ → List ℕ → Bool
typed a b c l = is_module_word a l && nat_lt a b && is_type_word b c l

-- whether `module type` stands there
abbrev pub is_both : List ℕ → Bool
is_both l = is_module_type (name_end l) l

-- where `module type` stands, it is decided with the byte behind it
both_keeps : (bs : List ℕ) → Keeps is_both (both_end bs + 1) bs
both_keeps bs cs e =
    let r = both_end bs + 1 in
    ap (λ k. typed k (gap_end cs) (both_end cs) cs) (name_same r bs cs e (omega arith))
    ∙ ap (λ k. typed (name_end bs) k (both_end cs) cs) (gap_same r bs cs e (omega arith))
    ∙ ap (λ k. typed (name_end bs) (gap_end bs) k cs) (both_same r bs cs e (omega arith))
    ∙ ap (λ t. t && nat_lt (name_end bs) (gap_end bs) && is_type_word (gap_end bs) (both_end bs) cs) (module_keeps (name_end bs) r bs cs (omega arith) e)
    ∙ ap (λ t. is_module_word (name_end bs) bs && nat_lt (name_end bs) (gap_end bs) && t) (type_keeps (gap_end bs) (both_end bs) r bs cs (omega arith) e)

-- the reach of one word
abbrev pub type_there : List ℕ → ℕ
type_there l = type_reach (gap_end l) l

-- the reach of a word alone
abbrev pub one_reach : List ℕ → ℕ
one_reach l = if is_module_word (name_end l) l then type_there l else name_end l + 1

-- the byte behind the blanks is looked at
type_there_least : (l : List ℕ) → gap_end l + 1 ≤ type_there l
type_there_least l = type_least (gap_end l) l

-- whether the word is `module` is decided with the byte behind it
module_there : (r : ℕ) (bs : List ℕ) → name_end bs < r → Keeps (λ l. is_module_word (name_end l) l) r bs
module_there r bs h cs e = ap (λ k. is_module_word k cs) (name_same r bs cs e h) ∙ module_keeps (name_end bs) r bs cs h e

-- the reach of a word alone is the same
one_steady : (bs : List ℕ) → Steady one_reach one_reach bs
one_steady bs = steady_if (λ l. is_module_word (name_end l) l) type_there (λ l. name_end l + 1) type_there (λ l. name_end l + 1) bs
    (λ _. module_there (type_there bs) bs (omega (arith, type_there_least bs)))
    (λ _. module_there (name_end bs + 1) bs (omega arith))
    (λ _. λ cs e. let same : type_there cs ≡ type_there bs = ap (λ k. type_reach k cs) (gap_same (type_there bs) bs cs e (omega (arith, type_there_least bs))) ∙ (type_steady (gap_end bs) bs cs e).1 in (same, same))
    (λ _. λ cs e. let same : name_end cs + 1 ≡ name_end bs + 1 = ap (λ k. k + 1) (name_same (name_end bs + 1) bs cs e (omega arith)) in (same, same))

-- the byte behind the word is looked at
pub one_least : (l : List ℕ) → name_end l + 1 ≤ one_reach l
one_least l = least_if (is_module_word (name_end l) l) (type_there l) (name_end l + 1) (name_end l + 1) (omega (arith, type_there_least l)) (omega arith)

-- where one word stands, there is no `module type` in the other list either
one_keeps : (bs : List ℕ) → is_both bs ≡ false → Keeps is_both (one_reach bs) bs
one_keeps bs none cs e =
    elim (is_module_word (name_end bs) bs) as (λ t. is_module_word (name_end bs) bs ≡ t → take (if t then type_there bs else name_end bs + 1) bs ≡ take (if t then type_there bs else name_end bs + 1) cs → is_both cs ≡ is_both bs) [
      | true ↦ λ is. λ e.
          let r = type_there bs in
          let name = name_same r bs cs e (omega (arith, type_there_least bs)) in
          let gap = gap_same r bs cs e (omega (arith, type_there_least bs)) in
          let here : is_both cs ≡ typed (name_end bs) (gap_end bs) (run_end goes_on (gap_end bs) cs) cs =
          ap (λ k. typed k (gap_end cs) (both_end cs) cs) name ∙ ap (λ k. typed (name_end bs) k (run_end goes_on k cs) cs) gap in
          false_from_ne_true (is_both cs) (λ both.
          let parts = and_parts (is_module_word (name_end bs) cs && nat_lt (name_end bs) (gap_end bs)) (is_type_word (gap_end bs) (run_end goes_on (gap_end bs) cs) cs) (sym here ∙ both) in
          let first = and_parts (is_module_word (name_end bs) cs) (nat_lt (name_end bs) (gap_end bs)) parts.0 in
          both_ways (is_both bs) none (and_from (is_module_word (name_end bs) bs && nat_lt (name_end bs) (gap_end bs)) (is_type_word (gap_end bs) (both_end bs) bs) (and_from (is_module_word (name_end bs) bs) (nat_lt (name_end bs) (gap_end bs)) is first.1) (type_back (gap_end bs) bs cs e parts.1))) ∙ sym none
      | false ↦ λ is. λ e.
          let there : is_module_word (name_end cs) cs ≡ false = module_there (name_end bs + 1) bs (omega arith) cs e ∙ is in
          and_left (is_module_word (name_end cs) cs && nat_lt (name_end cs) (gap_end cs)) (is_type_word (gap_end cs) (both_end cs) cs) (and_left (is_module_word (name_end cs) cs) (nat_lt (name_end cs) (gap_end cs)) there) ∙ sym none
    ] refl e

-- what begins with a lower-case letter
pub word_steady : (bs : List ℕ) → Steady word_found word_reach bs
unfolding word_found word_reach
word_steady bs = steady_if is_both (λ l. found module_type (both_end l)) (λ l. found (word_kind (take (name_end l) l)) (name_end l)) (λ l. both_end l + 1) one_reach bs
    (λ _. both_keeps bs)
    (λ none. one_keeps bs none)
    (λ _. λ cs e. let same = both_same (both_end bs + 1) bs cs e (omega arith) in (ap (λ k. found module_type k) same, ap (λ k. k + 1) same))
    (λ none. λ cs e.
    let name = name_same (one_reach bs) bs cs e (omega (arith, one_least bs)) in
    let word : take (name_end bs) cs ≡ take (name_end bs) bs = sym (agree_less (one_reach bs) (name_end bs) bs cs (omega (arith, one_least bs)) e) in
    (ap (λ k. found (word_kind (take k cs)) k) name ∙ ap (λ (w : List ℕ). found (word_kind w) (name_end bs)) word, (one_steady bs cs e).1))

-- what begins with an upper-case letter
pub upper_steady : (bs : List ℕ) → Steady upper_found upper_reach bs
unfolding upper_found upper_reach
upper_steady bs cs e =
    let name = name_same (name_end bs + 1) bs cs e (omega arith) in
    let point : get_or cs (name_end bs) 0 ≡ get_or bs (name_end bs) 0 = agree_get (name_end bs + 1) (name_end bs) bs cs (omega arith) e in (
      ap (λ k. if get_or cs k 0 == 46 then record { kind = qualifier; size = k + 1; name_start = 0; name_size = k } else found upper k) name
          ∙ ap (λ b. if b == 46 then record { kind = qualifier; size = name_end bs + 1; name_start = 0; name_size = name_end bs } else found upper (name_end bs)) point,
      ap (λ k. k + 1) name,
    )
