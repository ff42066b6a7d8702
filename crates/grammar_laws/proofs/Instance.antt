-- A tested list of rows has the laws.
use Rattle.std.proofs.Common.{◌≡◌, ◌≢◌, ℕ, zero, suc, ◌+◌, ◌<◌, ◌≤◌, Bool, true, false, ◌&&◌, not, List, [], ◌∷◌, Option, Some, None, refl, sym, ◌∙◌, ap, subst, arith, ◌⊎◌, inl, inr, if◌then◌else◌}
use Rattle.std.specs.Prelude.{nat_le, nat_lt, nat_eq, slice_get}
use Rattle.std.proofs.lemmas.Bool.{leb-true, le-leb, ltb-true, eqb-true, eq-eqb, and_parts}
use Rattle.grammar_model.specs.Tables.{Table, is_text, What, nothing, token, operand, Edge, Last, plain, row, has, begins_by, takes, allowed, at_spot, first_place, first_spot}
use Rattle.grammar_model.specs.Grammar.{MayCome}
use Rattle.grammar_model.specs.Machine.{first_of, spot_of}
use Rattle.grammar_model.specs.Rows.{Left, no_left, level, named, Spot, Row, row_at, spot_at, no_row, no_spot, edge, is_left, left_takes, first_what, or_else, Sizes, table_of, chain_of, grower_of, chain_to, grower_in}
use Rattle.grammar_model.specs.Checks.{each, each_spot, each_below, each_edge, all_of, same, is_row, is_nothing, longer, begins_alone, grows_alone, one_or_none, no_text, is_open, must_fine, what_fine, one_edge, chain_fine, grower_fine}
use Rattle.recovery_model.specs.Steps.{last_edge, ends_within, most_parts}
use Rattle.recovery_model.specs.Tested.{Tested, starts_once, is_never_empty, is_alone, left_stands, spot_fine, spots_fine}
use Rattle.grammar_laws.proofs.Laws.{Separate, Found, begun_by}
use Rattle.grammar_laws.proofs.Faultless.{Ends}
use Rattle.grammar_laws.proofs.Formed.{Passes}

each_get : (test : ℕ → Row → Bool) (R : List Row) (i : ℕ) → each i R test ≡ true → (r : ℕ) → ((j : ℕ) → test j no_row ≡ true) → test (i + r) (row_at R r) ≡ true
each_get test [] i h r none = none (i + r)
each_get test (w ∷ R) i h zero none = let p = (and_parts (test i w) (each (i + 1) R test) h).0 in subst (λ j. test j w ≡ true) (omega arith) p
each_get test (w ∷ R) i h (suc r) none =
    let p = each_get test R (i + 1) (and_parts (test i w) (each (i + 1) R test) h).1 r none in subst (λ j. test j (row_at R r) ≡ true) (omega arith) p

pub each_row : (test : ℕ → Row → Bool) (R : List Row) → each 0 R test ≡ true → ((j : ℕ) → test j no_row ≡ true) → (r : ℕ) → test r (row_at R r) ≡ true
each_row test R h none r = let p = each_get test R 0 h r none in subst (λ j. test j (row_at R r) ≡ true) (omega arith) p

pub spot_get : (test : ℕ → Spot → Bool) (ss : List Spot) (i : ℕ) → each_spot i ss test ≡ true → (p : ℕ) → ((j : ℕ) → test j no_spot ≡ true) → test (i + p) (or_else no_spot (slice_get ss p)) ≡ true
spot_get test [] i h p none = none (i + p)
spot_get test (s ∷ ss) i h zero none = let q = (and_parts (test i s) (each_spot (i + 1) ss test) h).0 in subst (λ j. test j s ≡ true) (omega arith) q
spot_get test (s ∷ ss) i h (suc p) none =
    let q = spot_get test ss (i + 1) (and_parts (test i s) (each_spot (i + 1) ss test) h).1 p none in subst (λ j. test j (or_else no_spot (slice_get ss p)) ≡ true) (omega arith) q

below_get : (test : ℕ → Bool) (n : ℕ) → each_below n test ≡ true → (k : ℕ) → k < n → test k ≡ true
below_get test zero h k lt = absurd (omega arith)
below_get test (suc n) h k lt = elim (split k lt) [ inl e ↦ subst (λ k. test k ≡ true) (sym e) (and_parts (test n) (each_below n test) h).0 | inr l ↦ below_get test n (and_parts (test n) (each_below n test) h).1 k l ]
  where
    split : (j : ℕ) → j < suc n → (j ≡ n) ⊎ (j < n)
    split j lt = grind arith

edge_get : (test : ℕ → Bool) (es : List Edge) (last : Last) (p : ℕ) → each_edge es test ≡ true → MayCome es last p → test p ≡ true
edge_get test [] last p h m = absurd m
edge_get test (e ∷ es) last p h m = let (a, b) = and_parts (test e.spot) (each_edge es test) h in elim m [ inl x ↦ subst (λ p. test p ≡ true) x.0 a | inr x ↦ edge_get test es last p b x ]

all_get : (test : ℕ → Bool) (ks : List ℕ) (k : ℕ) → all_of ks test ≡ true → has ks k ≡ true → test k ≡ true
all_get test [] k h m = absurd (cc)
all_get test (x ∷ ks) k h m = by (nat_eq x k) refl m (and_parts (test x) (all_of ks test) h) (all_get test ks k)
  where
    by : (b : Bool) → nat_eq x k ≡ b → (if b then true else has ks k) ≡ true → (test x ≡ true) × (all_of ks test ≡ true) → (all_of ks test ≡ true → has ks k ≡ true → test k ≡ true) → test k ≡ true
    by true e m t go = subst (λ k. test k ≡ true) (eqb-true x k e) t.0
    by false e m t go = go t.1 m

same_is : (xs ys : List ℕ) → same xs ys ≡ true → xs ≡ ys
same_is [] [] h = refl
same_is [] (y ∷ ys) h = absurd (cc)
same_is (x ∷ xs) [] h = absurd (cc)
same_is (x ∷ xs) (y ∷ ys) h = let (a, b) = and_parts (nat_eq x y) (same xs ys) h in let p = eqb-true x y a in let q = same_is xs ys b in cc

is_row_is : (o : Option ℕ) (i : ℕ) → is_row o i ≡ true → o ≡ Some i
is_row_is None i h = absurd (cc)
is_row_is (Some j) i h = ap Some (eqb-true j i h)

nothing_is : (w : What) → is_nothing w ≡ true → w ≡ nothing
nothing_is nothing h = refl
nothing_is (token ks) h = absurd (cc)
nothing_is (operand s n) h = absurd (cc)

not_nothing : (w : What) → not (is_nothing w) ≡ true → w ≢ nothing
not_nothing nothing h e = cc
not_nothing (token ks) h e = cc
not_nothing (operand s n) h e = cc

not_true : (b : Bool) → not b ≡ true → b ≡ false
not_true true h = absurd (cc)
not_true false h = refl

then_of : (b c : Bool) → b ≡ true → (if b then c else true) ≡ true → c ≡ true
then_of true c e h = h
then_of false c e h = absurd (cc)

first_spot_is : (es : List Edge) (last : Last) (p : ℕ) → one_or_none es ≡ true → MayCome es last p → (spot_of es ≡ p) × ((or_else (edge 0) (slice_get es 0)).spot ≡ p)
first_spot_is [] last p h m = absurd m
first_spot_is (e ∷ []) last p h m = elim m [ inl x ↦ (x.0, x.0) | inr x ↦ absurd x ]
first_spot_is (e ∷ f ∷ es) last p h m = absurd (cc)

bounded_chain : (z : Sizes) (R : List Row) (s k q : ℕ) (qs : List ℕ) → chain_of z R s k ≡ q ∷ qs → (s < z.sorts) × (k < z.keys)
unfolding chain_of
bounded_chain z R s k q qs h = by (nat_lt s z.sorts) (nat_lt k z.keys) refl refl h
  where
    by : (a b : Bool) → nat_lt s z.sorts ≡ a → nat_lt k z.keys ≡ b → (if a && b then chain_to 4 R s k else []) ≡ q ∷ qs → (s < z.sorts) × (k < z.keys)
    by true true ea eb h = (ltb-true s z.sorts ea, ltb-true k z.keys eb)
    by true false ea eb h = absurd (cc)
    by false b ea eb h = absurd (cc)

bounded_grower : (z : Sizes) (R : List Row) (s k g : ℕ) → grower_of z R s k ≡ Some g → (s < z.sorts) × (k < z.keys)
unfolding grower_of
bounded_grower z R s k g h = by (nat_lt s z.sorts) (nat_lt k z.keys) refl refl h
  where
    by : (a b : Bool) → nat_lt s z.sorts ≡ a → nat_lt k z.keys ≡ b → (if a && b then grower_in R (chain_to 4 R) 0 R s k else None) ≡ Some g → (s < z.sorts) × (k < z.keys)
    by true true ea eb h = (ltb-true s z.sorts ea, ltb-true k z.keys eb)
    by true false ea eb h = absurd (cc)
    by false b ea eb h = absurd (cc)

else_of : (b c d : Bool) → b ≡ false → (if b then c else d) ≡ true → d ≡ true
else_of true c d e h = absurd (cc)
else_of false c d e h = h

if_of : (b c d : Bool) → b ≡ true → (if b then c else d) ≡ true → c ≡ true
if_of true c d e h = h
if_of false c d e h = absurd (cc)

starts_of : (root : ℕ) (z : Sizes) (R : List Row) → Tested root z R → (r : ℕ) → (is_nothing ((table_of root z R).what r 0) ≡ true) × (one_or_none ((table_of root z R).next r 0) ≡ true)
starts_of root z R t r = and_parts (is_nothing ((table_of root z R).what r 0)) (one_or_none ((table_of root z R).next r 0)) (each_row starts_once R t.starts (λ j. refl) r)

first_what_is : (root : ℕ) (z : Sizes) (R : List Row) → Tested root z R → (r p : ℕ) → MayCome ((table_of root z R).next r 0) plain p → first_what (row_at R r) ≡ (table_of root z R).what r p
first_what_is root z R t r p may = ap (λ q. (table_of root z R).what r q) (first_spot_is ((table_of root z R).next r 0) plain p (starts_of root z R t r).1 may).1

alone_of : (root : ℕ) (z : Sizes) (R : List Row) → Tested root z R → (r : ℕ) → is_alone (table_of root z R) z.keys r (row_at R r) ≡ true
alone_of root z R t r = each_row (is_alone (table_of root z R) z.keys) R t.alone (λ j. refl) r

spot_of_row : (root : ℕ) (z : Sizes) (R : List Row) → Tested root z R → (r p : ℕ) → spot_fine (table_of root z R) (row_at R r) r p (spot_at (row_at R r) p) ≡ true
spot_of_row root z R t r p =
    let h = spot_get (spot_fine (table_of root z R) (row_at R r) r) (row_at R r).spots 0 (each_row (spots_fine (table_of root z R)) R t.spots (λ j. refl) r) p (λ j. refl) in
    subst (λ j. spot_fine (table_of root z R) (row_at R r) r j (spot_at (row_at R r) p) ≡ true) (omega arith) h

longer_is : (G : Table) (i n q : ℕ) (qs xs ys : List ℕ) → xs ≡ q ∷ qs → n ≤ G.stand q → longer G i n xs ys ≡ true → ys ≡ i ∷ q ∷ qs
longer_is G i n q qs xs ys e le h =
    let h' : longer G i n (q ∷ qs) ys ≡ true = subst (λ xs. longer G i n xs ys ≡ true) e h in
    same_is ys (i ∷ q ∷ qs) (then_of (nat_le n (G.stand q)) (same ys (i ∷ q ∷ qs)) (le-leb n (G.stand q) le) h')

text_not : (w : What) (s n : ℕ) → no_text w ≡ true → w ≡ operand s n → is_text s ≡ false
text_not w s n h e = not_true (is_text s) (subst (λ w. no_text w ≡ true) e h)

fits_from : (R : List Row) (n s q : ℕ) → n ≤ n → left_takes R (level n) s (row q) ≡ true → nat_eq (row_at R q).sort s ≡ true
fits_from R n s q le h = (and_parts (nat_eq (row_at R q).sort s) (nat_le n (row_at R q).level) h).0

left_sort : (R : List Row) (l : Left) (s q : ℕ) → left_takes R l s (row q) ≡ true → (row_at R q).sort ≡ s
left_sort R no_left s q h = absurd (cc)
left_sort R (level n) s q h = eqb-true (row_at R q).sort s (and_parts (nat_eq (row_at R q).sort s) (nat_le n (row_at R q).level) h).0
left_sort R (named m) s q h = eqb-true (row_at R q).sort s (and_parts (nat_eq (row_at R q).sort s) (nat_eq (row_at R q).name m) h).0

left_never_plain : (R : List Row) (l : Left) (s : ℕ) → left_takes R l s plain ≡ true → ⊥
left_never_plain R no_left s h = cc
left_never_plain R (level n) s h = cc
left_never_plain R (named m) s h = cc

spot_parts : (root : ℕ) (z : Sizes) (R : List Row) → Tested root z R → (r p : ℕ) → (no_text ((table_of root z R).what r p) ≡ true) × (each_edge ((table_of root z R).next r p) (λ q. not (is_nothing ((table_of root z R).what r q))) ≡ true) ×
    ((if (table_of root z R).ends r p then true else must_fine ((table_of root z R).next r p) && ends_within most_parts (table_of root z R) r p) ≡ true)
spot_parts root z R t r p =
    let h = spot_of_row root z R t r p in
    let (ab, c) = and_parts (no_text ((table_of root z R).what r p) && each_edge ((table_of root z R).next r p) (λ q. not (is_nothing ((table_of root z R).what r q))))
    (if (table_of root z R).ends r p then true else must_fine ((table_of root z R).next r p) && ends_within most_parts (table_of root z R) r p) h in
    let (a, b) = and_parts (no_text ((table_of root z R).what r p)) (each_edge ((table_of root z R).next r p) (λ q. not (is_nothing ((table_of root z R).what r q)))) ab in
    (a, b, c)

root_spot : (G : Table) (p k : ℕ) (es : List Edge) → one_or_none es ≡ true → MayCome es plain p → takes G (G.what G.root p) k ≡ true → first_spot G G.root plain k es ≡ at_spot p
root_spot G p k [] h m can = absurd m
root_spot G p k (e ∷ []) h m can = elim m [
  | inl x ↦ let c : takes G (G.what G.root e.spot) k ≡ true = subst (λ q. takes G (G.what G.root q) k ≡ true) (sym x.0) can in rw (x.1, c) (ap at_spot x.0)
  | inr x ↦ absurd x
]
root_spot G p k (e ∷ f ∷ es) h m can = absurd (cc)

root_place : (G : Table) (p k : ℕ) → G.what G.root 0 ≡ nothing → one_or_none (G.next G.root 0) ≡ true → MayCome (G.next G.root 0) plain p → takes G (G.what G.root p) k ≡ true → first_place G G.root 0 plain k ≡ at_spot p
unfolding first_place
root_place G p k e h m can = rw e (root_spot G p k (G.next G.root 0) h m can)

each_some : (test : ℕ → Row → Bool) (R : List Row) (i r j : ℕ) (w : Row) → i + r ≡ j → each i R test ≡ true → slice_get R r ≡ Some w → test j w ≡ true
each_some test [] i r j w e h g = absurd (cc)
each_some test (v ∷ R) i zero j w e h g =
    let p = (and_parts (test i v) (each (i + 1) R test) h).0 in let same : v ≡ w = cc in subst (λ j. test j w ≡ true) (omega arith) (subst (λ v. test i v ≡ true) same p)
each_some test (v ∷ R) i (suc r) j w e h g = each_some test R (i + 1) r j w (omega arith) (and_parts (test i v) (each (i + 1) R test) h).1 g

pub separate : (root : ℕ) (z : Sizes) (R : List Row) → Tested root z R → Separate (table_of root z R)
separate root z R t = let G : Table = table_of root z R in record {
  chain_token = λ r p k ks left may wh m.
      let a = else_of (is_left (row_at R r).left) (grows_alone G z.keys r (G.sort r) (first_what (row_at R r))) (begins_alone G z.keys r (G.sort r) (first_what (row_at R r))) left (alone_of root z R t r) in
      let b : begins_alone G z.keys r (G.sort r) (token ks) ≡ true = subst (λ w. begins_alone G z.keys r (G.sort r) w ≡ true) (first_what_is root z R t r p may ∙ wh) a in
      same_is (G.chain (G.sort r) k) (r ∷ []) (all_get (λ k. same (G.chain (G.sort r) k) (r ∷ [])) ks k b m);
  chain_operand = λ r p k s n q qs left may wh e le.
      let a = else_of (is_left (row_at R r).left) (grows_alone G z.keys r (G.sort r) (first_what (row_at R r))) (begins_alone G z.keys r (G.sort r) (first_what (row_at R r))) left (alone_of root z R t r) in
      let b : begins_alone G z.keys r (G.sort r) (operand s n) ≡ true = subst (λ w. begins_alone G z.keys r (G.sort r) w ≡ true) (first_what_is root z R t r p may ∙ wh) a in
      longer_is G r n q qs (G.chain s k) (G.chain (G.sort r) k) e le (below_get (λ k. longer G r n (G.chain s k) (G.chain (G.sort r) k)) z.keys b k (bounded_chain z R s k q qs e).1);
  first_only = λ r p may. (first_spot_is (G.next r 0) plain p (starts_of root z R t r).1 may).0;
  grower_is = λ r p k left may can.
      let a = if_of (is_left (row_at R r).left) (grows_alone G z.keys r (G.sort r) (first_what (row_at R r))) (begins_alone G z.keys r (G.sort r) (first_what (row_at R r))) left (alone_of root z R t r) in
      let b : grows_alone G z.keys r (G.sort r) (G.what r p) ≡ true = subst (λ w. grows_alone G z.keys r (G.sort r) w ≡ true) (first_what_is root z R t r p may) a in
      grower_from (G.what r p) r k (G.sort r) b can;
  left_fits = λ r q left ok. (left_sort R (row_at R r).left (G.sort r) q ok, stands_from r q left ok);
  left_plain = λ r h. left_never_plain R (row_at R r).left (row_at R r).sort h;
  start = λ r. nothing_is (G.what r 0) (starts_of root z R t r).0;
  never_empty = λ r e. then_of (G.ends r 0) (is_text (G.sort r)) e (each_row is_never_empty R t.never_empty (λ j. refl) r);
  slots = λ r p s n e. text_not (G.what r p) s n (spot_parts root z R t r p).0 e;
  root_left = t.whole;
  root_takes = λ p k may can. root_place G p k (nothing_is (G.what G.root 0) (starts_of root z R t root).0) (starts_of root z R t root).1 may can;
}
  where
    grower_from : (w : What) (r k s : ℕ) → grows_alone (table_of root z R) z.keys r s w ≡ true → takes (table_of root z R) w k ≡ true → (table_of root z R).grower s k ≡ Some r
    grower_from nothing r k s h can = absurd (cc)
    grower_from (token ks) r k s h can = is_row_is ((table_of root z R).grower s k) r (all_get (λ k. is_row ((table_of root z R).grower s k) r) ks k h can)
    grower_from (operand s' n) r k s h can =
        let b = begun_by (table_of root z R) n ((table_of root z R).chain s' k) can in
        is_row_is ((table_of root z R).grower s k) r (then_of (begins_by (table_of root z R) n ((table_of root z R).chain s' k)) (is_row ((table_of root z R).grower s k) r) can
        (below_get (λ k. if begins_by (table_of root z R) n ((table_of root z R).chain s' k) then is_row ((table_of root z R).grower s k) r else true) z.keys h k (bounded_chain z R s' k b.head b.rest b.is).1))

    stands_from : (r q : ℕ) → is_left (row_at R r).left ≡ true → left_takes R (row_at R r).left (row_at R r).sort (row q) ≡ true → (row_at R r).stand ≤ (row_at R q).stand
    stands_from r q left ok =
        let a = if_of (is_left (row_at R r).left) (not (nat_eq (row_at R r).sort 0) && each 0 R (λ q v. if left_takes R (row_at R r).left (row_at R r).sort (row q) then nat_le (row_at R r).stand v.stand else true)) true left
        (each_row (left_stands R) R t.lefts (λ j. refl) r) in
        let (not_zero, all) = and_parts (not (nat_eq (row_at R r).sort 0)) (each 0 R (λ q v. if left_takes R (row_at R r).left (row_at R r).sort (row q) then nat_le (row_at R r).stand v.stand else true)) a in
        by (slice_get R q) refl not_zero all
      where
        by : (o : Option Row) → slice_get R q ≡ o → not (nat_eq (row_at R r).sort 0) ≡ true → each 0 R (λ q v. if left_takes R (row_at R r).left (row_at R r).sort (row q) then nat_le (row_at R r).stand v.stand else true) ≡ true →
            (row_at R r).stand ≤ (row_at R q).stand
        by None e not_zero all =
            let x : no_row ≡ row_at R q = sym (ap (or_else no_row) e) in
            let y : 0 ≡ (row_at R r).sort = ap (λ w. w.sort) x ∙ left_sort R (row_at R r).left (row_at R r).sort q ok in
            let b : nat_eq (row_at R r).sort 0 ≡ true = eq-eqb (row_at R r).sort 0 (sym y) in let c : not true ≡ true = subst (λ b. not b ≡ true) b not_zero in absurd (cc)
        by (Some v) e not_zero all =
            let x = each_some (λ q v. if left_takes R (row_at R r).left (row_at R r).sort (row q) then nat_le (row_at R r).stand v.stand else true) R 0 q q v (omega arith) all e in
            let y = leb-true (row_at R r).stand v.stand (then_of (left_takes R (row_at R r).left (row_at R r).sort (row q)) (nat_le (row_at R r).stand v.stand) ok x) in
            subst (λ w. (row_at R r).stand ≤ w.stand) (sym (ap (or_else no_row) e)) y

open_allowed : (o : Option ℕ) (last : Last) → is_open o ≡ true → allowed o last ≡ true
open_allowed None last h = refl
open_allowed (Some r) last h = absurd (cc)

one_may : (es : List Edge) → one_edge es ≡ true → MayCome es plain (spot_of es)
one_may [] h = absurd (cc)
one_may (e ∷ []) h = inl (refl, open_allowed e.behind plain h)
one_may (e ∷ f ∷ es) h = absurd (cc)

must_may : (es : List Edge) (last : Last) (e : Edge) → must_fine es ≡ true → last_edge es ≡ Some e → MayCome es last e.spot
must_may [] last e h i = absurd (cc)
must_may (d ∷ []) last e h i = let same : d ≡ e = cc in inl (ap (λ d. d.spot) same, open_allowed d.behind last h)
must_may (d ∷ f ∷ es) last e h i = inr (must_may (f ∷ es) last e h i)

must_some : (es : List Edge) → must_fine es ≡ true → (e : Edge) × (last_edge es ≡ Some e)
must_some [] h = absurd (cc)
must_some (d ∷ []) h = (d, refl)
must_some (d ∷ f ∷ es) h = must_some (f ∷ es) h

chain_facts : (root : ℕ) (z : Sizes) (R : List Row) → Tested root z R → (s k r : ℕ) (rs : List ℕ) → chain_of z R s k ≡ r ∷ rs →
    ((table_of root z R).sort r ≡ s) × ((table_of root z R).has_left r ≡ false) × MayCome ((table_of root z R).next r 0) plain (first_of (table_of root z R) r) × (what_fine (table_of root z R) k rs ((table_of root z R).what r (first_of (table_of root z R) r)) ≡ true)
chain_facts root z R t s k r rs e =
    let G : Table = table_of root z R in
    let (ls, lk) = bounded_chain z R s k r rs e in
    let a = below_get (λ k. chain_fine G s k (G.chain s k)) z.keys (below_get (λ s. each_below z.keys (λ k. chain_fine G s k (G.chain s k))) z.sorts t.chains s ls) k lk in
    let b : chain_fine G s k (r ∷ rs) ≡ true = subst (λ xs. chain_fine G s k xs ≡ true) e a in
    let (c, what) = and_parts (nat_eq (G.sort r) s && not (G.has_left r) && one_edge (G.next r 0)) (what_fine G k rs (G.what r (spot_of (G.next r 0)))) b in
    let (d, one) = and_parts (nat_eq (G.sort r) s && not (G.has_left r)) (one_edge (G.next r 0)) c in
    let (sort, left) = and_parts (nat_eq (G.sort r) s) (not (G.has_left r)) d in
    (eqb-true (G.sort r) s sort, not_true (G.has_left r) left, one_may (G.next r 0) one, what)

one_what : (G : Table) (k : ℕ) (w : What) → what_fine G k [] w ≡ true → (ks : List ℕ) × (w ≡ token ks) × (has ks k ≡ true)
one_what G k nothing h = absurd (cc)
one_what G k (token ks) h = (ks, refl, h)
one_what G k (operand s n) h = absurd (cc)

more_what : (G : Table) (k q : ℕ) (qs : List ℕ) (w : What) → what_fine G k (q ∷ qs) w ≡ true → (s : ℕ) × (n : ℕ) × (w ≡ operand s n) × (G.chain s k ≡ q ∷ qs) × (begins_by G n (q ∷ qs) ≡ true)
more_what G k q qs nothing h = absurd (cc)
more_what G k q qs (token ks) h = absurd (cc)
more_what G k q qs (operand s n) h = let (a, b) = and_parts (same (G.chain s k) (q ∷ qs)) (nat_le n (G.stand q)) h in (s, n, refl, same_is (G.chain s k) (q ∷ qs) a, b)

pub found : (root : ℕ) (z : Sizes) (R : List Row) → Tested root z R → Found (table_of root z R)
found root z R t = let G : Table = table_of root z R in record {
  chain_one = λ s k r e. let (a, b, c, d) = chain_facts root z R t s k r [] e in (a, b, c, one_what G k (G.what r (first_of G r)) d);
  chain_more = λ s k r q qs e. let (a, b, c, d) = chain_facts root z R t s k r (q ∷ qs) e in (a, b, c, more_what G k q qs (G.what r (first_of G r)) d);
  grower_left = λ s k g e.
      let (ls, lk) = bounded_grower z R s k g e in
      let a = below_get (λ k. grower_fine G s k (G.grower s k)) z.keys (below_get (λ s. each_below z.keys (λ k. grower_fine G s k (G.grower s k))) z.sorts t.growers s ls) k lk in
      let b : grower_fine G s k (Some g) ≡ true = subst (λ o. grower_fine G s k o ≡ true) e a in
      let (c, can) = and_parts (nat_eq (G.sort g) s && G.has_left g && one_edge (G.next g 0)) (takes G (G.what g (spot_of (G.next g 0))) k) b in
      let (d, one) = and_parts (nat_eq (G.sort g) s && G.has_left g) (one_edge (G.next g 0)) c in
      let (sort, left) = and_parts (nat_eq (G.sort g) s) (G.has_left g) d in
      (eqb-true (G.sort g) s sort, left, one_may (G.next g 0) one, can);
  left_plain = λ r h. left_never_plain R (row_at R r).left (row_at R r).sort h;
  start = λ r. nothing_is (G.what r 0) (starts_of root z R t r).0;
  root_left = t.whole;
}

must_parts : (root : ℕ) (z : Sizes) (R : List Row) → Tested root z R → (r p : ℕ) → (table_of root z R).ends r p ≡ false → (must_fine ((table_of root z R).next r p) ≡ true) × (ends_within most_parts (table_of root z R) r p ≡ true)
must_parts root z R t r p e =
    and_parts (must_fine ((table_of root z R).next r p)) (ends_within most_parts (table_of root z R) r p)
    (else_of ((table_of root z R).ends r p) true (must_fine ((table_of root z R).next r p) && ends_within most_parts (table_of root z R) r p) e (spot_parts root z R t r p).2)

pub ends : (root : ℕ) (z : Sizes) (R : List Row) → Tested root z R → Ends (table_of root z R)
ends root z R t = record { next_must = λ r p e. must_some ((table_of root z R).next r p) (must_parts root z R t r p e).0 }

pub passes : (root : ℕ) (z : Sizes) (R : List Row) → Tested root z R → Passes (table_of root z R)
passes root z R t = record {
  must_open = λ r p last e no_end is. must_may ((table_of root z R).next r p) last e (must_parts root z R t r p no_end).0 is;
  edge_some = λ r at p last may. not_nothing ((table_of root z R).what r p) (edge_get (λ q. not (is_nothing ((table_of root z R).what r q))) ((table_of root z R).next r at) last p (spot_parts root z R t r at).1 may);
  soon = λ r at. by r at ((table_of root z R).ends r at) refl;
}
  where
    by : (r at : ℕ) (b : Bool) → (table_of root z R).ends r at ≡ b → ends_within most_parts (table_of root z R) r at ≡ true
    by r at true e = rw e refl
    by r at false e = (must_parts root z R t r at e).1
