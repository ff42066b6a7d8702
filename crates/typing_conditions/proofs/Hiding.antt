-- Hidden letters that belong to one row alone, through one call after another.
use Rattle.std.proofs.Common.{◌≡◌, ◌∙◌, ◌⊎◌, inl, inr, ℕ, zero, suc, ◌/◌, ◌%◌, ◌<◌, ◌≤◌, ◌^◌, ◌==◌, ◌&&◌, ◌||◌, not, if◌then◌else◌, Bool, true, false, Option, Some, None, List, [], ◌∷◌, ◌++◌, refl, sym, ap, subst, arith}
use Rattle.std.specs.Prelude.{slice_get}
use Rattle.std.proofs.lemmas.Bool.{eqb-true}
use Rattle.std.proofs.lemmas.Nat.{div-mul-add, mod-mul-add, div-add-mod'}
use Rattle.std.proofs.lemmas.Slice.Eq.{bytes_eq-Decides}
use Rattle.type_model.specs.Origins.{same_path}
use Rattle.type_model.proofs.Applying.{eqb_same, or_left, or_right}
use Rattle.typing_laws.proofs.Bools.{no_yes, and_cases, and_both}
use Rattle.typing_model.specs.Contexts.{Choice}
use Rattle.type_nodes.specs.Nodes.{Node}
use Rattle.type_nodes.specs.Readings.{Types}
use Rattle.typing_conditions.specs.Sights.{AreScopesIn, Sight, Key, own, letter, filled, without_unknown, doubtful, Letters, IsGiven, AreGiven, AreNodes, number_in}
use Rattle.typing_conditions.specs.Hiding.{plain_key, same_key, is_doubtful, row_of, is_some_of, is_none_or, marked, recorded_for, is_noted_for, is_new, typed_for, fits_for, have_node, is_sure, Keeps, IsBetween, HasTyped, HasCopy, ArePlaced, HaveOneNode, Settles, NoneDoubtful, AreOfRow, AreBelow, IsDone, AreDone, IsOwned, of_row, of_node, of_done, Owns, NotesRow, AreSure}

pub one_some : (x y : ℕ) → Some x ≡ Some y → x ≡ y
one_some x y e = cc

-- a number among those of all items is that of one place in one item
pub one_number : (i j p q : ℕ) → p < 2 ^ 32 → q < 2 ^ 32 → number_in i p ≡ number_in j q → (i ≡ j) × (p ≡ q)
one_number i j p q lt lt' e = (
  sym (div-mul-add i (2 ^ 32) p lt) ∙ ap (λ n. n / 2 ^ 32) e ∙ div-mul-add j (2 ^ 32) q lt',
  sym (mod-mul-add i (2 ^ 32) p lt) ∙ ap (λ n. n % 2 ^ 32) e ∙ mod-mul-add j (2 ^ 32) q lt',
)

-- a key belongs to the same row without its marks
row_plain : (key : Key) → row_of (plain_key key) ≡ row_of key
row_plain (own n) = refl
row_plain (letter n k) = refl
row_plain (filled n o) = refl
row_plain (without_unknown key) = row_plain key
row_plain (doubtful key) = row_plain key

-- and is the same as itself
same_itself : (key : Key) → same_key (plain_key key) (plain_key key) ≡ true
same_itself (own n) = eqb_same n
same_itself (letter n k) = and_both (n == n) (k == k) (eqb_same n) (eqb_same k)
same_itself (filled n o) = and_both (n == n) (same_path o o) (eqb_same n) ((bytes_eq-Decides o o).1 refl)
same_itself (without_unknown key) = same_itself key
same_itself (doubtful key) = same_itself key

-- an entry of two lists is one of the first or of the second
pub split_get : (xs ys : Letters) (k : ℕ) (x : Key × ℕ) → slice_get (xs ++ ys) k ≡ Some x → ((j : ℕ) × (slice_get xs j ≡ Some x)) ⊎ ((j : ℕ) × (slice_get ys j ≡ Some x))
split_get [] ys k x e = inr (k, e)
split_get (z ∷ xs) ys zero x e = inl (zero, e)
split_get (z ∷ xs) ys (suc k) x e = elim (split_get xs ys k x e) [ inl r ↦ inl (suc r.0, r.1) | inr r ↦ inr r ]

-- entries of a list are among those with others before or after them
pub in_first : (xs ys : Letters) (k : ℕ) (x : Key × ℕ) → slice_get xs k ≡ Some x → (j : ℕ) × (slice_get (xs ++ ys) j ≡ Some x)
in_first [] ys k x e = absurd (cc)
in_first (z ∷ xs) ys zero x e = (zero, e)
in_first (z ∷ xs) ys (suc k) x e = let (j, f) = in_first xs ys k x e in (suc j, f)

pub in_second : (xs ys : Letters) (k : ℕ) (x : Key × ℕ) → slice_get ys k ≡ Some x → (j : ℕ) × (slice_get (xs ++ ys) j ≡ Some x)
in_second [] ys k x e = (k, e)
in_second (z ∷ xs) ys k x e = let (j, f) = in_second xs ys k x e in (suc j, f)

-- a letter is among some where one like it is
pub copy_itself : (xs : Letters) (k : ℕ) (x : Key × ℕ) → slice_get xs k ≡ Some x → HasCopy xs x
copy_itself xs k x e = record { place = k; entry = x; at = e; key = refl; node = refl }

pub copy_of : {xs ys : Letters} {x : Key × ℕ} (h : HasCopy ys x) → HasCopy xs h.entry → HasCopy xs x
copy_of h g = record { place = g.place; entry = g.entry; at = g.at; key = g.key ∙ h.key; node = g.node ∙ h.node }

pub copy_first : (xs ys : Letters) {x : Key × ℕ} → HasCopy xs x → HasCopy (xs ++ ys) x
copy_first xs ys h = let (j, at) = in_first xs ys h.place h.entry h.at in record { place = j; entry = h.entry; at = at; key = h.key; node = h.node }

pub copy_second : (xs ys : Letters) {x : Key × ℕ} → HasCopy ys x → HasCopy (xs ++ ys) x
copy_second xs ys h = let (j, at) = in_second xs ys h.place h.entry h.at in record { place = j; entry = h.entry; at = at; key = h.key; node = h.node }

-- what is noted and recorded stays where nothing is done
pub keeps_same : {a : Sight} → Keeps a a
keeps_same = record { noted = λ i p h. h; scopes = λ i p env h. h; same = λ i p h. refl; recorded = λ i p m e. e }

-- where no type is recorded
pub keeps_as : {a b : Sight} → ((i p : ℕ) → a.noted i p ≡ true → b.noted i p ≡ true) → AreScopesIn a.scopes b.scopes → ((i p : ℕ) → b.types i p ≡ a.types i p) → Keeps a b
keeps_as noted scopes types = record { noted = noted; scopes = scopes; same = λ i p h. types i p; recorded = λ i p m e. types i p ∙ e }

-- and through one call after another
pub keeps_both : {a b d : Sight} → Keeps a b → Keeps b d → Keeps a d
keeps_both p q = record {
  noted = λ i k h. q.noted i k (p.noted i k h);
  scopes = λ i k env h. q.scopes i k env (p.scopes i k env h);
  same = λ i k h. q.same i k (p.noted i k h) ∙ p.same i k h;
  recorded = λ i k m e. q.recorded i k m (p.recorded i k m e);
}

none_before : (a b : Sight) → Keeps a b → (i p : ℕ) → b.noted i p ≡ false → a.noted i p ≡ false
none_before a b keeps i p e = by (a.noted i p) refl
  where
    by : (o : Bool) → a.noted i p ≡ o → a.noted i p ≡ false
    by false f = f
    by true f = absurd (no_yes (sym e ∙ keeps.noted i p f))

-- numbers are below 2^32 before too
pub placed_before : {a b : Sight} → Keeps a b → ArePlaced b → ArePlaced a
placed_before keeps placed = record { noted = λ i p h. placed.noted i p (keeps.noted i p h); recorded = λ i p m e. placed.recorded i p m (keeps.recorded i p m e) }

-- a letter for the type of a node has the node that is recorded for it
typed_one : {b : Sight} {x : Key × ℕ} → ArePlaced b → HasTyped b x → (i p m : ℕ) → b.types i p ≡ Some m → plain_key x.0 ≡ own (number_in i p) → x.1 ≡ m
typed_one {b} {x} placed t i p m e is =
    let (f, g) = one_number t.item i t.place p (placed.recorded t.item t.place x.1 t.at) (placed.recorded i p m e) (ap row_of (sym t.key ∙ is)) in
    one_some x.1 m (sym t.at ∙ (λ z. b.types (f z) (g z)) ∙ e)

-- no letters are hidden
pub settles_none : {a b : Sight} → Settles a b []
settles_none = record { belongs = λ k x e sure. absurd (cc); one = λ placed. record { letters = λ j k x y e f s t is. absurd (cc); recorded = λ i p m k x e f s is. absurd (cc) } }

between_on : (a b d : Sight) (n : ℕ) → Keeps b d → IsBetween a b n → IsBetween a d n
between_on a b d n keeps w = record { item = w.item; place = w.place; number = w.number; none = w.none; now = keeps.noted w.item w.place w.now }

typed_on : (b d : Sight) (x : Key × ℕ) → Keeps b d → HasTyped b x → HasTyped d x
typed_on b d x keeps t = record { item = t.item; place = t.place; key = t.key; at = keeps.recorded t.item t.place x.1 t.at }

-- hidden letters go on to a later state
pub settles_on : {a b d : Sight} (xs : Letters) → Keeps b d → Settles a b xs → Settles a d xs
settles_on {a} {b} {d} xs keeps s = record {
  belongs = λ k x e sure. elim (s.belongs k x e sure) [ inl w ↦ inl (between_on a b d (row_of x.0) keeps w) | inr t ↦ inr (typed_on b d x keeps t) ];
  one = λ placed. let h = s.one (placed_before keeps placed) in record { letters = h.letters; recorded = λ i p m k x e at sure is. recorded placed h i p m k x e at sure is (s.belongs k x at sure) };
}
  where
    recorded : ArePlaced d → HaveOneNode b xs → (i p m k : ℕ) (x : Key × ℕ) → d.types i p ≡ Some m → slice_get xs k ≡ Some x → is_doubtful x.0 ≡ false → plain_key x.0 ≡ own (number_in i p) → IsBetween a b (row_of x.0) ⊎ HasTyped b x → x.1 ≡ m
    recorded placed h i p m k x e at sure is (inr t) = typed_one placed (typed_on b d x keeps t) i p m e is
    recorded placed h i p m k x e at sure is (inl w) =
        let later = keeps.noted w.item w.place w.now in
        let (f, g) = one_number w.item i w.place p (placed.noted w.item w.place later) (placed.recorded i p m e) (sym w.number ∙ sym (row_plain x.0) ∙ ap row_of is) in
        let now : b.noted i p ≡ true = (λ z. b.noted (sym f z) (sym g z)) ∙ w.now in
        h.recorded i p m k x (sym (keeps.same i p now) ∙ e) at sure is

-- and they are hidden from an earlier state on
pub settles_from : {a b d : Sight} (xs : Letters) → Keeps a b → Settles b d xs → Settles a d xs
settles_from {a} {b} xs keeps s = record {
  belongs = λ k x e sure. elim (s.belongs k x e sure) [ inl w ↦ inl (record { item = w.item; place = w.place; number = w.number; none = none_before a b keeps w.item w.place w.none; now = w.now }) | inr t ↦ inr t ];
  one = s.one;
}

-- those of one call and then of another
pub settles_both : {a b d : Sight} (xs ys : Letters) → Keeps a b → Keeps b d → Settles a b xs → Settles b d ys → Settles a d (xs ++ ys)
settles_both {a} {b} {d} xs ys before after p q = record {
  belongs = λ k x e sure. elim (split_get xs ys k x e) [ inl r ↦ first.belongs r.0 x r.1 sure | inr r ↦ second.belongs r.0 x r.1 sure ];
  one = λ placed. record {
    letters = λ j k x y e f s t is. elim (split_get xs ys j x e) [
      | inl r ↦ elim (split_get xs ys k y f) [ inl u ↦ (first.one placed).letters r.0 u.0 x y r.1 u.1 s t is | inr u ↦ across placed x y r u s t is (p.belongs r.0 x r.1 s) (q.belongs u.0 y u.1 t) ]
      | inr r ↦ elim (split_get xs ys k y f) [ inl u ↦ sym (across placed y x u r t s (sym is) (p.belongs u.0 y u.1 t) (q.belongs r.0 x r.1 s)) | inr u ↦ (second.one placed).letters r.0 u.0 x y r.1 u.1 s t is ]
    ];
    recorded = λ i n m k x e f s is. elim (split_get xs ys k x f) [ inl r ↦ (first.one placed).recorded i n m r.0 x e r.1 s is | inr r ↦ (second.one placed).recorded i n m r.0 x e r.1 s is ];
  };
}
  where
    first : Settles a d xs
    first = settles_on xs after p

    second : Settles a d ys
    second = settles_from ys before q

    -- one key is in both only for the type of a recorded node
    across : ArePlaced d → (x y : Key × ℕ) → (j : ℕ) × (slice_get xs j ≡ Some x) → (k : ℕ) × (slice_get ys k ≡ Some y) → is_doubtful x.0 ≡ false → is_doubtful y.0 ≡ false → plain_key x.0 ≡ plain_key y.0 →
        IsBetween a b (row_of x.0) ⊎ HasTyped b x → IsBetween b d (row_of y.0) ⊎ HasTyped d y → x.1 ≡ y.1
    across placed x y (j, e) (k, f) s t is (inr u) v = sym ((second.one placed).recorded u.item u.place x.1 k y (after.recorded u.item u.place x.1 u.at) f t (sym is ∙ u.key))
    across placed x y (j, e) (k, f) s t is (inl w) (inr v) = (first.one placed).recorded v.item v.place y.1 j x v.at e s (is ∙ v.key)
    across placed x y (j, e) (k, f) s t is (inl w) (inl v) =
        let rows : row_of x.0 ≡ row_of y.0 = sym (row_plain x.0) ∙ ap row_of is ∙ row_plain y.0 in
        let (i, o) = one_number w.item v.item w.place v.place (placed.noted w.item w.place (after.noted w.item w.place w.now)) (placed.noted v.item v.place v.now) (sym w.number ∙ rows ∙ v.number) in
        absurd (no_yes (sym v.none ∙ (λ z. b.noted (sym i z) (sym o z)) ∙ w.now))

-- from a state before to a state after
pub settles_as : {a b a' b' : Sight} (xs : Letters) → Keeps a' a → Keeps b b' → Settles a b xs → Settles a' b' xs
settles_as xs before after s = settles_from xs before (settles_on xs after s)

-- each letter is among the marked ones
pub marked_copy : (test : Key × ℕ → Bool) (xs : Letters) (k : ℕ) (x : Key × ℕ) → slice_get xs k ≡ Some x → HasCopy (marked test xs) x
marked_copy test [] k x e = absurd (cc)
marked_copy test (y ∷ ys) (suc k) x e = let h = marked_copy test ys k x e in record { place = suc h.place; entry = h.entry; at = h.at; key = h.key; node = h.node }
marked_copy test (y ∷ ys) zero x e =
    let same : y ≡ x = cc in
    record { place = zero; entry = ((if test y then y.0 else doubtful y.0), y.1); at = refl; key = by (test y) ∙ ap (λ (z : Key × ℕ). plain_key z.0) same; node = ap (λ (z : Key × ℕ). z.1) same }
  where
    by : (b : Bool) → plain_key (if b then y.0 else doubtful y.0) ≡ plain_key y.0
    by true = refl
    by false = refl

-- a letter without doubt among marked ones passes the test
marked_there : (test : Key × ℕ → Bool) (xs : Letters) (k : ℕ) (z : Key × ℕ) → slice_get (marked test xs) k ≡ Some z → is_doubtful z.0 ≡ false → (slice_get xs k ≡ Some z) × (test z ≡ true)
marked_there test [] k z e sure = absurd (cc)
marked_there test (x ∷ xs) (suc k) z e sure = marked_there test xs k z e sure
marked_there test (x ∷ xs) zero z e sure = by (test x) refl e
  where
    by : (b : Bool) → test x ≡ b → Some ((if b then x.0 else doubtful x.0), x.1) ≡ Some z → (Some x ≡ Some z) × (test z ≡ true)
    by true h f = let same : x ≡ z = cc in (ap (λ (y : Key × ℕ). Some y) same, ap test (sym same) ∙ h)
    by false h f = let same : doubtful x.0 ≡ z.0 = cc in absurd (no_yes (sym sure ∙ ap is_doubtful (sym same)))

-- marks change no type
pub given_marked : (test : Key × ℕ → Bool) (xs : Letters) (V : Types) (ch : Choice) → AreGiven xs V ch → AreGiven (marked test xs) V ch
given_marked test [] V ch h = tt
given_marked test (x ∷ xs) V ch h = (by (test x), given_marked test xs V ch h.1)
  where
    by : (b : Bool) → IsGiven V ch (if b then x.0 else doubtful x.0) x.1
    by true = h.0
    by false = record { is = h.0.is; known = h.0.known }

pub given_unmarked : (test : Key × ℕ → Bool) (xs : Letters) (V : Types) (ch : Choice) → AreGiven (marked test xs) V ch → AreGiven xs V ch
given_unmarked test [] V ch h = tt
given_unmarked test (x ∷ xs) V ch h = (by (test x) h.0, given_unmarked test xs V ch h.1)
  where
    by : (b : Bool) → IsGiven V ch (if b then x.0 else doubtful x.0) x.1 → IsGiven V ch x.0 x.1
    by true g = g
    by false g = record { is = g.is; known = g.known }

-- nor any node
pub nodes_marked : (test : Key × ℕ → Bool) (xs : Letters) (nodes : List Node) → AreNodes xs nodes → AreNodes (marked test xs) nodes
nodes_marked test [] nodes h = tt
nodes_marked test (x ∷ xs) nodes h = (h.0, nodes_marked test xs nodes h.1)

-- a number among those of all items is that of its item and its place
number_is : (n : ℕ) → n ≡ number_in (n / 2 ^ 32) (n % 2 ^ 32)
number_is n = sym (div-add-mod' n (2 ^ 32))

-- what is recorded for a number is what is recorded for its item and its place
at_number : (b : Sight) (i p : ℕ) → p < 2 ^ 32 → recorded_for b (number_in i p) ≡ b.types i p
at_number b i p low = (λ k. b.types (div-mul-add i (2 ^ 32) p low k) (mod-mul-add i (2 ^ 32) p low k))

-- a node that is recorded for a number
recorded_some : (m : ℕ) (o : Option ℕ) → is_some_of m o ≡ true → o ≡ Some m
recorded_some m None h = absurd (no_yes h)
recorded_some m (Some k) h = ap Some (sym (eqb-true m k h))

typed_there : (b : Sight) (x : Key × ℕ) → typed_for b x.1 (plain_key x.0) ≡ true → HasTyped b x
typed_there b x = by (plain_key x.0) refl
  where
    by : (key : Key) → plain_key x.0 ≡ key → typed_for b x.1 key ≡ true → HasTyped b x
    by (own n) is e = record { item = n / 2 ^ 32; place = n % 2 ^ 32; key = is ∙ ap own (number_is n); at = recorded_some x.1 (recorded_for b n) e }
    by (letter n k) is e = absurd (no_yes e)
    by (filled n o) is e = absurd (no_yes e)
    by (without_unknown key) is e = absurd (no_yes e)
    by (doubtful key) is e = absurd (no_yes e)

-- what is recorded is no other node
none_other : (m k : ℕ) (o : Option ℕ) → is_none_or m o ≡ true → o ≡ Some k → m ≡ k
none_other m k None h e = absurd (let f : None ≡ Some k = e in cc)
none_other m k (Some j) h e = eqb-true m j h ∙ one_some j k e

-- a row was noted for the first time
new_between : (a b : Sight) (n : ℕ) → is_new a b n ≡ true → IsBetween a b n
new_between a b n e = let (p, q) = and_cases (not (is_noted_for a n)) (is_noted_for b n) e in record { item = n / 2 ^ 32; place = n % 2 ^ 32; number = number_is n; none = none_so (is_noted_for a n) p; now = q }
  where
    none_so : (o : Bool) → not o ≡ true → o ≡ false
    none_so false h = refl
    none_so true h = absurd (no_yes h)

-- the letters with a key have the node
node_had : (key : Key) (m : ℕ) (all : Letters) → have_node key m all ≡ true → (k : ℕ) (x : Key × ℕ) → slice_get all k ≡ Some x → is_doubtful x.0 ≡ false → same_key key (plain_key x.0) ≡ true → m ≡ x.1
node_had key m [] h k x e sure same = absurd (cc)
node_had key m (z ∷ all) h (suc k) x e sure same = node_had key m all (and_cases (is_doubtful z.0 || not (same_key key (plain_key z.0)) || m == z.1) (have_node key m all) h).1 k x e sure same
node_had key m (z ∷ all) h zero x e sure same =
    let is : z ≡ x = cc in
    let holds = subst (λ (y : Key × ℕ). (is_doubtful y.0 || not (same_key key (plain_key y.0)) || m == y.1) ≡ true) is (and_cases (is_doubtful z.0 || not (same_key key (plain_key z.0)) || m == z.1) (have_node key m all) h).0 in
    eqb-true m x.1 (subst (λ s. (not s || m == x.1) ≡ true) same (subst (λ s. (s || not (same_key key (plain_key x.0)) || m == x.1) ≡ true) sure holds))

-- what a letter passes that is without doubt among others, but for those for the types of recorded nodes
record Sure (a b : Sight) (all : Letters) (x : Key × ℕ) : Type 0 where
  row : IsBetween a b (row_of x.0)
  fits : fits_for b x.1 (plain_key x.0) ≡ true
  nodes : have_node (plain_key x.0) x.1 all ≡ true

sure_parts : (a b : Sight) (all : Letters) (x : Key × ℕ) → is_sure a b all x ≡ true → Sure a b all x ⊎ HasTyped b x
sure_parts a b all x = by (typed_for b x.1 (plain_key x.0)) refl
  where
    by : (t : Bool) → typed_for b x.1 (plain_key x.0) ≡ t → (t || is_new a b (row_of (plain_key x.0)) && fits_for b x.1 (plain_key x.0) && have_node (plain_key x.0) x.1 all) ≡ true → Sure a b all x ⊎ HasTyped b x
    by true h e = inr (typed_there b x h)
    by false h e =
        let (p, q) = and_cases (is_new a b (row_of (plain_key x.0)) && fits_for b x.1 (plain_key x.0)) (have_node (plain_key x.0) x.1 all) e in
        let (r, s) = and_cases (is_new a b (row_of (plain_key x.0))) (fits_for b x.1 (plain_key x.0)) p in
        inl (record { row = subst (IsBetween a b) (row_plain x.0) (new_between a b (row_of (plain_key x.0)) r); fits = s; nodes = q })

-- what is recorded for a key's node is the letter's
fits_one : (b : Sight) → ArePlaced b → (x : Key × ℕ) → fits_for b x.1 (plain_key x.0) ≡ true → (i p m : ℕ) → b.types i p ≡ Some m → plain_key x.0 ≡ own (number_in i p) → x.1 ≡ m
fits_one b placed x fits i p m e is =
    let low = placed.recorded i p m e in
    none_other x.1 m (recorded_for b (number_in i p)) (ap (fits_for b x.1) (sym is) ∙ fits) ((λ k. b.types (div-mul-add i (2 ^ 32) p low k) (mod-mul-add i (2 ^ 32) p low k)) ∙ e)

-- Open letters are hidden too, with a doubt at those that aren't sure among all that are hidden then.
pub settles_closed : {a b : Sight} (xs ys : Letters) → Settles a b xs → Settles a b (xs ++ marked (is_sure a b (xs ++ ys)) ys)
settles_closed {a} {b} xs ys s = record {
  belongs = λ k x e sure. elim (split_get xs (marked test ys) k x e) [ inl r ↦ s.belongs r.0 x r.1 sure | inr r ↦ elim (there r.0 x r.1 sure).1 [ inl t ↦ inl t.row | inr t ↦ inr t ] ];
  one = λ placed. record {
    letters = λ j k x y e f t u is. elim (split_get xs (marked test ys) j x e) [
      | inl r ↦ elim (split_get xs (marked test ys) k y f) [ inl v ↦ (s.one placed).letters r.0 v.0 x y r.1 v.1 t u is | inr v ↦ sym (after placed v.0 y x v.1 u (inl r) t (sym is)) ]
      | inr r ↦ after placed r.0 x y r.1 t (elim (split_get xs (marked test ys) k y f) [ inl v ↦ inl v | inr v ↦ inr (v.0, (there v.0 y v.1 u).0, (there v.0 y v.1 u).1) ]) u is
    ];
    recorded = λ i p m k x e f t is. elim (split_get xs (marked test ys) k x f) [
      | inl r ↦ (s.one placed).recorded i p m r.0 x e r.1 t is
      | inr r ↦ elim (there r.0 x r.1 t).1 [ inl v ↦ fits_one b placed x v.fits i p m e is | inr v ↦ typed_one placed v i p m e is ]
    ];
  };
}
  where
    test : Key × ℕ → Bool
    test = is_sure a b (xs ++ ys)

    there : (k : ℕ) (x : Key × ℕ) → slice_get (marked test ys) k ≡ Some x → is_doubtful x.0 ≡ false → (slice_get ys k ≡ Some x) × (Sure a b (xs ++ ys) x ⊎ HasTyped b x)
    there k x e sure = let (at, passes) = marked_there test ys k x e sure in (at, sure_parts a b (xs ++ ys) x passes)

    -- a letter that passes has the node of each with its key
    after : ArePlaced b → (j : ℕ) (x y : Key × ℕ) → slice_get (marked test ys) j ≡ Some x → is_doubtful x.0 ≡ false →
        ((k : ℕ) × (slice_get xs k ≡ Some y)) ⊎ ((k : ℕ) × (slice_get ys k ≡ Some y) × (Sure a b (xs ++ ys) y ⊎ HasTyped b y)) → is_doubtful y.0 ≡ false → plain_key x.0 ≡ plain_key y.0 → x.1 ≡ y.1
    after placed j x y e t where_is u is = by (there j x e t).1 where_is
      where
        same : same_key (plain_key x.0) (plain_key y.0) ≡ true
        same = ap (same_key (plain_key x.0)) (sym is) ∙ same_itself x.0

        by : Sure a b (xs ++ ys) x ⊎ HasTyped b x → ((k : ℕ) × (slice_get xs k ≡ Some y)) ⊎ ((k : ℕ) × (slice_get ys k ≡ Some y) × (Sure a b (xs ++ ys) y ⊎ HasTyped b y)) → x.1 ≡ y.1
        by (inl v) (inl (k, f)) = let (i, g) = in_first xs ys k y f in node_had (plain_key x.0) x.1 (xs ++ ys) v.nodes i y g u same
        by (inl v) (inr (k, f, w)) = let (i, g) = in_second xs ys k y f in node_had (plain_key x.0) x.1 (xs ++ ys) v.nodes i y g u same
        by (inr v) (inl (k, f)) = sym ((s.one placed).recorded v.item v.place x.1 k y v.at f u (sym is ∙ v.key))
        by (inr v) (inr (k, f, inl w)) = sym (fits_one b placed y w.fits v.item v.place x.1 v.at (sym is ∙ v.key))
        by (inr v) (inr (k, f, inr w)) = typed_one placed v w.item w.place y.1 w.at (is ∙ w.key)

-- keys that are tested to be one are one
key_is : (key z : Key) → same_key key z ≡ true → key ≡ z
key_is (own n) (own m) e = ap own (eqb-true n m e)
key_is (own n) (letter m j) e = absurd (no_yes e)
key_is (own n) (filled m p) e = absurd (no_yes e)
key_is (own n) (without_unknown z) e = absurd (no_yes e)
key_is (own n) (doubtful z) e = absurd (no_yes e)
key_is (letter n k) (own m) e = absurd (no_yes e)
key_is (letter n k) (letter m j) e = let (p, q) = and_cases (n == m) (k == j) e in (λ i. letter (eqb-true n m p i) (eqb-true k j q i))
key_is (letter n k) (filled m p) e = absurd (no_yes e)
key_is (letter n k) (without_unknown z) e = absurd (no_yes e)
key_is (letter n k) (doubtful z) e = absurd (no_yes e)
key_is (filled n o) (own m) e = absurd (no_yes e)
key_is (filled n o) (letter m j) e = absurd (no_yes e)
key_is (filled n o) (filled m p) e = let (q, r) = and_cases (n == m) (same_path o p) e in (λ i. filled (eqb-true n m q i) ((bytes_eq-Decides o p).0 r i))
key_is (filled n o) (without_unknown z) e = absurd (no_yes e)
key_is (filled n o) (doubtful z) e = absurd (no_yes e)
key_is (without_unknown key) z e = absurd (no_yes e)
key_is (doubtful key) z e = absurd (no_yes e)

-- the letters with a key have a node where each of them that is without doubt has it
node_of_each : (key : Key) (m : ℕ) (all : Letters) → ((k : ℕ) (x : Key × ℕ) → slice_get all k ≡ Some x → is_doubtful x.0 ≡ false → key ≡ plain_key x.0 → m ≡ x.1) → have_node key m all ≡ true
node_of_each key m [] each = refl
node_of_each key m (x ∷ xs) each = and_both (is_doubtful x.0 || not (same_key key (plain_key x.0)) || m == x.1) (have_node key m xs) (by (is_doubtful x.0) (same_key key (plain_key x.0)) refl refl) (node_of_each key m xs (λ k y e. each (suc k) y e))
  where
    by : (s t : Bool) → is_doubtful x.0 ≡ s → same_key key (plain_key x.0) ≡ t → (is_doubtful x.0 || not (same_key key (plain_key x.0)) || m == x.1) ≡ true
    by true t e f = ap (λ u. u || not (same_key key (plain_key x.0)) || m == x.1) e
    by false true e f = (λ i. e i || not (f i) || m == x.1) ∙ ap (λ k. m == k) (sym (each zero x refl e (key_is key (plain_key x.0) f))) ∙ eqb_same m
    by false false e f = (λ i. e i || not (f i) || m == x.1)

-- a letter for the type of a node passes, with the recorded node
pass_typed : (a d : Sight) (all : Letters) (x : Key × ℕ) → ArePlaced d → HasTyped d x → is_sure a d all x ≡ true
pass_typed a d all x placed t =
    or_left (typed_for d x.1 (plain_key x.0)) (is_new a d (row_of (plain_key x.0)) && fits_for d x.1 (plain_key x.0) && have_node (plain_key x.0) x.1 all)
    (ap (typed_for d x.1) t.key ∙ ap (is_some_of x.1) (at_number d t.item t.place (placed.recorded t.item t.place x.1 t.at) ∙ t.at) ∙ eqb_same x.1)

-- a letter whose row is new passes, where nothing speaks against its node
pass_new : (a d : Sight) (all : Letters) (x : Key × ℕ) → is_new a d (row_of x.0) ≡ true → fits_for d x.1 (plain_key x.0) ≡ true → ((k : ℕ) (y : Key × ℕ) → slice_get all k ≡ Some y → is_doubtful y.0 ≡ false → plain_key x.0 ≡ plain_key y.0 → x.1 ≡ y.1) → is_sure a d all x ≡ true
pass_new a d all x new fits one =
    or_right (typed_for d x.1 (plain_key x.0)) (is_new a d (row_of (plain_key x.0)) && fits_for d x.1 (plain_key x.0) && have_node (plain_key x.0) x.1 all)
    (and_both (is_new a d (row_of (plain_key x.0)) && fits_for d x.1 (plain_key x.0)) (have_node (plain_key x.0) x.1 all)
    (and_both (is_new a d (row_of (plain_key x.0))) (fits_for d x.1 (plain_key x.0)) (ap (is_new a d) (row_plain x.0) ∙ new) fits)
    (node_of_each (plain_key x.0) x.1 all one))

-- a row that was noted for the first time is new
between_new : (a d : Sight) (n : ℕ) → ArePlaced d → IsBetween a d n → is_new a d n ≡ true
between_new a d n placed w =
    let low = placed.noted w.item w.place w.now in
    let here : (f : ℕ → ℕ → Bool) → f (n / 2 ^ 32) (n % 2 ^ 32) ≡ f w.item w.place = λ f. ap (λ k. f (k / 2 ^ 32) (k % 2 ^ 32)) w.number ∙ (λ i. f (div-mul-add w.item (2 ^ 32) w.place low i) (mod-mul-add w.item (2 ^ 32) w.place low i)) in
    and_both (not (is_noted_for a n)) (is_noted_for d n) (ap not (here a.noted ∙ w.none)) (here d.noted ∙ w.now)

-- what is so of a row that is noted now: no letter that was hidden before is of it, nor one for the type of a node
record RowIsNew (a b d : Sight) (hidden : Letters) (n m : ℕ) : Type 0 where
  new : is_new a d n ≡ true
  fits : fits_for d m (own n) ≡ true
  none_hidden : (k : ℕ) (y : Key × ℕ) → slice_get hidden k ≡ Some y → row_of y.0 ≡ n → ⊥
  none_typed : (y : Key × ℕ) → HasTyped b y → row_of y.0 ≡ n → ⊥

row_is_new : {n m : ℕ} {a b d : Sight} (hidden : Letters) → Keeps a b → Settles a b hidden → ArePlaced d → NoneDoubtful hidden → NotesRow b d n m → RowIsNew a b d hidden n m
row_is_new {n} {m} {a} {b} {d} hidden before s placed clear r = record {
  new = between_new a d n placed (record { item = b.item; place = r.place; number = r.number; none = none_before a b before b.item r.place r.none; now = r.now });
  fits = ap (is_none_or m) (ap (recorded_for d) r.number ∙ at_number d b.item r.place low) ∙ none_or (d.types b.item r.place) refl;
  none_hidden = λ k y e is. elim (s.belongs k y e (clear k y e)) [
    | inl w ↦
        let (f, g) = one_number w.item b.item w.place r.place (placed.noted w.item w.place (r.keeps.noted w.item w.place w.now)) low (sym w.number ∙ is ∙ r.number) in
        absurd (no_yes (sym r.none ∙ (λ z. b.noted (sym f z) (sym g z)) ∙ w.now))
    | inr t ↦ none_typed y t is
  ];
  none_typed = none_typed;
}
  where
    low : r.place < 2 ^ 32
    low = placed.noted b.item r.place r.now

    none_or : (o : Option ℕ) → d.types b.item r.place ≡ o → is_none_or m o ≡ true
    none_or None e = refl
    none_or (Some k) e = ap (λ z. m == z) (r.only k e) ∙ eqb_same m

    none_typed : (y : Key × ℕ) → HasTyped b y → row_of y.0 ≡ n → ⊥
    none_typed y t is =
        let (f, g) = one_number t.item b.item t.place r.place (placed.recorded t.item t.place y.1 (r.keeps.recorded t.item t.place y.1 t.at)) low (ap row_of (sym t.key) ∙ row_plain y.0 ∙ is ∙ r.number) in
        absurd (let h : None ≡ Some y.1 = sym r.untyped ∙ (λ z. b.types (sym f z) (sym g z)) ∙ t.at in cc)

-- why a letter passes
data Passes (n m : ℕ) (a b d : Sight) (hidden mine : Letters) (x : Key × ℕ) : Type 0 where
  by_row : RowIsNew a b d hidden n m → (k : ℕ) → slice_get mine k ≡ Some x → Passes n m a b d hidden mine x
  by_node : RowIsNew a b d hidden n m → plain_key x.0 ≡ own n → x.1 ≡ m → Passes n m a b d hidden mine x
  by_done : IsDone b hidden x → Passes n m a b d hidden mine x

module _ (n m : ℕ) (a b d : Sight) (xs ys mine : Letters) (keeps : Keeps b d) (s : Settles a d xs) (placed : ArePlaced d) (clear : NoneDoubtful xs) (r : AreOfRow n mine) (each : (k : ℕ) (x : Key × ℕ) → slice_get ys k ≡ Some x → Passes n m a b d xs mine x) where
  abbrev all : Letters
  all = xs ++ ys

  -- no letter of a row that is done is of the new one
  not_done : RowIsNew a b d xs n m → (y : Key × ℕ) → IsDone b xs y → row_of y.0 ≡ n → ⊥
  not_done new y (inl t) is = new.none_typed y t is
  not_done new y (inr h) is = new.none_hidden h.place h.entry h.at (sym (row_plain h.entry.0) ∙ ap row_of h.key ∙ row_plain y.0 ∙ is)

  same_row : (x y : Key × ℕ) → plain_key x.0 ≡ plain_key y.0 → row_of y.0 ≡ row_of x.0
  same_row x y is = sym (row_plain y.0) ∙ ap row_of (sym is) ∙ row_plain x.0

  -- a letter of the row alone, against each with its key
  row_one : RowIsNew a b d xs n m → (k : ℕ) (x y : Key × ℕ) → slice_get mine k ≡ Some x → plain_key x.0 ≡ plain_key y.0 → Passes n m a b d xs mine y → x.1 ≡ y.1
  row_one new k x y e is (by_row new' j f) = r.one k j x y e f is
  row_one new k x y e is (by_node new' own_n same) = absurd (r.other k x n e (is ∙ own_n))
  row_one new k x y e is (by_done h) = absurd (not_done new y h (same_row x y is ∙ r.row k x e))

  -- the letter for the row's node
  node_one : RowIsNew a b d xs n m → (x y : Key × ℕ) → plain_key x.0 ≡ own n → x.1 ≡ m → plain_key x.0 ≡ plain_key y.0 → Passes n m a b d xs mine y → x.1 ≡ y.1
  node_one new x y own_n same is (by_row new' j f) = absurd (r.other j y n f (sym is ∙ own_n))
  node_one new x y own_n same is (by_node new' own_n' same') = same ∙ sym same'
  node_one new x y own_n same is (by_done h) = absurd (not_done new y h (same_row x y is ∙ sym (row_plain x.0) ∙ ap row_of own_n))

  -- a letter that is among the hidden ones
  copy_one : (x y : Key × ℕ) → HasCopy xs x → plain_key x.0 ≡ plain_key y.0 → Passes n m a b d xs mine y → x.1 ≡ y.1
  copy_one x y h is (by_row new j f) = absurd (not_done new x (inr h) (sym (same_row x y is) ∙ r.row j y f))
  copy_one x y h is (by_node new own_n same) = absurd (not_done new x (inr h) (sym (row_plain x.0) ∙ ap row_of (is ∙ own_n)))
  copy_one x y h is (by_done (inl t)) = sym h.node ∙ (s.one placed).recorded t.item t.place y.1 h.place h.entry (keeps.recorded t.item t.place y.1 t.at) h.at (clear h.place h.entry h.at) (h.key ∙ is ∙ t.key)
  copy_one x y h is (by_done (inr g)) = sym h.node ∙ (s.one placed).letters h.place g.place h.entry g.entry h.at g.at (clear h.place h.entry h.at) (clear g.place g.entry g.at) (h.key ∙ is ∙ sym g.key) ∙ g.node

  of_all : (x : Key × ℕ) → ((y : Key × ℕ) → plain_key x.0 ≡ plain_key y.0 → Passes n m a b d xs mine y → x.1 ≡ y.1) → (k : ℕ) (y : Key × ℕ) → slice_get all k ≡ Some y → is_doubtful y.0 ≡ false → plain_key x.0 ≡ plain_key y.0 → x.1 ≡ y.1
  of_all x one k y e sure is = elim (split_get xs ys k y e) [
    | inl g ↦ one y is (by_done (inr (copy_itself xs g.0 y g.1)))
    | inr g ↦ one y is (each g.0 y g.1)
  ]

  -- nothing else is recorded for a letter that isn't for the type of a node
  fits_row : (m' : ℕ) (key : Key) → ((h : ℕ) → key ≡ own h → ⊥) → fits_for d m' key ≡ true
  fits_row m' (own h) never = absurd (never h refl)
  fits_row m' (letter h j) never = refl
  fits_row m' (filled h o) never = refl
  fits_row m' (without_unknown z) never = refl
  fits_row m' (doubtful z) never = refl

  fits_copy : (x : Key × ℕ) → HasCopy xs x → (key : Key) → plain_key x.0 ≡ key → fits_for d x.1 key ≡ true
  fits_copy x h (own p) is = by (recorded_for d p) refl
    where
      by : (o : Option ℕ) → recorded_for d p ≡ o → is_none_or x.1 (recorded_for d p) ≡ true
      by None e = ap (is_none_or x.1) e
      by (Some k) e =
          let same : h.entry.1 ≡ k = (s.one placed).recorded (p / 2 ^ 32) (p % 2 ^ 32) k h.place h.entry e h.at (clear h.place h.entry h.at) (h.key ∙ is ∙ ap own (number_is p)) in
          ap (is_none_or x.1) e ∙ ap (λ z. x.1 == z) (sym same ∙ h.node) ∙ eqb_same x.1
  fits_copy x h (letter p j) is = refl
  fits_copy x h (filled p o) is = refl
  fits_copy x h (without_unknown z) is = refl
  fits_copy x h (doubtful z) is = refl

  typed_copy : (x : Key × ℕ) (h : HasCopy xs x) → HasTyped d h.entry → HasTyped d x
  typed_copy x h t = record { item = t.item; place = t.place; key = sym h.key ∙ t.key; at = t.at ∙ ap Some h.node }

  pass_each : (x : Key × ℕ) → Passes n m a b d xs mine x → is_sure a d all x ≡ true
  pass_each x (by_row new k e) = pass_new a d all x (ap (is_new a d) (r.row k x e) ∙ new.new) (fits_row x.1 (plain_key x.0) (λ h is. r.other k x h e is)) (of_all x (λ y is why. row_one new k x y e is why))
  pass_each x (by_node new own_n same) =
      pass_new a d all x (ap (is_new a d) (sym (row_plain x.0) ∙ ap row_of own_n) ∙ new.new) (ap (fits_for d x.1) own_n ∙ ap (λ z. fits_for d z (own n)) same ∙ new.fits) (of_all x (λ y is why. node_one new x y own_n same is why))
  pass_each x (by_done (inl t)) = pass_typed a d all x placed (typed_on b d x keeps t)
  pass_each x (by_done (inr h)) = elim (s.belongs h.place h.entry h.at (clear h.place h.entry h.at)) [
    | inl w ↦ pass_new a d all x (ap (is_new a d) (sym (row_plain x.0) ∙ ap row_of (sym h.key) ∙ row_plain h.entry.0) ∙ between_new a d (row_of h.entry.0) placed w) (fits_copy x h (plain_key x.0) refl) (of_all x (λ y is why. copy_one x y h is why))
    | inr t ↦ pass_typed a d all x placed (typed_copy x h t)
  ]

-- a row without letters of its own
pub no_row : (n : ℕ) → AreOfRow n []
no_row n = record { row = λ k x e. absurd (cc); sure = λ k x e. absurd (cc); other = λ k x h e is. absurd (cc); one = λ i k x y e f is. absurd (cc) }

-- So the letters that are open over a row pass once it is noted, where those that were hidden before are without doubt.
pub owns_sure : {n m : ℕ} {a b d : Sight} (xs : Letters) {ys : Letters} → Keeps a b → Settles a b xs → ArePlaced d → NoneDoubtful xs → NotesRow b d n m → Owns n m b xs ys → AreSure a d xs ys
owns_sure {n} {m} {a} {b} {d} xs {ys} before s placed clear r o = record { sure = o.sure; pass = λ k x e. pass_each n m a b d xs ys o.mine r.keeps (settles_on xs r.keeps s) placed clear o.of_row (λ j y f. why y (o.each j y f)) x (why x (o.each k x e)) }
  where
    new : RowIsNew a b d xs n m
    new = row_is_new xs before s placed clear r

    why : (y : Key × ℕ) → IsOwned n m b xs o.mine y → Passes n m a b d xs o.mine y
    why y (of_row j f) = by_row new j f
    why y (of_node own_n same) = by_node new own_n same
    why y (of_done h) = by_done h

-- and so do those of rows that are done
pub done_sure : {a d : Sight} (xs : Letters) {ys : Letters} → Settles a d xs → ArePlaced d → NoneDoubtful xs → AreDone d xs ys → AreSure a d xs ys
done_sure {a} {d} xs {ys} s placed clear o = record { sure = o.sure; pass = λ k x e. pass_each 0 0 a d d xs ys [] keeps_same s placed clear (no_row 0) (λ j y f. by_done (o.each j y f)) x (by_done (o.each k x e)) }

-- none of them is in doubt then
pub sure_marked : {a d : Sight} (xs : Letters) {ys : Letters} → NoneDoubtful xs → AreSure a d xs ys → NoneDoubtful (xs ++ marked (is_sure a d (xs ++ ys)) ys)
sure_marked {a} {d} xs {ys} clear o k x e = elim (split_get xs (marked test ys) k x e) [ inl g ↦ clear g.0 x g.1 | inr g ↦ by ys (λ j y f. (o.sure j y f, o.pass j y f)) g.0 x g.1 ]
  where
    test : Key × ℕ → Bool
    test = is_sure a d (xs ++ ys)

    by : (zs : Letters) → ((j : ℕ) (y : Key × ℕ) → slice_get zs j ≡ Some y → (is_doubtful y.0 ≡ false) × (test y ≡ true)) → (k : ℕ) (x : Key × ℕ) → slice_get (marked test zs) k ≡ Some x → is_doubtful x.0 ≡ false
    by [] h k x e = absurd (cc)
    by (z ∷ zs) h (suc k) x e = by zs (λ j y f. h (suc j) y f) k x e
    by (z ∷ zs) h zero x e =
        let s : ((if test z then z.0 else doubtful z.0), z.1) ≡ x = cc in
        let (sure, pass) = h zero z refl in
        ap (λ (y : Key × ℕ). is_doubtful y.0) (sym s) ∙ ap (λ t. is_doubtful (if t then z.0 else doubtful z.0)) pass ∙ sure

-- nothing is in doubt where nothing is hidden
pub none_doubtful : NoneDoubtful []
none_doubtful k x e = absurd (cc)

-- nor in two lists where in neither
pub none_both : (xs ys : Letters) → NoneDoubtful xs → NoneDoubtful ys → NoneDoubtful (xs ++ ys)
none_both xs ys p q k x e = elim (split_get xs ys k x e) [ inl g ↦ p g.0 x g.1 | inr g ↦ q g.0 x g.1 ]

-- letters of rows that are done, later on and among more that are hidden
pub done_on : {b d : Sight} {xs zs ys : Letters} → Keeps b d → ((x : Key × ℕ) → HasCopy xs x → HasCopy zs x) → AreDone b xs ys → AreDone d zs ys
done_on {b} {d} keeps more o = record { sure = o.sure; each = λ k x e. elim (o.each k x e) [ inl t ↦ inl (typed_on b d x keeps t) | inr h ↦ inr (more x h) ] }

pub done_none : {b : Sight} {xs : Letters} → AreDone b xs []
done_none = record { sure = none_doubtful; each = λ k x e. absurd (cc) }

pub done_both : {b : Sight} {xs ys zs : Letters} → AreDone b xs ys → AreDone b xs zs → AreDone b xs (ys ++ zs)
done_both {b} {xs} {ys} {zs} p q = record { sure = none_both ys zs p.sure q.sure; each = λ k x e. elim (split_get ys zs k x e) [ inl g ↦ p.each g.0 x g.1 | inr g ↦ q.each g.0 x g.1 ] }

-- where each has a copy
pub done_copies : {b : Sight} {xs ys : Letters} → NoneDoubtful ys → ((k : ℕ) (x : Key × ℕ) → slice_get ys k ≡ Some x → HasCopy xs x) → AreDone b xs ys
done_copies sure copies = record { sure = sure; each = λ k x e. inr (copies k x e) }

-- letters that are open over a row, later on and among more that are hidden
pub owns_on : {n m : ℕ} {b d : Sight} {xs zs ys : Letters} → Keeps b d → ((x : Key × ℕ) → HasCopy xs x → HasCopy zs x) → Owns n m b xs ys → Owns n m d zs ys
owns_on {n} {m} {b} {d} {xs} {zs} keeps more o = record { sure = o.sure; mine = o.mine; of_row = o.of_row; each = λ k x e. by x (o.each k x e) }
  where
    by : (x : Key × ℕ) → IsOwned n m b xs o.mine x → IsOwned n m d zs o.mine x
    by x (of_row j f) = of_row j f
    by x (of_node own_n same) = of_node own_n same
    by x (of_done (inl t)) = of_done (inl (typed_on b d x keeps t))
    by x (of_done (inr h)) = of_done (inr (more x h))

-- those of the row alone
pub owns_row : {n m : ℕ} {b : Sight} {xs ys : Letters} → AreOfRow n ys → Owns n m b xs ys
owns_row {ys = ys} r = record { sure = r.sure; mine = ys; of_row = r; each = λ k x e. of_row k e }

-- none
pub owns_none : {n m : ℕ} {b : Sight} {xs : Letters} → Owns n m b xs []
owns_none {n} = owns_row (no_row n)

-- those of rows that are done
pub owns_done : {n m : ℕ} {b : Sight} {xs ys : Letters} → AreDone b xs ys → Owns n m b xs ys
owns_done {n} o = record { sure = o.sure; mine = []; of_row = no_row n; each = λ k x e. of_done (o.each k x e) }

-- with the letter for the type of the row's node
pub owns_also : {n m : ℕ} {b : Sight} {xs ys : Letters} (key : Key) → is_doubtful key ≡ false → plain_key key ≡ own n → Owns n m b xs ys → Owns n m b xs ((key, m) ∷ ys)
owns_also {n} {m} {b} {xs} {ys} key sure is o = record { sure = only; mine = o.mine; of_row = o.of_row; each = each }
  where
    only : NoneDoubtful ((key, m) ∷ ys)
    only zero x e = let s : (key, m) ≡ x = cc in ap (λ (y : Key × ℕ). is_doubtful y.0) (sym s) ∙ sure
    only (suc k) x e = o.sure k x e

    each : (k : ℕ) (x : Key × ℕ) → slice_get ((key, m) ∷ ys) k ≡ Some x → IsOwned n m b xs o.mine x
    each zero x e = let s : (key, m) ≡ x = cc in of_node (ap (λ (y : Key × ℕ). plain_key y.0) (sym s) ∙ is) (ap (λ (y : Key × ℕ). y.1) (sym s))
    each (suc k) x e = o.each k x e

-- that letter alone
pub owns_node : {n m : ℕ} {b : Sight} {xs : Letters} (key : Key) → is_doubtful key ≡ false → plain_key key ≡ own n → Owns n m b xs ((key, m) ∷ [])
owns_node key sure is = owns_also key sure is owns_none

-- with others that are so whatever is of the row
owned_more : {n m : ℕ} {b : Sight} {xs mine : Letters} {x : Key × ℕ} (zs : Letters) → ((k : ℕ) → slice_get mine k ≡ Some x → (j : ℕ) × (slice_get zs j ≡ Some x)) → IsOwned n m b xs mine x → IsOwned n m b xs zs x
owned_more zs more (of_row k e) = let (j, f) = more k e in of_row j f
owned_more zs more (of_node own_n same) = of_node own_n same
owned_more zs more (of_done h) = of_done h

-- two lists, where the letters of the row in both are letters of the row together
pub owns_both : {n m : ℕ} {b : Sight} {xs ys zs : Letters} (p : Owns n m b xs ys) (q : Owns n m b xs zs) → AreOfRow n (p.mine ++ q.mine) → Owns n m b xs (ys ++ zs)
owns_both {ys = ys} {zs = zs} p q r = record {
  sure = none_both ys zs p.sure q.sure;
  mine = p.mine ++ q.mine;
  of_row = r;
  each = λ k x e. elim (split_get ys zs k x e) [
    | inl g ↦ owned_more (p.mine ++ q.mine) (λ j f. in_first p.mine q.mine j x f) (p.each g.0 x g.1)
    | inr g ↦ owned_more (p.mine ++ q.mine) (λ j f. in_second p.mine q.mine j x f) (q.each g.0 x g.1)
  ];
}

-- with letters of rows that are done behind them or before them
pub owns_before : {n m : ℕ} {b : Sight} {xs ys zs : Letters} → Owns n m b xs ys → AreDone b xs zs → Owns n m b xs (ys ++ zs)
owns_before {ys = ys} {zs = zs} p q = record { sure = none_both ys zs p.sure q.sure; mine = p.mine; of_row = p.of_row; each = λ k x e. elim (split_get ys zs k x e) [ inl g ↦ p.each g.0 x g.1 | inr g ↦ of_done (q.each g.0 x g.1) ] }

pub owns_after : {n m : ℕ} {b : Sight} {xs ys zs : Letters} → AreDone b xs ys → Owns n m b xs zs → Owns n m b xs (ys ++ zs)
owns_after {ys = ys} {zs = zs} p q = record { sure = none_both ys zs p.sure q.sure; mine = q.mine; of_row = q.of_row; each = λ k x e. elim (split_get ys zs k x e) [ inl g ↦ of_done (p.each g.0 x g.1) | inr g ↦ q.each g.0 x g.1 ] }

-- a row without letters
pub below_none : (n j : ℕ) → AreBelow n j []
below_none n j = record { of_row = no_row n; below = λ k i x e is. absurd (cc) }

-- a row has a letter more, whose place is further on
pub below_more : {n j : ℕ} {xs : Letters} (i l m : ℕ) → j ≤ i → i < l → AreBelow n j xs → AreBelow n l ((letter n i, m) ∷ xs)
below_more {n} {j} {xs} i l m le lt b = record { of_row = record { row = row; sure = sure; other = other; one = one }; below = below }
  where
    all : Letters
    all = (letter n i, m) ∷ xs

    row : (k : ℕ) (x : Key × ℕ) → slice_get all k ≡ Some x → row_of x.0 ≡ n
    row zero x e = let s : (letter n i, m) ≡ x = cc in ap (λ (y : Key × ℕ). row_of y.0) (sym s)
    row (suc k) x e = b.of_row.row k x e

    sure : NoneDoubtful all
    sure zero x e = let s : (letter n i, m) ≡ x = cc in ap (λ (y : Key × ℕ). is_doubtful y.0) (sym s)
    sure (suc k) x e = b.of_row.sure k x e

    other : (k : ℕ) (x : Key × ℕ) (h : ℕ) → slice_get all k ≡ Some x → plain_key x.0 ≡ own h → ⊥
    other zero x h e is = let s : (letter n i, m) ≡ x = cc in absurd (let f : letter n i ≡ own h = ap (λ (y : Key × ℕ). plain_key y.0) s ∙ is in cc)
    other (suc k) x h e is = b.of_row.other k x h e is

    -- no letter of before has this place
    apart : (k : ℕ) (x : Key × ℕ) → slice_get xs k ≡ Some x → plain_key x.0 ≡ letter n i → ⊥
    apart k x e is = let less = b.below k i x e is in absurd (omega arith)

    one : (p k : ℕ) (x y : Key × ℕ) → slice_get all p ≡ Some x → slice_get all k ≡ Some y → plain_key x.0 ≡ plain_key y.0 → x.1 ≡ y.1
    one zero zero x y e f is = let s : (letter n i, m) ≡ x = cc in let t : (letter n i, m) ≡ y = cc in ap (λ (z : Key × ℕ). z.1) (sym s ∙ t)
    one zero (suc k) x y e f is = let s : (letter n i, m) ≡ x = cc in absurd (apart k y f (sym is ∙ ap (λ (z : Key × ℕ). plain_key z.0) (sym s)))
    one (suc p) zero x y e f is = let s : (letter n i, m) ≡ y = cc in absurd (apart p x e (is ∙ ap (λ (z : Key × ℕ). plain_key z.0) (sym s)))
    one (suc p) (suc k) x y e f is = b.of_row.one p k x y e f is

    below : (k g : ℕ) (x : Key × ℕ) → slice_get all k ≡ Some x → plain_key x.0 ≡ letter n g → g < l
    below zero g x e is =
        let s : (letter n i, m) ≡ x = cc in
        let f : letter n i ≡ letter n g = ap (λ (y : Key × ℕ). plain_key y.0) s ∙ is in
        let same : i ≡ g = cc in subst (λ z. z < l) same lt
    below (suc k) g x e is = let less = b.below k g x e is in omega arith
