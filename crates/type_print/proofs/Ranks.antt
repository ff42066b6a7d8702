-- Ranks and counts of variables in a text, when one more follows.
use Rattle.std.proofs.Common.{◌≡◌, ◌⊎◌, inl, inr, ℕ, suc, Bool, true, false, eqb, List, [], ◌∷◌, ◌++◌, Option, Some, None, refl, sym, ◌∙◌, ap, subst, append_assoc}
use Rattle.std.specs.Prelude.{if◌then◌else◌, ◌&&◌, ◌||◌}
use Rattle.std.proofs.lemmas.Bool.{eqb-true, eq-eqb}
use Rattle.std.proofs.lemmas.Bool.Decides.{eqb_tells}
use Rattle.type_print_model.specs.Variables.{is_among, rank_in}
use Rattle.type_print.specs.Meeting.{is_weak, has_letter, name_given, count_in, AreAmong}

-- a boolean is one of the two
pub tells : (b : Bool) → (b ≡ true) ⊎ (b ≡ false)
tells true = inl refl
tells false = inr refl

-- an option has something or nothing
pub opt_tells : {A : Type 0} (o : Option A) → (o ≡ None) ⊎ ((a : A) × (o ≡ Some a))
opt_tells None = inl refl
opt_tells (Some a) = inr (a, refl)

-- two tests hold where both together do
pub both : (a b : Bool) → (a && b) ≡ true → (a ≡ true) × (b ≡ true)
both true b h = (refl, h)
both false b h = absurd (cc)

-- and the other way round
pub both_true : (a b : Bool) → a ≡ true → b ≡ true → (a && b) ≡ true
both_true true b h i = i
both_true false b h i = absurd (cc)

-- of three tests it is the same which two come first
or_assoc : (a b c : Bool) → (a || (b || c)) ≡ ((a || b) || c)
or_assoc true b c = refl
or_assoc false b c = refl

-- one of two tests holds where the first does
pub or_left : (a b : Bool) → a ≡ true → (a || b) ≡ true
or_left true b h = refl
or_left false b h = absurd (cc)

-- or the second does
pub or_right : (a b : Bool) → b ≡ true → (a || b) ≡ true
or_right true b h = refl
or_right false b h = h

-- and then the first or the second holds
pub or_cases : (a b : Bool) → (a || b) ≡ true → (a ≡ true) ⊎ (b ≡ true)
or_cases true b h = inl refl
or_cases false b h = inr h

-- where none holds neither does
neither : (a b : Bool) → (a || b) ≡ false → (a ≡ false) × (b ≡ false)
neither true b h = absurd (cc)
neither false b h = (refl, h)

-- what is among two lists together
among_append : (v : ℕ) (xs ys : List ℕ) → is_among v (xs ++ ys) ≡ (is_among v xs || is_among v ys)
among_append v [] ys = refl
among_append v (x ∷ xs) ys = ap (λ b. eqb v x || b) (among_append v xs ys) ∙ or_assoc (eqb v x) (is_among v xs) (is_among v ys)

-- what is among the first is among both
pub among_left : (v : ℕ) (xs ys : List ℕ) → is_among v xs ≡ true → is_among v (xs ++ ys) ≡ true
among_left v xs ys h = among_append v xs ys ∙ or_left (is_among v xs) (is_among v ys) h

-- what is among the second is among both
pub among_right : (v : ℕ) (xs ys : List ℕ) → is_among v ys ≡ true → is_among v (xs ++ ys) ≡ true
among_right v xs ys h = among_append v xs ys ∙ or_right (is_among v xs) (is_among v ys) h

-- a variable that is among others and one more is among them or is the one
pub among_last : (v r : ℕ) (xs : List ℕ) → is_among v (xs ++ r ∷ []) ≡ true → (is_among v xs ≡ true) ⊎ (v ≡ r)
among_last v r xs h = elim (or_cases (is_among v xs) (is_among v (r ∷ [])) (sym (among_append v xs (r ∷ [])) ∙ h)) [
  | inl old ↦ inl old
  | inr new ↦ elim (or_cases (eqb v r) false new) [ inl e ↦ inr (eqb-true v r e) | inr other ↦ absurd (cc) ]
]

-- a variable is among itself and others
pub among_here : (v : ℕ) (xs : List ℕ) → is_among v (v ∷ xs) ≡ true
among_here v xs = or_left (eqb v v) (is_among v xs) (eq-eqb v v refl)

-- more variables have those that were among fewer
pub all_left : (xs ys vs : List ℕ) → AreAmong xs vs → AreAmong (xs ++ ys) vs
all_left xs ys [] h = tt
all_left xs ys (v ∷ vs) h = (among_left v xs ys h.0, all_left xs ys vs h.1)

-- each of some variables is among them
pub all_right : (xs vs : List ℕ) → AreAmong (xs ++ vs) vs
all_right xs [] = tt
all_right xs (v ∷ vs) = (among_right v xs (v ∷ vs) (among_here v vs), subst (λ ys. AreAmong ys vs) (append_assoc xs (v ∷ []) vs) (all_right (xs ++ v ∷ []) vs))

-- a choice between ranks depends on the ranks alone
same_choice : (a b : Bool) (p p' q q' : ℕ) → p ≡ p' → q ≡ q' → (if a then p else if b then suc q else q) ≡ (if a then p' else if b then suc q' else q')
same_choice a b p p' q q' h i = rw (h, i) refl

-- a variable's rank is settled where it first stands
pub rank_left : (test : ℕ → Bool) (seen : List ℕ) (v : ℕ) (xs ys : List ℕ) → is_among v xs ≡ true → rank_in test seen v (xs ++ ys) ≡ rank_in test seen v xs
rank_left test seen v [] ys h = absurd (cc)
rank_left test seen v (w ∷ ws) ys h = elim (eqb_tells v w) [
  | inl (e, same) ↦ rw e refl
  | inr (e, other) ↦
      let later : is_among v ws ≡ true = rw e at h in
      rw e (same_choice (is_among w seen) (test w) (rank_in test seen v (ws ++ ys)) (rank_in test seen v ws) (rank_in test (w ∷ seen) v (ws ++ ys)) (rank_in test (w ∷ seen) v ws) (rank_left test seen v ws ys later) (rank_left test (w ∷ seen) v ws ys later))
]

-- a new variable has as many before it as there are
pub rank_new : (test : ℕ → Bool) (seen : List ℕ) (v : ℕ) (xs : List ℕ) → is_among v xs ≡ false → rank_in test seen v (xs ++ v ∷ []) ≡ count_in test seen xs
rank_new test seen v [] h = let e = eq-eqb v v refl in rw e refl
rank_new test seen v (w ∷ ws) h =
    let (e, later) = neither (eqb v w) (is_among v ws) h in
    rw e (same_choice (is_among w seen) (test w) (rank_in test seen v (ws ++ v ∷ [])) (count_in test seen ws) (rank_in test (w ∷ seen) v (ws ++ v ∷ [])) (count_in test (w ∷ seen) ws) (rank_new test seen v ws later) (rank_new test (w ∷ seen) v ws later))

-- what was seen or follows was so too where one more was seen
seen_more : (e s l : Bool) → (s || (e || l)) ≡ true → ((e || s) || l) ≡ true
seen_more true s l h = refl
seen_more false s l h = h

-- a variable that was there counts no more
pub count_again : (test : ℕ → Bool) (seen : List ℕ) (v : ℕ) (xs : List ℕ) → (is_among v seen || is_among v xs) ≡ true → count_in test seen (xs ++ v ∷ []) ≡ count_in test seen xs
count_again test seen v [] h = elim (or_cases (is_among v seen) false h) [ inl e ↦ rw e refl | inr other ↦ absurd (cc) ]
count_again test seen v (w ∷ ws) h = elim (tells (is_among w seen)) [
  | inl e ↦ elim (eqb_tells v w) [
    | inl (t, same) ↦ rw e (count_again test seen v ws (or_left (is_among v seen) (is_among v ws) (subst (λ u. is_among u seen ≡ true) (sym same) e)))
    | inr (t, other) ↦ rw e (count_again test seen v ws (rw t at h))
  ]
  | inr e ↦ let i = count_again test (w ∷ seen) v ws (seen_more (eqb v w) (is_among v seen) (is_among v ws) h) in rw (e, i) refl
]

-- it is the same which of two is counted first
one_more : (a b : Bool) (n : ℕ) → (if a then suc (if b then suc n else n) else if b then suc n else n) ≡ (if b then suc (if a then suc n else n) else if a then suc n else n)
one_more true true n = refl
one_more true false n = refl
one_more false true n = refl
one_more false false n = refl

-- a new one counts where it passes the test
pub count_new : (test : ℕ → Bool) (seen : List ℕ) (v : ℕ) (xs : List ℕ) → is_among v seen ≡ false → is_among v xs ≡ false → count_in test seen (xs ++ v ∷ []) ≡ (if test v then suc (count_in test seen xs) else count_in test seen xs)
count_new test seen v [] s h = rw s refl
count_new test seen v (w ∷ ws) s h =
    let (e, later) = neither (eqb v w) (is_among v ws) h in
    elim (tells (is_among w seen)) [
      | inl was ↦ rw was (count_new test seen v ws s later)
      | inr new ↦
          let also : is_among v (w ∷ seen) ≡ false = rw e s in
          let i = count_new test (w ∷ seen) v ws also later in
          rw (new, i) (one_more (test w) (test v) (count_in test (w ∷ seen) ws))
    ]

-- a variable's name is settled where it first stands
pub name_left : (weak all more : List ℕ) (v : ℕ) → is_among v all ≡ true → name_given weak (all ++ more) v ≡ name_given weak all v
name_left weak all more v h =
    let i = rank_left (is_weak weak) [] v all more h in
    let j = rank_left (has_letter weak) [] v all more h in
    rw (i, j) refl
