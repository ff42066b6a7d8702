-- Elements of a list after one is set, or one more is added.
use Rattle.std.proofs.Common.{◌≡◌, ◌≢◌, ℕ, zero, suc, ◌<◌, ◌≤◌, List, [], ◌∷◌, ◌++◌, length, take, drop, set, Option, Some, refl, ap, arith, ◌⊎◌, inl, inr}
use Rattle.std.specs.Prelude.{slice_get}
use Rattle.std.proofs.lemmas.Bool.Decides.{eqb_tells}

-- two numbers are equal or not
pub same_or_other : (n m : ℕ) → (n ≡ m) ⊎ (n ≢ m)
same_or_other n m = elim (eqb_tells n m) [ inl h ↦ inl h.1 | inr h ↦ inr h.1 ]

-- one place has one element
pub one_element : {A : Type 0} (x y : A) (o : Option A) → o ≡ Some x → o ≡ Some y → x ≡ y
one_element x y o h h' = cc

pub get-set_same : {A : Type 0} (xs : List A) (n : ℕ) (x y : A) → slice_get xs n ≡ Some x → slice_get (set xs n y) n ≡ Some y
get-set_same [] n x y h = cc
get-set_same (z ∷ xs) zero x y h = refl
get-set_same (z ∷ xs) (suc n) x y h = get-set_same xs n x y h

pub get-set_other : {A : Type 0} (xs : List A) (n m : ℕ) (y : A) → m ≢ n → slice_get (set xs n y) m ≡ slice_get xs m
get-set_other [] n m y h = refl
get-set_other (z ∷ xs) zero zero y h = absurd (h refl)
get-set_other (z ∷ xs) zero (suc m) y h = refl
get-set_other (z ∷ xs) (suc n) zero y h = refl
get-set_other (z ∷ xs) (suc n) (suc m) y h = get-set_other xs n m y (λ e. h (ap suc e))

-- setting an element and setting it back
pub set-set_back : {A : Type 0} (xs : List A) (n : ℕ) (x y : A) → slice_get xs n ≡ Some x → set (set xs n y) n x ≡ xs
set-set_back [] n x y h = refl
set-set_back (z ∷ xs) zero x y h = let e : z ≡ x = cc in cc
set-set_back (z ∷ xs) (suc n) x y h = ap (λ l. z ∷ l) (set-set_back xs n x y h)

-- setting an element that isn't there
pub set_past : {A : Type 0} (xs : List A) (n : ℕ) (x : A) → length xs ≤ n → set xs n x ≡ xs
set_past [] n x h = refl
set_past (y ∷ xs) zero x h = absurd (omega arith)
set_past (y ∷ xs) (suc n) x h = ap (λ l. y ∷ l) (set_past xs n x (omega arith))

pub get-append_left : {A : Type 0} (xs ys : List A) (n : ℕ) → n < length xs → slice_get (xs ++ ys) n ≡ slice_get xs n
get-append_left [] ys n h = absurd (omega arith)
get-append_left (z ∷ xs) ys zero h = refl
get-append_left (z ∷ xs) ys (suc n) h = get-append_left xs ys n (omega arith)

pub get-append_last : {A : Type 0} (xs : List A) (y : A) → slice_get (xs ++ y ∷ []) (length xs) ≡ Some y
get-append_last [] y = refl
get-append_last (z ∷ xs) y = get-append_last xs y

-- an element of a list with one more is an earlier one or the last
pub get-append_cases : {A : Type 0} (xs : List A) (y : A) (n : ℕ) (x : A) → slice_get (xs ++ y ∷ []) n ≡ Some x →
    (slice_get xs n ≡ Some x) ⊎ ((n ≡ length xs) × (x ≡ y))
get-append_cases [] y zero x h = inr (refl, cc)
get-append_cases [] y (suc n) x h = absurd (cc)
get-append_cases (z ∷ xs) y zero x h = inl h
get-append_cases (z ∷ xs) y (suc n) x h =
    elim (get-append_cases xs y n x h) [ inl e ↦ inl e | inr (e, e') ↦ inr (ap suc e, e') ]

-- nothing stands behind the end
pub drop_all : {A : Type 0} (n : ℕ) (xs : List A) → length xs ≤ n → drop n xs ≡ []
drop_all zero [] h = refl
drop_all zero (x ∷ xs) h = absurd (omega arith)
drop_all (suc n) [] h = refl
drop_all (suc n) (x ∷ xs) h = drop_all n xs (omega arith)

-- a list with one more is one longer
pub length-snoc : {A : Type 0} (xs : List A) (x : A) → length (xs ++ x ∷ []) ≡ suc (length xs)
length-snoc [] x = refl
length-snoc (y ∷ xs) x = ap suc (length-snoc xs x)

pub length-take_le : {A : Type 0} (n : ℕ) (xs : List A) → n ≤ length xs → length (take n xs) ≡ n
length-take_le zero xs h = refl
length-take_le (suc n) [] h = absurd (omega arith)
length-take_le (suc n) (x ∷ xs) h = ap suc (length-take_le n xs (omega arith))

pub take_whole : {A : Type 0} (xs : List A) → take (length xs) xs ≡ xs
take_whole [] = refl
take_whole (x ∷ xs) = ap (λ l. x ∷ l) (take_whole xs)

-- the beginning of a beginning
pub take-take : {A : Type 0} (m n : ℕ) (xs : List A) → m ≤ n → take m (take n xs) ≡ take m xs
take-take zero n xs h = refl
take-take (suc m) zero xs h = absurd (omega arith)
take-take (suc m) (suc n) [] h = refl
take-take (suc m) (suc n) (x ∷ xs) h = ap (λ l. x ∷ l) (take-take m n xs (omega arith))
