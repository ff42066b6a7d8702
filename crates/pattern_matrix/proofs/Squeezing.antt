-- Lines without repetitions.
use Rattle.std.proofs.Common.{◌≡◌, ℕ, ◌+◌, List, [], ◌∷◌, ◌++◌, ◌⊎◌, inl, inr, refl, sym, ap, ◌∙◌, subst, append_assoc, arith, zero, suc, map, Some, ◌<◌, length, get_or, drop}
use Rattle.std.specs.Prelude.{slice_get}
use Rattle.std.proofs.Math.Seq.{drop-cons}
use Rattle.pattern_matrix.specs.Lines.{Line, any, opened}
use Rattle.pattern_matrix.specs.Views.{line_view, lines_view}
use Rattle.pattern_matrix.specs.declared.lines.Line.{Line as CodeLine}
use Rattle.pattern_matrix.specs.Search.{IsIn, here, there, IsSqueezed}
use Rattle.pattern_matrix.proofs.Weighing.{lines_weight-append}

pub in-left : {l : Line} {a : List Line} (b : List Line) → IsIn l a → IsIn l (a ++ b)
in-left b here = here
in-left b (there h) = there (in-left b h)

pub in-right : {l : Line} (a : List Line) {b : List Line} → IsIn l b → IsIn l (a ++ b)
in-right [] h = h
in-right (m ∷ a) h = there (in-right a h)

pub in-either : (l : Line) (a b : List Line) → IsIn l (a ++ b) → IsIn l a ⊎ IsIn l b
in-either l [] b h = inr h
in-either l (m ∷ a) b here = inl here
in-either l (m ∷ a) b (there h) = elim (in-either l a b h) [ inl x ↦ inl (there x) | inr y ↦ inr y ]

pub squeeze-refl : (a : List Line) → IsSqueezed a a
squeeze-refl a = record { kept = λ l h. h; none_lost = λ l h. h; lighter = omega arith }

pub squeeze-trans : {a b c : List Line} → IsSqueezed a b → IsSqueezed b c → IsSqueezed a c
squeeze-trans x y = record {
  kept = λ l h. y.kept l (x.kept l h);
  none_lost = λ l h. x.none_lost l (y.none_lost l h);
  lighter = omega arith;
}

pub squeeze-append : {a b : List Line} (c : List Line) → IsSqueezed a b → IsSqueezed (a ++ c) (b ++ c)
squeeze-append {a} {b} c x = record {
  kept = λ l h. elim (in-either l a c h) [ inl i ↦ in-left c (x.kept l i) | inr i ↦ in-right b i ];
  none_lost = λ l h. elim (in-either l b c h) [ inl i ↦ in-left c (x.none_lost l i) | inr i ↦ in-right a i ];
  lighter = let e = lines_weight-append a c in let f = lines_weight-append b c in omega arith;
}

-- one step of a walk: what is collected so far with what is left
pub squeeze-step : (a b x left y : List Line) → IsSqueezed b (a ++ x) → IsSqueezed (a ++ (x ++ left)) y → IsSqueezed (b ++ left) y
squeeze-step a b x left y now after =
    squeeze-trans (squeeze-append left now) (subst (λ z. IsSqueezed z y) (sym (append_assoc a x left)) after)

in-one : {l m : Line} {ls : List Line} → IsIn l ls → IsIn m (l ∷ []) → IsIn m ls
in-one is here = is
in-one is (there h) = elim h [ ]

-- a line that is there already
pub squeeze-skip : (ls : List Line) (l : Line) → IsIn l ls → IsSqueezed ls (ls ++ l ∷ [])
squeeze-skip ls l is = record {
  kept = λ m h. in-left (l ∷ []) h;
  none_lost = λ m h. elim (in-either m ls (l ∷ []) h) [ inl i ↦ i | inr i ↦ in-one is i ];
  lighter = let e = lines_weight-append ls (l ∷ []) in omega arith;
}

-- what is got from a list is in it
pub in-got : {A : Type 0} (view : A → Line) (xs : List A) (i : ℕ) (x : A) → Some x ≡ slice_get xs i → IsIn (view x) (map view xs)
in-got view [] i x e = cc
in-got view (y ∷ xs) zero x e = let same : x ≡ y = cc in subst (λ z. IsIn (view x) (view z ∷ map view xs)) same here
in-got view (y ∷ xs) (suc i) x e = there (in-got view xs i x e)

-- the last line again
pub squeeze-last : (xs ys : List CodeLine) (i : ℕ) (x : CodeLine) (cells l : Line) → xs ≡ ys → Some x ≡ slice_get xs i → cells ≡ line_view x → cells ≡ l →
    IsSqueezed (lines_view ys) (lines_view ys ++ l ∷ [])
squeeze-last xs ys i x cells l same got is end =
    squeeze-skip (lines_view ys) l (subst (λ m. IsIn m (lines_view ys)) (sym is ∙ end) (subst (λ zs. IsIn (line_view x) (lines_view zs)) same (in-got line_view xs i x got)))

-- a list from a place on is what stands there, and the rest
pub at-drop : {A : Type 0} (xs : List A) (i : ℕ) (x : A) → i < length xs → x ≡ get_or xs i x → drop i xs ≡ x ∷ drop (i + 1) xs
at-drop xs i x h e =
    let d = drop-cons xs i x h in
    let s : suc i ≡ i + 1 = omega arith in
    d ∙ ap (λ z. z ∷ drop (suc i) xs) (sym e) ∙ ap (λ n. x ∷ drop n xs) s

-- one step of a walk over a list, of which `whole` says what all of it gives and `part` what one item does
pub walk : {A : Type 0} (whole : List A → List Line) (part : A → List Line) (a b y : List Line) (xs : List A) (i : ℕ) (x : A) →
    ((z : A) (zs : List A) → whole (z ∷ zs) ≡ part z ++ whole zs) → i < length xs → x ≡ get_or xs i x →
    IsSqueezed b (a ++ part x) → IsSqueezed (a ++ whole (drop i xs)) y → IsSqueezed (b ++ whole (drop (i + 1) xs)) y
walk whole part a b y xs i x cons h e now after =
    let split : whole (drop i xs) ≡ part x ++ whole (drop (i + 1) xs) = ap whole (at-drop xs i x h e) ∙ cons x (drop (i + 1) xs) in
    squeeze-step a b (part x) (whole (drop (i + 1) xs)) y now (subst (λ z. IsSqueezed (a ++ z) y) split after)

opened-suc : (n : ℕ) → opened (suc n) ≡ opened n ++ any ∷ []
opened-suc zero = refl
opened-suc (suc n) = ap (λ l. any ∷ l) (opened-suc n)

-- one open column more
pub opened_more : (n : ℕ) → opened (n + 1) ≡ opened n ++ any ∷ []
opened_more n = let s : n + 1 ≡ suc n = omega arith in ap opened s ∙ opened-suc n
