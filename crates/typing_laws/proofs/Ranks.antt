-- The ranks of variables, by which they are named, are those of renamed ones.
use Rattle.std.proofs.Common.{◌≡◌, ℕ, suc, ◌==◌, Bool, true, false, ◌||◌, List, [], ◌∷◌, map, refl, sym, ◌∙◌, ap, if◌then◌else◌}
use Rattle.std.proofs.lemmas.Bool.{eqb-true}
use Rattle.type_model.proofs.Applying.{eqb_same}
use Rattle.type_print_model.specs.Variables.{is_among, rank_in, weak_name, letter_name, variable_name}
use Rattle.typing_laws.proofs.Bools.{no_yes}

-- f has an inverse at the variables of which a test holds
abbrev pub IsUndone : (ℕ → ℕ) → (ℕ → ℕ) → (ℕ → Bool) → Type 0
IsUndone f g among = (v : ℕ) → among v ≡ true → g (f v) ≡ v

-- each of a list is such a variable
abbrev pub AllAmong : (ℕ → Bool) → List ℕ → Type 0
AllAmong among [] = Unit {0}
AllAmong among (v ∷ vs) = (among v ≡ true) × AllAmong among vs

-- renamed variables are equal where they were
same_renamed : (f g : ℕ → ℕ) (among : ℕ → Bool) → IsUndone f g among → (v w : ℕ) → among v ≡ true → among w ≡ true → (f v == f w) ≡ (v == w)
same_renamed f g among undone v w i j = by (f v == f w) (v == w) refl refl
  where
    by : (a b : Bool) → (f v == f w) ≡ a → (v == w) ≡ b → (f v == f w) ≡ (v == w)
    by true true p q = p ∙ sym q
    by false false p q = p ∙ sym q
    by true false p q =
        let e : v ≡ w = sym (undone v i) ∙ ap g (eqb-true (f v) (f w) p) ∙ undone w j in
        absurd (no_yes (sym q ∙ ap (λ u. v == u) (sym e) ∙ eqb_same v))
    by false true p q = absurd (no_yes (sym p ∙ ap (λ u. f v == f u) (sym (eqb-true v w q)) ∙ eqb_same (f v)))

among_renamed : (f g : ℕ → ℕ) (among : ℕ → Bool) → IsUndone f g among → (v : ℕ) (ws : List ℕ) → among v ≡ true → AllAmong among ws → is_among (f v) (map f ws) ≡ is_among v ws
among_renamed f g among undone v [] i all = refl
among_renamed f g among undone v (w ∷ ws) i all =
    ap (λ b. b || is_among (f v) (map f ws)) (same_renamed f g among undone v w i all.0) ∙ ap (λ b. (v == w) || b) (among_renamed f g among undone v ws i all.1)

-- the rank among renamed variables, where a test holds of them as of those before
pub rank_renamed : (f g : ℕ → ℕ) (among : ℕ → Bool) → IsUndone f g among → (test behind : ℕ → Bool) → ((w : ℕ) → among w ≡ true → behind (f w) ≡ test w) →
    (seen : List ℕ) (v : ℕ) (ws : List ℕ) → AllAmong among seen → among v ≡ true → AllAmong among ws → rank_in behind (map f seen) (f v) (map f ws) ≡ rank_in test seen v ws
rank_renamed f g among undone test behind same seen v [] s i all = refl
rank_renamed f g among undone test behind same seen v (w ∷ ws) s i all =
    let a : ℕ = rank_in behind (map f seen) (f v) (map f ws) in
    let b : ℕ = rank_in behind (f w ∷ map f seen) (f v) (map f ws) in
    let p : a ≡ rank_in test seen v ws = rank_renamed f g among undone test behind same seen v ws s i all.1 in
    let q : b ≡ rank_in test (w ∷ seen) v ws = rank_renamed f g among undone test behind same (w ∷ seen) v ws (all.0, s) i all.1 in
    ap (λ c. if c then 0 else if is_among (f w) (map f seen) then a else if behind (f w) then suc b else b) (same_renamed f g among undone v w i all.0) ∙
    ap (λ c. if v == w then 0 else if c then a else if behind (f w) then suc b else b) (among_renamed f g among undone w seen all.0 s) ∙
    ap (λ c. if v == w then 0 else if is_among w seen then a else if c then suc b else b) (same w all.0) ∙
    ap (λ n. if v == w then 0 else if is_among w seen then n else if test w then suc b else b) p ∙
    ap (λ n. if v == w then 0 else if is_among w seen then rank_in test seen v ws else if test w then suc n else n) q

-- the name of a renamed variable, where weak ones stay weak
pub name_renamed : (f g : ℕ → ℕ) (among : ℕ → Bool) → IsUndone f g among → (weak others all : List ℕ) → ((w : ℕ) → among w ≡ true → is_among (f w) others ≡ is_among w weak) →
    AllAmong among all → (v : ℕ) → among v ≡ true → variable_name others (map f all) (f v) ≡ variable_name weak all v
name_renamed f g among undone weak others all same inside v i =
    ap (λ b. if b then weak_name (rank_in (λ w. is_among w others) [] (f v) (map f all)) else letter_name (rank_in (λ w. if is_among w others then false else true) [] (f v) (map f all))) (same v i) ∙
    ap (λ n. if is_among v weak then weak_name n else letter_name (rank_in (λ w. if is_among w others then false else true) [] (f v) (map f all)))
    (rank_renamed f g among undone (λ w. is_among w weak) (λ w. is_among w others) same [] v all tt i inside) ∙
    ap (λ n. if is_among v weak then weak_name (rank_in (λ w. is_among w weak) [] v all) else letter_name n)
    (rank_renamed f g among undone (λ w. if is_among w weak then false else true) (λ w. if is_among w others then false else true) (λ w j. ap (λ b. if b then false else true) (same w j)) [] v all tt i inside)
