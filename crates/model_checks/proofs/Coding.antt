-- A substitution that puts given types in for the variables of nodes, letters and unknown types.
use Rattle.std.proofs.Common.{◌≡◌, ℕ, zero, suc, ◌+◌, ◌*◌, ◌/◌, ◌%◌, ◌≤◌, ◌==◌, ◌&&◌, Bool, true, false, List, [], ◌∷◌, refl, sym, ◌∙◌, ap, arith, if◌then◌else◌}
use Rattle.std.proofs.lemmas.Bool.{eqb-true}
use Rattle.type_model.specs.Types.{Path, Typ, Var}
use Rattle.type_model.specs.Substitutions.{Subst, apply}
use Rattle.typing_model.specs.Contexts.{Choice}
use Rattle.model_checks.specs.Open.{coded, code, of_node, of_letter, of_unknown, open_types, open_letters, open_choice}

-- a list behind its number, where n halvings were made
decoded : ℕ → ℕ → ℕ → List ℕ
decoded zero n m = []
decoded (suc f) n m = if m == 0 then [] else if m % 2 == 1 then n ∷ decoded f 0 (m / 2) else decoded f (suc n) (m / 2)

positive : (n m : ℕ) → 1 ≤ coded n m
positive zero m = omega arith
positive (suc n) m = let p = positive n m in omega arith

-- one step back from an odd number, and from an even one
odd_step : (f n m : ℕ) → decoded (suc f) n (2 * m + 1) ≡ n ∷ decoded f 0 m
unfolding decoded
odd_step f n m =
    let a : (2 * m + 1) / 2 ≡ m = omega arith in
    let b : (2 * m + 1 == 0) ≡ false = grind arith in
    let c : ((2 * m + 1) % 2 == 1) ≡ true = grind arith in
    rw (a, b, c) refl

even_step : (f n m : ℕ) → 1 ≤ m → decoded (suc f) n (2 * m) ≡ decoded f (suc n) m
unfolding decoded
even_step f n m h =
    let a : (2 * m) / 2 ≡ m = omega arith in
    let b : (2 * m == 0) ≡ false = grind arith in
    let c : ((2 * m) % 2 == 1) ≡ false = grind arith in
    rw (a, b, c) refl

-- from a coded list its first number is read, and then the others
read_from : (n : ℕ) (ns : List ℕ) → ((f : ℕ) → code ns ≤ f → decoded f 0 (code ns) ≡ ns) → (f k : ℕ) → coded n (code ns) ≤ f → decoded f k (coded n (code ns)) ≡ (k + n) ∷ ns
read_from n ns rest zero k h = absurd (let p = positive n (code ns) in omega arith)
read_from zero ns rest (suc f) k h = odd_step f k (code ns) ∙ ap (λ l. k ∷ l) (rest f (omega arith)) ∙ ap (λ m. m ∷ ns) (omega arith)
read_from (suc n) ns rest (suc f) k h =
    let p = positive n (code ns) in
    even_step f k (coded n (code ns)) p ∙ read_from n ns rest f (suc k) (omega arith) ∙ ap (λ m. m ∷ ns) (omega arith)

read_back : (ns : List ℕ) (f : ℕ) → code ns ≤ f → decoded f 0 (code ns) ≡ ns
unfolding decoded
read_back [] zero h = refl
read_back [] (suc f) h = refl
read_back (n ∷ ns) f h = read_from n ns (read_back ns) f 0 h ∙ ap (λ m. m ∷ ns) (omega arith)

-- the type for what a list is the code of
abbrev by_list : (ℕ → Typ) → (ℕ → ℕ → Typ) → (ℕ → Path → Typ) → List ℕ → Typ
by_list a b c [] = Var 0
by_list a b c (zero ∷ []) = Var 0
by_list a b c (zero ∷ n ∷ ns) = a n
by_list a b c (suc zero ∷ []) = Var 0
by_list a b c (suc zero ∷ n ∷ []) = Var 0
by_list a b c (suc zero ∷ n ∷ k ∷ ns) = b n k
by_list a b c (suc (suc i) ∷ []) = Var 0
by_list a b c (suc (suc i) ∷ n ∷ o) = c n o

-- the types of a choice for the variables
pub put : Choice → Subst
put other v = by_list other.type_at other.letter other.filled (decoded v 0 v)

pub put_node : (other : Choice) (n : ℕ) → put other (of_node n) ≡ other.type_at n
unfolding of_node put decoded
put_node other n = ap (by_list other.type_at other.letter other.filled) (read_back (0 ∷ n ∷ []) (code (0 ∷ n ∷ [])) (omega arith))

pub put_letter : (other : Choice) (n k : ℕ) → put other (of_letter n k) ≡ other.letter n k
unfolding of_letter put decoded
put_letter other n k = ap (by_list other.type_at other.letter other.filled) (read_back (1 ∷ n ∷ k ∷ []) (code (1 ∷ n ∷ k ∷ [])) (omega arith))

pub put_unknown : (other : Choice) (n : ℕ) (o : Path) → put other (of_unknown n o) ≡ other.filled n o
unfolding of_unknown put decoded
put_unknown other n o = ap (by_list other.type_at other.letter other.filled) (read_back (2 ∷ n ∷ o) (code (2 ∷ n ∷ o)) (omega arith))

-- the given types of nodes, and of letters, become those of a choice
abbrev pub AgreeAtNodes : Choice → List (ℕ × Typ) → Type 0
AgreeAtNodes other [] = Unit {0}
AgreeAtNodes other ((k, t) ∷ rest) = (other.type_at k ≡ apply (put other) t) × AgreeAtNodes other rest

abbrev pub AgreeAtLetters : Choice → List (ℕ × ℕ × Typ) → Type 0
AgreeAtLetters other [] = Unit {0}
AgreeAtLetters other ((m, j, t) ∷ rest) = (other.letter m j ≡ apply (put other) t) × AgreeAtLetters other rest

nodes_agree : (other : Choice) (table : List (ℕ × Typ)) → AgreeAtNodes other table → (n : ℕ) → other.type_at n ≡ apply (put other) (open_types table n)
nodes_agree other [] h n = sym (put_node other n)
nodes_agree other ((k, t) ∷ rest) h n = by (n == k) refl (nodes_agree other rest h.1 n)
  where
    by : (b : Bool) → (n == k) ≡ b → other.type_at n ≡ apply (put other) (open_types rest n) → other.type_at n ≡ apply (put other) (if b then t else open_types rest n)
    by true e later = ap other.type_at (eqb-true n k e) ∙ h.0
    by false e later = later

letters_agree : (other : Choice) (table : List (ℕ × ℕ × Typ)) → AgreeAtLetters other table → (n k : ℕ) → other.letter n k ≡ apply (put other) (open_letters table n k)
letters_agree other [] h n k = sym (put_letter other n k)
letters_agree other ((m, j, t) ∷ rest) h n k = by (n == m) (k == j) refl refl (letters_agree other rest h.1 n k)
  where
    by : (a b : Bool) → (n == m) ≡ a → (k == j) ≡ b → other.letter n k ≡ apply (put other) (open_letters rest n k) → other.letter n k ≡ apply (put other) (if a && b then t else open_letters rest n k)
    by true true d e later = ap (λ i. other.letter i k) (eqb-true n m d) ∙ ap (other.letter m) (eqb-true k j e) ∙ h.0
    by true false d e later = later
    by false b d e later = later

-- so every choice that agrees with the given types is an instance of the open one
pub is_instance : (other : Choice) (types : List (ℕ × Typ)) (letters : List (ℕ × ℕ × Typ)) → AgreeAtNodes other types → AgreeAtLetters other letters →
    (s : Subst) × ((n : ℕ) → other.type_at n ≡ apply s ((open_choice types letters).type_at n)) × ((n k : ℕ) → other.letter n k ≡ apply s ((open_choice types letters).letter n k)) ×
    ((n : ℕ) (o : Path) → other.filled n o ≡ apply s ((open_choice types letters).filled n o))
is_instance other types letters h k = (put other, nodes_agree other types h, letters_agree other letters k, λ n o. sym (put_unknown other n o))
