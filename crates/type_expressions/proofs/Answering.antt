-- What holds of results.
use Rattle.std.proofs.Common.{◌≡◌, ◌==◌, ℕ, suc, true, false, List, [], ◌∷◌, length, refl, sym, ap}
use Rattle.std.specs.Prelude.{Result, Ok, Err, IfOk}
use Rattle.std.proofs.lemmas.Bool.{eqb-true}
use Rattle.type_terms.specs.declared.types.NodeRef.{NodeRef}
use Rattle.type_nodes.specs.Views.{numbers}

-- it follows of anything that is answered
pub if_any : {A E : Type 0} (r : Result A E) (Q : A → Type 0) → ((x : A) → Q x) → IfOk r Q
if_any (Ok x) Q h = h x
if_any (Err e) Q h = tt

-- there are as many numbers as nodes
pub many_numbers : (xs : List NodeRef) → length (numbers xs) ≡ length xs
many_numbers [] = refl
many_numbers (x ∷ xs) = ap suc (many_numbers xs)

-- no types are given
pub none_given : (xs : List NodeRef) → true ≡ (length xs == 0) → numbers xs ≡ []
none_given [] e = refl
none_given (x ∷ xs) e = absurd (let f : suc (length xs) ≡ 0 = eqb-true (suc (length xs)) 0 (sym e) in cc)

-- a list that isn't empty has a first item
pub some_given : (xs : List NodeRef) (P : List ℕ → Type 0) → false ≡ (length xs == 0) → ((y : ℕ) (ys : List ℕ) → P (y ∷ ys)) → P (numbers xs)
some_given [] P e h = absurd (cc)
some_given (x ∷ xs) P e h = h x.0 (numbers xs)
