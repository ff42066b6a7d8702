-- The parts of a prefix.
use Rattle.std.proofs.Common.{◌≡◌, ℕ, List, [], ◌∷◌, ◌++◌, refl, ap, sym, ◌∙◌, Some, map, Bor}
use Rattle.std.specs.Prelude.{unwrap_or}
use Rattle.std.specs.List.{join_with_byte}
use Rattle.std.proofs.lemmas.List.{append-nil, map-append}
use Rattle.tree_model.specs.Nodes.{last_of}
use Rattle.query_model.specs.PrefixParts.{all_but_last, beginning_of, modules_of, parts_of}

-- a list whose last is known
pub but_last : {A : Type 0} (xs : List A) (x : A) → all_but_last (xs ++ x ∷ []) ≡ xs
but_last [] x = refl
but_last (y ∷ []) x = refl
but_last (y ∷ z ∷ zs) x = ap (λ ws. y ∷ ws) (but_last (z ∷ zs) x)

pub the_last : {A : Type 0} (xs : List A) (x : A) → last_of (xs ++ x ∷ []) ≡ Some x
the_last [] x = refl
the_last (y ∷ []) x = refl
the_last (y ∷ z ∷ zs) x = the_last (z ∷ zs) x

-- a prefix whose parts are known
pub of_modules : (prefix : List ℕ) (parts modules : List (Bor (List ℕ))) (b : Bor (List ℕ)) → map (λ x. x.now) parts ≡ parts_of prefix → parts ≡ modules ++ b ∷ [] → map (λ x. x.now) modules ≡ modules_of prefix
of_modules prefix parts modules b h is =
    sym (but_last (map (λ x. x.now) modules) b.now)
    ∙ ap all_but_last (sym (map-append (λ x. x.now) modules (b ∷ [])) ∙ ap (map (λ x. x.now)) (sym is) ∙ h)

pub of_beginning : (prefix : List ℕ) (parts modules : List (Bor (List ℕ))) (b : Bor (List ℕ)) → map (λ x. x.now) parts ≡ parts_of prefix → parts ≡ modules ++ b ∷ [] → b.now ≡ beginning_of prefix
of_beginning prefix parts modules b h is =
    ap (λ o. unwrap_or o []) (sym (the_last (map (λ x. x.now) modules) b.now)
    ∙ ap last_of (sym (map-append (λ x. x.now) modules (b ∷ [])) ∙ ap (map (λ x. x.now)) (sym is) ∙ h))

-- names, each behind a point
abbrev pub pointed : List (List ℕ) → List ℕ
pointed [] = []
pointed (m ∷ ms) = 46 ∷ (m ++ pointed ms)

-- one name and others behind points
pub joined : (m : List ℕ) (ms : List (List ℕ)) → m ++ pointed ms ≡ join_with_byte 46 (m ∷ ms)
joined m [] = append-nil m
joined m (n ∷ ns) = ap (λ bs. m ++ 46 ∷ bs) (joined n ns)
