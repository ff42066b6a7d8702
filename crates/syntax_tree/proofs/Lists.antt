-- Lists mapped and turned.
use Rattle.std.proofs.Common.{◌≡◌, List, [], ◌∷◌, refl, map, reverse}
use Rattle.std.proofs.lemmas.List.{map-append, reverse-append}

-- a list turned is mapped as the list is
pub map_reverse : {A B : Type 0} (f : A → B) (xs : List A) → map f (reverse xs) ≡ reverse (map f xs)
map_reverse f [] = refl
map_reverse f (x ∷ xs) = rw (reverse-append (x ∷ []) xs, reverse-append (f x ∷ []) (map f xs), map-append f (reverse xs) (x ∷ []), map_reverse f xs) refl
