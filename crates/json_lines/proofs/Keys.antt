-- The first of two lists of keys, one after the other.
use Rattle.std.proofs.Common.{◌≡◌, List, ◌++◌, ℕ, Option, Some, None, option_map, refl, ap, ◌∙◌, find}
use Rattle.std.specs.Option.{option_or}
use Rattle.std.proofs.lemmas.List.Folds.{find-append}
use Rattle.serde_json.specs.Data.{Data}
use Rattle.service_model.specs.Requests.{Key, key_name, is_missing, is_bad, first_missing, first_bad, text_keys}

map_or : {A B : Type 0} (f : A → B) (a b : Option A) → option_map f (option_or a b) ≡ option_or (option_map f a) (option_map f b)
map_or f None b = refl
map_or f (Some x) b = refl

-- the first missing of two lists is that of the first, or else that of the second
pub missing_append : (xs ys : List Key) (d : Data) → first_missing (xs ++ ys) d ≡ option_or (first_missing xs d) (first_missing ys d)
unfolding first_missing
missing_append xs ys d = ap (option_map key_name) (find-append (is_missing d) xs ys) ∙ map_or key_name (find (is_missing d) xs) (find (is_missing d) ys)

-- the first bad of two lists is that of the first, or else that of the second
pub bad_append : (xs ys : List Key) (d : Data) → first_bad (xs ++ ys) d ≡ option_or (first_bad xs d) (first_bad ys d)
unfolding first_bad
bad_append xs ys d = ap (option_map key_name) (find-append (is_bad d) xs ys) ∙ map_or key_name (find (is_bad d) xs) (find (is_bad d) ys)

-- a text is never a bad number
pub text_not_bad : (name : List ℕ) (d : Data) → first_bad (text_keys name) d ≡ None
unfolding first_bad text_keys
text_not_bad name d = refl
