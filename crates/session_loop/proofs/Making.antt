-- The made text grows by an item.
use Rattle.std.proofs.Common.{◌≡◌, ℕ, suc, ◌+◌, ◌++◌, ◌∷◌, [], ap, arith}
use Rattle.service_model.specs.Made.{made_item, made_text}

pub made_next : (n : ℕ) → made_text (n + 1) ≡ made_text n ++ made_item n ++ 10 ∷ []
made_next n = let next : n + 1 ≡ suc n = omega arith in ap made_text next
