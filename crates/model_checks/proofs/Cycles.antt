-- No type stands inside itself.
use Rattle.std.proofs.Common.{◌≡◌, ℕ, ◌+◌, sym, ◌∙◌, ap, arith}
use Rattle.type_model.specs.Types.{Typ, Typs, Var, Arrow, Tuple, Con, Nil, Cons}

-- how large a type is
abbrev mutual
  size : Typ → ℕ
  size (Var v) = 1
  size (Arrow a b) = size a + size b + 1
  size (Tuple ts) = sizes ts + 1
  size (Con o ts) = sizes ts + 1

  sizes : Typs → ℕ
  sizes Nil = 0
  sizes (Cons t ts) = size t + sizes ts

-- an arrow isn't what stands left of it
pub no_arrow_in_itself : (a b : Typ) → Arrow a b ≡ a → ⊥
no_arrow_in_itself a b e = let s : size a + size b + 1 ≡ size a = ap size e in omega arith

-- a name can't be applied to itself where both uses have its type
pub no_self_application : (x head argument p r : Typ) → head ≡ x → argument ≡ x → head ≡ Arrow p r → argument ≡ p → ⊥
no_self_application x head argument p r h a e f = no_arrow_in_itself p r (sym e ∙ h ∙ sym a ∙ f)
