-- What one kind has, no other has.
use Rattle.std.proofs.Common.{◌≡◌, true, false, None, refl}
use Rattle.plain_model.specs.Plain.{is_let, is_lower, is_comparison, literal_type}
use Rattle.syntax_tree.specs.Names.{kind_of}
use Rattle.syntax_tree.specs.declared.kinds.TokenKind.{TokenKind}
use Rattle.syntax_tree.specs.declared.kinds.TokenKind.TheVariants as code

-- the word let is one
pub is_let_there : (k : TokenKind) → k ≡ code.Let → true ≡ is_let (kind_of k)
unfolding is_let kind_of
is_let_there k h = rw h refl

-- and nothing else is
pub is_let_alone : (k : TokenKind) → (k ≡ code.Let → ⊥) → false ≡ is_let (kind_of k)
unfolding is_let kind_of
is_let_alone code.Let h = absurd (h refl)
is_let_alone _ h = refl

-- a lower-case name is one
pub is_lower_there : (k : TokenKind) → k ≡ code.Lower → true ≡ is_lower (kind_of k)
unfolding is_lower kind_of
is_lower_there k h = rw h refl

-- and nothing else is
pub is_lower_alone : (k : TokenKind) → (k ≡ code.Lower → ⊥) → false ≡ is_lower (kind_of k)
unfolding is_lower kind_of
is_lower_alone code.Lower h = absurd (h refl)
is_lower_alone _ h = refl

-- a comparison is one
pub is_comparison_there : (k : TokenKind) → k ≡ code.Op9 → true ≡ is_comparison (kind_of k)
unfolding is_comparison kind_of
is_comparison_there k h = rw h refl

-- and nothing else is
pub is_comparison_alone : (k : TokenKind) → (k ≡ code.Op9 → ⊥) → false ≡ is_comparison (kind_of k)
unfolding is_comparison kind_of
is_comparison_alone code.Op9 h = absurd (h refl)
is_comparison_alone _ h = refl

-- the type of a literal
pub literal_type_there : (k l : TokenKind) → k ≡ l → literal_type (kind_of l) ≡ literal_type (kind_of k)
literal_type_there k l h = rw h refl

-- and other kinds have none
pub literal_type_alone : (k : TokenKind) → (k ≡ code.Int → ⊥) → (k ≡ code.Str → ⊥) → (k ≡ code.True → ⊥) → (k ≡ code.False → ⊥) → None ≡ literal_type (kind_of k)
unfolding literal_type kind_of
literal_type_alone code.Int a b c d = absurd (a refl)
literal_type_alone code.Str a b c d = absurd (b refl)
literal_type_alone code.True a b c d = absurd (c refl)
literal_type_alone code.False a b c d = absurd (d refl)
literal_type_alone _ a b c d = refl
