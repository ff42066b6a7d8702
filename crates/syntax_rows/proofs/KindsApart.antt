-- The key of a token whose spelling doesn't matter is that of its kind.
use Rattle.std.proofs.Common.{◌≡◌, ℕ, List, refl}
use Rattle.grammar_model.specs.Keys.{spelled_key}
use Rattle.syntax_tree.specs.Names.{kind_of}
use Rattle.syntax_tree.specs.declared.kinds.TokenKind.{TokenKind}
use Rattle.syntax_tree.specs.declared.kinds.TokenKind.TheVariants as code
use Rattle.syntax_rows.specs.Numbers.{kind_number}

-- of a kind that isn't one of the three with spellings apart
pub kind_apart : (k : TokenKind) (name : List ℕ) → (k ≡ code.Op13 → ⊥) → (k ≡ code.Op12 → ⊥) → (k ≡ code.Op9 → ⊥) → kind_number k ≡ spelled_key (kind_of k) name
unfolding kind_number kind_of
kind_apart code.Lower name a b c = refl
kind_apart code.Upper name a b c = refl
kind_apart code.Qualifier name a b c = refl
kind_apart code.TyVar name a b c = refl
kind_apart code.OpName name a b c = refl
kind_apart code.Unit name a b c = refl
kind_apart code.Nil name a b c = refl
kind_apart code.ModuleType name a b c = refl
kind_apart code.Int name a b c = refl
kind_apart code.Float name a b c = refl
kind_apart code.Char name a b c = refl
kind_apart code.Str name a b c = refl
kind_apart code.And name a b c = refl
kind_apart code.As name a b c = refl
kind_apart code.Assert name a b c = refl
kind_apart code.Begin name a b c = refl
kind_apart code.Do name a b c = refl
kind_apart code.Done name a b c = refl
kind_apart code.Downto name a b c = refl
kind_apart code.Else name a b c = refl
kind_apart code.End name a b c = refl
kind_apart code.Exception name a b c = refl
kind_apart code.False name a b c = refl
kind_apart code.For name a b c = refl
kind_apart code.Fun name a b c = refl
kind_apart code.Function name a b c = refl
kind_apart code.Functor name a b c = refl
kind_apart code.If name a b c = refl
kind_apart code.In name a b c = refl
kind_apart code.Include name a b c = refl
kind_apart code.Let name a b c = refl
kind_apart code.Match name a b c = refl
kind_apart code.Module name a b c = refl
kind_apart code.Mutable name a b c = refl
kind_apart code.Of name a b c = refl
kind_apart code.Open name a b c = refl
kind_apart code.Rec name a b c = refl
kind_apart code.Sig name a b c = refl
kind_apart code.Struct name a b c = refl
kind_apart code.Then name a b c = refl
kind_apart code.To name a b c = refl
kind_apart code.True name a b c = refl
kind_apart code.Try name a b c = refl
kind_apart code.TypeWord name a b c = refl
kind_apart code.Val name a b c = refl
kind_apart code.When name a b c = refl
kind_apart code.While name a b c = refl
kind_apart code.With name a b c = refl
kind_apart code.LeftParen name a b c = refl
kind_apart code.RightParen name a b c = refl
kind_apart code.LeftBracket name a b c = refl
kind_apart code.RightBracket name a b c = refl
kind_apart code.LeftBrace name a b c = refl
kind_apart code.RightBrace name a b c = refl
kind_apart code.Comma name a b c = refl
kind_apart code.Semi name a b c = refl
kind_apart code.SemiSemi name a b c = refl
kind_apart code.Colon name a b c = refl
kind_apart code.Dot name a b c = refl
kind_apart code.Underscore name a b c = refl
kind_apart code.Bar name a b c = refl
kind_apart code.Arrow name a b c = refl
kind_apart code.LeftArrow name a b c = refl
kind_apart code.ColonColon name a b c = refl
kind_apart code.ColonEqual name a b c = refl
kind_apart code.Op14 name a b c = refl
kind_apart code.Op13 name a b c = absurd (a refl)
kind_apart code.Op12 name a b c = absurd (b refl)
kind_apart code.Op10 name a b c = refl
kind_apart code.Op9 name a b c = absurd (c refl)
kind_apart code.Op8 name a b c = refl
kind_apart code.Op7 name a b c = refl
kind_apart code.Prefix name a b c = refl
kind_apart code.Outside name a b c = refl
kind_apart code.Junk name a b c = refl

-- equal kinds with equal spellings have one key
pub same_spelled : (k j : TokenKind) (n m : List ℕ) → k ≡ j → n ≡ m → spelled_key (kind_of j) n ≡ spelled_key (kind_of k) m
same_spelled k j n m e f = cc
