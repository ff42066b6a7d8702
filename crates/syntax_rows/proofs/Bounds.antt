-- The numbers of sorts and keys are those of the table.
use Rattle.std.proofs.Common.{◌≡◌, true, refl}
use Rattle.std.specs.Prelude.{nat_lt}
use Rattle.grammar_model.specs.Keys.{kind_key}
use Rattle.syntax_tree.specs.Names.{kind_of}
use Rattle.syntax_tree.specs.declared.kinds.TokenKind.{TokenKind}
use Rattle.syntax_tree.specs.declared.kinds.TokenKind.TheVariants as code
use Rattle.syntax_rows.specs.Numbers.{sort_number, key_number, kind_number}
use Rattle.syntax_rows.specs.declared.keys.Key.{Key}
use Rattle.syntax_rows.specs.declared.keys.Key.TheVariants.{Kind, Star, Minus, MinusPoint, Equal}
use Rattle.syntax_rows.specs.declared.rows.Sort.{Sort}
use Rattle.syntax_rows.specs.declared.rows.Sort.TheVariants as sort

-- a sort is one of the table's
pub sort_below : (s : Sort) → nat_lt (sort_number s) 20 ≡ true
unfolding sort_number
sort_below sort.Program = refl
sort_below sort.SignatureText = refl
sort_below sort.Item = refl
sort_below sort.SignatureItem = refl
sort_below sort.Expression = refl
sort_below sort.Pattern = refl
sort_below sort.TypeExpression = refl
sort_below sort.ModuleExpression = refl
sort_below sort.ModuleType = refl
sort_below sort.Binding = refl
sort_below sort.Case = refl
sort_below sort.Declaration = refl
sort_below sort.Head = refl
sort_below sort.RightSide = refl
sort_below sort.TypeKind = refl
sort_below sort.Constructor = refl
sort_below sort.Label = refl
sort_below sort.Field = refl
sort_below sort.FieldPattern = refl
sort_below sort.WithClause = refl

-- the key of a kind is one of the table's
kind_below : (k : TokenKind) → nat_lt (kind_number k) 79 ≡ true
unfolding kind_number kind_of kind_key
kind_below code.Lower = refl
kind_below code.Upper = refl
kind_below code.Qualifier = refl
kind_below code.TyVar = refl
kind_below code.OpName = refl
kind_below code.Unit = refl
kind_below code.Nil = refl
kind_below code.ModuleType = refl
kind_below code.Int = refl
kind_below code.Float = refl
kind_below code.Char = refl
kind_below code.Str = refl
kind_below code.And = refl
kind_below code.As = refl
kind_below code.Assert = refl
kind_below code.Begin = refl
kind_below code.Do = refl
kind_below code.Done = refl
kind_below code.Downto = refl
kind_below code.Else = refl
kind_below code.End = refl
kind_below code.Exception = refl
kind_below code.False = refl
kind_below code.For = refl
kind_below code.Fun = refl
kind_below code.Function = refl
kind_below code.Functor = refl
kind_below code.If = refl
kind_below code.In = refl
kind_below code.Include = refl
kind_below code.Let = refl
kind_below code.Match = refl
kind_below code.Module = refl
kind_below code.Mutable = refl
kind_below code.Of = refl
kind_below code.Open = refl
kind_below code.Rec = refl
kind_below code.Sig = refl
kind_below code.Struct = refl
kind_below code.Then = refl
kind_below code.To = refl
kind_below code.True = refl
kind_below code.Try = refl
kind_below code.TypeWord = refl
kind_below code.Val = refl
kind_below code.When = refl
kind_below code.While = refl
kind_below code.With = refl
kind_below code.LeftParen = refl
kind_below code.RightParen = refl
kind_below code.LeftBracket = refl
kind_below code.RightBracket = refl
kind_below code.LeftBrace = refl
kind_below code.RightBrace = refl
kind_below code.Comma = refl
kind_below code.Semi = refl
kind_below code.SemiSemi = refl
kind_below code.Colon = refl
kind_below code.Dot = refl
kind_below code.Underscore = refl
kind_below code.Bar = refl
kind_below code.Arrow = refl
kind_below code.LeftArrow = refl
kind_below code.ColonColon = refl
kind_below code.ColonEqual = refl
kind_below code.Op14 = refl
kind_below code.Op13 = refl
kind_below code.Op12 = refl
kind_below code.Op10 = refl
kind_below code.Op9 = refl
kind_below code.Op8 = refl
kind_below code.Op7 = refl
kind_below code.Prefix = refl
kind_below code.Outside = refl
kind_below code.Junk = refl

-- a key is one of the table's
pub key_below : (k : Key) → nat_lt (key_number k) 79 ≡ true
key_below (Kind k) = kind_below k
key_below Star = refl
key_below Minus = refl
key_below MinusPoint = refl
key_below Equal = refl
