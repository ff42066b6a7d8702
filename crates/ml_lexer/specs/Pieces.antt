-- What stands at a place inside a comment.
use Rattle.std.specs.Prelude.{◌≡◌, ℕ, zero, suc, ◌<◌, ◌≤◌, List}
use Rattle.token_model.specs.Comments.{Closes}
use Rattle.ml_lexer.specs.declared.comments.Piece.{Piece}
use Rattle.ml_lexer.specs.declared.comments.Piece.TheVariants.{Begins, Ends, Passes, Unclosed}
use Rattle.ml_lexer.specs.Scans as scan

-- a piece of the code, in the definitions
abbrev pub piece_view : Piece → scan.Piece
piece_view Begins = scan.opens
piece_view Ends = scan.closes
piece_view (Passes n) = scan.passes n
piece_view Unclosed = scan.unclosed

-- there are bytes to pass, and they are left; the beginning and the end of a comment have two
abbrev pub PassesSome : ℕ → Piece → Type 0
PassesSome size Begins = 2 ≤ size
PassesSome size Ends = 2 ≤ size
PassesSome size (Passes n) = (0 < n) × (n ≤ size)
PassesSome size Unclosed = Unit {0}

-- in some comments, one round the other, stand these bytes, and behind the end of the outermost the second ones
abbrev pub ClosesAll : ℕ → List ℕ → List ℕ → Type 0
ClosesAll zero bs rest = bs ≡ rest
ClosesAll (suc depth) bs rest = (middle : List ℕ) × Closes bs middle × ClosesAll depth middle rest
