use Rattle.std.proofs.Common.{◌≡◌, ◌++◌, ◌-◌, ◌≤◌, map, length, List}
use Rattle.std.specs.Str.{IsCharBoundary}
use Rattle.token_model.specs.Kinds.{Tok, AllWithin}
use Rattle.token_model.specs.Tokens.{LexFrom, column}
use Rattle.syntax_tree.specs.Tallies.{Grows}
use Rattle.syntax_tree.specs.View.{tok_of}
use Rattle.ml_lexer.proofs.lexer.lex_all.Given as goal

abbrev pub invariant-loop-tokens : goal.invariant-loop-tokens
invariant-loop-tokens g l =
    let text = l.left ++ l.right in
    ((more : List Tok) → LexFrom text l.at more → LexFrom text 0 (map tok_of l.tokens.items ++ more)) × (IsCharBoundary text l.at) × (length l.tokens.items ≤ l.at) × AllWithin (length text) (map tok_of l.tokens.items)
    × (l.col ≡ column text l.at) × Grows (g.C.Counts.tallies l.fn.counts) (g.C.Counts.tallies l.counts)
    × ((g.C.Counts.tallies l.counts).typed ≡ (g.C.Counts.tallies l.fn.counts).typed)

abbrev pub decreases-loop-tokens : goal.decreases-loop-tokens
decreases-loop-tokens g l = length (l.left ++ l.right) - l.at
