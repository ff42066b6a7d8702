use Rattle.std.proofs.Common.{◌≡◌, ◌-◌, ◌<◌, ◌≤◌, ◌++◌, length, take, map}
use Rattle.std.specs.Str.{IsCharBoundary}
use Rattle.std.specs.Vec.{vec_capacity}
use Rattle.token_model.specs.Tokens.{column}
use Rattle.ml_lexer.specs.Reached.{FirstReached, end_of, reached_of}
use Rattle.token_store.specs.Stored.{IsFront, last_end, lexed_by, peaks_of}
use Rattle.token_store.proofs.store.read_on.Given as goal

-- the tokens so far are the first ones of the text, and there is room for one more
abbrev pub invariant-loop-token : goal.invariant-loop-token
invariant-loop-token g l = let text = l.left ++ l.right in record {
  place : l.from.at ≡ last_end end_of 0 (map reached_of l.tokens.items);
  inside : IsCharBoundary text l.from.at;
  col : l.from.col ≡ column text l.from.at;
  front : IsFront FirstReached end_of text 0 (map reached_of l.tokens.items);
  kept : take (length l.fn.tokens.items) l.tokens.items ≡ l.fn.tokens.items;
  longer : length l.fn.tokens.items ≤ length l.tokens.items;
  peaks : l.peaks.items ≡ peaks_of 0 (map reached_of l.tokens.items);
  room : length l.tokens.items < vec_capacity l.tokens;
  peak_room : length l.peaks.items < vec_capacity l.peaks;
  counted : g.C.Counts.tallies l.counts ≡ lexed_by (length l.tokens.items - length l.fn.tokens.items) (g.C.Counts.tallies l.fn.counts);
}

abbrev pub decreases-loop-token : goal.decreases-loop-token
decreases-loop-token g l = length (l.left ++ l.right) - l.from.at
