use Rattle.std.proofs.Common.{◌≡◌, ◌≤◌, map, take}
use Rattle.syntax_tree.specs.Tallies.{Grows}
use Rattle.syntax_tree.specs.View.{tok_of}
use Rattle.resume_parser.specs.Kept.{text_in, IsBegun, IsCounted}
use Rattle.resume_parser.proofs.kept.KeptParse.refresh.Given as goal

-- the first tokens are parsed
abbrev pub invariant-loop-k : goal.invariant-loop-k
invariant-loop-k g l = let tokens = map tok_of (take l.k l.tokens) in record {
  text : text_in l.self ≡ text_in l.fn.self;
  least : l.same ≤ l.k;
  parsed : IsBegun tokens l.self;
  counted : IsCounted (text_in l.fn.self) l.same tokens (g.C.Counts.tallies l.fn.counts) (g.C.Counts.tallies l.counts);
  unlexed : (g.C.Counts.tallies l.counts).lexed ≡ (g.C.Counts.tallies l.fn.counts).lexed;
  untyped : (g.C.Counts.tallies l.counts).typed ≡ (g.C.Counts.tallies l.fn.counts).typed;
  grows : Grows (g.C.Counts.tallies l.fn.counts) (g.C.Counts.tallies l.counts);
}
