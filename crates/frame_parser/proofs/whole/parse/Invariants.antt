use Rattle.std.proofs.Common.{◌≡◌, take, map}
use Rattle.syntax_tree.specs.Tallies.{Grows}
use Rattle.syntax_tree.specs.View.{tok_of}
use Rattle.syntax_rows.specs.View.{text_of}
use Rattle.frame_steps.specs.Told.{told}
use Rattle.frame_steps.specs.View.{fault_of}
use Rattle.frame_parser.specs.Behind.{Behind}
use Rattle.frame_parser.specs.Run.{faults, all_shifts, shifted_by}
use Rattle.frame_parser.proofs.whole.parse.Given as goal

-- the stack, the faults and the counter behind the tokens so far
abbrev pub invariant-loop-token : goal.invariant-loop-token
invariant-loop-token g l =
    Behind (text_of l.fn.text) (map tok_of (take l.token-index l.tokens)) l.stack
    × (map fault_of l.faults.items ≡ map told (faults (text_of l.fn.text) (map tok_of (take l.token-index l.tokens))))
    × (g.C.Counts.tallies l.counts ≡ shifted_by (all_shifts (text_of l.fn.text) (map tok_of (take l.token-index l.tokens))) (g.C.Counts.tallies l.fn.counts))
    × Grows (g.C.Counts.tallies l.fn.counts) (g.C.Counts.tallies l.counts)
