use Rattle.std.proofs.Common.{◌≡◌, ℕ, ◌+◌, ◌≤◌, length, map, take}
use Rattle.grammar_model.specs.Ocaml.{Text, grammar}
use Rattle.recovery_model.specs.Items.{Parser}
use Rattle.recovery_model.specs.Recovery.{retake_all}
use Rattle.syntax_tree.specs.View.{tok_of}
use Rattle.frame_steps.specs.Told.{told}
use Rattle.frame_steps.specs.View.{fault_of}
use Rattle.frame_parser.specs.Shown.{IsReached, Shows}
use Rattle.frame_parser.proofs.steps.retake_all.Given as goal

-- the stack and the faults behind the tokens so far
abbrev pub invariant-loop-token : goal.invariant-loop-token
invariant-loop-token l = (text : Text) (p : Parser) (n : ℕ) → Shows text p l.fn.start → IsReached text n p.state → n + length l.tokens ≤ 1048576
    → Shows text (retake_all (grammar text) (map tok_of (take l.token-index l.tokens)) p).parser l.stack
    × (map fault_of l.faults.items ≡ map told (retake_all (grammar text) (map tok_of (take l.token-index l.tokens)) p).faults)
