use Rattle.std.proofs.Common.{◌≡◌, arith, subst}
use Rattle.grammar_model.specs.Keys.{key_of}
use Rattle.grammar_model.specs.Tables.{operand}
use Rattle.syntax_tree.specs.View.{tok_of}
use Rattle.syntax_rows.specs.Numbers.{sort_number}
use Rattle.syntax_rows.specs.View.{text_of}
use Rattle.parse_frames.specs.Stacks.{stack_view}
use Rattle.frame_steps.specs.View.{text_table}
use Rattle.frame_steps.proofs.Chains.{chain_few}
use Rattle.frame_steps.proofs.Begins.{start_operand}
use Rattle.frame_steps.proofs.build.start.Goals as goal

pub begin-requires : goal.begin-requires
begin-requires c =
    let few = chain_few (text_of c.args.text) (sort_number c.in-Operand.sort) (key_of (tok_of c.args.token.now)) in
    let r = c.requires.room in
    record { room = omega arith }

pub returns-in-Operand : goal.returns-in-Operand
returns-in-Operand c =
    let (n, w) = c.in-Operand.ensures in
    start_operand (text_table c.args.text) c.args.spot (sort_number c.in-Operand.sort) n (tok_of c.args.token.now) (stack_view c.args.frames.now) c.begin.result (subst (λ r. (text_table c.args.text).what r c.args.spot ≡ operand (sort_number c.in-Operand.sort) n) c.number.ensures w) c.requires.takes c.begin.ensures
