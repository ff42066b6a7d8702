use Rattle.std.proofs.Common.{◌≡◌, length, Some, sym, ◌∙◌, ap, arith}
use Rattle.grammar_model.specs.Keys.{key_of}
use Rattle.grammar_model.specs.Separate.{head_of}
use Rattle.syntax_tree.specs.View.{tok_of}
use Rattle.syntax_rows.specs.Numbers.{sort_number}
use Rattle.syntax_rows.specs.View.{text_of}
use Rattle.parse_frames.specs.Stacks.{stack_view}
use Rattle.frame_steps.specs.View.{text_table}
use Rattle.frame_steps.proofs.Chains.{next_on, next_ends, next_some}
use Rattle.frame_steps.proofs.Begins.{begun_on, begun_ends}
use Rattle.frame_steps.proofs.build.+begin.Goals as goal

pub begin-requires : goal.begin-requires
begin-requires t c =
    let (n, w) = c.in-Operand.ensures in
    let k = key_of (tok_of c.args.token.now) in
    let h : Some c.in-Some.row ≡ head_of ((text_table c.args.text).chain (sort_number c.args.sort) k) = sym c.in-Some.is ∙ c.row_begun.ensures ∙ ap (λ k. head_of ((text_table c.args.text).chain (sort_number c.args.sort) k)) c.of.ensures in
    let e = ap length (next_on (text_of c.args.text) (sort_number c.args.sort) k c.in-Some.row c.spot_begun-first.result (sort_number c.in-Operand.inner) n h c.spot_begun-first.ensures w) in
    let o = ap (λ s. length s.below) c.in_ok-opened-in-Some.ensures in
    let d = c.decreases in
    let r = c.requires.room in
    (omega arith, omega arith)

pub returns-in-Operand : goal.returns-in-Operand
returns-in-Operand t c =
    let (n, w) = c.in-Operand.ensures in
    let k = key_of (tok_of c.args.token.now) in
    let h : Some c.in-Some.row ≡ head_of ((text_table c.args.text).chain (sort_number c.args.sort) k) = sym c.in-Some.is ∙ c.row_begun.ensures ∙ ap (λ k. head_of ((text_table c.args.text).chain (sort_number c.args.sort) k)) c.of.ensures in
    let e = next_on (text_of c.args.text) (sort_number c.args.sort) k c.in-Some.row c.spot_begun-first.result (sort_number c.in-Operand.inner) n h c.spot_begun-first.ensures w in
    begun_on (text_table c.args.text) c.args.spot c.in-Some.row c.spot_begun-first.result ((text_table c.args.text).chain (sort_number c.args.sort) k) ((text_table c.args.text).chain (sort_number c.in-Operand.inner) k) (tok_of c.args.token.now)
    (stack_view c.args.frames.now) (stack_view c.in_ok-opened-in-Some.opened) c.begin.result c.spot_begun-first.ensures e c.in_ok-opened-in-Some.ensures c.begin.ensures

pub returns-in-Token : goal.returns-in-Token
returns-in-Token t c =
    let (ks, w) = c.in-Token.ensures in
    let k = key_of (tok_of c.args.token.now) in
    let h : Some c.in-Some.row ≡ head_of ((text_table c.args.text).chain (sort_number c.args.sort) k) = sym c.in-Some.is ∙ c.row_begun.ensures ∙ ap (λ k. head_of ((text_table c.args.text).chain (sort_number c.args.sort) k)) c.of.ensures in
    let e = next_ends (text_of c.args.text) (sort_number c.args.sort) k c.in-Some.row c.spot_begun-first.result ks h c.spot_begun-first.ensures w in
    begun_ends (text_table c.args.text) c.args.spot c.in-Some.row c.spot_begun-first.result ((text_table c.args.text).chain (sort_number c.args.sort) k) (tok_of c.args.token.now)
    (stack_view c.args.frames.now) (stack_view c.in_ok-opened-in-Some.opened) c.take_token-in-Token.result c.spot_begun-first.ensures e c.in_ok-opened-in-Some.ensures c.take_token-in-Token.ensures

pub returns : goal.returns
returns t c =
    let k = key_of (tok_of c.args.token.now) in
    let h : Some c.in-Some.row ≡ head_of ((text_table c.args.text).chain (sort_number c.args.sort) k) = sym c.in-Some.is ∙ c.row_begun.ensures ∙ ap (λ k. head_of ((text_table c.args.text).chain (sort_number c.args.sort) k)) c.of.ensures in
    absurd (next_some (text_of c.args.text) (sort_number c.args.sort) k c.in-Some.row c.spot_begun-first.result h c.spot_begun-first.ensures c.in-Nothing.ensures)
