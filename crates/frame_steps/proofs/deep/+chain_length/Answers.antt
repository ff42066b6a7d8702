use Rattle.std.proofs.Common.{length, sym, ◌∙◌, ap, arith}
use Rattle.syntax_rows.specs.Numbers.{key_number, sort_number}
use Rattle.syntax_rows.specs.View.{text_of}
use Rattle.frame_steps.proofs.Chains.{next_on, next_ends, next_some, chain_few}
use Rattle.frame_steps.proofs.deep.+chain_length.Goals as goal

pub chain_length-requires : goal.chain_length-requires
chain_length-requires t c =
    let (n, w) = c.in-Operand.ensures in
    let e = ap length (next_on (text_of c.args.text) (sort_number c.args.sort) (key_number c.args.key) c.in-Some.row c.spot_begun.result (sort_number c.in-Operand.inner) n (sym c.in-Some.is ∙ c.row_begun.ensures) c.spot_begun.ensures w) in
    let d = c.decreases in
    (omega arith, tt)

pub returns-in-Operand-clause-length : goal.returns-in-Operand-clause-length
returns-in-Operand-clause-length t c =
    let (n, w) = c.in-Operand.ensures in
    let e = ap length (next_on (text_of c.args.text) (sort_number c.args.sort) (key_number c.args.key) c.in-Some.row c.spot_begun.result (sort_number c.in-Operand.inner) n (sym c.in-Some.is ∙ c.row_begun.ensures) c.spot_begun.ensures w) in
    let l = c.chain_length.ensures.length in omega arith

pub returns-in-Operand-clause-few : goal.returns-in-Operand-clause-few
returns-in-Operand-clause-few t c =
    let (n, w) = c.in-Operand.ensures in
    let e = ap length (next_on (text_of c.args.text) (sort_number c.args.sort) (key_number c.args.key) c.in-Some.row c.spot_begun.result (sort_number c.in-Operand.inner) n (sym c.in-Some.is ∙ c.row_begun.ensures) c.spot_begun.ensures w) in
    let l = c.chain_length.ensures.length in
    let f = chain_few (text_of c.args.text) (sort_number c.args.sort) (key_number c.args.key) in omega arith

pub returns-in-Token-clause-length : goal.returns-in-Token-clause-length
returns-in-Token-clause-length t c =
    let (ks, w) = c.in-Token.ensures in
    let e = ap length (next_ends (text_of c.args.text) (sort_number c.args.sort) (key_number c.args.key) c.in-Some.row c.spot_begun.result ks (sym c.in-Some.is ∙ c.row_begun.ensures) c.spot_begun.ensures w) in omega arith

pub returns-in-Nothing-clause-length : goal.returns-in-Nothing-clause-length
returns-in-Nothing-clause-length t c =
    absurd (next_some (text_of c.args.text) (sort_number c.args.sort) (key_number c.args.key) c.in-Some.row c.spot_begun.result (sym c.in-Some.is ∙ c.row_begun.ensures) c.spot_begun.ensures c.in-Nothing.ensures)
