use Rattle.typing_state.proofs.Going.{goes_refl}
use Rattle.std.proofs.Common.{◌<◌, length, refl, arith, ◌≤◌, map}
use Rattle.std.proofs.lemmas.Option.{slice_get_read}
use Rattle.syntax_tree.specs.View.{place_of}
use Rattle.type_nodes.specs.Views.{numbers}
use Rattle.row_parts.specs.Numbered.{operand_view}
use Rattle.operand_laws.specs.Operands.{expression_of}
use Rattle.operand_laws.proofs.Standing.{expression_of_stands}
use Rattle.typing_steps.proofs.Rows.{equal_asks}
use Rattle.typing_rows.specs.Asked.{expressions_of}
use Rattle.typing_rows.proofs.Ending.{asks_at, asks_none, asks_no_node}
use Rattle.expression_steps.proofs.CarryingLaws.{part_here, number_here, part_missing, number_missing, past_end}
use Rattle.expression_steps.proofs.ends.has.Goals as goal

pub returns-in_ok-equal-clause-carries : goal.returns-in_ok-equal-clause-carries
returns-in_ok-equal-clause-carries c =
    let all = c.args.parts.now in
    let x = c.in-Some.part.now in
    let h = c.in-Some.ensures.lookup in
    let lt : c.args.place < length all = let n = h.0 in grind (arith) in
    let types = c.args.types.now in
    let g = c.in-Some-get.ensures.lookup in
    let lt' : c.args.place < length types = let n = g.0 in grind (arith) in
    let i = c.args.at.now.item in
    asks_at c.args.at.now c.equal.new.self c.args.env.now (expressions_of i (map operand_view all)) (numbers types) c.args.place c.in-Some-get.ty.now.0 c.args.wanted.0 (expression_of i (operand_view x)) (place_of x.span)
    (part_here i all c.args.place x (slice_get_read all (length all) c.args.place x refl lt h.1)) (number_here types c.args.place c.in-Some-get.ty.now (slice_get_read types (length types) c.args.place c.in-Some-get.ty.now refl lt' g.1))
    (expression_of_stands i (operand_view x)).where_it_is (equal_asks c.args.at.now c.equal.new.self c.args.env.now c.in_ok-equal.field-0 c.in_ok-equal.ensures.verdict c.equal.ensures.rest c.equal.ensures.goes)

pub returns-in_default-get-clause-carries : goal.returns-in_default-get-clause-carries
returns-in_default-get-clause-carries c =
    let types = c.args.types.now in
    let h = c.in_default-get.ensures.lookup in
    let le : length types ≤ c.args.place = let n = h.0 in grind (arith) in
    asks_no_node c.args.at.now c.args.env.now (expressions_of c.args.at.now.item (map operand_view c.args.parts.now)) (numbers types) c.args.place c.args.wanted.0 (number_missing types c.args.place (past_end types c.args.place le))

pub returns-in_default-clause-carries : goal.returns-in_default-clause-carries
returns-in_default-clause-carries c =
    let all = c.args.parts.now in
    let i = c.args.at.now.item in
    let h = c.in_default.ensures.lookup in
    let le : length all ≤ c.args.place = let n = h.0 in grind (arith) in
    asks_none c.args.at.now c.args.env.now (expressions_of i (map operand_view all)) (numbers c.args.types.now) c.args.place c.args.wanted.0 (part_missing i all c.args.place (past_end all c.args.place le))

pub returns-in_default-clause-goes : goal.returns-in_default-clause-goes
returns-in_default-clause-goes c = goes_refl c.args.at.now

pub returns-in_default-get-clause-goes : goal.returns-in_default-get-clause-goes
returns-in_default-get-clause-goes c = goes_refl c.args.at.now

pub returns-in_err-equal-clause-goes : goal.returns-in_err-equal-clause-goes
returns-in_err-equal-clause-goes c = c.equal.ensures.goes

pub returns-in_ok-equal-clause-goes : goal.returns-in_ok-equal-clause-goes
returns-in_ok-equal-clause-goes c = c.equal.ensures.goes
