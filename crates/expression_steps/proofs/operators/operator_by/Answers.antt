use Rattle.std.proofs.Common.{◌∙◌, sym, true, false}
use Rattle.text_terms.specs.Bytes.{str_bytes}
use Rattle.expression_steps.proofs.EndingLaws.{operator_is, minus_name, minus_negates, other_name, other_negates}
use Rattle.expression_steps.proofs.operators.operator_by.Goals.{in-Eneg+in_ok-from_str-in-Eneg, in-Eneg-2+in_ok-from_str-in-Eneg-2, in_default+in_ok-share-in_default}
use Rattle.use_typing.specs.declared.constants.Sign.TheVariants as sign
use Rattle.expression_steps.proofs.operators.operator_by.Goals as goal

pub returns : goal.returns
returns c =
    let r = c.args.row in
    let t = c.args.token.now in
    let x = str_bytes t.name in
    record {
      operator = elim c.match-row.branch [
        | in-Eneg+in_ok-from_str-in-Eneg w ↦ let point = sym w.is.ensures ∙ w.if-is.true in operator_is r t c.match-row.name w.in_ok-from_str-in-Eneg.field-0 sign.None w.name-is (w.in_ok-from_str-in-Eneg.ensures ∙ sym (minus_name r x true w.in-Eneg.is point)) (sym (minus_negates r x true w.in-Eneg.is point))
        | in-Eneg-2+in_ok-from_str-in-Eneg-2 w ↦ let point = sym w.is.ensures ∙ w.if-is.false in operator_is r t c.match-row.name w.in_ok-from_str-in-Eneg-2.field-0 sign.Minus w.name-is (w.in_ok-from_str-in-Eneg-2.ensures ∙ sym (minus_name r x false w.in-Eneg-2.is point)) (sym (minus_negates r x false w.in-Eneg-2.is point))
        | in_default+in_ok-share-in_default w ↦ operator_is r t c.match-row.name w.in_ok-share-in_default.field-0 sign.None w.name-is (w.in_ok-share-in_default.ensures ∙ sym (other_name r x w.in_default.not-Eneg)) (sym (other_negates r x w.in_default.not-Eneg))
      ];
    }
