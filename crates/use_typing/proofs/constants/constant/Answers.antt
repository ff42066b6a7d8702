use Rattle.typing_state.proofs.Going.{goes_trans, goes_same, goes_refl}
use Rattle.std.proofs.Common.{◌≡◌, ◌∙◌, sym, ap, subst}
use Rattle.text_terms.specs.Bytes.{str_bytes}
use Rattle.syntax_tree.specs.View.{tok_of}
use Rattle.typing_model.specs.BuiltIns.{in_range}
use Rattle.env_table.specs.declared.faults.FaultKind.TheVariants as fault
use Rattle.typing_state.specs.Messages.{too_large_text}
use Rattle.typing_steps.specs.Demands.{TestedAs}
use Rattle.use_typing.specs.Constants.{is_negated}
use Rattle.use_typing.proofs.Carrying.{other_asks, tested_kept, tested_told, missing_typed, int_typed, float_typed, char_typed, string_typed, unit_typed, bool_typed, nil_typed, other_typed}
use Rattle.use_typing.proofs.constants.constant.Goals as goal
use Rattle.use_typing.proofs.constants.constant.Goals.{then-not-in_range+in_ok-too_large-in-Int, else-not-in_range}

pub returns-in_default-clause-carries : goal.returns-in_default-clause-carries
returns-in_default-clause-carries c = missing_typed c.var.result c.args.at.now c.var.new.self (is_negated c.args.sign) c.args.token c.in_default.is c.var.ensures.made c.var.ensures.rest

pub returns-after-not-in_range-clause-carries : goal.returns-after-not-in_range-clause-carries
returns-after-not-in_range-clause-carries c =
    let named : c.in_range.result ≡ in_range (is_negated c.args.sign) (str_bytes c.in-Some.token.now.name) = c.in_range.ensures ∙ ap (in_range (is_negated c.args.sign)) (c.as_bytes.ensures.value ∙ c.as_str.ensures) in
    int_typed c.args.at.now (is_negated c.args.sign) c.args.token c.in-Some.token c.in-Some.is c.if-not-in_range.at c.in-Int.is
    (elim c.if-not-in_range.branch [
      | then-not-in_range+in_ok-too_large-in-Int w ↦ subst (λ p. TestedAs (in_range (is_negated c.args.sign) (str_bytes c.in-Some.token.now.name)) c.args.at.now p c.in-Some.token.now.span fault.Range too_large_text) (sym w.at-is)
          (tested_told c.args.at.now w.too_large.new.self c.in-Some.token.now.span fault.Range too_large_text (in_range (is_negated c.args.sign) (str_bytes c.in-Some.token.now.name)) (sym named ∙ w.if-not-in_range.true) w.in_ok-too_large-in-Int.ensures.told w.too_large.ensures.rest)
      | else-not-in_range w ↦ tested_kept c.args.at.now c.if-not-in_range.at c.in-Some.token.now.span fault.Range too_large_text (in_range (is_negated c.args.sign) (str_bytes c.in-Some.token.now.name)) (sym named ∙ w.if-not-in_range.false) w.at-is
    ])

pub returns-in-Float-clause-carries : goal.returns-in-Float-clause-carries
returns-in-Float-clause-carries c = float_typed c.args.at.now (is_negated c.args.sign) c.args.token c.in-Some.token c.in-Some.is c.in-Float.is

pub returns-in-Char-clause-carries : goal.returns-in-Char-clause-carries
returns-in-Char-clause-carries c = char_typed c.args.at.now (is_negated c.args.sign) c.args.token c.in-Some.token c.in-Some.is c.in-Char.is

pub returns-in-Str-clause-carries : goal.returns-in-Str-clause-carries
returns-in-Str-clause-carries c = string_typed c.args.at.now (is_negated c.args.sign) c.args.token c.in-Some.token c.in-Some.is c.in-Str.is

pub returns-in-Unit-clause-carries : goal.returns-in-Unit-clause-carries
returns-in-Unit-clause-carries c = unit_typed c.args.at.now (is_negated c.args.sign) c.args.token c.in-Some.token c.in-Some.is c.in-Unit.is

pub returns-in-True-clause-carries : goal.returns-in-True-clause-carries
returns-in-True-clause-carries c = bool_typed c.args.at.now (is_negated c.args.sign) c.args.token c.in-Some.token c.in-Some.is c.in-True.is

pub returns-in-Nil-clause-carries : goal.returns-in-Nil-clause-carries
returns-in-Nil-clause-carries c = nil_typed c.args.at.now (is_negated c.args.sign) c.args.token c.in-Some.token c.in-Some.is c.empty_list.result c.empty_list.new.at c.in-Nil.is c.empty_list.ensures.carries

pub returns-in_default-kind-clause-carries : goal.returns-in_default-kind-clause-carries
returns-in_default-kind-clause-carries c =
    let k = c.in_default-kind in
    other_typed c.args.at.now (is_negated c.args.sign) c.args.token c.in-Some.token c.in-Some.is c.var-in_default-kind.result c.var-in_default-kind.new.self
    (other_asks c.in-Some.token.now.kind k.not-Int k.not-Float k.not-Char k.not-Str k.not-Unit k.not-True k.not-False k.not-Nil (is_negated c.args.sign) (tok_of c.in-Some.token.now)) c.var-in_default-kind.ensures.made c.var-in_default-kind.ensures.rest

pub returns-after-not-in_range-clause-goes : goal.returns-after-not-in_range-clause-goes
returns-after-not-in_range-clause-goes c = (elim c.if-not-in_range.branch [ then-not-in_range+in_ok-too_large-in-Int w ↦ goes_trans c.args.at.now w.too_large.new.self c.if-not-in_range.at w.too_large.ensures.goes (goes_same w.too_large.new.self c.if-not-in_range.at w.at-is) | else-not-in_range w ↦ goes_same c.args.at.now c.if-not-in_range.at w.at-is ])

pub returns-in-Char-clause-goes : goal.returns-in-Char-clause-goes
returns-in-Char-clause-goes c = goes_refl c.args.at.now

pub returns-in-Float-clause-goes : goal.returns-in-Float-clause-goes
returns-in-Float-clause-goes c = goes_refl c.args.at.now

pub returns-in-Nil-clause-goes : goal.returns-in-Nil-clause-goes
returns-in-Nil-clause-goes c = c.empty_list.ensures.goes

pub returns-in-Str-clause-goes : goal.returns-in-Str-clause-goes
returns-in-Str-clause-goes c = goes_refl c.args.at.now

pub returns-in-True-clause-goes : goal.returns-in-True-clause-goes
returns-in-True-clause-goes c = goes_refl c.args.at.now

pub returns-in-Unit-clause-goes : goal.returns-in-Unit-clause-goes
returns-in-Unit-clause-goes c = goes_refl c.args.at.now

pub returns-in_default-clause-goes : goal.returns-in_default-clause-goes
returns-in_default-clause-goes c = c.var.ensures.goes

pub returns-in_default-kind-clause-goes : goal.returns-in_default-kind-clause-goes
returns-in_default-kind-clause-goes c = c.var-in_default-kind.ensures.goes

pub returns-in_err-too_large-in-Int-clause-goes : goal.returns-in_err-too_large-in-Int-clause-goes
returns-in_err-too_large-in-Int-clause-goes c = c.too_large.ensures.goes
