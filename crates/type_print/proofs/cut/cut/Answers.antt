use Rattle.std.proofs.Common.{◌≡◌, ◌∙◌, ◌<◌, ◌++◌, codes, sym, length, arith}
use Rattle.std.specs.Prelude.{string_bytes}
use Rattle.std.proofs.lemmas.Result.{IfOk-weaker}
use Rattle.text_terms.specs.Bytes.{str_bytes}
use Rattle.text_terms.specs.declared.RcStr.{RcStr}
use Rattle.type_print_model.specs.Printing.{cut, most_shown}
use Rattle.type_print.specs.Texts.{IsCuttable}
use Rattle.type_print.proofs.Ascii.{cut_long}
use Rattle.type_print.proofs.cut.cut.Goals as goal

pub returns : goal.returns
returns c =
    let bytes = string_bytes c.args.text in
    let long : most_shown < length bytes = omega arith in
    IfOk-weaker c.shortened.result (λ (r : RcStr). str_bytes r ≡ c.front.result.now ++ codes "...") (λ (r : RcStr). IsCuttable bytes → str_bytes r ≡ cut bytes)
    (λ r e b. e ∙ rw (c.front.ensures (rw c.deref.ensures (b long)), c.deref.ensures) (sym (cut_long bytes long))) c.shortened.ensures
