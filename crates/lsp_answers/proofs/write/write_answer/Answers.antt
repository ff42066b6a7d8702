use Rattle.std.proofs.Common.{◌≡◌, ◌∙◌, ap, subst, IfOk, List, ℕ}
use Rattle.serde_json.specs.Written.{compact_text, has_float}
use Rattle.lsp_model.specs.Answers.{bytes_put, piece_data}
use Rattle.lsp_model.specs.Frames.{framed}
use Rattle.lsp_answers.specs.Puts.{piece_of}
use Rattle.lsp_answers.proofs.Printing.{no_float}
use Rattle.lsp_answers.proofs.write.write_answer.Goals as goal

pub returns : goal.returns
unfolding bytes_put
returns c =
    let is = c.in_ok-value.ensures in
    let text = c.in_ok-body.ensures.text (ap has_float is ∙ no_float c.args.answer.now) in
    let body : c.deref.result.now ≡ compact_text (piece_data (piece_of c.args.answer.now)) = c.deref.ensures.value ∙ text ∙ ap compact_text is in
    subst (λ (l : List ℕ). IfOk c.framed_bytes.result (λ b. b.items ≡ framed l)) body c.framed_bytes.ensures
