use Rattle.std.proofs.Common.{◌≡◌, ◌∙◌, ap, refl, sym, subst, true, false}
use Rattle.std.specs.Prelude.{option_map}
use Rattle.text_terms.specs.Bytes.{str_bytes}
use Rattle.text_model.specs.Edits.{outcome_of}
use Rattle.text_store.specs.Edits.{edit_of}
use Rattle.json_lines.specs.Meets.{range_of}
use Rattle.json_lines.specs.Means.{said_of}
use Rattle.json_lines.specs.declared.reply.Reply.TheVariants.{Size}
use Rattle.session.specs.Lines.{IsWritten}
use Rattle.session.specs.Working.{Held}
use Rattle.session.specs.declared.session.Line.{Line}
use Rattle.session.specs.declared.session.Line.TheVariants.{Written, Memory}
use Rattle.session.proofs.Answering.{told_changed, told_refused}
use Rattle.session.proofs.Works.{refused_outcome, told_works, untold_works}
use Rattle.session.proofs.session.Session.tell.Goals as goal

pub returns-in-Memory-clause-owed : goal.returns-in-Memory-clause-owed
returns-in-Memory-clause-owed g c = λ w p owes.
    untold_works c.args.self.now c.args.self.now (option_map range_of c.args.range) (str_bytes c.args.text) Memory w p owes refl (λ not. let bad : true ≡ false = not in cc) refl

pub returns-in-Ok-clause-owed : goal.returns-in-Ok-clause-owed
returns-in-Ok-clause-owed g c = λ w p owes.
    let range = option_map range_of c.args.range in
    let bytes = str_bytes c.args.text in
    let new = c.apply.new.self in
    let first = c.in-Ok.field-0 in
    let written = subst (λ (l : Line). IsWritten (said_of (Size c.len_after.result)) l) c.in-Written.is c.written.ensures in
    told_works c.args.self.now new range bytes first (Written c.in-Written.bytes) w p owes (sym c.edit_for-edit.ensures ∙ c.in-Ok.ensures.done) c.in-Ok.ensures.noted c.apply.ensures.holds refl
    (told_changed c.args.self.now.text bytes c.in-Written.bytes.items new.text range c.len_after.result first (outcome_of c.args.self.now.text (edit_of c.edit_for-edit.result)) c.edit_for-edit.ensures c.in-Ok.ensures.done
    (λ is. c.len_after.ensures first new.text is) written)

pub returns-clause-owed : goal.returns-clause-owed
returns-clause-owed g c = λ w p owes.
    let range = option_map range_of c.args.range in
    let bytes = str_bytes c.args.text in
    let new = c.apply.new.self in
    let refused = c.in-Err.ensures.refused in
    let outcome = outcome_of c.args.self.now.text (edit_of c.edit_for-edit.result) in
    untold_works c.args.self.now new range bytes c.refused_edit_line.result w p owes refused.0
    (λ not. let (r, is) = refused_outcome outcome c.in-Err.refusal c.refused_edit_line.result refused.1 c.refused_edit_line.ensures not in (r, sym c.edit_for-edit.ensures ∙ is))
    (told_refused c.args.self.now.text bytes new.text range c.in-Err.refusal c.refused_edit_line.result outcome c.edit_for-edit.ensures refused.1 (ap (λ (h : Held). h.text) refused.0) c.refused_edit_line.ensures)
