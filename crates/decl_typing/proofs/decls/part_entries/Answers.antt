use Rattle.decl_typing.proofs.Denoting.{only_same, index_then}
use Rattle.std.proofs.Common.{◌≡◌, ◌∙◌, ◌++◌, refl, sym, ap, subst, append-nil}
use Rattle.std.proofs.lemmas.Result.{on_ok_weaker}
use Rattle.decl_typing.specs.Entering.{alone}
use Rattle.decl_typing.specs.Owned.{told_in}
use Rattle.decl_typing.specs.Entries.{names_told_if, AddsTold}
use Rattle.decl_typing.proofs.decls.part_entries.Goals.{in-Some+in_ok-push, in_default}
use Rattle.typing_state.proofs.Going.{goes_trans, goes_refl}
use Rattle.type_expressions.proofs.Untyped.{ok_then, noted_untyped}
use Rattle.decl_typing.proofs.Entries.{entries_added}
use Rattle.decl_typing.proofs.decls.part_entries.Goals as goal

pub returns-clause-entries : goal.returns-clause-entries
returns-clause-entries c =
    let before = c.args.entries.now.items in
    let type = c.in_ok-entry.entry in
    let pushed : c.match-entry-3.entries.items ≡ before ++ alone type = elim c.match-entry-3.branch [
      | in-Some+in_ok-push w ↦ ap (λ v. v.items) w.entries-is ∙ w.in_ok-push.ensures.pushed ∙ sym (ap (λ o. before ++ alone o) w.in-Some.is)
      | in_default w ↦ ap (λ v. v.items) w.entries-is ∙ sym (append-nil before) ∙ sym (ap (λ o. before ++ alone o) w.in_default.is)
    ] in
    on_ok_weaker c.told_entries.result (λ adds. entries_added c.args.declaration.now.value c.args.part.now type before c.told_entries.new.entries.items c.in_ok-entry.ensures
    (subst (λ es. AddsTold c.args.declaration.now.value (names_told_if (told_in c.args.part.now.right)) es c.told_entries.new.entries.items) pushed adds)) c.told_entries.ensures.entries

pub returns-clause-untyped : goal.returns-clause-untyped
returns-clause-untyped c = ok_then c.told_entries.result c.args.at.now c.note.new.self c.told_entries.new.at (noted_untyped c.args.at.now c.note.new.self _ _ refl c.in_ok-note.ensures.noted c.note.ensures.rest) c.told_entries.ensures.untyped

pub returns-clause-goes : goal.returns-clause-goes
returns-clause-goes c = goes_trans c.args.at.now c.note.new.self c.told_entries.new.at c.note.ensures.goes c.told_entries.ensures.goes

pub returns-in_err-entry-clause-goes : goal.returns-in_err-entry-clause-goes
returns-in_err-entry-clause-goes c = goes_refl c.args.at.now

pub returns-in_err-names-clause-goes : goal.returns-in_err-names-clause-goes
returns-in_err-names-clause-goes c = goes_refl c.args.at.now

pub returns-in_err-note-clause-goes : goal.returns-in_err-note-clause-goes
returns-in_err-note-clause-goes c = c.note.ensures.goes

pub returns-in_err-push-clause-goes : goal.returns-in_err-push-clause-goes
returns-in_err-push-clause-goes c = c.note.ensures.goes

pub returns-clause-rest : goal.returns-clause-rest
returns-clause-rest c = index_then c.note.ensures.rest c.told_entries.ensures.rest

pub returns-in_err-entry-clause-rest : goal.returns-in_err-entry-clause-rest
returns-in_err-entry-clause-rest c = only_same c.args.at.now

pub returns-in_err-names-clause-rest : goal.returns-in_err-names-clause-rest
returns-in_err-names-clause-rest c = only_same c.args.at.now

pub returns-in_err-note-clause-rest : goal.returns-in_err-note-clause-rest
returns-in_err-note-clause-rest c = c.note.ensures.rest

pub returns-in_err-push-clause-rest : goal.returns-in_err-push-clause-rest
returns-in_err-push-clause-rest c = c.note.ensures.rest
