use Rattle.typing_state.proofs.Going.{goes_refl}
use Rattle.typed_index.specs.Seen.{seen_at}
use Rattle.std.proofs.Common.{◌≡◌, ◌≢◌, ◌∙◌, false, sym, subst}
use Rattle.std.proofs.lemmas.Bool.{false≢true}
use denote.Enum.Bare.{sameb}
use Rattle.typing_state.specs.contracts.parts.Telling.{the_type}
use Rattle.typing_state.specs.declared.parts.Telling.TheVariants.{Quiet}
use Rattle.std.specs.Prelude.{OnOk}
use Rattle.typing_state.specs.Notes.{Noted}
use Rattle.typing_state.proofs.Recording.{none_there, noted_first, note_goes, recorded_there, with_index}
use Rattle.typing_state.proofs.parts.Parts.note.Goals as goal

pub returns-clause-noted : goal.returns-clause-noted
returns-clause-noted c =
    let new = with_index c.args.self.now c.note.new.self in
    let aloud : c.args.self.now.telling ≢ Quiet = λ quiet. false≢true (sym (subst (λ t. sameb the_type t Quiet ≡ false) quiet (sym c.eq.ensures ∙ c.if-eq.false))) in
    let none = none_there _ c.get.result _ c.get.ensures (sym c.is_some.ensures ∙ c.if-is_some.false) in
    subst (λ env. OnOk c.note.result (Noted c.args.self.now.telling c.args.self.now new c.args.number (record { env = env; ty = c.args.ty; names = c.args.names }))) c.in_ok-env.ensures
    (noted_first c.note.result c.args.self.now.telling c.args.self.now new c.args.number _ aloud none c.note.ensures.noted)

pub returns-clause-recorded : goal.returns-clause-recorded
returns-clause-recorded c = recorded_there c.note.result c.note.new.self (seen_at c.args.self.now.index) c.args.self.now.item c.args.number _ _ c.note.ensures.noted

pub returns-clause-goes : goal.returns-clause-goes
returns-clause-goes c = note_goes c.note.result c.args.self.now c.note.new.self c.args.number _ (none_there _ c.get.result _ c.get.ensures (sym c.is_some.ensures ∙ c.if-is_some.false)) c.note.ensures.noted c.note.ensures.failed

pub returns-in_err-env-clause-goes : goal.returns-in_err-env-clause-goes
returns-in_err-env-clause-goes c = goes_refl c.args.self.now

pub returns-then-eq-clause-goes : goal.returns-then-eq-clause-goes
returns-then-eq-clause-goes c = goes_refl c.args.self.now

pub returns-then-is_some-clause-goes : goal.returns-then-is_some-clause-goes
returns-then-is_some-clause-goes c = goes_refl c.args.self.now
