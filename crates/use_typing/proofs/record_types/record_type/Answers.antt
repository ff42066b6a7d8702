use Rattle.std.proofs.Common.{◌∙◌, option_map, refl, sym, ap, subst}
use Rattle.env_table.specs.Labels.{written_of}
use Rattle.env_table.specs.Views.{found_view}
use Rattle.typing_state.proofs.Going.{goes_refl}
use Rattle.std.proofs.Common.{map, Some, None}
use Rattle.use_typing.specs.Labels.{declared_in, found_by}
use Rattle.use_typing.specs.Records.{TakesFound}
use Rattle.use_typing.specs.declared.record_types.RecordType.TheVariants as record_type
use Rattle.use_typing.proofs.Recording.{takes_none, takes_known}
use Rattle.use_typing.proofs.record_types.record_type.Goals as goal

pub returns-clause-takes : goal.returns-clause-takes
returns-clause-takes c =
    takes_known (found_by c.args.env.now (map written_of c.args.labels.now)) c.in-Entry.entry.now.value c.args.at.now c.record_instance.new.at c.deref-2.result.now c.in_ok-declaration-in-Some.declaration c.in_ok-ty.ty (sym c.record_type.ensures ∙ ap found_view c.in-Entry.is)
    (ap (λ e. declared_in e.what) (sym c.deref.ensures) ∙ sym c.record_of.ensures ∙ ap (option_map (λ d. d.now.value)) c.in-Some.is ∙ ap (λ d. Some d) (sym (c.deref-2.ensures ∙ c.in_ok-declaration-in-Some.ensures)))
    (sym c.deref-2.ensures) c.in_ok-ty.ensures.takes

pub returns-in-Hole-clause-takes : goal.returns-in-Hole-clause-takes
returns-in-Hole-clause-takes c = subst (λ f. TakesFound f c.args.at.now c.args.at.now (Some record_type.Open)) (sym (sym c.record_type.ensures ∙ ap found_view c.in-Hole.is)) (refl, refl)

pub returns-in-None-clause-takes : goal.returns-in-None-clause-takes
returns-in-None-clause-takes c =
    takes_none (found_by c.args.env.now (map written_of c.args.labels.now)) c.in-Entry.entry.now.value c.args.at.now (sym c.record_type.ensures ∙ ap found_view c.in-Entry.is)
    (ap (λ e. declared_in e.what) (sym c.deref.ensures) ∙ sym c.record_of.ensures ∙ ap (option_map (λ d. d.now.value)) c.in-None.is)

pub returns-in-Nothing-clause-takes : goal.returns-in-Nothing-clause-takes
returns-in-Nothing-clause-takes c = subst (λ f. TakesFound f c.args.at.now c.args.at.now None) (sym (sym c.record_type.ensures ∙ ap found_view c.in-Nothing.is)) (refl, refl)

pub returns-clause-goes : goal.returns-clause-goes
returns-clause-goes c = c.record_instance.ensures.goes

pub returns-in-Hole-clause-goes : goal.returns-in-Hole-clause-goes
returns-in-Hole-clause-goes c = goes_refl c.args.at.now

pub returns-in-None-clause-goes : goal.returns-in-None-clause-goes
returns-in-None-clause-goes c = goes_refl c.args.at.now

pub returns-in-Nothing-clause-goes : goal.returns-in-Nothing-clause-goes
returns-in-Nothing-clause-goes c = goes_refl c.args.at.now

pub returns-in_err-declaration-in-Some-clause-goes : goal.returns-in_err-declaration-in-Some-clause-goes
returns-in_err-declaration-in-Some-clause-goes c = goes_refl c.args.at.now

pub returns-in_err-ty-clause-goes : goal.returns-in_err-ty-clause-goes
returns-in_err-ty-clause-goes c = c.record_instance.ensures.goes
