use Rattle.std.proofs.Common.{◌∙◌, option_map, sym, ap, subst}
use Rattle.std.specs.Prelude.{OnOk}
use Rattle.env_table.specs.declared.faults.FaultKind.TheVariants as fault
use Rattle.syntax_tree.specs.View.{tok_of}
use Rattle.typing_state.proofs.Going.{goes_refl}
use Rattle.typing_state.specs.Bound.{names_of_tokens}
use Rattle.typing_state.specs.Goes.{faults_of, Told}
use Rattle.typing_state.specs.Messages.{twice_text}
use Rattle.use_typing.specs.Labels.{toks_of}
use Rattle.use_typing.proofs.Recording.{once_unwritten, once_open, once_kept, once_told}
use Rattle.use_typing.proofs.record_types.ask_new_label.Goals as goal

pub returns-in-Known-clause-once : goal.returns-in-Known-clause-once
returns-in-Known-clause-once c =
    once_told c.twice.result c.args.found.now c.in-Known.field-0 c.in-Known.field-1 (toks_of c.args.labels.now.items) (option_map (λ t. tok_of t.now) c.args.label) c.in-Some.label.now c.args.at.now c.twice.new.self c.in-Known.is (ap (option_map (λ t. tok_of t.now)) c.in-Some.is)
    (sym c.in_ok-again.ensures.again ∙ c.if-again.true) (subst (λ x. OnOk c.twice.result (Told c.args.at.now.telling (faults_of c.args.at.now) (faults_of c.twice.new.self) c.in-Some.label.now.span fault.Unique (twice_text x))) c.as_str.ensures c.twice.ensures.told) c.twice.ensures.rest

pub returns-in_default-clause-once : goal.returns-in_default-clause-once
returns-in_default-clause-once c = once_unwritten c.args.found.now (names_of_tokens (toks_of c.args.labels.now.items)) (option_map (λ t. tok_of t.now) c.args.label) c.args.at.now (ap (option_map (λ t. tok_of t.now)) c.in_default.is)

pub returns-in_default-found-2-clause-once : goal.returns-in_default-found-2-clause-once
returns-in_default-found-2-clause-once c = once_open c.args.found.now (names_of_tokens (toks_of c.args.labels.now.items)) (option_map (λ t. tok_of t.now) c.args.label) c.args.at.now c.in_default-found.is

pub returns-in_default-found-clause-once : goal.returns-in_default-found-clause-once
returns-in_default-found-clause-once c =
    once_kept c.args.found.now c.in-Known.field-0 c.in-Known.field-1 (toks_of c.args.labels.now.items) (option_map (λ t. tok_of t.now) c.args.label) c.in-Some.label.now c.args.at.now c.in-Known.is (ap (option_map (λ t. tok_of t.now)) c.in-Some.is) (sym c.in_ok-again.ensures.again ∙ c.if-again.false)

pub returns-in-Known-clause-goes : goal.returns-in-Known-clause-goes
returns-in-Known-clause-goes c = c.twice.ensures.goes

pub returns-in_default-clause-goes : goal.returns-in_default-clause-goes
returns-in_default-clause-goes c = goes_refl c.args.at.now

pub returns-in_default-found-2-clause-goes : goal.returns-in_default-found-2-clause-goes
returns-in_default-found-2-clause-goes c = goes_refl c.args.at.now

pub returns-in_default-found-clause-goes : goal.returns-in_default-found-clause-goes
returns-in_default-found-clause-goes c = goes_refl c.args.at.now

pub returns-in_err-again-clause-goes : goal.returns-in_err-again-clause-goes
returns-in_err-again-clause-goes c = goes_refl c.args.at.now
