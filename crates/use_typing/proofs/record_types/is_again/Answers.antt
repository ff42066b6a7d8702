use Rattle.std.proofs.Common.{◌∙◌, [], ◌∷◌, ap}
use Rattle.std.proofs.lemmas.List.{map-append}
use Rattle.syntax_tree.specs.View.{tok_of}
use Rattle.use_typing.specs.Labels.{toks_of}
use Rattle.use_typing.proofs.Reading.{on_ok}
use Rattle.use_typing.proofs.record_types.is_again.Goals as goal

pub returns-clause-added : goal.returns-clause-added
returns-clause-added c = on_ok c.push.result (λ e. ap toks_of e ∙ map-append (λ t. tok_of t.now) c.args.seen.now.items (c.args.label ∷ [])) c.push.ensures.pushed
