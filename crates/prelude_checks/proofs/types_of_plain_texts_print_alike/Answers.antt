use Rattle.typing_model.specs.Typings.{conditions_of}
use Rattle.typing_laws.proofs.BesideTexts.{plain_alike}
use Rattle.typing_laws.proofs.Choices.{choices_renamed}
use Rattle.typing_laws.proofs.Closed.{first_closed}
use Rattle.prelude_checks.proofs.types_of_plain_texts_print_alike.Goals as goal

pub returns : goal.returns
returns c = λ N scope declared text env items kept choice other set plain p q weak weaks w u n shown shows.
    plain_alike N scope declared env items kept choice other (choices_renamed kept (conditions_of env items kept) choice other p q) (first_closed env set.first) plain weak weaks w u n shown shows
