use Rattle.typing_model.specs.Typings.{conditions_of}
use Rattle.typing_laws.proofs.BesideTexts.{plain_alike}
use Rattle.typing_laws.proofs.Choices.{choices_renamed}
use Rattle.typing_laws.proofs.choosing.weak_variables_of_plain_texts_print_alike.Goals as goal

pub returns : goal.returns
returns c = λ N scope declared env text kept choice other p q closed plain weak weaks w u n shown shows.
    plain_alike N scope declared env text kept choice other (choices_renamed kept (conditions_of env text kept) choice other p q) closed plain weak weaks w u n shown shows
