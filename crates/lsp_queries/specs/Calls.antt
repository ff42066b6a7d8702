-- What is asked of a place, and its answer.
use Rattle.std.specs.Prelude.{ℕ, List}
use Rattle.lsp_model.specs.Answers as put
use Rattle.lsp_model.specs.Messages.{Choices}
use Rattle.lsp_front.specs.Sayings.{declaration_in}
use Rattle.lsp_front.specs.declared.message.PlaceCall.{PlaceCall}
use Rattle.lsp_front.specs.declared.message.PlaceCall.TheVariants.{Hover, Completion, Definition, References, Highlights}
use Rattle.lsp_queries.specs.Answers.{CompletionIs, DefinitionIs, HighlightsAre, HoverIs, ReferencesAre}

-- what is asked of an offset of a document's text is answered so
abbrev pub AtPlace : Choices → List ℕ → List ℕ → PlaceCall → ℕ → put.Answered → Type 0
AtPlace c text uri Hover o a = HoverIs c text o a
AtPlace c text uri Completion o a = CompletionIs c.columns text o a
AtPlace c text uri Definition o a = DefinitionIs c.columns text uri o a
AtPlace c text uri (References d) o a = ReferencesAre c.columns text uri (declaration_in d) o a
AtPlace c text uri Highlights o a = HighlightsAre c.columns text o a
