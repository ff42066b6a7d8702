use Rattle.std.proofs.Common.{◌≡◌, ◌++◌, map, drop}
use Rattle.text_terms.specs.Bytes.{str_bytes}
use Rattle.lsp_model.specs.Answers.{term}
use Rattle.lsp_front.specs.Sayings.{range_of}
use Rattle.lsp_answers.specs.Puts.{action_of}
use Rattle.lsp_queries.proofs.actions.terms_of.Given as goal

abbrev pub invariant-loop-text : goal.invariant-loop-text
invariant-loop-text l = map action_of l.actions.items ++ map (λ t. term t (range_of l.range)) (map str_bytes (drop l.text-index l.texts)) ≡ map (λ t. term t (range_of l.range)) (map str_bytes l.texts)
