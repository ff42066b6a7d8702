-- What is said of cases that are tried.
use Rattle.std.proofs.Common.{◌≡◌, inl, inr, ℕ, List, refl, sym, ◌∙◌, ap, subst, Result, Ok, Err, IfOk}
use Rattle.std.specs.Prelude.{Option, Some, None}
use Rattle.std.specs.declared.alloc.AllocError.{AllocError}
use Rattle.text_terms.specs.Bytes.{str_bytes}
use Rattle.text_model.specs.Positions.{position_of}
use Rattle.query_model.specs.TypedNodes.{Typed}
use Rattle.service_model.specs.Answers.{CasesAt, CasesBy, shown_place}
use Rattle.service_model.specs.Replies as said
use Rattle.service_model.specs.Trials.{AddsNoFault, TrialTells}
use Rattle.syntax_tree.specs.View.{place_of}
use Rattle.query_engine.specs.Typed.{IsPlacedAt}
use Rattle.query_engine.specs.declared.trials.Replacement.{Replacement}
use Rattle.case_analysis.specs.Refusals.{IsRefusedByTrial}
use Rattle.case_analysis.specs.declared.SplitFault.{SplitFault}
use Rattle.case_analysis.specs.declared.SplitFault.TheVariants as split
use Rattle.json_lines.specs.Means.{said_of}
use Rattle.json_lines.specs.declared.reply.Reply.{Reply}
use Rattle.text_changes.specs.Changes.{IsCasesFailure, IsSaidOfCandidate, Tells, said_change}
use Rattle.text_changes.proofs.Terms.{untold}

-- a candidate of which a trial tells no place is answered
pub kept_said : (text had : List ℕ) (c made : Replacement) (a b : ℕ × ℕ) → made ≡ c → had ≡ text → a ≡ position_of text made.span.start → b ≡ position_of text made.span.end
    → Tells had c.span (str_bytes c.text) None → IsSaidOfCandidate text c (said.split a b (str_bytes made.text))
kept_said text had c made a b same is start end told =
    inl (
      ap (λ x. said.split x b (str_bytes made.text)) start ∙ ap (λ x. said.split (position_of text made.span.start) x (str_bytes made.text)) end ∙ ap (said_change text) same,
      untold text (place_of c.span) (str_bytes c.text) (subst (λ (t : List ℕ). Tells t c.span (str_bytes c.text) None) is told),
    )

-- one of which it tells a place is refused
pub refused_said : (text had : List ℕ) (c : Replacement) (r : Result Reply AllocError) (e : SplitFault) → had ≡ text → IsRefusedByTrial (Tells had c.span (str_bytes c.text)) e
    → IfOk r (λ y. IsCasesFailure text e (said_of y)) → IfOk r (λ y. IsSaidOfCandidate text c (said_of y))
refused_said text had c (Err x) e is refused told = tt
refused_said text had c (Ok y) split.NoNode is refused told = absurd refused
refused_said text had c (Ok y) split.NothingToSplit is refused told = absurd refused
refused_said text had c (Ok y) (split.HiddenConstructor name) is refused told = absurd refused
refused_said text had c (Ok y) (split.WouldFault at) is refused told = inr (at, told, subst (λ (t : List ℕ). Tells t c.span (str_bytes c.text) (Some at)) is refused)
refused_said text had c (Ok y) split.NoMemory is refused told = absurd told

-- what is said of a candidate at a typed node is said of the node
pub candidate_said : (text : List ℕ) (c : Replacement) (n : Option Typed) (s : said.Said) → IsPlacedAt c.span n → IsSaidOfCandidate text c s → CasesBy text n s
candidate_said text c None s at told = absurd at
candidate_said text c (Some n) s at (inl (same, adds)) =
    subst (CasesAt text n) (sym same) (ap (shown_place text) at, subst (λ p. AddsNoFault text p (str_bytes c.text)) at adds)
candidate_said text c (Some n) s at (inr (o, same, told)) =
    subst (CasesAt text n) (sym same) (o, str_bytes c.text, refl, subst (λ p. TrialTells text p (str_bytes c.text) (Some o)) at told)
