-- Terms in place of a hole, as they are said.
use Rattle.std.proofs.Common.{ℕ, List, [], ◌∷◌, inl, inr, map, arith, sym, ap, subst, All, Option, Some, None}
use Rattle.std.proofs.lemmas.List.Elements.{All-head, All-tail, All-cons, All-weaker}
use Rattle.text_terms.specs.declared.Span.{Span}
use Rattle.query_model.specs.TypedNodes.{Typed}
use Rattle.service_model.specs.Answers.{TermsAt, TermsBy, shown_place}
use Rattle.service_model.specs.Replies as said
use Rattle.service_model.specs.Trials.{AddsNoFault, TrialTells}
use Rattle.tree_model.specs.Trees.{Place}
use Rattle.syntax_tree.specs.View.{place_of}
use Rattle.query_engine.specs.Typed.{IsPlacedAt}
use Rattle.query_engine.specs.declared.trials.Replacement.{Replacement}
use Rattle.construct_terms.specs.Terms.{told_by, AreKept, IsAt}
use Rattle.text_changes.specs.Changes.{text_in, AreSaidTerms, IsPlaced, Tells}

-- where a trial tells no place, no fault is added
pub untold : (text : List ℕ) (x : Place) (bytes : List ℕ) → TrialTells text x bytes None → AddsNoFault text x bytes
untold text x bytes (inl (fits, added)) = (fits.2, added)
untold text x bytes (inr (unfit, is)) = (let never : ⊥ = cc in absurd never)

-- candidates at a span that are kept add no fault there
pub kept_fit : (text : List ℕ) (x : Span) (cs kept : List Replacement) → AreKept (told_by (Tells text)) cs kept → All (IsAt x) cs → All (AddsNoFault text (place_of x)) (map text_in kept)
kept_fit text x [] kept are at = subst (λ (ks : List Replacement). All (AddsNoFault text (place_of x)) (map text_in ks)) (sym are) (λ k d lt. absurd (omega arith))
kept_fit text x (c ∷ cs) kept (inl (told, (rest, same, are))) at =
    subst (λ (ks : List Replacement). All (AddsNoFault text (place_of x)) (map text_in ks)) (sym same)
    (All-cons (AddsNoFault text (place_of x)) (text_in c) (map text_in rest)
    (subst (λ (y : Span). AddsNoFault text (place_of y) (text_in c)) (All-head (IsAt x) c cs at) (untold text (place_of c.span) (text_in c) told))
    (kept_fit text x cs rest are (All-tail (IsAt x) c cs at)))
kept_fit text x (c ∷ cs) kept (inr (p, told, are)) at = kept_fit text x cs kept are (All-tail (IsAt x) c cs at)

-- terms at the span of a typed node are said of it
pub said_at : (text : List ℕ) (x : Span) (n : Option Typed) (s : said.Said) → IsPlacedAt x n → AreSaidTerms text x s → TermsBy text n s
said_at text x None s at said = absurd at
said_at text x (Some n) s at (texts, same, fit) =
    subst (TermsAt text n) (sym same) (ap (shown_place text) at, subst (λ p. All (AddsNoFault text p) texts) at fit)

-- changes at one span go in place of the node there
pub all_placed : (n : Option Typed) (x : Span) (rs : List Replacement) → IsPlacedAt x n → All (IsAt x) rs → All (IsPlaced n) rs
all_placed n x rs at all = All-weaker (IsAt x) (IsPlaced n) (λ r is. subst (λ (y : Span). IsPlacedAt y n) (sym is) at) rs all
