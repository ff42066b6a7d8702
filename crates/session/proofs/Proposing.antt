-- What is proposed to a query, and what is said of it.
use Rattle.std.proofs.Common.{◌≡◌, ◌∙◌, ◌≤◌, All, List, [], length, ℕ, refl, sym, subst, ap, arith, Option, Some, None, Result, Ok, Err, IfOk, true, false}
use Rattle.std.proofs.lemmas.List.{nil_from_length}
use Rattle.std.proofs.lemmas.List.Elements.{All-contains, All-nil, All-weaker}
use Rattle.std.specs.declared.alloc.AllocError.{AllocError}
use Rattle.text_terms.specs.Bytes.{str_bytes}
use Rattle.text_model.specs.Edits.{apply, text_limit}
use Rattle.tree_model.specs.Trees.{Place, Tree}
use Rattle.query_model.specs.TypedNodes.{Typed, innermost_at}
use Rattle.service_model.specs.Replies as said
use Rattle.service_model.specs.Answers.{ItemsAre}
use Rattle.syntax_tree.specs.View.{trees_of}
use Rattle.work_model.specs.Work.{IsTried}
use Rattle.query_engine.specs.declared.trials.Replacement.{Replacement}
use Rattle.asked_node.specs.Trials.{replaced, AreReplaced, IsReplaced}
use Rattle.frame_parser.specs.declared.whole.Parsed.{Parsed}
use Rattle.json_lines.specs.Means.{said_of}
use Rattle.json_lines.specs.declared.reply.Reply.{Reply}
use Rattle.text_changes.specs.Changes.{changes_in, is_said, FitsText, IsPlaced, IsSaidAlone, IsSaidOf}
use Rattle.session.specs.Queries.{ProposesAt}
use Rattle.session.specs.Working.{TriesBy}
use Rattle.text_changes.specs.declared.changes.Proposal.{Proposal}
use Rattle.session.specs.declared.queries.Query.{Query}
use Rattle.session.specs.declared.queries.Query.TheVariants.{Locate, Occurrences, Complete, Cases, Terms}
use Rattle.text_reading.specs.Structures.{IsParsedAs}

-- a reply before which nothing is tried
pub alone_answers : (P : said.Said → Type 0) (text : List ℕ) (r : Result Reply AllocError) (p : Result Proposal AllocError) → IsSaidAlone r p → IfOk r (λ y. P (said_of y)) → IfOk p (λ q. (s : said.Said) → IsSaidOf text q s → P s)
alone_answers P text (Ok y) p is holds = subst (λ (q : Result Proposal AllocError). IfOk q (λ x. (s : said.Said) → IsSaidOf text x s → P s)) (sym is) (λ s same. subst P (sym same) holds)
alone_answers P text (Err e) p is holds = subst (λ (q : Result Proposal AllocError). IfOk q (λ x. (s : said.Said) → IsSaidOf text x s → P s)) (sym is) tt

pub alone_fits : (text : List ℕ) (r : Result Reply AllocError) (p : Result Proposal AllocError) → IsSaidAlone r p → IfOk p (FitsText text)
alone_fits text (Ok y) p is = subst (λ (q : Result Proposal AllocError). IfOk q (FitsText text)) (sym is) tt
alone_fits text (Err e) p is = subst (λ (q : Result Proposal AllocError). IfOk q (FitsText text)) (sym is) tt

pub alone_is : (r : Result Reply AllocError) (p : Result Proposal AllocError) → IsSaidAlone r p → IfOk p (λ q. is_said q ≡ true)
alone_is (Ok y) p is = subst (λ (q : Result Proposal AllocError). IfOk q (λ x. is_said x ≡ true)) (sym is) refl
alone_is (Err e) p is = subst (λ (q : Result Proposal AllocError). IfOk q (λ x. is_said x ≡ true)) (sym is) tt

-- what answers the items of a parsed text answers the text
pub items_answer : (text : List ℕ) (p : Parsed) (P : List Tree → said.Said → Type 0) (r : Result Proposal AllocError) → IsParsedAs text p
    → IfOk r (λ x. (s : said.Said) → IsSaidOf text x s → P (trees_of p.tree) s) → IfOk r (λ x. (s : said.Said) → IsSaidOf text x s → ItemsAre text P s)
items_answer text p P (Ok x) h is = λ s told. (h.tokens, h.lexed, subst (λ ts. P ts s) h.items (is s told))
items_answer text p P (Err e) h is = tt

-- where nothing is to be tried, nothing is
pub never_tried : (p q : Proposal) → is_said p ≡ true → p ≡ q → is_said q ≡ false → ⊥
never_tried p q said is not = let bad : true ≡ false = sym said ∙ ap is_said is ∙ not in cc

-- ---- what is tried

-- any query may try no text
pub tries_none : (q : Query) (text : List ℕ) (place : ℕ) → TriesBy q text (Some place) []
tries_none Locate text place = refl
tries_none Occurrences text place = refl
tries_none (Complete prefix) text place = refl
tries_none Cases text place = (All-nil (IsTried text (Some place)), omega arith)
tries_none Terms text place = All-nil (IsTried text (Some place))

-- a reply before which nothing is tried proposes no change
pub alone_placed : (r : Result Reply AllocError) (p : Result Proposal AllocError) → IsSaidAlone r p → IfOk p (λ q. changes_in q ≡ [])
alone_placed (Ok y) p is = subst (λ (q : Result Proposal AllocError). IfOk q (λ x. changes_in x ≡ [])) (sym is) refl
alone_placed (Err e) p is = subst (λ (q : Result Proposal AllocError). IfOk q (λ x. changes_in x ≡ [])) (sym is) tt

-- what a change leaves that goes in place of the node
placed_left : (text : List ℕ) (o : ℕ) (p : Parsed) (r : Replacement) (c : List ℕ) → IsParsedAs text p → IsPlaced (innermost_at o (trees_of p.tree)) r → (c ≡ replaced text r) × (length c ≤ text_limit) → IsTried text (Some o) c
placed_left text o p r c h placed (is, short) = by (innermost_at o (trees_of p.tree)) refl placed
  where
    by : (n : Option Typed) → innermost_at o (trees_of p.tree) ≡ n → IsPlaced n r → IsTried text (Some o) c
    by None there at = absurd at
    by (Some n) there at = (h.tokens, n, str_bytes r.text, h.lexed, ap (innermost_at o) (sym h.items) ∙ there, is ∙ ap (λ (x : Place). apply text x.start x.end (str_bytes r.text)) at, short)

placed_all : (text : List ℕ) (o : ℕ) (p : Parsed) (rs : List Replacement) (texts : List (List ℕ)) → IsParsedAs text p → All (IsPlaced (innermost_at o (trees_of p.tree))) rs → All (IsReplaced text rs) texts → All (IsTried text (Some o)) texts
placed_all text o p rs texts h placed left =
    All-weaker (IsReplaced text rs) (IsTried text (Some o)) (λ c made. placed_left text o p made.0 c h (All-contains (IsPlaced (innermost_at o (trees_of p.tree))) rs made.0 placed made.1) (made.2, made.3)) texts left

-- where no change is proposed, no text is tried
no_text : (text : List ℕ) (rs : List Replacement) (texts : List (List ℕ)) → rs ≡ [] → AreReplaced text rs texts → texts ≡ []
no_text text rs texts none are = nil_from_length texts (omega (arith, are.few, ap length none))

-- the texts that a query may try, by what it proposes
tries_by : (q : Query) (text : List ℕ) (o : ℕ) (p : Parsed) (x : Proposal) → IsParsedAs text p → ProposesAt q (innermost_at o (trees_of p.tree)) x → (texts : List (List ℕ)) → AreReplaced text (changes_in x) texts → TriesBy q text (Some o) texts
tries_by Locate text o p x h none texts are = no_text text (changes_in x) texts none are
tries_by Occurrences text o p x h none texts are = no_text text (changes_in x) texts none are
tries_by (Complete prefix) text o p x h none texts are = no_text text (changes_in x) texts none are
tries_by Cases text o p x h (placed, one) texts are = (placed_all text o p (changes_in x) texts h placed are.each, omega (arith, one, are.few))
tries_by Terms text o p x h placed texts are = placed_all text o p (changes_in x) texts h placed are.each

pub may_try : (q : Query) (text : List ℕ) (o : ℕ) (p : Parsed) (r : Result Proposal AllocError) → IsParsedAs text p → IfOk r (ProposesAt q (innermost_at o (trees_of p.tree)))
    → IfOk r (λ x. (texts : List (List ℕ)) → AreReplaced text (changes_in x) texts → TriesBy q text (Some o) texts)
may_try q text o p (Ok x) h proposes = tries_by q text o p x h proposes
may_try q text o p (Err e) h proposes = tt
