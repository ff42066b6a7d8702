-- What is said of changes of a text, and what a trial of one tells.
use Rattle.std.specs.Prelude.{◌≡◌, ◌⊎◌, ℕ, List, [], ◌∷◌, All, Bool, true, false, Option, Some, Result, Ok, Err}
use Rattle.std.specs.declared.alloc.AllocError.{AllocError}
use Rattle.text_terms.specs.Bytes.{str_bytes}
use Rattle.text_terms.specs.declared.Span.{Span}
use Rattle.text_model.specs.Positions.{position_of}
use Rattle.query_model.specs.TypedNodes.{Typed}
use Rattle.syntax_tree.specs.View.{place_of}
use Rattle.query_engine.specs.Typed.{IsPlacedAt}
use Rattle.query_engine.specs.declared.trials.Replacement.{Replacement}
use Rattle.case_analysis.specs.declared.SplitFault.{SplitFault}
use Rattle.case_analysis.specs.declared.SplitFault.TheVariants as split
use Rattle.construct_terms.specs.declared.ConstructFault.{ConstructFault}
use Rattle.construct_terms.specs.declared.ConstructFault.TheVariants as construct
use Rattle.construct_terms.specs.Terms.{IsAt}
use Rattle.json_lines.specs.Means.{said_of}
use Rattle.json_lines.specs.declared.reply.Reply.{Reply}
use Rattle.service_model.specs.Replies as said
use Rattle.service_model.specs.Trials.{AddsNoFault, TrialTells}
use Rattle.text_changes.specs.declared.changes.Candidates.{Candidates}
use Rattle.text_changes.specs.declared.changes.Candidates.TheVariants.{Cases, Terms}
use Rattle.text_changes.specs.declared.changes.Proposal.{Proposal}
use Rattle.text_changes.specs.declared.changes.Proposal.TheVariants.{Said, Tried}

-- what a trial tells of a text, a span, the bytes that go there, and a place or none
abbrev pub Tells : List ℕ → Span → List ℕ → Option ℕ → Type 0
Tells text x bytes first = TrialTells text (place_of x) bytes first

-- why there are no cases, as it is said
abbrev pub IsCasesFailure : List ℕ → SplitFault → said.Said → Type 0
IsCasesFailure text split.NoNode s = s ≡ said.no_node
IsCasesFailure text split.NothingToSplit s = s ≡ said.nothing_to_split
IsCasesFailure text (split.HiddenConstructor name) s = s ≡ said.hidden_constructor (str_bytes name)
IsCasesFailure text (split.WouldFault at) s = s ≡ said.would_fault (position_of text at)
IsCasesFailure text split.NoMemory s = ⊥

-- why there are no terms, as it is said
abbrev pub IsTermsFailure : ConstructFault → said.Said → Type 0
IsTermsFailure construct.NoNode s = s ≡ said.no_node
IsTermsFailure construct.NotAHole s = s ≡ said.not_a_hole
IsTermsFailure construct.NoMemory s = ⊥

-- a candidate as it is said
abbrev pub said_change : List ℕ → Replacement → said.Said
said_change text c = said.split (position_of text c.span.start) (position_of text c.span.end) (str_bytes c.text)

-- what is said of a candidate: itself, and it adds no fault, or the first place of a new one
abbrev pub IsSaidOfCandidate : List ℕ → Replacement → said.Said → Type 0
IsSaidOfCandidate text c s = ((s ≡ said_change text c) × AddsNoFault text (place_of c.span) (str_bytes c.text)) ⊎ ((at : ℕ) × (s ≡ said.would_fault (position_of text at)) × Tells text c.span (str_bytes c.text) (Some at))

-- the bytes of a candidate
abbrev pub text_in : Replacement → List ℕ
text_in r = str_bytes r.text

-- what is said of terms in place of a span: texts each of which adds no fault
abbrev pub AreSaidTerms : List ℕ → Span → said.Said → Type 0
AreSaidTerms text x s = (texts : List (List ℕ)) × (s ≡ said.terms (position_of text x.start) (position_of text x.end) texts) × All (AddsNoFault text (place_of x)) texts

-- what is said of changes that are tried
abbrev pub AreSaidOf : List ℕ → Candidates → said.Said → Type 0
AreSaidOf text (Cases c) s = IsSaidOfCandidate text c s
AreSaidOf text (Terms x cs) s = AreSaidTerms text x s

-- what is said of a proposal: what it says, where nothing is to be tried
abbrev pub IsSaidOf : List ℕ → Proposal → said.Said → Type 0
IsSaidOf text (Said r) s = s ≡ said_of r
IsSaidOf text (Tried m cs) s = AreSaidOf text cs s

-- changes in place of a hole go in its place
abbrev pub ArePlaced : Candidates → Type 0
ArePlaced (Cases c) = Unit {0}
ArePlaced (Terms x cs) = All (IsAt x) cs.items

-- what is to be tried are changes of this text
abbrev pub FitsText : List ℕ → Proposal → Type 0
FitsText text (Said r) = Unit {0}
FitsText text (Tried m cs) = (m.text.items ≡ text) × ArePlaced cs

-- whether nothing is to be tried
abbrev pub is_said : Proposal → Bool
is_said (Said r) = true
is_said (Tried m cs) = false

-- nothing is to be tried before this is said
abbrev pub IsSaidAlone : Result Reply AllocError → Result Proposal AllocError → Type 0
IsSaidAlone (Ok r) p = p ≡ Ok (Said r)
IsSaidAlone (Err e) p = p ≡ Err e

-- all changes that are to be tried
abbrev pub candidates_in : Candidates → List Replacement
candidates_in (Cases c) = c ∷ []
candidates_in (Terms x cs) = cs.items

-- those of a proposal
abbrev pub changes_in : Proposal → List Replacement
changes_in (Said r) = []
changes_in (Tried m cs) = candidates_in cs

-- a change goes in place of a typed node
abbrev pub IsPlaced : Option Typed → Replacement → Type 0
IsPlaced n r = IsPlacedAt r.span n
