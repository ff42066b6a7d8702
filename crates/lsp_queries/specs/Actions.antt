-- The changes that are proposed round a range.
use Rattle.std.specs.Prelude.{◌≡◌, ℕ, ◌==◌, ◌&&◌, ◌||◌, List, [], ◌∷◌, ◌++◌, map, Bool, true, false, codes, nat_le, Option, Some, None, if◌then◌else◌}
use Rattle.std.specs.List.{list_all}
use Rattle.std.specs.Str.{bytes_eq}
use Rattle.service_model.specs.Answers.{CasesAre, TermsAre}
use Rattle.service_model.specs.Replies as said
use Rattle.service_model.specs.Structure.{ErrorsAre}
use Rattle.lsp_model.specs.Answers as put
use Rattle.lsp_model.specs.Messages.{Kinds, Range}
use Rattle.lsp_model.specs.Positions.{Columns}
use Rattle.lsp_model.specs.Spans.{asked_place}
use Rattle.lsp_queries.specs.Prefixes.{bytes_between}
use Rattle.lsp_queries.specs.Values.{value_of}
use Rattle.lsp_queries.specs.Shown.{place_told, range_told, span_asked, span_drawn}

-- ---- replies as changes

-- the terms of a reply, each in place of what is between its positions; None where it has none to tell
abbrev pub terms_told : Columns → List ℕ → Option said.Said → Option (List put.Action)
terms_told by text (Some (said.terms start end texts)) = Some (map (λ t. put.term t (range_told by text start end)) texts)
terms_told by text _ = None

-- the same, none where it has none to tell
abbrev pub terms_in : Option (List put.Action) → List put.Action
terms_in None = []
terms_in (Some ts) = ts

-- the cases of a reply
abbrev pub cases_told : Columns → List ℕ → Option said.Said → List put.Action
cases_told by text (Some (said.split start end bytes)) = put.cases bytes (range_told by text start end) ∷ []
cases_told by text _ = []

-- ---- missing parts near a range

-- a blank, a tab, a carriage return or a line feed
abbrev pub is_space : ℕ → Bool
is_space b = b == 32 || b == 9 || b == 13 || b == 10

-- only such bytes are between two places
abbrev pub is_space_between : List ℕ → ℕ → ℕ → Bool
is_space_between text from to = list_all is_space (bytes_between text from to)

-- a shown span meets or touches the asked one, or the asked one comes after it with only space between
abbrev pub is_near : List ℕ → ℕ × ℕ → ℕ × ℕ → Bool
is_near text shown asked =
    nat_le shown.0 asked.1 && nat_le asked.0 shown.1
    || nat_le shown.1 asked.0 && is_space_between text shown.1 asked.0

-- a fault is a missing part near a span
abbrev pub is_missing_near : List ℕ → ℕ × ℕ → said.Fault → Bool
is_missing_near text asked f = bytes_eq f.kind (codes "added") && is_near text (span_drawn text f.start f.end) asked

-- the terms at a place: the reply to `construct`; none where it isn't asked
abbrev pub TermsAt : Bool → Columns → List ℕ → ℕ → List put.Action → Type 0
TermsAt false by text o ts = ts ≡ []
TermsAt true by text o ts = (s : said.Said) × TermsAre text o s × (ts ≡ terms_in (terms_told by text (value_of s)))

-- these terms, where there are any, or else others
abbrev pub OrOthers : List put.Action → List put.Action → Type 0 → Type 0
OrOthers [] acts Others = Others
OrOthers (t ∷ ts) acts Others = acts ≡ t ∷ ts

-- the terms for the first of these faults that is a missing part near a span and has any
abbrev pub TermsNear : Columns → List ℕ → ℕ × ℕ → List said.Fault → List put.Action → Type 0
TermsNear by text asked [] acts = acts ≡ []
TermsNear by text asked (f ∷ fs) acts =
    (ts : List put.Action) × TermsAt (is_missing_near text asked f) by text (place_told text f.start) ts × OrOthers ts acts (TermsNear by text asked fs acts)

-- the same for the faults that `errors` may reply
abbrev pub TermsByFaults : Columns → List ℕ → ℕ × ℕ → List put.Action → Type 0
TermsByFaults by text asked acts = (fs : List said.Fault) × (more : Bool) × ErrorsAre text (said.faults fs more) × TermsNear by text asked fs acts

-- ---- what is proposed

-- the cases at a place, where they are asked for and no hole is there: the reply to `case-analysis`
abbrev pub CasesPart : Bool → Option (List put.Action) → Columns → List ℕ → ℕ → List put.Action → Type 0
CasesPart true None by text o acts = (s : said.Said) × CasesAre text o s × (acts ≡ cases_told by text (value_of s))
CasesPart true (Some ts) by text o acts = acts ≡ []
CasesPart false here by text o acts = acts ≡ []

-- the terms at a place, or those for a missing part near, where they are asked for
abbrev pub TermsPart : Bool → List put.Action → Columns → List ℕ → ℕ × ℕ → List put.Action → Type 0
TermsPart true here by text asked acts = OrOthers here acts (TermsByFaults by text asked acts)
TermsPart false here by text asked acts = acts ≡ []

-- the changes of the kinds that are asked for round a span
abbrev pub ProposedBy : Kinds → Columns → List ℕ → ℕ × ℕ → List put.Action → Type 0
ProposedBy kinds by text asked acts =
    (here : said.Said) × TermsAre text (asked_place text asked.0) here
    × (cases : List put.Action) × CasesPart kinds.rewrite (terms_told by text (value_of here)) by text (asked_place text asked.0) cases
    × (terms : List put.Action) × TermsPart kinds.quickfix (terms_in (terms_told by text (value_of here))) by text asked terms
    × (acts ≡ cases ++ terms)

-- the same round an editor's range
abbrev pub ProposedAre : Kinds → Columns → List ℕ → Range → List put.Action → Type 0
ProposedAre kinds by text range acts = ProposedBy kinds by text (span_asked by text range) acts
