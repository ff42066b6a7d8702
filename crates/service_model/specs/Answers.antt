-- The answer to a line at a text, and the text behind it.
use Rattle.std.specs.Prelude.{◌≡◌, ◌⊎◌, All, ℕ, List, [], ◌∷◌, length, reverse, filter, filter_map, find, map, ◌&&◌, nat_eq, nat_lt, Bool, true, false, Option, Some, None, option_map, codes, if◌then◌else◌}
use Rattle.text_model.specs.Positions.{offset, position_of}
use Rattle.text_model.specs.Edits as edit
use Rattle.token_model.specs.Kinds.{Tok}
use Rattle.token_model.specs.Tokens.{Lex}
use Rattle.tree_model.specs.Trees.{Tree, Place}
use Rattle.tree_model.specs.Nodes.{Id, nodes_at}
use Rattle.plain_model.specs.Plain.{Seen, plain_text, type_text}
use Rattle.query_model.specs.NameTokens.{Name, name_round, text_names}
use Rattle.query_model.specs.Prefixes.{is_name_prefix}
use Rattle.query_model.specs.TypedNodes.{Typed, innermost_at, typed_at}
use Rattle.fault_model.specs.Refused.{IsOfValues}
use Rattle.typed_model.specs.Shown.{AreShown}
use Rattle.service_model.specs.Requests.{Asked, tell, type_enclosing, complete_prefix, locate, occurrences, outline, errors, case_analysis, construct, Reading, asks, refused, reading}
use Rattle.service_model.specs.Replies as said
use Rattle.service_model.specs.Completions.{CompletedBy}
use Rattle.service_model.specs.Structure.{OutlineIs, ErrorsAre, items_in}
use Rattle.service_model.specs.Trials.{AddsNoFault, TrialTells}

-- ---- edits

-- the key of an edit's end, or of its start
abbrev pub end_key : Bool → List ℕ
end_key false = codes "start"
end_key true = codes "end"

-- what is said of an edit that is refused
abbrev pub edit_refusal : edit.Refusal → said.Said
edit_refusal (edit.bad_position end) = said.bad_position (end_key end)
edit_refusal edit.bad_range = said.bad_range
edit_refusal (edit.splits_char end) = said.splits_char (end_key end)
edit_refusal (edit.text_too_long n) = said.text_too_long n

-- what comes of a new text in place of the whole
abbrev pub whole_outcome : List ℕ → edit.Outcome
whole_outcome new = if nat_lt edit.text_limit (length new) then edit.refused (edit.text_too_long (length new)) else edit.changed 0 new

-- what comes of a `tell`, of a range or of the whole text
abbrev pub tell_outcome : List ℕ → Option ((ℕ × ℕ) × (ℕ × ℕ)) → List ℕ → edit.Outcome
tell_outcome text (Some range) bytes = edit.outcome_of text (record { start = range.0; end = range.1; bytes = bytes })
tell_outcome text None bytes = whole_outcome bytes

-- what is said to it, and the text behind it
abbrev pub ToldIs : List ℕ → edit.Outcome → said.Said → List ℕ → Type 0
ToldIs text (edit.changed first new) s after = (s ≡ said.size (length new)) × (after ≡ new)
ToldIs text (edit.refused r) s after = (s ≡ edit_refusal r) × (after ≡ text)

-- ---- types round an offset

-- whether a typed node of a plain text is the one with this identity
abbrev pub is_id : Id → Seen → Bool
is_id i s = nat_eq s.id.item i.item && nat_eq s.id.pre i.pre

-- a typed node of a plain text, with lines and columns and the name of its type
abbrev pub plain_typed : List ℕ → Seen → said.Typed
plain_typed text s = record { start = position_of text s.span.start; end = position_of text s.span.end; type_text = type_text s.ty }

-- the typed ones of these nodes, in their order
abbrev pub typed_among : List ℕ → List Seen → List Id → List said.Typed
typed_among text seen ids = filter_map (λ i. option_map (plain_typed text) (find (is_id i) seen)) ids

-- where a place starts and ends, by lines and columns of a text
abbrev pub shown_place : List ℕ → Place → (ℕ × ℕ) × (ℕ × ℕ)
shown_place text p = (position_of text p.start, position_of text p.end)

-- the reply with these types; without any, that there is no node
abbrev pub types_or_none : List said.Typed → said.Said
types_or_none [] = said.no_node
types_or_none (t ∷ ts) = said.types (t ∷ ts)

-- where a typed node of a reply starts and ends
abbrev pub start_and_end : said.Typed → (ℕ × ℕ) × (ℕ × ℕ)
start_and_end t = (t.start, t.end)

-- the places of the typed nodes of these items that hold an offset, from the last in preorder to the first
abbrev pub typed_round : ℕ → List Tree → List Place
typed_round o items = map (λ n. n.span) (reverse (typed_at o items))

-- What is known of the types that are shown of the typed nodes round an offset: those of a text of `let` and `;;` are those of a principal typing, each printed with the names in scope at its node.
abbrev pub ShownTypes : List ℕ → ℕ → List (List ℕ) → Type 0
ShownTypes text o types = (t : IsOfValues text) → ∥ AreShown (items_in t.tokens) (reverse (typed_at o (items_in t.tokens))) types ∥₁

-- what is said of the typed nodes of these items that hold an offset: each place, and a type, which stays open, but for what `ShownTypes` says
abbrev pub TypesAre : List ℕ → ℕ → List Tree → said.Said → Type 0
TypesAre text o items s = (types : List said.Typed) × (map start_and_end types ≡ map (shown_place text) (typed_round o items)) × ShownTypes text o (map (λ t. t.type_text) types) × (s ≡ types_or_none types)

-- The types round an offset of a text of these tokens: of the typed nodes that hold it, from the last in preorder to the first. Those of a plain text are known.
abbrev pub EnclosingBy : List ℕ → ℕ → List Tok → Option (List Tree × List Seen) → said.Said → Type 0
EnclosingBy text o tokens (Some p) s = s ≡ types_or_none (typed_among text p.1 (reverse (nodes_at o p.0)))
EnclosingBy text o tokens None s = TypesAre text o (items_in tokens) s

-- ---- queries

-- a query of a position: the position exists, and this is said of its offset, or it doesn't
abbrev pub PlacedIs : Option ℕ → (ℕ → said.Said → Type 0) → said.Said → Type 0
PlacedIs None P s = s ≡ said.bad_position (codes "at")
PlacedIs (Some o) P s = P o s

-- what is said to a query of a position; the text stays as it is
abbrev pub QueryIs : List ℕ → ℕ × ℕ → (ℕ → said.Said → Type 0) → said.Said → List ℕ → Type 0
QueryIs text at P s after = PlacedIs (offset text at.0 at.1) P s × (after ≡ text)

-- what is said of the types round an offset
abbrev pub EnclosingIs : List ℕ → ℕ → said.Said → Type 0
EnclosingIs text o s = (tokens : List Tok) × Lex text tokens × EnclosingBy text o tokens (plain_text tokens) s

-- ---- names

-- what is said of the name round an offset, if there is one: that it isn't bound, or P
abbrev pub NameIs : (Name → said.Said → Type 0) → Option Name → said.Said → Type 0
NameIs P None s = s ≡ said.not_a_name
NameIs P (Some n) s = (s ≡ said.unbound n.name) ⊎ P n s

-- where it is defined: in the text, or before it; which of these, and at which place, stays open
abbrev pub PlaceIs : List ℕ → Name → said.Said → Type 0
PlaceIs text n s = ((o : ℕ) × (s ≡ said.place (codes "buffer") (position_of text o))) ⊎ ((pos : ℕ × ℕ) × (s ≡ said.place (codes "prelude") pos))

-- where names of the text stand, in order, and it among them; which others stays open
abbrev pub UsesAre : List ℕ → List Name → Name → said.Said → Type 0
UsesAre text names n s = (same : Name → Bool) × (same n ≡ true) × (s ≡ said.spans (map (shown_place text) (map (λ m. m.span) (filter same names))))

-- what is said of where the name round an offset is defined, by the items of the text
abbrev pub LocatedBy : List ℕ → ℕ → List Tree → said.Said → Type 0
LocatedBy text o items s = NameIs (PlaceIs text) (name_round o (text_names items)) s

-- what is said of the occurrences of the name round an offset, by the items of the text
abbrev pub UsedBy : List ℕ → ℕ → List Tree → said.Said → Type 0
UsedBy text o items s = NameIs (UsesAre text (text_names items)) (name_round o (text_names items)) s

-- what is said of the items of a text
abbrev pub ItemsAre : List ℕ → (List Tree → said.Said → Type 0) → said.Said → Type 0
ItemsAre text P s = (tokens : List Tok) × Lex text tokens × P (items_in tokens) s

-- what is said to `locate` at an offset
abbrev pub LocateIs : List ℕ → ℕ → said.Said → Type 0
LocateIs text o s = ItemsAre text (LocatedBy text o) s

-- what is said to `occurrences` at an offset
abbrev pub OccurrencesAre : List ℕ → ℕ → said.Said → Type 0
OccurrencesAre text o s = ItemsAre text (UsedBy text o) s

-- ---- completions

-- what is said of a prefix
abbrev pub CompletionsAre : List ℕ → List ℕ → ℕ → said.Said → Type 0
CompletionsAre text prefix o s = ItemsAre text (λ items x. CompletedBy (is_name_prefix prefix) prefix x) s

-- ---- cases and terms

-- What is said of the cases of a typed node: what goes in its place, leaves a text and adds no fault, or why there is none, as the first place of a new fault of some change there. What stands in it, and which failure comes, stays open.
abbrev pub CasesAt : List ℕ → Typed → said.Said → Type 0
CasesAt text n (said.split start end bytes) = ((start, end) ≡ shown_place text n.span) × AddsNoFault text n.span bytes
CasesAt text n said.nothing_to_split = Unit {0}
CasesAt text n (said.hidden_constructor name) = Unit {0}
CasesAt text n (said.would_fault at) = (o : ℕ) × (bytes : List ℕ) × (at ≡ position_of text o) × TrialTells text n.span bytes (Some o)
CasesAt text n _ = ⊥

-- the same of the typed node at an offset, if there is one
abbrev pub CasesBy : List ℕ → Option Typed → said.Said → Type 0
CasesBy text None s = s ≡ said.no_node
CasesBy text (Some n) s = CasesAt text n s

-- What is said of the terms in place of a typed node: texts each of which may go there, leaves a text and adds no fault, or that it is no hole. Which texts, and which nodes are holes, stays open.
abbrev pub TermsAt : List ℕ → Typed → said.Said → Type 0
TermsAt text n (said.terms start end texts) = ((start, end) ≡ shown_place text n.span) × All (AddsNoFault text n.span) texts
TermsAt text n said.not_a_hole = Unit {0}
TermsAt text n _ = ⊥

-- the same of the typed node at an offset, if there is one
abbrev pub TermsBy : List ℕ → Option Typed → said.Said → Type 0
TermsBy text None s = s ≡ said.no_node
TermsBy text (Some n) s = TermsAt text n s

-- what is said to `case-analysis` at an offset: of the innermost typed node there
abbrev pub CasesAre : List ℕ → ℕ → said.Said → Type 0
CasesAre text o s = ItemsAre text (λ items x. CasesBy text (innermost_at o items) x) s

-- what is said to `construct` at an offset: of the innermost typed node there
abbrev pub TermsAre : List ℕ → ℕ → said.Said → Type 0
TermsAre text o s = ItemsAre text (λ items x. TermsBy text (innermost_at o items) x) s

-- What is said to a request at a text, and the text behind it: only a `tell` that is accepted changes it.
abbrev pub Replies : List ℕ → Asked → said.Said → List ℕ → Type 0
Replies text (tell range bytes) s after = ToldIs text (tell_outcome text range bytes) s after
Replies text (type_enclosing at) s after = QueryIs text at (EnclosingIs text) s after
Replies text (complete_prefix at prefix) s after = QueryIs text at (CompletionsAre text prefix) s after
Replies text (locate at) s after = QueryIs text at (LocateIs text) s after
Replies text (occurrences at) s after = QueryIs text at (OccurrencesAre text) s after
Replies text outline s after = OutlineIs text s × (after ≡ text)
Replies text errors s after = ErrorsAre text s × (after ≡ text)
Replies text (case_analysis at) s after = QueryIs text at (CasesAre text) s after
Replies text (construct at) s after = QueryIs text at (TermsAre text) s after

-- the piece that answers a line, and the text behind it
abbrev pub Answered : List ℕ → Reading → List ℕ → List ℕ → Type 0
Answered text (asks a) piece after = (s : said.Said) × Replies text a s after × (piece ≡ said.line_of s)
Answered text (refused r) piece after = (piece ≡ said.line_of (said.refused r)) × (after ≡ text)

-- A line is answered with the piece and leaves the text `after`, or memory is short and the text stays.
unfoldable pub Answers : List ℕ → List ℕ → List ℕ → List ℕ → Type 0
Answers text line piece after = Answered text (reading line) piece after ⊎ ((piece ≡ said.memory_line) × (after ≡ text))
