-- What a request on a text is answered: the replies of the line protocol, translated.
use Rattle.std.specs.Prelude.{◌≡◌, ℕ, List, [], map, filter, Bool, true, false, not, codes, nat_eq, ◌&&◌, ◌||◌, Option, Some, None, option_map, unwrap_or, if◌then◌else◌}
use Rattle.std.specs.List.{slice_get}
use Rattle.std.specs.Str.{bytes_eq}
use Rattle.service_model.specs.Answers.{EnclosingIs, LocateIs, OccurrencesAre, CompletionsAre}
use Rattle.service_model.specs.Replies as said
use Rattle.lsp_model.specs.Answers as put
use Rattle.lsp_model.specs.Messages.{Choices, Declaration, with_it, without_it, Range}
use Rattle.lsp_model.specs.Positions.{Columns}
use Rattle.lsp_model.specs.Spans.{asked_place, is_name_byte}
use Rattle.lsp_queries.specs.Prefixes.{Scope, all_names, only_labels, no_names, as_text, bytes_between, name_start, prefix_start, scope_at}
use Rattle.lsp_queries.specs.Values.{value_of}
use Rattle.lsp_queries.specs.Shown.{place_shown, place_told, range_shown, range_told}

-- ---- hover

-- the first of the types of a reply
abbrev pub first_type : Option said.Said → Option said.Typed
first_type (Some (said.types ts)) = slice_get ts 0
first_type _ = None

-- a type of a reply, and nothing where there is none
abbrev pub hover_told : Choices → List ℕ → Option said.Typed → put.Answered
hover_told c text None = put.nothing_there
hover_told c text (Some t) = put.hovered c.hover t.type_text (range_told c.columns text t.start t.end)

-- what a hover at an offset is answered: the reply to `type-enclosing` at the asked place
abbrev pub HoverIs : Choices → List ℕ → ℕ → put.Answered → Type 0
HoverIs c text o a = (s : said.Said) × EnclosingIs text (asked_place text o) s × (a ≡ hover_told c text (first_type (value_of s)))

-- ---- names

-- the place of a reply that is in the text
abbrev pub place_in_text : Option said.Said → Option (ℕ × ℕ)
place_in_text (Some (said.place file pos)) = if bytes_eq file (codes "buffer") then Some pos else None
place_in_text _ = None

-- such a place in a document, and nothing where there is none
abbrev pub located_told : Columns → List ℕ → List ℕ → Option (ℕ × ℕ) → put.Answered
located_told by text uri None = put.nothing_there
located_told by text uri (Some pos) = put.located uri (place_shown by text (place_told text pos))

-- where the name at an offset is defined: the reply to `locate`
abbrev pub DefinitionIs : Columns → List ℕ → List ℕ → ℕ → put.Answered → Type 0
DefinitionIs by text uri o a = (s : said.Said) × LocateIs text o s × (a ≡ located_told by text uri (place_in_text (value_of s)))

-- the spans of a reply, and none at a failure
abbrev pub spans_in : Option said.Said → List ((ℕ × ℕ) × (ℕ × ℕ))
spans_in (Some (said.spans ss)) = ss
spans_in _ = []

-- a span of a reply as an editor counts it
abbrev pub span_range : Columns → List ℕ → (ℕ × ℕ) × (ℕ × ℕ) → Range
span_range by text s = range_told by text s.0 s.1

-- whether a span starts at a place that is left out
abbrev pub starts_at : Option (ℕ × ℕ) → (ℕ × ℕ) × (ℕ × ℕ) → Bool
starts_at None s = false
starts_at (Some pos) s = nat_eq pos.0 s.0.0 && nat_eq pos.1 s.0.1

-- spans without the one at a place, as an editor counts them
abbrev pub ranges_of : Columns → List ℕ → Option (ℕ × ℕ) → List ((ℕ × ℕ) × (ℕ × ℕ)) → List Range
ranges_of by text out ss = map (span_range by text) (filter (λ x. not (starts_at out x)) ss)

-- those of a reply
abbrev pub ranges_told : Columns → List ℕ → Option (ℕ × ℕ) → said.Said → List Range
ranges_told by text out s = ranges_of by text out (spans_in (value_of s))

-- the place that is left out of references: none, or the one that defines the name at an offset
abbrev pub LeftOut : Declaration → List ℕ → ℕ → Option (ℕ × ℕ) → Type 0
LeftOut with_it text o out = out ≡ None
LeftOut without_it text o out = (s : said.Said) × LocateIs text o s × (out ≡ place_in_text (value_of s))

-- where the name at an offset is used: the reply to `occurrences`, with or without the place that defines it
abbrev pub ReferencesAre : Columns → List ℕ → List ℕ → Declaration → ℕ → put.Answered → Type 0
ReferencesAre by text uri declaration o a =
    (s : said.Said) × OccurrencesAre text o s × (out : Option (ℕ × ℕ)) × LeftOut declaration text o out × (a ≡ put.used uri (ranges_told by text out s))

-- the same places in this document alone
abbrev pub HighlightsAre : Columns → List ℕ → ℕ → put.Answered → Type 0
HighlightsAre by text o a = (s : said.Said) × OccurrencesAre text o s × (a ≡ put.highlighted (ranges_told by text None s))

-- ---- completion

-- what a name stands for, by the kind that is told
abbrev pub item_told : List ℕ → put.ItemKind
item_told kind =
    if bytes_eq kind (codes "Constructor") then put.a_constructor
    else if bytes_eq kind (codes "Label") then put.a_label
    else if bytes_eq kind (codes "Module") then put.a_module
    else if bytes_eq kind (codes "ModuleType") then put.a_module_type
    else if bytes_eq kind (codes "Type") then put.a_type
    else put.a_value

-- a name begins like one: operators don't
abbrev pub begins_name : List ℕ → Bool
begins_name name = unwrap_or (option_map is_name_byte (slice_get name 0)) false

-- whether an entry is offered: its name begins like one, and where labels alone are asked for it is one
abbrev pub is_offered : Bool → said.Entry → Bool
is_offered labels e = begins_name e.name && (not labels || bytes_eq e.kind (codes "Label"))

-- an entry as a completion
abbrev pub completion_told : said.Entry → put.Completion
completion_told e = record { detail = e.desc; kind = item_told e.kind; name = e.name }

-- the entries that are offered in place of a word, and nothing at a failure
abbrev pub completed_told : Columns → List ℕ → Bool → ℕ × ℕ → Option said.Said → put.Answered
completed_told by text labels word (Some (said.entries es more)) = put.completed (map completion_told (filter (is_offered labels) es)) more (range_shown by text word)
completed_told by text labels word _ = put.nothing_there

-- the reply to `complete-prefix` with the prefix before an offset, in place of the word there
abbrev pub CompletedAs : Bool → Columns → List ℕ → ℕ → put.Answered → Type 0
CompletedAs labels by text o a =
    (s : said.Said) × CompletionsAre text (as_text (bytes_between text (prefix_start text (name_start text o)) o)) o s
    × (a ≡ completed_told by text labels (name_start text o, o) (value_of s))

-- such a reply, by what is completed
abbrev pub CompletionBy : Scope → Columns → List ℕ → ℕ → put.Answered → Type 0
CompletionBy all_names by text o a = CompletedAs false by text o a
CompletionBy only_labels by text o a = CompletedAs true by text o a
CompletionBy no_names by text o a = a ≡ put.nothing_there

-- what the word before an offset may become
abbrev pub CompletionIs : Columns → List ℕ → ℕ → put.Answered → Type 0
CompletionIs by text o a = CompletionBy (scope_at text (prefix_start text (name_start text o))) by text o a
