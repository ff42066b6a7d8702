-- What the reader of requests answers, in the words of the definition.
use Rattle.std.specs.Prelude.{◌≡◌, ℕ, List, codes, Option, Some, None, Result, option_map, MatchResult}
use Rattle.text_terms.specs.Bytes.{str_bytes}
use Rattle.text_terms.specs.declared.Pos.{Pos}
use Rattle.serde_json.specs.Data.{Data}
use Rattle.service_model.specs.Requests as model
use Rattle.json_lines.specs.declared.key.Key.{Key}
use Rattle.json_lines.specs.declared.key.Key.TheVariants.{At, AtLine, AtCol, Prefix, Start, StartLine, StartCol, End, EndLine, EndCol, Text}
use Rattle.json_lines.specs.declared.key.Place.{Place}
use Rattle.json_lines.specs.declared.key.Place.TheVariants as place
use Rattle.json_lines.specs.declared.request.Request.{Request}
use Rattle.json_lines.specs.declared.request.Request.TheVariants.{Tell, TypeEnclosing, CompletePrefix, Locate, Occurrences, Outline, Errors, CaseAnalysis, Construct}
use Rattle.json_lines.specs.declared.request.Malformed.{Malformed}
use Rattle.json_lines.specs.declared.request.Malformed.TheVariants.{LineTooLong, NotJson, NotARequest, UnknownQuery, MissingKey, BadNumber, NoMemory}

-- the name of a key in a refusal
abbrev pub key_text : Key → List ℕ
key_text At = codes "at"
key_text AtLine = codes "at.line"
key_text AtCol = codes "at.col"
key_text Prefix = codes "prefix"
key_text Start = codes "start"
key_text StartLine = codes "start.line"
key_text StartCol = codes "start.col"
key_text End = codes "end"
key_text EndLine = codes "end.line"
key_text EndCol = codes "end.col"
key_text Text = codes "text"

-- the key at which a position stands
abbrev pub place_name : Place → List ℕ
place_name place.At = codes "at"
place_name place.Start = codes "start"
place_name place.End = codes "end"

-- a position as its line and its column
abbrev pub pair_of : Pos → ℕ × ℕ
pair_of p = (p.line, p.col)

-- the two ends of a range
abbrev pub range_of : Pos × Pos → (ℕ × ℕ) × (ℕ × ℕ)
range_of r = (pair_of r.0, pair_of r.1)

-- what a request of the code asks
abbrev pub asked_of : Request → model.Asked
asked_of (Tell range text) = model.tell (option_map range_of range) (str_bytes text)
asked_of (TypeEnclosing at) = model.type_enclosing (pair_of at)
asked_of (CompletePrefix at prefix) = model.complete_prefix (pair_of at) (str_bytes prefix)
asked_of (Locate at) = model.locate (pair_of at)
asked_of (Occurrences at) = model.occurrences (pair_of at)
asked_of Outline = model.outline
asked_of Errors = model.errors
asked_of (CaseAnalysis at) = model.case_analysis (pair_of at)
asked_of (Construct at) = model.construct (pair_of at)

-- the refusal that is told; want of memory tells nothing of the line
abbrev pub refusal_of : Malformed → Option model.Refusal
refusal_of LineTooLong = Some model.line_too_long
refusal_of NotJson = Some model.not_json
refusal_of NotARequest = Some model.not_a_request
refusal_of UnknownQuery = Some model.unknown_query
refusal_of (MissingKey key) = Some (model.missing_key (key_text key))
refusal_of (BadNumber key) = Some (model.bad_number (key_text key))
refusal_of NoMemory = None

-- a refusal that is told is how the line reads
abbrev pub IsToldOf : Option model.Refusal → model.Reading → Type 0
IsToldOf (Some r) reading = reading ≡ model.refused r
IsToldOf None reading = Unit {0}

-- the line reads as the refusal, or memory is short
abbrev pub IsRefusalOf : Malformed → model.Reading → Type 0
IsRefusalOf e reading = IsToldOf (refusal_of e) reading

-- the refusal of a request's keys
abbrev pub IsRefusalIn : Malformed → Option model.Refusal → Type 0
IsRefusalIn e refusal = refusal_of e ≡ refusal

-- the refusal is that of the first key that is missing
abbrev pub IsMissing : Malformed → Option (List ℕ) → Type 0
IsMissing (MissingKey key) first = first ≡ Some (key_text key)
IsMissing e first = ⊥

-- the refusal is that of the first number that is bad
abbrev pub IsBad : Malformed → Option (List ℕ) → Type 0
IsBad (BadNumber key) first = first ≡ Some (key_text key)
IsBad e first = ⊥

-- What comes of reading the position at a name: the outer outcome tells what is missing, the inner one what is bad.
abbrev pub PositionIs : Result (Result Pos Malformed) Malformed → List ℕ → Data → Type 0
PositionIs r name d =
    MatchResult r
    (λ inner. (model.first_missing (model.position_keys name) d ≡ None)
    × MatchResult inner
    (λ p. (model.first_bad (model.position_keys name) d ≡ None) × (pair_of p ≡ model.position_at name d))
    (λ e. IsBad e (model.first_bad (model.position_keys name) d)))
    (λ e. IsMissing e (model.first_missing (model.position_keys name) d))

-- The line reads as the request, or as the refusal, or memory is short.
abbrev pub Reads : Result Request Malformed → model.Reading → Type 0
Reads r reading = MatchResult r (λ q. reading ≡ model.asks (asked_of q)) (λ e. IsRefusalOf e reading)
