-- How many tokens a run may lex, how many its parser may take and how many items it may type, by its lines, their replies and the texts that its queries try: the prelude's tokens once; for each query what is after the first change since the last one; and for each text that it tries all of that.
use Rattle.std.specs.Prelude.{◌≡◌, ◌⊎◌, All, ℕ, ◌+◌, ◌-◌, ◌*◌, ◌≤◌, min, nat_lt, List, [], ◌∷◌, ◌++◌, length, take, Bool, true, false, is_some, Option, Some, None, nat_eq, if◌then◌else◌}
use Rattle.text_model.specs.Edits as edit
use Rattle.text_model.specs.Edits.{apply, text_limit}
use Rattle.text_model.specs.Positions.{offset}
use Rattle.token_model.specs.Kinds.{Tok}
use Rattle.token_model.specs.Tokens.{Lex}
use Rattle.tree_model.specs.Trees.{Tree}
use Rattle.grammar_model.specs.Tables.{Table}
use Rattle.grammar_model.specs.Trees.{yield_of}
use Rattle.grammar_model.specs.Machine.{Stack, node_of}
use Rattle.grammar_model.specs.Ocaml.{grammar, program_text}
use Rattle.recovery_model.specs.Items.{Mark, sound, held, marked, Item, Parser, item_row, has_item}
use Rattle.recovery_model.specs.Recovery.{start, step}
use Rattle.query_model.specs.TypedNodes.{Typed, innermost_at}
use Rattle.service_model.specs.Requests.{Asked, tell, type_enclosing, complete_prefix, locate, occurrences, outline, errors, case_analysis, construct, Reading, asks, refused, reading}
use Rattle.service_model.specs.Replies.{memory_line}
use Rattle.service_model.specs.Answers.{Answered, tell_outcome}
use Rattle.service_model.specs.Runs.{is_blank_line}
use Rattle.service_model.specs.Structure.{items_in}

-- The text, and the first byte that may have changed since the last query that was answered, or none, where nothing has changed; and the texts at the queries, those for which memory was short among them, each with the texts that it tried after it, the latest text first.
pub record Owed : Type 0 where
  pub text : List ℕ
  pub since : Option ℕ
  pub asked : List (List ℕ)

-- before the first line: the empty text, of which nothing was read
abbrev pub at_first : Owed
at_first = record { text = []; since = Some 0; asked = [] }

-- ---- numbers

-- how many tokens are lexed, and how many the parser takes, one that it takes again each time
pub record Amount : Type 0 where
  pub lexed : ℕ
  pub shifted : ℕ

-- none
abbrev pub IsNothing : Amount → Type 0
IsNothing n = (n.lexed ≡ 0) × (n.shifted ≡ 0)

-- as many as two others together
abbrev pub IsSum : Amount → Amount → Amount → Type 0
IsSum n a b = (n.lexed ≡ a.lexed + b.lexed) × (n.shifted ≡ a.shifted + b.shifted)

-- so many more of both
abbrev pub more : Amount → ℕ → Amount
more n k = record { lexed = n.lexed + k; shifted = n.shifted + k }

-- ---- the parser

-- the parser after tokens that follow
abbrev pub run_on : Table → List Tok → Parser → Parser
run_on G [] p = p
run_on G (t ∷ ts) p = run_on G ts (step G p t).parser

-- How many tokens of an item the parser keeps, as it may take them again: those from its first cut token on, unless it has a fault.
abbrev pub kept_of : Mark → ℕ
kept_of sound = 0
kept_of (held s ts) = length ts
kept_of marked = 0

-- the same of the open item, if there is one
abbrev pub kept_in : Option Item → ℕ
kept_in None = 0
kept_in (Some i) = kept_of i.mark

-- how many it keeps after the first tokens of a text
unfoldable pub kept_behind : List Tok → ℕ
kept_behind ts = kept_in (run_on (grammar program_text) ts (start (grammar program_text))).item

-- ---- tokens

-- how many of these tokens end at a place or behind
abbrev pub ends_at : ℕ → List Tok → ℕ
ends_at place [] = 0
ends_at place (t ∷ ts) = (if nat_lt t.end place then 0 else 1) + ends_at place ts

-- how many are lexed at most where bytes from a place on are changed: 32 more than those that end there or behind
abbrev pub lexed_behind : ℕ → List Tok → ℕ
lexed_behind place tokens = 32 + ends_at place tokens

-- how many the parser takes at most: each of these twice, and those before them that it keeps
abbrev pub shifted_behind : ℕ → List Tok → ℕ
shifted_behind place tokens = kept_behind (take (length tokens - lexed_behind place tokens) tokens) + 2 * lexed_behind place tokens

-- the lesser of a place and another, if there is one: the first changed byte where bytes from one place on are changed and had been from another
abbrev pub sooner : ℕ → Option ℕ → ℕ
sooner first None = first
sooner first (Some before) = min first before

-- where the first of some tokens starts
abbrev pub start_of : List Tok → Option ℕ
start_of [] = None
start_of (t ∷ ts) = Some t.start

-- where the item `let` starts that is open in these frames, the outermost one; none, where none is open
abbrev pub open_start : Stack → Option ℕ
open_start [] = None
open_start (f ∷ S) = if has_item S then open_start S else (if nat_eq f.number item_row then start_of (yield_of (node_of f)) else None)

-- the same of the parser after the first tokens of a text
unfoldable pub open_behind : List Tok → Option ℕ
open_behind ts = open_start (run_on (grammar program_text) ts (start (grammar program_text))).state.stack

-- the lesser of a place and the start of the item `let` that is open after the tokens that end before it, the last 32 of them left out
abbrev pub item_place : ℕ → List Tok → ℕ
item_place place tokens = sooner place (open_behind (take (length tokens - lexed_behind place tokens) tokens))

-- the same bound by that place: 64 more than twice the tokens that end there or behind; `work_laws` has that it is no smaller
abbrev pub second_behind : ℕ → List Tok → ℕ
second_behind place tokens = 64 + 2 * ends_at (item_place place tokens) tokens

-- no more than these of a text
abbrev pub IsBehind : List ℕ → ℕ → Amount → Type 0
IsBehind text place n = (tokens : List Tok) → Lex text tokens → (n.lexed ≤ lexed_behind place tokens) × (n.shifted ≤ shifted_behind place tokens)

-- what is read anew of what is owed: nothing, where nothing has changed
abbrev pub IsAnew : List ℕ → Option ℕ → Amount → Type 0
IsAnew text None n = IsNothing n
IsAnew text (Some place) n = IsBehind text place n

-- whether a request is a query of a text; one of a position that doesn't exist is none
abbrev pub is_query : List ℕ → Asked → Bool
is_query text (tell range bytes) = false
is_query text (type_enclosing at) = is_some (offset text at.0 at.1)
is_query text (complete_prefix at prefix) = is_some (offset text at.0 at.1)
is_query text (locate at) = is_some (offset text at.0 at.1)
is_query text (occurrences at) = is_some (offset text at.0 at.1)
is_query text outline = true
is_query text errors = true
is_query text (case_analysis at) = is_some (offset text at.0 at.1)
is_query text (construct at) = is_some (offset text at.0 at.1)

-- ---- texts that are tried

-- This is a text with other bytes in place of the innermost typed node at an offset, and no longer than a text may be; none is, where there is no offset.
abbrev pub IsTried : List ℕ → Option ℕ → List ℕ → Type 0
IsTried text None tried = ⊥
IsTried text (Some place) tried = (tokens : List Tok) × (n : Typed) × (bytes : List ℕ) × Lex text tokens × (innermost_at place (items_in tokens) ≡ Some n) × (tried ≡ apply text n.span.start n.span.end bytes) × (length tried ≤ text_limit)

-- Which texts a request may try, the latest first: `case-analysis` one at most, `construct` any number. Which bytes go in place of the node stays open.
abbrev pub MayTry : List ℕ → Asked → List (List ℕ) → Type 0
MayTry text (case_analysis at) tried = All (IsTried text (offset text at.0 at.1)) tried × (length tried ≤ 1)
MayTry text (construct at) tried = All (IsTried text (offset text at.0 at.1)) tried
MayTry text _ tried = tried ≡ []

-- for each of these texts at most all of its tokens, and 32 more; the parser takes each twice at most
abbrev pub ReadsAll : List (List ℕ) → Amount → Type 0
ReadsAll [] n = IsNothing n
ReadsAll (text ∷ before) n = (here : Amount) × (earlier : Amount) × IsBehind text 0 here × ReadsAll before earlier × IsSum n here earlier

-- what a query reads: what has changed of its own text, and these texts that it tries
abbrev pub Reads : Owed → List (List ℕ) → Amount → Type 0
Reads w tried n = (own : Amount) × (others : Amount) × IsAnew w.text w.since own × ReadsAll tried others × IsSum n own others

-- ---- lines

-- What a request reads, and the texts at the queries after it, by whether it is a query.
abbrev pub WorksIf : Bool → Owed → Asked → List (List ℕ) → Amount → Type 0
WorksIf false w a asked n = (asked ≡ w.asked) × IsNothing n
WorksIf true w a asked n = (tried : List (List ℕ)) × MayTry w.text a tried × (asked ≡ tried ++ w.text ∷ w.asked) × Reads w tried n

-- the same of a line
abbrev pub LineWorks : Owed → Reading → List (List ℕ) → Amount → Type 0
LineWorks w (asks a) asked n = WorksIf (is_query w.text a) w a asked n
LineWorks w (refused r) asked n = (asked ≡ w.asked) × IsNothing n

-- the first changed byte behind an edit
abbrev pub edited : edit.Outcome → Option ℕ → Option ℕ
edited (edit.changed first new) since = Some (sooner first since)
edited (edit.refused r) since = since

-- the first changed byte behind a request that was answered
abbrev pub since_after : Owed → Asked → Option ℕ
since_after w (tell range bytes) = edited (tell_outcome w.text range bytes) w.since
since_after w a = if is_query w.text a then None else w.since

-- what is owed behind a line that was answered
abbrev pub since_line : Owed → Reading → Option ℕ
since_line w (asks a) = since_after w a
since_line w (refused r) = w.since

-- the prelude's tokens, of which there are p, may be read once more where memory was short in a query
abbrev pub read_again : ℕ → List ℕ → Reading → ℕ
read_again p text (asks a) = if is_query text a then p else 0
read_again p text (refused r) = 0

-- What a line says is answered with the piece, or memory is short; it leaves what is owed behind it, and may read n tokens.
abbrev pub WorksAt : ℕ → Owed → Reading → List ℕ → Owed → Amount → Type 0
WorksAt p w r piece v n =
    (Answered w.text r piece v.text × (v.since ≡ since_line w r) × LineWorks w r v.asked n)
    ⊎ ((piece ≡ memory_line) × (v.text ≡ w.text) × (v.since ≡ w.since) × ((m : Amount) × LineWorks w r v.asked m × (n ≡ more m (read_again p w.text r))))

-- the same of a line; one of blanks is passed over
abbrev pub WorksBy : Bool → ℕ → Owed → List ℕ → List ℕ → Owed → Amount → Type 0
WorksBy true p w line piece v n = (piece ≡ []) × (v ≡ w) × IsNothing n
WorksBy false p w line piece v n = WorksAt p w (reading line) piece v n

-- From what is owed, the lines put these bytes, leave this owed, and may read n tokens.
abbrev pub RunWorks : ℕ → Owed → List (List ℕ) → List ℕ → Owed → Amount → Type 0
RunWorks p w [] out v n = (out ≡ []) × (v ≡ w) × IsNothing n
RunWorks p w (line ∷ lines) out v n = (piece : List ℕ) × (mid : Owed) × (rest : List ℕ) × (here : Amount) × (later : Amount)
    × WorksBy (is_blank_line line) p w line piece mid here × RunWorks p mid lines rest v later × (out ≡ piece ++ rest) × IsSum n here later

-- ---- items

-- these are the items of a text
abbrev pub AreItems : List ℕ → List Tree → Type 0
AreItems text items = (tokens : List Tok) × Lex text tokens × (items ≡ items_in tokens)

-- these are the items of the text that was asked about or tried last, and none before the first
abbrev pub AreLast : List (List ℕ) → List Tree → Type 0
AreLast [] items = items ≡ []
AreLast (text ∷ before) items = AreItems text items

-- A text has at most n items but for some at its front, which are, with their trees, those that the last text before it had there.
pub record Retyped (asked : List (List ℕ)) (text : List ℕ) (n : ℕ) : Type 0 where
  pub olds : List Tree
  pub were : AreLast asked olds
  pub items : List Tree
  pub are : AreItems text items
  pub same : ℕ
  pub left : same ≤ length olds
  pub right : same ≤ length items
  pub front : take same olds ≡ take same items
  pub others : length items ≤ n + same

-- n is the sum of such numbers over the queries so far, and the texts that they tried
abbrev pub RetypedOver : List (List ℕ) → ℕ → Type 0
RetypedOver [] n = n ≡ 0
RetypedOver (text ∷ before) n = (here : ℕ) × (earlier : ℕ) × Retyped before text here × RetypedOver before earlier × (n ≡ here + earlier)
