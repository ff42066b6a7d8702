-- Lists as JSON, and that no answer has a float.
use Rattle.std.proofs.Common.{◌≡◌, ℕ, List, [], ◌∷◌, false, ◌||◌, map, refl, ap, ◌∙◌, Option, Some, None, option_map}
use Rattle.std.specs.Prelude.{ℤ, pos, negsuc, codes}
use Rattle.serde_json.specs.Data.{Data, item, array, string, Members, member, no_members}
use Rattle.serde_json.specs.Find.{is_float, of_integer}
use Rattle.serde_json.specs.View.{items_of}
use Rattle.serde_json.specs.Written.{has_float, items_have_float, members_have_float}
use Rattle.text_terms.specs.Bytes.{str_bytes}
use Rattle.lsp_model.specs.Answers as model
use Rattle.lsp_model.specs.Messages.{Choices, Delivery, sent, asked_for, Range}
use Rattle.lsp_front.specs.Sayings.{id_of, range_of}
use Rattle.lsp_answers.specs.Puts.{answered_of, diagnostic_of, kind_of, piece_of, symbol_of, symbol_step, symbols_of, wrong_of}
use Rattle.lsp_front.specs.declared.message.Id.{Id}
use Rattle.lsp_front.specs.declared.message.Id.TheVariants.{Text, Number}
use Rattle.lsp_answers.specs.declared.answer.Answer.{Answer}
use Rattle.lsp_answers.specs.declared.answer.Answer.TheVariants.{Result, Error, Published}
use Rattle.lsp_answers.specs.declared.answer.Symbol.{Symbol, out-Symbol, fold_out-Symbol}

-- a bound name as JSON, by what is in the code's
pub symbol_parts : (s : Symbol) → model.symbol_data (symbol_of s)
    ≡ model.member_data (array (model.symbol_items (symbols_of (map symbol_of (out-Symbol s).children.items)))) (kind_of (out-Symbol s).kind) (str_bytes (out-Symbol s).name) (range_of (out-Symbol s).range) (range_of (out-Symbol s).selection)
symbol_parts s = ap model.symbol_data (fold_out-Symbol model.Symbol symbol_step s)

-- the items of bound names are theirs, one after another
pub symbol_items_map : (ss : List Symbol) → items_of (map (λ s. model.symbol_data (symbol_of s)) ss) ≡ model.symbol_items (symbols_of (map symbol_of ss))
symbol_items_map [] = refl
symbol_items_map (s ∷ ss) = ap (item (model.symbol_data (symbol_of s))) (symbol_items_map ss)

-- ---- floats

-- a list has no float where no member has one
no_float_items : {A : Type 0} (f : A → Data) → ((x : A) → has_float (f x) ≡ false) → (xs : List A) → items_have_float (items_of (map f xs)) ≡ false
no_float_items f none [] = refl
no_float_items f none (x ∷ xs) = ap (λ b. b || items_have_float (items_of (map f xs))) (none x) ∙ no_float_items f none xs

-- a text before other members adds none
no_float_text : (key : List ℕ) (s : Option (List ℕ)) (ms : Members) → members_have_float ms ≡ false → members_have_float (model.with_text key s ms) ≡ false
no_float_text key None ms none = none
no_float_text key (Some s) ms none = none

no_float_diagnostic : (d : model.Diagnostic) → has_float (model.diagnostic_data d) ≡ false
no_float_diagnostic d =
    no_float_text (codes "code") d.kind
    (member (codes "message") (string d.message) (member (codes "range") (model.range_data d.range) (member (codes "severity") (model.natural (model.severity_number d.severity)) (member (codes "source") (string (codes "ocaml")) no_members)))) refl

no_float_diagnostics : (ds : List model.Diagnostic) → has_float (model.diagnostics_data ds) ≡ false
no_float_diagnostics ds = no_float_items model.diagnostic_data no_float_diagnostic ds

no_float_completion : (range : Range) (c : model.Completion) → has_float (model.completion_data range c) ≡ false
no_float_completion range c =
    no_float_text (codes "detail") (model.unless_empty c.detail)
    (member (codes "kind") (model.natural (model.item_number c.kind)) (member (codes "label") (string c.name) (member (codes "textEdit") (model.edit_data range c.name) no_members))) refl

mutual
  no_float_symbol : (s : model.Symbol) → has_float (model.symbol_data s) ≡ false
  no_float_symbol (model.symbol kind name range selection inside) = ap (λ b. b || false) (no_float_symbols inside)

  no_float_symbols : (ss : model.Symbols) → items_have_float (model.symbol_items ss) ≡ false
  no_float_symbols model.no_symbols = refl
  no_float_symbols (model.also s ss) = ap (λ b. b || items_have_float (model.symbol_items ss)) (no_float_symbol s) ∙ no_float_symbols ss

no_float_action : (uri : List ℕ) (a : model.Action) → has_float (model.action_data uri a) ≡ false
no_float_action uri (model.cases text range) = refl
no_float_action uri (model.term text range) = refl

no_float_offers : (d : Delivery) (ms : Members) → members_have_float ms ≡ false → members_have_float (model.diagnostic_offers d ms) ≡ false
no_float_offers sent ms none = none
no_float_offers asked_for ms none = none

no_float_chosen : (c : Choices) → has_float (model.chosen_data c) ≡ false
no_float_chosen c = ap (λ b. b || false) (no_float_offers c.delivery (model.later_offers c.columns) refl)

no_float_answered : (a : model.Answered) → has_float (model.answered_data a) ≡ false
no_float_answered model.nothing_there = refl
no_float_answered (model.chosen c) = no_float_chosen c
no_float_answered (model.hovered form text range) = refl
no_float_answered (model.completed cs more range) = ap (λ b. b || false) (no_float_items (model.completion_data range) (no_float_completion range) cs)
no_float_answered (model.located uri at) = refl
no_float_answered (model.used uri rs) = no_float_items (model.place_data uri) (λ r. refl) rs
no_float_answered (model.highlighted rs) = no_float_items model.highlight_data (λ r. refl) rs
no_float_answered (model.outlined ss) = no_float_symbols ss
no_float_answered (model.proposed uri cs) = no_float_items (model.action_data uri) (no_float_action uri) cs
no_float_answered (model.reported ds) = ap (λ b. b || false) (no_float_diagnostics ds)

no_float_integer : (z : ℤ) → is_float (of_integer z) ≡ false
no_float_integer (pos n) = refl
no_float_integer (negsuc n) = refl

no_float_wrong : (w : model.Wrong) → has_float (model.wrong_data w) ≡ false
no_float_wrong w = ap (λ b. b || false) (no_float_integer (model.wrong_code w))

no_float_version : (v : Option ℤ) → members_have_float (model.version_members v) ≡ false
no_float_version None = refl
no_float_version (Some z) = ap (λ b. b || false) (no_float_integer z)

no_float_published : (uri : List ℕ) (v : Option ℤ) (ds : List model.Diagnostic) → has_float (model.published_data uri v ds) ≡ false
no_float_published uri v ds = ap (λ b. b || members_have_float (model.version_members v)) (no_float_diagnostics ds) ∙ no_float_version v

no_float_id : (i : Id) → has_float (id_of i) ≡ false
no_float_id (Text s) = refl
no_float_id (Number n) = n.whole

no_float_ids : (i : Option Id) → has_float (model.id_data (option_map id_of i)) ≡ false
no_float_ids None = refl
no_float_ids (Some i) = no_float_id i

-- what is put has no float
pub no_float : (a : Answer) → has_float (model.piece_data (piece_of a)) ≡ false
no_float (Result id r) = ap (λ b. b || (has_float (model.answered_data (answered_of r)) || false)) (no_float_id id) ∙ ap (λ b. b || false) (no_float_answered (answered_of r))
no_float (Error id w) = ap (λ b. b || (has_float (model.id_data (option_map id_of id)) || false)) (no_float_wrong (wrong_of w)) ∙ ap (λ b. b || false) (no_float_ids id)
no_float (Published uri version list) = ap (λ b. b || false) (no_float_published (str_bytes uri) version (map diagnostic_of list.items))
