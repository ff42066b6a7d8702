-- Answers of the code as the definitions have them.
use Rattle.std.specs.Prelude.{List, [], ◌∷◌, map, option_map}
use Rattle.text_terms.specs.Bytes.{str_bytes}
use Rattle.lsp_model.specs.Answers as model
use Rattle.lsp_front.specs.Sayings.{pair_of, range_of, hover_in, choices_of, id_of}
use Rattle.lsp_answers.specs.declared.answer.Severity.{Severity}
use Rattle.lsp_answers.specs.declared.answer.Severity.TheVariants as severity
use Rattle.lsp_answers.specs.declared.answer.Diagnostic.{Diagnostic}
use Rattle.lsp_answers.specs.declared.answer.ItemKind.{ItemKind}
use Rattle.lsp_answers.specs.declared.answer.ItemKind.TheVariants as item
use Rattle.lsp_answers.specs.declared.answer.Completion.{Completion}
use Rattle.lsp_answers.specs.declared.answer.SymbolKind.{SymbolKind}
use Rattle.lsp_answers.specs.declared.answer.SymbolKind.TheVariants as kind
use Rattle.lsp_answers.specs.declared.answer.Symbol.{Symbol, fold-Symbol}
use Rattle.lsp_answers.specs.declared.answer.Symbol.TheOpen.{Symbol-F}
use Rattle.lsp_answers.specs.declared.answer.Action.{Action}
use Rattle.lsp_answers.specs.declared.answer.Action.TheVariants as action
use Rattle.lsp_answers.specs.declared.answer.Answered.{Answered}
use Rattle.lsp_answers.specs.declared.answer.Answered.TheVariants as answered
use Rattle.lsp_answers.specs.declared.answer.Wrong.{Wrong}
use Rattle.lsp_answers.specs.declared.answer.Wrong.TheVariants as wrong
use Rattle.lsp_answers.specs.declared.answer.Answer.{Answer}
use Rattle.lsp_answers.specs.declared.answer.Answer.TheVariants as answer

-- how grave a fault is
abbrev pub severity_of : Severity → model.Severity
severity_of severity.Error = model.an_error
severity_of severity.Warning = model.a_warning

-- a fault
abbrev pub diagnostic_of : Diagnostic → model.Diagnostic
diagnostic_of d = record { kind = option_map str_bytes d.kind; message = str_bytes d.message; range = range_of d.range; severity = severity_of d.severity }

-- what a completed name stands for
abbrev pub item_of : ItemKind → model.ItemKind
item_of item.Value = model.a_value
item_of item.Constructor = model.a_constructor
item_of item.Label = model.a_label
item_of item.Type = model.a_type
item_of item.Module = model.a_module
item_of item.ModuleType = model.a_module_type

-- a name that a word may become
abbrev pub completion_of : Completion → model.Completion
completion_of c = record { detail = str_bytes c.detail; kind = item_of c.kind; name = str_bytes c.name }

-- what an item binds
abbrev pub kind_of : SymbolKind → model.SymbolKind
kind_of kind.Value = model.value_symbol
kind_of kind.Type = model.type_symbol
kind_of kind.Exception = model.exception_symbol
kind_of kind.Module = model.module_symbol
kind_of kind.ModuleType = model.module_type_symbol

-- bound names, in order
abbrev pub symbols_of : List model.Symbol → model.Symbols
symbols_of [] = model.no_symbols
symbols_of (s ∷ ss) = model.also s (symbols_of ss)

-- one level, with each name inside already as the definitions have it
abbrev pub symbol_step : Symbol-F model.Symbol → model.Symbol
symbol_step s = model.symbol (kind_of s.kind) (str_bytes s.name) (range_of s.range) (range_of s.selection) (symbols_of s.children.items)

-- a bound name
abbrev pub symbol_of : Symbol → model.Symbol
symbol_of = fold-Symbol model.Symbol symbol_step

-- a change that is proposed
abbrev pub action_of : Action → model.Action
action_of (action.Cases text range) = model.cases (str_bytes text) (range_of range)
action_of (action.Term text range) = model.term (str_bytes text) (range_of range)

-- what a request is answered
abbrev pub answered_of : Answered → model.Answered
answered_of answered.Null = model.nothing_there
answered_of (answered.Chosen c) = model.chosen (choices_of c)
answered_of (answered.Hovered form text range) = model.hovered (hover_in form) (str_bytes text) (range_of range)
answered_of (answered.Completed names more word) = model.completed (map completion_of names.items) more (range_of word)
answered_of (answered.Located uri at) = model.located (str_bytes uri) (pair_of at)
answered_of (answered.Used uri ranges) = model.used (str_bytes uri) (map range_of ranges.items)
answered_of (answered.Highlighted ranges) = model.highlighted (map range_of ranges.items)
answered_of (answered.Outlined symbols) = model.outlined (symbols_of (map symbol_of symbols.items))
answered_of (answered.Proposed uri actions) = model.proposed (str_bytes uri) (map action_of actions.items)
answered_of (answered.Reported list) = model.reported (map diagnostic_of list.items)

-- why a message has an error
abbrev pub wrong_of : Wrong → model.Wrong
wrong_of wrong.NoJson = model.no_json
wrong_of wrong.NoMessage = model.no_message
wrong_of wrong.TooLong = model.too_long
wrong_of wrong.NoSuchMethod = model.no_such_method
wrong_of wrong.Params = model.wrong_params
wrong_of wrong.Memory = model.short_of_memory

-- what is put
abbrev pub piece_of : Answer → model.Piece
piece_of (answer.Result id result) = model.result (id_of id) (answered_of result)
piece_of (answer.Error id w) = model.error (option_map id_of id) (wrong_of w)
piece_of (answer.Published uri version list) = model.published (str_bytes uri) version (map diagnostic_of list.items)
