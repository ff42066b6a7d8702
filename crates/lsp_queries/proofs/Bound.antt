-- Bound names as symbols, one after another.
use Rattle.std.proofs.Common.{◌≡◌, ℕ, List, [], ◌∷◌, ◌++◌, map}
use Rattle.std.specs.declared.vec.Vec.{Vec}
use Rattle.std.specs.declared.alloc.Global.{Global}
use Rattle.text_terms.specs.Bytes.{str_bytes}
use Rattle.text_terms.specs.declared.RcStr.{RcStr}
use Rattle.service_model.specs.Replies as said
use Rattle.json_lines.specs.Meets.{pair_of}
use Rattle.json_lines.specs.Means.{outline_kind_text, outline_of, outlined_of, outlined_step}
use Rattle.json_lines.specs.declared.reply.Outlined.{Outlined, out-Outlined, fold_out-Outlined}
use Rattle.lsp_model.specs.Answers as put
use Rattle.lsp_model.specs.Positions.{Columns}
use Rattle.lsp_front.specs.Sayings.{range_of}
use Rattle.lsp_front.specs.declared.message.Range.{Range}
use Rattle.lsp_answers.specs.Puts.{kind_of, symbol_of, symbol_step, symbols_of}
use Rattle.lsp_answers.specs.declared.answer.Symbol.{Symbol, roll-Symbol, fold-roll-Symbol}
use Rattle.lsp_answers.specs.declared.answer.SymbolKind.{SymbolKind}
use Rattle.lsp_queries.specs.Shown.{range_told}
use Rattle.lsp_queries.specs.Symbols.{symbol_told, SymbolIs, SymbolsAre}

-- with one more behind them
pub symbols_more : (by : Columns) (text : List ℕ) (os : List Outlined) (ss : List Symbol) (o : Outlined) (s : Symbol) → SymbolsAre by text (outline_of (map outlined_of os)) (symbols_of (map symbol_of ss)) → SymbolIs by text (outlined_of o) (symbol_of s)
    → SymbolsAre by text (outline_of (map outlined_of (os ++ o ∷ []))) (symbols_of (map symbol_of (ss ++ s ∷ [])))
symbols_more by text [] [] o s are is = (is, tt)
symbols_more by text [] (t ∷ ts) o s are is = absurd are
symbols_more by text (p ∷ os) [] o s are is = absurd are
symbols_more by text (p ∷ os) (t ∷ ts) o s are is = (are.0, symbols_more by text os ts o s are.1 is)

-- a symbol that is made of a bound name's parts
pub symbol_made : (by : Columns) (text : List ℕ) (o : Outlined) (kind : SymbolKind) (name : RcStr) (range selection : Range) (children : Vec Symbol Global)
    → kind_of kind ≡ symbol_told (outline_kind_text (out-Outlined o).kind) → str_bytes name ≡ str_bytes (out-Outlined o).name → range_of range ≡ range_told by text (pair_of (out-Outlined o).start) (pair_of (out-Outlined o).end)
    → SymbolsAre by text (outline_of (map outlined_of (out-Outlined o).children.items)) (symbols_of (map symbol_of children.items))
    → SymbolIs by text (outlined_of o) (symbol_of (roll-Symbol (record { kind = kind; name = name; range = range; selection = selection; children = children })))
symbol_made by text o kind name range selection children a b c d =
    rw (fold_out-Outlined said.Outlined outlined_step o, fold-roll-Symbol put.Symbol symbol_step (record { kind = kind; name = name; range = range; selection = selection; children = children })) (a, b, c, d)
