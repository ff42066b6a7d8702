-- What a text binds, as symbols.
use Rattle.std.specs.Prelude.{◌≡◌, ℕ, List, codes, if◌then◌else◌}
use Rattle.std.specs.Str.{bytes_eq}
use Rattle.service_model.specs.Replies as said
use Rattle.service_model.specs.Structure.{OutlineIs}
use Rattle.lsp_model.specs.Answers as put
use Rattle.lsp_model.specs.Positions.{Columns}
use Rattle.lsp_queries.specs.Shown.{range_told}

-- what a name stands for, by the kind that is told
abbrev pub symbol_told : List ℕ → put.SymbolKind
symbol_told kind =
    if bytes_eq kind (codes "Type") then put.type_symbol
    else if bytes_eq kind (codes "Exception") then put.exception_symbol
    else if bytes_eq kind (codes "Module") then put.module_symbol
    else if bytes_eq kind (codes "ModuleType") then put.module_type_symbol
    else put.value_symbol

-- A bound name as a symbol, and bound names in the same way; where the name is within its item stays open.
abbrev mutual
  pub SymbolIs : Columns → List ℕ → said.Outlined → put.Symbol → Type 0
  SymbolIs by text (said.outlined start end kind name inner) (put.symbol k n range selection inside) =
      (k ≡ symbol_told kind) × (n ≡ name) × (range ≡ range_told by text start end) × SymbolsAre by text inner inside

  -- bound names as symbols, in their order
  pub SymbolsAre : Columns → List ℕ → said.Outline → put.Symbols → Type 0
  SymbolsAre by text said.no_more put.no_symbols = Unit {0}
  SymbolsAre by text said.no_more (put.also s ss) = ⊥
  SymbolsAre by text (said.next o os) put.no_symbols = ⊥
  SymbolsAre by text (said.next o os) (put.also s ss) = SymbolIs by text o s × SymbolsAre by text os ss

-- what the symbols of a text are: the reply to `outline`
abbrev pub OutlinedAs : Columns → List ℕ → put.Symbols → Type 0
OutlinedAs by text ss = (os : said.Outline) × OutlineIs text (said.outline os) × SymbolsAre by text os ss
