use Rattle.std.proofs.Common.{map, take}
use Rattle.json_lines.specs.Means.{outline_of, outlined_of}
use Rattle.lsp_answers.specs.Puts.{symbol_of, symbols_of}
use Rattle.lsp_positions.specs.Texts.{columns_in}
use Rattle.lsp_queries.specs.Symbols.{SymbolsAre}
use Rattle.lsp_queries.proofs.symbols.+symbols.Given as goal

abbrev pub invariant-symbols_of-loop-member : goal.invariant-symbols_of-loop-member
invariant-symbols_of-loop-member g l = SymbolsAre (columns_in l.by) l.session.text (outline_of (map outlined_of (take l.member-index l.members))) (symbols_of (map symbol_of l.symbols.items))
