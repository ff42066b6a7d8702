use Rattle.lsp_answers.proofs.Printing.{symbol_items_map}
use Rattle.lsp_answers.proofs.write.symbols_value.Goals as goal

pub returns : goal.returns
returns c = rw (← (symbol_items_map c.args.list.now)) c.list_value.ensures
