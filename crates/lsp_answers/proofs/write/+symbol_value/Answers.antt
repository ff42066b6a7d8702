use Rattle.std.proofs.Common.{◌≡◌, ◌∙◌, ap, take, map, arith}
use Rattle.std.proofs.lemmas.List.{take_all}
use Rattle.serde_json.specs.View.{view, items_of}
use Rattle.lsp_model.specs.Answers.{symbol_data, symbol_items}
use Rattle.lsp_answers.specs.Puts.{symbol_of, symbols_of}
use Rattle.lsp_answers.specs.declared.answer.Symbol.{out-Symbol}
use Rattle.lsp_answers.proofs.Printing.{symbol_parts, symbol_items_map}
use Rattle.lsp_answers.proofs.write.+symbol_value.Goals as goal

pub returns : goal.returns
returns t c =
    let inside = c.deref-child-items.result.now in
    let whole : take c.loop-child.child-index inside ≡ inside = take_all _ _ (omega arith) in
    let seen : items_of (map view c.loop-child.children.items) ≡ symbol_items (symbols_of (map symbol_of (out-Symbol c.args.symbol.now).children.items)) =
    ap items_of (c.loop-child.invariant ∙ ap (map (λ s. symbol_data (symbol_of s))) whole)
    ∙ symbol_items_map inside
    ∙ ap (λ ss. symbol_items (symbols_of (map symbol_of ss))) c.deref-child-items.ensures.value
    in
    rw (symbol_parts c.args.symbol.now) (rw seen at c.member_value.ensures)
