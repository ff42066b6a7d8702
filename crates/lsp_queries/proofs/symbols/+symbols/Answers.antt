use Rattle.std.proofs.Common.{arith, ◌≡◌, ◌∙◌, ◌<◌, ◌+◌, List, [], ◌∷◌, ◌++◌, length, map, take, ap, sym, subst}
use Rattle.std.proofs.lemmas.List.{take_more}
use Rattle.json_lines.specs.Means.{outline_of, outlined_of}
use Rattle.json_lines.specs.declared.reply.Outlined.{Outlined}
use Rattle.lsp_answers.specs.Puts.{symbol_of, symbols_of}
use Rattle.lsp_positions.specs.Texts.{columns_in}
use Rattle.lsp_queries.specs.Shown.{range_shown}
use Rattle.lsp_queries.specs.Symbols.{SymbolsAre}
use Rattle.lsp_queries.proofs.Bound.{symbol_made, symbols_more}
use Rattle.lsp_queries.proofs.symbols.+symbols.Goals as goal

pub symbol_of-returns : goal.symbol_of-returns
symbol_of-returns g t c =
    let by = columns_in c.args.by in
    let text = c.args.session.now.text in
    symbol_made by text c.args.member.now c.symbol_kind.result c.in_ok-share.field-0 c.range_of.result c.range_within.result c.in_ok-symbols_of.field-0
    c.symbol_kind.ensures c.in_ok-share.ensures (c.range_of.ensures ∙ ap (range_shown by text) c.span_between-item.ensures.value)
    (subst (λ (ms : List Outlined). SymbolsAre by text (outline_of (map outlined_of ms)) (symbols_of (map symbol_of c.in_ok-symbols_of.field-0.items))) c.deref.ensures.value c.in_ok-symbols_of.ensures)

pub symbols_of-loop-member-preserved : goal.symbols_of-loop-member-preserved
symbols_of-loop-member-preserved g t c =
    let all = c.args.members.now in
    let i = c.loop-member.member-index in
    let x = c.member-item.result in
    let lt : i < length all = let n = c.loop-member-test.true in omega arith in
    let front : take (i + 1) all ≡ take i all ++ x ∷ [] = take_more all i x lt ∙ ap (λ y. take i all ++ y ∷ []) (sym c.member-item.is) in
    rw (front, c.in_ok-push.ensures.items) (symbols_more (columns_in c.args.by) c.args.session.now.text (take i all) c.loop-member.symbols.items x c.in_ok-symbol_of.field-0 c.loop-member.invariant c.in_ok-symbol_of.ensures)
