use Rattle.std.proofs.Common.{arith, map, List, subst}
use Rattle.std.proofs.lemmas.List.{length-map}
use Rattle.text_queries.specs.Faults.{fault_of, told_of, FillsPage}
use Rattle.text_queries.specs.declared.tellers.Told.{Told}
use Rattle.text_queries.proofs.Orders.{filled_short, page_of_both}
use Rattle.text_queries.proofs.order.first_faults.Goals as goal

pub keep_typed-requires-clause-short : goal.keep_typed-requires-clause-short
keep_typed-requires-clause-short c =
    let page = c.keep_parsed.new.page.items in
    let short = filled_short _ _ (map told_of page) c.in_ok-keep_parsed.ensures in
    omega (arith, short, length-map page told_of)

pub returns : goal.returns
returns c =
    let page = c.keep_parsed.new.page.items in
    let parsed = map fault_of c.args.parsed.now in
    let first = subst (λ (fs : List Told). FillsPage (map told_of fs) parsed (map told_of page)) c.new-page.ensures.items c.in_ok-keep_parsed.ensures in
    page_of_both parsed _ (map told_of page) (map told_of c.keep_typed.new.page.items) first c.in_ok-keep_typed.ensures
