use Rattle.std.proofs.Common.{◌∙◌, ap}
use Rattle.query_model.specs.Faults.{is_before}
use Rattle.text_queries.specs.Faults.{told_of}
use Rattle.text_queries.specs.declared.tellers.Told.{Told}
use Rattle.text_queries.proofs.Orders.{is_behind}
use Rattle.text_queries.proofs.order.is_behind.Goals as goal

pub returns-then-page-eq-PAGE_LIMIT : goal.returns-then-page-eq-PAGE_LIMIT
returns-then-page-eq-PAGE_LIMIT c =
    is_behind c.args.fault c.args.page.now c.last-item.result c.is_before.result c.in-len1-up.len_at_least c.requires.order c.if-page-eq-PAGE_LIMIT.true
    (c.is_before.ensures ∙ ap (λ (f : Told). is_before (told_of c.args.fault) (told_of f)) c.last-item.is)
