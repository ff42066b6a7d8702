use Rattle.std.proofs.Common.{◌∙◌, ap, map, List}
use Rattle.query_model.specs.Faults.{front}
use Rattle.text_queries.specs.Faults.{told_of}
use Rattle.text_queries.specs.declared.tellers.Told.{Told}
use Rattle.text_queries.proofs.Orders.{kept}
use Rattle.text_queries.proofs.order.keep.Goals as goal

pub returns-in-Ok : goal.returns-in-Ok
returns-in-Ok c =
    kept c.args.fault c.args.page.now.items c.insert.new.self.items c.truncate.new.self.items c.front-at.result
    (c.front-at.ensures ∙ ap (λ (xs : List Told). front (told_of c.args.fault) (map told_of xs)) c.deref-2.ensures.value) c.in-Ok.ensures.items c.truncate.ensures.items
