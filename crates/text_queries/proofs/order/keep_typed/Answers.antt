use Rattle.std.proofs.Common.{◌+◌, ◌∷◌, ◌∙◌, ap, sym, map, drop, subst, List}
use Rattle.std.proofs.lemmas.List.{drop_all, drop_more}
use Rattle.text_queries.specs.Faults.{told_of, typer_fault_of}
use Rattle.query_model.specs.Faults.{by_typer}
use Rattle.env_table.specs.declared.faults.Fault.{Fault}
use Rattle.text_queries.proofs.Orders.{IsPageFor, page_kept, page_done}
use Rattle.text_queries.proofs.order.keep_typed.Goals as goal

pub loop-fault-preserved : goal.loop-fault-preserved
loop-fault-preserved c =
    let page = map told_of c.loop-fault.page.items in
    let old = map told_of c.args.page.now.items in
    let all = map by_typer (map typer_fault_of c.args.faults.now) in
    page_kept old all page (map told_of c.keep.new.page.items) _ (map by_typer (map typer_fault_of (drop (c.loop-fault.fault-index + 1) c.args.faults.now))) c.in_ok-keep.ensures
    (subst (λ (fs : List Fault). IsPageFor old all page (map by_typer (map typer_fault_of fs))) (drop_more c.args.faults.now c.loop-fault.fault-index c.fault-item.result c.loop-fault-test.true ∙ ap (λ f. f ∷ drop (c.loop-fault.fault-index + 1) c.args.faults.now) (sym c.fault-item.is)) c.loop-fault.invariant)

pub returns : goal.returns
returns c =
    let page = map told_of c.loop-fault.page.items in
    let old = map told_of c.args.page.now.items in
    let all = map by_typer (map typer_fault_of c.args.faults.now) in
    page_done old all page (subst (λ (fs : List Fault). IsPageFor old all page (map by_typer (map typer_fault_of fs))) (drop_all c.loop-fault.fault-index c.args.faults.now c.loop-fault-test.false) c.loop-fault.invariant)
