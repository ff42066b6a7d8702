use Rattle.std.proofs.Common.{◌+◌, map, drop, subst, List}
use Rattle.std.proofs.lemmas.List.{drop_all, drop_more}
use Rattle.text_queries.specs.Faults.{fault_of, told_of}
use Rattle.frame_steps.specs.declared.stack.SyntaxFault.{SyntaxFault}
use Rattle.text_queries.proofs.Orders.{IsPageFor, page_kept, page_done}
use Rattle.text_queries.proofs.order.keep_parsed.Goals as goal

pub loop-fault-preserved : goal.loop-fault-preserved
loop-fault-preserved c =
    let page = map told_of c.loop-fault.page.items in
    let old = map told_of c.args.page.now.items in
    let all = map fault_of c.args.faults.now in
    page_kept old all page (map told_of c.keep.new.page.items) _ (map fault_of (drop (c.loop-fault.fault-index + 1) c.args.faults.now)) c.in_ok-keep.ensures
    (subst (λ (fs : List SyntaxFault). IsPageFor old all page (map fault_of fs)) (drop_more c.args.faults.now c.loop-fault.fault-index _ c.loop-fault-test.true) c.loop-fault.invariant)

pub returns : goal.returns
returns c =
    let page = map told_of c.loop-fault.page.items in
    let old = map told_of c.args.page.now.items in
    let all = map fault_of c.args.faults.now in
    page_done old all page (subst (λ (fs : List SyntaxFault). IsPageFor old all page (map fault_of fs)) (drop_all c.loop-fault.fault-index c.args.faults.now c.loop-fault-test.false) c.loop-fault.invariant)
