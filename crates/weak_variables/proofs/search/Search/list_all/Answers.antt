use Rattle.std.proofs.Common.{◌<◌, length, arith}
use Rattle.type_nodes.specs.Views.{numbers}
use Rattle.weak_variables.specs.Search.{is_listed}
use Rattle.weak_variables.proofs.Searching.{list_more, list_end}
use Rattle.weak_variables.proofs.search.Search.list_all.Goals as goal

pub loop-n-init : goal.loop-n-init
loop-n-init c = λ after news h. h

pub loop-n-preserved : goal.loop-n-preserved
loop-n-preserved c = λ after news h.
    let lt : c.loop-n.n-index < length c.args.nodes.now = let n = c.loop-n-test.true in omega arith in
    c.loop-n.invariant after news (list_more c.args.at.now.store.nodes c.args.nodes.now c.loop-n.n-index (record { 0 = 0 }) (is_listed c.loop-n.self) (is_listed c.list.new.self) after (numbers c.loop-n.self.found.items) (numbers c.list.new.self.found.items) news lt c.in_ok-list.ensures h)

pub returns : goal.returns
returns c = c.loop-n.invariant (is_listed c.loop-n.self) (numbers c.loop-n.self.found.items) (list_end c.args.at.now.store.nodes c.args.nodes.now c.loop-n.n-index (is_listed c.loop-n.self) (numbers c.loop-n.self.found.items) c.loop-n-test.false)
