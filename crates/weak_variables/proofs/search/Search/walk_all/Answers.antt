use Rattle.std.proofs.Common.{◌<◌, length, arith}
use Rattle.type_nodes.specs.Views.{numbers}
use Rattle.weak_variables.specs.Search.{is_listed}
use Rattle.weak_variables.proofs.Searching.{look_more, look_end}
use Rattle.weak_variables.proofs.search.Search.walk_all.Goals as goal

pub loop-n-init : goal.loop-n-init
loop-n-init c = λ was. (was, λ after news h. h)

pub loop-n-preserved : goal.loop-n-preserved
loop-n-preserved c = λ was.
    let so_far = c.loop-n.invariant was in
    let one = c.in_ok-walk.ensures so_far.0 in
    let lt : c.loop-n.n-index < length c.args.nodes.now = let n = c.loop-n-test.true in omega arith in (
      one.0,
      λ after news h. so_far.1 after news
          (look_more c.args.at.now.store.nodes c.args.nodes.now c.loop-n.n-index (record { 0 = 0 }) (is_listed c.loop-n.self) (is_listed c.walk.new.self) after (numbers c.loop-n.self.found.items) (numbers c.walk.new.self.found.items) news lt one.1 h),
    )

pub returns : goal.returns
returns c = λ was.
    let so_far = c.loop-n.invariant was in
    (so_far.0, so_far.1 (is_listed c.loop-n.self) (numbers c.loop-n.self.found.items) (look_end c.args.at.now.store.nodes c.args.nodes.now c.loop-n.n-index (is_listed c.loop-n.self) (numbers c.loop-n.self.found.items) c.loop-n-test.false))
