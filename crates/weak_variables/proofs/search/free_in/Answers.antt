use Rattle.std.proofs.Common.{◌<◌, length, ap, arith}
use Rattle.std.specs.Prelude.{nat_eq}
use Rattle.std.specs.List.{list_any}
use Rattle.std.specs.HashSet.{contains}
use Rattle.type_nodes.specs.Views.{numbers}
use Rattle.weak_variables.specs.Free.{IsFound}
use Rattle.weak_variables.specs.Search.{is_listed, lists_of}
use Rattle.weak_variables.proofs.Searching.{lists_more, lists_end, finds_from, free_found}
use Rattle.weak_variables.proofs.Walked.{walked_none}
use Rattle.weak_variables.proofs.search.free_in.Goals as goal

pub loop-list-init : goal.loop-list-init
loop-list-init c = (
  walked_none c.args.at.now.store.nodes (contains nat_eq c.new-walked.result) (is_listed c.new-search.result) (λ n. ap (list_any (nat_eq n)) c.new-walked.ensures.empty),
  λ after news h. finds_from c.args.at.now.store.nodes (IsFound (lists_of c.args.lists.now)) (is_listed c.new-search.result) after (numbers c.new-search.result.found.items) news c.new-search.ensures.listed (ap numbers c.new-search.ensures.found) h,
)

pub loop-list-preserved : goal.loop-list-preserved
loop-list-preserved c =
    let (was, so_far) = c.loop-list.invariant in
    let one = c.in_ok-walk_all.ensures was in
    let lt : c.loop-list.list-index < length c.args.lists.now = let n = c.loop-list-test.true in omega arith in (
      one.0,
      λ after news h. so_far after news
          (lists_more c.args.at.now.store.nodes c.args.lists.now c.loop-list.list-index c.list-item.result c.deref.result.now (is_listed c.loop-list.search) (is_listed c.walk_all.new.self) after
          (numbers c.loop-list.search.found.items) (numbers c.walk_all.new.self.found.items) news lt c.list-item.is c.deref.ensures.value one.1 h),
    )

pub returns : goal.returns
returns c =
    let s = c.loop-list.search in
    let (was, so_far) = c.loop-list.invariant in
    free_found c.args.at.now.store.nodes (IsFound (lists_of c.args.lists.now)) (is_listed s) (numbers s.found.items)
    (so_far (is_listed s) (numbers s.found.items) (lists_end c.args.at.now.store.nodes c.args.lists.now c.loop-list.list-index (is_listed s) (numbers s.found.items) c.loop-list-test.false))
