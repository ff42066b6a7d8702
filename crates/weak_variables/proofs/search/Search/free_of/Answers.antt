use Rattle.std.proofs.Common.{◌≡◌, [], ◌<◌, length, arith, sym, ap, subst}
use Rattle.type_nodes.specs.Views.{numbers}
use Rattle.weak_variables.specs.Free.{IsRoot}
use Rattle.weak_variables.specs.Listed.{Lists, Finds}
use Rattle.weak_variables.specs.Search.{is_listed}
use Rattle.weak_variables.proofs.Searching.{entries_in, lists_refl, lists_then, entries_more, entries_end}
use Rattle.weak_variables.proofs.search.Search.free_of.Goals as goal

pub loop-entry-init : goal.loop-entry-init
loop-entry-init c =
    let before = is_listed c.args.self.now in
    let none : numbers c.new.result.items ≡ [] = ap numbers c.new.ensures.items in
    record {
      lists = subst (Lists before before []) (sym none) (lists_refl before []);
      finds = λ after news h values. subst (λ us. Finds c.args.at.now.store.nodes (IsRoot (entries_in c.args.entries.now)) before after us news) none (h values);
    }

pub loop-entry-preserved : goal.loop-entry-preserved
loop-entry-preserved c =
    let all = c.args.entries.now in
    let lt : c.loop-entry.entry-index < length all = let n = c.loop-entry-test.true in omega arith in
    let s = c.loop-entry.self in
    let s' = c.entry.new.self in
    record {
      lists = lists_then (is_listed c.args.self.now) (is_listed s) (is_listed s') [] (numbers s.found.items) (numbers s'.found.items) c.loop-entry.invariant.lists c.in_ok-entry.ensures.lists;
      finds = λ after news h. c.loop-entry.invariant.finds after news
          (entries_more c.args.at.now.store.nodes all c.loop-entry.entry-index c.entry-item.result (is_listed s) (is_listed s') after (numbers s.found.items) (numbers s'.found.items) news lt c.entry-item.is c.in_ok-entry.ensures.value h);
    }

pub returns-clause-lists : goal.returns-clause-lists
returns-clause-lists c = subst (λ ns. Lists (is_listed c.args.self.now) (is_listed c.loop-entry.self) [] (numbers ns.items)) (sym c.replace.ensures.value) c.loop-entry.invariant.lists

pub returns-clause-finds : goal.returns-clause-finds
returns-clause-finds c = λ values.
    let s = c.loop-entry.self in
    let nodes = c.args.at.now.store.nodes in
    subst (λ ns. Finds nodes (IsRoot (entries_in c.args.entries.now)) (is_listed c.args.self.now) (is_listed s) [] (numbers ns.items)) (sym c.replace.ensures.value)
    (c.loop-entry.invariant.finds (is_listed s) (numbers s.found.items)
    (entries_end nodes c.args.entries.now c.loop-entry.entry-index (is_listed s) (numbers s.found.items) c.loop-entry-test.false) values)
