use Rattle.std.proofs.Common.{◌≡◌, true, sym, ◌∙◌}
use Rattle.std.specs.Prelude.{nat_eq}
use Rattle.std.specs.HashSet.{contains}
use Rattle.type_nodes.specs.Nodes.{IsNode}
use Rattle.type_nodes.specs.Views.{numbers}
use Rattle.level_unify.proofs.Numbers.{number_at, number_get}
use Rattle.level_unify.proofs.Walking.{done_more}
use Rattle.level_unify.proofs.walk.next_among.Goals as goal

pub root-root-requires : goal.root-root-requires
root-root-requires c = number_at (IsNode c.args.store.now.nodes) c.args.parts.now c.loop-at.at _ c.requires c.loop-at-test.true

pub returns-then-not-contains-clause-next : goal.returns-then-not-contains-clause-next
returns-then-not-contains-clause-next c = record {
  part = _;
  here = number_get c.args.parts.now c.loop-at.at (record { 0 = 0 }) c.loop-at-test.true;
  end = c.root-root.ensures.root;
  new = sym c.contains.ensures ∙ c.if-not-contains.true;
  before = c.loop-at.invariant;
}

pub loop-at-preserved : goal.loop-at-preserved
loop-at-preserved c =
    let has : contains nat_eq c.args.done.now c.root-root.result.0 ≡ true = sym c.contains.ensures ∙ c.if-not-contains.false in
    done_more c.args.store.now.nodes (contains nat_eq c.args.done.now) (numbers c.args.parts.now) c.args.from c.loop-at.at _ c.root-root.result.0
    (number_get c.args.parts.now c.loop-at.at (record { 0 = 0 }) c.loop-at-test.true) c.root-root.ensures.root has c.loop-at.invariant
