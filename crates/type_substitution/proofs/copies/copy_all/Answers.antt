use Rattle.std.proofs.Common.{subst, ◌∙◌, arith}
use Rattle.type_nodes.specs.Views.{numbers}
use Rattle.type_nodes.proofs.Trails.{keeps_trans}
use Rattle.level_unify.specs.Copies.{table_of}
use Rattle.level_unify.proofs.Numbers.{number_get, numbers_length}
use Rattle.type_substitution.specs.Copying.{Gains}
use Rattle.type_substitution.proofs.Made.{extends_trans, copied_on, parts_copied, all_copied}
use Rattle.type_substitution.proofs.copies.copy_all.Goals as goal

pub copy_one-requires-clause-node : goal.copy_one-requires-clause-node
copy_one-requires-clause-node c =
    let e = number_get c.args.found.now c.loop-node.node-index (record { 0 = 0 }) c.loop-node-test.true in
    let lt = (c.requires.found.roots c.loop-node.node-index _ e).0 in
    let l = c.loop-node.invariant.extends.longer in
    omega arith

pub copy_one-requires-clause-parts : goal.copy_one-requires-clause-parts
copy_one-requires-clause-parts c =
    let e = number_get c.args.found.now c.loop-node.node-index (record { 0 = 0 }) c.loop-node-test.true in
    parts_copied c.args.store.now.nodes c.loop-node.store.nodes c.args.from.0 (numbers c.args.found.now) (table_of c.loop-node.copies) c.loop-node.node-index _ c.requires.sound c.requires.found
    c.loop-node.invariant.extends e c.loop-node.invariant.done

pub loop-node-preserved : goal.loop-node-preserved
loop-node-preserved c =
    let T' = table_of c.copy_one.new.copies in
    let e = number_get c.args.found.now c.loop-node.node-index (record { 0 = 0 }) c.loop-node-test.true in
    let (lt, end, _) = c.requires.found.roots c.loop-node.node-index _ e in
    record {
      extends = extends_trans c.args.store.now.nodes c.loop-node.store.nodes c.copy_one.new.store.nodes c.loop-node.invariant.extends c.copy_one.ensures.extends;
      keeps = keeps_trans c.args.store.now c.loop-node.store c.copy_one.new.store c.loop-node.invariant.keeps c.copy_one.ensures.keeps;
      copies = c.in_ok-copy_one.ensures.copies;
      done = copied_on (numbers c.args.found.now) (table_of c.loop-node.copies) T' c.loop-node.node-index _ e c.loop-node.invariant.done
          (subst (Gains (table_of c.loop-node.copies) T') (c.loop-node.invariant.extends.roots _ lt ∙ end) c.in_ok-copy_one.ensures.gains);
    }

pub returns-clause-all : goal.returns-clause-all
returns-clause-all c =
    let l = numbers_length c.args.found.now in
    let over = c.loop-node-test.false in
    all_copied c.args.store.now.nodes c.args.from.0 (numbers c.args.found.now) (table_of c.loop-node.copies) c.loop-node.node-index c.requires.found (omega arith) c.loop-node.invariant.done
