use Rattle.std.proofs.Common.{ap, subst, ◌∙◌, arith, option_map}
use Rattle.std.specs.Prelude.{nat_eq}
use Rattle.std.specs.Map.{lookup}
use Rattle.type_terms.specs.declared.types.NodeRef.{NodeRef}
use Rattle.type_nodes.specs.Views.{numbers}
use Rattle.type_nodes.proofs.Trails.{keeps_refl, keeps_trans}
use Rattle.level_unify.specs.Copies.{CopiedTo, fresh_node, table_of}
use Rattle.level_unify.proofs.Numbers.{number_get, numbers_length}
use Rattle.level_unify.proofs.Sources.{copied_start, copied_on, copies_inside}
use Rattle.level_unify.proofs.copies.copy_all.Goals as goal

pub copy_one-requires-clause-node : goal.copy_one-requires-clause-node
copy_one-requires-clause-node c =
    let e = number_get c.args.found.now c.loop-node.node-index (record { 0 = 0 }) c.loop-node-test.true in
    let lt = (c.requires.found.roots c.loop-node.node-index _ e).0 in
    let l = c.loop-node.invariant.0.extends.longer in
    omega arith

pub copy_one-requires-clause-end : goal.copy_one-requires-clause-end
copy_one-requires-clause-end c =
    let e = number_get c.args.found.now c.loop-node.node-index (record { 0 = 0 }) c.loop-node-test.true in
    let (lt, end, _) = c.requires.found.roots c.loop-node.node-index _ e in
    c.loop-node.invariant.0.extends.roots _ lt ∙ end

pub copy_one-requires-clause-inside : goal.copy_one-requires-clause-inside
copy_one-requires-clause-inside c = copies_inside c.args.store.now.nodes c.loop-node.store.nodes (fresh_node c.args.fresh) (numbers c.args.found.now) (table_of c.loop-node.copies) c.loop-node.node-index c.loop-node.invariant.0

pub loop-node-init : goal.loop-node-init
loop-node-init c = (
  copied_start c.args.store.now.nodes (fresh_node c.args.fresh) (numbers c.args.found.now) (table_of c.new-copies.result) (λ n. ap (λ es. option_map (λ (m : NodeRef). m.0) (lookup (nat_eq n) es)) c.new-copies.ensures.empty),
  keeps_refl c.args.store.now,
)

pub loop-node-preserved : goal.loop-node-preserved
loop-node-preserved c =
    let e = number_get c.args.found.now c.loop-node.node-index (record { 0 = 0 }) c.loop-node-test.true in (
      copied_on c.args.store.now.nodes c.loop-node.store.nodes c.copy_one.new.store.nodes c.args.root.0 (fresh_node c.args.fresh) (numbers c.args.found.now) (table_of c.loop-node.copies) (table_of c.copy_one.new.copies) c.loop-node.node-index _
          c.requires.sound c.requires.found e c.loop-node.invariant.0 c.in_ok-copy_one.ensures.copied,
      keeps_trans c.args.store.now c.loop-node.store c.copy_one.new.store c.loop-node.invariant.1 c.copy_one.ensures.keeps,
    )

pub returns-clause-copied : goal.returns-clause-copied
returns-clause-copied c =
    let l = numbers_length c.args.found.now in
    let over = c.loop-node-test.false in
    let within = c.loop-node.auto.node-index-end in
    subst (CopiedTo c.args.store.now.nodes c.loop-node.store.nodes (fresh_node c.args.fresh) (numbers c.args.found.now) (table_of c.loop-node.copies)) (omega arith) c.loop-node.invariant.0
