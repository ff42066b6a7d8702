use Rattle.level_unify.proofs.Solving.{own_root}
use Rattle.level_unify.proofs.Inside.{not_same, not_free, inside_answer, tested_free}
use Rattle.level_unify.proofs.unifying.stands_inside.Goals as goal
use Rattle.level_unify.proofs.unifying.stands_inside.Goals.{then-var-root-via-then-var-root, then-var-root-via-else-var-root+then-not-is_free}

pub read-requires : goal.read-requires
read-requires c = (own_root c.args.store.now.nodes c.args.inner.0 c.root-var.result.0 c.root-var.ensures.sound c.requires.inner c.root-var.ensures.root).0

pub occurs-requires-clause-var : goal.occurs-requires-clause-var
occurs-requires-clause-var c = (own_root c.args.store.now.nodes c.args.inner.0 c.root-var.result.0 c.root-var.ensures.sound c.requires.inner c.root-var.ensures.root).1

pub returns-then-var-root-clause-inside : goal.returns-then-var-root-clause-inside
returns-then-var-root-clause-inside c = elim c.then-var-root.branch [
  | then-var-root-via-then-var-root w ↦
      not_same c.args.store.now.nodes c.args.inner.0 c.args.outer.0 c.root-var.result.0 c.root.result.0 c.root-var.ensures.root c.root.ensures.root w.if-var-root.true
  | then-var-root-via-else-var-root+then-not-is_free w ↦
      not_free c.args.store.now.nodes c.args.inner.0 c.args.outer.0 w.is_free.result
      (tested_free c.args.store.now.nodes c.args.inner.0 c.root-var.result.0 w.read.result w.is_free.result c.root-var.ensures.sound c.requires.inner c.root-var.ensures.root
      (own_root c.args.store.now.nodes c.args.inner.0 c.root-var.result.0 c.root-var.ensures.sound c.requires.inner c.root-var.ensures.root).1 w.read.ensures w.is_free.ensures) w.if-not-is_free.true
]

pub returns-clause-inside : goal.returns-clause-inside
returns-clause-inside c =
    inside_answer c.args.store.now.nodes c.args.inner.0 c.args.outer.0 c.root-var.result.0 c.root.result.0 c.is_free.result c.occurs.result
    (tested_free c.args.store.now.nodes c.args.inner.0 c.root-var.result.0 c.read.result c.is_free.result c.root-var.ensures.sound c.requires.inner c.root-var.ensures.root
    (own_root c.args.store.now.nodes c.args.inner.0 c.root-var.result.0 c.root-var.ensures.sound c.requires.inner c.root-var.ensures.root).1 c.read.ensures c.is_free.ensures)
    c.if-not-is_free.false c.root-var.ensures.root c.root.ensures.root c.if-var-root.false c.occurs.ensures.yes c.occurs.ensures.no
