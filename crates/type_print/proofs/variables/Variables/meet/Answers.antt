use Rattle.type_print.specs.Meeting.{met_of, moves_of, move_of}
use Rattle.type_print.proofs.Weights.{root_node}
use Rattle.type_print.proofs.Meeting.{going_start, going_on, going_less, going_inside, gone}
use Rattle.type_print.proofs.variables.Variables.meet.Goals as goal

pub loop-step-init : goal.loop-step-init
loop-step-init c =
    let nodes = c.args.store.now.nodes in
    rw (c.in_ok-push.ensures, c.new-left.ensures.items) (
      (root_node nodes c.args.from.0 c.root.result.0 c.root.ensures.sound c.requires c.root.ensures.root, tt),
      λ weak all named. going_start nodes c.root.ensures.sound weak all c.args.from.0 c.root.result.0 (met_of c.args.self.now) c.requires c.root.ensures.root named,
    )

pub loop-step-smaller : goal.loop-step-smaller
loop-step-smaller c =
    let inside = rw c.in-Some.ensures.some at c.loop-step.invariant.0 in
    rw c.in-Some.ensures.some
    (going_less c.args.store.now.nodes c.root.ensures.sound (move_of c.in-Some.step) (met_of c.loop-step.self) (met_of c.go.new.self) (moves_of c.take_next.new.left.items) (moves_of c.go.new.left.items) inside.0 c.in_ok-go.ensures)

pub loop-step-preserved : goal.loop-step-preserved
loop-step-preserved c =
    let nodes = c.args.store.now.nodes in
    let inside = rw c.in-Some.ensures.some at c.loop-step.invariant.0 in
    let before = moves_of c.take_next.new.left.items in
    let after = moves_of c.go.new.left.items in (
      going_inside nodes c.root.ensures.sound (move_of c.in-Some.step) (met_of c.loop-step.self) (met_of c.go.new.self) before after inside.1 c.in_ok-go.ensures,
      λ weak all named.
          going_on nodes c.root.ensures.sound weak _ (move_of c.in-Some.step) (met_of c.loop-step.self) (met_of c.go.new.self) before after inside.0 c.in_ok-go.ensures
          (rw c.in-Some.ensures.some at (c.loop-step.invariant.1 weak all named)),
    )

pub returns : goal.returns
returns c weak all named = gone c.args.store.now.nodes weak _ (met_of c.loop-step.self) (moves_of c.loop-step.left.items) c.in_default.ensures.none (c.loop-step.invariant.1 weak all named)
