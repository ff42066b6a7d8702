use Rattle.level_unify.specs.declared.plan.Plan.TheVariants.{BindLeft, BindRight, LinkParts, Clash}
use Rattle.level_unify.specs.Solutions.{equations_of, is_opened, caps_of}
use Rattle.level_unify.proofs.Steps.{Planned, planned, free_at, bound_left, bound_right, inside_clash, inside_clash_turned}
use Rattle.level_unify.proofs.Differing.{never_planned}
use Rattle.level_unify.proofs.Recording.{left_recorded, right_recorded}
use Rattle.level_unify.proofs.solve.make_one.Goals as goal

pub bind-requires-clause-var : goal.bind-requires-clause-var
bind-requires-clause-var c =
    let p : Planned c.args.store.now.nodes c.args.left.0 c.args.right.0 BindLeft =
    planned c.args.store.now.nodes c.args.left.0 c.args.right.0 c.read.result c.read-2.result BindLeft c.requires.left c.requires.right c.requires.left_root c.requires.right_root c.read.ensures c.read-2.ensures c.in-BindLeft.ensures in
    free_at c.args.store.now.nodes c.args.left.0 p.left c.requires.left c.requires.left_root p.left_at p.plans

pub bind-requires-in-BindRight-clause-var : goal.bind-requires-in-BindRight-clause-var
bind-requires-in-BindRight-clause-var c =
    let p : Planned c.args.store.now.nodes c.args.left.0 c.args.right.0 BindRight =
    planned c.args.store.now.nodes c.args.left.0 c.args.right.0 c.read.result c.read-2.result BindRight c.requires.left c.requires.right c.requires.left_root c.requires.right_root c.read.ensures c.read-2.ensures c.in-BindRight.ensures in
    free_at c.args.store.now.nodes c.args.right.0 p.right c.requires.right c.requires.right_root p.right_at p.plans

pub tie-requires-clause-heads : goal.tie-requires-clause-heads
tie-requires-clause-heads c =
    let p : Planned c.args.store.now.nodes c.args.left.0 c.args.right.0 LinkParts =
    planned c.args.store.now.nodes c.args.left.0 c.args.right.0 c.read.result c.read-2.result LinkParts c.requires.left c.requires.right c.requires.left_root c.requires.right_root c.read.ensures c.read-2.ensures c.in-LinkParts.ensures in
    (p.left, p.right, p.left_at, p.right_at, p.plans)

pub returns-in-BindLeft-clause-stepped : goal.returns-in-BindLeft-clause-stepped
returns-in-BindLeft-clause-stepped c =
    let p : Planned c.args.store.now.nodes c.args.left.0 c.args.right.0 BindLeft =
    planned c.args.store.now.nodes c.args.left.0 c.args.right.0 c.read.result c.read-2.result BindLeft c.requires.left c.requires.right c.requires.left_root c.requires.right_root c.read.ensures c.read-2.ensures c.in-BindLeft.ensures in
    bound_left (is_opened c.args.todo.now) c.args.store.now.nodes c.bind.new.store.nodes c.args.left.0 c.args.right.0 (equations_of c.args.todo.now.pairs.items) c.bind.result p c.bind.ensures.linked

pub returns-in-BindRight-clause-stepped : goal.returns-in-BindRight-clause-stepped
returns-in-BindRight-clause-stepped c =
    let p : Planned c.args.store.now.nodes c.args.left.0 c.args.right.0 BindRight =
    planned c.args.store.now.nodes c.args.left.0 c.args.right.0 c.read.result c.read-2.result BindRight c.requires.left c.requires.right c.requires.left_root c.requires.right_root c.read.ensures c.read-2.ensures c.in-BindRight.ensures in
    bound_right (is_opened c.args.todo.now) c.args.store.now.nodes c.bind-in-BindRight.new.store.nodes c.args.left.0 c.args.right.0 (equations_of c.args.todo.now.pairs.items) c.bind-in-BindRight.result p c.bind-in-BindRight.ensures.linked

pub returns-in-BindLeft-clause-clash : goal.returns-in-BindLeft-clause-clash
returns-in-BindLeft-clause-clash c =
    let p : Planned c.args.store.now.nodes c.args.left.0 c.args.right.0 BindLeft =
    planned c.args.store.now.nodes c.args.left.0 c.args.right.0 c.read.result c.read-2.result BindLeft c.requires.left c.requires.right c.requires.left_root c.requires.right_root c.read.ensures c.read-2.ensures c.in-BindLeft.ensures in
    inside_clash c.args.store.now.nodes c.args.left.0 c.args.right.0 p.right c.bind.result c.requires.sound c.requires.right c.requires.right_root p.right_at c.requires.other c.bind.ensures.clash

pub returns-in-BindRight-clause-clash : goal.returns-in-BindRight-clause-clash
returns-in-BindRight-clause-clash c =
    let p : Planned c.args.store.now.nodes c.args.left.0 c.args.right.0 BindRight =
    planned c.args.store.now.nodes c.args.left.0 c.args.right.0 c.read.result c.read-2.result BindRight c.requires.left c.requires.right c.requires.left_root c.requires.right_root c.read.ensures c.read-2.ensures c.in-BindRight.ensures in
    inside_clash_turned c.args.store.now.nodes c.args.left.0 c.args.right.0 p.left c.bind-in-BindRight.result c.requires.sound c.requires.left c.requires.left_root p.left_at c.requires.other c.bind-in-BindRight.ensures.clash

pub returns-in-LinkParts-clause-clash : goal.returns-in-LinkParts-clause-clash
returns-in-LinkParts-clause-clash c =
    let p : Planned c.args.store.now.nodes c.args.left.0 c.args.right.0 LinkParts =
    planned c.args.store.now.nodes c.args.left.0 c.args.right.0 c.read.result c.read-2.result LinkParts c.requires.left c.requires.right c.requires.left_root c.requires.right_root c.read.ensures c.read-2.ensures c.in-LinkParts.ensures in
    inside_clash c.args.store.now.nodes c.args.left.0 c.args.right.0 p.right c.tie.result c.requires.sound c.requires.right c.requires.right_root p.right_at c.requires.other c.tie.ensures.clash

pub returns-in-Clash-clause-clash : goal.returns-in-Clash-clause-clash
returns-in-Clash-clause-clash c = λ e none.
    let p : Planned c.args.store.now.nodes c.args.left.0 c.args.right.0 Clash =
    planned c.args.store.now.nodes c.args.left.0 c.args.right.0 c.read.result c.read-2.result Clash c.requires.left c.requires.right c.requires.left_root c.requires.right_root c.read.ensures c.read-2.ensures c.in-Clash.ensures in
    never_planned c.args.store.now.nodes c.args.left.0 c.args.right.0 c.requires.sound c.requires.other c.requires.left c.requires.right c.requires.left_root c.requires.right_root p none

pub returns-in-BindLeft-clause-recorded : goal.returns-in-BindLeft-clause-recorded
returns-in-BindLeft-clause-recorded c =
    let p : Planned c.args.store.now.nodes c.args.left.0 c.args.right.0 BindLeft =
    planned c.args.store.now.nodes c.args.left.0 c.args.right.0 c.read.result c.read-2.result BindLeft c.requires.left c.requires.right c.requires.left_root c.requires.right_root c.read.ensures c.read-2.ensures c.in-BindLeft.ensures in
    left_recorded c.args.store.now.nodes c.bind.new.store.nodes c.args.left.0 c.args.right.0 (caps_of c.args.limits.now.items) (caps_of c.bind.new.limits.items) c.bind.result p c.bind.ensures.linked c.bind.ensures.recorded

pub returns-in-BindRight-clause-recorded : goal.returns-in-BindRight-clause-recorded
returns-in-BindRight-clause-recorded c =
    let p : Planned c.args.store.now.nodes c.args.left.0 c.args.right.0 BindRight =
    planned c.args.store.now.nodes c.args.left.0 c.args.right.0 c.read.result c.read-2.result BindRight c.requires.left c.requires.right c.requires.left_root c.requires.right_root c.read.ensures c.read-2.ensures c.in-BindRight.ensures in
    right_recorded c.args.store.now.nodes c.bind-in-BindRight.new.store.nodes c.args.left.0 c.args.right.0 (caps_of c.args.limits.now.items) (caps_of c.bind-in-BindRight.new.limits.items) c.bind-in-BindRight.result p
    c.bind-in-BindRight.ensures.linked c.bind-in-BindRight.ensures.recorded
