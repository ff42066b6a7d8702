use Rattle.std.proofs.Common.{◌≡◌, false, List, [], ◌∷◌, ◌++◌, ap, sym, ◌∙◌}
use Rattle.std.specs.Prelude.{nat_eq}
use Rattle.std.specs.List.{list_any}
use Rattle.std.specs.HashSet.{contains}
use Rattle.std.proofs.lemmas.Result.{err_from_is_err_and}
use Rattle.std.proofs.lemmas.List.{map-append}
use Rattle.type_nodes.proofs.Trails.{keeps_refl, keeps_trans}
use Rattle.level_unify.specs.declared.solve.Pair.{Pair}
use Rattle.level_unify.specs.Solutions.{equation_of, equations_of, is_opened, caps_of}
use Rattle.level_unify.proofs.Solving.{solving_start, taken_inside, solving_skip, solving_step, solving_clash, own_root}
use Rattle.level_unify.proofs.Recording.{tracked_on, tracked_start}
use Rattle.level_unify.proofs.solve.solve.Goals as goal

-- the equations of the list that one was taken from
taken : (todo rest : List Pair) (p : Pair) → todo ≡ rest ++ p ∷ [] → equations_of todo ≡ equations_of rest ++ equation_of p ∷ []
taken todo rest p e = ap equations_of e ∙ map-append equation_of rest (p ∷ [])

pub root-left-requires : goal.root-left-requires
root-left-requires c =
    (taken_inside c.args.store.now.nodes c.loop-pair.store.nodes c.args.a.0 c.args.b.0 (equations_of c.loop-pair.todo.pairs.items) (equations_of c.pop.new.self.items) (equation_of c.in-Some.pair)
    c.loop-pair.invariant.0 (taken c.loop-pair.todo.pairs.items c.pop.new.self.items c.in-Some.pair c.in-Some.ensures.items)).0

pub root-right-requires : goal.root-right-requires
root-right-requires c =
    (taken_inside c.args.store.now.nodes c.loop-pair.store.nodes c.args.a.0 c.args.b.0 (equations_of c.loop-pair.todo.pairs.items) (equations_of c.pop.new.self.items) (equation_of c.in-Some.pair)
    c.loop-pair.invariant.0 (taken c.loop-pair.todo.pairs.items c.pop.new.self.items c.in-Some.pair c.in-Some.ensures.items)).1

pub step-requires-clause-left : goal.step-requires-clause-left
step-requires-clause-left c =
    let h = (taken_inside c.args.store.now.nodes c.loop-pair.store.nodes c.args.a.0 c.args.b.0 (equations_of c.loop-pair.todo.pairs.items) (equations_of c.pop.new.self.items) (equation_of c.in-Some.pair)
    c.loop-pair.invariant.0 (taken c.loop-pair.todo.pairs.items c.pop.new.self.items c.in-Some.pair c.in-Some.ensures.items)).0 in
    (own_root c.loop-pair.store.nodes c.in-Some.pair.left.0 c.root-left.result.0 c.root-left.ensures.sound h c.root-left.ensures.root).0

pub step-requires-clause-right : goal.step-requires-clause-right
step-requires-clause-right c =
    let h = (taken_inside c.args.store.now.nodes c.loop-pair.store.nodes c.args.a.0 c.args.b.0 (equations_of c.loop-pair.todo.pairs.items) (equations_of c.pop.new.self.items) (equation_of c.in-Some.pair)
    c.loop-pair.invariant.0 (taken c.loop-pair.todo.pairs.items c.pop.new.self.items c.in-Some.pair c.in-Some.ensures.items)).1 in
    (own_root c.loop-pair.store.nodes c.in-Some.pair.right.0 c.root-right.result.0 c.root-right.ensures.sound h c.root-right.ensures.root).0

pub step-requires-clause-left_root : goal.step-requires-clause-left_root
step-requires-clause-left_root c =
    let h = (taken_inside c.args.store.now.nodes c.loop-pair.store.nodes c.args.a.0 c.args.b.0 (equations_of c.loop-pair.todo.pairs.items) (equations_of c.pop.new.self.items) (equation_of c.in-Some.pair)
    c.loop-pair.invariant.0 (taken c.loop-pair.todo.pairs.items c.pop.new.self.items c.in-Some.pair c.in-Some.ensures.items)).0 in
    (own_root c.loop-pair.store.nodes c.in-Some.pair.left.0 c.root-left.result.0 c.root-left.ensures.sound h c.root-left.ensures.root).1

pub step-requires-clause-right_root : goal.step-requires-clause-right_root
step-requires-clause-right_root c =
    let h = (taken_inside c.args.store.now.nodes c.loop-pair.store.nodes c.args.a.0 c.args.b.0 (equations_of c.loop-pair.todo.pairs.items) (equations_of c.pop.new.self.items) (equation_of c.in-Some.pair)
    c.loop-pair.invariant.0 (taken c.loop-pair.todo.pairs.items c.pop.new.self.items c.in-Some.pair c.in-Some.ensures.items)).1 in
    (own_root c.loop-pair.store.nodes c.in-Some.pair.right.0 c.root-right.result.0 c.root-right.ensures.sound h c.root-right.ensures.root).1

pub loop-pair-preserved-in-Continue-branch-2 : goal.loop-pair-preserved-in-Continue-branch-2
loop-pair-preserved-in-Continue-branch-2 c = (
  solving_step (is_opened c.loop-pair.todo) (is_opened c.step.new.todo) c.args.store.now.nodes c.loop-pair.store.nodes c.step.new.store.nodes c.args.a.0 c.args.b.0 c.root-left.result.0 c.root-right.result.0
      (equations_of c.loop-pair.todo.pairs.items) (equations_of c.pop.new.self.items) (equations_of c.step.new.todo.pairs.items) (equation_of c.in-Some.pair)
      c.loop-pair.invariant.0 (taken c.loop-pair.todo.pairs.items c.pop.new.self.items c.in-Some.pair c.in-Some.ensures.items) c.root-left.ensures.root c.root-right.ensures.root c.in_ok-step.ensures.stepped,
  keeps_trans c.args.store.now c.loop-pair.store c.step.new.store c.loop-pair.invariant.1 c.step.ensures.keeps,
  tracked_on c.args.store.now.nodes c.loop-pair.store.nodes c.step.new.store.nodes c.args.a.0 c.args.b.0 c.root-left.result.0 c.root-right.result.0 (caps_of c.loop-pair.limits.items) (caps_of c.step.new.limits.items)
      (equations_of c.loop-pair.todo.pairs.items) (equations_of c.pop.new.self.items) (equation_of c.in-Some.pair) c.loop-pair.invariant.0
      (taken c.loop-pair.todo.pairs.items c.pop.new.self.items c.in-Some.pair c.in-Some.ensures.items) c.root-left.ensures.root c.root-right.ensures.root c.in_ok-step.ensures.recorded c.loop-pair.invariant.2,
  c.in_ok-step.ensures.sound,
  c.in_ok-step.ensures.cleared,
)

pub returns-in_err-step-clause-clash : goal.returns-in_err-step-clause-clash
returns-in_err-step-clause-clash c =
    let p = err_from_is_err_and c.from_residual-in_err-step.result c.from_residual-in_err-step.ensures.1 in
    rw p.1 (λ h. solving_clash c.args.store.now.nodes c.loop-pair.store.nodes c.args.a.0 c.args.b.0 c.root-left.result.0 c.root-right.result.0
    (equations_of c.loop-pair.todo.pairs.items) (equations_of c.pop.new.self.items) (equation_of c.in-Some.pair)
    c.loop-pair.invariant.0 (taken c.loop-pair.todo.pairs.items c.pop.new.self.items c.in-Some.pair c.in-Some.ensures.items) c.root-left.ensures.root c.root-right.ensures.root
    (c.in_err-step.ensures.clash (sym p.2 ∙ h)))

pub loop-pair-preserved : goal.loop-pair-preserved
loop-pair-preserved c = (
  solving_skip c.args.store.now.nodes c.loop-pair.store.nodes c.args.a.0 c.args.b.0 (equations_of c.loop-pair.todo.pairs.items) (equations_of c.pop.new.self.items) (equation_of c.in-Some.pair)
      c.loop-pair.invariant.0 (taken c.loop-pair.todo.pairs.items c.pop.new.self.items c.in-Some.pair c.in-Some.ensures.items)
      (sym c.root-left.ensures.root ∙ c.if-left-right.false ∙ c.root-right.ensures.root),
  c.loop-pair.invariant.1,
  c.loop-pair.invariant.2,
  c.loop-pair.invariant.3,
  c.loop-pair.invariant.4,
)

pub loop-pair-init : goal.loop-pair-init
loop-pair-init c = (
  solving_start c.args.store.now.nodes c.args.a.0 c.args.b.0 (equations_of c.push_pair.new.pairs.items) c.requires.a c.requires.b (c.in_ok-push_pair.ensures ∙ ap (λ es. equations_of es ++ (c.args.a.0, c.args.b.0) ∷ []) c.new.ensures.items),
  keeps_refl c.args.store.now,
  tracked_start c.args.store.now.nodes c.args.a.0 c.args.b.0 (caps_of c.args.limits.now.items) (ap caps_of c.requires.empty),
  c.requires.sound,
  record { each = λ n x has at. absurd (let e : contains nat_eq c.new-3.result n ≡ false = ap (list_any (nat_eq n)) c.new-3.ensures.empty in cc) },
)

pub returns-in_err-step-clause-keeps : goal.returns-in_err-step-clause-keeps
returns-in_err-step-clause-keeps c = keeps_trans c.args.store.now c.loop-pair.store c.step.new.store c.loop-pair.invariant.1 c.step.ensures.keeps
