use Rattle.std.proofs.Common.{◌≡◌, sym, List, [], ◌∷◌, ◌++◌, length, refl, ap, ◌∙◌, arith}
use Rattle.std.proofs.lemmas.List.{map-append}
use Rattle.std.specs.Prelude.{nat_eq}
use Rattle.std.specs.HashSet.{contains}
use Rattle.type_nodes.specs.Views.{numbers}
use Rattle.level_unify.specs.declared.walk.Visit.{Visit}
use Rattle.level_unify.specs.Walks.{visit_of, visits_of, course_of}
use Rattle.level_unify.proofs.Walking.{walk_start, walk_on, walk_end, none_beyond, visit_inside}
use Rattle.level_unify.proofs.walk.reached_beyond.Goals as goal

-- the visits of the way that one was taken from
taken : (way rest : List Visit) (s : Visit) → way ≡ rest ++ s ∷ [] → visits_of way ≡ visits_of rest ++ visit_of s ∷ []
taken way rest s e = ap visits_of e ∙ map-append visit_of rest (s ∷ [])

no_visits : (way : List Visit) → length way ≡ 0 → visits_of way ≡ []
no_visits [] e = refl
no_visits (s ∷ way) e = absurd (omega arith)

pub returns-then-contains-clause-found : goal.returns-then-contains-clause-found
returns-then-contains-clause-found c =
    none_beyond c.args.store.now.nodes (contains nat_eq c.args.done.now) c.args.from.0 (numbers c.new.result.items) (ap (contains nat_eq c.args.done.now) (sym c.root-start.ensures.root) ∙ sym c.contains.ensures ∙ c.if-contains.true) (ap numbers c.new.ensures.items)

pub loop-visit-init : goal.loop-visit-init
loop-visit-init c =
    walk_start c.args.store.now.nodes c.root-start.ensures.sound (contains nat_eq c.args.done.now) c.args.from.0 (course_of c.args.done.now (record { found = c.new.result; way = c.push.new.way })) c.requires refl
    (ap (contains nat_eq c.args.done.now) (sym c.root-start.ensures.root) ∙ sym c.contains.ensures ∙ c.if-contains.false)
    (ap numbers c.new.ensures.items)
    (c.in_ok-push.ensures ∙ (λ i. visits_of (c.new-2.ensures.items i) ++ (c.root-start.ensures.root i, 0) ∷ []))

pub step-requires-clause-node : goal.step-requires-clause-node
step-requires-clause-node c =
    visit_inside c.args.store.now.nodes (contains nat_eq c.args.done.now) c.args.from.0 (course_of c.loop-visit.done c.loop-visit.walk) (visits_of c.pop.new.self.items) (visit_of c.in-Some.visit)
    (taken c.loop-visit.walk.way.items c.pop.new.self.items c.in-Some.visit c.in-Some.ensures.items) c.loop-visit.invariant

pub loop-visit-smaller : goal.loop-visit-smaller
loop-visit-smaller c =
    (walk_on c.args.store.now.nodes (contains nat_eq c.args.done.now) c.args.from.0 (course_of c.loop-visit.done c.loop-visit.walk) (course_of c.step.new.done c.step.new.walk) (visits_of c.pop.new.self.items) (visit_of c.in-Some.visit)
    (taken c.loop-visit.walk.way.items c.pop.new.self.items c.in-Some.visit c.in-Some.ensures.items) c.in_ok-step.ensures c.loop-visit.invariant).less

pub loop-visit-preserved : goal.loop-visit-preserved
loop-visit-preserved c =
    (walk_on c.args.store.now.nodes (contains nat_eq c.args.done.now) c.args.from.0 (course_of c.loop-visit.done c.loop-visit.walk) (course_of c.step.new.done c.step.new.walk) (visits_of c.pop.new.self.items) (visit_of c.in-Some.visit)
    (taken c.loop-visit.walk.way.items c.pop.new.self.items c.in-Some.visit c.in-Some.ensures.items) c.in_ok-step.ensures c.loop-visit.invariant).on

pub returns-clause-found : goal.returns-clause-found
returns-clause-found c =
    walk_end c.args.store.now.nodes (contains nat_eq c.args.done.now) c.args.from.0 (course_of c.loop-visit.done c.loop-visit.walk) (no_visits c.loop-visit.walk.way.items (let e = c.in_default.ensures.cases.0 in omega arith)) c.loop-visit.invariant
