use Rattle.std.proofs.Common.{rules, arith, ◌≡◌, ◌+◌, ◌≤◌, ℕ, List, [], ◌∷◌, ◌++◌, length, length-append, Option, subst, ◌∙◌, sym}
use Rattle.std.specs.List.{Contains}
use Rattle.std.proofs.lemmas.Iterator.Adapters.{YieldsList-from_vec}
use Rattle.std.proofs.lemmas.Iterator.Consumers.{YieldsList-end, YieldsList-turn}
use Rattle.std.proofs.lemmas.List.Elements.{Contains-get_or}
use Rattle.construct_terms.specs.Terms.{AreKept, told_by}
use Rattle.construct_terms.proofs.Kept.{kept_more, kept_same}
use Rattle.construct_terms.proofs.Spending.{TriedSoFar, tried_all, tried_next}
use Rattle.construct_terms.proofs.candidates.construct.Goals as goal

pub loop-candidate-preserved-in-Continue-branch-3 : goal.loop-candidate-preserved-in-Continue-branch-3
loop-candidate-preserved-in-Continue-branch-3 g c =
    let items = c.args.candidates.items in
    let yielded = c.loop-candidate.yielded in
    let gives = c.into_iter-candidate-iterator.ensures.into_iter_gives in
    let road = YieldsList-from_vec {s = c.into_iter-candidate-iterator.result} items gives.0 (gives.1 ∙ c.args.candidates.ok.0) in
    let turn = YieldsList-turn road yielded c.loop-candidate.candidate-iterator c.loop-candidate.yielded_by c.next.result c.next.new.self c.in-Some.candidate c.in-Some.is c.next.ensures.steps in
    let has : Contains items c.in-Some.candidate = subst (Contains items) (sym turn.1) (Contains-get_or items (length yielded) c.in-Some.candidate turn.0) in
    let tries : (m : ℕ) → length yielded + 1 ≤ m → TriedSoFar g.T.Trial.spends (g.T.Trial.text c.args.trial.now) items m c.args.trial.now c.first_new_fault.new.self (g.C.Counts.tallies c.args.counts.now) (g.C.Counts.tallies c.first_new_fault.new.counts) =
    λ m le. tried_next g.T.Trial.spends g.met.T.Trial.joins (g.T.Trial.text c.args.trial.now) (g.T.Trial.text c.loop-candidate.trial) items c.in-Some.candidate (length yielded) m c.args.trial.now c.loop-candidate.trial c.first_new_fault.new.self
    (g.C.Counts.tallies c.args.counts.now) (g.C.Counts.tallies c.loop-candidate.counts) (g.C.Counts.tallies c.first_new_fault.new.counts) le has c.loop-candidate.invariant.1 c.loop-candidate.invariant.3 c.first_new_fault.ensures.spends in
    let text = g.T.Trial.text c.args.trial.now in
    let stays : g.T.Trial.text c.loop-candidate.trial ≡ text = c.loop-candidate.invariant.1 in
    let told = subst (λ (t : List ℕ). told_by (g.T.Trial.tells t) c.in-Some.candidate c.in_ok-first_new_fault.field-0) stays c.in_ok-first_new_fault.ensures.told in
    let none = subst (λ (r : Option ℕ). told_by (g.T.Trial.tells text) c.in-Some.candidate r) c.in-None-2.is told in
    let are = kept_more (told_by (g.T.Trial.tells text)) c.loop-candidate.yielded c.loop-candidate.kept.items c.in-Some.candidate c.loop-candidate.invariant.0 none in (
      subst (λ ks. AreKept (told_by (g.T.Trial.tells text)) (c.loop-candidate.yielded ++ c.in-Some.candidate ∷ []) ks) (sym c.in_ok-keep-in-None-2.ensures) are,
      c.in_ok-first_new_fault.ensures.text ∙ stays,
      search rules,
      tries (length (yielded ++ c.in-Some.candidate ∷ [])) (omega (arith, length-append yielded (c.in-Some.candidate ∷ []))),
    )

pub loop-candidate-preserved : goal.loop-candidate-preserved
loop-candidate-preserved g c =
    let items = c.args.candidates.items in
    let yielded = c.loop-candidate.yielded in
    let gives = c.into_iter-candidate-iterator.ensures.into_iter_gives in
    let road = YieldsList-from_vec {s = c.into_iter-candidate-iterator.result} items gives.0 (gives.1 ∙ c.args.candidates.ok.0) in
    let turn = YieldsList-turn road yielded c.loop-candidate.candidate-iterator c.loop-candidate.yielded_by c.next.result c.next.new.self c.in-Some.candidate c.in-Some.is c.next.ensures.steps in
    let has : Contains items c.in-Some.candidate = subst (Contains items) (sym turn.1) (Contains-get_or items (length yielded) c.in-Some.candidate turn.0) in
    let tries : (m : ℕ) → length yielded + 1 ≤ m → TriedSoFar g.T.Trial.spends (g.T.Trial.text c.args.trial.now) items m c.args.trial.now c.first_new_fault.new.self (g.C.Counts.tallies c.args.counts.now) (g.C.Counts.tallies c.first_new_fault.new.counts) =
    λ m le. tried_next g.T.Trial.spends g.met.T.Trial.joins (g.T.Trial.text c.args.trial.now) (g.T.Trial.text c.loop-candidate.trial) items c.in-Some.candidate (length yielded) m c.args.trial.now c.loop-candidate.trial c.first_new_fault.new.self
    (g.C.Counts.tallies c.args.counts.now) (g.C.Counts.tallies c.loop-candidate.counts) (g.C.Counts.tallies c.first_new_fault.new.counts) le has c.loop-candidate.invariant.1 c.loop-candidate.invariant.3 c.first_new_fault.ensures.spends in
    let text = g.T.Trial.text c.args.trial.now in
    let stays : g.T.Trial.text c.loop-candidate.trial ≡ text = c.loop-candidate.invariant.1 in
    let told = subst (λ (t : List ℕ). told_by (g.T.Trial.tells t) c.in-Some.candidate c.in_ok-first_new_fault.field-0) stays c.in_ok-first_new_fault.ensures.told in
    let some = subst (λ (r : Option ℕ). told_by (g.T.Trial.tells text) c.in-Some.candidate r) c.in-Some-2.is told in (
      kept_same (told_by (g.T.Trial.tells text)) c.loop-candidate.yielded c.loop-candidate.kept.items c.in-Some.candidate c.in-Some-2.field-0 c.loop-candidate.invariant.0 some,
      c.in_ok-first_new_fault.ensures.text ∙ stays,
      search rules,
      tries (length (yielded ++ c.in-Some.candidate ∷ [])) (omega (arith, length-append yielded (c.in-Some.candidate ∷ []))),
    )

pub returns-in_err-first_new_fault-clause-spends : goal.returns-in_err-first_new_fault-clause-spends
returns-in_err-first_new_fault-clause-spends g c =
    let items = c.args.candidates.items in
    let yielded = c.loop-candidate.yielded in
    let gives = c.into_iter-candidate-iterator.ensures.into_iter_gives in
    let road = YieldsList-from_vec {s = c.into_iter-candidate-iterator.result} items gives.0 (gives.1 ∙ c.args.candidates.ok.0) in
    let turn = YieldsList-turn road yielded c.loop-candidate.candidate-iterator c.loop-candidate.yielded_by c.next.result c.next.new.self c.in-Some.candidate c.in-Some.is c.next.ensures.steps in
    let has : Contains items c.in-Some.candidate = subst (Contains items) (sym turn.1) (Contains-get_or items (length yielded) c.in-Some.candidate turn.0) in
    let tries : (m : ℕ) → length yielded + 1 ≤ m → TriedSoFar g.T.Trial.spends (g.T.Trial.text c.args.trial.now) items m c.args.trial.now c.first_new_fault.new.self (g.C.Counts.tallies c.args.counts.now) (g.C.Counts.tallies c.first_new_fault.new.counts) =
    λ m le. tried_next g.T.Trial.spends g.met.T.Trial.joins (g.T.Trial.text c.args.trial.now) (g.T.Trial.text c.loop-candidate.trial) items c.in-Some.candidate (length yielded) m c.args.trial.now c.loop-candidate.trial c.first_new_fault.new.self
    (g.C.Counts.tallies c.args.counts.now) (g.C.Counts.tallies c.loop-candidate.counts) (g.C.Counts.tallies c.first_new_fault.new.counts) le has c.loop-candidate.invariant.1 c.loop-candidate.invariant.3 c.first_new_fault.ensures.spends in
    tried_all g.T.Trial.spends (g.T.Trial.text c.args.trial.now) items (length yielded + 1) c.args.trial.now c.first_new_fault.new.self (g.C.Counts.tallies c.args.counts.now) (g.C.Counts.tallies c.first_new_fault.new.counts) (omega (arith, turn.0)) (tries (length yielded + 1) (omega arith))

pub returns-in_err-keep-in-None-2-clause-spends : goal.returns-in_err-keep-in-None-2-clause-spends
returns-in_err-keep-in-None-2-clause-spends g c =
    let items = c.args.candidates.items in
    let yielded = c.loop-candidate.yielded in
    let gives = c.into_iter-candidate-iterator.ensures.into_iter_gives in
    let road = YieldsList-from_vec {s = c.into_iter-candidate-iterator.result} items gives.0 (gives.1 ∙ c.args.candidates.ok.0) in
    let turn = YieldsList-turn road yielded c.loop-candidate.candidate-iterator c.loop-candidate.yielded_by c.next.result c.next.new.self c.in-Some.candidate c.in-Some.is c.next.ensures.steps in
    let has : Contains items c.in-Some.candidate = subst (Contains items) (sym turn.1) (Contains-get_or items (length yielded) c.in-Some.candidate turn.0) in
    let tries : (m : ℕ) → length yielded + 1 ≤ m → TriedSoFar g.T.Trial.spends (g.T.Trial.text c.args.trial.now) items m c.args.trial.now c.first_new_fault.new.self (g.C.Counts.tallies c.args.counts.now) (g.C.Counts.tallies c.first_new_fault.new.counts) =
    λ m le. tried_next g.T.Trial.spends g.met.T.Trial.joins (g.T.Trial.text c.args.trial.now) (g.T.Trial.text c.loop-candidate.trial) items c.in-Some.candidate (length yielded) m c.args.trial.now c.loop-candidate.trial c.first_new_fault.new.self
    (g.C.Counts.tallies c.args.counts.now) (g.C.Counts.tallies c.loop-candidate.counts) (g.C.Counts.tallies c.first_new_fault.new.counts) le has c.loop-candidate.invariant.1 c.loop-candidate.invariant.3 c.first_new_fault.ensures.spends in
    tried_all g.T.Trial.spends (g.T.Trial.text c.args.trial.now) items (length yielded + 1) c.args.trial.now c.first_new_fault.new.self (g.C.Counts.tallies c.args.counts.now) (g.C.Counts.tallies c.first_new_fault.new.counts) (omega (arith, turn.0)) (tries (length yielded + 1) (omega arith))

pub returns-clause-spends : goal.returns-clause-spends
returns-clause-spends g c =
    let items = c.args.candidates.items in
    let yielded = c.loop-candidate.yielded in
    let gives = c.into_iter-candidate-iterator.ensures.into_iter_gives in
    let road = YieldsList-from_vec {s = c.into_iter-candidate-iterator.result} items gives.0 (gives.1 ∙ c.args.candidates.ok.0) in
    let (all, long) = YieldsList-end road yielded c.loop-candidate.candidate-iterator c.loop-candidate.yielded_by c.next.result c.next.new.self c.in-None.is c.next.ensures.steps in
    tried_all g.T.Trial.spends (g.T.Trial.text c.args.trial.now) items (length yielded) c.args.trial.now c.loop-candidate.trial (g.C.Counts.tallies c.args.counts.now) (g.C.Counts.tallies c.loop-candidate.counts) (omega (arith, long)) c.loop-candidate.invariant.3
