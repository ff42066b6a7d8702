use Rattle.typing_state.proofs.Going.{goes_refl}
use Rattle.std.proofs.Common.{rules, ◌≢◌, [], subst}
use Rattle.std.proofs.lemmas.Result.{IfOk-weaker}
use Rattle.env_table.specs.declared.entries.Template.{out-Template}
use Rattle.signature_match.specs.Wanting.{IsRealisedIn}
use Rattle.signature_match.proofs.Puts.{wants_realised}
use Rattle.signature_match.proofs.matching.wanted_for.Goals as goal

pub returns-else-is_empty-clause-wanted : goal.returns-else-is_empty-clause-wanted
returns-else-is_empty-clause-wanted c =
    let old = c.args.at.now.store.nodes in
    let new = c.realised_in.new.at.store.nodes in
    let A = c.args.actual.now in
    let t = c.args.wanted.now in
    let some : (out-Template t).made.items ≢ [] = search rules in
    IfOk-weaker c.realised_in.result _ _ (λ s in_it. wants_realised old new A t s.value some (subst (λ b. IsRealisedIn old new A t b s.value) c.deref.ensures in_it)) c.realised_in.ensures.put

pub returns-else-is_empty-clause-goes : goal.returns-else-is_empty-clause-goes
returns-else-is_empty-clause-goes c = c.realised_in.ensures.goes

pub returns-then-is_empty-clause-goes : goal.returns-then-is_empty-clause-goes
returns-then-is_empty-clause-goes c = goes_refl c.args.at.now
