use Rattle.std.proofs.Common.{◌∙◌, ap, arith, sym}
use Rattle.std.proofs.lemmas.Result.{err_from_is_err_and}
use Rattle.std.proofs.lemmas.List.{length-map}
use Rattle.type_nodes.proofs.Trails.{keeps_trans}
use Rattle.level_unify.specs.Solutions.{Cap, caps_of}
use Rattle.level_unify.specs.Limits.{cap_in, caps_in}
use Rattle.level_unify.proofs.Numbers.{cap_get, caps_length}
use Rattle.level_unify.proofs.Capping.{capped_on, never_capped, capped_all}
use Rattle.level_unify.proofs.Passes.{pass_get, pass_var, pass_free}
use Rattle.level_unify.proofs.limits.lower_each.Goals as goal

pub limit_in-requires : goal.limit_in-requires
limit_in-requires c =
    let e = cap_get c.args.limits.now c.loop-limit.limit-index (record { var = record { 0 = 0 }; level = 0; scope = 0 }) c.loop-limit-test.true in
    (c.requires.limits _ (c.loop-limit.limit-index, e)).1

pub lower_reached-requires-clause-inside : goal.lower_reached-requires-clause-inside
lower_reached-requires-clause-inside c =
    let e = cap_get c.args.limits.now c.loop-limit.limit-index (record { var = record { 0 = 0 }; level = 0; scope = 0 }) c.loop-limit-test.true in
    let lt = (c.requires.limits _ (c.loop-limit.limit-index, e)).0 in
    let same = ap (λ (x : Cap). x.0) c.limit_in.ensures ∙ pass_var c.args.pass _ in
    let len = c.loop-limit.invariant.0.same.len in
    omega arith

pub lower_reached-requires-clause-free : goal.lower_reached-requires-clause-free
lower_reached-requires-clause-free c =
    let e = cap_get c.args.limits.now c.loop-limit.limit-index (record { var = record { 0 = 0 }; level = 0; scope = 0 }) c.loop-limit-test.true in
    let free = pass_free c.args.pass _ (c.requires.limits _ (c.loop-limit.limit-index, e)).1 in
    λ f. free (ap (λ (x : Cap). x.1) (sym c.limit_in.ensures) ∙ f)

pub returns-in_err-lower_reached-clause-clash : goal.returns-in_err-lower_reached-clause-clash
returns-in_err-lower_reached-clause-clash c =
    let p = err_from_is_err_and c.from_residual.result c.from_residual.ensures.1 in
    let e = pass_get c.args.pass c.args.limits.now c.loop-limit.limit-index (record { var = record { 0 = 0 }; level = 0; scope = 0 }) c.limit_in.result c.loop-limit-test.true c.limit_in.ensures in
    rw p.1 (λ h. never_capped c.args.store.now.nodes c.loop-limit.store.nodes (caps_in c.args.pass (caps_of c.args.limits.now)) c.loop-limit.limit-index _ e c.loop-limit.invariant.0 (c.in_err-lower_reached.ensures.clash (sym p.2 ∙ h)))

pub loop-limit-preserved : goal.loop-limit-preserved
loop-limit-preserved c =
    let e = pass_get c.args.pass c.args.limits.now c.loop-limit.limit-index (record { var = record { 0 = 0 }; level = 0; scope = 0 }) c.limit_in.result c.loop-limit-test.true c.limit_in.ensures in (
      capped_on c.args.store.now.nodes c.loop-limit.store.nodes c.lower_reached.new.store.nodes (caps_in c.args.pass (caps_of c.args.limits.now)) c.loop-limit.limit-index _ e c.loop-limit.invariant.0 c.in_ok-lower_reached.ensures.capped.0,
      keeps_trans c.args.store.now c.loop-limit.store c.lower_reached.new.store c.loop-limit.invariant.1 c.lower_reached.ensures.keeps,
      c.in_ok-lower_reached.ensures.capped.1,
    )

pub returns-clause-capped : goal.returns-clause-capped
returns-clause-capped c =
    let l = caps_length c.args.limits.now in
    let l' = length-map (caps_of c.args.limits.now) (cap_in c.args.pass) in
    let over = c.loop-limit-test.false in
    capped_all c.args.store.now.nodes c.loop-limit.store.nodes (caps_in c.args.pass (caps_of c.args.limits.now)) c.loop-limit.limit-index (omega arith) c.loop-limit.invariant.0
