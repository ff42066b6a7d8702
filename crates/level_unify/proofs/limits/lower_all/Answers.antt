use Rattle.std.proofs.Common.{◌∙◌, arith, sym, subst}
use Rattle.std.proofs.lemmas.Result.{err_from_is_err_and}
use Rattle.std.proofs.lemmas.List.Sorted.{IsPermutation-trans}
use Rattle.level_unify.specs.declared.limits.Pass.TheVariants.{Levels, Scopes}
use Rattle.level_unify.specs.Solutions.{IsListed, caps_of}
use Rattle.level_unify.specs.Limits.{caps_in}
use Rattle.level_unify.proofs.Recording.{permuted_listed}
use Rattle.level_unify.proofs.Passes.{pass_of, capped_in_both, never_levels, never_in_scopes}
use Rattle.level_unify.proofs.limits.lower_all.Goals as goal

pub lower_each-requires : goal.lower_each-requires
lower_each-requires c = record {
  limits = λ x h. c.requires.limits x ((permuted_listed c.args.limits.now.items c.lowest_first.new.limits.items c.lowest_first.ensures.same x).1 (subst (λ ls. IsListed (caps_of ls) x) c.deref.ensures.value h));
}

pub returns-in_err-lower_each-clause-clash : goal.returns-in_err-lower_each-clause-clash
returns-in_err-lower_each-clause-clash c =
    let p = err_from_is_err_and c.from_residual.result c.from_residual.ensures.1 in
    rw p.1 (λ h. never_levels c.args.store.now.nodes (caps_of c.args.limits.now.items) (caps_in Levels (caps_of c.deref.result.now))
    (pass_of Levels c.args.limits.now.items c.lowest_first.new.limits.items c.deref.result.now c.lowest_first.ensures.same c.deref.ensures.value) (c.in_err-lower_each.ensures.clash (sym p.2 ∙ h)))

pub lower_each-requires-2 : goal.lower_each-requires-2
lower_each-requires-2 c = record {
  limits = λ x h.
      let p = IsPermutation-trans c.args.limits.now.items c.lowest_first.new.limits.items c.lowest_first-2.new.limits.items c.lowest_first.ensures.same c.lowest_first-2.ensures.same in
      let k = c.requires.limits x ((permuted_listed c.args.limits.now.items c.lowest_first-2.new.limits.items p x).1 (subst (λ ls. IsListed (caps_of ls) x) c.deref-2.ensures.value h)) in
      let len = c.in_ok-lower_each.ensures.capped.same.len in (omega arith, k.1);
}

pub returns-clause-capped : goal.returns-clause-capped
returns-clause-capped c =
    let p = IsPermutation-trans c.args.limits.now.items c.lowest_first.new.limits.items c.lowest_first-2.new.limits.items c.lowest_first.ensures.same c.lowest_first-2.ensures.same in
    capped_in_both c.args.store.now.nodes c.lower_each.new.store.nodes c.lower_each-2.new.store.nodes (caps_of c.args.limits.now.items) (caps_in Levels (caps_of c.deref.result.now)) (caps_in Scopes (caps_of c.deref-2.result.now))
    c.lower_each-2.result (pass_of Levels c.args.limits.now.items c.lowest_first.new.limits.items c.deref.result.now c.lowest_first.ensures.same c.deref.ensures.value)
    (pass_of Scopes c.args.limits.now.items c.lowest_first-2.new.limits.items c.deref-2.result.now p c.deref-2.ensures.value) c.in_ok-lower_each.ensures.capped c.lower_each-2.ensures.capped

pub returns-clause-clash : goal.returns-clause-clash
returns-clause-clash c =
    let p = IsPermutation-trans c.args.limits.now.items c.lowest_first.new.limits.items c.lowest_first-2.new.limits.items c.lowest_first.ensures.same c.lowest_first-2.ensures.same in
    never_in_scopes c.args.store.now.nodes c.lower_each.new.store.nodes (caps_of c.args.limits.now.items) (caps_in Levels (caps_of c.deref.result.now)) (caps_in Scopes (caps_of c.deref-2.result.now))
    c.lower_each-2.result (pass_of Levels c.args.limits.now.items c.lowest_first.new.limits.items c.deref.result.now c.lowest_first.ensures.same c.deref.ensures.value)
    (pass_of Scopes c.args.limits.now.items c.lowest_first-2.new.limits.items c.deref-2.result.now p c.deref-2.ensures.value) c.in_ok-lower_each.ensures.capped c.lower_each-2.ensures.clash
