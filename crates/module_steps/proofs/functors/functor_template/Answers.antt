use Rattle.std.proofs.Common.{◌≡◌, ◌++◌, ◌∷◌, [], ap, sym, ◌∙◌, subst}
use Rattle.module_steps.specs.Modules.{templates_of, IsFunctorOver}
use Rattle.module_steps.proofs.FunctorLaws.{over_more, templates_append}
use Rattle.module_steps.proofs.functors.functor_template.Goals as goal

pub loop-parameter-preserved : goal.loop-parameter-preserved
loop-parameter-preserved c = λ t over.
    let all : templates_of c.loop-parameter.rest.now ≡ templates_of c.in-Some.outer.now ++ c.in-Some.parameter.now.template.value ∷ [] = ap templates_of c.in-Some.ensures.cases.0 ∙ templates_append c.in-Some.outer.now (c.in-Some.parameter.now ∷ []) in
    c.loop-parameter.invariant t (subst (λ ts. IsFunctorOver ts c.loop-parameter.template.value t) (sym all) (over_more (templates_of c.in-Some.outer.now) c.in-Some.parameter.now.template.value c.loop-parameter.template.value c.in_ok-template.template.value t c.in_ok-template.ensures over))
