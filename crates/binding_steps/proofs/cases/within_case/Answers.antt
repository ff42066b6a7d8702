use Rattle.std.proofs.Common.{◌∙◌, ap}
use Rattle.std.proofs.lemmas.Result.{IfOk-weaker}
use Rattle.pattern_typing.specs.Matching.{binds_of}
use Rattle.binding_rows.specs.CaseScopes.{names_added}
use Rattle.binding_steps.proofs.cases.within_case.Goals as goal

pub returns-clause-carries : goal.returns-clause-carries
returns-clause-carries c =
    IfOk-weaker c.with_names.result _ _ (λ inner is carried. record {
      added = binds_of c.in_ok-bound.bound.names.items;
      scope = is ∙ ap (λ ns. names_added (binds_of ns) c.args.env.now) c.deref.ensures.value;
      typed = c.in_ok-bound.ensures.carries carried;
    }) c.with_names.ensures.scope
