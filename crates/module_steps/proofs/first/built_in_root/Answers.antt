use Rattle.std.proofs.Common.{◌∙◌, sym}
use Rattle.std.proofs.lemmas.Result.{IfOk-weaker}
use Rattle.type_nodes.specs.Nodes.{IsNode}
use Rattle.first_laws.proofs.Roots.{all_none}
use Rattle.module_steps.proofs.BuiltRoots.{root_alone, root_over_one}
use Rattle.module_steps.proofs.first.built_in_root.Goals as goal

pub returns-then-parameters_of-eq0-clause-made : goal.returns-then-parameters_of-eq0-clause-made
returns-then-parameters_of-eq0-clause-made c =
    IfOk-weaker c.con.result _ _ (λ r made level. root_alone c.in_ok-origin.origin.path.items c.in_ok-origin.ensures.path (sym c.parameters_of.ensures ∙ c.if-parameters_of-eq0.true) (made (all_none (IsNode c.args.at.now.store.nodes)))) c.con.ensures.made

pub returns-clause-made : goal.returns-clause-made
returns-clause-made c =
    IfOk-weaker c.tuple.result _ _ (λ r made level.
    root_over_one c.args.which c.in_ok-origin.origin.path.items c.in_ok-origin.ensures.path level (λ none. c.if-parameters_of-eq0.false (c.parameters_of.ensures ∙ none)) c.in_ok-parameter.ensures.made c.in_ok-body.ensures.made made) c.tuple.ensures.made
