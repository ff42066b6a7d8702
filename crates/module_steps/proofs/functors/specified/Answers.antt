use Rattle.std.proofs.Common.{◌≡◌, ◌∙◌, ap, List, [], length, true}
use Rattle.std.specs.Prelude.{◌==◌}
use Rattle.type_model.specs.Types.{Path}
use Rattle.signature_model.specs.Templates.{origins_at}
use Rattle.env_table.specs.declared.entries.Template.{Template}
use Rattle.sig_template.specs.Ways.{sig_of}
use Rattle.sig_template.specs.Changed.{made_of}
use Rattle.module_steps.specs.declared.functors.Taken.{Taken}
use Rattle.module_steps.proofs.functors.specified.Goals as goal

pub returns-then-is_empty-clause-own : goal.returns-then-is_empty-clause-own
returns-then-is_empty-clause-own c = λ none unmade.
    let here : made_of c.deref.result.now ≡ [] = ap (λ (t : Template). made_of t) c.deref.ensures ∙ unmade in
    let same = c.in_ok-anew.ensures.same here in
    ((same.0 ∙ ap (λ (t : Template). sig_of t) c.deref.ensures, c.in_ok-anew.ensures.made ∙ ap (λ (ps : List Path). origins_at ps c.node_number-own.result) here), same.1)

pub returns-clause-own : goal.returns-clause-own
returns-clause-own c = λ none. absurd (let f = c.if-is_empty.false in let h : c.is_empty.result ≡ true = c.is_empty.ensures ∙ ap (λ (ps : List Taken). length ps == 0) none in cc)
