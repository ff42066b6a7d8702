use Rattle.std.proofs.Common.{◌∙◌, ap}
use Rattle.std.proofs.lemmas.Result.{IfOk-weaker}
use Rattle.env_table.specs.declared.entries.What.{What}
use Rattle.env_table.specs.declared.entries.Entry.{Entry}
use Rattle.env_table.specs.declared.entries.Components.{Components, roll-Components, out-roll-Components}
use Rattle.env_table.specs.declared.entries.Template.{Template}
use Rattle.env_table.specs.declared.entries.Sig.{Sig}
use Rattle.env_table.specs.declared.entries.Sig.TheOpen.{Components-F}
use Rattle.sig_template.specs.Structures.{entries_of}
use Rattle.sig_template.proofs.structures.structure.Goals as goal

pub returns-clause-is : goal.returns-clause-is
returns-clause-is c =
    let made : Components-F Sig What Components Entry Template = record { entries = c.in_ok-entries.entries } in
    IfOk-weaker c.owned.result _ _ (λ s is. (
      roll-Components made,
      is,
      ap (λ (f : Components-F Sig What Components Entry Template). entries_of f.entries.items) (out-roll-Components made) ∙ c.in_ok-entries.ensures,
    )) c.owned.ensures
