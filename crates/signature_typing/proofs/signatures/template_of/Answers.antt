use Rattle.std.proofs.Common.{◌≡◌, ◌∙◌, List, sym, ap, subst}
use Rattle.std.specs.declared.rc.Rc.{Rc}
use Rattle.std.specs.declared.alloc.Global.{Global}
use Rattle.std.proofs.lemmas.Result.{IfOk-weaker}
use Rattle.env_table.specs.declared.entries.Components.{Components}
use Rattle.env_table.specs.declared.entries.Entry.{Entry}
use Rattle.env_table.specs.declared.entries.Sig.{Sig}
use Rattle.env_table.specs.declared.entries.Sig.TheOpen.{Template-F}
use Rattle.env_table.specs.declared.entries.Template.{Template, out-Template, out-roll-Template}
use Rattle.env_table.specs.declared.entries.What.{What}
use Rattle.sig_template.specs.Structures.{entries_of, newest_alone, IsStructureOf}
use Rattle.signature_typing.proofs.signatures.template_of.Goals as goal

pub returns : goal.returns
returns c =
    let made : Template-F Sig What Components Entry Template = record { made = c.args.kept.makes; sig = c.in_ok-structure.field-0 } in
    IfOk-weaker c.owned.result _ _ (λ t is.
    let out : out-Template t.value ≡ made = ap out-Template is ∙ out-roll-Template made in (
      ap (λ (x : Template-F Sig What Components Entry Template). x.made.items) out,
      subst (λ s. IsStructureOf s (newest_alone (entries_of c.args.kept.components.items))) (sym (ap (λ (x : Template-F Sig What Components Entry Template). x.sig.value) out))
          (subst (λ (es : List (Rc Entry Global)). IsStructureOf c.in_ok-structure.field-0.value (newest_alone (entries_of es))) c.deref.ensures.value c.in_ok-structure.ensures.is),
    )) c.owned.ensures
