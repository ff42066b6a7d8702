use Rattle.std.proofs.Common.{◌∙◌, ◌∷◌, refl, ap}
use Rattle.text_terms.specs.Bytes.{str_bytes}
use Rattle.env_table.specs.declared.entries.Entry.{Entry}
use Rattle.env_table.specs.declared.entries.Template.{Template}
use Rattle.sig_template.specs.Ways.{sig_of}
use Rattle.module_steps.proofs.FunctorLaws.{module_is}
use Rattle.module_steps.proofs.functors.taken_named.Goals as goal

pub returns : goal.returns
returns c = (
  refl,
  (
    c.in_ok-entry.entry,
    refl,
    c.in_ok-add.ensures ∙ ap (λ (e : Entry). e ∷ c.args.env.now) c.in_ok-shared-2.ensures,
    record {
      name = ap (λ (e : Entry). str_bytes e.name) c.in_ok-entry.ensures ∙ c.in_ok-share.ensures;
      kind = ap (λ (e : Entry). e.kind) c.in_ok-entry.ensures;
      place = ap (λ (e : Entry). e.place) c.in_ok-entry.ensures;
      sig = module_is c.in_ok-shared.field-0 (sig_of c.args.template.value) c.in_ok-entry.entry.value.what (ap (λ (e : Entry). e.what) c.in_ok-entry.ensures) (c.in_ok-shared.ensures ∙ ap (λ (t : Template). sig_of t) c.deref.ensures);
    },
  ),
)
