use Rattle.std.proofs.Common.{ap, sym, ◌∙◌}
use Rattle.env_table.specs.declared.entries.Template.{Template}
use Rattle.type_reading.specs.Copying.{paths_of}
use Rattle.sig_template.specs.Ways.{sig_of}
use Rattle.module_steps.proofs.FunctorLaws.{rolled}
use Rattle.module_steps.proofs.functors.functor_over.Goals as goal

pub returns : goal.returns
returns c =
    let (sig, made) = rolled c.in_ok-owned.field-0.value (record { made = c.args.made.makes; sig = c.args.made.sig }) c.in_ok-owned.ensures in
    (ap paths_of c.new.ensures.items, (c.in_ok-owned.field-0.value, c.in_ok-functor.functor.value, sig, made, c.in_ok-functor.ensures, sym (c.in_ok-shared.ensures ∙ ap (λ (t : Template). sig_of t) c.deref.ensures)))
