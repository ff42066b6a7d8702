use Rattle.typing_state.proofs.Going.{goes_refl}
use Rattle.std.proofs.Common.{◌≡◌, ◌∙◌, refl, sym, ap}
use Rattle.env_table.specs.declared.entries.Components.{Components, out-Components}
use Rattle.env_table.specs.declared.entries.Sig.{out-roll-Sig}
use Rattle.env_table.specs.declared.entries.Sig.TheOpen.{Sig-F}
use Rattle.env_table.specs.declared.entries.Sig.TheVariants.{Structure, rolls-Structure}
use Rattle.sig_template.specs.Structures.{entries_of}
use Rattle.module_steps.specs.Listed.{components_of, opened_components}
use Rattle.module_steps.specs.Scenes.{has_name, with_names}
use Rattle.module_steps.proofs.Naming.{always, same_sets}
use Rattle.module_steps.proofs.scenes.Scene.include.Goals as goal

of_structure : (c : Components) → entries_of (out-Components c).entries.items ≡ components_of (Structure c)
of_structure c = sym (ap opened_components (out-roll-Sig (Sig-F.Structure c))) ∙ ap components_of (rolls-Structure c)

pub returns-in_ok-open-in-Structure-clause-noted : goal.returns-in_ok-open-in-Structure-clause-noted
returns-in_ok-open-in-Structure-clause-noted c =
    let all : entries_of c.deref.result.now ≡ components_of c.args.sig.now = ap entries_of c.deref.ensures.value ∙ of_structure c.in-Structure.components ∙ sym (ap components_of c.in-Structure.is) in
    always c.add_entries.result (λ k n. same_sets c.open.new.self (record c.open.new.self { components = c.add_entries.new.list }) refl refl refl k n ∙ c.in_ok-open-in-Structure.ensures.names k n ∙ c.in_ok-ask_all-in-Structure.ensures.noted k n ∙ ap (λ es. with_names (has_name c.args.self.now) es k n) all)

pub returns-in-Functor-clause-goes : goal.returns-in-Functor-clause-goes
returns-in-Functor-clause-goes c = goes_refl c.args.at.now

pub returns-in-Hole-clause-goes : goal.returns-in-Hole-clause-goes
returns-in-Hole-clause-goes c = goes_refl c.args.at.now

pub returns-in_err-ask_all-in-Structure-clause-goes : goal.returns-in_err-ask_all-in-Structure-clause-goes
returns-in_err-ask_all-in-Structure-clause-goes c = c.ask_all.ensures.goes

pub returns-in_err-open-in-Structure-clause-goes : goal.returns-in_err-open-in-Structure-clause-goes
returns-in_err-open-in-Structure-clause-goes c = c.ask_all.ensures.goes

pub returns-in_ok-open-in-Structure-clause-goes : goal.returns-in_ok-open-in-Structure-clause-goes
returns-in_ok-open-in-Structure-clause-goes c = c.ask_all.ensures.goes
