use Rattle.std.proofs.Common.{◌∙◌, false, take, refl, ap}
use Rattle.sig_template.specs.Structures.{entries_of}
use Rattle.module_steps.specs.Scenes.{has_name, with_names}
use Rattle.module_steps.proofs.Naming.{same_sets, with_names_same}
use Rattle.module_steps.proofs.scenes.Scene.front.Goals as goal

pub returns-clause-names : goal.returns-clause-names
returns-clause-names c k n =
    same_sets c.note_all.new.self (record c.note_all.new.self { components = c.add_entries.new.list; makes = c.add_origins.new.makes }) refl refl refl k n
    ∙ c.in_ok-note_all.ensures.noted k n
    ∙ with_names_same (λ j m. false) (has_name c.new-scene.result) (entries_of c.first_of-front.result.now) c.new-scene.ensures.names k n
    ∙ ap (λ es. with_names (λ j m. false) (entries_of es) k n) (c.first_of-front.ensures ∙ ap (take c.args.components) c.as_slice.ensures.value)
