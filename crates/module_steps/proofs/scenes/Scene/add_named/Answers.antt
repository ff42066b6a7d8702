use Rattle.std.proofs.Common.{refl, sym, subst, Bor}
use Rattle.std.specs.Prelude.{Option, option_map, OnOk}
use Rattle.syntax_tree.specs.declared.Token.{Token}
use Rattle.module_steps.specs.Listed.{seen_values}
use Rattle.module_steps.specs.Scenes.{AddsNamed}
use Rattle.module_steps.proofs.Naming.{on_ok}
use Rattle.module_steps.proofs.scenes.Scene.add_named.Goals as goal

pub returns-in-None-clause-added : goal.returns-in-None-clause-added
returns-in-None-clause-added c =
    subst (λ (o : Option (Bor Token)). OnOk c.note.result (AddsNamed (option_map (λ t. t.now) o) c.args.self.now c.args.self.now c.args.at.now c.note.new.self c.args.number c.args.kind c.args.what (seen_values c.args.parameters.items))) (sym c.in-None.is)
    (on_ok c.note.result (λ noted. (refl, (c.args.parameters, refl, noted))) c.note.ensures.noted)

pub returns-in-None-clause-goes : goal.returns-in-None-clause-goes
returns-in-None-clause-goes c = c.note.ensures.goes

pub returns-in-Some-clause-goes : goal.returns-in-Some-clause-goes
returns-in-Some-clause-goes c = c.add_entry.ensures.goes
