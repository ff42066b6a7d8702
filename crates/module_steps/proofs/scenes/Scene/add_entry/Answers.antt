use Rattle.typing_state.proofs.Going.{goes_refl}
use Rattle.std.proofs.Common.{◌∙◌, ◌∷◌, ap}
use Rattle.text_terms.specs.Bytes.{str_bytes}
use Rattle.env_table.specs.declared.entries.Entry.{Entry}
use Rattle.sig_template.specs.Structures.{entries_of}
use Rattle.module_steps.proofs.Naming.{on_ok, values_more}
use Rattle.module_steps.proofs.scenes.Scene.add_entry.Goals as goal

pub returns-clause-added : goal.returns-clause-added
returns-clause-added c =
    on_ok c.push.result (λ pushed. record {
      entry = c.in_ok-entry.entry.value;
      is = record {
        name = ap (λ (e : Entry). str_bytes e.name) c.in_ok-entry.ensures ∙ c.in_ok-share.ensures;
        kind = ap (λ (e : Entry). e.kind) c.in_ok-entry.ensures;
        place = ap (λ (e : Entry). e.place) c.in_ok-entry.ensures;
        what = ap (λ (e : Entry). e.what) c.in_ok-entry.ensures;
      };
      env = c.in_ok-self.ensures ∙ ap (λ (e : Entry). e ∷ c.args.self.now.env) c.in_ok-shared.ensures;
      components = ap entries_of pushed ∙ values_more c.args.self.now.components.items c.in_ok-entry.entry;
      noted = (c.in_ok-names.names, c.in_ok-names.ensures, c.in_ok-note.ensures.noted);
    }) c.push.ensures.pushed

pub returns-clause-goes : goal.returns-clause-goes
returns-clause-goes c = c.note.ensures.goes

pub returns-in_err-entry-clause-goes : goal.returns-in_err-entry-clause-goes
returns-in_err-entry-clause-goes c = goes_refl c.args.at.now

pub returns-in_err-names-clause-goes : goal.returns-in_err-names-clause-goes
returns-in_err-names-clause-goes c = goes_refl c.args.at.now

pub returns-in_err-note-clause-goes : goal.returns-in_err-note-clause-goes
returns-in_err-note-clause-goes c = c.note.ensures.goes

pub returns-in_err-self-clause-goes : goal.returns-in_err-self-clause-goes
returns-in_err-self-clause-goes c = c.note.ensures.goes

pub returns-in_err-share-clause-goes : goal.returns-in_err-share-clause-goes
returns-in_err-share-clause-goes c = goes_refl c.args.at.now

pub returns-in_err-shared-clause-goes : goal.returns-in_err-shared-clause-goes
returns-in_err-shared-clause-goes c = c.note.ensures.goes
