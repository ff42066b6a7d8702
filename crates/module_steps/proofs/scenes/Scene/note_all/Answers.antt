use Rattle.std.proofs.Common.{◌≡◌, ◌∙◌, ◌+◌, List, ◌∷◌, drop, sym, ap, arith}
use Rattle.text_terms.specs.Bytes.{str_bytes}
use Rattle.env_table.specs.declared.entries.Entry.{Entry}
use Rattle.sig_template.specs.Structures.{entries_of}
use Rattle.module_steps.specs.Scenes.{has_name, with_names}
use Rattle.module_steps.proofs.Naming.{noted_more, rest_of, none_left}
use Rattle.module_steps.proofs.scenes.Scene.note_all.Goals as goal

pub loop-entry-preserved : goal.loop-entry-preserved
loop-entry-preserved c =
    let i = c.loop-entry.entry-index in
    let before = c.loop-entry.invariant in
    let noted = c.in_ok-note.ensures in
    let e : Entry = c.entry-item.result.value in
    let es : List Entry = entries_of (drop (i + 1) c.args.entries.now) in
    let left : entries_of (drop i c.args.entries.now) ≡ e ∷ es = rest_of c.args.entries.now i c.entry-item.result c.loop-entry-test.true c.entry-item.is in
    let of_kind : c.deref.result.now.kind ≡ e.kind = ap (λ (x : Entry). x.kind) c.deref.ensures in
    let of_name : c.as_str.result.now ≡ str_bytes e.name = c.as_str.ensures ∙ ap (λ (x : Entry). str_bytes x.name) c.deref-in-loop-entry.ensures in
    record {
      noted = λ k n. noted_more (has_name c.loop-entry.self) (has_name c.note.new.self) e es c.deref.result.now.kind c.as_str.result.now of_kind of_name noted.noted k n
          ∙ ap (λ xs. with_names (has_name c.loop-entry.self) xs k n) (sym left) ∙ before.noted k n;
      rest = record {
        env = noted.rest.env ∙ before.rest.env;
        components = noted.rest.components ∙ before.rest.components;
        makes = noted.rest.makes ∙ before.rest.makes;
      };
    }

pub returns-clause-noted : goal.returns-clause-noted
returns-clause-noted c k n =
    ap (λ es. with_names (has_name c.loop-entry.self) es k n) (sym (none_left c.args.entries.now c.loop-entry.entry-index (omega arith))) ∙ c.loop-entry.invariant.noted k n
