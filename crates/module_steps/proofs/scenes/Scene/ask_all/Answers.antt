use Rattle.std.proofs.Common.{◌≡◌, ◌∙◌, ◌+◌, List, ◌∷◌, drop, refl, sym, ap, subst, arith}
use Rattle.text_terms.specs.Bytes.{str_bytes}
use Rattle.env_table.specs.declared.entries.Entry.{Entry}
use Rattle.typing_state.specs.Goes.{faults_of}
use Rattle.typing_state.proofs.Going.{goes_trans}
use Rattle.sig_template.specs.Structures.{entries_of}
use Rattle.module_steps.specs.Scenes.{has_name, ToldTwice, repeated, with_names}
use Rattle.module_steps.proofs.Naming.{told_more, noted_more, rest_of, none_left}
use Rattle.module_steps.proofs.scenes.Scene.ask_all.Goals as goal

pub loop-entry-preserved : goal.loop-entry-preserved
loop-entry-preserved c =
    let i = c.loop-entry.entry-index in
    let before = c.loop-entry.invariant in
    let asked = c.in_ok-ask.ensures in
    let t = c.args.at.now.telling in
    let e : Entry = c.entry-item.result.value in
    let es : List Entry = entries_of (drop (i + 1) c.args.entries.now) in
    let left : entries_of (drop i c.args.entries.now) ≡ e ∷ es = rest_of c.args.entries.now i c.entry-item.result c.loop-entry-test.true c.entry-item.is in
    let of_kind : c.deref.result.now.kind ≡ e.kind = ap (λ (x : Entry). x.kind) c.deref.ensures in
    let of_name : c.as_str.result.now ≡ str_bytes e.name = c.as_str.ensures ∙ ap (λ (x : Entry). str_bytes x.name) c.deref-in-loop-entry.ensures in
    record {
      told = λ new h. before.told new (subst (λ xs. ToldTwice t (faults_of c.loop-entry.at) new c.args.span (repeated (has_name c.loop-entry.self) xs)) (sym left)
          (told_more t c.loop-entry.at.telling before.faults.telling (has_name c.loop-entry.self) (has_name c.ask.new.self) e es c.args.span (faults_of c.loop-entry.at) (faults_of c.ask.new.at) new
          c.deref.result.now.kind c.as_str.result.now of_kind of_name asked.noted asked.told h));
      noted = λ k n. noted_more (has_name c.loop-entry.self) (has_name c.ask.new.self) e es c.deref.result.now.kind c.as_str.result.now of_kind of_name asked.noted k n
          ∙ ap (λ xs. with_names (has_name c.loop-entry.self) xs k n) (sym left) ∙ before.noted k n;
      rest = record {
        env = asked.rest.env ∙ before.rest.env;
        components = asked.rest.components ∙ before.rest.components;
        makes = asked.rest.makes ∙ before.rest.makes;
      };
      faults = record {
        store = asked.faults.store ∙ before.faults.store;
        index = asked.faults.index ∙ before.faults.index;
        written = asked.faults.written ∙ before.faults.written;
        item = asked.faults.item ∙ before.faults.item;
        level = asked.faults.level ∙ before.faults.level;
        telling = asked.faults.telling ∙ before.faults.telling;
        constants = asked.faults.constants ∙ before.faults.constants;
      };
      goes = goes_trans _ _ _ before.goes asked.goes;
    }

pub returns-clause-told : goal.returns-clause-told
returns-clause-told c =
    c.loop-entry.invariant.told (faults_of c.loop-entry.at) (subst (λ es. ToldTwice c.args.at.now.telling (faults_of c.loop-entry.at) (faults_of c.loop-entry.at) c.args.span (repeated (has_name c.loop-entry.self) es)) (sym (none_left c.args.entries.now c.loop-entry.entry-index (omega arith))) refl)

pub returns-clause-noted : goal.returns-clause-noted
returns-clause-noted c k n =
    ap (λ es. with_names (has_name c.loop-entry.self) es k n) (sym (none_left c.args.entries.now c.loop-entry.entry-index (omega arith))) ∙ c.loop-entry.invariant.noted k n

pub returns-clause-goes : goal.returns-clause-goes
returns-clause-goes c = c.loop-entry.invariant.goes

pub returns-in_err-ask-clause-goes : goal.returns-in_err-ask-clause-goes
returns-in_err-ask-clause-goes c = goes_trans c.args.at.now c.loop-entry.at c.ask.new.at c.loop-entry.invariant.goes c.ask.ensures.goes
