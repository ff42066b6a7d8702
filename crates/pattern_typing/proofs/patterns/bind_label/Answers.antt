use Rattle.typing_state.proofs.Going.{goes_trans}
use Rattle.typing_state.proofs.Recording.{record_still}
use Rattle.std.proofs.Common.{◌∙◌, ◌++◌, [], ◌∷◌, refl, ap}
use Rattle.std.specs.Prelude.{None}
use Rattle.syntax_tree.specs.View.{tok_of}
use Rattle.operand_laws.specs.Operands.{number_of}
use Rattle.record_steps.proofs.Noted.{untyped_node}
use Rattle.record_rows.specs.Fields.{BindsLabel}
use Rattle.pattern_typing.specs.Matching.{binds_of, names_seen}
use Rattle.pattern_typing.proofs.Carrying.{on_ok, binds_more, seen_more}
use Rattle.pattern_typing.proofs.patterns.bind_label.Goals as goal

pub returns-clause-binds : goal.returns-clause-binds
returns-clause-binds c =
    let bound = c.in_ok-bound.bound in
    on_ok c.push.result _ (BindsLabel c.args.at.now c.note.new.self c.args.env.now (number_of c.args.at.now.item c.args.number) (tok_of c.args.token.now) c.args.ty (binds_of c.args.names.now.items) (binds_of c.push.new.list.items) (names_seen c.args.seen.now.items) (names_seen c.is_new.new.seen.items)) (λ pushed. record {
      between = c.is_new.new.at;
      entry = bound.entry.value;
      fresh = c.in_ok-is_new.ensures.fresh;
      goes = c.is_new.ensures.goes;
      is_entry = c.in_ok-bound.ensures.entry;
      noted = untyped_node c.is_new.new.at c.note.new.self (number_of c.args.at.now.item c.args.number) c.args.number (record { env = c.args.env.now; ty = None; names = c.in_ok-seen_names.seen_names }) refl c.in_ok-note.ensures.noted c.note.ensures.rest (ap (λ i. number_of i c.args.number) c.is_new.ensures.goes.item);
      adds = record {
        binds = binds_more c.args.names.now.items c.push.new.list.items bound pushed ∙ (λ i. binds_of c.args.names.now.items ++ record { token = tok_of (c.in_ok-bound.ensures.token i).now; node = c.in_ok-bound.ensures.node i; entry = bound.entry.value } ∷ []);
        sees = seen_more c.args.seen.now.items c.is_new.new.seen.items (tok_of c.args.token.now) c.in_ok-is_new.ensures.seen;
      };
    }) c.push.ensures.pushed

pub returns-clause-recorded : goal.returns-clause-recorded
returns-clause-recorded c = record_still c.push.result c.args.number c.note.new.self c.in_ok-note.ensures.recorded

pub returns-clause-goes : goal.returns-clause-goes
returns-clause-goes c = goes_trans c.args.at.now c.is_new.new.at c.note.new.self c.is_new.ensures.goes c.note.ensures.goes

pub returns-in_err-bound-clause-goes : goal.returns-in_err-bound-clause-goes
returns-in_err-bound-clause-goes c = c.is_new.ensures.goes

pub returns-in_err-entry-clause-goes : goal.returns-in_err-entry-clause-goes
returns-in_err-entry-clause-goes c = c.is_new.ensures.goes

pub returns-in_err-is_new-clause-goes : goal.returns-in_err-is_new-clause-goes
returns-in_err-is_new-clause-goes c = c.is_new.ensures.goes

pub returns-in_err-note-clause-goes : goal.returns-in_err-note-clause-goes
returns-in_err-note-clause-goes c = goes_trans c.args.at.now c.is_new.new.at c.note.new.self c.is_new.ensures.goes c.note.ensures.goes

pub returns-in_err-seen_names-clause-goes : goal.returns-in_err-seen_names-clause-goes
returns-in_err-seen_names-clause-goes c = c.is_new.ensures.goes
