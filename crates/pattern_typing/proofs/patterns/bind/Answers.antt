use Rattle.typing_state.proofs.Going.{goes_trans}
use Rattle.std.proofs.Common.{◌∙◌, ◌++◌, [], ◌∷◌, ap, refl}
use Rattle.std.specs.Prelude.{Some}
use Rattle.syntax_tree.specs.View.{tok_of}
use Rattle.use_typing.specs.Labels.{is_named_in, toks_of}
use Rattle.use_typing.proofs.Asked.{twice_before}
use Rattle.pattern_typing.specs.Names.{TellsName}
use Rattle.pattern_rows.specs.Named.{BindsName}
use Rattle.pattern_typing.specs.Matching.{binds_of, names_seen}
use Rattle.pattern_typing.proofs.Carrying.{on_ok, binds_more, seen_more}
use Rattle.pattern_typing.proofs.MatchedRows.{on_any}
use Rattle.pattern_typing.proofs.patterns.bind.Goals as goal

pub returns-clause-tells : goal.returns-clause-tells
returns-clause-tells c =
    let t = tok_of c.args.token.now in
    let seen = toks_of c.args.seen.now.items in
    on_any c.push.result (TellsName seen t c.args.at.now c.note.new.self)
    (twice_before (is_named_in t.name seen) t c.args.at.now c.is_new.new.at c.note.new.self c.in_ok-is_new.ensures.tells (ap (λ f. f.list.items) c.note.ensures.rest.faults))

pub returns-clause-binds : goal.returns-clause-binds
returns-clause-binds c =
    let bound = c.in_ok-bound.bound in
    on_ok c.push.result _ (BindsName c.args.at.now c.note.new.self c.args.env.now c.args.number (tok_of c.args.token.now) c.args.ty (binds_of c.args.names.now.items) (binds_of c.push.new.list.items) (names_seen c.args.seen.now.items) (names_seen c.is_new.new.seen.items)) (λ pushed. record {
      between = c.is_new.new.at;
      entry = bound.entry.value;
      recorded = record { env = c.args.env.now; ty = Some c.args.ty; names = c.in_ok-seen_names.seen_names };
      fresh = c.in_ok-is_new.ensures.fresh;
      goes = c.is_new.ensures.goes;
      is_entry = c.in_ok-bound.ensures.entry;
      has_type = refl;
      in_scope = refl;
      noted = c.in_ok-note.ensures.noted;
      rest = c.note.ensures.rest;
      adds = record {
        binds = binds_more c.args.names.now.items c.push.new.list.items bound pushed ∙ (λ i. binds_of c.args.names.now.items ++ record { token = tok_of (c.in_ok-bound.ensures.token i).now; node = c.in_ok-bound.ensures.node i; entry = bound.entry.value } ∷ []);
        sees = seen_more c.args.seen.now.items c.is_new.new.seen.items (tok_of c.args.token.now) c.in_ok-is_new.ensures.seen;
      };
    }) c.push.ensures.pushed

pub returns-clause-goes : goal.returns-clause-goes
returns-clause-goes c = goes_trans c.args.at.now c.is_new.new.at c.note.new.self c.is_new.ensures.goes c.note.ensures.goes

pub returns-in_err-bound-clause-goes : goal.returns-in_err-bound-clause-goes
returns-in_err-bound-clause-goes c = c.is_new.ensures.goes

pub returns-in_err-is_new-clause-goes : goal.returns-in_err-is_new-clause-goes
returns-in_err-is_new-clause-goes c = c.is_new.ensures.goes

pub returns-in_err-note-clause-goes : goal.returns-in_err-note-clause-goes
returns-in_err-note-clause-goes c = goes_trans c.args.at.now c.is_new.new.at c.note.new.self c.is_new.ensures.goes c.note.ensures.goes

pub returns-in_err-seen_names-clause-goes : goal.returns-in_err-seen_names-clause-goes
returns-in_err-seen_names-clause-goes c = c.is_new.ensures.goes
