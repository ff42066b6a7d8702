use Rattle.type_expressions.proofs.Untyped.{untyped_then, noted_untyped, plain_untyped}
use Rattle.typing_state.proofs.Going.{goes_trans}
use Rattle.std.proofs.Common.{◌∙◌, None, option_map, refl, sym, ap}
use Rattle.syntax_tree.specs.View.{node_view, tok_of}
use Rattle.typing_rows.proofs.DeclaredOrdered.{index_reports}
use Rattle.decl_typing.proofs.Entering.{exception_closes}
use Rattle.decl_typing.proofs.Treating.{exception_treats}
use Rattle.decl_typing.proofs.Settling.{exception_settles}
use Rattle.decl_typing.proofs.decls.exception.Goals as goal

pub returns-clause-goes : goal.returns-clause-goes
returns-clause-goes c = goes_trans c.args.at.now c.exception_type.new.at c.note.new.self c.exception_type.ensures.goes c.note.ensures.goes

pub returns-in_default-clause-goes : goal.returns-in_default-clause-goes
returns-in_default-clause-goes c = goes_trans c.args.at.now c.exception_type.new.at c.note_plain.new.self c.exception_type.ensures.goes c.note_plain.ensures.goes

pub returns-in_err-entry-clause-goes : goal.returns-in_err-entry-clause-goes
returns-in_err-entry-clause-goes c = c.exception_type.ensures.goes

pub returns-in_err-names-clause-goes : goal.returns-in_err-names-clause-goes
returns-in_err-names-clause-goes c = c.exception_type.ensures.goes

pub returns-in_err-note-clause-goes : goal.returns-in_err-note-clause-goes
returns-in_err-note-clause-goes c = goes_trans c.args.at.now c.exception_type.new.at c.note.new.self c.exception_type.ensures.goes c.note.ensures.goes

pub returns-in_err-note_plain-clause-goes : goal.returns-in_err-note_plain-clause-goes
returns-in_err-note_plain-clause-goes c = goes_trans c.args.at.now c.exception_type.new.at c.note_plain.new.self c.exception_type.ensures.goes c.note_plain.ensures.goes

pub returns-in_err-root-clause-goes : goal.returns-in_err-root-clause-goes
returns-in_err-root-clause-goes c = c.exception_type.ensures.goes

pub returns-clause-settles : goal.returns-clause-settles
returns-clause-settles c =
    exception_settles c.args.at.now c.exception_type.new.at c.note.new.self c.args.env.now c.args.number (node_view c.args.node.now) (index_reports c.exception_type.new.at c.note.new.self c.note.ensures.rest) c.in_ok-root.ensures.settles

pub returns-in_default-clause-settles : goal.returns-in_default-clause-settles
returns-in_default-clause-settles c =
    exception_settles c.args.at.now c.exception_type.new.at c.note_plain.new.self c.args.env.now c.args.number (node_view c.args.node.now) (index_reports c.exception_type.new.at c.note_plain.new.self c.note_plain.ensures.rest) c.in_ok-root.ensures.settles

pub returns-clause-means : goal.returns-clause-means
returns-clause-means c = record {
  root = c.in_ok-root.root.0;
  name = tok_of c.in-Some.name.now;
  entry = c.in_ok-entry.ensures;
  named = sym (sym (ap (option_map (λ t. tok_of t.now)) c.in-Some.is) ∙ c.token.ensures);
  closes = exception_closes c.args.at.now c.exception_type.new.at c.note.new.self c.args.env.now c.args.number (node_view c.args.node.now) c.args.at.now.constants.exn.0 c.in_ok-root.root.0 c.note.ensures.rest c.note.ensures.goes c.in_ok-root.ensures.means;
  treats = exception_treats c.args.at.now c.exception_type.new.at c.note.new.self c.args.env.now c.args.number (node_view c.args.node.now) (record { env = c.args.env.now; ty = None; names = c.in_ok-names.names }) c.exception_type.ensures.goes c.in_ok-root.ensures.treats refl c.in_ok-note.ensures.noted c.note.ensures.goes;
}

pub returns-in_default-clause-means : goal.returns-in_default-clause-means
returns-in_default-clause-means c = sym c.token.ensures ∙ ap (option_map (λ t. tok_of t.now)) c.in_default.is

pub returns-clause-untyped : goal.returns-clause-untyped
returns-clause-untyped c = untyped_then c.in_ok-root.ensures.untyped (noted_untyped c.exception_type.new.at c.note.new.self c.args.number (record { env = c.args.env.now; ty = None; names = c.in_ok-names.names }) refl c.in_ok-note.ensures.noted c.note.ensures.rest)

pub returns-in_default-clause-untyped : goal.returns-in_default-clause-untyped
returns-in_default-clause-untyped c = untyped_then c.in_ok-root.ensures.untyped (plain_untyped c.exception_type.new.at c.note_plain.new.self c.args.number c.args.env.now c.in_ok-note_plain.ensures.noted c.note_plain.ensures.rest)
