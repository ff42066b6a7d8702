use Rattle.type_expressions.proofs.Untyped.{untyped_then, store_untyped, plain_untyped}
use Rattle.typing_state.proofs.Going.{goes_refl, goes_trans}
use Rattle.std.proofs.Common.{◌∙◌, Some, option_map, refl, sym, ap}
use Rattle.text_terms.specs.Bytes.{str_bytes}
use Rattle.typing_rows.proofs.DeclaredOrdered.{index_reports, store_reports}
use Rattle.decl_typing.proofs.Denoting.{only_same}
use Rattle.decl_typing.proofs.LabelParts.{field_denotes}
use Rattle.decl_typing.proofs.Labels.{part_settles}
use Rattle.decl_typing.proofs.decls.read_label.Goals as goal

pub returns-in_err-field-clause-goes : goal.returns-in_err-field-clause-goes
returns-in_err-field-clause-goes c = c.read_type.ensures.goes

pub returns-in_err-note_plain-in-None-clause-goes : goal.returns-in_err-note_plain-in-None-clause-goes
returns-in_err-note_plain-in-None-clause-goes c = goes_trans c.args.at.now c.arrow.new.self c.note_plain.new.self (goes_trans c.args.at.now c.read_type.new.at c.arrow.new.self c.read_type.ensures.goes c.arrow.ensures.goes) c.note_plain.ensures.goes

pub returns-in_err-root-clause-goes : goal.returns-in_err-root-clause-goes
returns-in_err-root-clause-goes c = goes_trans c.args.at.now c.read_type.new.at c.arrow.new.self c.read_type.ensures.goes c.arrow.ensures.goes

pub returns-in_err-share-in-Some-clause-goes : goal.returns-in_err-share-in-Some-clause-goes
returns-in_err-share-in-Some-clause-goes c = goes_trans c.args.at.now c.read_type.new.at c.arrow.new.self c.read_type.ensures.goes c.arrow.ensures.goes

pub returns-in_ok-note_plain-in-None-clause-goes : goal.returns-in_ok-note_plain-in-None-clause-goes
returns-in_ok-note_plain-in-None-clause-goes c = goes_trans c.args.at.now c.arrow.new.self c.note_plain.new.self (goes_trans c.args.at.now c.read_type.new.at c.arrow.new.self c.read_type.ensures.goes c.arrow.ensures.goes) c.note_plain.ensures.goes

pub returns-in_ok-share-in-Some-clause-goes : goal.returns-in_ok-share-in-Some-clause-goes
returns-in_ok-share-in-Some-clause-goes c = goes_trans c.args.at.now c.read_type.new.at c.arrow.new.self c.read_type.ensures.goes c.arrow.ensures.goes

pub returns-in_ok-note_plain-in-None-clause-settles : goal.returns-in_ok-note_plain-in-None-clause-settles
returns-in_ok-note_plain-in-None-clause-settles c = λ names over.
    part_settles c.args.at.now c.read_type.new.at c.note_plain.new.self c.args.inner.now names c.args.part.now (index_reports c.arrow.new.self c.note_plain.new.self c.note_plain.ensures.rest ∙ store_reports c.read_type.new.at c.arrow.new.self c.arrow.ensures.rest) (c.in_ok-field.ensures.settles names over)

pub returns-in_ok-share-in-Some-clause-settles : goal.returns-in_ok-share-in-Some-clause-settles
returns-in_ok-share-in-Some-clause-settles c = λ names over.
    part_settles c.args.at.now c.read_type.new.at c.arrow.new.self c.args.inner.now names c.args.part.now (store_reports c.read_type.new.at c.arrow.new.self c.arrow.ensures.rest) (c.in_ok-field.ensures.settles names over)

pub returns-in_ok-note_plain-in-None-clause-means : goal.returns-in_ok-note_plain-in-None-clause-means
returns-in_ok-note_plain-in-None-clause-means c = λ names ps t over nodes.
    let made = c.arrow.new.self in
    record {
      root = c.in_ok-root.root.0;
      read = field_denotes c.args.at.now c.read_type.new.at made c.note_plain.new.self c.args.inner.now names ps c.args.part.now t c.in_ok-field.field.0 c.args.record.0 c.in_ok-root.root.0 (c.in_ok-field.ensures.means names ps over nodes) c.in_ok-root.ensures.made c.arrow.ensures.rest c.arrow.ensures.goes c.note_plain.ensures.rest c.note_plain.ensures.goes;
      made = c.in-None.is;
    }

pub returns-in_ok-share-in-Some-clause-means : goal.returns-in_ok-share-in-Some-clause-means
returns-in_ok-share-in-Some-clause-means c = λ names ps t over nodes.
    let made = c.arrow.new.self in
    record {
      root = c.in_ok-root.root.0;
      read = field_denotes c.args.at.now c.read_type.new.at made made c.args.inner.now names ps c.args.part.now t c.in_ok-field.field.0 c.args.record.0 c.in_ok-root.root.0 (c.in_ok-field.ensures.means names ps over nodes) c.in_ok-root.ensures.made c.arrow.ensures.rest c.arrow.ensures.goes (only_same made) (goes_refl made);
      made = record {
        named = ap (option_map (λ t. str_bytes t.now.name)) c.in-Some.is ∙ sym (ap (λ n. Some n) c.in_ok-share-in-Some.ensures);
        root = refl;
        mutable = refl;
      };
    }

pub returns-in_ok-note_plain-in-None-clause-untyped : goal.returns-in_ok-note_plain-in-None-clause-untyped
returns-in_ok-note_plain-in-None-clause-untyped c = untyped_then (untyped_then c.in_ok-field.ensures.untyped (store_untyped c.read_type.new.at c.arrow.new.self c.arrow.ensures.rest)) (plain_untyped c.arrow.new.self c.note_plain.new.self c.args.part.now.number c.args.inner.now c.in_ok-note_plain-in-None.ensures.noted c.note_plain.ensures.rest)

pub returns-in_ok-share-in-Some-clause-untyped : goal.returns-in_ok-share-in-Some-clause-untyped
returns-in_ok-share-in-Some-clause-untyped c = untyped_then c.in_ok-field.ensures.untyped (store_untyped c.read_type.new.at c.arrow.new.self c.arrow.ensures.rest)
