use Rattle.type_expressions.proofs.Untyped.{untyped_then, plain_untyped}
use Rattle.typing_state.proofs.Going.{goes_refl, goes_trans}
use Rattle.std.proofs.Common.{◌∙◌, Some, option_map, refl, sym, ap}
use Rattle.text_terms.specs.Bytes.{str_bytes}
use Rattle.typing_model.specs.Declarations.{read_optional}
use Rattle.typing_rows.proofs.DeclaredOrdered.{index_reports}
use Rattle.decl_typing.specs.Settling.{constructor_as}
use Rattle.decl_typing.proofs.Denoting.{told_denotes, only_same}
use Rattle.decl_typing.proofs.Constructors.{part_settles}
use Rattle.decl_typing.proofs.decls.read_constructor.Goals as goal

pub returns-in_err-note_plain-in-None-clause-goes : goal.returns-in_err-note_plain-in-None-clause-goes
returns-in_err-note_plain-in-None-clause-goes c = goes_trans c.args.at.now c.constructor_root.new.at c.note_plain.new.self c.constructor_root.ensures.goes c.note_plain.ensures.goes

pub returns-in_err-root-clause-goes : goal.returns-in_err-root-clause-goes
returns-in_err-root-clause-goes c = c.constructor_root.ensures.goes

pub returns-in_err-share-in-Some-clause-goes : goal.returns-in_err-share-in-Some-clause-goes
returns-in_err-share-in-Some-clause-goes c = c.constructor_root.ensures.goes

pub returns-in_ok-note_plain-in-None-clause-goes : goal.returns-in_ok-note_plain-in-None-clause-goes
returns-in_ok-note_plain-in-None-clause-goes c = goes_trans c.args.at.now c.constructor_root.new.at c.note_plain.new.self c.constructor_root.ensures.goes c.note_plain.ensures.goes

pub returns-in_ok-share-in-Some-clause-goes : goal.returns-in_ok-share-in-Some-clause-goes
returns-in_ok-share-in-Some-clause-goes c = c.constructor_root.ensures.goes

pub returns-in_ok-note_plain-in-None-clause-settles : goal.returns-in_ok-note_plain-in-None-clause-settles
returns-in_ok-note_plain-in-None-clause-settles c = λ names over has.
    let k = constructor_as c.args.at.now.item c.args.part.now in
    part_settles c.args.at.now c.constructor_root.new.at c.note_plain.new.self c.args.inner.now names (λ x. read_optional x k.argument) k.argument k.node (index_reports c.constructor_root.new.at c.note_plain.new.self c.note_plain.ensures.rest) (c.in_ok-root.ensures.settles names over has)

pub returns-in_ok-share-in-Some-clause-settles : goal.returns-in_ok-share-in-Some-clause-settles
returns-in_ok-share-in-Some-clause-settles c = λ names over has.
    let k = constructor_as c.args.at.now.item c.args.part.now in
    part_settles c.args.at.now c.constructor_root.new.at c.constructor_root.new.at c.args.inner.now names (λ x. read_optional x k.argument) k.argument k.node refl (c.in_ok-root.ensures.settles names over has)

pub returns-in_ok-note_plain-in-None-clause-means : goal.returns-in_ok-note_plain-in-None-clause-means
returns-in_ok-note_plain-in-None-clause-means c = λ names ps t over nodes.
    let k = constructor_as c.args.at.now.item c.args.part.now in
    record {
      root = c.in_ok-root.root.0;
      read = λ has. told_denotes c.args.at.now c.constructor_root.new.at c.note_plain.new.self c.args.inner.now names ps (λ x. read_optional x k.argument) k.argument k.node t c.args.own.0 c.in_ok-root.root.0 c.note_plain.ensures.rest c.note_plain.ensures.goes (c.in_ok-root.ensures.means names ps t over nodes has);
      made = c.in-None.is;
    }

pub returns-in_ok-share-in-Some-clause-means : goal.returns-in_ok-share-in-Some-clause-means
returns-in_ok-share-in-Some-clause-means c = λ names ps t over nodes.
    let k = constructor_as c.args.at.now.item c.args.part.now in
    let read = c.constructor_root.new.at in
    record {
      root = c.in_ok-root.root.0;
      read = λ has. told_denotes c.args.at.now read read c.args.inner.now names ps (λ x. read_optional x k.argument) k.argument k.node t c.args.own.0 c.in_ok-root.root.0 (only_same read) (goes_refl read) (c.in_ok-root.ensures.means names ps t over nodes has);
      made = record {
        named = ap (option_map (λ t. str_bytes t.now.name)) c.in-Some.is ∙ sym (ap (λ n. Some n) c.in_ok-share-in-Some.ensures);
        root = refl;
        takes = c.is_some.ensures;
      };
    }

pub returns-in_ok-note_plain-in-None-clause-untyped : goal.returns-in_ok-note_plain-in-None-clause-untyped
returns-in_ok-note_plain-in-None-clause-untyped c = untyped_then c.in_ok-root.ensures.untyped (plain_untyped c.constructor_root.new.at c.note_plain.new.self c.args.part.now.number c.args.inner.now c.in_ok-note_plain-in-None.ensures.noted c.note_plain.ensures.rest)

pub returns-in_ok-share-in-Some-clause-untyped : goal.returns-in_ok-share-in-Some-clause-untyped
returns-in_ok-share-in-Some-clause-untyped c = c.in_ok-root.ensures.untyped
