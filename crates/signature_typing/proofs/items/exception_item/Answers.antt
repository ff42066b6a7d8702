use Rattle.syntax_tree.specs.View.{node_view}
use Rattle.typing_state.proofs.Going.{goes_trans}
use Rattle.declared_items.proofs.Exceptions.{exception_added, exception_given}
use Rattle.signature_typing.proofs.items.exception_item.Goals as goal

pub returns-clause-goes : goal.returns-clause-goes
returns-clause-goes c = goes_trans c.args.at.now c.note_plain.new.self c.type_exception.new.at c.note_plain.ensures.goes c.type_exception.ensures.goes

pub returns-in_err-declared-clause-goes : goal.returns-in_err-declared-clause-goes
returns-in_err-declared-clause-goes c = goes_trans c.args.at.now c.note_plain.new.self c.type_exception.new.at c.note_plain.ensures.goes c.type_exception.ensures.goes

pub returns-in_err-note_plain-clause-goes : goal.returns-in_err-note_plain-clause-goes
returns-in_err-note_plain-clause-goes c = c.note_plain.ensures.goes

pub returns-clause-adds : goal.returns-clause-adds
returns-clause-adds c =
    exception_added c.add.result c.args.at.now c.note_plain.new.self c.type_exception.new.at c.args.scene.now.env c.add.new.self.env c.args.number (node_view c.args.node.now) c.in_ok-declared.declared
    c.in_ok-note_plain.ensures.noted c.note_plain.ensures.rest c.note_plain.ensures.goes c.in_ok-declared.ensures.means c.in_ok-declared.ensures.untyped c.type_exception.ensures.goes c.add.ensures.env

pub returns-clause-carries : goal.returns-clause-carries
returns-clause-carries c = exception_given c.add.result c.args.at.now c.type_exception.new.at c.args.scene.now.env c.add.new.self.env c.args.number (node_view c.args.node.now) (returns-clause-adds c)
