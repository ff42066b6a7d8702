use Rattle.std.proofs.Common.{sym, ap, subst}
use Rattle.level_unify.specs.Copies.{table_of}
use Rattle.type_reading.specs.Copying.{Stands}
use Rattle.type_reading.proofs.Tasks.{left}
use Rattle.type_reading.proofs.Answering.{on_ok}
use Rattle.type_reading.proofs.copies.Copies.leave.Goals as goal

pub returns-clause-stands : goal.returns-clause-stands
returns-clause-stands c = on_ok c.set.result
    (λ sets leaves aim s.
    let d = c.args.how.changes.now in
    subst (λ ts. Stands c.rebuilt.new.at.store.nodes d (table_of c.set.new.self.table) ts aim) (sym (ap (λ v. v.items) c.set.ensures.rest))
    (left c.args.at.now.store.nodes c.rebuilt.new.at.store.nodes d (table_of c.args.self.now.table) (table_of c.set.new.self.table) c.args.self.now.todo.items c.args.n c.in_ok-copy.copy.0 aim
    c.rebuilt.ensures.sound c.in_ok-copy.ensures.extends sets c.in_ok-copy.ensures.changed s))
    c.set.ensures.set

pub returns-clause-goes : goal.returns-clause-goes
returns-clause-goes c = c.rebuilt.ensures.goes

pub returns-in_err-copy-clause-goes : goal.returns-in_err-copy-clause-goes
returns-in_err-copy-clause-goes c = c.rebuilt.ensures.goes
