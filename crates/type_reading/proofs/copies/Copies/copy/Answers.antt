use Rattle.typing_state.proofs.Going.{goes_refl}
use Rattle.std.proofs.Common.{◌≡◌, refl, sym, ◌∙◌, ap, subst, ◌++◌, ◌∷◌, [], inl}
use Rattle.level_unify.specs.Copies.{table_of}
use Rattle.type_reading.specs.declared.copies.Task.TheVariants.{Enter}
use Rattle.type_reading.specs.Copying.{change_by, Stands, IsChanged}
use Rattle.type_reading.proofs.Copied.{image_changed}
use Rattle.type_reading.proofs.Answering.{moved_on}
use Rattle.type_reading.proofs.copies.Copies.copy.Goals as goal

pub returns-clause-changed : goal.returns-clause-changed
returns-clause-changed c = λ leaves kept lt.
    let old = c.args.at.now.store.nodes in
    let new = c.work.new.at.store.nodes in
    let d = c.args.how.changes.now in
    let T = table_of c.args.self.now.table in
    let T' = table_of c.work.new.self.table in
    let n = c.args.n in
    let start : Stands old d T (Enter n ∷ []) n.0 = record { reals = kept.reals; kept = record { each = kept.each }; ready = (lt, tt); ahead = inl refl; inside = lt } in
    let pushed : c.push.new.self.todo.items ≡ Enter n ∷ [] = c.in_ok-push.ensures.pushed ∙ ap (λ ts. ts ++ Enter n ∷ []) kept.done in
    let ready : Stands old d (table_of c.push.new.self.table) c.push.new.self.todo.items n.0 =
    moved_on old d T (table_of c.push.new.self.table) n.0 (Enter n ∷ []) c.push.new.self.todo.items (ap table_of c.push.ensures.rest) pushed start in
    let end = c.in_ok-work.ensures.stands leaves n.0 ready in (
      record { reals = end.reals; each = end.kept.each; done = c.in_ok-work.ensures.done },
      subst (IsChanged new (change_by d) n.0) (sym (c.image.ensures end.inside)) (image_changed new (change_by d) T' n.0 end.kept end.ahead),
    )

pub returns-clause-otherwise : goal.returns-clause-otherwise
returns-clause-otherwise c = λ not. absurd (not (c.is_node.ensures.0 c.if-not-is_node.false))

pub returns-clause-goes : goal.returns-clause-goes
returns-clause-goes c = c.work.ensures.goes

pub returns-in_err-push-clause-goes : goal.returns-in_err-push-clause-goes
returns-in_err-push-clause-goes c = goes_refl c.args.at.now

pub returns-in_err-work-clause-goes : goal.returns-in_err-work-clause-goes
returns-in_err-work-clause-goes c = c.work.ensures.goes

pub returns-then-not-is_node-clause-goes : goal.returns-then-not-is_node-clause-goes
returns-then-not-is_node-clause-goes c = goes_refl c.args.at.now
