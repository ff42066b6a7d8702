use Rattle.typing_state.proofs.Going.{goes_refl}
use Rattle.std.proofs.Common.{◌∷◌, [], Some, refl, sym, ◌∙◌, ap, subst}
use Rattle.std.specs.Prelude.{nat_eq}
use Rattle.std.specs.HashMap.{get}
use Rattle.level_unify.specs.Copies.{table_of}
use Rattle.text_terms.specs.Bytes.{str_bytes}
use Rattle.type_nodes.specs.Nodes.{Arrow, Tuple, Con}
use Rattle.type_nodes.specs.Views.{numbers}
use Rattle.type_reading.specs.Copying.{change_by, Stands, seen_node}
use Rattle.type_reading.proofs.Copied.{var_changed, rigid_changed}
use Rattle.type_reading.proofs.Tasks.{entered_known, entered_leaf, entered_parts}
use Rattle.type_reading.proofs.Answering.{on_ok, on_both, has_key, moved_on}
use Rattle.type_reading.proofs.copies.Copies.enter.Goals as goal

pub returns-then-contains_key-clause-stands : goal.returns-then-contains_key-clause-stands
returns-then-contains_key-clause-stands c = λ leaves aim s.
    entered_known c.args.at.now.store.nodes c.args.how.changes.now (table_of c.args.self.now.table) c.args.self.now.todo.items c.args.n c.root-root.result aim c.root-root.ensures.node
    (has_key (get nat_eq c.args.self.now.table c.root-root.result.0) (sym c.contains_key.ensures ∙ c.if-contains_key.true)) s

pub returns-in-Variable-clause-stands : goal.returns-in-Variable-clause-stands
returns-in-Variable-clause-stands c =
    let nodes = c.args.at.now.store.nodes in
    let d = c.args.how.changes.now in
    let T' = table_of c.enter_variable.new.self.table in
    on_both c.enter_variable.result
    (λ sets same leaves aim s.
    subst (λ ts. Stands c.enter_variable.new.at.store.nodes d T' ts aim) (sym (ap (λ v. v.items) c.enter_variable.ensures.rest))
    (subst (λ ns. Stands ns d T' c.args.self.now.todo.items aim) (sym (ap (λ a. a.store.nodes) (same leaves)))
    (entered_leaf nodes d (table_of c.args.self.now.table) T' c.args.self.now.todo.items c.args.n c.root-root.result aim c.view_of.ensures.sound c.root-root.ensures.node (sets leaves)
    (λ lt end. var_changed nodes (change_by d) c.root-root.result.0 c.in-Variable.level c.in-Variable.scope lt end (c.in_ok-level.ensures.seen lt ∙ ap (λ x. Some (seen_node x)) c.in-Variable.is)) s)))
    c.enter_variable.ensures.set c.enter_variable.ensures.same

pub returns-in-Other-clause-stands : goal.returns-in-Other-clause-stands
returns-in-Other-clause-stands c =
    let nodes = c.args.at.now.store.nodes in
    let d = c.args.how.changes.now in
    let T' = table_of c.set.new.self.table in
    on_ok c.set.result
    (λ sets leaves aim s.
    subst (λ ts. Stands nodes d T' ts aim) (sym (ap (λ v. v.items) c.set.ensures.rest))
    (entered_leaf nodes d (table_of c.args.self.now.table) T' c.args.self.now.todo.items c.args.n c.root-root.result aim c.view_of.ensures.sound c.root-root.ensures.node sets
    (λ lt end. rigid_changed nodes (change_by d) c.root-root.result.0 lt (c.in_ok-level.ensures.seen lt ∙ ap (λ x. Some (seen_node x)) c.in-Other.is)) s))
    c.set.ensures.set

pub returns-in-Arrow-clause-stands : goal.returns-in-Arrow-clause-stands
returns-in-Arrow-clause-stands c =
    let nodes = c.args.at.now.store.nodes in
    let d = c.args.how.changes.now in
    on_ok c.later.result
    (λ pushed leaves aim s. moved_on nodes d _ _ aim _ _ (ap table_of c.later.ensures.rest) pushed
    (entered_parts nodes d (table_of c.args.self.now.table) c.args.self.now.todo.items c.args.n c.root-root.result (c.in-Arrow.from ∷ c.in-Arrow.to ∷ []) (Arrow c.in-Arrow.from.0 c.in-Arrow.to.0) aim c.view_of.ensures.sound tt c.root-root.ensures.node
    (λ lt. c.in_ok-level.ensures.seen lt ∙ ap (λ x. Some (seen_node x)) c.in-Arrow.is) refl s))
    c.later.ensures.pushed

pub returns-in-Tuple-clause-stands : goal.returns-in-Tuple-clause-stands
returns-in-Tuple-clause-stands c =
    let nodes = c.args.at.now.store.nodes in
    let d = c.args.how.changes.now in
    let ps = c.deref.result.now in
    on_ok c.later-in-Tuple.result
    (λ pushed leaves aim s. moved_on nodes d _ _ aim _ _ (ap table_of c.later-in-Tuple.ensures.rest) pushed
    (entered_parts nodes d (table_of c.args.self.now.table) c.args.self.now.todo.items c.args.n c.root-root.result ps (Tuple (numbers ps)) aim c.view_of.ensures.sound tt c.root-root.ensures.node
    (λ lt. c.in_ok-level.ensures.seen lt ∙ ap (λ x. Some (seen_node x)) c.in-Tuple.is ∙ ap (λ ns. Some (Tuple (numbers ns))) (sym c.deref.ensures.value)) refl s))
    c.later-in-Tuple.ensures.pushed

pub returns-clause-stands : goal.returns-clause-stands
returns-clause-stands c =
    let nodes = c.args.at.now.store.nodes in
    let d = c.args.how.changes.now in
    let ps = c.deref-in-Con.result.now in
    let o = c.in-Con.field-0 in
    on_ok c.later-in-Con.result
    (λ pushed leaves aim s. moved_on nodes d _ _ aim _ _ (ap table_of c.later-in-Con.ensures.rest) pushed
    (entered_parts nodes d (table_of c.args.self.now.table) c.args.self.now.todo.items c.args.n c.root-root.result ps (Con o.path.items (str_bytes o.name) (numbers ps)) aim c.view_of.ensures.sound tt c.root-root.ensures.node
    (λ lt. c.in_ok-level.ensures.seen lt ∙ ap (λ x. Some (seen_node x)) c.in-Con.is ∙ ap (λ ns. Some (Con o.path.items (str_bytes o.name) (numbers ns))) (sym c.deref-in-Con.ensures.value)) refl s))
    c.later-in-Con.ensures.pushed

pub returns-clause-goes : goal.returns-clause-goes
returns-clause-goes c = goes_refl c.args.at.now

pub returns-in-Arrow-clause-goes : goal.returns-in-Arrow-clause-goes
returns-in-Arrow-clause-goes c = goes_refl c.args.at.now

pub returns-in-Other-clause-goes : goal.returns-in-Other-clause-goes
returns-in-Other-clause-goes c = goes_refl c.args.at.now

pub returns-in-Tuple-clause-goes : goal.returns-in-Tuple-clause-goes
returns-in-Tuple-clause-goes c = goes_refl c.args.at.now

pub returns-in-Variable-clause-goes : goal.returns-in-Variable-clause-goes
returns-in-Variable-clause-goes c = c.enter_variable.ensures.goes

pub returns-in_err-level-clause-goes : goal.returns-in_err-level-clause-goes
returns-in_err-level-clause-goes c = goes_refl c.args.at.now

pub returns-then-contains_key-clause-goes : goal.returns-then-contains_key-clause-goes
returns-then-contains_key-clause-goes c = goes_refl c.args.at.now
