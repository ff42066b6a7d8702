use Rattle.std.proofs.Common.{ap, sym, subst, ◌∙◌}
use Rattle.std.specs.Prelude.{slice_get, OnOk}
use Rattle.type_nodes.specs.Views.{numbers}
use Rattle.level_unify.specs.Copies.{table_of}
use Rattle.level_unify.proofs.Solving.{own_root}
use Rattle.level_unify.proofs.Steps.{cell_at}
use Rattle.type_substitution.specs.Copying.{SetsCopy}
use Rattle.type_substitution.proofs.Made.{shape_inside, made_copy, set_copies, set_gains}
use Rattle.type_substitution.proofs.copies.copy_one.Goals as goal

pub shape_of-requires-clause-node : goal.shape_of-requires-clause-node
shape_of-requires-clause-node c = (own_root c.args.store.now.nodes c.args.node.0 c.root-root.result.0 c.root-root.ensures.sound c.requires.node c.root-root.ensures.root).0

pub make-requires-clause-root : goal.make-requires-clause-root
make-requires-clause-root c = (own_root c.args.store.now.nodes c.args.node.0 c.root-root.result.0 c.root-root.ensures.sound c.requires.node c.root-root.ensures.root).0

pub make-requires-clause-parts : goal.make-requires-clause-parts
make-requires-clause-parts c =
    let nodes = c.args.store.now.nodes in
    let (inside, end) = own_root nodes c.args.node.0 c.root-root.result.0 c.root-root.ensures.sound c.requires.node c.root-root.ensures.root in
    let (x, at) = cell_at nodes c.root-root.result.0 inside in
    shape_inside nodes (numbers c.args.variables.now) (numbers c.args.types.now) (table_of c.args.copies.now) x c.in_ok-shape.shape c.requires.copies (c.requires.parts x (ap (slice_get nodes) (sym c.root-root.ensures.root) ∙ at))
    (c.in_ok-shape.ensures x (ap (slice_get nodes) end ∙ at))

pub returns-clause-copies : goal.returns-clause-copies
returns-clause-copies c =
    let nodes = c.args.store.now.nodes in
    let vs = numbers c.args.variables.now in
    let ts = numbers c.args.types.now in
    let T = table_of c.args.copies.now in
    let n = c.root-root.result.0 in
    let (inside, end) = own_root nodes c.args.node.0 n c.root-root.ensures.sound c.requires.node c.root-root.ensures.root in
    let (x, at) = cell_at nodes n inside in
    set_copies c.set.result nodes c.make.new.store.nodes vs ts T (table_of c.set.new.copies) n c.in_ok-copy.copy.0 c.root-root.ensures.sound c.make.ensures.extends c.requires.variables inside c.requires.copies
    (made_copy c.args.store.now c.make.new.store vs ts T n c.in_ok-copy.copy.0 x c.in_ok-shape.shape c.root-root.ensures.sound end c.make.ensures.extends c.requires.copies at (c.requires.parts x (ap (slice_get nodes) (sym c.root-root.ensures.root) ∙ at))
    (c.in_ok-shape.ensures x (ap (slice_get nodes) end ∙ at)) c.in_ok-copy.ensures.made) c.set.ensures

pub returns-clause-gains : goal.returns-clause-gains
returns-clause-gains c = set_gains c.set.result (table_of c.args.copies.now) (table_of c.set.new.copies) _ c.in_ok-copy.copy.0 (subst (λ n. OnOk c.set.result (SetsCopy (table_of c.args.copies.now) (table_of c.set.new.copies) n c.in_ok-copy.copy.0)) c.root-root.ensures.root c.set.ensures)
