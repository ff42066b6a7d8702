use Rattle.std.proofs.Common.{◌≡◌, ◌∙◌, ◌++◌, ◌∷◌, [], Some, sym, ap, length, set, refl, ◌<◌, subst}
use Rattle.std.specs.Prelude.{slice_get}
use Rattle.std.proofs.lemmas.List.{length-map}
use Rattle.std.proofs.lemmas.Option.{slice_get_read}
use Rattle.undo_trail.specs.Trails.{writes_of}
use Rattle.type_nodes.specs.declared.cells.Cell.{Cell}
use Rattle.type_nodes.specs.declared.cells.Write.TheVariants.{Was}
use Rattle.type_nodes.specs.Views.{node_of}
use Rattle.type_nodes.proofs.Undo.{replaced_view}
use Rattle.type_nodes.proofs.cells.replace.Goals as goal

pub returns-clause-done : goal.returns-clause-done
returns-clause-done c =
    let b : Cell = c.replace-before.result in
    let inside : c.args.n.0 < length c.args.cells.now.list.items = subst (λ k. c.args.n.0 < k) (length-map c.args.cells.now.list.items node_of) c.requires in
    let read = slice_get_read c.args.cells.now.list.items (length c.args.cells.now.list.items) c.args.n.0 c.index_mut.result.now refl inside c.index_mut.ensures.value in
    let at : slice_get c.args.cells.now.list.items c.args.n.0 ≡ Some b = read ∙ ap (λ (x : Cell). Some x) (sym c.replace-before.ensures.value) in
    let put : set c.args.cells.now.list.items c.args.n.0 c.replace-before.new.dest ≡ set c.args.cells.now.list.items c.args.n.0 c.args.cell =
    ap (set c.args.cells.now.list.items c.args.n.0) c.replace-before.ensures.after in
    let pushed : writes_of c.push.new.self ≡ writes_of c.args.trail.now ++ Was c.args.n b ∷ [] =
    c.in-Ok.ensures.ok ∙ ap (λ ws. ws ++ Was c.args.n b ∷ []) c.reserve.ensures.same in
    replaced_view c.args.cells.now (set c.args.cells.now.list.items c.args.n.0 c.replace-before.new.dest) c.args.trail.now c.push.new.self c.args.n b c.args.cell at put pushed
