use Rattle.std.proofs.Common.{◌≡◌, ◌≤◌, ◌+◌, ◌++◌, List, length, map, sym, ◌∙◌, ap, subst, arith}
use Rattle.tree_model.specs.Trees.{Tree}
use Rattle.grammar_model.specs.Named.{inner_of}
use Rattle.syntax_tree.specs.View.{node_view, part_view}
use Rattle.syntax_tree.proofs.Lists.{map_reverse}
use Rattle.parse_frames.specs.declared.frames.Cell.{Cell, out-Cell}
use Rattle.parse_frames.specs.Frames.{nodes_in}
use Rattle.parse_frames.specs.View.{parts_view}
use Rattle.parse_frames.proofs.Cells.{cell_enough, cell_enough_left, cell_here, cell_next, cell_nodes, from_is, is_noted}
use Rattle.parse_frames.proofs.nodes.nodes_from.Goals as goal
use Rattle.parse_frames.proofs.nodes.nodes_from.Goals.{in-Some+then-deref-from, in_default}

pub loop-rest-preserved : goal.loop-rest-preserved
loop-rest-preserved c =
    let rest = c.loop-rest.rest.now in
    let inv = c.loop-rest.invariant in
    let d = c.deref-in-Some-2.result.now in
    let told = cell_here rest c.in-Some.cell d c.in-Some.is c.deref-in-Some-2.ensures inv.told in
    let xs = map (λ n. node_view n.value) c.loop-rest.nodes.items in
    let same : c.deref-in-Some.result.now ≡ d = c.deref-in-Some.ensures ∙ sym c.deref-in-Some-2.ensures in
    let first : c.deref.result.now ≡ d = c.deref.ensures ∙ sym c.deref-in-Some-2.ensures in
    let more = subst (λ (x : Cell). c.args.from + 1 ≤ (out-Cell x).nodes) first (omega (arith, c.if-deref-from.false)) in
    record {
      all = cell_next d xs _ _ told (ap (λ ys. xs ++ ys) (sym (cell_nodes rest c.in-Some.cell d c.in-Some.is c.deref-in-Some-2.ensures)) ∙ inv.all) (c.in_ok-add_node.ensures ∙ ap (λ (x : Cell). xs ++ inner_of (part_view (out-Cell x).part)) same);
      told = (is_noted d told).before;
      enough = cell_enough d c.args.from (length (nodes_in (parts_view c.args.parts.now))) told (λ le. omega (arith, more, le));
    }

pub returns : goal.returns
returns c = λ few.
    let inv = c.loop-rest.invariant in
    let xs = map (λ n. node_view n.value) c.loop-rest.nodes.items in
    let rest = c.loop-rest.rest.now in
    let all = nodes_in (parts_view c.args.parts.now) in
    let most : length (nodes_in (parts_view rest)) ≤ c.args.from =
    elim c.match-rest.branch [
      | in-Some+then-deref-from w ↦
          let d = w.deref.result.now in
          let nodes = cell_nodes rest w.in-Some.cell d w.in-Some.is w.deref.ensures in
          subst (λ (l : List Tree). length l ≤ c.args.from) (sym nodes)
          (cell_enough_left d c.args.from xs all (cell_here rest w.in-Some.cell d w.in-Some.is w.deref.ensures inv.told) (ap (λ ys. xs ++ ys) (sym nodes) ∙ inv.all) few w.if-deref-from.true)
      | in_default w ↦ subst (λ o. length (nodes_in (parts_view o)) ≤ c.args.from) (sym w.in_default.is) (omega arith)
    ] in
    ap (map (λ n. node_view n.value)) c.reverse.ensures.items ∙ map_reverse (λ n. node_view n.value) c.loop-rest.nodes.items ∙ from_is xs (nodes_in (parts_view rest)) all c.args.from inv.all inv.enough most
