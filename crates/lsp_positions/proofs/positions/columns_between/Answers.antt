use Rattle.std.proofs.Common.{◌≡◌, ◌++◌, ◌-◌, arith, drop, length, min, length-drop}
use Rattle.lsp_positions.specs.Texts.{columns_in}
use Rattle.lsp_positions.proofs.Walks.{columns_stop}
use Rattle.lsp_positions.proofs.positions.columns_between.Goals as goal

pub returns : goal.returns
returns c =
    let text = c.args.left.now ++ c.args.right.now in
    let at = c.loop-at.at in
    let none : min (c.args.end - at) (length (drop at text)) ≡ 0 = grind (arith, length-drop at text) in
    omega (arith, columns_stop (columns_in c.args.by) (c.args.end - at) (drop at text) none, c.loop-at.invariant.1)
