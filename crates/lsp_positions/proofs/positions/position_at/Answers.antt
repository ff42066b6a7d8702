use Rattle.std.proofs.Common.{◌≡◌, ◌++◌, ◌-◌, ◌∙◌, sym, arith, drop, length, min, length-drop}
use Rattle.lsp_model.specs.Positions.{position_at}
use Rattle.lsp_positions.specs.Texts.{columns_in}
use Rattle.lsp_positions.proofs.Walks.{position_stops}
use Rattle.lsp_positions.proofs.positions.position_at.Goals as goal

pub returns : goal.returns
unfolding position_at
returns c =
    let text = c.args.left.now ++ c.args.right.now in
    let at = c.loop-at.at in
    let none : min (c.args.offset - at) (length (drop at text)) ≡ 0 = grind (arith, length-drop at text) in
    sym (position_stops (columns_in c.args.by) c.loop-at.line c.loop-at.column (c.args.offset - at) (drop at text) none) ∙ c.loop-at.invariant.2
