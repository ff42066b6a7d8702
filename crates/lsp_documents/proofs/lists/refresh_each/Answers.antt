use Rattle.std.proofs.Common.{rules, arith, ◌<◌, ◌≤◌, length}
use Rattle.lsp_positions.specs.Texts.{columns_in}
use Rattle.lsp_documents.proofs.Several.{all_done, more_done}
use Rattle.lsp_documents.proofs.lists.refresh_each.Goals as goal

pub loop-at-preserved : goal.loop-at-preserved
loop-at-preserved g c =
    let all = c.args.documents.now in
    let i = c.loop-at.at in
    let within : i < length all = let n = c.loop-at-test.true in omega arith in
    (more_done (columns_in c.args.by) all i c.args.pieces.now c.loop-at.documents c.loop-at.pieces c.index-documents-at.result c.refresh.new.self c.refresh.new.pieces within c.loop-at.invariant.0 c.in_ok-refresh.ensures.puts, search rules)

pub returns-clause-puts : goal.returns-clause-puts
returns-clause-puts g c =
    let all = c.args.documents.now in
    let past : length all ≤ c.loop-at.at = let n = c.loop-at-test.false in omega arith in
    all_done (columns_in c.args.by) all c.loop-at.at c.args.pieces.now c.loop-at.documents c.loop-at.pieces past c.loop-at.invariant.0
