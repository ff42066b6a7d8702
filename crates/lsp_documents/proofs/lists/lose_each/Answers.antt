use Rattle.std.proofs.Common.{◌∙◌, ◌<◌, arith, ap, get_or, length, slice_set}
use Rattle.std.proofs.lemmas.List.Edits.{map_over_more}
use Rattle.lsp_documents.specs.Puts.{document_lost}
use Rattle.lsp_documents.proofs.lists.lose_each.Goals as goal

pub loop-at-preserved : goal.loop-at-preserved
loop-at-preserved g c =
    let all = c.args.documents.now in
    let now = c.loop-at.documents in
    let i = c.loop-at.at in
    let r = c.index-documents-at.result in
    let within : i < length all = let n = c.loop-at-test.true in omega arith in
    ap (slice_set now i) c.lose.ensures ∙ map_over_more document_lost all now i (get_or now i r) within c.loop-at.invariant (ap (get_or now i) c.index-documents-at.is)
