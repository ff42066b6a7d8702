use Rattle.std.proofs.Common.{◌∙◌, length, nat_lt, ap}
use Rattle.text_terms.specs.Bytes.{str_bytes}
use Rattle.lsp_documents.specs.States.{State, read_count}
use Rattle.lsp_documents.specs.Changes.{has_room}
use Rattle.lsp_documents.proofs.Kept.{opened_by}
use Rattle.lsp_documents.proofs.Stepping.{opened_step}
use Rattle.lsp_documents.proofs.documents.Documents.open.Goals as goal

pub returns-clause-step : goal.returns-clause-step
returns-clause-step g c =
    let uri = str_bytes c.args.uri in
    let text = str_bytes c.args.text in
    let old = c.self.inside.documents in
    let room = c.room_beside-room.ensures ∙ ap (λ n. nat_lt n 32) (c.count_read.ensures ∙ ap read_count c.deref.ensures.value) in
    let is = c.in_ok-document.ensures
    ∙ ap (λ b. opened_by uri c.args.version b text) room
    ∙ ap (λ (x : State). opened_by uri c.args.version (has_room x.documents) text) c.self.view_is in
    let end = c.len-at.ensures ∙ old.ok.0 ∙ ap (λ (x : State). length x.documents) c.self.view_is in
    opened_step c.args.self.now c.take_off.new.self c.put_in.new.self uri text c.args.version c.in_ok-document.document c.len-at.result c.in_ok-put_in.field-0
    c.take_off.ensures is end c.in_ok-put_in.ensures.puts
