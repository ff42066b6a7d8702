use Rattle.std.proofs.Common.{◌∙◌, List, map, nat_lt, ap, sym}
use Rattle.text_terms.specs.Bytes.{str_bytes}
use Rattle.lsp_positions.specs.Texts.{columns_in}
use Rattle.lsp_front.specs.Sayings.{change_of}
use Rattle.lsp_documents.specs.States.{Document, State, place_in, read_count}
use Rattle.lsp_documents.specs.Changes.{has_room}
use Rattle.lsp_documents.proofs.Kept.{changed_by}
use Rattle.lsp_documents.proofs.Stepping.{changed_step, unchanged_step}
use Rattle.lsp_documents.proofs.documents.Documents.change.Goals as goal

pub returns-in_default-clause-step : goal.returns-in_default-clause-step
returns-in_default-clause-step g c =
    let s = c.args.self.now in
    let uri = str_bytes c.args.uri.now in
    let place = c.in_default.ensures.value
    ∙ ap (λ (l : List Document). place_in l c.as_str.result.now) c.deref.ensures.value
    ∙ ap (place_in c.self.inside.documents.items) c.as_str.ensures
    ∙ ap (λ (x : State). place_in x.documents uri) c.self.view_is in
    unchanged_step s uri (map change_of c.args.changes.items) c.args.version c.new.result (sym place) c.new.ensures

pub returns-clause-step : goal.returns-clause-step
returns-clause-step g c =
    let s = c.args.self.now in
    let uri = str_bytes c.args.uri.now in
    let cs = map change_of c.args.changes.items in
    let at = c.in-Some.at in
    let d = c.take_at-document.result in
    let inside = c.self-2.inside in
    let by = columns_in inside.choices.columns in
    let place = c.in-Some.ensures.value
    ∙ ap (λ (l : List Document). place_in l c.as_str.result.now) c.deref.ensures.value
    ∙ ap (place_in c.self.inside.documents.items) c.as_str.ensures
    ∙ ap (λ (x : State). place_in x.documents uri) c.self.view_is in
    let room = c.room_beside-room.ensures ∙ ap (λ n. nat_lt n 32) (c.count_read.ensures ∙ ap read_count c.deref-2.ensures.value) in
    let is = c.in_ok-change_all.ensures
    ∙ ap (λ b. changed_by by b d (map change_of c.deref-3.result.now) c.args.version) room
    ∙ ap (λ l. changed_by by (has_room inside.documents.items) d (map change_of l) c.args.version) c.deref-3.ensures.value
    ∙ ap (λ (x : State). changed_by x.choices.columns (has_room x.documents) d cs c.args.version) c.self-2.view_is in
    changed_step s c.take_at-document.new.self c.put_in.new.self uri cs c.args.version at d c.change_all.new.self c.in_ok-put_in.field-0 (sym place)
    c.take_at-document.ensures.value c.take_at-document.ensures.left is c.in_ok-put_in.ensures.puts
