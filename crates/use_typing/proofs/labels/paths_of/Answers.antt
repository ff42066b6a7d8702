use Rattle.std.proofs.Common.{◌∙◌, ◌<◌, ◌+◌, ◌++◌, ap, sym, map, drop, length, arith, append_assoc, append-nil}
use Rattle.std.proofs.lemmas.List.{drop_all}
use Rattle.row_parts.specs.Numbered.{path_view}
use Rattle.env_table.specs.Labels.{written_of}
use Rattle.use_typing.specs.Labels.{label_path, label_paths}
use Rattle.use_typing.proofs.Reading.{drop_read}
use Rattle.use_typing.proofs.labels.paths_of.Goals as goal

pub loop-label-init : goal.loop-label-init
loop-label-init c = ap (λ ps. map written_of ps ++ label_paths (map path_view c.args.labels.now)) c.new-paths.ensures.items

pub loop-label-preserved : goal.loop-label-preserved
loop-label-preserved c =
    let all = c.args.labels.now in
    let i = c.loop-label.label-index in
    let x = c.label-item.result in
    let lt : i < length all = let n = c.loop-label-test.true in omega arith in
    let done = map written_of c.loop-label.paths.items in
    let left = label_paths (map path_view (drop (i + 1) all)) in
    ap (λ ps. ps ++ left) c.in_ok-push_label.ensures ∙ append_assoc done (label_path (path_view x)) left
    ∙ ap (λ os. done ++ label_paths (map path_view os)) (sym (drop_read all i x lt c.label-item.is)) ∙ c.loop-label.invariant

pub returns : goal.returns
returns c =
    let done = map written_of c.loop-label.paths.items in
    sym (append-nil done) ∙ ap (λ os. done ++ label_paths (map path_view os)) (sym (drop_all c.loop-label.label-index c.args.labels.now c.loop-label-test.false)) ∙ c.loop-label.invariant
