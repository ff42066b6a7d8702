use Rattle.std.proofs.Common.{◌+◌, ◌++◌, ◌∙◌, ap, sym, map, drop, get_or, append-nil}
use Rattle.std.proofs.lemmas.List.{drop_all, drop_more}
use Rattle.type_nodes.specs.Nodes.{IsNode}
use Rattle.type_nodes.specs.Views.{numbers}
use Rattle.level_unify.specs.Copies.{table_of, image}
use Rattle.typing_state.proofs.Listed.{number_at}
use Rattle.type_reading.proofs.Imaging.{image_more}
use Rattle.type_reading.proofs.copies.Copies.images.Goals as goal

pub loop-part-preserved : goal.loop-part-preserved
loop-part-preserved c = λ inside.
    let nodes = c.args.at.now.store.nodes in
    let k = c.loop-part.part-index in
    let lt = number_at (IsNode nodes) c.args.parts.now k (record { 0 = 0 }) inside c.loop-part-test.true in
    image_more (image nodes (table_of c.args.self.now.table)) c.loop-part.images.items c.push.new.list.items (drop k c.args.parts.now) (drop (k + 1) c.args.parts.now) c.args.parts.now
    (get_or c.args.parts.now k (record { 0 = 0 })) c.image.result c.in_ok-push.ensures.pushed (c.image.ensures lt) (drop_more c.args.parts.now k _ c.loop-part-test.true) (c.loop-part.invariant inside)

pub loop-part-init : goal.loop-part-init
loop-part-init c = λ inside. ap (λ ns. numbers ns ++ map (image c.args.at.now.store.nodes (table_of c.args.self.now.table)) (numbers c.args.parts.now)) c.new-images.ensures.items

pub returns : goal.returns
returns c = λ inside.
    let done = numbers c.loop-part.images.items in
    sym (append-nil done) ∙ ap (λ ps. done ++ map (image c.args.at.now.store.nodes (table_of c.args.self.now.table)) (numbers ps)) (sym (drop_all c.loop-part.part-index c.args.parts.now c.loop-part-test.false)) ∙ c.loop-part.invariant inside
