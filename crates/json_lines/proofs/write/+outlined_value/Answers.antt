use Rattle.std.proofs.Common.{◌≡◌, ◌∙◌, ap, take, map, arith}
use Rattle.std.proofs.lemmas.List.{take_all}
use Rattle.serde_json.specs.View.{view, items_of}
use Rattle.service_model.specs.Replies.{outlined_data, outline_items}
use Rattle.json_lines.specs.Means.{outlined_of, outline_of}
use Rattle.json_lines.specs.declared.reply.Outlined.{out-Outlined}
use Rattle.json_lines.proofs.Replies.{outlined_parts, outline_items_map}
use Rattle.json_lines.proofs.write.+outlined_value.Goals as goal

pub returns : goal.returns
returns t c =
    let inside = c.deref-child-items.result.now in
    let whole : take c.loop-child.child-index inside ≡ inside = take_all _ _ (omega arith) in
    let seen : items_of (map view c.loop-child.children.items) ≡ outline_items (outline_of (map outlined_of (out-Outlined c.args.outlined.now).children.items)) =
    ap items_of (c.loop-child.invariant ∙ ap (map (λ o. outlined_data (outlined_of o))) whole)
    ∙ outline_items_map inside
    ∙ ap (λ os. outline_items (outline_of (map outlined_of os))) c.deref-child-items.ensures.value
    in
    rw (outlined_parts c.args.outlined.now) (rw seen at c.member_value.ensures)
