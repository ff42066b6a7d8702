use Rattle.json_lines.proofs.Replies.{outline_items_map}
use Rattle.json_lines.proofs.write.outline_value.Goals as goal

pub returns : goal.returns
returns c = rw (← (outline_items_map c.args.list.now)) c.list_value.ensures
