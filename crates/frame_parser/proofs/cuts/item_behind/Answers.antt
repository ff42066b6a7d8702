use Rattle.std.proofs.Common.{sym, ◌∙◌, subst}
use Rattle.frame_parser.specs.Shown.{ShowsItem}
use Rattle.frame_parser.proofs.Marks.{begins_shows, has_shows, behind_kept, behind_gone}
use Rattle.frame_parser.proofs.cuts.item_behind.Goals as goal

pub returns-then-has_item : goal.returns-then-has_item
returns-then-has_item c text s t i col shows item =
    behind_kept text s.stack t i _ (sym (begins_shows text s c.args.rows.now shows) ∙ sym c.begins_item.ensures ∙ c.if-begins_item.false)
    (sym (has_shows text s c.args.rows.now shows) ∙ sym c.has_item.ensures ∙ c.if-has_item.true) (subst (ShowsItem text i) c.in-Some.is item)

pub returns-else-has_item : goal.returns-else-has_item
returns-else-has_item c text s t i col shows item =
    behind_gone text s.stack t i (sym (begins_shows text s c.args.rows.now shows) ∙ sym c.begins_item.ensures ∙ c.if-begins_item.false)
    (sym (has_shows text s c.args.rows.now shows) ∙ sym c.has_item.ensures ∙ c.if-has_item.false)
