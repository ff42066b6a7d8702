use Rattle.std.proofs.Common.{sym, ◌∙◌, arith}
use Rattle.std.specs.Mem.Slots.{slots_items, slots_counts}
use Rattle.gap_bytes.proofs.Slides.{slid_right}
use Rattle.gap_bytes.proofs.room.slide_right.Goals as goal

pub returns-clause-bytes : goal.returns-clause-bytes
returns-clause-bytes c =
    let old = c.args.row.now in let new = c.move_within.new.self in let m = c.move_within.ensures in
    let a = (slots_counts old).0 in let b = (slots_counts new).0 in
    slid_right c.args.from c.args.to c.args.gap (slots_items old) (slots_items new) (omega (arith, c.requires.gap.within, a)) (omega (arith, c.requires.gap.within, c.requires.order.1, a)) (sym b ∙ m.places.count ∙ a) c.requires.order.0 m.moved m.items
