use Rattle.std.proofs.Common.{arith}
use Rattle.std.specs.Mem.Slots.{slots_items, slots_counts}
use Rattle.gap_bytes.proofs.Slides.{spliced, outside_long}
use Rattle.gap_bytes.proofs.room.Room.splice.Goals as goal

pub returns-clause-bytes : goal.returns-clause-bytes
returns-clause-bytes c =
    let old = c.args.self.now in let mid = c.slide.new.row in let a = (slots_counts old.row).0 in let b = (slots_counts mid).0 in
    let long = outside_long old.front old.gap (slots_items old.row) (omega (arith, c.requires.room.gap.within, a)) in
    let places = c.slide.ensures.places.count in
    spliced (slots_items old.row) (slots_items mid) (slots_items c.copy_in.new.self) c.args.piece.now old.front old.gap c.args.at c.args.cut (omega (arith, c.requires.within, long, a, b, places)) c.requires.fits c.slide.ensures.bytes c.copy_in.ensures.items
