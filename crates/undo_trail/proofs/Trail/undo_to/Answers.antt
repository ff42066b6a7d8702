use Rattle.std.proofs.Common.{◌<◌, ◌∙◌, length, arith}
use Rattle.undo_trail.proofs.Undone.{UndoneTo, undo_one}
use Rattle.undo_trail.proofs.Trail.undo_to.Goals as goal

pub loop-mark-preserved-in-Some : goal.loop-mark-preserved-in-Some
loop-mark-preserved-in-Some g c =
    let behind : c.args.mark.0 < length c.loop-mark.self.writes.items = omega arith in
    let one : UndoneTo g.T.Undo.undone c.args.mark.0 c.pop.new.self.items (g.T.Undo.cells c.undo.new.self) c.loop-mark.self.writes.items (g.T.Undo.cells c.loop-mark.on) =
    undo_one g.T.Undo.undone c.args.mark.0 c.pop.new.self.items (g.T.Undo.cells c.undo.new.self) c.loop-mark.self.writes.items (g.T.Undo.cells c.loop-mark.on)
    c.in-Some.w behind c.in-Some.ensures.items c.undo.ensures in
    record { fits = one.fits; kept = one.kept ∙ c.loop-mark.invariant.kept; rest = one.rest ∙ c.loop-mark.invariant.rest }
