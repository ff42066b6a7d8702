use Rattle.std.proofs.Common.{[], ◌∙◌, sym}
use Rattle.text_changes.proofs.Trying.{inserted}
use Rattle.text_changes.proofs.trials.set_of.Goals as goal

pub loop-mark-preserved : goal.loop-mark-preserved
loop-mark-preserved c =
    inserted c.loop-mark.known c.insert.new.self c.args.marks.now c.loop-mark.mark-index (record { start = 0; end = 0; kind = record { ref_ptr = (0, 0); now = [] } }) c.insert.result
    c.loop-mark-test.true c.insert.ensures.updates (sym c.is_err.ensures.value ∙ c.if-is_err.false) c.loop-mark.invariant
