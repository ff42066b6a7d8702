use Rattle.std.proofs.Common.{add-one, sym, ◌∙◌, ap}
use Rattle.syntax_tree.specs.Tallies.{shifted_more}
use Rattle.frame_parser.specs.Run.{shifted_by}
use Rattle.frame_parser.proofs.Lists.{shifted_next}
use Rattle.frame_parser.proofs.steps.add_shifted.Goals as goal

pub loop-preserved : goal.loop-preserved
loop-preserved g c =
    c.add_shifted.ensures ∙ ap shifted_more c.loop.invariant ∙ shifted_next c.loop.counter (g.C.Counts.tallies c.args.counts.now)
    ∙ ap (λ n. shifted_by n (g.C.Counts.tallies c.args.counts.now)) (sym (add-one c.loop.counter))
