use Rattle.frame_steps.proofs.build.+fill.Given as goal

abbrev pub decreases-fill : goal.decreases-fill
decreases-fill l = l.most
