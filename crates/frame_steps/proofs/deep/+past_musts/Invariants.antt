use Rattle.frame_steps.proofs.deep.+past_musts.Given as goal

abbrev pub decreases-past_musts : goal.decreases-past_musts
decreases-past_musts l = l.musts
