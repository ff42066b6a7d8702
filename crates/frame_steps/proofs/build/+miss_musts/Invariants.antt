use Rattle.frame_steps.proofs.build.+miss_musts.Given as goal

abbrev pub decreases-miss_musts : goal.decreases-miss_musts
decreases-miss_musts l = l.musts
