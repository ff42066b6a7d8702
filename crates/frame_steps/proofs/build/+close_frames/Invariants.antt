use Rattle.frame_steps.proofs.build.+close_frames.Given as goal

abbrev pub decreases-close_frames : goal.decreases-close_frames
decreases-close_frames l = l.count
