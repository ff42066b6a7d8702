use Rattle.std.proofs.Common.{length}
use Rattle.std.proofs.lemmas.Result.{IfOk-weaker}
use Rattle.frame_parser.specs.Run.{run}
use Rattle.frame_parser.proofs.Comes.{run_comes}
use Rattle.frame_parser.proofs.steps.close.Goals as goal

pub end-requires : goal.end-requires
end-requires c =
    let (text, ts, b, l) = c.requires.few in
    record { ready = record { text = text; parser = run text ts; count = length ts; shows = b; comes = run_comes text ts; few = l } }

pub returns-clause-tree : goal.returns-clause-tree
returns-clause-tree c = IfOk-weaker c.end.result _ _ (λ r ens text ts b l. (ens text (run text ts) (length ts) b (run_comes text ts) l).tree) c.end.ensures

pub returns-clause-faults : goal.returns-clause-faults
returns-clause-faults c = IfOk-weaker c.end.result _ _ (λ r ens text ts b l. (ens text (run text ts) (length ts) b (run_comes text ts) l).faults) c.end.ensures
