use Rattle.text_analysis.specs.Items.{views_of}
use Rattle.analysis_api.specs.Typed.{SameFront}
use Rattle.text_analysis.proofs.alike.common_front.Given as goal

-- so many are alike
abbrev pub invariant-loop-k : goal.invariant-loop-k
invariant-loop-k l = SameFront (views_of l.left) (views_of l.right) l.k
