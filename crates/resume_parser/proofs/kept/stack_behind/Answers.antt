use Rattle.std.proofs.Common.{List, [], sym, subst}
use Rattle.token_model.specs.Kinds.{Tok}
use Rattle.frame_parser.specs.Behind.{Behind}
use Rattle.resume_parser.specs.declared.kept.Passed.{Passed}
use Rattle.resume_parser.proofs.Steps.{last_behind, none_parsed}
use Rattle.resume_parser.proofs.kept.stack_behind.Goals as goal

pub returns-then-count-eq0 : goal.returns-then-count-eq0
returns-then-count-eq0 c = λ text ts start are. subst (λ (l : List Tok). Behind text l c.args.start.now) (sym (none_parsed text [] ts c.args.steps.now c.if-count-eq0.true are)) start

pub returns : goal.returns
returns c = λ text ts start are. subst (λ (s : Passed). Behind text ts s.stack) c.index-steps-count.is (last_behind text ts c.args.steps.now c.index-steps-count.result c.if-count-eq0.false c.index-steps-count.is are).0
