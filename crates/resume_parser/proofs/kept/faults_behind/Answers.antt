use Rattle.std.proofs.Common.{◌≡◌, List, [], length, refl, sym, subst}
use Rattle.token_model.specs.Kinds.{Tok}
use Rattle.grammar_model.specs.Ocaml.{Text}
use Rattle.frame_parser.specs.Run.{faults}
use Rattle.resume_parser.specs.declared.kept.Passed.{Passed}
use Rattle.resume_parser.proofs.Steps.{last_behind, none_parsed}
use Rattle.resume_parser.proofs.kept.faults_behind.Goals as goal

pub returns-then-count-eq0 : goal.returns-then-count-eq0
unfolding faults
returns-then-count-eq0 c = λ text ts are. subst (λ (l : List Tok). 0 ≡ length (faults text l)) (sym (none_parsed text [] ts c.args.steps.now c.if-count-eq0.true are)) (none text)
  where
    none : (text : Text) → 0 ≡ length (faults text [])
    none text = refl

pub returns : goal.returns
returns c = λ text ts are. subst (λ (s : Passed). s.faults ≡ length (faults text ts)) c.index-steps-count.is (last_behind text ts c.args.steps.now c.index-steps-count.result c.if-count-eq0.false c.index-steps-count.is are).1
