use Rattle.std.proofs.Common.{[], ◌∷◌, ◌++◌, List, length, map, sym, subst, ◌∙◌, ap}
use Rattle.std.proofs.lemmas.List.{length-map, map-append}
use Rattle.settled_laws.specs.Settled.{settled_in}
use Rattle.settled_laws.proofs.Laws.{settled_stay}
use Rattle.frame_steps.specs.Told.{told}
use Rattle.frame_steps.specs.View.{fault_of}
use Rattle.frame_parser.specs.Run.{faults, next_step}
use Rattle.frame_parser.proofs.Lists.{faults_next}
use Rattle.syntax_tree.specs.View.{tok_of, trees_of}
use Rattle.resume_parser.specs.declared.kept.Passed.{Passed}
use Rattle.resume_parser.specs.Kept.{ArePassed, text_in}
use Rattle.resume_parser.proofs.Fronts.{begins_on}
use Rattle.resume_parser.proofs.Steps.{steps_more}
use Rattle.resume_parser.proofs.kept.KeptParse.take.Goals as goal

pub step_onto-requires : goal.step_onto-requires
step_onto-requires g c =
    let text = text_in c.args.self.now in
    let (ts, old, few) = c.requires.few in
    let here = subst (λ (l : List Passed). ArePassed text [] ts l) (sym (c.as_slice.ensures.value ∙ c.reserve.ensures.items)) old.passed in
    record { few = (text, ts, c.stack_behind-before.ensures text ts old.start here, few) }

pub returns-clause-parsed : goal.returns-clause-parsed
returns-clause-parsed g c = λ ts old few.
    let k = c.args.self.now in
    let text = text_in k in
    let t = tok_of c.args.token.now in
    let here = subst (λ (l : List Passed). ArePassed text [] ts l) (sym (c.as_slice.ensures.value ∙ c.reserve.ensures.items)) old.passed in
    let stack = c.stack_behind-before.ensures text ts old.start here in
    let news = (next_step text ts t).faults in
    let now = c.in_ok-stack.ensures.faults text ts stack few ∙ ap (λ xs. xs ++ map told news) old.faults ∙ sym (map-append told (faults text ts) news) ∙ ap (map told) (sym (faults_next text ts t)) in
    let many = c.len-faults.ensures ∙ c.step_onto.new.faults.ok.0 ∙ sym (length-map c.step_onto.new.faults.items fault_of) ∙ ap length now ∙ length-map (faults text (ts ++ t ∷ [])) told in
    let s : Passed = record { stack = c.in_ok-stack.stack; faults = c.len-faults.result } in
    record {
      start = old.start;
      passed = subst (λ (l : List Passed). ArePassed text [] (ts ++ t ∷ []) l) (sym (c.push_in_room.ensures ∙ ap (λ (l : List Passed). l ++ s ∷ []) c.reserve.ensures.items))
          (steps_more text [] ts k.steps.items t s old.passed (c.in_ok-stack.ensures.stack text ts stack few) many);
      items = begins_on (trees_of k.parsed.tree) (settled_in text ts) (settled_in text (ts ++ t ∷ [])) old.items (settled_stay text ts (t ∷ []));
      faults = now;
    }

pub returns-clause-counted : goal.returns-clause-counted
returns-clause-counted g c = λ ts old few.
    let text = text_in c.args.self.now in
    let here = subst (λ (l : List Passed). ArePassed text [] ts l) (sym (c.as_slice.ensures.value ∙ c.reserve.ensures.items)) old.passed in
    c.in_ok-stack.ensures.counted text ts (c.stack_behind-before.ensures text ts old.start here) few
