use Rattle.std.proofs.Common.{[], List, ◌≤◌, length, take, sym, subst, ap, arith}
use Rattle.std.proofs.lemmas.List.{length-take, length-take-le}
use Rattle.resume_parser.specs.declared.kept.Passed.{Passed}
use Rattle.resume_parser.specs.Kept.{ArePassed, HasParsed, text_in}
use Rattle.resume_parser.proofs.Fronts.{shares}
use Rattle.resume_parser.proofs.Steps.{steps_first, steps_many}
use Rattle.resume_parser.proofs.kept.KeptParse.front.Goals as goal

pub slice_bounds-first-end : goal.slice_bounds-first-end
unfolding HasParsed
slice_bounds-first-end c =
    let (ts, kept, le) = c.requires.parsed in
    let many = steps_many (text_in c.args.self.now) [] ts c.args.self.now.steps.items kept.passed in
    let all = ap length c.as_slice.ensures.value in
    sym (length-take-le c.args.same c.as_slice.result.now (omega (arith, many, all, le)))

pub returns-clause-count : goal.returns-clause-count
unfolding HasParsed
returns-clause-count c = λ ts kept most.
    let k = c.args.self.now in
    let text = text_in k in
    let n = c.args.same in
    let first = steps_first text [] ts k.steps.items n kept.passed in
    let here = subst (λ (l : List Passed). ArePassed text [] (take n ts) l) (ap (take n) (sym c.as_slice.ensures.value)) first in
    let less : length (take n ts) ≤ 1048576 = omega (arith, length-take n ts, most) in
    c.settled.ensures text (take n ts) (c.stack_behind.ensures text (take n ts) kept.start here) less

pub returns-clause-front : goal.returns-clause-front
returns-clause-front c = λ ts us whole same le few most.
    shares (text_in c.args.self.now) ts us c.args.same c.settled.result same (returns-clause-count c ts whole.parsed (omega (arith, le, most)))
