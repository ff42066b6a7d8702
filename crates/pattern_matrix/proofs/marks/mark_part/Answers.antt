use Rattle.std.proofs.Common.{◌∙◌}
use Rattle.pattern_matrix.proofs.Marking.{part-there, part-lacking}
use Rattle.pattern_matrix.proofs.marks.mark_part.Goals as goal

pub returns-in-Some : goal.returns-in-Some
returns-in-Some c =
    c.mark_from.ensures ∙ part-there c.args.place c.args.before c.args.parts.now c.in-Some.part.now c.in-Some.ensures.lookup.3.0 c.in-Some.ensures.lookup.1

pub returns-in-None : goal.returns-in-None
returns-in-None c = part-lacking c.args.place c.args.before c.args.parts.now c.in-None.ensures.lookup.3
