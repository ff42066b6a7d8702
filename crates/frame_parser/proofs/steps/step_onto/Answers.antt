use Rattle.std.proofs.Common.{◌++◌, length, map, sym, ◌∙◌, ap, subst, arith}
use Rattle.std.proofs.lemmas.List.{map-append}
use Rattle.syntax_tree.specs.View.{tok_of}
use Rattle.frame_steps.specs.View.{fault_of}
use Rattle.frame_parser.specs.Run.{run, shifted_by}
use Rattle.frame_parser.specs.Shown.{Shows}
use Rattle.frame_parser.proofs.Comes.{run_comes}
use Rattle.frame_parser.proofs.Lists.{run_next}
use Rattle.frame_parser.proofs.steps.step_onto.Goals as goal

pub take_one-requires : goal.take_one-requires
take_one-requires g c =
    let (text, ts, b, l) = c.requires.few in
    record { ready = record { text = text; parser = run text ts; count = length ts; shows = b; comes = run_comes text ts; few = omega arith } }

pub returns-clause-stack : goal.returns-clause-stack
returns-clause-stack g c text ts b l =
    let x = c.in_ok-next.ensures text (run text ts) (length ts) b (run_comes text ts) l in
    subst (λ p. Shows text p c.in_ok-next.next.stepped.stack) (sym (run_next text ts (tok_of c.args.token.now))) x.step.stack

pub returns-clause-faults : goal.returns-clause-faults
returns-clause-faults g c text ts b l =
    let old = c.args.faults.now.items in
    let x = c.in_ok-next.ensures text (run text ts) (length ts) b (run_comes text ts) l in
    ap (map fault_of) (c.in_ok-extend_from_slice.ensures.items ∙ ap (λ xs. old ++ xs) c.deref.ensures.value) ∙ map-append fault_of old c.in_ok-next.next.stepped.faults.items ∙ ap (λ xs. map fault_of old ++ xs) x.step.faults

pub returns-clause-counted : goal.returns-clause-counted
returns-clause-counted g c text ts b l =
    let x = c.in_ok-next.ensures text (run text ts) (length ts) b (run_comes text ts) l in
    c.add_shifted.ensures ∙ ap (λ n. shifted_by n (g.C.Counts.tallies c.args.counts.now)) x.count
