use Rattle.std.proofs.Common.{ℕ, ◌∷◌, IfOk, sym, ◌∙◌, ap, subst}
use Rattle.grammar_model.specs.Keys.{key_of}
use Rattle.grammar_model.specs.Machine as machine
use Rattle.grammar_model.specs.Ocaml.{row_name}
use Rattle.grammar_laws.proofs.Sound.{place_may}
use Rattle.syntax_tree.specs.View.{tok_of}
use Rattle.syntax_rows.specs.View.{place_of}
use Rattle.parse_frames.specs.Named.{IsNamed}
use Rattle.parse_frames.specs.Stacks.{stack_view}
use Rattle.frame_steps.specs.Course.{taken_to}
use Rattle.frame_steps.specs.View.{text_table}
use Rattle.frame_steps.proofs.build.take.Goals as goal

pub start-requires-clause-takes : goal.start-requires-clause-takes
start-requires-clause-takes c =
    let v = stack_view c.args.frames.now in
    (place_may (text_table c.args.text) v.top.number v.top.spot (key_of (tok_of c.args.token.now)) c.in-AtSpot.spot v.last (c.requires.place ∙ ap place_of c.in-AtSpot.is)).1

pub returns-in-AtSpot : goal.returns-in-AtSpot
returns-in-AtSpot c =
    subst (λ p. IfOk c.start.result (λ r. (f : machine.Frame) (S : machine.Stack) (at : ℕ) → IsNamed (text_table c.args.text) row_name (f ∷ S) at (stack_view c.args.frames.now)
    → IsNamed (text_table c.args.text) row_name (taken_to (text_table c.args.text) (place_of p) f S (tok_of c.args.token.now)) (tok_of c.args.token.now).end (stack_view r))) (sym c.in-AtSpot.is) c.start.ensures

pub returns-in-Growth : goal.returns-in-Growth
returns-in-Growth c =
    subst (λ p. IfOk c.grow.result (λ r. (f : machine.Frame) (S : machine.Stack) (at : ℕ) → IsNamed (text_table c.args.text) row_name (f ∷ S) at (stack_view c.args.frames.now)
    → IsNamed (text_table c.args.text) row_name (taken_to (text_table c.args.text) (place_of p) f S (tok_of c.args.token.now)) (tok_of c.args.token.now).end (stack_view r))) (sym c.in-Growth.is) c.grow.ensures
