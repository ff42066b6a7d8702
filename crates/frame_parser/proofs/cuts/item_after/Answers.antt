use Rattle.std.proofs.Common.{option_map, sym, ◌∙◌, subst}
use Rattle.recovery_model.specs.Items.{state}
use Rattle.recovery_model.specs.Recovery.{faulted}
use Rattle.frame_steps.specs.View.{fault_of}
use Rattle.frame_parser.specs.Shown.{ShowsItem}
use Rattle.frame_parser.proofs.Marks.{after_told, after_left, after_taken, some_not, put_after}
use Rattle.frame_parser.proofs.cuts.item_after.Goals as goal

pub returns-then-is_left_out : goal.returns-then-is_left_out
returns-then-is_left_out c text x t i col put item =
    put_after text x c.args.put.now t i _ put
    (subst (λ k. ShowsItem text k c.faulted.result) (sym (after_left x.stack t (option_map fault_of c.args.put.now.fault) i (sym c.is_left_out.ensures ∙ c.if-is_left_out.true))) (c.faulted.ensures text i item))

pub returns-in-None : goal.returns-in-None
returns-in-None c text x t i col put item =
    put_after text x c.args.put.now t i _ put
    (subst (λ o. ShowsItem text (after_told x.stack t (option_map fault_of o) i) c.item_behind.result) (sym c.in-None.is) (c.item_behind.ensures text (state x.stack x.place) t i col put.rows item))

pub returns-in-Some : goal.returns-in-Some
returns-in-Some c text x t i col put item =
    put_after text x c.args.put.now t i _ put
    (subst (λ k. ShowsItem text k c.item_behind-in-Some.result)
    (sym (after_taken x.stack t (option_map fault_of c.args.put.now.fault) i (sym c.is_left_out.ensures ∙ c.if-is_left_out.false) (some_not c.args.put.now.fault c.in-Some.field-0 c.in-Some.is)))
    (c.item_behind-in-Some.ensures text (state x.stack x.place) t (faulted i) col put.rows (c.faulted-in-Some.ensures text i item)))
