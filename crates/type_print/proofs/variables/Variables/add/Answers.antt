use Rattle.std.specs.Prelude.{nat_eq}
use Rattle.std.specs.HashMap.{get}
use Rattle.std.proofs.lemmas.Result.{on_ok_weaker}
use Rattle.type_print.specs.Meeting.{met_of}
use Rattle.type_print.proofs.Meeting.{added}
use Rattle.type_print.proofs.variables.Variables.add.Goals as goal

pub returns-in-Ok : goal.returns-in-Ok
returns-in-Ok c =
    on_ok_weaker c.mark.result
    (added c.args.root.0 (met_of c.args.self.now) (met_of c.next_name.new.self) (met_of c.mark.new.self) c.in_ok-name.name (get nat_eq c.insert.new.self) c.in_ok-name.ensures c.in-Ok.ensures.updates.0)
    c.mark.ensures
