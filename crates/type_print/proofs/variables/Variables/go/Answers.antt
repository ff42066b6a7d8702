use Rattle.std.proofs.lemmas.Result.{on_ok_weaker}
use Rattle.type_print.specs.Meeting.{met_of, moves_of}
use Rattle.type_print.proofs.Meeting.{left_root}
use Rattle.type_print.proofs.variables.Variables.go.Goals as goal

pub returns-in-Behind : goal.returns-in-Behind
returns-in-Behind c =
    rw c.in-Behind.is (on_ok_weaker c.mark.result (left_root c.args.store.now.nodes c.in-Behind.root.0 (moves_of c.args.left.now.items) (met_of c.args.self.now) (met_of c.mark.new.self)) c.mark.ensures)
