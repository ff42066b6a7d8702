use Rattle.std.specs.Prelude.{Ok}
use Rattle.std.specs.declared.alloc.AllocError.{AllocError}
use Rattle.type_nodes.proofs.Trails.{keeps_trans}
use Rattle.typing_state.proofs.Going.{goes_trans, made_goes, with_store}
use Rattle.typing_state.proofs.Joining.{limited_by}
use Rattle.typing_state.proofs.parts.Parts.limit.Goals as goal

pub returns-in_err-limit-clause-goes : goal.returns-in_err-limit-clause-goes
returns-in_err-limit-clause-goes c = made_goes c.var.result c.args.self.now c.var.new.self _ c.var.ensures.made c.var.ensures.failed c.var.ensures.keeps

pub returns-clause-limited : goal.returns-clause-limited
returns-clause-limited c =
    limited_by {E = AllocError} (Ok c.in_ok-join.field-0) c.args.self.now.store c.var.new.self c.join.new.self.store c.in_ok-limit.limit.0 c.args.level c.min.result c.args.scope c.args.ty.0
    c.min.ensures c.in_ok-limit.ensures.made c.in_ok-join.ensures.joined

pub returns-clause-keeps : goal.returns-clause-keeps
returns-clause-keeps c = keeps_trans c.args.self.now.store c.var.new.self c.join.new.self.store c.var.ensures.keeps c.join.ensures.keeps

pub returns-clause-goes : goal.returns-clause-goes
returns-clause-goes c =
    let mid = with_store c.args.self.now c.var.new.self in
    goes_trans c.args.self.now mid c.join.new.self (made_goes c.var.result c.args.self.now c.var.new.self _ c.var.ensures.made c.var.ensures.failed c.var.ensures.keeps) c.join.ensures.goes
