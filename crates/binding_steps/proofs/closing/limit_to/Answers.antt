use Rattle.std.proofs.Common.{refl}
use Rattle.typing_state.proofs.Going.{goes_trans, made_goes, with_store}
use Rattle.binding_steps.proofs.ClosingLaws.{inside_made}
use Rattle.binding_steps.proofs.closing.limit_to.Goals as goal

pub returns-then-not-is_node-clause-goes : goal.returns-then-not-is_node-clause-goes
returns-then-not-is_node-clause-goes c = made_goes c.var.result c.args.at.now c.var.new.self _ c.var.ensures.made c.var.ensures.failed c.var.ensures.keeps

pub returns-in_default-clause-goes : goal.returns-in_default-clause-goes
returns-in_default-clause-goes c =
    goes_trans c.args.at.now (with_store c.args.at.now c.var.new.self) c.unify.new.self (made_goes c.var.result c.args.at.now c.var.new.self _ c.var.ensures.made c.var.ensures.failed c.var.ensures.keeps) c.unify.ensures.goes

pub returns-clause-goes : goal.returns-clause-goes
returns-clause-goes c =
    goes_trans c.args.at.now (with_store c.args.at.now c.var.new.self) c.unify.new.self (made_goes c.var.result c.args.at.now c.var.new.self _ c.var.ensures.made c.var.ensures.failed c.var.ensures.keeps) c.unify.ensures.goes

pub returns-clause-inside : goal.returns-clause-inside
returns-clause-inside c =
    let goes = goes_trans c.args.at.now (with_store c.args.at.now c.var.new.self) c.unify.new.self (made_goes c.var.result c.args.at.now c.var.new.self _ c.var.ensures.made c.var.ensures.failed c.var.ensures.keeps) c.unify.ensures.goes in
    inside_made c.args.at.now c.unify.new.self c.var.new.self c.in_ok-limit.limit.0 c.args.ty.0 _ c.args.scope refl c.in_ok-limit.ensures.made (c.is_node.ensures.0 c.if-not-is_node.false) c.in-Ok.ensures.unified c.unify.ensures.rest goes c.len-nodes.ensures.sound
