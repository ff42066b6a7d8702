use Rattle.typing_state.proofs.Going.{goes_trans}
use Rattle.typing_state.proofs.Silence.{store_silent}
use Rattle.std.proofs.Common.{subst}
use Rattle.syntax_tree.specs.View.{node_view}
use Rattle.typing_steps.proofs.Rows.{var_any}
use Rattle.pattern_rows.specs.Named.{BindsNameIf}
use Rattle.pattern_rows.proofs.Matching.{name_matches}
use Rattle.row_parts.specs.Numbered.{token_in}
use Rattle.use_typing.specs.Labels.{toks_of}
use Rattle.pattern_typing.specs.Matching.{binds_of, names_seen}
use Rattle.pattern_typing.specs.Names.{TellsNameIf}
use Rattle.pattern_typing.proofs.Telling.{name_behind}
use Rattle.pattern_typing.proofs.patterns.name.Goals as goal

pub returns-clause-carries : goal.returns-clause-carries
returns-clause-carries c =
    let xs = binds_of c.args.names.now.items in
    let ys = binds_of c.bind_if.new.names.items in
    let seen = names_seen c.args.seen.now.items in
    let then = names_seen c.bind_if.new.seen.items in
    name_matches c.args.at.now c.var.new.self c.bind_if.new.at c.args.env.now c.args.number (node_view c.args.node.now) c.in_ok-ty.ty xs ys seen then (var_any c.args.at.now c.var.new.self c.in_ok-ty.ensures.made c.var.ensures.rest) c.var.ensures.goes
    (subst (λ q. BindsNameIf q c.var.new.self c.bind_if.new.at c.args.env.now c.args.number c.in_ok-ty.ty xs ys seen then) c.token.ensures c.in_ok-bind_if.ensures.binds)

pub returns-clause-goes : goal.returns-clause-goes
returns-clause-goes c = goes_trans c.args.at.now c.var.new.self c.bind_if.new.at c.var.ensures.goes c.bind_if.ensures.goes

pub returns-in_err-bind_if-clause-goes : goal.returns-in_err-bind_if-clause-goes
returns-in_err-bind_if-clause-goes c = goes_trans c.args.at.now c.var.new.self c.bind_if.new.at c.var.ensures.goes c.bind_if.ensures.goes

pub returns-in_err-ty-clause-goes : goal.returns-in_err-ty-clause-goes
returns-in_err-ty-clause-goes c = c.var.ensures.goes

pub returns-clause-tells : goal.returns-clause-tells
returns-clause-tells c =
    let seen = toks_of c.args.seen.now.items in
    name_behind seen (token_in (node_view c.args.node.now) 0) c.args.at.now c.var.new.self c.bind_if.new.at c.var.ensures.goes (store_silent c.args.at.now c.var.new.self c.var.ensures.rest)
    (subst (λ q. TellsNameIf seen q c.var.new.self c.bind_if.new.at) c.token.ensures c.in_ok-bind_if.ensures.tells)
