use Rattle.typing_state.proofs.Going.{goes_trans}
use Rattle.std.proofs.Common.{refl, sym, subst, option_map}
use Rattle.std.specs.Prelude.{OnOk, None, Some}
use Rattle.syntax_tree.specs.View.{tok_of}
use Rattle.type_terms.specs.declared.types.NodeRef.{NodeRef}
use Rattle.operand_laws.specs.Operands.{number_of}
use Rattle.record_rows.specs.Fields.{BindsLabel, Puns}
use Rattle.pattern_typing.specs.Matching.{binds_of, names_seen}
use Rattle.pattern_typing.proofs.Carrying.{on_ok}
use Rattle.pattern_typing.proofs.Recording.{gives_type}
use Rattle.pattern_typing.proofs.patterns.pun_of.Goals as goal

pub returns-in_ok-ty-in-Some-clause-puns : goal.returns-in_ok-ty-in-Some-clause-puns
returns-in_ok-ty-in-Some-clause-puns c =
    let wanted = option_map (λ (n : NodeRef). n.0) c.args.wanted in
    let xs = binds_of c.args.names.now.items in
    let k = number_of c.args.at.now.item c.args.number in
    let ys = binds_of c.bind_label.new.names.items in
    let before = names_seen c.args.seen.now.items in
    let after = names_seen c.bind_label.new.seen.items in
    subst (λ o. OnOk c.bind_label.result (Puns (option_map (λ t. tok_of t.now) o) c.args.at.now c.bind_label.new.at c.args.env.now k wanted xs ys before after)) (sym c.in-Some.is)
    (on_ok c.bind_label.result _ (Puns (Some (tok_of c.in-Some.token.now)) c.args.at.now c.bind_label.new.at c.args.env.now k wanted xs ys before after) (λ bound. record {
      mid = c.type_or_var.new.at;
      ty = c.in_ok-ty-in-Some.ty;
      given = gives_type c.args.wanted c.args.at.now c.type_or_var.new.at c.in_ok-ty-in-Some.ty c.in_ok-ty-in-Some.ensures.ty c.in_ok-ty-in-Some.ensures.carries;
      goes = c.type_or_var.ensures.goes;
      binds = subst (λ i. BindsLabel c.type_or_var.new.at c.bind_label.new.at c.args.env.now (number_of i c.args.number) (tok_of c.in-Some.token.now) c.in_ok-ty-in-Some.ty xs ys before after) c.type_or_var.ensures.goes.item bound;
    }) c.bind_label.ensures.binds)

pub returns-in-None-clause-puns : goal.returns-in-None-clause-puns
returns-in-None-clause-puns c =
    let wanted = option_map (λ (n : NodeRef). n.0) c.args.wanted in
    let xs = binds_of c.args.names.now.items in
    let k = number_of c.args.at.now.item c.args.number in
    let before = names_seen c.args.seen.now.items in
    subst (λ o. OnOk c.note_label.result (Puns (option_map (λ t. tok_of t.now) o) c.args.at.now c.note_label.new.at c.args.env.now k wanted xs xs before before)) (sym c.in-None.is)
    (on_ok c.note_label.result _ (Puns None c.args.at.now c.note_label.new.at c.args.env.now k wanted xs xs before before) (λ noted. (noted, refl, refl)) c.note_label.ensures.carries)

pub returns-in-None-clause-goes : goal.returns-in-None-clause-goes
returns-in-None-clause-goes c = c.note_label.ensures.goes

pub returns-in_err-ty-in-Some-clause-goes : goal.returns-in_err-ty-in-Some-clause-goes
returns-in_err-ty-in-Some-clause-goes c = c.type_or_var.ensures.goes

pub returns-in_ok-ty-in-Some-clause-goes : goal.returns-in_ok-ty-in-Some-clause-goes
returns-in_ok-ty-in-Some-clause-goes c = goes_trans c.args.at.now c.type_or_var.new.at c.bind_label.new.at c.type_or_var.ensures.goes c.bind_label.ensures.goes
