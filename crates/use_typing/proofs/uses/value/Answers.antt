use Rattle.typing_state.proofs.Silence.{store_silent}
use Rattle.typing_state.proofs.Going.{goes_trans, goes_refl}
use Rattle.std.proofs.Common.{option_map, sym, subst, option_and_then}
use Rattle.row_parts.specs.Numbered.{path_view, token_view}
use Rattle.syntax_tree.specs.View.{tok_of}
use Rattle.env_table.specs.declared.entries.Kind.TheVariants as kind
use Rattle.typing_state.specs.Bound.{found_at, lost_among, word_of}
use Rattle.typing_model.specs.Expressions.{value_asks}
use Rattle.typing_steps.specs.Typing.{TypesOwn}
use Rattle.use_typing.specs.Uses.{LastHas, UsesScheme, scheme_in, TellsLast}
use Rattle.use_typing.proofs.Telling.{value_has, bound_tells}
use Rattle.use_typing.proofs.Carrying.{value_missing, value_typed}
use Rattle.use_typing.proofs.uses.value.Goals as goal

pub returns-clause-ty : goal.returns-clause-ty
returns-clause-ty c =
    let p = path_view c.args.path.now in
    let last = tok_of c.in-Some.last.now in
    subst (λ o. LastHas (token_view o) kind.Value c.args.at.now c.instance_of.new.at c.args.env.now p.qualifiers c.in_ok-ty.ty) (sym c.in-Some.is)
    (value_has (found_at c.args.env.now p.qualifiers kind.Value last) (option_map (λ e. e.value) c.in_ok-entry.entry) (lost_among c.args.env.now p.qualifiers) last (word_of kind.Value) c.args.at.now c.bound.new.self c.instance_of.new.at c.in_ok-ty.ty c.in_ok-entry.ensures.verdict (subst (λ o. UsesScheme (option_and_then scheme_in (option_map (λ x. x.what) (option_map (λ e. e.value) o))) c.bound.new.self c.instance_of.new.at c.in_ok-ty.ty) c.as_ref-2.ensures.value c.in_ok-ty.ensures.ty))

pub returns-in_default-clause-carries : goal.returns-in_default-clause-carries
returns-in_default-clause-carries c =
    let p = path_view c.args.path.now in
    λ n k. subst (λ o. TypesOwn c.args.at.now c.var.new.self c.args.env.now (λ x t. value_asks x n k (record { qualifiers = p.qualifiers; last = token_view o }) t) c.in_ok-var.field-0.0) (sym c.in_default.is)
    (value_missing c.args.at.now c.var.new.self p.qualifiers n k c.in_ok-var.ensures.made c.var.ensures.rest)

pub returns-clause-carries : goal.returns-clause-carries
returns-clause-carries c =
    let p = path_view c.args.path.now in
    λ n k. subst (λ o. TypesOwn c.args.at.now c.instance_of.new.at c.args.env.now (λ x t. value_asks x n k (record { qualifiers = p.qualifiers; last = token_view o }) t) c.in_ok-ty.ty.0) (sym c.in-Some.is)
    (value_typed c.args.at.now c.bound.new.self c.instance_of.new.at (option_map (λ e. e.value) c.in_ok-entry.entry) p.qualifiers (tok_of c.in-Some.last.now) n k c.in_ok-entry.ensures.verdict
    (subst (λ o. UsesScheme (option_and_then scheme_in (option_map (λ x. x.what) (option_map (λ e. e.value) o))) c.bound.new.self c.instance_of.new.at c.in_ok-ty.ty) c.as_ref-2.ensures.value c.in_ok-ty.ensures.ty) c.instance_of.ensures.rest)

pub returns-clause-goes : goal.returns-clause-goes
returns-clause-goes c = goes_trans c.args.at.now c.bound.new.self c.instance_of.new.at c.bound.ensures.goes c.instance_of.ensures.goes

pub returns-in_default-clause-goes : goal.returns-in_default-clause-goes
returns-in_default-clause-goes c = c.var.ensures.goes

pub returns-in_err-entry-clause-goes : goal.returns-in_err-entry-clause-goes
returns-in_err-entry-clause-goes c = c.bound.ensures.goes

pub returns-in_err-names-2-clause-goes : goal.returns-in_err-names-2-clause-goes
returns-in_err-names-2-clause-goes c = c.bound.ensures.goes

pub returns-in_err-names-clause-goes : goal.returns-in_err-names-clause-goes
returns-in_err-names-clause-goes c = goes_refl c.args.at.now

pub returns-in_err-ty-clause-goes : goal.returns-in_err-ty-clause-goes
returns-in_err-ty-clause-goes c = goes_trans c.args.at.now c.bound.new.self c.instance_of.new.at c.bound.ensures.goes c.instance_of.ensures.goes

pub returns-in_err-var-clause-goes : goal.returns-in_err-var-clause-goes
returns-in_err-var-clause-goes c = c.var.ensures.goes

pub returns-clause-tells : goal.returns-clause-tells
returns-clause-tells c =
    let p = path_view c.args.path.now in
    let last = tok_of c.in-Some.last.now in
    subst (λ o. TellsLast (token_view o) kind.Value c.args.at.now c.instance_of.new.at c.args.env.now p.qualifiers) (sym c.in-Some.is)
    (bound_tells (found_at c.args.env.now p.qualifiers kind.Value last) (option_map (λ e. e.value) c.in_ok-entry.entry) (lost_among c.args.env.now p.qualifiers) last (word_of kind.Value) c.args.at.now c.bound.new.self c.instance_of.new.at c.in_ok-entry.ensures.verdict c.instance_of.ensures.silent)

pub returns-in_default-clause-tells : goal.returns-in_default-clause-tells
returns-in_default-clause-tells c =
    let p = path_view c.args.path.now in
    subst (λ o. TellsLast (token_view o) kind.Value c.args.at.now c.var.new.self c.args.env.now p.qualifiers) (sym c.in_default.is) (store_silent c.args.at.now c.var.new.self c.var.ensures.rest)
