use Rattle.std.proofs.Common.{◌∙◌, ◌+◌, ◌∷◌, drop, Some, option_map, sym, ap, subst}
use Rattle.std.proofs.lemmas.List.{drop_more, drop_all}
use Rattle.type_expressions.specs.Untyped.{Untyped}
use Rattle.type_expressions.proofs.Untyped.{untyped_same, untyped_then}
use Rattle.typing_state.specs.Goes.{Goes, OnlyIndex}
use Rattle.decl_typing.specs.Groups.{DeclaresEach, none_declared, one_declared}
use Rattle.decl_typing.proofs.Owned.{own_there}
use Rattle.typing_state.proofs.Going.{goes_refl, goes_trans}
use Rattle.decl_typing.proofs.decls.declare_all.Goals as goal

pub returns-clause-goes : goal.returns-clause-goes
returns-clause-goes c = c.loop-place.invariant.goes

pub returns-in_err-declaration-clause-goes : goal.returns-in_err-declaration-clause-goes
returns-in_err-declaration-clause-goes c = goes_trans c.args.at.now c.loop-place.at c.declare.new.at c.loop-place.invariant.goes c.declare.ensures.goes

pub returns-in_err-part_entries-clause-goes : goal.returns-in_err-part_entries-clause-goes
returns-in_err-part_entries-clause-goes c = goes_trans c.args.at.now c.report_reexport.new.at c.part_entries.new.at (goes_trans c.args.at.now c.declare.new.at c.report_reexport.new.at (goes_trans c.args.at.now c.loop-place.at c.declare.new.at c.loop-place.invariant.goes c.declare.ensures.goes) c.report_reexport.ensures.goes) c.part_entries.ensures.goes

pub returns-in_err-report_reexport-clause-goes : goal.returns-in_err-report_reexport-clause-goes
returns-in_err-report_reexport-clause-goes c = goes_trans c.args.at.now c.declare.new.at c.report_reexport.new.at (goes_trans c.args.at.now c.loop-place.at c.declare.new.at c.loop-place.invariant.goes c.declare.ensures.goes) c.report_reexport.ensures.goes

pub returns-clause-untyped : goal.returns-clause-untyped
returns-clause-untyped c = c.loop-place.invariant.untyped

pub loop-place-init : goal.loop-place-init
loop-place-init c = record {
  goes = goes_refl c.args.at.now;
  untyped = untyped_same c.args.at.now;
  own = λ own unset e after each. subst (λ es. DeclaresEach c.args.inner.now c.args.at.now e c.args.parts.now es after) c.new-entries.ensures.items each;
}

pub loop-place-preserved : goal.loop-place-preserved
loop-place-preserved c = record {
  goes = goes_trans c.args.at.now c.report_reexport.new.at c.part_entries.new.at (goes_trans c.args.at.now c.declare.new.at c.report_reexport.new.at (goes_trans c.args.at.now c.loop-place.at c.declare.new.at c.loop-place.invariant.goes c.declare.ensures.goes) c.report_reexport.ensures.goes) c.part_entries.ensures.goes;
  untyped = untyped_then (untyped_then (untyped_then c.loop-place.invariant.untyped c.in_ok-declaration.ensures.untyped) c.in_ok-report_reexport.ensures.untyped) c.in_ok-part_entries.ensures.untyped;
  own = λ own unset e after each.
      let k = c.loop-place.place in
      let p = c.index-parts-place.result in
      let same = c.report_reexport.ensures.own (own_there c.args.parts.now k p c.loop-place-test.true c.index-parts-place.is own) in
      c.loop-place.invariant.own own unset e after (subst (λ ps. DeclaresEach c.args.inner.now c.loop-place.at e ps c.loop-place.entries.items after) (sym (drop_more c.args.parts.now k p c.loop-place-test.true ∙ ap (λ q. q ∷ drop (k + 1) c.args.parts.now) (sym c.index-parts-place.is)))
      (one_declared (record {
        declaration = c.in_ok-declaration.declaration.value;
        between = c.declare.new.at;
        declares = c.in_ok-declaration.ensures.means;
        arity = c.in_ok-declaration.ensures.arity;
        origin = let (o, is, path) = c.in_ok-declaration.ensures.origin (c.is_set-renamed.ensures ∙ unset k) in ap (option_map (λ u. u.path.items)) is ∙ ap Some path;
        untyped = c.in_ok-declaration.ensures.untyped;
        goes = c.declare.ensures.goes;
        adds = c.in_ok-part_entries.ensures.entries;
        rest = subst (λ a. OnlyIndex a c.part_entries.new.at) same c.part_entries.ensures.rest;
        types = subst (λ a. Untyped a c.part_entries.new.at) same c.in_ok-part_entries.ensures.untyped;
        notes = subst (λ a. Goes a c.part_entries.new.at) same c.part_entries.ensures.goes;
      }) each));
}

pub returns-clause-own : goal.returns-clause-own
returns-clause-own c = λ own unset.
    c.loop-place.invariant.own own unset c.loop-place.at c.loop-place.entries.items
    (subst (λ ps. DeclaresEach c.args.inner.now c.loop-place.at c.loop-place.at ps c.loop-place.entries.items c.loop-place.entries.items) (sym (drop_all c.loop-place.place c.args.parts.now c.loop-place-test.false)) none_declared)
