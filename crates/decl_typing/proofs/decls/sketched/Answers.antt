use Rattle.std.proofs.Common.{◌∙◌, ◌+◌, [], ◌∷◌, ◌++◌, drop, sym, ap, subst, append-nil, append_assoc}
use Rattle.std.proofs.lemmas.List.{drop_more, drop_all}
use Rattle.decl_typing.specs.Owned.{AreOpaque, none_opaque, one_opaque}
use Rattle.type_expressions.proofs.Untyped.{untyped_same, untyped_then}
use Rattle.typing_state.proofs.Going.{goes_refl, goes_trans}
use Rattle.decl_typing.proofs.decls.sketched.Goals as goal

pub returns-clause-goes : goal.returns-clause-goes
returns-clause-goes c = c.loop-place.invariant.goes

pub returns-in_err-declaration-clause-goes : goal.returns-in_err-declaration-clause-goes
returns-in_err-declaration-clause-goes c = goes_trans c.args.at.now c.loop-part.at c.opaque.new.at c.loop-part.invariant.goes c.opaque.ensures.goes

pub returns-in_err-inner-clause-goes : goal.returns-in_err-inner-clause-goes
returns-in_err-inner-clause-goes c = c.loop-part.invariant.goes

pub returns-in_err-inner-2-clause-goes : goal.returns-in_err-inner-2-clause-goes
returns-in_err-inner-2-clause-goes c = goes_trans c.args.at.now c.loop-place.at c.sketch.new.at c.loop-place.invariant.goes c.sketch.ensures.goes

pub returns-in_err-order-clause-goes : goal.returns-in_err-order-clause-goes
returns-in_err-order-clause-goes c = c.loop-part.invariant.goes

pub returns-in_err-push-clause-goes : goal.returns-in_err-push-clause-goes
returns-in_err-push-clause-goes c = goes_trans c.args.at.now c.loop-part.at c.opaque.new.at c.loop-part.invariant.goes c.opaque.ensures.goes

pub returns-clause-untyped : goal.returns-clause-untyped
returns-clause-untyped c = c.loop-place.invariant.untyped

pub loop-part-init : goal.loop-part-init
loop-part-init c = record { goes = goes_refl c.args.at.now; untyped = untyped_same c.args.at.now; own = λ e ds made. subst (AreOpaque c.args.at.now e c.args.parts.now) (sym (ap (λ xs. xs ++ ds) c.new-declared.ensures.items)) made }

pub loop-part-preserved : goal.loop-part-preserved
loop-part-preserved c = record {
  goes = goes_trans c.args.at.now c.loop-part.at c.opaque.new.at c.loop-part.invariant.goes c.opaque.ensures.goes;
  untyped = untyped_then c.loop-part.invariant.untyped c.in_ok-declaration.ensures.untyped;
  own = λ e ds made.
      let d = c.in_ok-declaration.declaration in
      let k = c.loop-part.part-index in
      subst (AreOpaque c.args.at.now e c.args.parts.now) (sym (ap (λ xs. xs ++ ds) c.in_ok-push.ensures.pushed ∙ append_assoc c.loop-part.declared.items (d ∷ []) ds))
      (c.loop-part.invariant.own e (d ∷ ds) (subst (λ ps. AreOpaque c.loop-part.at e ps (d ∷ ds)) (sym (drop_more c.args.parts.now k c.part-item.result c.loop-part-test.true ∙ ap (λ q. q ∷ drop (k + 1) c.args.parts.now) (sym c.part-item.is))) (one_opaque c.in_ok-declaration.ensures.means c.opaque.ensures.rest made)));
}

pub loop-place-init : goal.loop-place-init
loop-place-init c = record {
  goes = c.loop-part.invariant.goes;
  untyped = c.loop-part.invariant.untyped;
  own = λ own. subst (AreOpaque c.args.at.now c.loop-part.at c.args.parts.now) (append-nil c.loop-part.declared.items)
      (c.loop-part.invariant.own c.loop-part.at [] (subst (λ ps. AreOpaque c.loop-part.at c.loop-part.at ps []) (sym (drop_all c.loop-part.part-index c.args.parts.now c.loop-part-test.false)) none_opaque));
}

pub loop-place-preserved : goal.loop-place-preserved
loop-place-preserved c = record {
  goes = goes_trans c.args.at.now c.loop-place.at c.sketch.new.at c.loop-place.invariant.goes c.sketch.ensures.goes;
  untyped = untyped_then c.loop-place.invariant.untyped c.in_ok-inner-2.ensures.untyped;
  own = λ own.
      let kept = c.sketch.ensures.own own in
      subst (λ b. AreOpaque c.args.at.now b c.args.parts.now c.sketch.new.declared.items) (sym kept.0) (subst (AreOpaque c.args.at.now c.loop-place.at c.args.parts.now) (sym kept.1) (c.loop-place.invariant.own own));
}

pub returns-clause-own : goal.returns-clause-own
returns-clause-own c = λ own. c.loop-place.invariant.own own
