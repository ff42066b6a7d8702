use Rattle.std.proofs.Common.{◌≡◌, ◌∙◌, true, false, sym, ap, subst}
use Rattle.std.specs.Prelude.{slice_get}
use Rattle.decl_groups.specs.Marks.{mark_of, AreUnset}
use Rattle.decl_groups.proofs.Marks.{unset_none, unset_more}
use Rattle.decl_typing.proofs.Owned.{own_there}
use Rattle.decl_typing.proofs.decls.which_rename.Goals.{then-is_set+then-not-is_set+in_ok-leads_to_itself+then-branch, else-is_set}
use Rattle.decl_typing.proofs.decls.which_rename.Goals as goal

pub loop-part-init : goal.loop-part-init
loop-part-init c = λ own. subst AreUnset (sym c.new-renames.ensures.items) unset_none

pub loop-part-preserved : goal.loop-part-preserved
loop-part-preserved c = λ own. subst AreUnset (sym c.in_ok-push.ensures.pushed)
    (unset_more c.loop-part.renames.items c.may_rename.result (c.may_rename.ensures.own (own_there c.args.parts.now c.loop-part.part-index c.part-item.result c.loop-part-test.true c.part-item.is own)) (c.loop-part.invariant own))

pub loop-place-preserved : goal.loop-place-preserved
loop-place-preserved c = λ own. elim c.if-is_set.branch [
  | then-is_set+then-not-is_set+in_ok-leads_to_itself+then-branch w ↦ absurd (let f : false ≡ true = sym (c.loop-place.invariant own c.loop-place.place) ∙ ap (λ bs. mark_of (slice_get bs c.loop-place.place)) (sym c.deref-in-loop-place.ensures.value) ∙ sym c.is_set.ensures ∙ w.if-is_set.true in cc)
  | else-is_set w ↦ subst (λ v. AreUnset v.items) (sym w.renames-is) (c.loop-place.invariant own)
]
