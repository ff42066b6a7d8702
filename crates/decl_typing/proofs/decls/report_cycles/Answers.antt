use Rattle.type_expressions.proofs.Untyped.{untyped_same, untyped_then, faults_untyped}
use Rattle.typing_state.proofs.Going.{goes_refl, goes_trans}
use Rattle.std.proofs.Common.{◌≡◌, ◌∙◌, true, false, List, refl, sym, subst}
use Rattle.decl_groups.specs.declared.groups.DeclarationPart.{DeclarationPart}
use Rattle.decl_typing.specs.Owned.{AreOwnRights}
use Rattle.decl_typing.proofs.Owned.{own_there}
use Rattle.typing_state.specs.declared.parts.Parts.{Parts}
use Rattle.typing_state.specs.Goes.{Goes}
use Rattle.type_expressions.specs.Untyped.{Untyped}
use Rattle.decl_typing.proofs.decls.report_cycles.Goals.{then-may_rename+then-not-is_set+in-Some+in_ok-cyclic, then-may_rename+then-not-is_set+in_default, else-may_rename}
use Rattle.decl_typing.proofs.decls.report_cycles.Goals as goal

-- what is kept from one turn to the next
abbrev Both : List DeclarationPart → Parts → Parts → Type 0
Both ps a b = record { goes : Goes a b; untyped : Untyped a b; own : AreOwnRights ps → b ≡ a }

pub returns-clause-goes : goal.returns-clause-goes
returns-clause-goes c = c.loop-place.invariant.goes

pub returns-in_err-cyclic-clause-goes : goal.returns-in_err-cyclic-clause-goes
returns-in_err-cyclic-clause-goes c = goes_trans c.args.at.now c.loop-place.at c.cyclic.new.self c.loop-place.invariant.goes c.cyclic.ensures.goes

pub returns-clause-untyped : goal.returns-clause-untyped
returns-clause-untyped c = c.loop-place.invariant.untyped

pub loop-place-init : goal.loop-place-init
loop-place-init c = record { goes = goes_refl c.args.at.now; untyped = untyped_same c.args.at.now; own = λ own. refl }

pub loop-place-preserved : goal.loop-place-preserved
loop-place-preserved c = elim c.if-may_rename.branch [
  | then-may_rename+then-not-is_set+in-Some+in_ok-cyclic w ↦ subst (Both c.args.parts.now c.args.at.now) (sym w.at-is) (record {
    goes = goes_trans c.args.at.now c.loop-place.at w.cyclic.new.self c.loop-place.invariant.goes w.cyclic.ensures.goes;
    untyped = untyped_then c.loop-place.invariant.untyped (faults_untyped c.loop-place.at w.cyclic.new.self w.cyclic.ensures.rest);
    own = λ own. absurd (let f : false ≡ true = sym (c.may_rename.ensures.own (own_there c.args.parts.now c.loop-place.place c.index-parts-place.result c.loop-place-test.true c.index-parts-place.is own)) ∙ w.if-may_rename.true in cc);
  })
  | then-may_rename+then-not-is_set+in_default w ↦ subst (Both c.args.parts.now c.args.at.now) (sym w.at-is) c.loop-place.invariant
  | else-may_rename w ↦ subst (Both c.args.parts.now c.args.at.now) (sym w.at-is) c.loop-place.invariant
]

pub returns-clause-own : goal.returns-clause-own
returns-clause-own c = c.loop-place.invariant.own
