use Rattle.std.proofs.Common.{◌∙◌, ◌<◌, [], ◌∷◌, ◌++◌, length, take, sym, ap, subst, arith}
use Rattle.std.proofs.lemmas.List.{map-append, take_all, take_more}
use Rattle.env_table.specs.declared.entries.Label.{Label}
use Rattle.typing_state.proofs.Going.{goes_refl, goes_trans}
use Rattle.decl_typing.specs.Parameters.{label_roots, ClosesRoots}
use Rattle.type_reading.proofs.Filling.{store_same, store_then}
use Rattle.decl_typing.proofs.Parameters.{closes_none, closes_both, closes_root}
use Rattle.decl_typing.proofs.decls.generalise_labels.Goals as goal

pub loop-label-init : goal.loop-label-init
loop-label-init c = record { goes = goes_refl c.args.at.now; rest = store_same c.args.at.now; closes = closes_none c.args.at.now }

pub loop-label-preserved : goal.loop-label-preserved
loop-label-preserved c =
    let at = c.args.at.now in
    let mid = c.loop-label.at in
    let new = c.generalise.new.self in
    let ls = c.args.labels.now in
    let k = c.loop-label.label-index in
    let x = c.label-item.result in
    let lt : k < length ls = let n = c.loop-label-test.true in omega arith in
    let inv = c.loop-label.invariant in
    record {
      goes = goes_trans at mid new inv.goes c.generalise.ensures.goes;
      rest = store_then inv.rest c.generalise.ensures.rest;
      closes =
          subst (ClosesRoots at new) (sym (ap label_roots (take_more ls k x lt ∙ ap (λ y. take k ls ++ y ∷ []) (sym c.label-item.is)) ∙ map-append (λ (l : Label). l.root.0) (take k ls) (x ∷ [])))
          (closes_both at mid new (label_roots (take k ls)) (x.root.0 ∷ []) inv.closes inv.rest (closes_root mid new x.root.0 c.in_ok-generalise.ensures.bound));
    }

pub returns-clause-closes : goal.returns-clause-closes
returns-clause-closes c = subst (λ ls. ClosesRoots c.args.at.now c.loop-label.at (label_roots ls)) (take_all c.loop-label.label-index c.args.labels.now c.loop-label-test.false) c.loop-label.invariant.closes

pub returns-clause-rest : goal.returns-clause-rest
returns-clause-rest c = c.loop-label.invariant.rest

pub returns-clause-goes : goal.returns-clause-goes
returns-clause-goes c = c.loop-label.invariant.goes

pub returns-in_err-generalise-clause-rest : goal.returns-in_err-generalise-clause-rest
returns-in_err-generalise-clause-rest c = store_then c.loop-label.invariant.rest c.generalise.ensures.rest

pub returns-in_err-generalise-clause-goes : goal.returns-in_err-generalise-clause-goes
returns-in_err-generalise-clause-goes c = goes_trans c.args.at.now c.loop-label.at c.generalise.new.self c.loop-label.invariant.goes c.generalise.ensures.goes
