use Rattle.std.proofs.Common.{◌∙◌, ◌<◌, [], ◌∷◌, ◌++◌, length, take, sym, ap, subst, arith}
use Rattle.std.specs.Prelude.{OnOk}
use Rattle.std.proofs.lemmas.List.{map-append, take_all, take_more}
use Rattle.env_table.specs.declared.entries.Constructor.{Constructor}
use Rattle.typing_state.proofs.Going.{goes_refl, goes_trans}
use Rattle.decl_typing.specs.Parameters.{constructor_roots, label_roots, shape_roots, ClosesRoots}
use Rattle.type_reading.proofs.Filling.{store_same, store_then}
use Rattle.decl_typing.proofs.Parameters.{closes_none, closes_both, closes_root}
use Rattle.decl_typing.proofs.decls.generalise_shape.Goals as goal

pub loop-constructor-init : goal.loop-constructor-init
loop-constructor-init c = record { goes = goes_refl c.args.at.now; rest = store_same c.args.at.now; closes = closes_none c.args.at.now }

pub loop-constructor-preserved : goal.loop-constructor-preserved
loop-constructor-preserved c =
    let at = c.args.at.now in
    let mid = c.loop-constructor.at in
    let new = c.generalise.new.self in
    let ks = c.deref-constructor-items.result.now in
    let k = c.loop-constructor.constructor-index in
    let x = c.constructor-item.result in
    let lt : k < length ks = let n = c.loop-constructor-test.true in omega arith in
    let inv = c.loop-constructor.invariant in
    record {
      goes = goes_trans at mid new inv.goes c.generalise.ensures.goes;
      rest = store_then inv.rest c.generalise.ensures.rest;
      closes =
          subst (ClosesRoots at new) (sym (ap constructor_roots (take_more ks k x lt ∙ ap (λ y. take k ks ++ y ∷ []) (sym c.constructor-item.is)) ∙ map-append (λ (y : Constructor). y.root.0) (take k ks) (x ∷ [])))
          (closes_both at mid new (constructor_roots (take k ks)) (x.root.0 ∷ []) inv.closes inv.rest (closes_root mid new x.root.0 c.in_ok-generalise-in-Variant.ensures.bound));
    }

pub returns-after-loop-constructor-clause-closes : goal.returns-after-loop-constructor-clause-closes
returns-after-loop-constructor-clause-closes c =
    subst (λ z. ClosesRoots c.args.at.now c.loop-constructor.at (shape_roots z)) (sym c.in-Variant.is) (subst (λ ks. ClosesRoots c.args.at.now c.loop-constructor.at (constructor_roots ks)) (take_all c.loop-constructor.constructor-index c.deref-constructor-items.result.now c.loop-constructor-test.false ∙ c.deref-constructor-items.ensures.value)
    c.loop-constructor.invariant.closes)

pub returns-after-loop-constructor-clause-rest : goal.returns-after-loop-constructor-clause-rest
returns-after-loop-constructor-clause-rest c = c.loop-constructor.invariant.rest

pub returns-after-loop-constructor-clause-goes : goal.returns-after-loop-constructor-clause-goes
returns-after-loop-constructor-clause-goes c = c.loop-constructor.invariant.goes

pub returns-in-Labels-clause-closes : goal.returns-in-Labels-clause-closes
returns-in-Labels-clause-closes c =
    subst (λ z. OnOk c.generalise_labels.result (ClosesRoots c.args.at.now c.generalise_labels.new.at (shape_roots z))) (sym c.in-Labels.is)
    (subst (λ ls. OnOk c.generalise_labels.result (ClosesRoots c.args.at.now c.generalise_labels.new.at (label_roots ls))) c.deref.ensures.value c.generalise_labels.ensures.closes)

pub returns-in-Labels-clause-rest : goal.returns-in-Labels-clause-rest
returns-in-Labels-clause-rest c = c.generalise_labels.ensures.rest

pub returns-in-Labels-clause-goes : goal.returns-in-Labels-clause-goes
returns-in-Labels-clause-goes c = c.generalise_labels.ensures.goes

pub returns-in-Opaque-clause-closes : goal.returns-in-Opaque-clause-closes
returns-in-Opaque-clause-closes c = subst (λ z. ClosesRoots c.args.at.now c.args.at.now (shape_roots z)) (sym c.in-Opaque.is) (closes_none c.args.at.now)

pub returns-in-Opaque-clause-rest : goal.returns-in-Opaque-clause-rest
returns-in-Opaque-clause-rest c = store_same c.args.at.now

pub returns-in-Opaque-clause-goes : goal.returns-in-Opaque-clause-goes
returns-in-Opaque-clause-goes c = goes_refl c.args.at.now

pub returns-in_err-generalise-in-Variant-clause-rest : goal.returns-in_err-generalise-in-Variant-clause-rest
returns-in_err-generalise-in-Variant-clause-rest c = store_then c.loop-constructor.invariant.rest c.generalise.ensures.rest

pub returns-in_err-generalise-in-Variant-clause-goes : goal.returns-in_err-generalise-in-Variant-clause-goes
returns-in_err-generalise-in-Variant-clause-goes c = goes_trans c.args.at.now c.loop-constructor.at c.generalise.new.self c.loop-constructor.invariant.goes c.generalise.ensures.goes
