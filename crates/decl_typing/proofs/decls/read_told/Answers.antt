use Rattle.type_expressions.proofs.Untyped.{untyped_same}
use Rattle.std.proofs.Common.{◌≡◌, ◌∙◌, ℕ, Some, None, refl, sym, ap, subst}
use Rattle.std.specs.Prelude.{Result, Ok, Err, IfOk}
use Rattle.std.proofs.lemmas.Result.{IfOk-weaker}
use Rattle.row_parts.specs.declared.slots.Operand.{Operand}
use Rattle.env_table.specs.declared.entries.Shape.TheVariants as shape
use Rattle.typing_state.proofs.Going.{goes_refl}
use Rattle.decl_groups.specs.declared.groups.Right.{Right}
use Rattle.decl_groups.specs.declared.groups.Right.TheVariants.{Abstract, Abbreviation, Reexport, Own}
use Rattle.decl_groups.specs.declared.groups.Told.{Told}
use Rattle.decl_groups.specs.declared.groups.Told.TheVariants.{Constructors, Labels}
use Rattle.decl_typing.specs.Parts.{ReadsConstructors, shape_constructors}
use Rattle.decl_typing.specs.LabelParts.{ReadsLabels, shape_labels}
use Rattle.decl_typing.specs.Owned.{told_in, ReadsTold}
use Rattle.decl_typing.proofs.Owned.{nothing_read, constructors_read, labels_read}
use Rattle.decl_typing.proofs.decls.read_told.Goals.{in-Reexport, in-Own}
use Rattle.decl_typing.proofs.decls.read_told.Goals as goal

-- both of two facts of what is answered
both : {X Y : Type 0} (P Q : X → Type 0) (r : Result X Y) → IfOk r P → IfOk r Q → IfOk r (λ x. P x × Q x)
both P Q (Ok x) p q = (p, q)
both P Q (Err e) p q = tt

-- a right side of another kind tells nothing
tells_none : (r : Right) → ((x : ℕ) (t : Operand) (y : ℕ) (k : Told) → r ≡ Reexport x t y k → ⊥) → ((x : ℕ) (k : Told) → r ≡ Own x k → ⊥) → told_in r ≡ None
tells_none Abstract no_reexport no_own = refl
tells_none (Abbreviation x t) no_reexport no_own = refl
tells_none (Reexport x t y k) no_reexport no_own = absurd (no_reexport x t y k refl)
tells_none (Own x k) no_reexport no_own = absurd (no_own x k refl)

pub returns-in-Constructors-clause-goes : goal.returns-in-Constructors-clause-goes
returns-in-Constructors-clause-goes c = c.read_constructors.ensures.goes

pub returns-in-Labels-clause-goes : goal.returns-in-Labels-clause-goes
returns-in-Labels-clause-goes c = c.read_labels.ensures.goes

pub returns-in_default-clause-goes : goal.returns-in_default-clause-goes
returns-in_default-clause-goes c = goes_refl c.args.at.now

pub returns-in-Constructors-clause-means : goal.returns-in-Constructors-clause-means
returns-in-Constructors-clause-means c =
    let at = c.args.at.now in
    let new = c.read_constructors.new.at in
    let told : told_in c.args.part.now.right ≡ Some (Constructors c.in-Constructors.parts) = elim c.match-part.branch [
      | in-Reexport w ↦ ap told_in w.in-Reexport.is ∙ ap (λ k. Some k) (sym (ap (λ b. b.now) w.told-is) ∙ c.in-Constructors.is)
      | in-Own w ↦ ap told_in w.in-Own.is ∙ ap (λ k. Some k) (sym (ap (λ b. b.now) w.told-is) ∙ c.in-Constructors.is)
    ] in
    IfOk-weaker c.read_constructors.result _ _ (λ z x names ps t over nodes.
    subst (λ k. ReadsTold at new c.args.inner.now names ps k t c.args.own.0 z) (sym told)
    (constructors_read at new c.args.inner.now names ps c.in-Constructors.parts t c.args.own.0 z (subst (λ items. ReadsConstructors at new c.args.inner.now names ps items t c.args.own.0 (shape_constructors z)) c.deref.ensures.value (x.0 names ps t over nodes)) x.1))
    (both _ _ c.read_constructors.result c.read_constructors.ensures.means c.read_constructors.ensures.shape)

pub returns-in-Labels-clause-means : goal.returns-in-Labels-clause-means
returns-in-Labels-clause-means c =
    let at = c.args.at.now in
    let new = c.read_labels.new.at in
    let told : told_in c.args.part.now.right ≡ Some (Labels c.in-Labels.parts) = elim c.match-part.branch [
      | in-Reexport w ↦ ap told_in w.in-Reexport.is ∙ ap (λ k. Some k) (sym (ap (λ b. b.now) w.told-is) ∙ c.in-Labels.is)
      | in-Own w ↦ ap told_in w.in-Own.is ∙ ap (λ k. Some k) (sym (ap (λ b. b.now) w.told-is) ∙ c.in-Labels.is)
    ] in
    IfOk-weaker c.read_labels.result _ _ (λ z x names ps t over nodes.
    subst (λ k. ReadsTold at new c.args.inner.now names ps k t c.args.own.0 z) (sym told)
    (labels_read at new c.args.inner.now names ps c.in-Labels.parts t c.args.own.0 z (subst (λ items. ReadsLabels at new c.args.inner.now names ps items t c.args.own.0 (shape_labels z)) c.deref-in-Labels.ensures.value (x.0 names ps t over nodes)) x.1))
    (both _ _ c.read_labels.result c.read_labels.ensures.means c.read_labels.ensures.shape)

pub returns-in_default-clause-means : goal.returns-in_default-clause-means
returns-in_default-clause-means c = λ names ps t over nodes.
    subst (λ k. ReadsTold c.args.at.now c.args.at.now c.args.inner.now names ps k t c.args.own.0 shape.Opaque) (sym (tells_none c.args.part.now.right c.in_default.not-Reexport c.in_default.not-Own)) (nothing_read c.args.at.now c.args.inner.now names ps t c.args.own.0)

pub returns-in-Constructors-clause-untyped : goal.returns-in-Constructors-clause-untyped
returns-in-Constructors-clause-untyped c = c.read_constructors.ensures.untyped

pub returns-in-Labels-clause-untyped : goal.returns-in-Labels-clause-untyped
returns-in-Labels-clause-untyped c = c.read_labels.ensures.untyped

pub returns-in_default-clause-untyped : goal.returns-in_default-clause-untyped
returns-in_default-clause-untyped c = untyped_same c.args.at.now
