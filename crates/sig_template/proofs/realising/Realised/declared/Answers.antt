use Rattle.std.proofs.Common.{◌≡◌, ◌++◌, ◌∷◌, [], refl, ap, subst}
use Rattle.std.specs.Prelude.{OnOk}
use Rattle.type_terms.specs.Views.{path_of}
use Rattle.level_unify.specs.Copies.{Extends}
use Rattle.type_reading.specs.declared.changes.Real.{Real}
use Rattle.type_reading.specs.declared.changes.Changes.{Changes}
use Rattle.sig_template.proofs.Reals.{pushed_declared, after_any}
use Rattle.sig_template.proofs.realising.Realised.declared.Goals as goal

pub returns-clause-added : goal.returns-clause-added
returns-clause-added c =
    let real : Real = record { origin = c.in_ok-copied_origin.field-0; root = c.in_ok-root.root; arity = c.args.actual.now.arity } in
    pushed_declared c.push.result (path_of c.args.origin.now) c.args.self.now.changes.real.items c.push.new.list.items real c.args.actual.now c.args.older c.args.at.now.store.nodes
    c.in_ok-copied_origin.ensures.path refl c.in_ok-root.ensures.known
    (subst (λ (x : Changes). OnOk c.push.result (c.push.new.list.items ≡ x.real.items ++ real ∷ [])) c.in_ok-root.ensures.changes c.push.ensures.pushed)

pub returns-clause-made : goal.returns-clause-made
returns-clause-made c = after_any c.push.result (c.root_for.new.self.changes.made ≡ c.args.self.now.changes.made) (ap (λ (x : Changes). x.made) c.in_ok-root.ensures.changes)

pub returns-clause-extends : goal.returns-clause-extends
returns-clause-extends c = after_any c.push.result (Extends c.args.at.now.store.nodes c.root_for.new.at.store.nodes) c.in_ok-root.ensures.extends

pub returns-in_err-root-clause-goes : goal.returns-in_err-root-clause-goes
returns-in_err-root-clause-goes c = c.root_for.ensures.goes

pub returns-in_err-copied_origin-clause-goes : goal.returns-in_err-copied_origin-clause-goes
returns-in_err-copied_origin-clause-goes c = c.root_for.ensures.goes

pub returns-clause-goes : goal.returns-clause-goes
returns-clause-goes c = c.root_for.ensures.goes
