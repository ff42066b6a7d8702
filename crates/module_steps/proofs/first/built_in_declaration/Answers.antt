use Rattle.std.proofs.Common.{◌≡◌, Some, refl, arith}
use Rattle.env_table.specs.declared.entries.Shape.TheVariants as shape
use Rattle.typing_state.proofs.Going.{goes_trans}
use Rattle.module_steps.proofs.BuiltRoots.{one_level_in, built_in_declared}
use Rattle.module_steps.proofs.first.built_in_declaration.Goals as goal

pub returns-clause-declares : goal.returns-clause-declares
returns-clause-declares c = λ level.
    let up = c.saturating_add-at.ensures in
    let one : c.saturating_add-at.result ≡ 1 = omega (arith, up, level) in
    let here = c.in_ok-root.ensures.rest.level in
    let down = c.saturating_sub-at.ensures in
    let zero : c.saturating_sub-at.result ≡ 0 = omega (arith, down, here, one) in
    built_in_declared c.args.at.now c.built_in_root-root.new.at c.generalise.new.self c.args.which
    (record { arity = c.parameters_of.result; origin = Some c.in_ok-origin.field-0; defines = Some c.in_ok-origin-2.field-0; root = c.in_ok-root.root; shape = shape.Opaque }) c.saturating_add-at.result c.saturating_sub-at.result
    level one zero c.in_ok-root.ensures.made c.in_ok-root.ensures.rest c.in_ok-generalise.ensures.bound c.in_ok-generalise.ensures.sound c.generalise.ensures.rest c.parameters_of.ensures
    (c.in_ok-origin.field-0, refl, c.in_ok-origin.ensures.path) (c.in_ok-origin-2.field-0, refl, c.in_ok-origin-2.ensures.path) refl

pub returns-clause-goes : goal.returns-clause-goes
returns-clause-goes c = goes_trans c.args.at.now (record c.built_in_root-root.new.at { level = c.saturating_sub-at.result }) c.generalise.new.self
    (one_level_in c.args.at.now c.built_in_root-root.new.at c.saturating_add-at.result c.saturating_sub-at.result c.built_in_root-root.ensures.goes) c.generalise.ensures.goes
