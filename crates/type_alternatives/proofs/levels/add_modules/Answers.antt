use Rattle.std.proofs.Common.{◌≡◌, ◌∙◌, sym, rules, Bool, true, false, ◌∷◌, refl}
use Rattle.std.specs.Prelude.{if◌then◌else◌}
use Rattle.text_terms.specs.Bytes.{str_bytes}
use Rattle.env_table.specs.Views.{names_of}
use Rattle.type_print.specs.Paths.{among, is_module}
use Rattle.type_alternatives.specs.Levels.{level_of}
use Rattle.type_alternatives.proofs.Searches.{module_added}
use Rattle.type_alternatives.proofs.levels.add_modules.Goals as goal

not_there : (there new : Bool) → new ≡ (if there then false else true) → new ≡ true → there ≡ false
not_there true new e is = sym is ∙ e
not_there false new e is = refl

pub loop-entry-preserved-in_ok-add_module : goal.loop-entry-preserved-in_ok-add_module
loop-entry-preserved-in_ok-add_module c =
    let e = c.in-Some.entry.now.value in
    let seen = c.loop-entry.invariant.0 in
    let name : c.as_str.result.now ≡ str_bytes e.name = search rules in
    let new : among (str_bytes e.name) seen ≡ false = sym (c.loop-entry.invariant.1 (str_bytes e.name)) ∙ rw (← name) (not_there _ _ c.in_ok-is_new.ensures.new c.if-branch.true) in
    let is : is_module e ≡ true = search rules in
    let added = rw c.deref-then-branch.ensures at c.in_ok-add_module.ensures in (
      str_bytes e.name ∷ seen,
      λ n. c.in_ok-is_new.ensures.added n ∙ rw (name, c.loop-entry.invariant.1 n),
      module_added (str_bytes c.args.path.now) seen e (names_of c.in-Some.older) (level_of c.loop-entry.out.items) (level_of c.add_module.new.out.items) is new added
          ∙ (rw c.in-Some.ensures.some at c.loop-entry.invariant.2),
    )
