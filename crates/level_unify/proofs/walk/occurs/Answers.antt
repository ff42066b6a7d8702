use Rattle.std.proofs.Common.{sym, ◌∙◌}
use Rattle.std.specs.Prelude.{nat_eq}
use Rattle.std.specs.HashSet.{contains}
use Rattle.type_nodes.specs.Views.{numbers}
use Rattle.level_unify.proofs.Walking.{beyond_cleared, cleared_apart}
use Rattle.level_unify.proofs.walk.occurs.Goals as goal

pub returns-clause-no : goal.returns-clause-no
returns-clause-no c = λ e.
    let found = c.in_ok-reached_beyond.ensures.found in
    cleared_apart c.args.store.now.nodes (contains nat_eq c.reached_beyond.new.done) c.args.to.0 c.args.var.0 c.in_ok-reached_beyond.ensures.sound c.requires.var (record {
      cleared = beyond_cleared c.args.store.now.nodes (contains nat_eq c.forget.new.cleared) (contains nat_eq c.reached_beyond.new.done) c.args.to.0 (numbers c.in_ok-reached_beyond.field-0.items)
          (c.forget.ensures.cleared c.args.store.now.nodes c.requires.cleared) found;
      has = found.start;
      lacks = sym c.contains.ensures ∙ e;
    })
