use Rattle.std.proofs.Common.{◌≡◌, true, rules, refl}
use Rattle.std.specs.List.{filter}
use Rattle.name_queries.specs.NewestNames.{begins_with}
use Rattle.env_table.specs.Views.{names_of}
use Rattle.name_queries.proofs.Keyed.{none_kept, kept_turn}
use Rattle.name_queries.proofs.newest_names.newest_of.Goals as goal

pub loop-entry-init : goal.loop-entry-init
loop-entry-init c = (none_kept c.new-newest.result.entries c.new-newest.ensures.empty, λ k n. rw c.new-newest.ensures.empty refl)

pub loop-entry-preserved-in_ok-keep : goal.loop-entry-preserved-in_ok-keep
loop-entry-preserved-in_ok-keep c =
    let begins : begins_with c.args.beginning.now c.in-Some.entry.now.value ≡ true = search rules in (
      c.in_ok-keep.ensures.kept,
      kept_turn (begins_with c.args.beginning.now) c.loop-entry.newest.entries c.keep.new.newest.entries c.in-Some.entry.now.value (names_of c.loop-entry.left) (names_of c.in-Some.older)
          (filter (begins_with c.args.beginning.now) (names_of c.args.entries)) c.in-Some.ensures.some begins c.in_ok-keep.ensures.same c.loop-entry.invariant.1,
    )
