use Rattle.std.proofs.Common.{[], sym, subst}
use Rattle.env_table.specs.Views.{names_of}
use Rattle.prelude_places.specs.There.{EntryThere}
use Rattle.prelude_places.proofs.Making.{Onto, onto_none, onto_more, onto_all}
use Rattle.prelude_places.proofs.newest_first.Goals as goal

pub loop-one-init : goal.loop-one-init
loop-one-init c = subst (Onto c.args.env.now (names_of c.entries-rest.result)) (sym c.new-new.ensures.items) (subst (λ ns. Onto c.args.env.now ns []) (sym c.entries-rest.ensures) (onto_none c.args.env.now))

pub loop-one-preserved : goal.loop-one-preserved
loop-one-preserved c =
    onto_more c.args.env.now (names_of c.in-Some.older) c.loop-one.new.items c.in-Some.one.now.value c.in_ok-entry.field-0 c.push.new.list.items c.in_ok-push.ensures.pushed
    (subst (λ e. EntryThere e c.in_ok-entry.field-0.value) c.deref.ensures c.in_ok-entry.ensures) (subst (λ ns. Onto c.args.env.now ns c.loop-one.new.items) c.in-Some.ensures.some c.loop-one.invariant)

pub returns : goal.returns
returns c = onto_all c.args.env.now c.loop-one.new.items (subst (λ ns. Onto c.args.env.now ns c.loop-one.new.items) c.in_default.ensures.none c.loop-one.invariant)
