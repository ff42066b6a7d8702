use Rattle.std.proofs.Common.{◌∙◌, ap, sym, subst, nat_lt, rules}
use Rattle.std.specs.BTreeMap.{values}
use Rattle.std.specs.List.{AllZip}
use Rattle.std.specs.Iterator.Adapters.{take_source, take_count}
use Rattle.std.proofs.lemmas.List.{length-map}
use Rattle.std.proofs.lemmas.Iterator.{YieldsList-from_take}
use Rattle.std.proofs.lemmas.Iterator.Consumers.{YieldsList-from_rest, YieldsList-end}
use Rattle.name_queries.specs.Completions.{IsTold}
use Rattle.name_queries.specs.NewestNames.{entry_of, listed}
use Rattle.name_queries.proofs.ToldNames.{told_more, few_told, first_listed}
use Rattle.name_queries.proofs.completions.told.Goals as goal

pub loop-entry-preserved : goal.loop-entry-preserved
loop-entry-preserved c =
    told_more (IsTold c.args.asked.now c.args.env.now) c.loop-entry.yielded c.in-Some.entry c.loop-entry.told.items c.push.new.told.items _ c.loop-entry.invariant (search rules) c.in_ok-push.ensures

pub returns-clause-first : goal.returns-clause-first
returns-clause-first c =
    let given = c.into_iter-entry-iterator.ensures.into_iter_gives in
    let road = YieldsList-from_take {s = c.into_iter-entry-iterator.result} 200
    (YieldsList-from_rest {shows = λ v. v.now} (values c.args.newest.now) (ap take_source given ∙ c.take-entry-items.ensures.source ∙ c.values.ensures.rest))
    (ap take_count given ∙ c.take-entry-items.ensures.count) in
    let (all, long) = YieldsList-end road c.loop-entry.yielded c.loop-entry.entry-iterator c.loop-entry.yielded_by c.next.result c.next.new.self c.in-None.is c.next.ensures.steps in
    record {
      first = subst (λ es. AllZip (IsTold c.args.asked.now c.args.env.now) es c.loop-entry.told.items) (first_listed 200 c.loop-entry.yielded c.args.newest.now.entries all) c.loop-entry.invariant;
      more = ap (nat_lt 200) (c.len.ensures.len ∙ sym (length-map c.args.newest.now.entries entry_of));
    }

pub returns-clause-few : goal.returns-clause-few
returns-clause-few c = few_told (IsTold c.args.asked.now c.args.env.now) 200 (listed c.args.newest.now.entries) c.loop-entry.told.items (returns-clause-first c).first
