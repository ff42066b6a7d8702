use Rattle.std.proofs.Common.{sym, rules, subst}
use Rattle.name_queries.specs.declared.newest_names.Key.{Key}
use Rattle.name_queries.specs.NewestNames.{IsKeyOf, AreKeyed}
use Rattle.name_queries.proofs.Keyed.{stays, put, keyed_in, ordered}
use Rattle.name_queries.proofs.newest_names.keep.Goals as goal

pub returns-then-contains_key-clause-same : goal.returns-then-contains_key-clause-same
returns-then-contains_key-clause-same c =
    let key : Key = record { name = c.as_str.result; kind = c.kind_of.result } in
    stays c.args.newest.now.entries key c.args.entry.now.value c.requires (search rules) (sym c.if-contains_key.ensures)

pub returns-in-Ok-clause-same : goal.returns-in-Ok-clause-same
returns-in-Ok-clause-same c =
    let key : Key = record { name = c.as_str.result; kind = c.kind_of.result } in
    let is : IsKeyOf key c.args.entry.now.value = search rules in
    let keyed = subst AreKeyed (sym c.in-Ok.ensures.entries) (keyed_in c.args.newest.now.entries key c.args.entry is c.requires.keyed) in
    put c.args.newest.now.entries c.insert.new.self.entries key c.args.entry c.requires keyed is (sym c.if-contains_key.ensures) c.in-Ok.ensures.updates.1 c.in-Ok.ensures.updates.2

pub returns-in-Ok-clause-kept : goal.returns-in-Ok-clause-kept
returns-in-Ok-clause-kept c =
    let key : Key = record { name = c.as_str.result; kind = c.kind_of.result } in
    let is : IsKeyOf key c.args.entry.now.value = search rules in
    let keyed = subst AreKeyed (sym c.in-Ok.ensures.entries) (keyed_in c.args.newest.now.entries key c.args.entry is c.requires.keyed) in
    record {
      keyed = keyed;
      order = ordered c.insert.new.self.entries keyed c.in-Ok.ensures.ordered;
    }
