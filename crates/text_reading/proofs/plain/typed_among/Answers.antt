use Rattle.std.proofs.Common.{sym, map}
use Rattle.std.specs.Prelude.{length}
use Rattle.plain_typing.specs.View.{seen_of}
use Rattle.plain_model.proofs.Within.{found_within}
use Rattle.text_reading.proofs.plain.typed_among.Goals as goal

pub shown-requires-clause-start : goal.shown-requires-clause-start
shown-requires-clause-start c = (found_within (length c.args.store.now) _ (map seen_of c.args.seen.now) (seen_of c.in-Some.found) (sym c.in-Some.ensures) c.requires).0

pub shown-requires-clause-end : goal.shown-requires-clause-end
shown-requires-clause-end c = (found_within (length c.args.store.now) _ (map seen_of c.args.seen.now) (seen_of c.in-Some.found) (sym c.in-Some.ensures) c.requires).1
