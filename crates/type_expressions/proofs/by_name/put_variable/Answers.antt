use Rattle.std.proofs.Common.{refl}
use Rattle.std.specs.String.{string_bytes}
use Rattle.std.proofs.lemmas.Map.Text.{hash_map_updates_text}
use Rattle.type_expressions.proofs.by_name.put_variable.Goals as goal

pub returns-clause-puts : goal.returns-clause-puts
returns-clause-puts c = λ none.
    record {
      none = none;
      now = hash_map_updates_text (string_bytes c.args.key) c.args.at.now.written.variables c.insert.new.self _ c.in-Ok.ensures.updates;
      index = refl;
      faults = refl;
      item = refl;
      level = refl;
      telling = refl;
      constants = refl;
    }

pub returns-clause-untyped : goal.returns-clause-untyped
returns-clause-untyped c = record { types = λ i p. refl }
