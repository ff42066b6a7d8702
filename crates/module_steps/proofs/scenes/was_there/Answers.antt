use Rattle.std.proofs.Common.{◌∙◌, ap}
use Rattle.std.specs.Prelude.{string_bytes}
use Rattle.std.specs.Str.{bytes_eq}
use Rattle.std.specs.HashSet.{contains_text}
use Rattle.std.specs.Prelude.{if◌then◌else◌, true}
use Rattle.std.proofs.lemmas.Map.Text.{hash_set_updates_text}
use Rattle.module_steps.proofs.scenes.was_there.Goals as goal

pub returns-clause-added : goal.returns-clause-added
returns-clause-added c n =
    hash_set_updates_text (string_bytes c.in-Ok.key) c.args.names.now c.insert.new.self true c.in-Ok-insert.ensures.updates n
    ∙ ap (λ bs. if bytes_eq bs n then true else contains_text c.args.names.now n) c.in-Ok.ensures.ok
