use Rattle.std.proofs.Common.{◌≡◌, true, map, None, rules}
use Rattle.text_terms.specs.Bytes.{str_bytes}
use Rattle.query_model.specs.Prefixes.{is_name_prefix}
use Rattle.name_queries.specs.Environments.{env_at, names_behind}
use Rattle.name_queries.specs.Completions.{TellsPath}
use Rattle.name_queries.proofs.Answered.{no_module}
use Rattle.name_queries.proofs.completions.complete_prefix.Goals as goal

pub returns-in-Ok-None-clause-exact : goal.returns-in-Ok-None-clause-exact
returns-in-Ok-None-clause-exact c =
    let ms = map str_bytes c.in-Ok.modules.items in
    let form : is_name_prefix c.args.prefix.now ≡ true = search rules in
    let none : names_behind (env_at c.args.asked.now c.args.offset) ms ≡ None = search rules in
    let told : TellsPath ms c.unbound.result = search rules in
    no_module c.args.asked.now c.args.offset c.args.prefix.now ms c.unbound.result form c.in-Ok.ensures.modules none told
