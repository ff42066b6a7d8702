use Rattle.std.proofs.Common.{◌∙◌, sym, [], map}
use Rattle.std.proofs.lemmas.List.{map-append}
use Rattle.text_terms.specs.Bytes.{str_bytes}
use Rattle.env_table.proofs.Lost.{last_behind}
use Rattle.env_table.proofs.env.Env.module_behind.Goals as goal

pub returns-in-Some : goal.returns-in-Some
returns-in-Some c =
    let behind = last_behind c.args.self.now [] (map str_bytes c.in-Some.outer.now) (str_bytes c.in-Some.last.now) in
    c.newest.ensures ∙ rw (c.scope_behind.ensures, c.as_str.ensures, c.in-Some.ensures.cases.0, map-append) (sym behind)
