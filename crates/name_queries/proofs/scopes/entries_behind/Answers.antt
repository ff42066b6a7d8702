use Rattle.std.proofs.Common.{◌≡◌, ◌∙◌, ap, sym, Some, List, rules}
use Rattle.env_table.specs.declared.entries.Entry.{Entry}
use Rattle.env_table.specs.Views.{inside}
use Rattle.name_queries.specs.Environments.{known_names}
use Rattle.name_queries.proofs.Behind.{known_in, names_at}
use Rattle.name_queries.proofs.scopes.entries_behind.Goals as goal

pub returns-in-Entry : goal.returns-in-Entry
returns-in-Entry c =
    let at : c.deref.result.now ≡ c.in-Entry.entry.now.value = search rules in
    c.entries_in.ensures ∙ ap (λ (e : Entry). known_names (inside e)) at ∙ ap known_in c.in-Entry.ensures ∙ sym (names_at c.args.env.now c.args.modules.now c.if-is_empty.ensures)

pub returns-in-Hole : goal.returns-in-Hole
returns-in-Hole c = ap (λ (es : List Entry). Some es) c.none.ensures ∙ ap known_in c.in-Hole.ensures ∙ sym (names_at c.args.env.now c.args.modules.now c.if-is_empty.ensures)

pub returns-in-Nothing : goal.returns-in-Nothing
returns-in-Nothing c = ap known_in c.in-Nothing.ensures ∙ sym (names_at c.args.env.now c.args.modules.now c.if-is_empty.ensures)
