use Rattle.std.proofs.Common.{◌∙◌, map, sym, ap, subst}
use Rattle.std.specs.Prelude.{option_map}
use Rattle.text_terms.specs.Bytes.{str_bytes}
use Rattle.signature_model.specs.Lookups.{FoundAmong, an_entry, a_hole, nothing}
use Rattle.syntax_tree.specs.View.{tok_of}
use Rattle.row_parts.specs.Numbered.{path_view}
use Rattle.env_table.specs.declared.entries.Entry.{Entry}
use Rattle.pattern_matrix.specs.Views.{typed_of}
use Rattle.match_warnings.specs.Patterns.{MembersAre, by_entry, by_found, constructor_found}
use Rattle.match_warnings.proofs.Finding.{looked_up, ok_entry}
use Rattle.match_warnings.proofs.pats.constructor.Goals as goal

pub returns-in-Entry : goal.returns-in-Entry
returns-in-Entry c =
    let env = c.args.env.now in
    let p = path_view c.args.path.now in
    let t = tok_of c.args.last.now in
    let n = str_bytes c.args.last.now.name in
    let ps = map typed_of c.args.parts.items in
    let e = c.deref.result.now in
    let found = looked_up env p t (map str_bytes c.in_ok-named.named.modules.items) (str_bytes c.in_ok-named.named.last) (an_entry c.in-Entry.entry.now.value) c.in-Entry.ensures c.in_ok-named.ensures.modules c.in_ok-named.ensures.last in
    ok_entry c.of_entry.result (option_map typed_of) (λ members. MembersAre members e.what) env c.args.seen.now.items c.of_entry.new.seen.items (by_entry e e.what n ps) (by_found (constructor_found env p t) n ps)
    (λ members has. subst (λ (q : Entry). MembersAre members q.what) (sym c.deref.ensures) (has.each p t c.in-Entry.entry.now.value (sym found)))
    (ap (λ (q : Entry). by_entry q q.what n ps) c.deref.ensures ∙ ap (λ (f : FoundAmong Entry). by_found f n ps) found) c.of_entry.ensures

pub returns-in-Hole : goal.returns-in-Hole
returns-in-Hole c = λ members has shared. (
  ap (λ (f : FoundAmong Entry). by_found f (str_bytes c.args.last.now.name) (map typed_of c.args.parts.items))
      (looked_up c.args.env.now (path_view c.args.path.now) (tok_of c.args.last.now) (map str_bytes c.in_ok-named.named.modules.items) (str_bytes c.in_ok-named.named.last) a_hole c.in-Hole.ensures c.in_ok-named.ensures.modules c.in_ok-named.ensures.last),
  shared,
)

pub returns-in-Nothing : goal.returns-in-Nothing
returns-in-Nothing c = λ members has shared. (
  ap (λ (f : FoundAmong Entry). by_found f (str_bytes c.args.last.now.name) (map typed_of c.args.parts.items))
      (looked_up c.args.env.now (path_view c.args.path.now) (tok_of c.args.last.now) (map str_bytes c.in_ok-named.named.modules.items) (str_bytes c.in_ok-named.named.last) nothing c.in-Nothing.ensures c.in_ok-named.ensures.modules c.in_ok-named.ensures.last),
  shared,
)
