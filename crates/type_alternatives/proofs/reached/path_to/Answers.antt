use Rattle.std.proofs.Common.{rules, ◌≡◌, ◌==◌, ◌<◌, suc, ◌++◌, [], length, Some, None, append-nil, refl, sym, ◌∙◌, ap, subst}
use Rattle.text_terms.specs.Bytes.{str_bytes}
use Rattle.type_terms.specs.Views.{path_of}
use Rattle.env_table.specs.Views.{kind_of}
use Rattle.type_print.proofs.Levels.{level}
use Rattle.type_alternatives.specs.Parts.{part_naming, IsWritten}
use Rattle.type_alternatives.specs.Levels.{level_of, finds, first_path}
use Rattle.type_alternatives.proofs.Searches.{next_less, some_level, no_level}
use Rattle.type_alternatives.proofs.Shortest.{shown_next, written_found, written_nowhere, one_more}
use Rattle.type_alternatives.proofs.reached.path_to.Goals as goal

pub returns-in-Some : goal.returns-in-Some
returns-in-Some c =
    let kind = kind_of c.args.wanted.kind in
    let name = c.args.wanted.name.now in
    let o = path_of c.args.wanted.origin.now in
    let at = c.loop-alloc.invariant.0 in
    let path = str_bytes c.in-Some.path.now in
    let first : first_path (finds kind name c.args.wanted.place o) (level_of c.loop-alloc.level.items) ≡ Some path = search rules in
    let is : c.as_str.result.now ≡ path = search rules in
    let text : path ++ name ≡ str_bytes c.in_ok-joined.field-0 = sym (c.in_ok-joined.ensures ∙ rw (is, append-nil) refl) in
    subst (λ t. IsWritten (part_naming kind name c.args.wanted.place) c.args.env.now o (Some t)) text
    (written_found kind name c.args.wanted.place c.args.env.now o at path (rw c.loop-alloc.invariant.1 at first) c.loop-alloc.invariant.2)

pub loop-alloc-smaller : goal.loop-alloc-smaller
loop-alloc-smaller c =
    let is : c.deref-in-loop-alloc.result.now ≡ c.loop-alloc.level.items = search rules in
    let len : length c.loop-alloc.level.items ≡ c.loop-alloc.level.len = search rules in
    let some : 0 < length (level_of c.loop-alloc.level.items) = some_level c.loop-alloc.level.items (ap (λ n. n == 0) len ∙ (sym c.is_empty.ensures ∙ c.loop-alloc-test.true)) in
    rw (c.in_ok-level.ensures, is) (next_less (level_of c.loop-alloc.level.items) some)

pub loop-alloc-preserved : goal.loop-alloc-preserved
loop-alloc-preserved c =
    let kind = kind_of c.args.wanted.kind in
    let name = c.args.wanted.name.now in
    let o = path_of c.args.wanted.origin.now in
    let at = c.loop-alloc.invariant.0 in
    let none : first_path (finds kind name c.args.wanted.place o) (level_of c.loop-alloc.level.items) ≡ None = search rules in
    let is : c.deref-in-loop-alloc.result.now ≡ c.loop-alloc.level.items = search rules in (
      suc at,
      rw (c.in_ok-level.ensures, is, c.loop-alloc.invariant.1) (shown_next (level c.args.env.now at)),
      one_more (finds kind name c.args.wanted.place o) c.args.env.now at c.loop-alloc.invariant.2 (rw c.loop-alloc.invariant.1 at none),
      refl,
    )

pub returns : goal.returns
returns c =
    let kind = kind_of c.args.wanted.kind in
    let name = c.args.wanted.name.now in
    let o = path_of c.args.wanted.origin.now in
    let at = c.loop-alloc.invariant.0 in
    let len : length c.loop-alloc.level.items ≡ c.loop-alloc.level.len = search rules in
    let empty : level_of c.loop-alloc.level.items ≡ [] = no_level c.loop-alloc.level.items (ap (λ n. n == 0) len ∙ (sym c.is_empty.ensures ∙ c.loop-alloc-test.false)) in
    written_nowhere kind name c.args.wanted.place c.args.env.now o at (sym c.loop-alloc.invariant.1 ∙ empty) c.loop-alloc.invariant.2
