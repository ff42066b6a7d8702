use Rattle.std.proofs.Common.{◌≡◌, ◌++◌, ◌∷◌, map, Some, None, refl, sym, ap, ◌∙◌, subst, arith}
use Rattle.std.proofs.lemmas.Result.{IfOk-weaker}
use Rattle.std.proofs.lemmas.List.{length-map}
use Rattle.std.proofs.lemmas.Bool.Decides.{nat_tests}
use Rattle.text_terms.specs.Bytes.{str_bytes}
use Rattle.pattern_matrix.specs.Lines.{any, con, lit, either, listed, built_head, literal_head}
use Rattle.pattern_matrix.specs.Search.{Finds, FindsUnder, row_in, squeezed, under_head, behind}
use Rattle.pattern_matrix.specs.Views.{member_of, members_of, typed_of, cells_view, cell_view, lines_view, head_view, shapes_view, shape_of}
use Rattle.pattern_matrix.proofs.Listing.{con-typed, lit-typed, either-typed}
use Rattle.pattern_matrix.proofs.Weighing.{alternative-falls, con-falls, literal-falls, member-falls, default-falls}
use Rattle.pattern_matrix.proofs.Finding.{con-found, literal-found, either-found, alternative-found, alternatives-left, member-found, members-left, no-alternative-left, no-member-left, by-all-members, default-found}
use Rattle.pattern_matrix.proofs.search.+search.Goals as goal

pub search_either-search_first-requires : goal.search_either-search_first-requires
search_either-search_first-requires t c =
    let a = alternative-falls typed_of c.args.pats.now c.loop-pat.pat-index c.pat-item.result (lines_view c.args.lines.now) (cells_view c.args.rest.now) c.loop-pat-test.true c.pat-item.is in
    (omega arith, c.loop-pat.invariant.0)

pub search_either-returns-then-is_some-clause-found : goal.search_either-returns-then-is_some-clause-found
search_either-returns-then-is_some-clause-found t c =
    c.loop-pat.invariant.1 (shapes_view c.in_ok-found.found)
    (alternative-found c.args.pats.now c.loop-pat.pat-index c.pat-item.result (cells_view c.args.rest.now) (lines_view c.args.lines.now) c.in_ok-found.found
    c.loop-pat-test.true c.pat-item.is c.if-is_some.ensures c.in_ok-found.ensures.found)

pub search_either-loop-pat-preserved : goal.search_either-loop-pat-preserved
search_either-loop-pat-preserved t c = (
  c.in_ok-found.ensures.kept,
  λ r more. c.loop-pat.invariant.1 r
      (alternatives-left c.args.pats.now c.loop-pat.pat-index c.pat-item.result (cells_view c.args.rest.now) (lines_view c.args.lines.now) c.in_ok-found.found r
      c.loop-pat-test.true c.pat-item.is c.if-is_some.ensures c.in_ok-found.ensures.found more),
)

pub search_either-returns-clause-kept : goal.search_either-returns-clause-kept
search_either-returns-clause-kept t c = c.loop-pat.invariant.0

pub search_either-returns-clause-found : goal.search_either-returns-clause-found
search_either-returns-clause-found t c =
    c.loop-pat.invariant.1 None (no-alternative-left c.args.pats.now c.loop-pat.pat-index (cells_view c.args.rest.now) (lines_view c.args.lines.now) c.loop-pat-test.false)

pub search_first-search_under-requires : goal.search_first-search_under-requires
search_first-search_under-requires t c =
    let parts = map typed_of c.in-Con.parts.items in
    let rest = cells_view c.args.rest.now in
    let first : typed_of c.in-Of.pat.now ≡ con (members_of c.in-Con.all.value.items) (str_bytes c.in-Con.name) (listed parts) = ap typed_of c.in-Con.is ∙ con-typed c.in-Con.all c.in-Con.name c.in-Con.parts in
    let row = c.in_ok-row-in-Con.ensures ∙ ap (λ xs. map typed_of xs ++ rest) c.deref.ensures.value in
    let a = con-falls (built_head (str_bytes c.in-Con.name) c.len.result) (members_of c.in-Con.all.value.items) (str_bytes c.in-Con.name) parts rest (lines_view c.args.lines.now)
    (cell_view c.args.first) (cells_view c.in_ok-row-in-Con.row.items) (ap cell_view c.in-Of.is ∙ first) row in
    (omega arith, c.requires.known)

pub search_first-search_under-requires-in-Literal : goal.search_first-search_under-requires-in-Literal
search_first-search_under-requires-in-Literal t c =
    let a = literal-falls (literal_head (str_bytes c.in-Literal.name)) (cells_view c.args.rest.now) (lines_view c.args.lines.now) (cell_view c.args.first)
    (cells_view c.in_ok-row-in-Literal.row.items) c.in_ok-row-in-Literal.ensures in
    (omega arith, c.requires.known)

pub search_first-returns-in_ok-row-in-Con-clause-found : goal.search_first-returns-in_ok-row-in-Con-clause-found
search_first-returns-in_ok-row-in-Con-clause-found t c =
    let parts = map typed_of c.in-Con.parts.items in
    let rest = cells_view c.args.rest.now in
    let first : typed_of c.in-Of.pat.now ≡ con (members_of c.in-Con.all.value.items) (str_bytes c.in-Con.name) (listed parts) = ap typed_of c.in-Con.is ∙ con-typed c.in-Con.all c.in-Con.name c.in-Con.parts in
    let row = c.in_ok-row-in-Con.ensures ∙ ap (λ xs. map typed_of xs ++ rest) c.deref.ensures.value in
    IfOk-weaker c.search_under.result
    (λ r. FindsUnder (built_head (str_bytes c.in-Con.name) c.len.result) (lines_view c.args.lines.now) (cells_view c.in_ok-row-in-Con.row.items) (shapes_view r))
    (λ r. Finds (row_in (lines_view c.args.lines.now) (cell_view c.args.first ∷ rest)) (shapes_view r))
    (λ r f. con-found (members_of c.in-Con.all.value.items) (str_bytes c.in-Con.name) parts rest (lines_view c.args.lines.now) (cell_view c.args.first)
    (cells_view c.in_ok-row-in-Con.row.items) c.len.result (shapes_view r) (ap cell_view c.in-Of.is ∙ first) row (omega (arith, length-map c.in-Con.parts.items typed_of)) f) c.search_under.ensures.found

pub search_first-returns-in_ok-row-in-Literal-clause-found : goal.search_first-returns-in_ok-row-in-Literal-clause-found
search_first-returns-in_ok-row-in-Literal-clause-found t c =
    let name = str_bytes c.in-Literal.name in
    let first : typed_of c.in-Of.pat.now ≡ lit name = ap typed_of c.in-Literal.is ∙ lit-typed c.in-Literal.name in
    IfOk-weaker c.search_under-in-Literal.result
    (λ r. FindsUnder (literal_head name) (lines_view c.args.lines.now) (cells_view c.in_ok-row-in-Literal.row.items) (shapes_view r))
    (λ r. Finds (row_in (lines_view c.args.lines.now) (cell_view c.args.first ∷ cells_view c.args.rest.now)) (shapes_view r))
    (λ r f. literal-found name (cells_view c.args.rest.now) (lines_view c.args.lines.now) (cell_view c.args.first) (cells_view c.in_ok-row-in-Literal.row.items) (shapes_view r)
    (ap cell_view c.in-Of.is ∙ first) c.in_ok-row-in-Literal.ensures f) c.search_under-in-Literal.ensures.found

pub search_first-returns-in-Either-clause-found : goal.search_first-returns-in-Either-clause-found
search_first-returns-in-Either-clause-found t c =
    let parts = map typed_of c.in-Either.pats.items in
    let same : map typed_of c.deref-in-Either.result.now ≡ parts = ap (map typed_of) c.deref-in-Either.ensures.value in
    let first : typed_of c.in-Of.pat.now ≡ either (listed parts) = ap typed_of c.in-Either.is ∙ either-typed c.in-Either.pats in
    IfOk-weaker c.search_either.result _
    (λ r. Finds (row_in (lines_view c.args.lines.now) (cell_view c.args.first ∷ cells_view c.args.rest.now)) (shapes_view r))
    (λ r f. either-found (map typed_of c.deref-in-Either.result.now) (cells_view c.args.rest.now) (lines_view c.args.lines.now) (cell_view c.args.first) (shapes_view r)
    (ap cell_view c.in-Of.is ∙ first ∙ ap (λ xs. either (listed xs)) (sym same)) f) c.search_either.ensures.found

pub search_members-search_under-requires : goal.search_members-search_under-requires
search_members-search_under-requires t c =
    let a = member-falls member_of (head_view c.head_of.result) c.args.all.now c.loop-built.built-index c.built-item.result (cells_view c.args.rest.now) (lines_view c.args.lines.now)
    (cells_view c.in_ok-row.row.items) c.loop-built-test.true c.built-item.is c.requires.all c.in_ok-row.ensures in
    (omega arith, c.loop-built.invariant.0)

pub search_members-returns-then-is_some-clause-found : goal.search_members-returns-then-is_some-clause-found
search_members-returns-then-is_some-clause-found t c =
    c.loop-built.invariant.1 (shapes_view c.in_ok-found.found)
    (member-found c.args.all.now c.loop-built.built-index c.built-item.result (cells_view c.args.rest.now) (cells_view c.in_ok-row.row.items) (lines_view c.args.lines.now)
    (head_view c.head_of.result) c.in_ok-found.found c.loop-built-test.true c.built-item.is c.if-is_some.ensures c.in_ok-row.ensures c.head_of.ensures c.in_ok-found.ensures.found)

pub search_members-loop-built-preserved : goal.search_members-loop-built-preserved
search_members-loop-built-preserved t c = (
  c.in_ok-found.ensures.kept,
  λ r more. c.loop-built.invariant.1 r
      (members-left c.args.all.now c.loop-built.built-index c.built-item.result (cells_view c.args.rest.now) (cells_view c.in_ok-row.row.items) (lines_view c.args.lines.now)
      (head_view c.head_of.result) c.in_ok-found.found r c.loop-built-test.true c.built-item.is c.if-is_some.ensures c.in_ok-row.ensures c.head_of.ensures c.in_ok-found.ensures.found more),
)

pub search_members-returns-clause-kept : goal.search_members-returns-clause-kept
search_members-returns-clause-kept t c = c.loop-built.invariant.0

pub search_members-returns-clause-found : goal.search_members-returns-clause-found
search_members-returns-clause-found t c =
    c.loop-built.invariant.1 None (no-member-left c.args.all.now c.loop-built.built-index (cells_view c.args.rest.now) (lines_view c.args.lines.now) c.loop-built-test.false)

pub search_under-returns-in_ok-with_head-in-Some-clause-found : goal.search_under-returns-in_ok-with_head-in-Some-clause-found
search_under-returns-in_ok-with_head-in-Some-clause-found t c = (
  shapes_view c.in_ok-shapes.field-0,
  squeezed c.in_ok-lines_under.ensures c.in_ok-shapes.ensures.found,
  ap Some c.in_ok-with_head-in-Some.ensures ∙ sym (ap (λ o. under_head (head_view c.args.head) (shapes_view o)) c.in-Some.is),
)

pub search_under-returns-in-None-clause-found : goal.search_under-returns-in-None-clause-found
search_under-returns-in-None-clause-found t c =
    let none = subst (λ o. Finds (row_in (lines_view c.in_ok-lines_under.field-0.items) (cells_view c.args.row.items)) (shapes_view o)) c.in-None.is c.in_ok-shapes.ensures.found in
    (None, squeezed c.in_ok-lines_under.ensures none, refl)

pub search_any-returns-in-None-clause-found : goal.search_any-returns-in-None-clause-found
search_any-returns-in-None-clause-found t c =
    IfOk-weaker c.search_members.result _
    (λ r. Finds (row_in (lines_view c.args.lines.now) (any ∷ cells_view c.args.rest.now)) (shapes_view r))
    (λ r f. by-all-members c.family-all.result.now (cells_view c.args.rest.now) (lines_view c.args.lines.now) (shapes_view r) c.family-all.ensures (grind (arith, nat_tests)) c.in-None.ensures f)
    c.search_members.ensures.found

pub search_default-search-requires : goal.search_default-search-requires
search_default-search-requires t c =
    let a = default-falls (cells_view c.args.rest.now) (lines_view c.args.lines.now) (lines_view c.in_ok-headless.field-0.items) (cells_view c.in_ok-row.row.items)
    c.in_ok-headless.ensures.lighter c.in_ok-row.ensures in
    (omega arith, c.requires.known)

pub search_default-returns-in_ok-with_first-in-Some-clause-found : goal.search_default-returns-in_ok-with_first-in-Some-clause-found
search_default-returns-in_ok-with_first-in-Some-clause-found t c =
    default-found (cells_view c.args.rest.now) (lines_view c.args.lines.now) (lines_view c.in_ok-headless.field-0.items) (cells_view c.in_ok-row.row.items) (shape_of c.args.shape)
    (Some (map shape_of c.in_ok-with_first-in-Some.field-0.items)) (shapes_view c.in_ok-shapes.field-0) c.requires.shown c.in_ok-headless.ensures c.in_ok-row.ensures
    c.in_ok-shapes.ensures.found (ap Some c.in_ok-with_first-in-Some.ensures ∙ sym (ap (λ o. behind (shape_of c.args.shape) (shapes_view o)) c.in-Some.is))

pub search_default-returns-in-None-clause-found : goal.search_default-returns-in-None-clause-found
search_default-returns-in-None-clause-found t c =
    default-found (cells_view c.args.rest.now) (lines_view c.args.lines.now) (lines_view c.in_ok-headless.field-0.items) (cells_view c.in_ok-row.row.items) (shape_of c.args.shape)
    None (shapes_view c.in_ok-shapes.field-0) c.requires.shown c.in_ok-headless.ensures c.in_ok-row.ensures
    c.in_ok-shapes.ensures.found (sym (ap (λ o. behind (shape_of c.args.shape) (shapes_view o)) c.in-None.is))
