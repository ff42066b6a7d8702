use Rattle.std.proofs.Common.{◌≡◌, true, ◌++◌, refl, sym, ap, ◌∙◌, subst, map}
use Rattle.std.specs.Prelude.{OnOk}
use Rattle.std.specs.Str.{bytes_eq}
use Rattle.text_terms.specs.Bytes.{str_bytes}
use Rattle.pattern_matrix.specs.Lines.{listed, con, is_built, under, under_each}
use Rattle.pattern_matrix.specs.Search.{IsSqueezed}
use Rattle.pattern_matrix.specs.Views.{typed_of, members_of, cells_view, lines_view, head_view}
use Rattle.pattern_matrix.proofs.Squeezing.{walk}
use Rattle.pattern_matrix.proofs.Listing.{con-typed, built-under}
use Rattle.pattern_matrix.proofs.columns.+under.Goals as goal

pub put_each_under-loop-pat-preserved : goal.put_each_under-loop-pat-preserved
put_each_under-loop-pat-preserved t c =
    let rest = cells_view c.args.rest.now in
    let h = head_view c.args.head in
    walk (λ xs. under_each h (listed (map typed_of xs)) rest) (λ x. under h (typed_of x) rest) (lines_view c.loop-pat.lines.items)
    (lines_view c.put_under.new.lines.items) _ c.args.pats.now c.loop-pat.pat-index c.pat-item.result (λ z zs. refl) c.loop-pat-test.true c.pat-item.is
    c.in_ok-put_under.ensures c.loop-pat.invariant

pub put_under-returns-in_ok-extended-in-Built : goal.put_under-returns-in_ok-extended-in-Built
put_under-returns-in_ok-extended-in-Built t c =
    let rest = cells_view c.args.rest.now in
    let h = head_view c.args.head in
    let parts = map typed_of c.in-Con.parts.items in
    let all = members_of c.in-Con.all.value.items in
    let name = str_bytes c.in-Con.name in
    let is : typed_of c.args.pat.now ≡ con all name (listed parts) = ap typed_of c.in-Con.is ∙ con-typed c.in-Con.all c.in-Con.name c.in-Con.parts in
    let fits : is_built h name ≡ true =
    ap (λ x. is_built (head_view x) name) c.in-Built.is ∙ ap (λ n. bytes_eq (str_bytes c.in-Built.wanted.now) n) (sym c.as_str.ensures) ∙ sym c.is.ensures ∙ c.if-is.true in
    let cells = c.in_ok-extended-in-Built.ensures ∙ ap (λ xs. map typed_of xs ++ rest) c.deref.ensures.value in
    let left : under h (typed_of c.args.pat.now) rest ≡ _ =
    ap (λ p. under h p rest) is ∙ built-under h all name parts rest (cells_view c.in_ok-extended-in-Built.field-0.items) fits cells in
    subst (λ z. OnOk c.put.result (IsSqueezed (lines_view c.put.new.lines.items) (lines_view c.args.lines.now.items ++ z))) (sym left) c.put.ensures
