use Rattle.std.proofs.Common.{◌≡◌, ◌∙◌, ap, map, subst}
use Rattle.std.specs.Prelude.{IfOk}
use Rattle.type_model.specs.Substitutions.{apply, with_arguments}
use Rattle.type_model.specs.Origins.{replaced, replaced_by, replacement_for}
use Rattle.type_terms.specs.Views.{type_of, spelled, path_of, spelling_of, replacements_of, spelled_for}
use Rattle.type_terms.proofs.Listing.{replaced_tuple, replaced_con, replaced_put, found_spelled, same_spelling}
use Rattle.type_terms.proofs.instances.+replacing.Goals as goal

pub replace_origins-returns-in_ok-replace_in_all-in-Tuple : goal.replace_origins-returns-in_ok-replace_in_all-in-Tuple
replace_origins-returns-in_ok-replace_in_all-in-Tuple t c =
    let m = c.args.changes.now in
    let parts = c.in_ok-replace_in_all-in-Tuple.ensures.meaning ∙ ap (λ xs. map (replaced (replacements_of m)) (map type_of xs)) c.deref-in-Tuple.ensures.value in
    let parts_name = c.in_ok-replace_in_all-in-Tuple.ensures.names ∙ ap (λ xs. map (replaced_by (spelled_for m)) (map spelled xs)) c.deref-in-Tuple.ensures.value in
    record {
      meaning = replaced_tuple path_of (λ o. replacement_for o (replacements_of m)) c.args.ty.now c.in-Tuple.parts c.in_ok-replace_in_all-in-Tuple.field-0 c.in-Tuple.is parts;
      names = replaced_tuple spelling_of (spelled_for m) c.args.ty.now c.in-Tuple.parts c.in_ok-replace_in_all-in-Tuple.field-0 c.in-Tuple.is parts_name;
    }

pub replace_origins-returns-in-Some : goal.replace_origins-returns-in-Some
replace_origins-returns-in-Some t c =
    let m = c.args.changes.now in
    let args = c.in_ok-args-in-Con.args in
    let body = c.in-Some.body.now in
    let parts = c.in_ok-args-in-Con.ensures.meaning ∙ ap (λ xs. map (replaced (replacements_of m)) (map type_of xs)) c.deref-in-Con.ensures.value in
    let parts_name = c.in_ok-args-in-Con.ensures.names ∙ ap (λ xs. map (replaced_by (spelled_for m)) (map spelled xs)) c.deref-in-Con.ensures.value in
    let found = c.in-Some.ensures.meaning in
    let found_name = c.in-Some.ensures.names ∙ found_spelled m c.in-Con.origin in
    let put = replaced_put path_of (λ o. replacement_for o (replacements_of m)) c.args.ty.now c.in-Con.origin c.in-Con.args args (type_of body) c.in-Con.is found parts in
    let put_name = replaced_put spelling_of (spelled_for m) c.args.ty.now c.in-Con.origin c.in-Con.args args (spelled body) c.in-Con.is found_name parts_name in
    let e = ap (λ xs. apply (with_arguments (map type_of xs)) (type_of body)) c.deref-in-Some.ensures.value ∙ put in
    let e' = ap (λ xs. apply (with_arguments (map spelled xs)) (spelled body)) c.deref-in-Some.ensures.value ∙ put_name in
    record {
      meaning = subst (λ x. IfOk c.filled.result (λ t. type_of t ≡ x)) e c.filled.ensures.meaning;
      names = subst (λ x. IfOk c.filled.result (λ t. spelled t ≡ x)) e' c.filled.ensures.names;
    }

pub replace_origins-returns-in_ok-copied-in-None : goal.replace_origins-returns-in_ok-copied-in-None
replace_origins-returns-in_ok-copied-in-None t c =
    let m = c.args.changes.now in
    let o = c.in_ok-copied-in-None.field-0 in
    let parts = c.in_ok-args-in-Con.ensures.meaning ∙ ap (λ xs. map (replaced (replacements_of m)) (map type_of xs)) c.deref-in-Con.ensures.value in
    let parts_name = c.in_ok-args-in-Con.ensures.names ∙ ap (λ xs. map (replaced_by (spelled_for m)) (map spelled xs)) c.deref-in-Con.ensures.value in
    let none = c.in-None.ensures.meaning in
    let none_name = c.in-None.ensures.names ∙ found_spelled m c.in-Con.origin in
    record {
      meaning = replaced_con path_of (λ o. replacement_for o (replacements_of m)) c.args.ty.now c.in-Con.origin o c.in-Con.args c.in_ok-args-in-Con.args
          c.in-Con.is c.in_ok-copied-in-None.ensures.path none parts;
      names = replaced_con spelling_of (spelled_for m) c.args.ty.now c.in-Con.origin o c.in-Con.args c.in_ok-args-in-Con.args
          c.in-Con.is (same_spelling c.in-Con.origin o c.in_ok-copied-in-None.ensures.path c.in_ok-copied-in-None.ensures.name) none_name parts_name;
    }
