use Rattle.std.proofs.Common.{◌∙◌, ap, map}
use Rattle.type_model.specs.Substitutions.{apply, with_arguments}
use Rattle.type_terms.specs.Views.{type_of, spelled, path_of, spelling_of}
use Rattle.type_terms.proofs.Listing.{filled_tuple, filled_con, same_spelling}
use Rattle.type_terms.proofs.instances.+filling.Goals as goal

pub filled-returns-in_ok-all_filled-in-Tuple : goal.filled-returns-in_ok-all_filled-in-Tuple
filled-returns-in_ok-all_filled-in-Tuple t c =
    let put = with_arguments (map type_of c.args.args.now) in
    let put_name = with_arguments (map spelled c.args.args.now) in
    let parts = c.in_ok-all_filled-in-Tuple.ensures.meaning ∙ ap (λ xs. map (apply put) (map type_of xs)) c.deref-in-Tuple.ensures.value in
    let parts_name = c.in_ok-all_filled-in-Tuple.ensures.names ∙ ap (λ xs. map (apply put_name) (map spelled xs)) c.deref-in-Tuple.ensures.value in
    record {
      meaning = filled_tuple path_of put c.args.ty.now c.in-Tuple.parts c.in_ok-all_filled-in-Tuple.field-0 c.in-Tuple.is parts;
      names = filled_tuple spelling_of put_name c.args.ty.now c.in-Tuple.parts c.in_ok-all_filled-in-Tuple.field-0 c.in-Tuple.is parts_name;
    }

pub filled-returns-in_ok-all_filled-in-Con : goal.filled-returns-in_ok-all_filled-in-Con
filled-returns-in_ok-all_filled-in-Con t c =
    let put = with_arguments (map type_of c.args.args.now) in
    let put_name = with_arguments (map spelled c.args.args.now) in
    let parts = c.in_ok-all_filled-in-Con.ensures.meaning ∙ ap (λ xs. map (apply put) (map type_of xs)) c.deref-in-Con.ensures.value in
    let parts_name = c.in_ok-all_filled-in-Con.ensures.names ∙ ap (λ xs. map (apply put_name) (map spelled xs)) c.deref-in-Con.ensures.value in
    let o = c.in_ok-copied-in-Con.field-0 in
    record {
      meaning = filled_con path_of put c.args.ty.now c.in-Con.origin o c.in-Con.parts c.in_ok-all_filled-in-Con.field-0 c.in-Con.is c.in_ok-copied-in-Con.ensures.path parts;
      names = filled_con spelling_of put_name c.args.ty.now c.in-Con.origin o c.in-Con.parts c.in_ok-all_filled-in-Con.field-0 c.in-Con.is
          (same_spelling c.in-Con.origin o c.in_ok-copied-in-Con.ensures.path c.in_ok-copied-in-Con.ensures.name) parts_name;
    }
