use Rattle.std.proofs.Common.{◌≢◌, length, map, sym, ◌∙◌}
use Rattle.std.proofs.lemmas.List.{length-map}
use Rattle.type_terms.specs.Views.{type_of}
use Rattle.type_terms.proofs.Comparing.{other_lengths}
use Rattle.type_terms.proofs.sameness.+same.Goals as goal

pub are_same-returns-then-types-others : goal.are_same-returns-then-types-others
are_same-returns-then-types-others t c =
    let other : length (map type_of c.args.types.now) ≢ length (map type_of c.args.others.now) =
    λ e. c.if-types-others.true (sym (length-map c.args.types.now type_of) ∙ e ∙ length-map c.args.others.now type_of) in
    sym (other_lengths (map type_of c.args.types.now) (map type_of c.args.others.now) other)
