use Rattle.std.proofs.Common.{◌∙◌, sym, ap}
use Rattle.std.specs.Cmp.Lexicographic.{bytes_decides}
use Rattle.pattern_matrix.specs.Views.{members_of}
use Rattle.match_warnings.specs.declared.pats.SeenType.{SeenType}
use Rattle.match_warnings.proofs.pats.known_constructors.Goals as goal

pub returns-then-eq : goal.returns-then-eq
returns-then-eq c = λ members shared.
    let item = c.known-item.result in
    let same = (bytes_decides c.as_slice.result.now c.args.origin.now).0 (sym c.eq.ensures ∙ c.if-eq.true) in
    ap (λ (s : SeenType). members_of s.all.value.items) c.known-item.is ∙ shared c.loop-known.known-index item c.loop-known-test.true ∙ ap (λ (s : SeenType). members s.path.items) (sym c.known-item.is)
    ∙ ap members (sym c.as_slice.ensures.value ∙ same)
