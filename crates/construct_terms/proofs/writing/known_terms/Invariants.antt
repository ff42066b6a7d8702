use Rattle.std.proofs.Common.{◌≡◌, ◌++◌, All, map, drop}
use Rattle.type_alternatives.specs.Alternatives.{outermost_of}
use Rattle.construct_terms.specs.Terms.{IsAt}
use Rattle.construct_terms.specs.Wanted.{terms_of, texts_of}
use Rattle.construct_terms.proofs.writing.known_terms.Given as goal

abbrev pub invariant-loop-alternative : goal.invariant-loop-alternative
invariant-loop-alternative l =
    (All (IsAt l.fn.hollow.span) l.out.items)
    × (texts_of l.out.items ++ terms_of l.fn.hollow.front.now (map outermost_of (drop l.alternative-index l.list)) ≡ terms_of l.fn.hollow.front.now (map outermost_of l.list))
    × (l.hollow ≡ l.fn.hollow)
