use Rattle.std.proofs.Common.{rules, ◌≤◌, [], map, length, append-nil, subst, refl}
use Rattle.type_terms.specs.Views.{path_of}
use Rattle.type_alternatives.specs.Alternatives.{outermost_of, Pairwise, IsConstructor}
use Rattle.type_alternatives.proofs.Pairs.{pairs_end}
use Rattle.type_alternatives.proofs.values.of_constructors.Goals as goal

pub returns : goal.returns
returns c =
    let R = IsConstructor c.args.store.now.nodes c.args.env.now (path_of c.args.origin.now) in
    let end : length c.args.constructors.now ≤ c.loop-place.place = search rules in (
      map outermost_of c.loop-place.list.items,
      refl,
      subst (Pairwise R 0 c.args.constructors.now) (append-nil (map outermost_of c.loop-place.list.items)) (c.loop-place.invariant [] (pairs_end R c.loop-place.place c.args.constructors.now end)),
    )
