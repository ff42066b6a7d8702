use Rattle.std.proofs.Common.{rules, ◌≤◌, [], map, length, append-nil, subst}
use Rattle.type_terms.specs.Views.{path_of}
use Rattle.type_alternatives.specs.Alternatives.{named_of, Pairwise, IsLabel}
use Rattle.type_alternatives.proofs.Pairs.{pairs_end}
use Rattle.type_alternatives.proofs.values.of_labels.Goals as goal

pub returns : goal.returns
returns c =
    let R = IsLabel c.args.env.now (path_of c.args.origin.now) in
    let end : length c.args.labels.now ≤ c.loop-place.place = search rules in (
      map named_of c.loop-place.paths.items,
      c.in_ok-record.ensures,
      subst (Pairwise R 0 c.args.labels.now) (append-nil (map named_of c.loop-place.paths.items)) (c.loop-place.invariant [] (pairs_end R c.loop-place.place c.args.labels.now end)),
    )
