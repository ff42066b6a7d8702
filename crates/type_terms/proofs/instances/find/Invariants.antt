use Rattle.std.proofs.Common.{◌≡◌, map, drop}
use Rattle.type_model.specs.Origins.{replacement_for}
use Rattle.type_terms.specs.Views.{type_of, spelled}
use Rattle.type_terms.proofs.instances.find.Given as goal

abbrev pub invariant-loop-from : goal.invariant-loop-from
invariant-loop-from l =
    let left = drop l.from-index l.from-items in
    record {
      meaning :
          replacement_for l.origin.path.items (map (λ p. (p.0.path.items, type_of p.1)) left)
          ≡ replacement_for l.origin.path.items (map (λ p. (p.0.path.items, type_of p.1)) l.changes.pairs.items);
      names :
          replacement_for l.origin.path.items (map (λ p. (p.0.path.items, spelled p.1)) left)
          ≡ replacement_for l.origin.path.items (map (λ p. (p.0.path.items, spelled p.1)) l.changes.pairs.items);
    }
