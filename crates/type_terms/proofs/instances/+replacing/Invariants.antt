use Rattle.std.proofs.Common.{◌≡◌, ◌++◌, map, drop}
use Rattle.type_model.specs.Origins.{replaced, replaced_by}
use Rattle.type_terms.specs.Views.{type_of, spelled, replacements_of, spelled_for}
use Rattle.type_terms.proofs.instances.+replacing.Given as goal

abbrev pub invariant-replace_in_all-loop-ty : goal.invariant-replace_in_all-loop-ty
invariant-replace_in_all-loop-ty l =
    let put = replaced (replacements_of l.changes) in
    let put_spelled = replaced_by (spelled_for l.changes) in
    record {
      meaning : map type_of l.all.items ++ map put (map type_of (drop l.ty-index l.types)) ≡ map put (map type_of l.types);
      names : map spelled l.all.items ++ map put_spelled (map spelled (drop l.ty-index l.types)) ≡ map put_spelled (map spelled l.types);
    }
