use Rattle.std.proofs.Common.{◌≡◌, ◌++◌, map, drop}
use Rattle.type_model.specs.Substitutions.{apply, with_arguments}
use Rattle.type_terms.specs.Views.{type_of, spelled}
use Rattle.type_terms.proofs.instances.+filling.Given as goal

abbrev pub invariant-all_filled-loop-ty : goal.invariant-all_filled-loop-ty
invariant-all_filled-loop-ty l =
    let put = apply (with_arguments (map type_of l.args)) in
    let put_spelled = apply (with_arguments (map spelled l.args)) in
    record {
      meaning : map type_of l.all.items ++ map put (map type_of (drop l.ty-index l.types)) ≡ map put (map type_of l.types);
      names : map spelled l.all.items ++ map put_spelled (map spelled (drop l.ty-index l.types)) ≡ map put_spelled (map spelled l.types);
    }
