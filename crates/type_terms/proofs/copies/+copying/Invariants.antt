use Rattle.std.proofs.Common.{◌≡◌, ◌++◌, map, drop}
use Rattle.type_terms.specs.Views.{type_of, spelled}
use Rattle.type_terms.proofs.copies.+copying.Given as goal

abbrev pub invariant-copies_of-loop-ty : goal.invariant-copies_of-loop-ty
invariant-copies_of-loop-ty l = record {
  meaning : map type_of l.copies.items ++ map type_of (drop l.ty-index l.types) ≡ map type_of l.types;
  names : map spelled l.copies.items ++ map spelled (drop l.ty-index l.types) ≡ map spelled l.types;
}
