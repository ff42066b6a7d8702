-- The kinds of names, in the order of their printed names.
use Rattle.std.proofs.Common.{◌≡◌, refl}
use Rattle.std.specs.Ordering.{nat_cmp}
use Rattle.std.specs.Cmp.Lexicographic.{slice_cmp}
use Rattle.name_queries.specs.NewestNames.{printed}
use Rattle.name_queries.specs.declared.newest_names.CompletionKind.{CompletionKind}
use Rattle.name_queries.specs.declared.newest_names.CompletionKind.TheVariants as told
use Rattle.name_queries.specs.contracts.newest_names.CompletionKindOrd.TheImpl.{ghosts}

-- the order of the variants
pub in_order : (a b : CompletionKind) → ghosts.cmp a b ≡ slice_cmp nat_cmp (printed a) (printed b)
in_order told.Constructor told.Constructor = refl
in_order told.Constructor told.Label = refl
in_order told.Constructor told.Module = refl
in_order told.Constructor told.ModuleType = refl
in_order told.Constructor told.Type = refl
in_order told.Constructor told.Value = refl
in_order told.Label told.Constructor = refl
in_order told.Label told.Label = refl
in_order told.Label told.Module = refl
in_order told.Label told.ModuleType = refl
in_order told.Label told.Type = refl
in_order told.Label told.Value = refl
in_order told.Module told.Constructor = refl
in_order told.Module told.Label = refl
in_order told.Module told.Module = refl
in_order told.Module told.ModuleType = refl
in_order told.Module told.Type = refl
in_order told.Module told.Value = refl
in_order told.ModuleType told.Constructor = refl
in_order told.ModuleType told.Label = refl
in_order told.ModuleType told.Module = refl
in_order told.ModuleType told.ModuleType = refl
in_order told.ModuleType told.Type = refl
in_order told.ModuleType told.Value = refl
in_order told.Type told.Constructor = refl
in_order told.Type told.Label = refl
in_order told.Type told.Module = refl
in_order told.Type told.ModuleType = refl
in_order told.Type told.Type = refl
in_order told.Type told.Value = refl
in_order told.Value told.Constructor = refl
in_order told.Value told.Label = refl
in_order told.Value told.Module = refl
in_order told.Value told.ModuleType = refl
in_order told.Value told.Type = refl
in_order told.Value told.Value = refl
