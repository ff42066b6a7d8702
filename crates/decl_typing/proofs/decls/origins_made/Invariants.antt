use Rattle.std.proofs.Common.{◌≡◌, [], ◌∷◌, ◌++◌, map, drop}
use Rattle.operand_laws.specs.Operands.{number_of}
use Rattle.decl_groups.specs.Marks.{AreUnset}
use Rattle.decl_groups.specs.declared.groups.DeclarationPart.{DeclarationPart}
use Rattle.decl_typing.proofs.decls.origins_made.Given as goal

-- those so far, and then the paths of the declarations that are left
abbrev pub invariant-loop-place : goal.invariant-loop-place
invariant-loop-place l = AreUnset l.renames → map (λ o. o.path.items) l.makes.items ++ map (λ (p : DeclarationPart). number_of l.at.item p.number ∷ []) (drop l.place l.parts) ≡ map (λ (p : DeclarationPart). number_of l.at.item p.number ∷ []) l.parts
