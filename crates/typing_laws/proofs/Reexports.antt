-- In a text without re-exports no declaration has a right side that is one.
use Rattle.std.proofs.Common.{◌≡◌, ℕ, ◌+◌, ◌==◌, Bool, true, false, not, List, [], ◌∷◌, filter_map, Option, Some, None, option_map, refl, sym, subst, if◌then◌else◌}
use Rattle.tree_model.specs.Trees.{Tree, Forest, Part, node, no_parts, part, taken, inner, missing, part_size}
use Rattle.tree_model.specs.Rows.{Row, alias_row, variant_row, record_row, decl_row}
use Rattle.typing_model.specs.Parts.{Told, RightSide, another, own, DeclarationPart, Child, in_slot, first_of, type_in}
use Rattle.typing_model.specs.Names.{then_by}
use Rattle.typing_model.specs.Declarations.{last_token, tokens_of_slot, right_side_row}
use Rattle.typing_model.specs.Meanings.{declaration_of, children_of, child_of, tree_child}
use Rattle.typing_laws.proofs.Bools.{and_cases}
use Rattle.typing_laws.proofs.Steady.{Each, no_one, one_and, IfThere, absent, there}
use Rattle.typing_laws.proofs.SteadyRows.{filtered}
use Rattle.typing_laws.proofs.Slots.{none_there}
use Rattle.typing_laws.specs.Reexports.{has_slot, is_no_reexport, is_new, are_new, is_new_part}

-- a right side that re-exports nothing
abbrev pub IsNew : Option RightSide → Type 0
IsNew None = Unit {0}
IsNew (Some (another n t l None)) = Unit {0}
IsNew (Some (another n t l (Some k))) = ⊥
IsNew (Some (own r)) = Unit {0}

pub record NewDeclaration (d : DeclarationPart) : Type 0 where
  pub right : IsNew d.right

-- a part of a row, as a right side and as a declaration
pub record NewChild (x : Child) : Type 0 where
  pub right : IsNew x.right_side
  pub declaration : IfThere NewDeclaration x.declaration

slot_new : (s : ℕ) (cs : List Child) → Each NewChild cs → Each NewChild (in_slot s cs)
slot_new s [] no_one = no_one
slot_new s (c ∷ cs) (one_and h each) = by (c.slot == s) (slot_new s cs each)
  where
    by : (b : Bool) → Each NewChild (in_slot s cs) → Each NewChild (if b then c ∷ in_slot s cs else in_slot s cs)
    by true g = one_and h g
    by false g = g

first_new : (cs : List Child) → Each NewChild cs → IsNew (then_by (first_of cs) (λ c. c.right_side))
first_new [] no_one = tt
first_new (c ∷ cs) (one_and h each) = h.right

declaration_new : (r : Row) (n : ℕ) (cs : List Child) → Each NewChild cs → IfThere NewDeclaration (declaration_of r n cs)
declaration_new decl_row n cs h = there (record { right = first_new (in_slot 2 cs) (slot_new 2 cs h) })
declaration_new _ n cs h = absent

own_new : (o : Option Told) → IsNew (option_map own o)
own_new None = tt
own_new (Some r) = tt

not_true : (b : Bool) → not b ≡ true → b ≡ false
not_true true e = sym e
not_true false e = refl

right_new : (r : Row) (n : ℕ) (ps : Forest) → is_no_reexport r ps ≡ true → IsNew (right_side_row r n (children_of (n + 1) r ps))
right_new alias_row n ps e =
    let cs : List Child = children_of (n + 1) alias_row ps in
    subst (λ ds. IsNew (Some (another n (type_in 0 cs) (last_token (tokens_of_slot 0 cs)) (then_by (first_of ds) (λ k. k.told))))) (sym (none_there 2 (n + 1) alias_row ps (not_true (has_slot 2 ps) e))) tt
right_new variant_row n ps e = tt
right_new record_row n ps e = tt
right_new _ n ps e = tt

mutual
  pub children_new : (n : ℕ) (r : Row) (ps : Forest) → are_new ps ≡ true → Each NewChild (children_of n r ps)
  children_new n r no_parts e = no_one
  children_new n r (part slot p ps) e = let (first, others) = and_cases (is_new_part p) (are_new ps) e in one_and (child_new n slot p first) (children_new (n + part_size r slot p) r ps others)

  child_new : (n slot : ℕ) (p : Part) → is_new_part p ≡ true → NewChild (child_of n slot p)
  child_new n slot (taken t) e = record { right = tt; declaration = absent }
  child_new n slot (inner t) e = tree_new n slot t e
  child_new n slot (missing p) e = record { right = tt; declaration = absent }

  tree_new : (n slot : ℕ) (t : Tree) → is_new t ≡ true → NewChild (tree_child n slot t)
  tree_new n slot (node r x ps) e =
      let (first, others) = and_cases (is_no_reexport r ps) (are_new ps) e in
      record { right = right_new r n ps first; declaration = declaration_new r n (children_of (n + 1) r ps) (children_new (n + 1) r ps others) }

-- so it is in the declarations of an item
pub declarations_new : (n : ℕ) (r : Row) (ps : Forest) → are_new ps ≡ true → Each NewDeclaration (filter_map (λ c. c.declaration) (in_slot 2 (children_of n r ps)))
declarations_new n r ps e = filtered NewDeclaration (λ c. c.declaration) (in_slot 2 (children_of n r ps)) (λ c h. h.declaration) (slot_new 2 (children_of n r ps) (children_new n r ps e))
