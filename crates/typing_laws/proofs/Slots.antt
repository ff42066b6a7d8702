-- The slots of the parts of a row.
use Rattle.std.proofs.Common.{◌≡◌, ◌∙◌, ℕ, ◌+◌, ◌==◌, Bool, true, false, [], ◌∷◌, refl, sym, ap, if◌then◌else◌}
use Rattle.tree_model.specs.Trees.{Forest, Part, node, no_parts, part, taken, inner, missing, part_size}
use Rattle.tree_model.specs.Rows.{Row}
use Rattle.typing_model.specs.Parts.{in_slot}
use Rattle.typing_model.specs.Meanings.{children_of, child_of}
use Rattle.typing_laws.proofs.Bools.{no_yes}
use Rattle.typing_laws.specs.Reexports.{has_slot}

-- a part has its slot
pub slot_is : (n slot : ℕ) (p : Part) → (child_of n slot p).slot ≡ slot
slot_is n slot (taken t) = refl
slot_is n slot (inner (node r x ps)) = refl
slot_is n slot (missing p) = refl

-- a slot that no part is in
pub none_there : (s n : ℕ) (r : Row) (ps : Forest) → has_slot s ps ≡ false → in_slot s (children_of n r ps) ≡ []
none_there s n r no_parts e = refl
none_there s n r (part slot p ps) e = by (slot == s) refl (λ h. none_there s (n + part_size r slot p) r ps h)
  where
    test : (b : Bool) → (slot == s) ≡ b → ((child_of n slot p).slot == s) ≡ b
    test b f = ap (λ x. x == s) (slot_is n slot p) ∙ f

    by : (b : Bool) → (slot == s) ≡ b → (has_slot s ps ≡ false → in_slot s (children_of (n + part_size r slot p) r ps) ≡ []) → in_slot s (child_of n slot p ∷ children_of (n + part_size r slot p) r ps) ≡ []
    by true f further = absurd (no_yes (sym e ∙ ap (λ b. if b then true else has_slot s ps) f))
    by false f further = ap (λ b. if b then child_of n slot p ∷ in_slot s (children_of (n + part_size r slot p) r ps) else in_slot s (children_of (n + part_size r slot p) r ps)) (test false f) ∙ further (sym (ap (λ b. if b then true else has_slot s ps) f) ∙ e)
