-- Trees as the parser gives them.
use Rattle.std.specs.Prelude.{◌≡◌, ℕ, ◌+◌, ◌<◌, ◌==◌, ◌^◌, ◌&&◌, Bool, true, false, nat_eq, nat_le, List, [], ◌∷◌, if◌then◌else◌}
use Rattle.std.specs.List.{list_any, list_all}
use Rattle.tree_model.specs.Rows.{Row, program_row, let_row, type_row, exception_row, module_row, modtype_row, val_row, gmodule_row, decl_row, alias_row, variant_row, record_row, label_row, with_row, tparen_row, tapp_row, ttuple_row, tarrow_row, pparen_row, plist_row, precord_row, papp_row, pcons_row, ptuple_row, por_row, pas_row, binding_row, case_row, eparen_row, elist_row, erecord_row, prefix_row, field_row, eapp_row, eassert_row, ewhile_row, efor_row, eneg_row, infix_row, econs_row, etuple_row, eset_row, eif_row, eseq_row, elet_row, ematch_row, etry_row, efun_row, efunction_row, mstruct_row, mparen_row, mapp_row, mfunctor_row, ysig_row, yparen_row, ywith_row, yfunctor_row}
use Rattle.tree_model.specs.Slots.{is_operand}
use Rattle.tree_model.specs.Trees.{Tree, Forest, Part, node, no_parts, part, taken, inner, missing, size_of, IsSized}
use Rattle.row_parts.specs.Numbered.{Numbered}

-- the row of a node
abbrev pub row_of : Tree → Row
row_of (node r x ps) = r

-- the slots for operands of a row that are never left out: each has an operand, which may be missing
abbrev pub needed_slots : Row → List ℕ
needed_slots let_row = 2 ∷ []
needed_slots type_row = 2 ∷ []
needed_slots exception_row = 1 ∷ []
needed_slots module_row = 10 ∷ []
needed_slots modtype_row = 3 ∷ []
needed_slots val_row = 3 ∷ []
needed_slots gmodule_row = 8 ∷ []
needed_slots decl_row = 0 ∷ []
needed_slots alias_row = 0 ∷ []
needed_slots variant_row = 1 ∷ []
needed_slots record_row = 1 ∷ []
needed_slots label_row = 3 ∷ []
needed_slots with_row = 1 ∷ 3 ∷ []
needed_slots tparen_row = 1 ∷ []
needed_slots tapp_row = 0 ∷ []
needed_slots ttuple_row = 0 ∷ 2 ∷ []
needed_slots tarrow_row = 0 ∷ 2 ∷ []
needed_slots pparen_row = 1 ∷ []
needed_slots plist_row = 1 ∷ []
needed_slots precord_row = 1 ∷ []
needed_slots papp_row = 0 ∷ 1 ∷ []
needed_slots pcons_row = 0 ∷ 2 ∷ []
needed_slots ptuple_row = 0 ∷ 2 ∷ []
needed_slots por_row = 0 ∷ 2 ∷ []
needed_slots pas_row = 0 ∷ []
needed_slots binding_row = 0 ∷ 5 ∷ []
needed_slots case_row = 0 ∷ 4 ∷ []
needed_slots eparen_row = 1 ∷ []
needed_slots elist_row = 1 ∷ []
needed_slots erecord_row = 1 ∷ []
needed_slots prefix_row = 1 ∷ []
needed_slots field_row = 0 ∷ []
needed_slots eapp_row = 0 ∷ 1 ∷ []
needed_slots eassert_row = 1 ∷ []
needed_slots ewhile_row = 1 ∷ 3 ∷ []
needed_slots efor_row = 3 ∷ 5 ∷ 7 ∷ []
needed_slots eneg_row = 1 ∷ []
needed_slots infix_row = 0 ∷ 2 ∷ []
needed_slots econs_row = 0 ∷ 2 ∷ []
needed_slots etuple_row = 0 ∷ 2 ∷ []
needed_slots eset_row = 0 ∷ 2 ∷ []
needed_slots eif_row = 1 ∷ 3 ∷ []
needed_slots eseq_row = 0 ∷ []
needed_slots elet_row = 2 ∷ 5 ∷ []
needed_slots ematch_row = 1 ∷ 4 ∷ []
needed_slots etry_row = 1 ∷ 4 ∷ []
needed_slots efun_row = 1 ∷ 3 ∷ []
needed_slots efunction_row = 4 ∷ []
needed_slots mparen_row = 1 ∷ []
needed_slots mapp_row = 0 ∷ 2 ∷ []
needed_slots mfunctor_row = 4 ∷ 7 ∷ []
needed_slots yparen_row = 1 ∷ []
needed_slots ywith_row = 0 ∷ 2 ∷ []
needed_slots yfunctor_row = 4 ∷ 7 ∷ []
needed_slots _ = []

-- the slot of the row is never left out
unfoldable pub is_needed : Row → ℕ → Bool
is_needed r s = list_any (nat_eq s) (needed_slots r)

-- one of the parts is in the slot
abbrev pub is_in : ℕ → Forest → Bool
is_in s no_parts = false
is_in s (part q p ps) = if q == s then true else is_in s ps

-- no slot is left out that the row needs
abbrev pub HasNeeded : Row → Forest → Type 0
HasNeeded r ps = list_all (λ s. is_in s ps) (needed_slots r) ≡ true

-- the slots of a row that may have several operands
abbrev pub repeated_slots : Row → List ℕ
repeated_slots program_row = 0 ∷ []
repeated_slots let_row = 2 ∷ []
repeated_slots type_row = 2 ∷ []
repeated_slots module_row = 5 ∷ []
repeated_slots gmodule_row = 5 ∷ []
repeated_slots variant_row = 1 ∷ []
repeated_slots record_row = 1 ∷ []
repeated_slots tparen_row = 1 ∷ []
repeated_slots ttuple_row = 2 ∷ []
repeated_slots plist_row = 1 ∷ []
repeated_slots precord_row = 1 ∷ []
repeated_slots ptuple_row = 2 ∷ []
repeated_slots por_row = 2 ∷ []
repeated_slots binding_row = 1 ∷ []
repeated_slots elist_row = 1 ∷ []
repeated_slots erecord_row = 5 ∷ []
repeated_slots eapp_row = 1 ∷ []
repeated_slots etuple_row = 2 ∷ []
repeated_slots eseq_row = 2 ∷ []
repeated_slots elet_row = 2 ∷ []
repeated_slots ematch_row = 4 ∷ []
repeated_slots etry_row = 4 ∷ []
repeated_slots efun_row = 1 ∷ []
repeated_slots efunction_row = 4 ∷ []
repeated_slots mstruct_row = 1 ∷ []
repeated_slots mfunctor_row = 4 ∷ []
repeated_slots ysig_row = 1 ∷ []
repeated_slots ywith_row = 2 ∷ []
repeated_slots yfunctor_row = 4 ∷ []
repeated_slots _ = []

-- the slot of the row may have several operands
unfoldable pub may_repeat : Row → ℕ → Bool
may_repeat r s = list_any (nat_eq s) (repeated_slots r)

-- the lowest slot of an operand that may come after one in this slot
abbrev pub next_slot : Row → ℕ → ℕ
next_slot r s = if may_repeat r s then s else s + 1

-- the operands of parts come in the order of their slots, from a lowest one on, and two of one slot only where it may have several
abbrev pub is_in_order : Row → ℕ → Forest → Bool
is_in_order r low no_parts = true
is_in_order r low (part s p ps) = if is_operand r s then nat_le low s && is_in_order r (next_slot r s) ps else is_in_order r low ps

-- a part in a slot of its kind: tokens in those for tokens, nodes in those for operands; what is missing may be either
abbrev pub IsInPlace : Row → ℕ → Part → Type 0
IsInPlace r s (taken t) = is_operand r s ≡ false
IsInPlace r s (inner t) = is_operand r s ≡ true
IsInPlace r s (missing at) = Unit {0}

-- the operands of a row come in order
abbrev pub HasOrder : Row → Forest → Type 0
HasOrder r ps = is_in_order r 0 ps ≡ true

-- in a node, and in the nodes in it, no needed slot is left out, operands come in order, and each part is in a slot of its kind
abbrev mutual
  pub IsShaped : Tree → Type 0
  IsShaped (node r x ps) = HasNeeded r ps × HasOrder r ps × AreShaped r ps

  -- the parts of a row are in slots of their kinds, and so are the parts in them
  pub AreShaped : Row → Forest → Type 0
  AreShaped r no_parts = Unit {0}
  AreShaped r (part s p ps) = IsInPlace r s p × IsPartShaped p × AreShaped r ps

  -- the node that a part is
  pub IsPartShaped : Part → Type 0
  IsPartShaped (taken t) = Unit {0}
  IsPartShaped (inner t) = IsShaped t
  IsPartShaped (missing at) = Unit {0}

-- a tree that is well formed, with this number in its item: its nodes tell their true sizes and have the parts of their rows, and all numbers are below 2^32
pub record IsFormed (n : ℕ) (t : Tree) : Type 0 where
  pub sized : IsSized t
  pub shaped : IsShaped t
  pub room : n + size_of t < 2 ^ 32

-- the same of what is at an operand
abbrev pub IsPartFormed : ℕ → Part → Type 0
IsPartFormed n (taken t) = Unit {0}
IsPartFormed n (inner t) = IsFormed n t
IsPartFormed n (missing at) = Unit {0}

-- an operand whose tree is well formed
abbrev pub IsOperandFormed : Numbered → Type 0
IsOperandFormed o = IsPartFormed o.number o.part
