-- The items of each tree that the parser gives are well formed.
use Rattle.std.proofs.Common.{◌≡◌, ◌≢◌, ℕ, Bool, true, false, refl, sym, subst, arith}
use Rattle.std.specs.Prelude.{All}
use Rattle.std.proofs.lemmas.List.Elements.{All-nil, All-cons}
use Rattle.tree_model.specs.Rows as names
use Rattle.tree_model.specs.Slots as slots
use Rattle.tree_model.specs.Trees as plain
use Rattle.tree_model.specs.Trees.{AreItemsSized}
use Rattle.grammar_model.specs.Trees.{Tree, Forest, Part, node, no_parts, part, taken, inner, missing}
use Rattle.grammar_model.specs.Tables.{What, nothing, token, operand, Last, plain as no_operand}
use Rattle.grammar_model.specs.Rows.{Left, no_left, level, named as by_name, row_at, left_takes}
use Rattle.grammar_model.specs.Grammar.{last_in, StandsIn, left_last, BeginsWith, WellFormed, IsFilled, Follows, IsPartFormed}
use Rattle.recovery_model.specs.Steps.{is_operand}
use Rattle.grammar_model.specs.Named.{slot_of, named, named_parts, named_part, forest_items, items_of}
use Rattle.grammar_model.specs.Ocaml.{rows, Text, grammar, row_name}
use Rattle.grammar_laws.proofs.Slots.{slot_takes, left_slot_takes}
use Rattle.operand_laws.specs.Formed.{IsInPlace, IsShaped, AreShaped, IsPartShaped, IsFormed}
use Rattle.operand_laws.proofs.Needed.{needed_filled}
use Rattle.operand_laws.proofs.Ordered.{in_order}

-- a part that is in a spot of its kind is in a slot of its kind
in_place : (text : Text) (r : names.Row) (s : ℕ) (w : What) (c : Part) → (w ≢ nothing → slots.is_operand r s ≡ is_operand w) → StandsIn (grammar text) w c → IsInPlace r s (named_part row_name c)
in_place text r s nothing c takes h = absurd h
in_place text r s (token ks) (taken t) takes h = takes (λ e. cc)
in_place text r s (token ks) (inner t) takes h = absurd h
in_place text r s (token ks) (missing p) takes h = tt
in_place text r s (operand q n) (taken t) takes h = absurd h
in_place text r s (operand q n) (inner t) takes h = takes (λ e. cc)
in_place text r s (operand q n) (missing p) takes h = tt

-- a token is no left operand
left_no_token : (l : Left) (s : ℕ) → left_takes rows l s no_operand ≡ true → ⊥
left_no_token no_left s h = cc
left_no_token (level n) s h = cc
left_no_token (by_name m) s h = cc

-- a left operand is in a slot for operands
left_in_place : (text : Text) (r : ℕ) (c : Part) → (grammar text).has_left r ≡ true → (grammar text).left_ok r (left_last c) ≡ true → IsInPlace (row_name r) 0 (named_part row_name c)
left_in_place text r (taken t) left h = absurd (left_no_token (row_at rows r).left (row_at rows r).sort h)
left_in_place text r (inner t) left h = left_slot_takes text r left
left_in_place text r (missing p) left h = tt

-- so the first part of a row is in a slot of its kind
first_in_place : (text : Text) (r p : ℕ) (c : Part) (b : Bool) → (grammar text).has_left r ≡ b → BeginsWith (grammar text) r b p c → IsInPlace (row_name r) (slot_of p) (named_part row_name c)
first_in_place text r p c true left h = subst (λ p. IsInPlace (row_name r) (slot_of p) (named_part row_name c)) (sym h.0) (left_in_place text r c left h.1)
first_in_place text r p c false left h = in_place text (row_name r) (slot_of p) ((grammar text).what r p) c (slot_takes text r p) h.1

mutual
  -- a tree in the grammar, but for missing parts, has the parts of its rows
  pub shaped : (text : Text) (T : Tree) → WellFormed (grammar text) T → IsShaped (named row_name T)
  shaped text (node r f) h = (needed_filled text r f h, in_order text r f h, row_shaped text r f h)

  -- the parts of a row
  row_shaped : (text : Text) (r : ℕ) (f : Forest) → IsFilled (grammar text) r f → AreShaped (row_name r) (named_parts row_name f)
  row_shaped text r no_parts h = tt
  row_shaped text r (part p c f) h = (first_in_place text r p c ((grammar text).has_left r) refl h.0, part_shaped text c h.1, parts_shaped text r p (last_in ((grammar text).what r p) c) f h.2)

  -- the parts after a spot
  parts_shaped : (text : Text) (r at : ℕ) (last : Last) (f : Forest) → Follows (grammar text) r at last f → AreShaped (row_name r) (named_parts row_name f)
  parts_shaped text r at last no_parts h = tt
  parts_shaped text r at last (part p c f) h =
      (in_place text (row_name r) (slot_of p) ((grammar text).what r p) c (slot_takes text r p) h.1, part_shaped text c h.2, parts_shaped text r p (last_in ((grammar text).what r p) c) f h.3)

  -- a part
  part_shaped : (text : Text) (c : Part) → IsPartFormed (grammar text) c → IsPartShaped (named_part row_name c)
  part_shaped text (taken t) h = tt
  part_shaped text (inner t) h = shaped text t h
  part_shaped text (missing p) h = tt

-- the nodes among parts that tell their true sizes are well formed, each as an item of its own
parts_formed : (r : names.Row) (ps : plain.Forest) → AreShaped r ps → AreItemsSized (forest_items ps) → All (IsFormed 0) (forest_items ps)
parts_formed r plain.no_parts shaped sized = All-nil (IsFormed 0)
parts_formed r (plain.part s (plain.taken t) ps) shaped sized = parts_formed r ps shaped.2 sized
parts_formed r (plain.part s (plain.inner t) ps) shaped sized =
    let few = sized.1 in All-cons (IsFormed 0) t (forest_items ps) (record { sized = sized.0; shaped = shaped.1; room = omega arith }) (parts_formed r ps shaped.2 sized.2)
parts_formed r (plain.part s (plain.missing at) ps) shaped sized = parts_formed r ps shaped.2 sized

-- each item of a tree that the parser gives is well formed, where it tells its true size and is small
pub items_formed : (text : Text) (T : Tree) → WellFormed (grammar text) T → AreItemsSized (items_of (named row_name T)) → All (IsFormed 0) (items_of (named row_name T))
items_formed text (node r f) h sized = parts_formed (row_name r) (named_parts row_name f) (row_shaped text r f h) sized
