-- A declaration of a type in the prelude is a type of its own.
use Rattle.std.proofs.Common.{inl, inr, ◌≡◌, ℕ, ◌<◌, ◌^◌, Bool, true, false, List, [], ◌∷◌, length, Option, Some, None, refl}
use Rattle.std.specs.Prelude.{All, nat_lt}
use Rattle.std.proofs.lemmas.Bool.{ltb-true}
use Rattle.std.proofs.lemmas.List.Elements.{All-nil, All-cons, All-head}
use Rattle.token_model.specs.Kinds.{Tok}
use Rattle.tree_model.specs.Rows.{Row, type_row, decl_row, head_row, variant_row, record_row, con_row, label_row}
use Rattle.tree_model.specs.Trees.{Tree, Part, node, taken, inner, missing}
use Rattle.row_parts.specs.Numbered.{Numbered, row_at, operands_in, first_in, filled_in, token_in, tokens_in}
use Rattle.operand_laws.specs.Formed.{row_of, IsFormed, IsPartFormed, IsOperandFormed}
use Rattle.operand_laws.proofs.Going.{operands_formed}
use Rattle.decl_groups.specs.Written.{parameters_in, name_in}
use Rattle.declared_items.specs.Written.{IsOfRow, AreOfRow, TellsOwn, IsOwnPart, IsOwnSide, IsOwnNode, IsOwnTypeNode}
use Rattle.prelude_checks.proofs.Checked.{both}
use Rattle.prelude_checks.proofs.Items.{is_there, is_con, is_label, each_of, is_own, side_fits, is_head, head_fits, is_declaration, declaration_fits, type_fits, OfRow}

-- operands whose rows pass a test that one row alone passes
one_of : (test : Row → Bool) (q : Row) → ((r : Row) → test r ≡ true → r ≡ q) → (p : Part) → elim (row_at p) [ None ↦ false | Some r ↦ test r ] ≡ true → IsOfRow q p
one_of test q only (taken t) h = tt
one_of test q only (inner (node r x ps)) h = only r h
one_of test q only (missing at) h = tt

all_of : (test : Row → Bool) (q : Row) → ((r : Row) → test r ≡ true → r ≡ q) → (os : List Numbered) → each_of test os ≡ true → AreOfRow q os
all_of test q only [] h = All-nil (λ (o : Numbered). IsOfRow q o.part)
all_of test q only (o ∷ os) h =
    let r = both (elim (row_at o.part) [ None ↦ false | Some r ↦ test r ]) (each_of test os) h in
    All-cons (λ (o : Numbered). IsOfRow q o.part) o os (one_of test q only o.part r.0) (all_of test q only os r.1)

only_con : (r : Row) → is_con r ≡ true → r ≡ con_row
only_con con_row h = refl
only_con _ h = absurd (cc)

only_label : (r : Row) → is_label r ≡ true → r ≡ label_row
only_label label_row h = refl
only_label _ h = absurd (cc)

tells_by : (r : Row) (n : ℕ) (t : Tree) → is_own r n t ≡ true → TellsOwn r n t
tells_by variant_row n t h = all_of is_con con_row only_con (operands_in n t 1) h
tells_by record_row n t h = all_of is_label label_row only_label (operands_in n t 1) h
tells_by _ n t h = absurd (cc)

own_part : (n : ℕ) (p : Part) → elim p [ taken t ↦ false | inner t ↦ is_own (row_of t) n t | missing at ↦ false ] ≡ true → IsOwnPart n p
own_part n (taken t) h = tt
own_part n (inner (node r x ps)) h = tells_by r n (node r x ps) h
own_part n (missing at) h = tt

own_side : (o : Option Numbered) → side_fits o ≡ true → IsOwnSide o
own_side None h = tt
own_side (Some o) h = own_part o.number o.part h

-- what is known of a head that fits
record Head (p : Part) : Type 0 where
  head : IsOfRow head_row p
  few : length (parameters_in p) < 2 ^ 32
  name : Tok
  named : name_in p ≡ Some name

head_by : (r : Row) (t : Tree) → row_of t ≡ r → is_head r t ≡ true → Head (inner t)
head_by head_row t row h = by (token_in t 4) refl (both (is_there (token_in t 4)) (nat_lt (length (tokens_in t 1)) (2 ^ 32)) h)
  where
    by : (o : Option Tok) → token_in t 4 ≡ o → (is_there o ≡ true) × (nat_lt (length (tokens_in t 1)) (2 ^ 32) ≡ true) → Head (inner t)
    by None e h = absurd (let f = h.0 in cc)
    by (Some k) e h = record { head = row; few = ltb-true (length (tokens_in t 1)) (2 ^ 32) h.1; name = k; named = e }
head_by _ t row h = absurd (cc)

head_part : (p : Part) → head_fits p ≡ true → Head p
head_part (taken t) h = absurd (cc)
head_part (inner t) h = head_by (row_of t) t refl h
head_part (missing at) h = absurd (cc)

declared_by : (n : ℕ) (t : Tree) → IsFormed n t → (r : Row) → row_of t ≡ r → is_declaration r n t ≡ true → IsOwnNode n t
declared_by n t formed decl_row row h =
    let r = both (head_fits (filled_in n t 0).part) (side_fits (first_in n t 2)) h in
    let k = head_part (filled_in n t 0).part r.0 in
    record { formed = formed; row = row; head = k.head; right = own_side (first_in n t 2) r.1; few = k.few; name = k.name; named = k.named }
declared_by n t formed _ row h = absurd (cc)

type_part : (n : ℕ) (t : Tree) → IsFormed n t → row_of t ≡ type_row → (o : Numbered) → operands_in n t 2 ≡ o ∷ [] → (p : Part) → o.part ≡ p → IsPartFormed o.number p → declaration_fits o.number p ≡ true → IsOwnTypeNode n t
type_part n t formed row o only (taken k) is shape h = absurd (cc)
type_part n t formed row o only (inner d) is shape h = record { formed = formed; row = row; operand = o; only = only; declaration = d; part = is; is = declared_by o.number d shape (row_of d) refl h }
type_part n t formed row o only (missing at) is shape h = absurd (cc)

type_operands : (n : ℕ) (t : Tree) → IsFormed n t → row_of t ≡ type_row → (os : List Numbered) → operands_in n t 2 ≡ os → All IsOperandFormed os → type_fits os ≡ true → IsOwnTypeNode n t
type_operands n t formed row [] is shapes h = absurd (cc)
type_operands n t formed row (o ∷ []) is shapes h = type_part n t formed row o is o.part refl (All-head IsOperandFormed o [] shapes) h
type_operands n t formed row (o ∷ p ∷ os) is shapes h = absurd (cc)

-- A declaration whose row fits is a type of its own.
type_by : (n : ℕ) (t : Tree) → IsFormed n t → row_of t ≡ type_row → type_fits (operands_in n t 2) ≡ true → IsOwnTypeNode n t
type_by n t formed row h = type_operands n t formed row (operands_in n t 2) refl (operands_formed n t 2 formed) h

-- So it is an item that is carried.
pub types_carried : OfRow type_row
types_carried n t formed row h = inr (inr (inl (type_by n t formed row h)))
