-- The items of the prelude: each is one that is specified, and as an operand it is the item of the definitions.
use Rattle.std.proofs.Common.{inl, inr, ◌≡◌, ◌∙◌, ℕ, ◌+◌, ◌-◌, ◌<◌, ◌^◌, Bool, true, false, ◌&&◌, List, [], ◌∷◌, ◌++◌, length, filter_map, Option, Some, None, refl, sym, ap, subst, arith}
use Rattle.std.specs.Prelude.{All, nat_lt}
use Rattle.std.specs.List.{cons_option}
use Rattle.std.proofs.lemmas.Bool.{ltb-true}
use Rattle.std.proofs.lemmas.List.Elements.{All-nil, All-cons, All-head, All-tail}
use Rattle.token_model.specs.Kinds.{Tok}
use Rattle.tree_model.specs.Rows.{Row, con_row, label_row, head_row, decl_row, variant_row, record_row, val_row, exception_row, type_row, gmodule_row, ysig_row}
use Rattle.tree_model.specs.Extents.{extent_of}
use Rattle.tree_model.specs.Trees.{Tree, Forest, Part, node, no_parts, part, taken, inner, missing, part_yield, size_of, IsSized, AreSized}
use Rattle.row_parts.specs.Numbered.{Numbered, behind, node_with, row_at, operands_in, first_in, filled_in, token_in, tokens_in}
use Rattle.typing_model.specs.Contexts.{Choice}
use Rattle.typing_model.specs.Meanings.{children_of, child_of, recorded_item}
use Rattle.typing_model.specs.Modules.{signature_item_row}
use Rattle.typing_model.specs.Parts.{Item}
use Rattle.operand_laws.specs.Formed.{row_of, IsFormed}
use Rattle.operand_laws.specs.Operands.{number_of}
use Rattle.signature_model.specs.Matching.{IsKnown}
use Rattle.parsed_rows.specs.Items.{IsSmall}
use Rattle.binding_rows.specs.ItemRows.{IsExceptionNode, item_if}
use Rattle.grammar_model.specs.Named.{forest_items}
use Rattle.signature_typing.specs.ValueItems.{IsValueNode, values_of}
use Rattle.signature_typing.specs.Specifications.{specification_at, specifications_at, specified_from, IsCarriedSpecification, AreCarriedSpecifications, IsKnownValue, AreKnownValues, AreKnownAt}
use Rattle.prelude_checks.proofs.Checked.{both}

-- whether a token is there
abbrev pub is_there : Option Tok → Bool
is_there None = false
is_there (Some t) = true

-- whether a part is a constructor that has a name
abbrev is_constructor : Row → Tree → Bool
is_constructor con_row t = is_there (token_in t 0)
is_constructor _ t = false

abbrev part_fits : Part → Bool
part_fits (taken t) = false
part_fits (inner t) = is_constructor (row_of t) t
part_fits (missing at) = false

abbrev operand_fits : Option Numbered → Bool
operand_fits None = false
operand_fits (Some o) = part_fits o.part

-- whether a node is a value that has a name, and whether operands are such values
abbrev pub is_value : Row → Tree → Bool
is_value val_row t = is_there (token_in t 1)
is_value _ t = false

abbrev pub value_fits : Part → Bool
value_fits (taken t) = false
value_fits (inner t) = is_value (row_of t) t
value_fits (missing at) = false

abbrev pub values_fit : List Numbered → Bool
values_fit [] = true
values_fit (o ∷ os) = value_fits o.part && values_fit os

-- whether a part is a signature of such values
abbrev pub is_signature : Row → ℕ → Tree → Bool
is_signature ysig_row n t = values_fit (operands_in n t 1)
is_signature _ n t = false

abbrev pub signature_fits : ℕ → Part → Bool
signature_fits n (taken t) = false
signature_fits n (inner t) = is_signature (row_of t) n t
signature_fits n (missing at) = false

abbrev pub are_none : List Numbered → Bool
are_none [] = true
are_none (o ∷ os) = false

-- whether a module has a name, no parameters and such a signature
abbrev pub module_fits : ℕ → Tree → Bool
module_fits n t = is_there (token_in t 1) && (are_none (operands_in n t 5) && signature_fits (filled_in n t 8).number (filled_in n t 8).part)

-- whether a part is the head of a declaration, with a name and not too many parameters
abbrev pub is_head : Row → Tree → Bool
is_head head_row t = is_there (token_in t 4) && nat_lt (length (tokens_in t 1)) (2 ^ 32)
is_head _ t = false

abbrev pub head_fits : Part → Bool
head_fits (taken t) = false
head_fits (inner t) = is_head (row_of t) t
head_fits (missing at) = false

-- whether operands are constructors, or labels
abbrev pub is_con : Row → Bool
is_con con_row = true
is_con _ = false

abbrev pub is_label : Row → Bool
is_label label_row = true
is_label _ = false

abbrev pub each_of : (Row → Bool) → List Numbered → Bool
each_of test [] = true
each_of test (o ∷ os) = elim (row_at o.part) [ None ↦ false | Some r ↦ test r ] && each_of test os

-- whether the right side of a declaration has constructors or labels
abbrev pub is_own : Row → ℕ → Tree → Bool
is_own variant_row n t = each_of is_con (operands_in n t 1)
is_own record_row n t = each_of is_label (operands_in n t 1)
is_own _ n t = false

abbrev pub side_fits : Option Numbered → Bool
side_fits None = false
side_fits (Some o) = elim o.part [ taken t ↦ false | inner t ↦ is_own (row_of t) o.number t | missing at ↦ false ]

-- whether a node declares one type of its own
abbrev pub is_declaration : Row → ℕ → Tree → Bool
is_declaration decl_row n t = head_fits (filled_in n t 0).part && side_fits (first_in n t 2)
is_declaration _ n t = false

abbrev pub declaration_fits : ℕ → Part → Bool
declaration_fits n (taken t) = false
declaration_fits n (inner t) = is_declaration (row_of t) n t
declaration_fits n (missing at) = false

abbrev pub type_fits : List Numbered → Bool
type_fits [] = false
type_fits (o ∷ []) = declaration_fits o.number o.part
type_fits (o ∷ p ∷ os) = false

-- whether a node of this row, with this number, is an item that is specified
abbrev pub row_fits : Row → ℕ → Tree → Bool
row_fits val_row n t = is_there (token_in t 1)
row_fits exception_row n t = operand_fits (first_in n t 1)
row_fits type_row n t = type_fits (operands_in n t 2)
row_fits gmodule_row n t = module_fits n t
row_fits _ n t = false

-- whether parts are such items and nothing else, where the first has this number, and all numbers are small
abbrev pub items_fit : ℕ → Forest → Bool
items_fit n no_parts = true
items_fit n (part s (taken t) ps) = false
items_fit n (part s (inner t) ps) = row_fits (row_of t) n t && nat_lt (n + (extent_of t).size) (2 ^ 32 - 1) && items_fit (n + (extent_of t).size) ps
items_fit n (part s (missing at) ps) = false

-- whether the root of a tree has such parts
abbrev pub tree_fits : Tree → Bool
tree_fits (node r x ps) = items_fit 0 ps

-- what is tested of an item and of those after it
record Fits (n : ℕ) (t : Tree) (ps : Forest) : Type 0 where
  row : row_fits (row_of t) n t ≡ true
  below : n + (extent_of t).size < 2 ^ 32 - 1
  later : items_fit (n + (extent_of t).size) ps ≡ true

fits_each : (n s : ℕ) (t : Tree) (ps : Forest) → items_fit n (part s (inner t) ps) ≡ true → Fits n t ps
fits_each n s t ps h =
    let r = both (row_fits (row_of t) n t && nat_lt (n + (extent_of t).size) (2 ^ 32 - 1)) (items_fit (n + (extent_of t).size) ps) h in
    let q = both (row_fits (row_of t) n t) (nat_lt (n + (extent_of t).size) (2 ^ 32 - 1)) r.0 in
    record { row = q.0; below = ltb-true (n + (extent_of t).size) (2 ^ 32 - 1) q.1; later = r.1 }

-- numbers that are small aren't cut off
behind_small : (n k : ℕ) → n + k < 2 ^ 32 - 1 → behind n k ≡ n + k
behind_small n k h = grind arith

-- the size that a node tells is its own
told_own : (t : Tree) → IsSized t → (extent_of t).size ≡ size_of t
told_own (node r x ps) h = h.0

-- So the items are small.
pub items_small : (n : ℕ) (ps : Forest) → AreSized ps → items_fit n ps ≡ true → All IsSmall (forest_items ps)
items_small n no_parts sized h = All-nil IsSmall
items_small n (part s (taken t) ps) sized h = absurd (cc)
items_small n (part s (inner t) ps) sized h =
    let f = fits_each n s t ps h in
    let own = told_own t sized.0 in
    let below = f.below in
    All-cons IsSmall t (forest_items ps) (omega arith) (items_small (n + (extent_of t).size) ps sized.1 f.later)
items_small n (part s (missing at) ps) sized h = absurd (cc)

-- an item that may be there, in front of others
in_front : (o : Option Item) (ms : List Item) → item_if o ++ ms ≡ cons_option o ms
in_front None ms = refl
in_front (Some m) ms = refl

number_itself : (n : ℕ) → number_of 0 n ≡ n
number_itself n = omega arith

-- the item of an operand is that of a part with this number
one_item : (n s : ℕ) (t : Tree) → specification_at 0 (node_with n t) ≡ item_if (child_of n s (inner t)).signature_item
one_item n s (node r x ps) = ap (λ k. item_if (recorded_item k (signature_item_row r k x.span (part_yield (inner (node r x ps))) (children_of (k + 1) r ps)))) (number_itself n)

-- The operands are the items of the definitions.
pub items_numbered : (r : Row) (n : ℕ) (ps : Forest) → AreSized ps → items_fit n ps ≡ true → specifications_at 0 (specified_from n (forest_items ps)) ≡ filter_map (λ k. k.signature_item) (children_of n r ps)
items_numbered r n no_parts sized h = refl
items_numbered r n (part s (taken t) ps) sized h = absurd (cc)
items_numbered r n (part s (inner t) ps) sized h =
    let f = fits_each n s t ps h in
    let size = (extent_of t).size in
    ap (λ ms. ms ++ specifications_at 0 (specified_from (behind n size) (forest_items ps))) (one_item n s t)
    ∙ ap (λ k. item_if (child_of n s (inner t)).signature_item ++ specifications_at 0 (specified_from k (forest_items ps))) (behind_small n size f.below)
    ∙ ap (λ ms. item_if (child_of n s (inner t)).signature_item ++ ms) (items_numbered r (n + size) ps sized.1 f.later)
    ∙ ap (λ k. item_if (child_of n s (inner t)).signature_item ++ filter_map (λ k. k.signature_item) (children_of (n + k) r ps)) (told_own t sized.0)
    ∙ in_front (child_of n s (inner t)).signature_item (filter_map (λ k. k.signature_item) (children_of (n + size_of t) r ps))
items_numbered r n (part s (missing at) ps) sized h = absurd (cc)

value_by : (n : ℕ) (t : Tree) → IsFormed n t → row_of t ≡ val_row → (o : Option Tok) → token_in t 1 ≡ o → is_there o ≡ true → IsValueNode n t
value_by n t formed row None e h = absurd (cc)
value_by n t formed row (Some k) e h = record { formed = formed; row = row; name = k; named = e }

only_con : (r : Row) (t : Tree) → is_constructor r t ≡ true → (r ≡ con_row) × (is_there (token_in t 0) ≡ true)
only_con con_row t h = (refl, h)
only_con _ t h = absurd (cc)

named_by : (n : ℕ) (t : Tree) → IsFormed n t → row_of t ≡ exception_row → (o : Numbered) → first_in n t 1 ≡ Some o → (u : Tree) → o.part ≡ inner u → row_of u ≡ con_row → (k : Option Tok) → token_in u 0 ≡ k → is_there k ≡ true → IsExceptionNode n t
named_by n t formed row o there u is con None e h = absurd (cc)
named_by n t formed row o there u is con (Some k) e h = record { formed = formed; row = row; operand = o; there = there; constructor = u; part = is; is = con; name = k; named = e }

part_by : (n : ℕ) (t : Tree) → IsFormed n t → row_of t ≡ exception_row → (o : Numbered) → first_in n t 1 ≡ Some o → (p : Part) → o.part ≡ p → part_fits p ≡ true → IsExceptionNode n t
part_by n t formed row o there (taken k) is h = absurd (cc)
part_by n t formed row o there (inner u) is h = let c = only_con (row_of u) u h in named_by n t formed row o there u is c.0 (token_in u 0) refl c.1
part_by n t formed row o there (missing at) is h = absurd (cc)

exception_by : (n : ℕ) (t : Tree) → IsFormed n t → row_of t ≡ exception_row → (o : Option Numbered) → first_in n t 1 ≡ o → operand_fits o ≡ true → IsExceptionNode n t
exception_by n t formed row None e h = absurd (cc)
exception_by n t formed row (Some o) e h = part_by n t formed row o e o.part refl h

-- what is known of the items of one row: one that fits is carried
abbrev pub OfRow : Row → Type 0
OfRow r = (n : ℕ) (t : Tree) → IsFormed n t → row_of t ≡ r → row_fits r n t ≡ true → IsCarriedSpecification n t

carried_by : OfRow type_row → OfRow gmodule_row → (n : ℕ) (t : Tree) → IsFormed n t → (r : Row) → row_of t ≡ r → row_fits r n t ≡ true → IsCarriedSpecification n t
carried_by types modules n t formed val_row row h = inl (value_by n t formed row (token_in t 1) refl h)
carried_by types modules n t formed exception_row row h = inr (inl (exception_by n t formed row (first_in n t 1) refl h))
carried_by types modules n t formed type_row row h = types n t formed row h
carried_by types modules n t formed gmodule_row row h = modules n t formed row h
carried_by types modules n t formed _ row h = absurd (cc)

-- Each item is one that is carried.
pub items_carried : OfRow type_row → OfRow gmodule_row → (n : ℕ) (ps : Forest) → All (IsFormed 0) (forest_items ps) → AreSized ps → items_fit n ps ≡ true → AreCarriedSpecifications (specified_from n (forest_items ps))
items_carried types modules n no_parts formed sized h = tt
items_carried types modules n (part s (taken t) ps) formed sized h = absurd (cc)
items_carried types modules n (part s (inner t) ps) formed sized h =
    let f = fits_each n s t ps h in
    let size = (extent_of t).size in
    let one = All-head (IsFormed 0) t (forest_items ps) formed in
    let own = told_own t sized.0 in
    let below = f.below in
    let here : IsFormed n t = record { sized = one.sized; shaped = one.shaped; room = omega arith } in (
      carried_by types modules n t here (row_of t) refl f.row,
      subst (λ k. AreCarriedSpecifications (specified_from k (forest_items ps))) (sym (behind_small n size f.below)) (items_carried types modules (n + size) ps (All-tail (IsFormed 0) t (forest_items ps) formed) sized.1 f.later),
    )
items_carried types modules n (part s (missing at) ps) formed sized h = absurd (cc)

-- Where no unknown type stands in any type of a choice, none stands in those of values, nor in those of the values in modules.
module _ (ch : Choice) (known : (n : ℕ) → IsKnown (ch.type_at n)) (i : ℕ) where
  value_known : (n : ℕ) (p : Part) → IsKnownValue ch i n p
  value_known n (taken t) = tt
  value_known n (inner t) = λ row. known _
  value_known n (missing at) = tt

  values_known : (os : List Numbered) → AreKnownValues ch i os
  values_known [] = tt
  values_known (o ∷ os) = (value_known o.number o.part, values_known os)

  pub items_known : (n : ℕ) (ts : List Tree) → AreKnownAt ch i (specified_from n ts)
  items_known n [] = tt
  items_known n (t ∷ ts) = (record { value = value_known n (inner t); within = λ row. values_known (values_of n t) }, items_known (behind n (extent_of t).size) ts)
