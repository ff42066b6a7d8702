-- The tokens in a slot, and the paths over them, are those of the definitions' parts.
use Rattle.std.proofs.Common.{◌≡◌, ◌==◌, ◌+◌, ℕ, Bool, true, false, List, [], ◌∷◌, filter_map, None, refl, if◌then◌else◌}
use Rattle.token_model.specs.Kinds.{Tok}
use Rattle.tree_model.specs.Rows.{Row}
use Rattle.tree_model.specs.Trees.{Tree, Forest, Part, node, no_parts, part, taken, inner, missing, part_size}
use Rattle.row_parts.specs.Numbered as operands
use Rattle.row_parts.specs.Numbered.{with_token, tokens_from, tokens_or_none_from}
use Rattle.typing_model.specs.Parts as parts
use Rattle.typing_model.specs.Parts.{Child}
use Rattle.typing_model.specs.Meanings.{children_of, child_of}
use Rattle.operand_laws.specs.Operands.{number_of, parts_of, path_of}
use Rattle.operand_laws.proofs.Children.{slot_children}

-- the token that a part is
child_token : (n s : ℕ) (p : Part) → parts.token_of (child_of n s p).part ≡ operands.token_of p
child_token n s (taken t) = refl
child_token n s (inner (node r x ps)) = refl
child_token n s (missing at) = refl

-- a part that may be a token, before others
token_first : (n s : ℕ) (p : Part) (cs : List Child) → filter_map (λ (c : Child). parts.token_of c.part) (child_of n s p ∷ cs) ≡ with_token (operands.token_of p) (filter_map (λ (c : Child). parts.token_of c.part) cs)
token_first n s (taken t) cs = refl
token_first n s (inner (node r x ps)) cs = refl
token_first n s (missing at) cs = refl

-- the tokens of parts in a slot
from_tokens : (n : ℕ) (r : Row) (s : ℕ) (ps : Forest) → parts.tokens_in s (children_of n r ps) ≡ tokens_from s ps
from_tokens n r s no_parts = refl
from_tokens n r s (part q p ps) = by (q == s) refl (from_tokens (n + part_size r q p) r s ps)
  where
    by : (b : Bool) → (q == s) ≡ b → parts.tokens_in s (children_of (n + part_size r q p) r ps) ≡ tokens_from s ps → parts.tokens_in s (children_of n r (part q p ps)) ≡ with_token (if b then operands.token_of p else None) (tokens_from s ps)
    by true e rest = rw (slot_children n q s p (children_of (n + part_size r q p) r ps) true e, token_first n q p (parts.in_slot s (children_of (n + part_size r q p) r ps)), rest) refl
    by false e rest = rw (slot_children n q s p (children_of (n + part_size r q p) r ps) false e, rest) refl

-- the same with those that are missing
from_optional : (n : ℕ) (r : Row) (s : ℕ) (ps : Forest) → parts.optional_tokens_in s (children_of n r ps) ≡ tokens_or_none_from s ps
from_optional n r s no_parts = refl
from_optional n r s (part q p ps) = by (q == s) refl (from_optional (n + part_size r q p) r s ps)
  where
    by : (b : Bool) → (q == s) ≡ b → parts.optional_tokens_in s (children_of (n + part_size r q p) r ps) ≡ tokens_or_none_from s ps →
        parts.optional_tokens_in s (children_of n r (part q p ps)) ≡ (if b then operands.token_of p ∷ tokens_or_none_from s ps else tokens_or_none_from s ps)
    by true e rest = rw (slot_children n q s p (children_of (n + part_size r q p) r ps) true e, child_token n q p, rest) refl
    by false e rest = rw (slot_children n q s p (children_of (n + part_size r q p) r ps) false e, rest) refl

-- the tokens in a slot of a node
pub tokens_stand : (i n : ℕ) (t : Tree) (s : ℕ) → parts.tokens_in s (parts_of i n t) ≡ operands.tokens_in t s
tokens_stand i n (node r x ps) s = from_tokens (number_of i n + 1) r s ps

-- the tokens in a slot of a node, with None for each that is missing
pub optional_tokens_stand : (i n : ℕ) (t : Tree) (s : ℕ) → parts.optional_tokens_in s (parts_of i n t) ≡ operands.tokens_or_none_in t s
optional_tokens_stand i n (node r x ps) s = from_optional (number_of i n + 1) r s ps

-- the first of some tokens
first_stands : (ts : List Tok) → parts.first_of ts ≡ operands.first_of ts
first_stands [] = refl
first_stands (t ∷ ts) = refl

-- the first token in a slot of a node
pub token_stands : (i n : ℕ) (t : Tree) (s : ℕ) → parts.token_in s (parts_of i n t) ≡ operands.token_in t s
token_stands i n t s = rw (tokens_stand i n t s, first_stands (operands.tokens_in t s)) refl

-- the path whose qualifiers and whose last token are in two slots of a node
pub path_stands : (i n : ℕ) (t : Tree) (q l : ℕ) → parts.path_in q l (parts_of i n t) ≡ path_of (operands.path_in t q l)
path_stands i n t q l = rw (tokens_stand i n t q, token_stands i n t l) refl
