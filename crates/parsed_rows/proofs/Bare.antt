-- An exception that has a name and takes no argument, by its operands.
use Rattle.std.proofs.Common.{◌≡◌, ◌∙◌, ◌==◌, ◌||◌, ℕ, Bool, true, false, not, List, [], ◌∷◌, Some, None, refl, ap, subst, if◌then◌else◌}
use Rattle.token_model.specs.Kinds.{Tok}
use Rattle.tree_model.specs.Rows.{Row}
use Rattle.tree_model.specs.Slots.{is_operand}
use Rattle.tree_model.specs.Trees.{Place, Tree, Forest, Extent, node, no_parts, part, taken, inner, missing}
use Rattle.tree_model.specs.Extents.{told_size}
use Rattle.typing_laws.proofs.Bools.{no_yes, and_cases}
use Rattle.fault_model.specs.Values.{stands_in, has_token, is_bare, has_bare}
use Rattle.row_parts.specs.Numbered.{Numbered, behind, with_slot, node_with, missing_operand, operands_from, in_slot, first_of, first_in, with_token, tokens_from}
use Rattle.parsed_rows.specs.Items.{IsNameless}

neither : (b c : Bool) → (b || c) ≡ false → (b ≡ false) × (c ≡ false)
neither true c e = absurd (cc)
neither false c e = (refl, e)

not_so : (b : Bool) → not b ≡ true → b ≡ false
not_so true h = absurd (cc)
not_so false h = refl

-- one operand more in another slot
passed : (s q : ℕ) (o : Numbered) (os : List (ℕ × Numbered)) → (q == s) ≡ false → in_slot s ((q, o) ∷ os) ≡ in_slot s os
passed s q o os e = ap (λ b. if b then o ∷ in_slot s os else in_slot s os) e

-- and what is missing in another slot
passed_missing : (s q n : ℕ) (at : Place) (os : List (ℕ × Numbered)) → (q == s) ≡ false → (b : Bool) → in_slot s (with_slot q (if b then Some (missing_operand n at) else None) os) ≡ in_slot s os
passed_missing s q n at os e true = passed s q (missing_operand n at) os e
passed_missing s q n at os e false = refl

-- where nothing stands in a slot there is no operand
none_operands : (s n : ℕ) (r : Row) (ps : Forest) → stands_in s ps ≡ false → in_slot s (operands_from n r ps) ≡ []
unfolding operands_from
none_operands s n r no_parts e = refl
none_operands s n r (part q (taken t) ps) e = none_operands s (behind n (told_size r q (taken t))) r ps (neither (q == s) (stands_in s ps) e).1
none_operands s n r (part q (inner u) ps) e =
    let (other, others) = neither (q == s) (stands_in s ps) e in
    passed s q (node_with n u) (operands_from (behind n (told_size r q (inner u))) r ps) other ∙ none_operands s (behind n (told_size r q (inner u))) r ps others
none_operands s n r (part q (missing at) ps) e =
    let (other, others) = neither (q == s) (stands_in s ps) e in
    passed_missing s q n at (operands_from (behind n (told_size r q (missing at))) r ps) other (is_operand r q) ∙ none_operands s (behind n (told_size r q (missing at))) r ps others

-- the first operand in the slot of the constructor is one that has a name and takes no argument
record FirstBare (n : ℕ) (r : Row) (ps : Forest) : Type 0 where
  number : ℕ
  constructor : Tree
  at : first_of (in_slot 1 (operands_from n r ps)) ≡ Some (node_with number constructor)
  bare : is_bare (inner constructor) ≡ true

first_bare : (n : ℕ) (r : Row) (ps : Forest) → has_bare ps ≡ true → FirstBare n r ps
unfolding operands_from
first_bare n r no_parts h = absurd (no_yes h)
first_bare n r (part q (taken t) ps) h = by (q == 1) h (first_bare (behind n (told_size r q (taken t))) r ps)
  where
    by : (b : Bool) → (if b then false else has_bare ps) ≡ true → (has_bare ps ≡ true → FirstBare (behind n (told_size r q (taken t))) r ps) → FirstBare n r (part q (taken t) ps)
    by true e others = absurd (no_yes e)
    by false e others = let f = others e in record { number = f.number; constructor = f.constructor; at = f.at; bare = f.bare }
first_bare n r (part q (inner u) ps) h = by (q == 1) refl h (first_bare (behind n (told_size r q (inner u))) r ps)
  where
    os : List (ℕ × Numbered)
    os = operands_from (behind n (told_size r q (inner u))) r ps

    by : (b : Bool) → (q == 1) ≡ b → (if b then is_bare (inner u) else has_bare ps) ≡ true → (has_bare ps ≡ true → FirstBare (behind n (told_size r q (inner u))) r ps) → FirstBare n r (part q (inner u) ps)
    by true is e others = record { number = n; constructor = u; at = ap (λ b. first_of (if b then node_with n u ∷ in_slot 1 os else in_slot 1 os)) is; bare = e }
    by false is e others = let f = others e in record { number = f.number; constructor = f.constructor; at = ap first_of (passed 1 q (node_with n u) os is) ∙ f.at; bare = f.bare }
first_bare n r (part q (missing at) ps) h = by (q == 1) refl h (first_bare (behind n (told_size r q (missing at))) r ps)
  where
    by : (b : Bool) → (q == 1) ≡ b → (if b then false else has_bare ps) ≡ true → (has_bare ps ≡ true → FirstBare (behind n (told_size r q (missing at))) r ps) → FirstBare n r (part q (missing at) ps)
    by true is e others = absurd (no_yes e)
    by false is e others =
        let f = others e in
        record { number = f.number; constructor = f.constructor; at = ap first_of (passed_missing 1 q n at (operands_from (behind n (told_size r q (missing at))) r ps) is (is_operand r q)) ∙ f.at; bare = f.bare }

-- what is no token adds none
none_taken : (b : Bool) (ts : List Tok) → first_of (with_token (if b then None else None) ts) ≡ None → first_of ts ≡ None
none_taken true ts e = e
none_taken false ts e = e

-- a token that stands in a slot is there
token_there : (s : ℕ) (ps : Forest) → has_token s ps ≡ true → first_of (tokens_from s ps) ≡ None → ⊥
token_there s no_parts h e = no_yes h
token_there s (part q (taken t) ps) h e = by (q == s) h e (token_there s ps)
  where
    by : (b : Bool) → (b || has_token s ps) ≡ true → first_of (with_token (if b then Some t else None) (tokens_from s ps)) ≡ None → (has_token s ps ≡ true → first_of (tokens_from s ps) ≡ None → ⊥) → ⊥
    by true h e others = absurd (cc)
    by false h e others = others h e
token_there s (part q (inner u) ps) h e = token_there s ps h (none_taken (q == s) (tokens_from s ps) e)
token_there s (part q (missing at) ps) h e = token_there s ps h (none_taken (q == s) (tokens_from s ps) e)

bare_named : (u : Tree) → is_bare (inner u) ≡ true → IsNameless (Some (node_with 0 u)) → ⊥
bare_named (node r x ps) h e = token_there 0 ps (and_cases (has_token 0 ps) (not (stands_in 2 ps)) h).0 e

bare_alone : (m : ℕ) (u : Tree) → is_bare (inner u) ≡ true → first_in m u 2 ≡ None
bare_alone m (node r x ps) h = ap first_of (none_operands 2 (behind m 1) r ps (not_so (stands_in 2 ps) (and_cases (has_token 0 ps) (not (stands_in 2 ps)) h).1))

-- An item whose constructor is such has one that takes no argument.
pub record HasBare (n : ℕ) (t : Tree) : Type 0 where
  pub number : ℕ
  pub constructor : Tree
  pub at : first_in n t 1 ≡ Some (node_with number constructor)
  pub none : first_in number constructor 2 ≡ None

pub constructor_bare : (n : ℕ) (r : Row) (x : Extent) (ps : Forest) → has_bare ps ≡ true → HasBare n (node r x ps)
constructor_bare n r x ps h = let f = first_bare (behind n 1) r ps h in record { number = f.number; constructor = f.constructor; at = f.at; none = bare_alone f.number f.constructor f.bare }

-- And that has a name.
pub never_nameless : (n : ℕ) (r : Row) (x : Extent) (ps : Forest) → has_bare ps ≡ true → IsNameless (first_in n (node r x ps) 1) → ⊥
never_nameless n r x ps h nameless = let f = first_bare (behind n 1) r ps h in bare_named f.constructor f.bare (subst IsNameless f.at nameless)
