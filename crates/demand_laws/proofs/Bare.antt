-- An exception that takes no argument by its tree takes none in the definitions.
use Rattle.std.proofs.Common.{◌≡◌, ◌∙◌, ℕ, ◌+◌, ◌==◌, Bool, true, false, not, ◌||◌, Option, Some, None, List, [], ◌∷◌, map, refl, sym, ap, subst, if◌then◌else◌}
use Rattle.tree_model.specs.Rows.{Row, con_row, exception_row}
use Rattle.tree_model.specs.Trees.{Tree, Forest, Part, Extent, node, no_parts, part, taken, inner, missing, part_size}
use Rattle.typing_model.specs.Names.{then_by}
use Rattle.typing_model.specs.Parts.{ConstructorPart, Child, in_slot, first_of}
use Rattle.typing_model.specs.Meanings.{constructor_of, children_of, child_of}
use Rattle.typing_model.specs.Plain.{is_let_row, has_lets_alone}
use Rattle.fault_model.specs.Values.{stands_in, has_token, is_bare, has_bare, is_bare_item, are_bare}
use Rattle.typing_laws.proofs.Bools.{no_yes, and_cases, and_both}

-- a constructor that may be there takes no argument
abbrev pub TakesNone : Option ConstructorPart → Type 0
TakesNone None = Unit {0}
TakesNone (Some k) = k.argument ≡ None

-- the constructor of an exception, by the parts of its row
abbrev pub constructor_among : List Child → Option ConstructorPart
constructor_among cs = then_by (first_of (in_slot 1 cs)) (λ k. k.constructor)

-- where the row is an exception, its constructor takes no argument
abbrev pub IsBareRow : Row → List Child → Type 0
IsBareRow exception_row cs = TakesNone (constructor_among cs)
IsBareRow _ cs = Unit {0}

-- the slot of a part
slot_is : (m q : ℕ) (p : Part) → (child_of m q p).slot ≡ q
slot_is m q (taken t) = refl
slot_is m q (inner (node r x ps)) = refl
slot_is m q (missing at) = refl

pub neither : (b c : Bool) → (b || c) ≡ false → (b ≡ false) × (c ≡ false)
neither true c e = absurd (no_yes (sym e))
neither false c e = (refl, e)

-- where nothing stands in a slot, no part does
none_in_slot : (s m : ℕ) (r : Row) (ps : Forest) → stands_in s ps ≡ false → in_slot s (children_of m r ps) ≡ []
none_in_slot s m r no_parts e = refl
none_in_slot s m r (part q p ps) e =
    let (other, others) = neither (q == s) (stands_in s ps) e in
    let rest = in_slot s (children_of (m + part_size r q p) r ps) in
    ap (λ z. if z == s then child_of m q p ∷ rest else rest) (slot_is m q p) ∙ ap (λ b. if b then child_of m q p ∷ rest else rest) other ∙ none_in_slot s (m + part_size r q p) r ps others

constructor_bare : (r : Row) (m : ℕ) (cs : List Child) → in_slot 2 cs ≡ [] → TakesNone (constructor_of r m cs)
constructor_bare con_row m cs e = ap (λ (ds : List Child). first_of (map (λ (c : Child). c.type_expression) ds)) e
constructor_bare _ m cs e = tt

not_so : (b : Bool) → not b ≡ true → b ≡ false
not_so true h = absurd (no_yes h)
not_so false h = refl

-- a constructor that takes no argument does so in the definitions
child_bare : (m q : ℕ) (p : Part) → is_bare p ≡ true → TakesNone (child_of m q p).constructor
child_bare m q (taken t) h = tt
child_bare m q (inner (node r x ps)) h = constructor_bare r m (children_of (m + 1) r ps) (none_in_slot 2 (m + 1) r ps (not_so (stands_in 2 ps) (and_cases (has_token 0 ps) (not (stands_in 2 ps)) h).1))
child_bare m q (missing at) h = tt

parts_bare : (m : ℕ) (r : Row) (ps : Forest) → has_bare ps ≡ true → TakesNone (constructor_among (children_of m r ps))
parts_bare m r no_parts h = tt
parts_bare m r (part q p ps) h =
    subst (λ z. TakesNone (then_by (first_of (if z == 1 then child_of m q p ∷ rest else rest)) (λ k. k.constructor))) (sym (slot_is m q p)) (by (q == 1) h (parts_bare (m + part_size r q p) r ps))
  where
    rest : List Child
    rest = in_slot 1 (children_of (m + part_size r q p) r ps)

    by : (b : Bool) → (if b then is_bare p else has_bare ps) ≡ true → (has_bare ps ≡ true → TakesNone (then_by (first_of (in_slot 1 (children_of (m + part_size r q p) r ps))) (λ k. k.constructor))) →
        TakesNone (then_by (first_of (if b then child_of m q p ∷ rest else rest)) (λ k. k.constructor))
    by true e others = child_bare m q p e
    by false e others = others e

pub item_bare : (m : ℕ) (r : Row) (x : Extent) (ps : Forest) → is_bare_item (node r x ps) ≡ true → IsBareRow r (children_of m r ps)
item_bare m exception_row x ps h = parts_bare m exception_row ps h
item_bare m _ x ps h = tt

-- a text of `let` and `;;` has no other exceptions
row_bare : (r : Row) (x : Extent) (ps : Forest) → is_let_row r ≡ true → is_bare_item (node r x ps) ≡ true
row_bare exception_row x ps e = absurd (no_yes e)
row_bare _ x ps e = refl

pub lets_bare : (text : List Tree) → has_lets_alone text ≡ true → are_bare text ≡ true
lets_bare [] e = refl
lets_bare (node r x ps ∷ ts) e = let (first, others) = and_cases (is_let_row r) (has_lets_alone ts) e in and_both (is_bare_item (node r x ps)) (are_bare ts) (row_bare r x ps first) (lets_bare ts others)
