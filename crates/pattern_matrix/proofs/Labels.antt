-- The labels in the name of a record, byte by byte.
use Rattle.std.proofs.Common.{◌⊎◌, inl, inr, arith, codes, ◌≡◌, ◌∙◌, ◌++◌, ◌+◌, ◌<◌, ◌==◌, ◌||◌, ℕ, Bool, true, false, List, [], ◌∷◌, length, take, drop, get_or, refl, sym, ap, append_assoc, if◌then◌else◌}
use Rattle.std.proofs.lemmas.Bool.{eqb-true}
use Rattle.std.proofs.lemmas.List.{drop_more, take_more}
use Rattle.signature_model.specs.Declarations.{Name}
use Rattle.match_model.specs.Values.{Shapes, no_shapes, also_shape}
use Rattle.match_model.specs.Printed as model
use Rattle.match_model.specs.Printed.{label_names}
use Rattle.pattern_matrix.specs.Printed.{is_mark, fields_after, listed_after}

-- none of four is true
none_true : (a b c d : Bool) → (a || b || c || d) ≡ false → (a ≡ false) × (b ≡ false) × (c ≡ false) × (d ≡ false)
none_true false false false false e = (refl, refl, refl, refl)
none_true true b c d e = let x : true ≡ false = e in cc
none_true false true c d e = let x : true ≡ false = e in cc
none_true false false true d e = let x : true ≡ false = e in cc
none_true false false false true e = let x : true ≡ false = e in cc

-- a byte that is no mark belongs to the label
pub plain_byte : (b : ℕ) (bs label : List ℕ) → is_mark b ≡ false → label_names (b ∷ bs) label ≡ label_names bs (label ++ b ∷ [])
plain_byte b bs label e =
    let (open_brace, close_brace, mark, space) = none_true (b == 123) (b == 125) (b == 59) (b == 32) e in
    ap (λ q. if q then label_names bs [] else if b == 125 then label ∷ [] else if b == 59 then label ∷ label_names bs [] else if b == 32 then label_names bs label else label_names bs (label ++ b ∷ [])) open_brace
    ∙ ap (λ q. if q then label ∷ [] else if b == 59 then label ∷ label_names bs [] else if b == 32 then label_names bs label else label_names bs (label ++ b ∷ [])) close_brace
    ∙ ap (λ q. if q then label ∷ label_names bs [] else if b == 32 then label_names bs label else label_names bs (label ++ b ∷ [])) mark
    ∙ ap (λ q. if q then label_names bs label else label_names bs (label ++ b ∷ [])) space

-- and so do those before the next byte, where that is none
pub plain_more : (bs label : List ℕ) (i : ℕ) → i < length bs → is_mark (get_or bs i 0) ≡ false → label_names (drop i bs) (label ++ take i bs) ≡ label_names (drop (i + 1) bs) (label ++ take (i + 1) bs)
plain_more bs label i within plain =
    ap (λ xs. label_names xs (label ++ take i bs)) (drop_more bs i 0 within) ∙ plain_byte (get_or bs i 0) (drop (i + 1) bs) (label ++ take i bs) plain
    ∙ ap (label_names (drop (i + 1) bs)) (append_assoc label (take i bs) (get_or bs i 0 ∷ []) ∙ ap (λ xs. label ++ xs) (sym (take_more bs i 0 within)))

-- a brace begins a label anew
pub after_open : (bs label : List ℕ) (i : ℕ) → i < length bs → get_or bs i 0 ≡ 123 → label_names (drop i bs) label ≡ label_names (drop (i + 1) bs) []
after_open bs label i within e = ap (λ xs. label_names xs label) (drop_more bs i 0 within) ∙ ap (λ b. label_names (b ∷ drop (i + 1) bs) label) e

-- the other one ends the last label
pub after_close : (bs label : List ℕ) (i : ℕ) → i < length bs → get_or bs i 0 ≡ 125 → label_names (drop i bs) label ≡ label ∷ []
after_close bs label i within e = ap (λ xs. label_names xs label) (drop_more bs i 0 within) ∙ ap (λ b. label_names (b ∷ drop (i + 1) bs) label) e

-- a semicolon ends a label
pub after_mark : (bs label : List ℕ) (i : ℕ) → i < length bs → get_or bs i 0 ≡ 59 → label_names (drop i bs) label ≡ label ∷ label_names (drop (i + 1) bs) []
after_mark bs label i within e = ap (λ xs. label_names xs label) (drop_more bs i 0 within) ∙ ap (λ b. label_names (b ∷ drop (i + 1) bs) label) e

-- a mark that is none of these is a space
is_space : (a b c d : Bool) → (a || b || c || d) ≡ true → a ≡ false → b ≡ false → c ≡ false → d ≡ true
is_space false false false true e p q r = refl
is_space false false false false e p q r = let x : false ≡ true = e in cc
is_space true b c d e p q r = let x : true ≡ false = p in cc
is_space false true c d e p q r = let x : true ≡ false = q in cc
is_space false false true d e p q r = let x : true ≡ false = r in cc

-- a space is left out
pub after_space : (bs label : List ℕ) (i : ℕ) → i < length bs → is_mark (get_or bs i 0) ≡ true → (get_or bs i 0 == 123) ≡ false → (get_or bs i 0 == 125) ≡ false → (get_or bs i 0 == 59) ≡ false → label_names (drop i bs) label ≡ label_names (drop (i + 1) bs) label
after_space bs label i within mark p q r =
    let b = get_or bs i 0 in
    let rest = drop (i + 1) bs in
    ap (λ xs. label_names xs label) (drop_more bs i 0 within)
    ∙ ap (λ x. if x then label_names rest [] else if b == 125 then label ∷ [] else if b == 59 then label ∷ label_names rest [] else if b == 32 then label_names rest label else label_names rest (label ++ b ∷ [])) p
    ∙ ap (λ x. if x then label ∷ [] else if b == 59 then label ∷ label_names rest [] else if b == 32 then label_names rest label else label_names rest (label ++ b ∷ [])) q
    ∙ ap (λ x. if x then label ∷ label_names rest [] else if b == 32 then label_names rest label else label_names rest (label ++ b ∷ [])) r
    ∙ ap (λ x. if x then label_names rest label else label_names rest (label ++ b ∷ [])) (is_space (b == 123) (b == 125) (b == 59) (b == 32) mark p q r)

-- one of four is true
one_true : (a b c d : Bool) → (a || b || c || d) ≡ true → (a ≡ true) ⊎ (b ≡ true) ⊎ (c ≡ true) ⊎ (d ≡ true)
one_true true b c d e = inl refl
one_true false true c d e = inr (inl refl)
one_true false false true d e = inr (inr (inl refl))
one_true false false false d e = inr (inr (inr e))

-- a mark is a character by itself
pub mark_ascii : (b : ℕ) → is_mark b ≡ true → b < 128
mark_ascii b e = by (one_true (b == 123) (b == 125) (b == 59) (b == 32) e)
  where
    by : ((b == 123) ≡ true) ⊎ ((b == 125) ≡ true) ⊎ ((b == 59) ≡ true) ⊎ ((b == 32) ≡ true) → b < 128
    by (inl p) = let q = eqb-true b 123 p in omega (arith, q)
    by (inr (inl p)) = let q = eqb-true b 125 p in omega (arith, q)
    by (inr (inr (inl p))) = let q = eqb-true b 59 p in omega (arith, q)
    by (inr (inr (inr p))) = let q = eqb-true b 32 p in omega (arith, q)

-- ---- parts with marks between them

-- no mark is before the first shape
pub listed_first : (ss : Shapes) → listed_after [] ss ≡ model.listed ss
listed_first no_shapes = refl
listed_first (also_shape s ss) = refl

-- a comma is before each later one
pub listed_next : (ss : Shapes) → listed_after (codes ", ") ss ≡ model.listed_rest ss
listed_next no_shapes = refl
listed_next (also_shape s ss) = refl

-- no mark is before the first field
pub fields_first : (ns : List Name) (ss : Shapes) → fields_after [] ns ss ≡ model.fields ns ss
fields_first ns no_shapes = refl
fields_first ns (also_shape s ss) = refl

-- a semicolon is before each later one
pub fields_next : (ns : List Name) (ss : Shapes) → fields_after (codes "; ") ns ss ≡ model.fields_rest ns ss
fields_next ns no_shapes = refl
fields_next ns (also_shape s ss) = refl
