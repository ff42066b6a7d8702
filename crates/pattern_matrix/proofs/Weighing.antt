-- What lines weigh, and that a step of the search leaves less.
use Rattle.std.proofs.Common.{◌≡◌, ℕ, zero, suc, ◌+◌, ◌*◌, ◌≤◌, ◌<◌, true, false, List, [], ◌∷◌, ◌++◌, length, Option, Some, None, refl, sym, ap, ◌∙◌, subst, cond, arith, map, get_or}
use Rattle.std.proofs.lemmas.List.{length-map, length-append}
use Rattle.pattern_matrix.proofs.Listing.{items_of-listed, number_of-items}
use Rattle.std.specs.Prelude.{unwrap_or}
use Rattle.std.specs.Option.{option_or}
use Rattle.std.proofs.Math.Nat.{add-mul, mul-add, mul_assoc, one-le-mul, mul-le-mul}
use Rattle.signature_model.specs.Declarations.{Name}
use Rattle.pattern_matrix.specs.Lines.{Member, Typed, Typeds, any, con, lit, either, none, also, items_of, listed, Line, opened, Head, width_of, is_built, is_literal, under, under_each, line_under, lines_under, without_head, each_without_head, line_without_head, headless, family_in, family_in_some, family_of_line, family}
use Rattle.pattern_matrix.specs.Weights.{total_parts, number_of, ways, ways_all, ways_some, weight, weight_all, weight_some, line_ways, line_weight, lines_weight, work}

le-self : (n : ℕ) → n ≤ n
le-self n = omega arith

mutual
  pub ways-positive : (p : Typed) → 1 ≤ ways p
  ways-positive any = omega arith
  ways-positive (con all n ps) = ways_all-positive ps
  ways-positive (lit n) = omega arith
  ways-positive (either ps) = omega arith

  pub ways_all-positive : (ps : Typeds) → 1 ≤ ways_all ps
  ways_all-positive none = omega arith
  ways_all-positive (also p ps) = one-le-mul (ways-positive p) (ways_all-positive ps)

pub line_ways-positive : (l : Line) → 1 ≤ line_ways l
line_ways-positive [] = omega arith
line_ways-positive (p ∷ rest) = one-le-mul (ways-positive p) (line_ways-positive rest)

pub line_ways-append : (a b : Line) → line_ways (a ++ b) ≡ line_ways a * line_ways b
line_ways-append [] b = omega arith
line_ways-append (p ∷ a) b = ap (λ n. ways p * n) (line_ways-append a b) ∙ sym (mul_assoc (ways p) (line_ways a) (line_ways b))

-- (x * (c * d)) + w * (y * d + c * z) is (x * c + w * y) * d + (w * c) * z
regrouped : (x w c y d z : ℕ) → x * (c * d) + w * (y * d + c * z) ≡ (x * c + w * y) * d + w * c * z
regrouped x w c y d z =
    let a : x * (c * d) ≡ x * c * d = sym (mul_assoc x c d) in
    let b : w * (y * d + c * z) ≡ w * (y * d) + w * (c * z) = mul-add w (y * d) (c * z) in
    let e : w * (y * d) ≡ w * y * d = sym (mul_assoc w y d) in
    let f : w * (c * z) ≡ w * c * z = sym (mul_assoc w c z) in
    let g : (x * c + w * y) * d ≡ x * c * d + w * y * d = add-mul (x * c) (w * y) d in
    omega arith

pub line_weight-append : (a b : Line) → line_weight (a ++ b) ≡ line_weight a * line_ways b + line_ways a * line_weight b
line_weight-append [] b = omega arith
line_weight-append (p ∷ a) b =
    ap (λ n. weight p * n + ways p * line_weight (a ++ b)) (line_ways-append a b)
    ∙ ap (λ n. weight p * (line_ways a * line_ways b) + ways p * n) (line_weight-append a b)
    ∙ regrouped (weight p) (ways p) (line_ways a) (line_weight a) (line_ways b) (line_weight b)

pub line_ways-items : (ps : Typeds) → line_ways (items_of ps) ≡ ways_all ps
line_ways-items none = refl
line_ways-items (also p ps) = ap (λ n. ways p * n) (line_ways-items ps)

pub line_weight-items : (ps : Typeds) → line_weight (items_of ps) ≡ weight_all ps
line_weight-items none = refl
line_weight-items (also p ps) = ap (λ n. weight p * n + ways p * line_weight (items_of ps)) (line_ways-items ps) ∙ ap (λ n. weight p * ways_all ps + ways p * n) (line_weight-items ps)

pub line_weight-any : (rest : Line) → line_weight (any ∷ rest) ≡ line_weight rest
line_weight-any rest = omega arith

pub line_weight-opened : (n : ℕ) (rest : Line) → line_weight (opened n ++ rest) ≡ line_weight rest
line_weight-opened zero rest = refl
line_weight-opened (suc n) rest = line_weight-any (opened n ++ rest) ∙ line_weight-opened n rest

pub length-opened : (n : ℕ) → length (opened n) ≡ n
length-opened zero = refl
length-opened (suc n) = ap suc (length-opened n)

pub line_weight-parts : (ps : Typeds) (rest : Line) → line_weight (items_of ps ++ rest) ≡ weight_all ps * line_ways rest + ways_all ps * line_weight rest
line_weight-parts ps rest =
    line_weight-append (items_of ps) rest ∙ ap (λ n. n * line_ways rest + line_ways (items_of ps) * line_weight rest) (line_weight-items ps)
    ∙ ap (λ n. weight_all ps * line_ways rest + n * line_weight rest) (line_ways-items ps)

pub lines_weight-append : (a b : List Line) → lines_weight (a ++ b) ≡ lines_weight a + lines_weight b
lines_weight-append [] b = omega arith
lines_weight-append (l ∷ a) b = let e = lines_weight-append a b in omega arith

-- a product is at least its middle factor where the others are positive
middle : (a t w : ℕ) → 1 ≤ a → 1 ≤ w → t ≤ a * t * w
middle a t w pa pw =
    let e : 1 * t ≤ a * t = mul-le-mul pa (omega arith) in
    let f : a * t * 1 ≤ a * t * w = mul-le-mul {n₁ = a * t} (omega arith) pw in
    omega arith

-- a constructor weighs more than what is left of its parts, by as much as the type's constructors have parts
pub con-weighs : (all : List Member) (n : Name) (ps : Typeds) (rest : Line) →
    line_weight (items_of ps ++ rest) + (1 + total_parts all + number_of ps) ≤ line_weight (con all n ps ∷ rest)
con-weighs all n ps rest =
    let t = 1 + total_parts all + number_of ps in
    let parts = line_weight-parts ps rest in
    let more = add-mul (weight_all ps) (ways_all ps * t) (line_ways rest) in
    let least = middle (ways_all ps) t (line_ways rest) (ways_all-positive ps) (line_ways-positive rest) in
    omega arith

abbrev pub loss_in : Option (List Member) → ℕ
loss_in None = 0
loss_in (Some all) = 1 + total_parts all

abbrev pub loss : List Member → ℕ
loss [] = 0
loss (k ∷ ks) = 1 + total_parts (k ∷ ks)

loss_in-or : (a b : Option (List Member)) → loss_in (option_or a b) ≤ loss_in a + loss_in b
loss_in-or None b = omega arith
loss_in-or (Some all) b = omega arith

loss-or : (o : Option (List Member)) (all : List Member) → loss (unwrap_or o all) ≤ loss_in o + loss all
loss-or None all = omega arith
loss-or (Some []) all = omega arith
loss-or (Some (k ∷ ks)) all = omega arith

-- the alternatives weigh no more than all of them together
some-weigh : (ps : Typeds) (p : Typed) (rest : Line) (a b : ℕ) → a ≤ line_weight (p ∷ rest) → b ≤ weight_some ps * line_ways rest + ways_some ps * line_weight rest →
    a + b ≤ (weight p + weight_some ps) * line_ways rest + (ways p + ways_some ps) * line_weight rest
some-weigh ps p rest a b la lb =
    let e = add-mul (weight p) (weight_some ps) (line_ways rest) in
    let f = add-mul (ways p) (ways_some ps) (line_weight rest) in
    omega arith

either-weighs : (ps : Typeds) (rest : Line) → weight_some ps * line_ways rest + ways_some ps * line_weight rest + 1 ≤ line_weight (either ps ∷ rest)
either-weighs ps rest =
    let e = add-mul 1 (weight_some ps) (line_ways rest) in
    let f = add-mul 1 (ways_some ps) (line_weight rest) in
    let g = line_ways-positive rest in
    let h : (suc (weight_some ps)) * line_ways rest ≡ line_ways rest + weight_some ps * line_ways rest = grind arith in
    let k : (suc (ways_some ps)) * line_weight rest ≡ line_weight rest + ways_some ps * line_weight rest = grind arith in
    omega arith

mutual
  -- what is left under a head weighs less, by the parts of all constructors of the first column's type
  pub under-loses : (h : Head) (p : Typed) (rest : Line) → lines_weight (under h p rest) + loss_in (family_in p) ≤ line_weight (p ∷ rest)
  under-loses h any rest =
      let e = line_weight-opened (width_of h) rest in
      omega arith
  under-loses h (con all n ps) rest =
      let w = con-weighs all n ps rest in
      elim (is_built h n) as (λ v. lines_weight (cond v ((items_of ps ++ rest) ∷ []) []) + (1 + total_parts all) ≤ line_weight (con all n ps ∷ rest)) [ true ↦ omega arith | false ↦ omega arith ]
  under-loses h (lit n) rest =
      elim (is_literal h n) as (λ v. lines_weight (cond v (rest ∷ []) []) + 0 ≤ line_weight (lit n ∷ rest)) [ true ↦ omega arith | false ↦ omega arith ]
  under-loses h (either ps) rest =
      let e = under_each-loses h ps rest in
      let f = either-weighs ps rest in
      omega arith

  pub under_each-loses : (h : Head) (ps : Typeds) (rest : Line) →
      lines_weight (under_each h ps rest) + loss_in (family_in_some ps) ≤ weight_some ps * line_ways rest + ways_some ps * line_weight rest
  under_each-loses h none rest = omega arith
  under_each-loses h (also p ps) rest =
      let e = under-loses h p rest in
      let f = under_each-loses h ps rest in
      let g = lines_weight-append (under h p rest) (under_each h ps rest) in
      let o = loss_in-or (family_in p) (family_in_some ps) in
      let s = some-weigh ps p rest (lines_weight (under h p rest) + loss_in (family_in p)) (lines_weight (under_each h ps rest) + loss_in (family_in_some ps)) e f in
      omega arith

pub line_under-loses : (h : Head) (l : Line) → lines_weight (line_under h l) + loss_in (family_of_line l) ≤ line_weight l
line_under-loses h [] = omega arith
line_under-loses h (p ∷ rest) = under-loses h p rest

pub lines_under-lose : (h : Head) (ls : List Line) → lines_weight (lines_under h ls) + loss (family ls) ≤ lines_weight ls
lines_under-lose h [] = omega arith
lines_under-lose h (l ∷ ls) =
    let e = line_under-loses h l in
    let f = lines_under-lose h ls in
    let g = lines_weight-append (line_under h l) (lines_under h ls) in
    let o = loss-or (family_of_line l) (family ls) in
    omega arith

mutual
  pub without_head-weighs : (p : Typed) (rest : Line) → lines_weight (without_head p rest) ≤ line_weight (p ∷ rest)
  without_head-weighs any rest = omega arith
  without_head-weighs (con all n ps) rest = omega arith
  without_head-weighs (lit n) rest = omega arith
  without_head-weighs (either ps) rest =
      let e = each_without_head-weighs ps rest in
      let f = either-weighs ps rest in
      omega arith

  pub each_without_head-weighs : (ps : Typeds) (rest : Line) → lines_weight (each_without_head ps rest) ≤ weight_some ps * line_ways rest + ways_some ps * line_weight rest
  each_without_head-weighs none rest = omega arith
  each_without_head-weighs (also p ps) rest =
      let e = without_head-weighs p rest in
      let f = each_without_head-weighs ps rest in
      let g = lines_weight-append (without_head p rest) (each_without_head ps rest) in
      let s = some-weigh ps p rest (lines_weight (without_head p rest)) (lines_weight (each_without_head ps rest)) e f in
      omega arith

pub line_without_head-weighs : (l : Line) → lines_weight (line_without_head l) ≤ line_weight l
line_without_head-weighs [] = omega arith
line_without_head-weighs (p ∷ rest) = without_head-weighs p rest

pub headless-weigh : (ls : List Line) → lines_weight (headless ls) ≤ lines_weight ls
headless-weigh [] = omega arith
headless-weigh (l ∷ ls) =
    let e = line_without_head-weighs l in
    let f = headless-weigh ls in
    let g = lines_weight-append (line_without_head l) (headless ls) in
    omega arith

pub lines_under-weigh : (h : Head) (ls : List Line) → lines_weight (lines_under h ls) ≤ lines_weight ls
lines_under-weigh h ls = let e = lines_under-lose h ls in omega arith

-- one of the alternatives weighs no more than all of them
some-at : (ps : Typeds) (p : Typed) (rest : Line) → line_weight (p ∷ rest) ≤ (weight p + weight_some ps) * line_ways rest + (ways p + ways_some ps) * line_weight rest
some-at ps p rest =
    let e = add-mul (weight p) (weight_some ps) (line_ways rest) in
    let f = add-mul (ways p) (ways_some ps) (line_weight rest) in
    omega arith

some-behind : (ps : Typeds) (p : Typed) (rest : Line) (n : ℕ) → n ≤ weight_some ps * line_ways rest + ways_some ps * line_weight rest →
    n ≤ (weight p + weight_some ps) * line_ways rest + (ways p + ways_some ps) * line_weight rest
some-behind ps p rest n h =
    let e = add-mul (weight p) (weight_some ps) (line_ways rest) in
    let f = add-mul (ways p) (ways_some ps) (line_weight rest) in
    omega arith

alternative-weighs : {A : Type 0} (view : A → Typed) (xs : List A) (i : ℕ) (x : A) (rest : Line) → i < length xs → x ≡ get_or xs i x →
    line_weight (view x ∷ rest) ≤ weight_some (listed (map view xs)) * line_ways rest + ways_some (listed (map view xs)) * line_weight rest
alternative-weighs view [] i x rest h e = absurd (omega arith)
alternative-weighs view (y ∷ xs) zero x rest h e =
    subst (λ z. line_weight (view z ∷ rest) ≤ weight_some (listed (map view (y ∷ xs))) * line_ways rest + ways_some (listed (map view (y ∷ xs))) * line_weight rest)
    (sym e) (some-at (listed (map view xs)) (view y) rest)
alternative-weighs view (y ∷ xs) (suc i) x rest h e =
    some-behind (listed (map view xs)) (view y) rest (line_weight (view x ∷ rest)) (alternative-weighs view xs i x rest (omega arith) e)

-- the search of one alternative has less before it
pub alternative-falls : {A : Type 0} (view : A → Typed) (xs : List A) (i : ℕ) (x : A) (ls : List Line) (rest : Line) → i < length xs → x ≡ get_or xs i x →
    work ls (view x ∷ rest) + 1 ≤ work ls (either (listed (map view xs)) ∷ rest)
alternative-falls view xs i x ls rest h e =
    let a = alternative-weighs view xs i x rest h e in
    let b = either-weighs (listed (map view xs)) rest in
    omega arith

-- and so has the search below a constructor
pub con-falls : (h : Head) (all : List Member) (n : Name) (xs : List Typed) (rest : Line) (ls : List Line) (first : Typed) (row : Line) →
    first ≡ con all n (listed xs) → row ≡ xs ++ rest → work (lines_under h ls) row + 1 ≤ work ls (first ∷ rest)
con-falls h all n xs rest ls first row is cells =
    let ps = items_of-listed xs in
    let a : line_weight (xs ++ rest) + (1 + total_parts all + number_of (listed xs)) ≤ line_weight (con all n (listed xs) ∷ rest) =
    subst (λ qs. line_weight (qs ++ rest) + (1 + total_parts all + number_of (listed xs)) ≤ line_weight (con all n (listed xs) ∷ rest)) ps (con-weighs all n (listed xs) rest) in
    let b = lines_under-weigh h ls in
    let c : length xs ≡ number_of (listed xs) = ap length (sym ps) ∙ number_of-items (listed xs) in
    let d = length-append xs rest in
    let e : line_weight row ≡ line_weight (xs ++ rest) = ap line_weight cells in
    let f : length row ≡ length (xs ++ rest) = ap length cells in
    let g : line_weight (first ∷ rest) ≡ line_weight (con all n (listed xs) ∷ rest) = ap (λ p. line_weight (p ∷ rest)) is in
    omega arith

pub literal-falls : (h : Head) (rest : Line) (ls : List Line) (first : Typed) (row : Line) → row ≡ rest → work (lines_under h ls) row + 1 ≤ work ls (first ∷ rest)
literal-falls h rest ls first row cells =
    let b = lines_under-weigh h ls in
    let e : line_weight row ≡ line_weight rest = ap line_weight cells in
    let f : length row ≡ length rest = ap length cells in
    let w = mul-le-mul (ways-positive first) (le-self (line_weight rest)) in
    omega arith

pub default-falls : (rest : Line) (ls fewer : List Line) (row : Line) → lines_weight fewer ≤ lines_weight (headless ls) → row ≡ rest → work fewer row + 1 ≤ work ls (any ∷ rest)
default-falls rest ls fewer row light cells =
    let b = headless-weigh ls in
    let e : line_weight row ≡ line_weight rest = ap line_weight cells in
    let f : length row ≡ length rest = ap length cells in
    omega arith

parts-at : (ks : List Member) (i : ℕ) (k : Member) → i < length ks → k ≡ get_or ks i k → k.parts ≤ total_parts ks
parts-at [] i k h e = absurd (omega arith)
parts-at (l ∷ ks) zero k h e = let f : k.parts ≡ l.parts = ap (λ m. m.parts) e in omega arith
parts-at (l ∷ ks) (suc i) k h e = let f = parts-at ks i k (omega arith) e in omega arith

loss-covers : (ks : List Member) (i : ℕ) (k : Member) → i < length ks → k ≡ get_or ks i k → 1 + k.parts ≤ loss ks
loss-covers [] i k h e = absurd (omega arith)
loss-covers (l ∷ ks) i k h e = let f = parts-at (l ∷ ks) i k h e in omega arith

get-mapped : {A B : Type 0} (f : A → B) (xs : List A) (i : ℕ) (x : A) → i < length xs → x ≡ get_or xs i x → f x ≡ get_or (map f xs) i (f x)
get-mapped f [] i x h e = absurd (omega arith)
get-mapped f (y ∷ xs) zero x h e = ap f e
get-mapped f (y ∷ xs) (suc i) x h e = get-mapped f xs i x (omega arith) e

pub member-falls : {A : Type 0} (view : A → Member) (h : Head) (xs : List A) (i : ℕ) (x : A) (rest : Line) (ls : List Line) (row : Line) → i < length xs → x ≡ get_or xs i x →
    map view xs ≡ family ls → row ≡ opened (view x).parts ++ rest → work (lines_under h ls) row + 1 ≤ work ls (any ∷ rest)
member-falls view h xs i x rest ls row lt e all cells =
    let n : i < length (map view xs) = omega (arith, length-map xs view) in
    let a : 1 + (view x).parts ≤ loss (map view xs) = loss-covers (map view xs) i (view x) n (get-mapped view xs i x lt e) in
    let b : loss (map view xs) ≡ loss (family ls) = ap loss all in
    let c = lines_under-lose h ls in
    let d : line_weight row ≡ line_weight rest = ap line_weight cells ∙ line_weight-opened (view x).parts rest in
    let f : length row ≡ (view x).parts + length rest = ap length cells ∙ length-append (opened (view x).parts) rest ∙ ap (λ k. k + length rest) (length-opened (view x).parts) in
    omega arith
