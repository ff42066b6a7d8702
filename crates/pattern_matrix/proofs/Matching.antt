-- Lines and the values that they match.
use Rattle.std.proofs.Common.{◌≡◌, ℕ, zero, suc, ◌≤◌, Bool, true, false, ◌&&◌, ◌||◌, List, [], ◌∷◌, ◌++◌, length, ◌⊎◌, inl, inr, refl, sym, ap, ◌∙◌, arith, cond}
use Rattle.std.proofs.lemmas.Slice.Eq.{bytes_eq-Decides}
use Rattle.type_model.specs.Types.{Typ}
use Rattle.signature_model.specs.Declarations.{Name}
use Rattle.signature_model.specs.Components.{same_name}
use Rattle.match_model.specs.Values.{Value, Values, built, literal, no_values, also_value, matches, match_all, matches_some}
use Rattle.match_model.specs.Forms.{Built, World, form_of, constructors_of, IsOne, IsOf, AreOf}
use Rattle.match_model.specs.Rows.{depth_of}
use Rattle.pattern_matrix.specs.Lines.{Typed, Typeds, any, con, lit, either, none, also, items_of, Line, opened, built_head, literal_head, under, under_each, lines_under, without_head, each_without_head, headless}
use Rattle.pattern_matrix.specs.Typing.{plain, plains, IsTyped, AreTyped, AreAllTyped, IsSound}

-- tests
pub and-left : (a b : Bool) → (a && b) ≡ true → a ≡ true
and-left true b h = refl
and-left false b h = cc

pub and-right : (a b : Bool) → (a && b) ≡ true → b ≡ true
and-right true b h = h
and-right false b h = cc

pub and-both : (a b : Bool) → a ≡ true → b ≡ true → (a && b) ≡ true
and-both true b p q = q
and-both false b p q = cc

pub or-first : (a b : Bool) → a ≡ true → (a || b) ≡ true
or-first true b p = refl
or-first false b p = cc

pub or-second : (a b : Bool) → b ≡ true → (a || b) ≡ true
or-second true b p = refl
or-second false b p = p

pub or-cases : (a b : Bool) → (a || b) ≡ true → (a ≡ true) ⊎ (b ≡ true)
or-cases true b p = inl refl
or-cases false b p = inr p

pub or_assoc : (a b c : Bool) → (a || (b || c)) ≡ ((a || b) || c)
or_assoc true b c = refl
or_assoc false b c = refl

pub and_assoc : (a b c : Bool) → (a && (b && c)) ≡ ((a && b) && c)
and_assoc true b c = refl
and_assoc false b c = refl

pub or-and : (a b c : Bool) → ((a && c) || (b && c)) ≡ ((a || b) && c)
or-and true b true = refl
or-and true true false = refl
or-and true false false = refl
or-and false b c = refl

pub or-none : (a : Bool) → (a || false) ≡ a
or-none true = refl
or-none false = refl

pub both-ways : (a b : Bool) → (a ≡ true → b ≡ true) → (b ≡ true → a ≡ true) → a ≡ b
both-ways true b f g = sym (f refl)
both-ways false true f g = g refl
both-ways false false f g = refl

-- names
pub name-is : (a b : Name) → same_name a b ≡ true → a ≡ b
name-is a b h = (bytes_eq-Decides a b).0 h

pub name-same : (a b : Name) → a ≡ b → same_name a b ≡ true
name-same a b h = (bytes_eq-Decides a b).1 h

pub name-turned : (a b : Name) → same_name a b ≡ same_name b a
name-turned a b = both-ways (same_name a b) (same_name b a) (λ h. name-same b a (sym (name-is a b h))) (λ h. name-same a b (sym (name-is b a h)))

-- a column: how deep its values go, and their type
pub record Column : Type 0 where
  pub depth : ℕ
  pub body : Typ

abbrev pub column_at : ℕ → Typ → Column
column_at d t = record { depth = d; body = t }

abbrev pub columns_at : ℕ → List Typ → List Column
columns_at d [] = []
columns_at d (t ∷ ts) = column_at d t ∷ columns_at d ts

abbrev pub match_line : Line → List Value → Bool
match_line [] [] = true
match_line [] (v ∷ vs) = false
match_line (p ∷ l) [] = false
match_line (p ∷ l) (v ∷ vs) = matches (plain p) v && match_line l vs

abbrev pub match_some : List Line → List Value → Bool
match_some [] vs = false
match_some (l ∷ ls) vs = match_line l vs || match_some ls vs

abbrev pub LineFits : World → List Column → Line → Type 0
LineFits w [] [] = Unit {0}
LineFits w [] (p ∷ l) = ⊥
LineFits w (c ∷ cs) [] = ⊥
LineFits w (c ∷ cs) (p ∷ l) = IsTyped w c.body p × (depth_of (plain p) ≤ c.depth) × LineFits w cs l

abbrev pub LinesFit : World → List Column → List Line → Type 0
LinesFit w cs [] = Unit {0}
LinesFit w cs (l ∷ ls) = LineFits w cs l × LinesFit w cs ls

abbrev pub AreIn : World → List Column → List Value → Type 0
AreIn w [] [] = Unit {0}
AreIn w [] (v ∷ vs) = ⊥
AreIn w (c ∷ cs) [] = ⊥
AreIn w (c ∷ cs) (v ∷ vs) = IsOf w c.depth c.body v × AreIn w cs vs

abbrev pub values_list : Values → List Value
values_list no_values = []
values_list (also_value v vs) = v ∷ values_list vs

pub match_some-append : (a b : List Line) (vs : List Value) → match_some (a ++ b) vs ≡ (match_some a vs || match_some b vs)
match_some-append [] b vs = refl
match_some-append (l ∷ a) b vs = ap (λ x. match_line l vs || x) (match_some-append a b vs) ∙ or_assoc (match_line l vs) (match_some a vs) (match_some b vs)

pub match_line-append : (a b : Line) (xs ys : List Value) → length a ≡ length xs → match_line (a ++ b) (xs ++ ys) ≡ (match_line a xs && match_line b ys)
match_line-append [] b [] ys e = refl
match_line-append [] b (x ∷ xs) ys e = absurd (omega arith)
match_line-append (p ∷ a) b [] ys e = absurd (omega arith)
match_line-append (p ∷ a) b (x ∷ xs) ys e =
    ap (λ m. matches (plain p) x && m) (match_line-append a b xs ys (omega arith)) ∙ and_assoc (matches (plain p) x) (match_line a xs) (match_line b ys)

pub items-match : (ps : Typeds) (us : Values) → match_line (items_of ps) (values_list us) ≡ match_all (plains ps) us
items-match none no_values = refl
items-match none (also_value u us) = refl
items-match (also p ps) no_values = refl
items-match (also p ps) (also_value u us) = ap (λ m. matches (plain p) u && m) (items-match ps us)

pub opened-match : (n : ℕ) (rest : Line) (xs vs : List Value) → length xs ≡ n → match_line (opened n ++ rest) (xs ++ vs) ≡ match_line rest vs
opened-match zero rest [] vs e = refl
opened-match zero rest (x ∷ xs) vs e = absurd (omega arith)
opened-match (suc n) rest [] vs e = absurd (omega arith)
opened-match (suc n) rest (x ∷ xs) vs e = opened-match n rest xs vs (omega arith)

-- how many parts there are
pub typed-length : (w : World) (ts : List Typ) (ps : Typeds) → AreTyped w ts ps → length (items_of ps) ≡ length ts
typed-length w [] none h = refl
typed-length w [] (also p ps) h = absurd h
typed-length w (t ∷ ts) none h = absurd h
typed-length w (t ∷ ts) (also p ps) h = ap suc (typed-length w ts ps h.1)

pub values-length : {w : World} {d : ℕ} {ts : List Typ} {us : Values} → AreOf w d ts us → length (values_list us) ≡ length ts
values-length AreOf.none = refl
values-length (AreOf.and_one v vs) = ap suc (values-length vs)

-- a test that decides between the lines of a head and none
if-lines : (a b : Bool) (l : Line) (vs : List Value) (m : Bool) → a ≡ b → (b ≡ true → match_line l vs ≡ m) → match_some (cond a (l ∷ []) []) vs ≡ (b && m)
if-lines true b l vs m e f = or-none (match_line l vs) ∙ f (sym e) ∙ ap (λ c. c && m) e
if-lines false b l vs m e f = ap (λ c. c && m) e

-- of one head, what is left of a pattern matches the parts where the pattern matches the value
mutual
  pub under-matches : (w : World) → IsSound w → (t : Typ) (p : Typed) → IsTyped w t p → (k : Built) → IsOne k (constructors_of (form_of w t)) → (us : Values) →
      length (values_list us) ≡ length k.parts → (rest : Line) (vs : List Value) →
      match_some (under (built_head k.name (length k.parts)) p rest) (values_list us ++ vs) ≡ (matches (plain p) (built k.name us) && match_line rest vs)
  under-matches w s t any h k one us e rest vs = or-none (match_line (opened (length k.parts) ++ rest) (values_list us ++ vs)) ∙ opened-match (length k.parts) rest (values_list us) vs e
  under-matches w s t (con all n ps) h k one us e rest vs =
      let m = match_all (plains ps) us in
      if-lines (same_name k.name n) (same_name n k.name) (items_of ps ++ rest) (values_list us ++ vs) (m && match_line rest vs) (name-turned k.name n) (λ same.
      let own : h.0 ≡ k = s.apart t h.0 k h.1 one (sym h.2 ∙ name-is n k.name same) in
      let long : length (items_of ps) ≡ length (values_list us) = typed-length w h.0.parts ps h.4 ∙ ap (λ b. length b.parts) own ∙ sym e in
      match_line-append (items_of ps) rest (values_list us) vs long ∙ ap (λ b. b && match_line rest vs) (items-match ps us))
      ∙ and_assoc (same_name n k.name) m (match_line rest vs)
  under-matches w s t (lit n) h k one us e rest vs = refl
  under-matches w s t (either ps) h k one us e rest vs = under_each-matches w s t ps h k one us e rest vs

  under_each-matches : (w : World) → IsSound w → (t : Typ) (ps : Typeds) → AreAllTyped w t ps → (k : Built) → IsOne k (constructors_of (form_of w t)) → (us : Values) →
      length (values_list us) ≡ length k.parts → (rest : Line) (vs : List Value) →
      match_some (under_each (built_head k.name (length k.parts)) ps rest) (values_list us ++ vs) ≡ (matches_some (plains ps) (built k.name us) && match_line rest vs)
  under_each-matches w s t none h k one us e rest vs = refl
  under_each-matches w s t (also p ps) h k one us e rest vs =
      let head = built_head k.name (length k.parts) in
      let v = built k.name us in
      match_some-append (under head p rest) (under_each head ps rest) (values_list us ++ vs)
      ∙ ap (λ b. b || match_some (under_each head ps rest) (values_list us ++ vs)) (under-matches w s t p h.0 k one us e rest vs)
      ∙ ap (λ b. (matches (plain p) v && match_line rest vs) || b) (under_each-matches w s t ps h.1 k one us e rest vs)
      ∙ or-and (matches (plain p) v) (matches_some (plains ps) v) (match_line rest vs)

pub lines_under-match : (w : World) → IsSound w → (c : Column) (cs : List Column) (ls : List Line) → LinesFit w (c ∷ cs) ls → (k : Built) → IsOne k (constructors_of (form_of w c.body)) →
    (us : Values) → length (values_list us) ≡ length k.parts → (vs : List Value) →
    match_some (lines_under (built_head k.name (length k.parts)) ls) (values_list us ++ vs) ≡ match_some ls (built k.name us ∷ vs)
lines_under-match w s c cs [] h k one us e vs = refl
lines_under-match w s c cs ([] ∷ ls) h k one us e vs = absurd h.0
lines_under-match w s c cs ((p ∷ rest) ∷ ls) h k one us e vs =
    let head = built_head k.name (length k.parts) in
    match_some-append (under head p rest) (lines_under head ls) (values_list us ++ vs)
    ∙ ap (λ b. b || match_some (lines_under head ls) (values_list us ++ vs)) (under-matches w s c.body p h.0.0 k one us e rest vs)
    ∙ ap (λ b. (matches (plain p) (built k.name us) && match_line rest vs) || b) (lines_under-match w s c cs ls h.1 k one us e vs)

-- the same of a literal
mutual
  pub under-matches-literal : (p : Typed) (n : Name) (rest : Line) (vs : List Value) →
      match_some (under (literal_head n) p rest) vs ≡ (matches (plain p) (literal n) && match_line rest vs)
  under-matches-literal any n rest vs = or-none (match_line rest vs)
  under-matches-literal (con all m ps) n rest vs = refl
  under-matches-literal (lit m) n rest vs = if-lines (same_name n m) (same_name m n) rest vs (match_line rest vs) (name-turned n m) (λ same. refl)
  under-matches-literal (either ps) n rest vs = under_each-matches-literal ps n rest vs

  under_each-matches-literal : (ps : Typeds) (n : Name) (rest : Line) (vs : List Value) →
      match_some (under_each (literal_head n) ps rest) vs ≡ (matches_some (plains ps) (literal n) && match_line rest vs)
  under_each-matches-literal none n rest vs = refl
  under_each-matches-literal (also p ps) n rest vs =
      let head = literal_head n in
      match_some-append (under head p rest) (under_each head ps rest) vs
      ∙ ap (λ b. b || match_some (under_each head ps rest) vs) (under-matches-literal p n rest vs)
      ∙ ap (λ b. (matches (plain p) (literal n) && match_line rest vs) || b) (under_each-matches-literal ps n rest vs)
      ∙ or-and (matches (plain p) (literal n)) (matches_some (plains ps) (literal n)) (match_line rest vs)

pub lines_under-match-literal : (w : World) (c : Column) (cs : List Column) (ls : List Line) → LinesFit w (c ∷ cs) ls → (n : Name) (vs : List Value) →
    match_some (lines_under (literal_head n) ls) vs ≡ match_some ls (literal n ∷ vs)
lines_under-match-literal w c cs [] h n vs = refl
lines_under-match-literal w c cs ([] ∷ ls) h n vs = absurd h.0
lines_under-match-literal w c cs ((p ∷ rest) ∷ ls) h n vs =
    let head = literal_head n in
    match_some-append (under head p rest) (lines_under head ls) vs
    ∙ ap (λ b. b || match_some (lines_under head ls) vs) (under-matches-literal p n rest vs)
    ∙ ap (λ b. (matches (plain p) (literal n) && match_line rest vs) || b) (lines_under-match-literal w c cs ls h.1 n vs)

-- what has no head matches any value
mutual
  pub without_head-matches : (p : Typed) (rest : Line) (v : Value) (vs : List Value) → match_some (without_head p rest) vs ≡ true → (matches (plain p) v && match_line rest vs) ≡ true
  without_head-matches any rest v vs h = sym (or-none (match_line rest vs)) ∙ h
  without_head-matches (con all n ps) rest v vs h = cc
  without_head-matches (lit n) rest v vs h = cc
  without_head-matches (either ps) rest v vs h = each_without_head-matches ps rest v vs h

  each_without_head-matches : (ps : Typeds) (rest : Line) (v : Value) (vs : List Value) → match_some (each_without_head ps rest) vs ≡ true →
      (matches_some (plains ps) v && match_line rest vs) ≡ true
  each_without_head-matches none rest v vs h = h
  each_without_head-matches (also p ps) rest v vs h =
      let a = matches (plain p) v in
      let b = matches_some (plains ps) v in
      let m = match_line rest vs in
      sym (or-and a b m) ∙ elim (or-cases (match_some (without_head p rest) vs) (match_some (each_without_head ps rest) vs)
      (sym (match_some-append (without_head p rest) (each_without_head ps rest) vs) ∙ h)) [
        | inl x ↦ or-first (a && m) (b && m) (without_head-matches p rest v vs x)
        | inr y ↦ or-second (a && m) (b && m) (each_without_head-matches ps rest v vs y)
      ]

pub headless-match : (ls : List Line) (v : Value) (vs : List Value) → match_some (headless ls) vs ≡ true → match_some ls (v ∷ vs) ≡ true
headless-match [] v vs h = h
headless-match ([] ∷ ls) v vs h = headless-match ls v vs h
headless-match ((p ∷ rest) ∷ ls) v vs h =
    let m = matches (plain p) v && match_line rest vs in
    elim (or-cases (match_some (without_head p rest) vs) (match_some (headless ls) vs) (sym (match_some-append (without_head p rest) (headless ls) vs) ∙ h)) [
      | inl x ↦ or-first m (match_some ls (v ∷ vs)) (without_head-matches p rest v vs x)
      | inr y ↦ or-second m (match_some ls (v ∷ vs)) (headless-match ls v vs y)
    ]
