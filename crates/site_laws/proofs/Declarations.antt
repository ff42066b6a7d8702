-- Declarations of types make each demand once.
use Rattle.std.proofs.Common.{◌≡◌, inl, inr, ◌⊎◌, ℕ, ◌+◌, ◌≤◌, Bool, true, false, List, [], ◌∷◌, ◌++◌, length, not, Option, Some, None, option_map, refl, subst, arith}
use Rattle.token_model.specs.Kinds.{Tok}
use Rattle.signature_model.specs.Declarations.{Name, Shape}
use Rattle.typing_model.specs.Demands.{Site, test, twice, cyclic, differs, agrees}
use Rattle.typing_model.specs.Contexts.{Context, parameters, under, type_at, ask}
use Rattle.typing_model.specs.Parts.{TypeExpression, ConstructorPart, LabelPart, Told, constructors, labels, RightSide, another, own, DeclarationPart, place_of}
use Rattle.typing_model.specs.Patterns.{ask_all}
use Rattle.typing_model.specs.Records.{is_among}
use Rattle.typing_model.specs.Declarations.{shape_of, token_name, contains_itself, abbreviation_in, names_itself, names_of_types, names_of_tokens, new_tokens, names_asked, read_optional, constructors_read, labels_read, constructors_new, labels_new, shape_asks, told_of, reexport_asked, right_asks, declaration_asks, declarations_ask, cycles_asked, group_asks}
use Rattle.typing_laws.proofs.Steady.{IfThere, absent, there}
use Rattle.site_laws.proofs.Sites.{Within, Apart, Either, Lies, widen, join, then_within, both_in, apart_both, At, Span, From, Range, Others, span_in, own_apart, apart_turned, asked, told, quiet, none_within, IfHere, gone, here}
use Rattle.site_laws.proofs.Types.{ApartType}
use Rattle.site_laws.proofs.Patterns.{all_asked}

-- parts that stand in order, each in a range of its own
pub data Ranged {X : Type 0} (Q : ℕ → ℕ → X → Type 1) : ℕ → ℕ → List X → Type 1 where
  no_part : {lo hi : ℕ} → lo ≤ hi → Ranged Q lo hi []
  and_part : {lo at mid hi : ℕ} {x : X} {xs : List X} → lo ≤ at → at ≤ mid → Q at mid x → Ranged Q mid hi xs → Ranged Q lo hi (x ∷ xs)

ranged_le : {X : Type 0} {Q : ℕ → ℕ → X → Type 1} {lo hi : ℕ} {xs : List X} → Ranged Q lo hi xs → lo ≤ hi
ranged_le (no_part le) = le
ranged_le (and_part a b q rest) = let h = ranged_le rest in omega (arith, a, b, h)

pub ranged_lower : {X : Type 0} {Q : ℕ → ℕ → X → Type 1} {lo k hi : ℕ} {xs : List X} → lo ≤ k → Ranged Q k hi xs → Ranged Q lo hi xs
ranged_lower le (no_part h) = no_part (omega (arith, le, h))
ranged_lower le (and_part a b q rest) = and_part (omega (arith, le, a)) b q rest

-- the demands of one kind of all these parts
abbrev pub Among : {X : Type 0} {Q : ℕ → ℕ → X → Type 1} (F : (at mid : ℕ) (x : X) → Q at mid x → Site → Type 0) {lo hi : ℕ} {xs : List X} → Ranged Q lo hi xs → Site → Type 0
Among F (no_part le) s = ⊥
Among F (and_part {at = at} {mid = mid} {x = x} a b q rest) s = F at mid x q s ⊎ Among F rest s

-- where those of each part lie in its range, all lie in the range of all
among_in : {X : Type 0} {Q : ℕ → ℕ → X → Type 1} (F : (at mid : ℕ) (x : X) → Q at mid x → Site → Type 0) → ((at mid : ℕ) (x : X) (q : Q at mid x) → Lies (F at mid x q) (Range at mid)) →
    {lo hi : ℕ} {xs : List X} (h : Ranged Q lo hi xs) (s : Site) → Among F h s → Range lo hi s
among_in F each (no_part le) s i = absurd (i)
among_in F each (and_part {at = at} {mid = mid} {x = x} a b q rest) s (inl i) = let (k, l) = each at mid x q s i in let m = ranged_le rest in (omega (arith, a, k), omega (arith, l, m))
among_in F each (and_part a b q rest) s (inr i) = let (k, l) = among_in F each rest s i in (omega (arith, a, b, k), l)

-- and where two kinds of one part are apart, they are so of all parts
among_apart : {X : Type 0} {Q : ℕ → ℕ → X → Type 1} (F G : (at mid : ℕ) (x : X) → Q at mid x → Site → Type 0) → ((at mid : ℕ) (x : X) (q : Q at mid x) → Lies (F at mid x q) (Range at mid)) → ((at mid : ℕ) (x : X) (q : Q at mid x) → Lies (G at mid x q) (Range at mid)) →
    ((at mid : ℕ) (x : X) (q : Q at mid x) → Apart (F at mid x q) (G at mid x q)) → {lo hi : ℕ} {xs : List X} (h : Ranged Q lo hi xs) (s : Site) → Among F h s → Among G h s → ⊥
among_apart F G f g apart (no_part le) s i j = i
among_apart F G f g apart (and_part {at = at} {mid = mid} {x = x} a b q rest) s (inl i) (inl j) = apart at mid x q s i j
among_apart F G f g apart (and_part {at = at} {mid = mid} {x = x} a b q rest) s (inl i) (inr j) = let (k, l) = f at mid x q s i in let (m, n) = among_in G g rest s j in omega (arith, l, m)
among_apart F G f g apart (and_part {at = at} {mid = mid} {x = x} a b q rest) s (inr i) (inl j) = let (k, l) = g at mid x q s j in let (m, n) = among_in F f rest s i in omega (arith, l, m)
among_apart F G f g apart (and_part a b q rest) s (inr i) (inr j) = among_apart F G f g apart rest s i j

-- the first part is apart from those behind it
first_apart : {X : Type 0} {Q : ℕ → ℕ → X → Type 1} (F : (at mid : ℕ) (x : X) → Q at mid x → Site → Type 0) → ((at mid : ℕ) (x : X) (q : Q at mid x) → Lies (F at mid x q) (Range at mid)) → {at mid hi : ℕ} {P : Site → Type 0} {xs : List X} (h : Ranged Q mid hi xs) → Lies P (Range at mid) → Apart P (Among F h)
first_apart F each h f s i j = let (k, l) = f s i in let (m, n) = among_in F each h s j in omega (arith, l, m)

-- a constructor, whose own node is the first of its range
pub record ConstructorIn (lo hi : ℕ) (k : ConstructorPart) : Type 1 where
  pub node : k.node ≡ lo
  pub fits : lo + 1 ≤ hi
  pub argument : IfThere (ApartType (Range (lo + 1) hi)) k.argument

-- a label
pub record LabelIn (lo hi : ℕ) (l : LabelPart) : Type 1 where
  pub node : l.node ≡ lo
  pub fits : lo + 1 ≤ hi
  pub body : ApartType (Range (lo + 1) hi) l.body

pub optional_apart : {P : Site → Type 0} (c : Context) {t : Option TypeExpression} → IfThere (ApartType P) t → Within P (read_optional c t)
optional_apart c absent = none_within
optional_apart c (there s) = s.reads c

-- what the types in a part ask, and that its name is new
abbrev in_type : {X : Type 0} (Q : ℕ → ℕ → X → Type 1) (at mid : ℕ) (x : X) → Q at mid x → Site → Type 0
in_type Q at mid x q = Range (at + 1) mid

abbrev of_name : {X : Type 0} (Q : ℕ → ℕ → X → Type 1) (at mid : ℕ) (x : X) → Q at mid x → Site → Type 0
of_name Q at mid x q = Span at 0 1

type_inside : {X : Type 0} (Q : ℕ → ℕ → X → Type 1) (at mid : ℕ) (x : X) (q : Q at mid x) → Lies (in_type Q at mid x q) (Range at mid)
type_inside Q at mid x q s (i, j) = (omega (arith, i), j)

name_of_apart : {X : Type 0} (Q : ℕ → ℕ → X → Type 1) (at mid : ℕ) (x : X) (q : Q at mid x) → Apart (in_type Q at mid x q) (of_name Q at mid x q)
name_of_apart Q at mid x q s (i, j) (e, k, l) = omega (arith, i, e)

-- that a name is new is asked at the part's own node
asked_at : {at n : ℕ} {p : _} {d : _} → n ≡ at → Within (Span at 0 1) (ask n 0 p d)
asked_at {at} {n} {p} {d} e = subst (λ m. Within (Span m 0 1) (ask n 0 p d)) e asked

name_inside : {at mid : ℕ} → at + 1 ≤ mid → Lies (Span at 0 1) (Range at mid)
name_inside le s (e, i, j) = (omega (arith, e), omega (arith, e, le))

constructor_name : (at mid : ℕ) (k : ConstructorPart) (q : ConstructorIn at mid k) → Lies (of_name ConstructorIn at mid k q) (Range at mid)
constructor_name at mid k q = name_inside q.fits

label_name : (at mid : ℕ) (l : LabelPart) (q : LabelIn at mid l) → Lies (of_name LabelIn at mid l q) (Range at mid)
label_name at mid l q = name_inside q.fits

constructors_within : (c : Context) {lo hi : ℕ} {ks : List ConstructorPart} (h : Ranged ConstructorIn lo hi ks) → Within (Among (in_type ConstructorIn) h) (constructors_read c ks)
constructors_within c (no_part le) = none_within
constructors_within c (and_part {at = at} {mid = mid} {x = k} a b q rest) =
    told (then_within (optional_apart c q.argument) (constructors_within c rest) (first_apart (in_type ConstructorIn) (type_inside ConstructorIn) rest (type_inside ConstructorIn at mid k q)) (λ s i. inl i) (λ s i. inr i))

labels_within : (c : Context) {lo hi : ℕ} {ls : List LabelPart} (h : Ranged LabelIn lo hi ls) → Within (Among (in_type LabelIn) h) (labels_read c ls)
labels_within c (no_part le) = none_within
labels_within c (and_part {at = at} {mid = mid} {x = l} a b q rest) =
    told (then_within (q.body.reads c) (labels_within c rest) (first_apart (in_type LabelIn) (type_inside LabelIn) rest (type_inside LabelIn at mid l q)) (λ s i. inl i) (λ s i. inr i))

constructor_names : (seen : List Name) {lo hi : ℕ} {ks : List ConstructorPart} (h : Ranged ConstructorIn lo hi ks) → Within (Among (of_name ConstructorIn) h) (constructors_new seen ks)
constructor_names seen (no_part le) = none_within
constructor_names seen (and_part {at = at} {mid = mid} {x = k} {xs = ks} a b q rest) = by k.name (λ seen. constructor_names seen rest)
  where
    by : (o : Option Tok) → ((seen : List Name) → Within (Among (of_name ConstructorIn) rest) (constructors_new seen ks)) → Within (Among (of_name ConstructorIn) (and_part a b q rest))
        (elim o [ None ↦ constructors_new seen ks | Some t ↦ ask k.node 0 (place_of t) (test (twice t.name) (not (is_among t.name seen))) ++ constructors_new (seen ++ t.name ∷ []) ks ])
    by None later = widen (λ s i. inr i) (later seen)
    by (Some t) later = then_within (asked_at q.node) (later (seen ++ t.name ∷ [])) (first_apart (of_name ConstructorIn) constructor_name rest (constructor_name at mid k q)) (λ s i. inl i) (λ s i. inr i)

label_names : (seen : List Name) {lo hi : ℕ} {ls : List LabelPart} (h : Ranged LabelIn lo hi ls) → Within (Among (of_name LabelIn) h) (labels_new seen ls)
label_names seen (no_part le) = none_within
label_names seen (and_part {at = at} {mid = mid} {x = l} {xs = ls} a b q rest) = by l.name (λ seen. label_names seen rest)
  where
    by : (o : Option Tok) → ((seen : List Name) → Within (Among (of_name LabelIn) rest) (labels_new seen ls)) → Within (Among (of_name LabelIn) (and_part a b q rest))
        (elim o [ None ↦ labels_new seen ls | Some t ↦ ask l.node 0 (place_of t) (test (twice t.name) (not (is_among t.name seen))) ++ labels_new (seen ++ t.name ∷ []) ls ])
    by None later = widen (λ s i. inr i) (later seen)
    by (Some t) later = then_within (asked_at q.node) (later (seen ++ t.name ∷ [])) (first_apart (of_name LabelIn) label_name rest (label_name at mid l q)) (λ s i. inl i) (λ s i. inr i)

-- what is told of the values of a type
pub record ApartTold (P : Site → Type 0) (t : Told) : Type 1 where
  pub asks : (c : Context) → Within P (shape_asks c (Some t))

pub told_in_set : {P R : Site → Type 0} {t : Told} → Lies P R → ApartTold P t → ApartTold R t
told_in_set f s = record { asks = λ c. widen f (s.asks c) }

pub constructors_apart : {lo hi : ℕ} {ks : List ConstructorPart} → Ranged ConstructorIn lo hi ks → ApartTold (Range lo hi) (constructors ks)
constructors_apart h = record {
  asks = λ c. then_within (constructors_within c h) (constructor_names [] h) (among_apart (in_type ConstructorIn) (of_name ConstructorIn) (type_inside ConstructorIn) constructor_name (name_of_apart ConstructorIn) h)
      (among_in (in_type ConstructorIn) (type_inside ConstructorIn) h) (among_in (of_name ConstructorIn) constructor_name h);
}

pub labels_apart : {lo hi : ℕ} {ls : List LabelPart} → Ranged LabelIn lo hi ls → ApartTold (Range lo hi) (labels ls)
labels_apart h = record {
  asks = λ c. then_within (labels_within c h) (label_names [] h) (among_apart (in_type LabelIn) (of_name LabelIn) (type_inside LabelIn) label_name (name_of_apart LabelIn) h)
      (among_in (in_type LabelIn) (type_inside LabelIn) h) (among_in (of_name LabelIn) label_name h);
}

-- A right side makes its demands in a set, each once: those of its types in one part of it, that it doesn't contain itself in another.
pub record ApartRight (P : Site → Type 0) (r : RightSide) : Type 1 where
  pub of_right : Site → Type 0
  pub of_cycle : Site → Type 0
  pub right : (c : Context) (all : List DeclarationPart) (x : Option Tok) (arity : ℕ) → Within of_right (right_asks c all x arity (Some r))
  pub cycle : IfThere (λ (a : ℕ × List Name). Lies (Span a.0 0 1) of_cycle) (abbreviation_in (Some r))
  pub apart : Apart of_right of_cycle
  pub right_in : Lies of_right P
  pub cycle_in : Lies of_cycle P

pub right_in_set : {P R : Site → Type 0} {r : RightSide} → Lies P R → ApartRight P r → ApartRight R r
right_in_set f s = record { of_right = s.of_right; of_cycle = s.of_cycle; right = s.right; cycle = s.cycle; apart = s.apart; right_in = λ x i. f x (s.right_in x i); cycle_in = λ x i. f x (s.cycle_in x i) }

-- a re-export asks one demand of its own
reexport_apart : (c : Context) (b : Bool) (n arity : ℕ) (t : TypeExpression) (x : Name) (shape : Shape) → Within (Span n 0 1) (reexport_asked c b n arity t x shape)
reexport_apart c true n arity t x shape = asked
reexport_apart c false n arity t x shape = by (told_of c.env (type_at c t.node))
  where
    by : (o : Option Shape) → Within (Span n 0 1) (elim o [ None ↦ ask n 0 t.at (test (differs x) true) | Some actual ↦ ask n 0 t.at (agrees (differs x) arity actual shape) ])
    by None = asked
    by (Some actual) = asked

pub another_apart : {A B P : Site → Type 0} (n : ℕ) (t : TypeExpression) (l : Option Tok) {k : Option Told} → ApartType A t → IfHere (ApartTold B) k → Apart A B → Lies A (Others n) → Lies B (Others n) → Lies A P → Lies B P → Lies (At n) P → ApartRight P (another n t l k)
another_apart {A} {B} n t l s gone ab ao bo ai bi self = record {
  of_right = A;
  of_cycle = Span n 0 1;
  right = λ c all x arity. told (quiet [] refl (quiet [] refl (s.reads c)));
  cycle = there (λ x i. i);
  apart = apart_turned (own_apart span_in ao);
  right_in = ai;
  cycle_in = λ x i. self x i.0;
}
another_apart {A} {B} n t l s (here {x = r} k) ab ao bo ai bi self = record {
  of_right = Either (Either A B) (Span n 0 1);
  of_cycle = λ x. ⊥;
  right = λ c all x arity. told (join (join (s.reads c) (k.asks c) ab) (reexport_apart c (names_itself c all x t.mentions) n arity t (token_name l) (shape_of c r)) (apart_turned (own_apart span_in (both_in ao bo))));
  cycle = absent;
  apart = λ x i j. j;
  right_in = both_in (both_in ai bi) (λ x i. self x i.0);
  cycle_in = λ x i. absurd (i);
}

pub own_right : {P : Site → Type 0} {o : Option Told} → IfHere (ApartTold P) o → IfHere (ApartRight P) (option_map own o)
own_right gone = gone
own_right {P} (here k) = here (record { of_right = P; of_cycle = λ x. ⊥; right = λ c all x arity. k.asks c; cycle = absent; apart = λ x i j. j; right_in = λ x i. i; cycle_in = λ x i. absurd (i) })

-- a declaration, whose own node is the first of its range
pub record ApartDeclaration (lo hi : ℕ) (d : DeclarationPart) : Type 1 where
  pub node : d.node ≡ lo
  pub fits : lo + 1 ≤ hi
  pub right : IfHere (ApartRight (Range (lo + 1) hi)) d.right

-- the two parts of a right side that may be there
abbrev rights : {P : Site → Type 0} {o : Option RightSide} → IfHere (ApartRight P) o → Site → Type 0
rights gone x = ⊥
rights (here r) x = r.of_right x

abbrev cycles : {P : Site → Type 0} {o : Option RightSide} → IfHere (ApartRight P) o → Site → Type 0
cycles gone x = ⊥
cycles (here r) x = r.of_cycle x

rights_in : {P : Site → Type 0} {o : Option RightSide} (h : IfHere (ApartRight P) o) → Lies (rights h) P
rights_in gone x i = absurd (i)
rights_in (here r) x i = r.right_in x i

cycles_in : {P : Site → Type 0} {o : Option RightSide} (h : IfHere (ApartRight P) o) → Lies (cycles h) P
cycles_in gone x i = absurd (i)
cycles_in (here r) x i = r.cycle_in x i

sides_apart : {P : Site → Type 0} {o : Option RightSide} (h : IfHere (ApartRight P) o) → Apart (rights h) (cycles h)
sides_apart gone x i j = i
sides_apart (here r) x i j = r.apart x i j

cycle_of : {P : Site → Type 0} {o : Option RightSide} (h : IfHere (ApartRight P) o) → IfThere (λ (a : ℕ × List Name). Lies (Span a.0 0 1) (cycles h)) (abbreviation_in o)
cycle_of gone = absent
cycle_of (here r) = by r.cycle
  where
    by : {o : Option (ℕ × List Name)} → IfThere (λ (a : ℕ × List Name). Lies (Span a.0 0 1) r.of_cycle) o → IfThere (λ (a : ℕ × List Name). Lies (Span a.0 0 1) (cycles (here r))) o
    by absent = absent
    by (there f) = there (λ x i. f x i)

right_within : {P : Site → Type 0} {o : Option RightSide} (h : IfHere (ApartRight P) o) (c : Context) (all : List DeclarationPart) (x : Option Tok) (arity : ℕ) → Within (rights h) (right_asks c all x arity o)
right_within gone c all x arity = none_within
right_within (here r) c all x arity = widen (λ s i. i) (r.right c all x arity)

-- what a declaration asks of its name, of its parameters and its right side, and of its cycle
abbrev name_asks : (at mid : ℕ) (d : DeclarationPart) → ApartDeclaration at mid d → Site → Type 0
name_asks at mid d q = Span at 0 1

abbrev side_asks : (at mid : ℕ) (d : DeclarationPart) → ApartDeclaration at mid d → Site → Type 0
side_asks at mid d q = Either (From at 1) (rights q.right)

abbrev cycle_asks : (at mid : ℕ) (d : DeclarationPart) → ApartDeclaration at mid d → Site → Type 0
cycle_asks at mid d q = cycles q.right

name_in : (at mid : ℕ) (d : DeclarationPart) (q : ApartDeclaration at mid d) → Lies (name_asks at mid d q) (Range at mid)
name_in at mid d q = name_inside q.fits

side_in : (at mid : ℕ) (d : DeclarationPart) (q : ApartDeclaration at mid d) → Lies (side_asks at mid d q) (Range at mid)
side_in at mid d q x (inl (e, i)) = let f = q.fits in (omega (arith, e), omega (arith, e, f))
side_in at mid d q x (inr i) = let (k, l) = rights_in q.right x i in (omega (arith, k), l)

cycle_in_range : (at mid : ℕ) (d : DeclarationPart) (q : ApartDeclaration at mid d) → Lies (cycle_asks at mid d q) (Range at mid)
cycle_in_range at mid d q x i = let (k, l) = cycles_in q.right x i in (omega (arith, k), l)

name_side : (at mid : ℕ) (d : DeclarationPart) (q : ApartDeclaration at mid d) → Apart (name_asks at mid d q) (side_asks at mid d q)
name_side at mid d q x (e, i, j) (inl (f, k)) = omega (arith, j, k)
name_side at mid d q x (e, i, j) (inr r) = let (k, l) = rights_in q.right x r in omega (arith, e, k)

name_cycle : (at mid : ℕ) (d : DeclarationPart) (q : ApartDeclaration at mid d) → Apart (name_asks at mid d q) (cycle_asks at mid d q)
name_cycle at mid d q x (e, i, j) r = let (k, l) = cycles_in q.right x r in omega (arith, e, k)

side_cycle : (at mid : ℕ) (d : DeclarationPart) (q : ApartDeclaration at mid d) → Apart (side_asks at mid d q) (cycle_asks at mid d q)
side_cycle at mid d q x (inl (e, i)) r = let (k, l) = cycles_in q.right x r in omega (arith, e, k)
side_cycle at mid d q x (inr i) r = sides_apart q.right x i r

names_within : (seen : List Name) {lo hi : ℕ} {ds : List DeclarationPart} (h : Ranged ApartDeclaration lo hi ds) → Within (Among name_asks h) (names_asked seen ds)
names_within seen (no_part le) = none_within
names_within seen (and_part {at = at} {mid = mid} {x = d} {xs = ds} a b q rest) = by d.head.name (λ seen. names_within seen rest)
  where
    by : (o : Option Tok) → ((seen : List Name) → Within (Among name_asks rest) (names_asked seen ds)) → Within (Among name_asks (and_part a b q rest))
        (elim o [ None ↦ names_asked seen ds | Some t ↦ ask d.node 0 (place_of t) (test (twice t.name) (not (is_among t.name seen))) ++ names_asked (seen ++ t.name ∷ []) ds ])
    by None later = widen (λ s i. inr i) (later seen)
    by (Some t) later = then_within (asked_at q.node) (later (seen ++ t.name ∷ [])) (first_apart name_asks name_in rest (name_in at mid d q)) (λ s i. inl i) (λ s i. inr i)

declaration_within : (c : Context) (all : List DeclarationPart) {at mid : ℕ} (d : DeclarationPart) (q : ApartDeclaration at mid d) → Within (side_asks at mid d q) (declaration_asks c all d)
declaration_within c all {at} {mid} d q =
    told (join (subst (λ m. Within (From m 1) (ask_all d.node 1 (new_tokens [] d.head.parameters))) q.node (all_asked d.node 1 (new_tokens [] d.head.parameters)))
    (right_within q.right (record c { variables = parameters (names_of_tokens d.head.parameters) }) all d.head.name (length d.head.parameters))
    (λ x (e, i) r. (let (k, l) = rights_in q.right x r in omega (arith, e, k))))

sides_within : (c : Context) (all : List DeclarationPart) {lo hi : ℕ} {ds : List DeclarationPart} (h : Ranged ApartDeclaration lo hi ds) → Within (Among side_asks h) (declarations_ask c all ds)
sides_within c all (no_part le) = none_within
sides_within c all (and_part {at = at} {mid = mid} {x = d} a b q rest) =
    then_within (declaration_within c all d q) (sides_within c all rest) (first_apart side_asks side_in rest (side_in at mid d q)) (λ s i. inl i) (λ s i. inr i)

cycles_within : (all : List DeclarationPart) {lo hi : ℕ} {ds : List DeclarationPart} (h : Ranged ApartDeclaration lo hi ds) → Within (Among cycle_asks h) (cycles_asked all ds)
cycles_within all (no_part le) = none_within
cycles_within all (and_part {at = at} {mid = mid} {x = d} {xs = ds} a b q rest) = by d.head.name (abbreviation_in d.right) (cycle_of q.right) (cycles_within all rest)
  where
    by : (o : Option Tok) (r : Option (ℕ × List Name)) → IfThere (λ (a : ℕ × List Name). Lies (Span a.0 0 1) (cycles q.right)) r → Within (Among cycle_asks rest) (cycles_asked all ds) → Within (Among cycle_asks (and_part a b q rest))
        (elim o [
          | None ↦ cycles_asked all ds
          | Some t ↦ elim r [ None ↦ cycles_asked all ds | Some a ↦ ask a.0 0 (place_of t) (test (cyclic t.name) (not (contains_itself all a.0))) ++ cycles_asked all ds ]
        ])
    by None r f later = widen (λ s i. inr i) later
    by (Some t) None absent later = widen (λ s i. inr i) later
    by (Some t) (Some a) (there f) later = then_within asked later (first_apart cycle_asks cycle_in_range rest (λ s i. cycle_in_range at mid d q s (f s i))) (λ s i. inl (f s i)) (λ s i. inr i)

-- So does a group of them.
pub group_within : (c : Context) (seen : List Name) {lo hi : ℕ} {ds : List DeclarationPart} → Ranged ApartDeclaration lo hi ds → Within (Range lo hi) (group_asks c seen ds)
group_within c seen {ds = ds} h = widen (both_in (both_in (among_in name_asks name_in h) (among_in side_asks side_in h)) (among_in cycle_asks cycle_in_range h))
    (join (join (names_within seen h) (sides_within (under (names_of_types c ds ds c.env) c) ds h) (among_apart name_asks side_asks name_in side_in name_side h)) (cycles_within ds h)
    (apart_both (among_apart name_asks cycle_asks name_in cycle_in_range name_cycle h) (among_apart side_asks cycle_asks side_in cycle_in_range side_cycle h)))
