-- Patterns make each demand once.
use Rattle.std.proofs.Common.{◌≡◌, inl, inr, ℕ, ◌+◌, Bool, true, false, List, [], ◌∷◌, ◌++◌, map, Option, Some, None, refl, arith, if◌then◌else◌}
use Rattle.token_model.specs.Kinds.{Tok, Kind, int, float, char, str, unit, nil, true_word, false_word}
use Rattle.tree_model.specs.Trees.{Place}
use Rattle.type_model.specs.Types.{Typ}
use Rattle.signature_model.specs.Declarations.{Name, Declaration, type_of}
use Rattle.typing_model.specs.Demands.{Site, Demand, equal, Condition, same, sites_of}
use Rattle.typing_model.specs.Contexts.{Context, type_at, ask}
use Rattle.typing_model.specs.Parts.{Written, Pattern, TypeExpression, FieldPattern, no_pattern_at}
use Rattle.typing_model.specs.Names.{Built, used_at}
use Rattle.typing_model.specs.BuiltIns.{list_type, constant, constant_by}
use Rattle.typing_model.specs.Records.{ask_once, field_type, ask_record, first_lost, first_token, name_in}
use Rattle.typing_model.specs.Patterns.{matched_all, matched_each, ask_all, over, pname, pconst, pneg, with_built, built_by, constructor_alone, pcon, argument_has, of_one_type, applied_constructor, argument_type, papp, pparen, plist, first_type, each_has, behind_first, sides_beside, pcons, ptuple, pas, por, mentions_in_field, match_pun, match_field, match_fields, labels_of_fields, kept_record, precord}
use Rattle.typing_laws.proofs.Steady.{IfThere, absent, there}
use Rattle.site_laws.proofs.Sites.{Within, Apart, Either, Lies, widen, join, then_within, both_in, apart_from_both, apart_turned, At, Span, From, Others, span_in, from_in, own_apart, spans_apart, span_from_apart, span_from, from_from, asked, span_wider, told, known_too, silent, quiet, none_within, Every, none_of, one_of}
use Rattle.site_laws.proofs.Types.{ApartType}

-- a pattern makes its demands in a set, each once
pub record ApartPattern (P : Site → Type 0) (p : Pattern) : Type 0 where
  pub matches : (c : Context) (seen : List Name) → Within P (p.matched c seen)

pub pattern_in_set : {P Q : Site → Type 0} {p : Pattern} → Lies P Q → ApartPattern P p → ApartPattern Q p
pattern_in_set f s = record { matches = λ c seen. widen f (s.matches c seen) }

-- demands of other nodes are apart from a node's own
parts_apart : {A : Site → Type 0} {n : ℕ} → Lies A (Others n) → Apart A (At n)
parts_apart others = apart_turned (own_apart (λ x i. i) others)

pub no_pattern_apart : {P : Site → Type 0} (n : ℕ) (p : Place) → ApartPattern P (no_pattern_at n p)
no_pattern_apart n p = record { matches = λ c seen. none_within }

matches_all : {P : Site → Type 0} (c : Context) (seen : List Name) {ps : List Pattern} → Every ApartPattern P ps → Within P (matched_all c seen ps)
matches_all c seen none_of = none_within
matches_all c seen (one_of {x = p} s rest apart a b) = then_within (s.matches c seen) (matches_all c (seen ++ p.mentions) rest) apart a b

matches_each : {P : Site → Type 0} (c : Context) (seen : List Name) {ps : List Pattern} → Every ApartPattern P ps → Within P (matched_each c seen ps)
matches_each c seen none_of = none_within
matches_each c seen (one_of s rest apart a b) = then_within (s.matches c seen) (matches_each c seen rest) apart a b

pub over_apart : {A B : Site → Type 0} (n : ℕ) (q : Place) (ps : List Pattern) (own : Context → List Condition) → Every ApartPattern A ps → ((c : Context) → Within B (own c)) → Apart A B → ApartPattern (Either A B) (over n q ps own)
over_apart n q ps own each h apart = record { matches = λ c seen. join (matches_all c seen each) (h c) apart }

-- over patterns, with what the node asks itself
pub over_own : {A : Site → Type 0} (n : ℕ) (q : Place) (ps : List Pattern) (own : Context → List Condition) → Every ApartPattern A ps → ((c : Context) → Within (At n) (own c)) → Lies A (Others n) → ApartPattern (Either A (At n)) (over n q ps own)
over_own n q ps own each h others = over_apart n q ps own each h (parts_apart others)

pub pname_apart : (n : ℕ) (q : Place) (t : Option Tok) → ApartPattern (At n) (pname n q t)
pname_apart n q None = no_pattern_apart n q
pname_apart n q (Some t) = record { matches = λ c seen. widen span_in asked }

-- constants
constant_by_apart : (negated : Bool) (s : Kind) (n : ℕ) (t : Tok) (c : Context) → Within (At n) (constant_by negated s n t c)
unfolding constant_by
constant_by_apart negated int n t c = widen span_in (quiet _ refl asked)
constant_by_apart negated float n t c = silent _ refl
constant_by_apart negated char n t c = silent _ refl
constant_by_apart negated str n t c = silent _ refl
constant_by_apart negated unit n t c = silent _ refl
constant_by_apart negated true_word n t c = silent _ refl
constant_by_apart negated false_word n t c = silent _ refl
constant_by_apart negated nil n t c = silent _ refl
constant_by_apart negated _ n t c = none_within

pub constant_apart : (negated : Bool) (n : ℕ) (t : Option Tok) (c : Context) → Within (At n) (constant negated n t c)
constant_apart negated n None c = none_within
constant_apart negated n (Some t) c = constant_by_apart negated t.kind n t c

no_parts_in : {A : Site → Type 0} {n : ℕ} → Lies A (At n) → Lies (Either A (At n)) (At n)
no_parts_in f = both_in f (λ x i. i)

-- no site at all
abbrev pub Nowhere : Site → Type 0
Nowhere x = ⊥

pub pconst_apart : (n : ℕ) (q : Place) (t : Option Tok) → ApartPattern (At n) (pconst n q t)
pconst_apart n q t = record { matches = λ c seen. constant_apart false n t c }

pub pneg_apart : (n : ℕ) (q : Place) (t : Option Tok) → ApartPattern (At n) (pneg n q t)
pneg_apart n q t = record { matches = λ c seen. constant_apart true n t c }

-- that nodes have types makes no demand
types_silent : (f : ℕ → Typ) (u : Typ) (nodes : List ℕ) → sites_of (map (λ m. same (f m) u) nodes) ≡ []
types_silent f u [] = refl
types_silent f u (m ∷ ms) = types_silent f u ms

-- a constructor that is found, over arguments
with_built_apart : {A : Site → Type 0} (c : Context) (n own : ℕ) (t : Tok) (given : ℕ) (b : Built) (nodes : List ℕ) {xs : List Condition} → Within A xs → Apart (Span n 1 2) A → Within (Either (Span n 1 2) A) (with_built c n own t given b nodes xs)
with_built_apart c n own t given b nodes h apart = quiet (map (λ m. same (type_at c m) (used_at c own b.result)) nodes) (types_silent (type_at c) (used_at c own b.result) nodes) (join asked h apart)

abbrev alone_behind : Context → ℕ → Tok → Option Built → List Condition
alone_behind c n t o = elim o [ None ↦ [] | Some b ↦ with_built c n n t 0 b (n ∷ []) [] ]

pub constructor_alone_apart : (c : Context) (n : ℕ) (p : Written) → Within (At n) (constructor_alone c n p)
constructor_alone_apart c n p = by p.last refl
  where
    found : (t : Tok) (o : Option Built) → Within (Span n 1 2) (alone_behind c n t o)
    found t None = none_within
    found t (Some b) = widen (both_in (λ x i. i) (λ x i. absurd (i))) (with_built_apart {A = Nowhere} c n n t 0 b (n ∷ []) none_within (λ x i j. j))

    by : (o : Option Tok) → p.last ≡ o → Within (At n) (constructor_alone c n p)
    by None e = rw (e, constructor_alone) none_within
    by (Some t) e = rw (e, constructor_alone) (then_within asked (found t (built_by c n p t)) (spans_apart (omega arith)) span_in span_in)

pub pcon_apart : (n : ℕ) (q : Place) (p : Written) → ApartPattern (At n) (pcon n q p)
pcon_apart n q p = record { matches = λ c seen. constructor_alone_apart c n p }

-- the argument of a constructor has its type where one is declared
argument_apart : (n j : ℕ) (q : Place) (t : Typ) (o : Option Typ) → Within (Span n j (j + 1)) (argument_has n j q t o)
argument_apart n j q t None = none_within
argument_apart n j q t (Some u) = asked

-- behind the name of a constructor with an argument
abbrev applied_behind : Context → ℕ → ℕ → List ℕ → List Condition → (Option Typ → List Condition) → Tok → Option Built → List Condition
applied_behind c n head nodes argument has t o = elim o [ None ↦ argument ++ of_one_type c head nodes | Some b ↦ with_built c n head t 1 b nodes (argument ++ has (argument_type c head (Some b))) ]

-- its own demands have numbers below 3
pub applied_apart : {A : Site → Type 0} (c : Context) (n : ℕ) (p : Written) (head : ℕ) (nodes : List ℕ) {xs : List Condition} (q : Place) (t : Typ) → Within A xs → Lies A (Others n) →
    Within (Either A (Span n 0 3)) (applied_constructor c n p head nodes xs (argument_has n 2 q t))
applied_apart {A} c n p head nodes {xs} q t h others = by p.last refl
  where
    own : {a b : ℕ} → Apart (Span n a b) A
    own = own_apart span_in others

    unfound : Within A (xs ++ of_one_type c head nodes)
    unfound = quiet (of_one_type c head nodes) (types_silent (type_at c) (type_at c head) nodes) h

    found : (x : Tok) (o : Option Built) → Within (Either A (Span n 1 3)) (applied_behind c n head nodes xs (argument_has n 2 q t) x o)
    found x None = widen (λ y i. inl i) unfound
    found x (Some b) = widen (both_in (λ y i. inr (span_wider (omega arith) (omega arith) y i)) (both_in (λ y i. inl i) (λ y i. inr (span_wider (omega arith) (omega arith) y i))))
        (with_built_apart c n head x 1 b nodes (join h (argument_apart n 2 q t (argument_type c head (Some b))) (apart_turned own)) (apart_from_both own (spans_apart (omega arith))))

    by : (o : Option Tok) → p.last ≡ o → Within (Either A (Span n 0 3)) (applied_constructor c n p head nodes xs (argument_has n 2 q t))
    by None e = rw (e, applied_constructor) (told (known_too (widen (λ y i. inl i) unfound)))
    by (Some x) e = rw (e, applied_constructor) (told (known_too (
        widen (both_in (λ y i. inr (span_wider (omega arith) (omega arith) y i)) (both_in (λ y i. inl i) (λ y i. inr (span_wider (omega arith) (omega arith) y i))))
        (join asked (found x (built_by c n p x)) (apart_from_both own (spans_apart (omega arith)))))))

-- one pattern alone
pub one_pattern : {A : Site → Type 0} {p : Pattern} → ApartPattern A p → Every ApartPattern A (p ∷ [])
one_pattern {A} s = one_of {B = Nowhere} s none_of (λ x i j. j) (λ x i. i) (λ x i. absurd (i))

-- two patterns
pub two_patterns : {A B : Site → Type 0} {p r : Pattern} → ApartPattern A p → ApartPattern B r → Apart A B → Every ApartPattern (Either A B) (p ∷ r ∷ [])
two_patterns s z apart = one_of s (one_pattern z) apart (λ x i. inl i) (λ x i. inr i)

pub papp_apart : {A : Site → Type 0} (n : ℕ) (q : Place) (head p : Pattern) → ApartPattern A p → Lies A (Others n) → ApartPattern (Either A (At n)) (papp n q head p)
papp_apart {A} n q head p s others = by head.constructor refl
  where
    by : (o : Option Written) → head.constructor ≡ o → ApartPattern (Either A (At n)) (papp n q head p)
    by None e = rw (e, papp) (over_own n q (p ∷ []) (λ c. []) (one_pattern s) (λ c. none_within) others)
    by (Some path) e = rw (e, papp) (record {
      matches = λ c seen. widen (both_in (λ y i. inl i) (λ y i. inr i.0)) (applied_apart c n path head.node (n ∷ head.node ∷ []) p.at (type_at c p.node) (s.matches c seen) others);
    })

pub pparen_apart : {A B : Site → Type 0} (n : ℕ) (q : Place) (p : Pattern) (t : Option TypeExpression) → ApartPattern A p → IfThere (ApartType B) t → Apart A B → Lies A (Others n) → Lies B (Others n) → ApartPattern (Either A (Either B (At n))) (pparen n q p t)
pparen_apart n q p None s absent apart a b = pattern_in_set (both_in (λ x i. inl i) (λ x i. inr (inr i))) (over_own n q (p ∷ []) _ (one_pattern s) (λ c. silent _ refl) a)
pparen_apart n q p (Some t) s (there r) apart a b =
    over_apart n q (p ∷ []) _ (one_pattern s) (λ c. quiet _ refl (widen (both_in (λ x i. inl i) (λ x i. inr i.0)) (join (r.reads c) asked (apart_turned (own_apart span_in b))))) (apart_from_both apart (parts_apart a))

-- demands from a number on
pub all_asked : (n k : ℕ) (ds : List (Place × Demand)) → Within (From n k) (ask_all n k ds)
all_asked n k [] = none_within
all_asked n k (d ∷ ds) = then_within asked (all_asked n (k + 1) ds) (span_from_apart (omega arith)) (span_from (omega arith)) (from_from (omega arith))

pub plist_apart : {A : Site → Type 0} (n : ℕ) (q : Place) (ps : List Pattern) → Every ApartPattern A ps → Lies A (Others n) → ApartPattern (Either A (At n)) (plist n q ps)
plist_apart n q ps each others = over_own n q ps _ each (λ c. widen from_in (quiet (same (type_at c n) (list_type (first_type c n ps)) ∷ []) refl (all_asked n 0 (each_has c (first_type c n ps) (behind_first ps))))) others

pub pcons_apart : {A B : Site → Type 0} (n : ℕ) (q : Place) (p r : Pattern) → ApartPattern A p → ApartPattern B r → Apart A B → Lies A (Others n) → Lies B (Others n) → ApartPattern (Either (Either A B) (At n)) (pcons n q p r)
pcons_apart n q p r s z apart a b = over_own n q (p ∷ r ∷ []) _ (two_patterns s z apart) (λ c. widen span_in (quiet _ refl asked)) (both_in a b)

pub ptuple_apart : {A : Site → Type 0} (n : ℕ) (q : Place) (ps : List Pattern) → Every ApartPattern A ps → Lies A (Others n) → ApartPattern (Either A (At n)) (ptuple n q ps)
ptuple_apart n q ps each others = over_own n q ps _ each (λ c. silent _ refl) others

pub pas_apart : {A : Site → Type 0} (n : ℕ) (q : Place) (p : Pattern) (t : Option Tok) → ApartPattern A p → Lies A (Others n) → ApartPattern (Either A (At n)) (pas n q p t)
pas_apart n q p None s others = over_own n q (p ∷ []) _ (one_pattern s) (λ c. silent _ refl) others
pas_apart n q p (Some t) s others = record { matches = λ c seen. quiet _ refl (widen (both_in (λ x i. inl i) (λ x i. inr i.0)) (join (s.matches c seen) asked (apart_turned (own_apart span_in others)))) }

pub por_apart : {A : Site → Type 0} (n : ℕ) (q : Place) (first : Pattern) (ps : List Pattern) → Every ApartPattern A (first ∷ ps) → Lies A (Others n) → ApartPattern (Either A (At n)) (por n q first ps)
por_apart n q first ps each others = record {
  matches = λ c seen. quiet (same (type_at c n) (type_at c first.node) ∷ []) refl (widen (both_in (λ x i. inl i) (λ x i. inr i.0)) (join (matches_each c seen each) (all_asked n 0 (sides_beside c first ps)) (apart_turned (own_apart from_in others))));
}

-- that a record's type is found
pub record_apart : (c : Context) (n j : ℕ) (ps : List Written) → Within (Span n j (j + 1)) (ask_record c n j ps)
record_apart c n j ps = by (first_lost c.env ps) refl (first_token ps) refl
  where
    by : (l : Option Tok) → first_lost c.env ps ≡ l → (o : Option Tok) → first_token ps ≡ o → Within (Span n j (j + 1)) (ask_record c n j ps)
    by (Some q) e o g = rw (e, ask_record) asked
    by None e None g = rw (e, g, ask_record) none_within
    by None e (Some t) g = rw (e, g, ask_record) asked

-- that a label doesn't stand among others, if the record is found
pub once_apart : (n : ℕ) (b : Bool) (names : List Name) (p : Written) → Within (Span n 0 1) (if b then ask_once n 0 names p else [])
once_apart n false names p = none_within
once_apart n true names p = by p.last refl
  where
    by : (o : Option Tok) → p.last ≡ o → Within (Span n 0 1) (ask_once n 0 names p)
    by None e = rw (e, ask_once) none_within
    by (Some t) e = rw (e, ask_once) asked

-- a field of a pattern makes its demands in a set, each once
pub record ApartFieldPattern (P : Site → Type 0) (f : FieldPattern) : Type 0 where
  pub matches : (c : Context) (n : ℕ) (is_found : Bool) (names seen : List Name) (t : Option Typ) → Within P (match_field c n is_found f names seen t)

pun_apart : (c : Context) (f : FieldPattern) (seen : List Name) (t : Option Typ) → Within (Span f.node 1 2) (match_pun c f seen t)
pun_apart c f seen t = by f.label.last refl t
  where
    by : (o : Option Tok) → f.label.last ≡ o → (t : Option Typ) → Within (Span f.node 1 2) (match_pun c f seen t)
    by None e t = rw (e, match_pun) none_within
    by (Some x) e None = rw (e, match_pun) (quiet _ refl asked)
    by (Some x) e (Some t) = rw (e, match_pun) (quiet _ refl asked)

-- that a part has a type, if there is one
abbrev has_if : Context → FieldPattern → Pattern → Option Typ → List Condition
has_if c f p t = elim t [ None ↦ [] | Some t ↦ ask f.node 1 p.at (equal (type_at c p.node) t) ]

pub field_pattern_apart : {A : Site → Type 0} (f : FieldPattern) → IfThere (ApartPattern A) f.pattern → Lies A (Others f.node) → ApartFieldPattern (Either A (At f.node)) f
field_pattern_apart {A} f s others = record { matches = λ c n is_found names seen t. by c n is_found names seen t f.pattern refl s }
  where
    has : (c : Context) (p : Pattern) (t : Option Typ) → Within (Span f.node 1 2) (has_if c f p t)
    has c p None = none_within
    has c p (Some t) = asked

    by : (c : Context) (n : ℕ) (is_found : Bool) (names seen : List Name) (t : Option Typ) (o : Option Pattern) → f.pattern ≡ o → IfThere (ApartPattern A) o → Within (Either A (At f.node)) (match_field c n is_found f names seen t)
    by c n is_found names seen t None e absent = rw (e, match_field) (told (then_within (once_apart f.node is_found names f.label) (pun_apart c f seen t) (spans_apart (omega arith)) (λ x i. inr i.0) (λ x i. inr i.0)))
    by c n is_found names seen t (Some p) e (there z) = rw (e, match_field) (told (
        widen (both_in (λ x i. inr i.0) (both_in (λ x i. inl i) (λ x i. inr i.0)))
        (join (once_apart f.node is_found names f.label) (join (z.matches c seen) (has c p t) (apart_turned (own_apart span_in others))) (apart_from_both (own_apart span_in others) (spans_apart (omega arith))))))

fields_apart : {A : Site → Type 0} (c : Context) (n : ℕ) (found : Option Declaration) {fs : List FieldPattern} (names seen : List Name) → Every ApartFieldPattern A fs → Within A (match_fields c n found fs names seen)
fields_apart c n found names seen none_of = none_within
fields_apart c n found names seen (one_of {x = f} s rest apart a b) =
    then_within (s.matches c n _ names seen (field_type c n f.node found f.label)) (fields_apart c n found (names ++ name_in f.label) (seen ++ mentions_in_field f) rest) apart a b

-- the node has the type of a record, if it is found
abbrev is_of_record : Context → ℕ → Option Declaration → List Condition
is_of_record c n o = elim o [ None ↦ [] | Some d ↦ same (type_at c n) (used_at c n (type_of d)) ∷ [] ]

of_record_silent : (c : Context) (n : ℕ) (o : Option Declaration) → sites_of (is_of_record c n o) ≡ []
of_record_silent c n None = refl
of_record_silent c n (Some d) = refl

pub precord_apart : {A : Site → Type 0} (n : ℕ) (q : Place) (fs : List FieldPattern) → Every ApartFieldPattern A fs → Lies A (Others n) → ApartPattern (Either A (At n)) (precord n q fs)
precord_apart n q fs each others = record {
  matches = λ c seen.
      let ls : List Written = labels_of_fields fs in
      quiet (is_of_record c n (kept_record c n 0 ls)) (of_record_silent c n (kept_record c n 0 ls))
      (widen (both_in (λ x i. inr i.0) (λ x i. inl i)) (join (record_apart c n 0 ls) (fields_apart c n (kept_record c n 0 ls) [] seen each) (own_apart span_in others)));
}
