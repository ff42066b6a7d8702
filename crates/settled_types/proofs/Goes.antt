-- Conditions that hold of what is left of types where others hold of the types, and contexts in which what is left of the types is chosen.
use Rattle.std.proofs.Common.{◌≡◌, ◌∙◌, ℕ, ◌<◌, Bool, true, false, not, ◌||◌, List, [], ◌∷◌, ◌++◌, Option, Some, None, if◌then◌else◌, refl, sym, ap, subst, inl, inr, arith}
use Rattle.token_model.specs.Kinds.{Tok}
use Rattle.tree_model.specs.Trees.{Place}
use Rattle.type_model.specs.Types.{Path, Typ, Nil, Cons, occurs}
use Rattle.type_model.specs.Schemes.{Scheme}
use Rattle.type_model.specs.Substitutions.{apply}
use Rattle.type_model.specs.Limits.{IsInScope}
use Rattle.type_model.proofs.Applying.{or_left, or_right, or_cases}
use Rattle.signature_model.specs.Declarations.{Name, Declaration}
use Rattle.signature_model.specs.Changes.{change}
use Rattle.signature_model.specs.Matching.{filling, IsKnown}
use Rattle.signature_model.specs.Entries.{Environment, Kind, value_kind, free_in}
use Rattle.signature_model.specs.Lookups.{same_kind, Found}
use Rattle.typing_model.specs.Demands.{Site, equal, test, agrees, matches, closes, twice, Complaint, Word, Demand, Condition, same, instance, made, known, demand, treated, IsUse, Holds, AllHold, sites_of}
use Rattle.typing_model.specs.Records.{ask_once, ask_complete, absent_label, labels_in, is_among}
use Rattle.typing_model.specs.Contexts.{ask, Choice, Context, Bound, in_item, entries_with, monomorphic, occurs_in, generalised_in}
use Rattle.typing_model.specs.Names.{is_found, ask_bound, names_of, then_by}
use Rattle.typing_model.specs.Parts.{Written, place_of}
use Rattle.typing_model.specs.BuiltIns.{built_in_origin, built_in_type, int_type, unit_type, bool_type, float_type, char_type, string_type, exn_type, list_type}
use Rattle.typing_laws.proofs.Bools.{no_yes}
use Rattle.typing_laws.proofs.Steady.{Each, no_one, one_and}
use Rattle.demand_laws.proofs.Alike.{NamesAlike, as_one, one_entry, two_values, Two}
use Rattle.demand_laws.proofs.Alike as alike
use Rattle.settled_types.specs.Made.{Constructors}
use Rattle.settled_types.proofs.Erasing.{Stays, left_stays, erase, erase_con, erase_apply, erase_filled, occurs_left, scope_left, known_left}
use Rattle.settled_types.proofs.Found.{ErasedScheme, ErasedNames, as_made, next, next_exception, ErasedFound, one_thing, value_found, free_left}
use Rattle.settled_types.proofs.Found as found
use Rattle.settled_types.proofs.One.{lookup_one}

-- what is left of a type
abbrev pub rest : Constructors → Typ → Typ
rest w t = erase w.all t

-- in a demand that two types are one no other constructor stands
abbrev pub DemandStays : Constructors → Demand → Type 0
DemandStays w (equal t u) = Stays w.all t × Stays w.all u
DemandStays w (test c b) = Unit {0}
DemandStays w (agrees c n s t) = Unit {0}
DemandStays w (matches A t) = Unit {0}
DemandStays w (closes env s) = Unit {0}

-- the same of a condition, if it is a demand
abbrev pub ConditionStays : Constructors → Condition → Type 0
ConditionStays w (same t u) = Unit {0}
ConditionStays w (instance s t) = Unit {0}
ConditionStays w (made n t) = Unit {0}
ConditionStays w (known t) = Unit {0}
ConditionStays w (demand s at d) = DemandStays w d
ConditionStays w (treated n env) = Unit {0}

-- A condition holds where another one does, and is a demand of the same site if that is one, in which no other constructor stands.
pub record GoesOne (w : Constructors) (c d : Condition) : Type 0 where
  pub holds : (kept : Site → Bool) → Holds kept c → Holds kept d
  pub sites : sites_of (d ∷ []) ≡ sites_of (c ∷ [])
  pub stays : ConditionStays w d

-- so it is with conditions, one by one
pub data Goes (w : Constructors) : List Condition → List Condition → Type 0 where
  nothing_goes : Goes w [] []
  goes_more : {c d : Condition} {cs ds : List Condition} → GoesOne w c d → Goes w cs ds → Goes w (c ∷ cs) (d ∷ ds)

-- they hold where the others do
pub goes_each : {w : Constructors} {xs ys : List Condition} → Goes w xs ys → (kept : Site → Bool) → AllHold kept xs → AllHold kept ys
goes_each nothing_goes kept h = h
goes_each (goes_more o g) kept h = (o.holds kept h.0, goes_each g kept h.1)

pub behind : {w : Constructors} {xs ys us vs : List Condition} → Goes w xs ys → Goes w us vs → Goes w (xs ++ us) (ys ++ vs)
behind nothing_goes g = g
behind (goes_more o h) g = goes_more o (behind h g)

-- one condition in front
pub at_treated : {w : Constructors} {i j : ℕ} {e f : Environment} {cs ds : List Condition} → Goes w cs ds → Goes w (treated i e ∷ cs) (treated j f ∷ ds)
at_treated h = goes_more (record { holds = λ kept a. tt; sites = refl; stays = tt }) h

pub at_known : (w : Constructors) {t u : Typ} {cs ds : List Condition} → u ≡ rest w t → Goes w cs ds → Goes w (known t ∷ cs) (known u ∷ ds)
at_known w {t} e h = goes_more (record { holds = λ kept a. subst IsKnown (sym e) (known_left w.all t a); sites = refl; stays = tt }) h

pub at_made : (w : Constructors) {n : ℕ} {t u : Typ} {cs ds : List Condition} → u ≡ rest w t → Goes w cs ds → Goes w (made n t ∷ cs) (made n u ∷ ds)
at_made w {n} {t} e h = goes_more (record { holds = λ kept a. subst (IsInScope n) (sym e) (scope_left w.all n t a); sites = refl; stays = tt }) h

pub at_same : (w : Constructors) {t u x y : Typ} {cs ds : List Condition} → x ≡ rest w t → y ≡ rest w u → Goes w cs ds → Goes w (same t u ∷ cs) (same x y ∷ ds)
at_same w e f h = goes_more (record { holds = λ kept a. e ∙ ap (rest w) a ∙ sym f; sites = refl; stays = tt }) h

pub at_equal : (w : Constructors) {s : Site} {p q : Place} {t u x y : Typ} {cs ds : List Condition} → x ≡ rest w t → y ≡ rest w u → Goes w cs ds → Goes w (demand s p (equal t u) ∷ cs) (demand s q (equal x y) ∷ ds)
at_equal w {t = t} {u = u} e f h = goes_more (record { holds = λ kept a k. e ∙ ap (rest w) (a k) ∙ sym f; sites = refl; stays = (subst (Stays w.all) (sym e) (left_stays w.all t), subst (Stays w.all) (sym f) (left_stays w.all u)) }) h

pub at_test : {w : Constructors} {s : Site} {p q : Place} {c d : Complaint} {a b : Bool} {cs ds : List Condition} → a ≡ b → Goes w cs ds → Goes w (demand s p (test c a) ∷ cs) (demand s q (test d b) ∷ ds)
at_test e h = goes_more (record { holds = λ kept a k. sym e ∙ a k; sites = refl; stays = tt }) h

-- that a label isn't given before
once_by : {w : Constructors} (b : Bool) (o : Option Tok) (n k : ℕ) (seen : List Name) → Goes w (if b then elim o [ None ↦ [] | Some t ↦ ask n k (place_of t) (test (twice t.name) (not (is_among t.name seen))) ] else []) (if b then elim o [ None ↦ [] | Some t ↦ ask n k (place_of t) (test (twice t.name) (not (is_among t.name seen))) ] else [])
once_by true None n k seen = nothing_goes
once_by true (Some t) n k seen = at_test refl nothing_goes
once_by false o n k seen = nothing_goes

pub once_goes : {w : Constructors} (b : Bool) (n k : ℕ) (seen : List Name) (p : Written) → Goes w (if b then ask_once n k seen p else []) (if b then ask_once n k seen p else [])
once_goes b n k seen p = once_by b p.last n k seen

-- and that none is absent
pub complete_goes : {w : Constructors} (n k : ℕ) (q : Place) (found : Option Declaration) (seen : List Name) → Goes w (ask_complete n k q found seen) (ask_complete n k q found seen)
complete_goes {w} n k q found seen = by (then_by found (λ d. absent_label (labels_in d.shape) seen)) refl
  where
    by : (o : Option Name) → then_by found (λ d. absent_label (labels_in d.shape) seen) ≡ o → Goes w (ask_complete n k q found seen) (ask_complete n k q found seen)
    by None e = rw (e, ask_complete) nothing_goes
    by (Some x) e = rw (e, ask_complete) (at_test refl nothing_goes)

-- an instance of a scheme is one of the other's, of what is left of the type
pub use_left : (w : Constructors) (s z : Scheme) (t : Typ) → ErasedScheme w.all s z → IsUse s t → IsUse z (rest w t)
use_left w s z t h u =
    let (r, unbound, is) = u.instance in
    record {
      fill = λ o. rest w (u.fill o);
      instance = (
        λ v. rest w (r v),
        λ v b. ap (rest w) (unbound v (h.bound v b)),
        ap (rest w) is ∙ erase_apply w.all r (change (filling u.fill) s.body) ∙ ap (apply (λ v. rest w (r v))) (erase_filled w.all u.fill s.body ∙ ap (change (filling (λ o. rest w (u.fill o)))) (sym h.body)),
      );
    }

pub at_instance : (w : Constructors) {s z : Scheme} {t u : Typ} {cs ds : List Condition} → ErasedScheme w.all s z → u ≡ rest w t → Goes w cs ds → Goes w (instance s t ∷ cs) (instance z u ∷ ds)
at_instance w {s} {z} {t} h e g = goes_more (record { holds = λ kept a. subst (IsUse z) (sym e) (use_left w s z t h a); sites = refl; stays = tt }) g

-- a single one
pub same_one : (w : Constructors) {t u x y : Typ} → x ≡ rest w t → y ≡ rest w u → Goes w (same t u ∷ []) (same x y ∷ [])
same_one w e f = at_same w e f nothing_goes

pub equal_one : (w : Constructors) {s : Site} {p q : Place} {t u x y : Typ} → x ≡ rest w t → y ≡ rest w u → Goes w (demand s p (equal t u) ∷ []) (demand s q (equal x y) ∷ [])
equal_one w e f = at_equal w e f nothing_goes

-- what depends on one thing
pub along : {w : Constructors} {A : Type 0} (f g : A → List Condition) {a b : A} → a ≡ b → Goes w (f a) (g a) → Goes w (f a) (g b)
along {w} f g {a} e h = subst (λ z. Goes w (f a) (g z)) e h

-- the built-in types stay
pub type_left : (w : Constructors) (k : ℕ) → k < 8 → built_in_type k ≡ rest w (built_in_type k)
type_left w k h = sym (erase_con w.all (built_in_origin k) Nil (w.built_in k h))

pub int_left : (w : Constructors) → int_type ≡ rest w int_type
int_left w = type_left w 0 (omega arith)

pub char_left : (w : Constructors) → char_type ≡ rest w char_type
char_left w = type_left w 1 (omega arith)

pub string_left : (w : Constructors) → string_type ≡ rest w string_type
string_left w = type_left w 2 (omega arith)

pub float_left : (w : Constructors) → float_type ≡ rest w float_type
float_left w = type_left w 3 (omega arith)

pub unit_left : (w : Constructors) → unit_type ≡ rest w unit_type
unit_left w = type_left w 4 (omega arith)

pub bool_left : (w : Constructors) → bool_type ≡ rest w bool_type
bool_left w = type_left w 5 (omega arith)

pub exn_left : (w : Constructors) → exn_type ≡ rest w exn_type
exn_left w = type_left w 6 (omega arith)

pub list_left : (w : Constructors) (t u : Typ) → u ≡ rest w t → list_type u ≡ rest w (list_type t)
list_left w t u e = ap list_type e ∙ sym (erase_con w.all (built_in_origin 7) (Cons t Nil) (w.built_in 7 (omega arith)))

-- what is left of the types that are chosen
abbrev pub chosen_rest : Constructors → Choice → Choice
chosen_rest w ch = record { type_at = λ n. rest w (ch.type_at n); letter = λ n k. rest w (ch.letter n k); written = λ n x. rest w (ch.written n x); filled = λ n o. rest w (ch.filled n o) }

-- a context inside an item, and the same with what is left of the types
pub record Pair (w : Constructors) : Type 0 where
  pub env : Environment
  pub others : Environment
  pub item : ℕ
  pub held : List Name
  pub kept : Site → Bool
  pub choice : Choice
  pub names : ErasedNames w.all env others

abbrev pub left : {w : Constructors} → Pair w → Context
left c = record { env = c.env; variables = in_item c.item; held = c.held; kept = c.kept; chosen = c.choice }

abbrev pub right : {w : Constructors} → Pair w → Context
right {w} c = record { env = c.others; variables = in_item c.item; held = c.held; kept = c.kept; chosen = chosen_rest w c.choice }

-- they are two contexts that differ in types alone
pub names_alike : {os : List Path} {E F : Environment} → ErasedNames os E F → NamesAlike E F
names_alike (as_made {E = E} h) = as_one E
names_alike (next h g) = alike.next (record { name = refl; stands = two_values }) (names_alike g)
names_alike (next_exception g) = alike.next one_entry (names_alike g)

abbrev pub two : {w : Constructors} → Pair w → Two
two {w} c = record { first = left c; env = c.others; choice = chosen_rest w c.choice; names = names_alike c.names }

-- a name has what is left of its type
pub record RestName (w : Constructors) (b : Bound) : Type 0 where
  pub gives : (c : Pair w) → b.has_type (right c) ≡ rest w (b.has_type (left c))

-- both contexts with more names in scope
pub names_too : {w : Constructors} (f g : Typ → Scheme) (c : Pair w) (bs : List Bound) → Each (RestName w) bs → ((t u : Typ) → u ≡ rest w t → ErasedScheme w.all (f t) (g u)) → {E F : Environment} → ErasedNames w.all E F →
    ErasedNames w.all (entries_with f (left c) bs E) (entries_with g (right c) bs F)
names_too f g c [] no_one h n = n
names_too f g c (b ∷ bs) (one_and s each) h n = names_too f g c bs each h (next (h (b.has_type (left c)) (b.has_type (right c)) (s.gives c)) n)

pub monomorphic_left : (w : Constructors) (t u : Typ) → u ≡ rest w t → ErasedScheme w.all (monomorphic t) (monomorphic u)
monomorphic_left w t u e = record { body = e; bound = λ v h. refl }

abbrev pub more : {w : Constructors} (c : Pair w) (bs : List Bound) → Each (RestName w) bs → Pair w
more {w} c bs each = record {
  env = entries_with monomorphic (left c) bs c.env;
  others = entries_with monomorphic (right c) bs c.others;
  item = c.item;
  held = c.held;
  kept = c.kept;
  choice = c.choice;
  names = names_too monomorphic monomorphic c bs each (monomorphic_left w) c.names;
}

-- types that are held, of which others are what is left
pub data RestTypes (w : Constructors) : List Typ → List Typ → Type 0 where
  no_types : RestTypes w [] []
  a_type_too : {t u : Typ} {ts us : List Typ} → u ≡ rest w t → RestTypes w ts us → RestTypes w (t ∷ ts) (u ∷ us)

pub rest_append : {w : Constructors} {ts us vs xs : List Typ} → RestTypes w ts us → RestTypes w vs xs → RestTypes w (ts ++ vs) (us ++ xs)
rest_append no_types h = h
rest_append (a_type_too e g) h = a_type_too e (rest_append g h)

held_left : {w : Constructors} {ts us : List Typ} → RestTypes w ts us → (v : ℕ) → occurs_in v us ≡ true → occurs_in v ts ≡ true
held_left no_types v h = h
held_left {w} (a_type_too {t = t} {u = u} {ts = ts} {us = us} e g) v h =
    elim (or_cases (occurs v u) (occurs_in v us) h) [ inl i ↦ or_left (occurs v t) (occurs_in v ts) (occurs_left w.all v t (subst (λ x. occurs v x ≡ true) e i)) | inr i ↦ or_right (occurs v t) (occurs_in v ts) (held_left g v i) ]

-- generalising what is left of a type binds each variable that generalising the type does
pub general_left : (w : Constructors) {E F : Environment} {ts us : List Typ} → ErasedNames w.all E F → RestTypes w ts us → (t u : Typ) → u ≡ rest w t → ErasedScheme w.all (generalised_in E ts t) (generalised_in F us u)
general_left w {E} {F} {ts} {us} h g t u e = record { body = e; bound = λ v b. by v (free_in v E || occurs_in v ts) (free_in v F || occurs_in v us) (stays v) b }
  where
    stays : (v : ℕ) → (free_in v F || occurs_in v us) ≡ true → (free_in v E || occurs_in v ts) ≡ true
    stays v i = elim (or_cases (free_in v F) (occurs_in v us) i) [ inl j ↦ or_left (free_in v E) (occurs_in v ts) (free_left w.all h v j) | inr j ↦ or_right (free_in v E) (occurs_in v ts) (held_left g v j) ]

    by : (v : ℕ) (a b : Bool) → (b ≡ true → a ≡ true) → not b ≡ false → not a ≡ false
    by v true b go e = refl
    by v false true go e = absurd (no_yes (go refl))
    by v false false go e = e

-- that a path to another kind than values is bound
pub at_bound : {w : Constructors} (c : Pair w) (n k : ℕ) (kind : Kind) (x : Word) (p : Written) (t : Tok) {cs ds : List Condition} → same_kind kind value_kind ≡ false → Goes w cs ds →
    Goes w (ask_bound (left c) n k kind x p t ++ cs) (ask_bound (right c) n k kind x p t ++ ds)
at_bound {w} c n k kind x p t apart h = at_test (ap is_found (lookup_one w.all (names_of p.qualifiers) kind t.name apart c.names)) h

-- and one to a value, with the instance of what is found
found_same : {os : List Path} {f g : Found} → ErasedFound os f g → is_found f ≡ is_found g
found_same (found.two_values h) = refl
found_same (one_thing h) = refl

pub at_value : {w : Constructors} (c : Pair w) (n k : ℕ) (x : Word) (p : Written) (t : Tok) {cs ds : List Condition} → Goes w cs ds → Goes w (ask_bound (left c) n k value_kind x p t ++ cs) (ask_bound (right c) n k value_kind x p t ++ ds)
at_value {w} c n k x p t h = at_test (found_same (value_found w.all c.names (names_of p.qualifiers) t.name)) h
