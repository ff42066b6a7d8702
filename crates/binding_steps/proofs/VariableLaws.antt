-- Names of type variables, in sets and among tokens.
use Rattle.std.proofs.Common.{◌≡◌, ◌∙◌, ℕ, zero, suc, ◌+◌, Bool, true, false, ◌||◌, List, [], ◌∷◌, ◌++◌, Some, refl, sym, ap, subst, String, append-nil, append_assoc}
use Rattle.std.specs.Prelude.{slice_get, is_some, cond, Option, None, option_map}
use Rattle.std.specs.List.{list_any}
use Rattle.std.specs.Map.{lookup, keys_of}
use Rattle.std.specs.Str.{bytes_eq}
use Rattle.std.specs.String.{string_bytes}
use Rattle.std.specs.HashMap.{HashMap, keys, get_by_text}
use Rattle.std.specs.HashSet.{HashSet}
use Rattle.std.proofs.lemmas.Slice.Eq.{bytes_eq-Decides}
use denote.Ref.{Bor}
use Rattle.token_model.specs.Kinds.{Tok}
use Rattle.syntax_tree.specs.declared.kinds.TokenKind.TheVariants as code
use Rattle.signature_model.specs.Declarations.{Name}
use Rattle.operand_laws.proofs.Variables.{or_then, written_both, among_both}
use Rattle.pattern_typing.proofs.Carrying.{names_turned}
use Rattle.typing_model.specs.Records.{is_among}
use Rattle.typing_model.specs.Items.{variables_written}
use Rattle.type_terms.specs.declared.types.NodeRef.{NodeRef}
use Rattle.typing_state.specs.declared.parts.Written.{Written}
use Rattle.binding_rows.specs.ItemRows.{AreWrittenIn}
use Rattle.binding_steps.specs.Variables.{AreNamedIn, has}

put_or : (a b : Bool) → cond b true a ≡ (a || (b || false))
put_or true true = refl
put_or true false = refl
put_or false true = refl
put_or false false = refl

-- a name that is put into a set joins those that are there
pub name_put : (old new : Bool) (n q : Name) → new ≡ cond (bytes_eq n q) true old → new ≡ (old || is_among q (n ∷ []))
name_put old new n q e = e ∙ ap (λ b. cond b true old) (names_turned n q) ∙ put_or old (bytes_eq q n)

-- the names of more tokens join others
pub names_joined : (old new : Bool) (q : Name) (ts us : List Tok) → new ≡ (old || is_among q (variables_written ts)) → (new || is_among q (variables_written us)) ≡ (old || is_among q (variables_written (ts ++ us)))
names_joined old new q ts us e =
    ap (λ b. b || is_among q (variables_written us)) e
    ∙ or_then old (is_among q (variables_written ts)) (is_among q (variables_written us))
    ∙ ap (λ b. old || b) (sym (ap (is_among q) (written_both ts us) ∙ among_both q (variables_written ts) (variables_written us)))

-- names of a list are in a set
abbrev pub AllIn : {Y S : Type 0} → HashSet (Bor (List ℕ)) S → List (String Y) → Type 0
AllIn s [] = Unit {0}
AllIn s (k ∷ ks) = (has s (string_bytes k) ≡ true) × AllIn s ks

-- the first of some names are in a set, and others are left
pub record InFirst {Y S : Type 0} (s : HashSet (Bor (List ℕ)) S) (all left : List (String Y)) : Type 0 where
  pub done : List (String Y)
  pub own : AllIn s done
  pub splits : done ++ left ≡ all

-- none is looked at yet
pub in_start : {Y S : Type 0} (s : HashSet (Bor (List ℕ)) S) (all left : List (String Y)) → left ≡ all → InFirst s all left
in_start s all left e = record { done = []; own = tt; splits = e }

all_more : {Y S : Type 0} (s : HashSet (Bor (List ℕ)) S) (ks : List (String Y)) (k : String Y) → AllIn s ks → has s (string_bytes k) ≡ true → AllIn s (ks ++ k ∷ [])
all_more s [] k h e = (e, tt)
all_more s (x ∷ ks) k h e = (h.0, all_more s ks k h.1 e)

-- one more
pub in_more : {Y S : Type 0} (s : HashSet (Bor (List ℕ)) S) (all left rest : List (String Y)) (k : String Y) → left ≡ k ∷ rest → InFirst s all left → has s (string_bytes k) ≡ true → InFirst s all rest
in_more s all left rest k split first e = record {
  done = first.done ++ k ∷ [];
  own = all_more s first.done k first.own e;
  splits = append_assoc first.done (k ∷ []) rest ∙ ap (λ ks. first.done ++ ks) (sym split) ∙ first.splits;
}

-- all
pub in_end : {Y S : Type 0} (s : HashSet (Bor (List ℕ)) S) (all left : List (String Y)) → left ≡ [] → InFirst s all left → AllIn s all
in_end s all left none first = subst (AllIn s) (sym (append-nil first.done) ∙ ap (λ ks. first.done ++ ks) (sym none) ∙ first.splits) first.own

-- a name that is among others has a place there
pub among_place : (x : Name) (ns : List Name) → is_among x ns ≡ true → (k : ℕ) × (slice_get ns k ≡ Some x)
among_place x [] e = absurd (cc)
among_place x (n ∷ ns) e = by (bytes_eq x n) refl e (among_place x ns)
  where
    by : (b : Bool) → bytes_eq x n ≡ b → (b || is_among x ns) ≡ true → (is_among x ns ≡ true → (k : ℕ) × (slice_get ns k ≡ Some x)) → (k : ℕ) × (slice_get (n ∷ ns) k ≡ Some x)
    by true same e later = (zero, ap Some (sym ((bytes_eq-Decides x n).0 same)))
    by false same e later = let p = later e in (suc p.0, p.1)

-- and back
pub place_among : (x : Name) (ns : List Name) (k : ℕ) → slice_get ns k ≡ Some x → is_among x ns ≡ true
place_among x [] k e = absurd (cc)
place_among x (n ∷ ns) zero e = let s : n ≡ x = cc in ap (λ b. b || is_among x ns) ((bytes_eq-Decides x n).1 (sym s))
place_among x (n ∷ ns) (suc k) e = ap (λ b. bytes_eq x n || b) (place_among x ns k e) ∙ or_true (bytes_eq x n)
  where
    or_true : (b : Bool) → (b || true) ≡ true
    or_true true = refl
    or_true false = refl

entry_in : {X Y S : Type 0} (s : HashSet (Bor (List ℕ)) S) (x : Name) (es : List (String Y × X)) → AllIn s (keys_of es) → is_some (lookup (λ k. bytes_eq x (string_bytes k)) es) ≡ true → has s x ≡ true
entry_in s x [] h e = absurd (cc)
entry_in s x (y ∷ es) h e = by (bytes_eq x (string_bytes y.0)) refl e (entry_in s x es h.1)
  where
    by : (b : Bool) → bytes_eq x (string_bytes y.0) ≡ b → is_some (cond b (Some y.1) (lookup (λ k. bytes_eq x (string_bytes k)) es)) ≡ true → (is_some (lookup (λ k. bytes_eq x (string_bytes k)) es) ≡ true → has s x ≡ true) → has s x ≡ true
    by true same e later = ap (has s) ((bytes_eq-Decides x (string_bytes y.0)).0 same) ∙ h.0
    by false same e later = later e

key_there : {X Y : Type 0} (es : List (String Y × X)) (done rest : List (String Y)) (k : String Y) → done ++ k ∷ rest ≡ keys_of es → is_some (lookup (λ q. bytes_eq (string_bytes k) (string_bytes q)) es) ≡ true
key_there [] [] rest k e = absurd (cc)
key_there [] (d ∷ ds) rest k e = absurd (cc)
key_there (y ∷ es) [] rest k e = let s : k ≡ y.0 = cc in ap (λ b. is_some (cond b (Some y.1) (lookup (λ q. bytes_eq (string_bytes k) (string_bytes q)) es))) ((bytes_eq-Decides (string_bytes k) (string_bytes y.0)).1 (ap string_bytes s))
key_there (y ∷ es) (d ∷ ds) rest k e = let s : ds ++ k ∷ rest ≡ keys_of es = cc in by (bytes_eq (string_bytes k) (string_bytes y.0)) (key_there es ds rest k s)
  where
    by : (b : Bool) → is_some (lookup (λ q. bytes_eq (string_bytes k) (string_bytes q)) es) ≡ true → is_some (cond b (Some y.1) (lookup (λ q. bytes_eq (string_bytes k) (string_bytes q)) es)) ≡ true
    by true h = refl
    by false h = h

-- a set of an item's type variables, which began empty
pub began_empty : {S : Type 0} (empty s : HashSet (Bor (List ℕ)) S) (ts : List Tok) → empty.keys ≡ [] → ((q : Name) → has s q ≡ (has empty q || is_among q (variables_written ts))) → (q : Name) → has s q ≡ is_among q (variables_written ts)
began_empty empty s ts none is q = is q ∙ ap (λ ks. list_any (λ (k : Bor (List ℕ)). bytes_eq q k.now) ks || is_among q (variables_written ts)) none

-- Where all names of a map are in the set of an item's type variables, they are among those.
pub all_own : {X Y S R : Type 0} (s : HashSet (Bor (List ℕ)) S) (m : HashMap (String Y) X R) (ts : List Tok) → ((q : Name) → has s q ≡ is_among q (variables_written ts)) → AllIn s (keys m) → AreNamedIn ts m
all_own s m ts is all = λ x e. among_place x (variables_written ts) (sym (is x) ∙ entry_in s x m.entries all e)

-- And where one of them isn't in the set, they aren't.
pub one_strange : {X Y S R : Type 0} (s : HashSet (Bor (List ℕ)) S) (m : HashMap (String Y) X R) (ts : List Tok) (left rest : List (String Y)) (k : String Y) → ((q : Name) → has s q ≡ is_among q (variables_written ts)) → left ≡ k ∷ rest → InFirst s (keys m) left → has s (string_bytes k) ≡ false → AreNamedIn ts m → ⊥
one_strange s m ts left rest k is split first lost own =
    let p = own (string_bytes k) (key_there m.entries first.done rest k (ap (λ ks. first.done ++ ks) (sym split) ∙ first.splits)) in
    let e : true ≡ false = sym (is (string_bytes k) ∙ place_among (string_bytes k) (variables_written ts) p.0 p.1) ∙ lost in cc

is_there : (o : Option NodeRef) (m : ℕ) → option_map (λ (n : NodeRef). n.0) o ≡ Some m → is_some o ≡ true
is_there None m e = absurd (cc)
is_there (Some n) m e = refl

-- so are the type variables that are written
pub written_own : (ts : List Tok) (w : Written) → AreNamedIn ts w.variables → AreWrittenIn ts w
written_own ts w own x m e = own x (is_there (get_by_text w.variables x) m e)
