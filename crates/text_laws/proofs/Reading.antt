-- Where nodes that stand for one thing have one type, a choice is read off a state.
use Rattle.std.proofs.Common.{◌≡◌, ◌∙◌, inl, inr, ℕ, zero, suc, ◌+◌, ◌/◌, ◌%◌, ◌^◌, Bool, true, false, ◌==◌, Option, Some, None, List, [], ◌∷◌, ◌++◌, refl, sym, ap, subst, if◌then◌else◌, length}
use Rattle.std.specs.Prelude.{slice_get}
use Rattle.std.specs.Option.{option_or}
use Rattle.std.proofs.lemmas.Bool.{eqb-true}
use Rattle.std.proofs.lemmas.Nat.{div-mul-add, mod-mul-add, div-add-mod'}
use Rattle.std.proofs.lemmas.Slice.Eq.{bytes_eq-Decides}
use Rattle.type_model.specs.Types.{Path, Typ, Var, Tuple, Nil, occurs}
use Rattle.type_model.specs.Origins.{same_path}
use Rattle.type_model.proofs.Applying.{eqb_same}
use Rattle.tree_model.specs.Trees.{Tree}
use Rattle.signature_model.specs.Declarations.{Name}
use Rattle.signature_model.specs.Entries.{Environment}
use Rattle.signature_model.specs.Matching.{IsKnown}
use Rattle.typing_model.specs.Contexts.{Choice}
use Rattle.typing_model.specs.Demands.{Site}
use Rattle.typing_model.specs.Meanings.{items_of}
use Rattle.typing_model.specs.Typings.{outermost, conditions_of}
use Rattle.typing_model.specs.Plain.{has_no_modules, has_values_alone}
use Rattle.fault_model.specs.Values.{are_bare}
use Rattle.type_nodes.specs.Nodes.{Node, IsSound}
use Rattle.type_nodes.specs.Readings.{Types, IsReading}
use Rattle.typing_laws.proofs.Bools.{no_yes, and_cases, and_both}
use Rattle.typing_conditions.specs.Sights.{Sight, Key, own, letter, filled, without_unknown, doubtful, value_of, Letters, IsKnownFor, AreGiven, number_in}
use Rattle.typing_conditions.specs.Judging.{Judgement, AreKept}
use Rattle.typing_conditions.specs.Carrying.{Asks}
use Rattle.typing_conditions.proofs.Adequate.{kept_of}
use Rattle.site_laws.proofs.Texts.{AreSmall}
use Rattle.typing_rows.specs.Settled.{Fixes, AreFixed}
use Rattle.binding_rows.specs.ItemRows.{AreOwned}
use Rattle.binding_rows.specs.Outside.{Left, IsLeft, letters_left, AreLeft, ReadsItems, ItemsCarried}
use Rattle.text_laws.specs.Texts.{AreApart, NoneCloses, text_asks, AsksOnce, IsTyped}
use Rattle.typing_conditions.specs.Hiding.{plain_key, is_own, is_letter, is_filled, is_doubtful, HasCopy, ArePlaced, HaveOneNode, NoneDoubtful}
use Rattle.typing_conditions.proofs.Hiding.{split_get, in_first, in_second, copy_itself}
use Rattle.text_laws.specs.Reading.{node_for, recorded_at, written_at, type_or, first_there, decided_in, decided_at, or_type, read_choice, OwnersApart, NoneDecided, DecidedAlone, AreOne, DoubtfulAreOne}
use Rattle.text_laws.proofs.Sites.{kept_as_judged, kept_among}
use Rattle.text_laws.proofs.Orderly.{none_closing}
use Rattle.text_laws.proofs.Owners.{owners_apart, none_left}
use Rattle.text_laws.proofs.Once.{judged_once, values_once}
use Rattle.typing_laws.proofs.Settled.{values_plain}

-- a key is what it is tested for
pub own_is : (n : ℕ) (key : Key) → is_own n key ≡ true → key ≡ own n
own_is n (own m) e = ap own (sym (eqb-true n m e))
own_is n (letter m j) e = absurd (no_yes e)
own_is n (filled m p) e = absurd (no_yes e)
own_is n (without_unknown key) e = absurd (no_yes e)
own_is n (doubtful key) e = absurd (no_yes e)

letter_is : (n k : ℕ) (key : Key) → is_letter n k key ≡ true → key ≡ letter n k
letter_is n k (own m) e = absurd (no_yes e)
letter_is n k (letter m j) e = let (p, q) = and_cases (n == m) (k == j) e in (λ i. letter (sym (eqb-true n m p) i) (sym (eqb-true k j q) i))
letter_is n k (filled m p) e = absurd (no_yes e)
letter_is n k (without_unknown key) e = absurd (no_yes e)
letter_is n k (doubtful key) e = absurd (no_yes e)

filled_is : (n : ℕ) (o : Path) (key : Key) → is_filled n o key ≡ true → key ≡ filled n o
filled_is n o (own m) e = absurd (no_yes e)
filled_is n o (letter m j) e = absurd (no_yes e)
filled_is n o (filled m p) e = let (q, r) = and_cases (n == m) (same_path o p) e in (λ i. filled (sym (eqb-true n m q) i) (sym ((bytes_eq-Decides o p).0 r) i))
filled_is n o (without_unknown key) e = absurd (no_yes e)
filled_is n o (doubtful key) e = absurd (no_yes e)

filled_itself : (n : ℕ) (o : Path) → is_filled n o (filled n o) ≡ true
filled_itself n o = and_both (n == n) (same_path o o) (eqb_same n) ((bytes_eq-Decides o o).1 refl)

letter_itself : (n k : ℕ) → is_letter n k (letter n k) ≡ true
letter_itself n k = and_both (n == n) (k == k) (eqb_same n) (eqb_same k)

-- the letter that is found where one passes the test
pub record IsFound (test : Key → Bool) (keys : Letters) : Type 0 where
  pub place : ℕ
  pub entry : Key × ℕ
  pub at : slice_get keys place ≡ Some entry
  pub passes : test (plain_key entry.0) ≡ true
  pub found : node_for test keys ≡ Some entry.1

find : (test : Key → Bool) (keys : Letters) (k : ℕ) (x : Key × ℕ) → slice_get keys k ≡ Some x → test (plain_key x.0) ≡ true → IsFound test keys
find test [] k x e t = absurd (cc)
find test (y ∷ ys) k x e t = by (test (plain_key y.0)) refl k e (λ j g. find test ys j x g t)
  where
    later : IsFound test ys → test (plain_key y.0) ≡ false → IsFound test (y ∷ ys)
    later f fails = record { place = suc f.place; entry = f.entry; at = f.at; passes = f.passes; found = ap (λ b. if b then Some y.1 else node_for test ys) fails ∙ f.found }

    by : (b : Bool) → test (plain_key y.0) ≡ b → (j : ℕ) → slice_get (y ∷ ys) j ≡ Some x → ((i : ℕ) → slice_get ys i ≡ Some x → IsFound test ys) → IsFound test (y ∷ ys)
    by true holds j g further = record { place = zero; entry = y; at = refl; passes = holds; found = ap (λ b. if b then Some y.1 else node_for test ys) holds }
    by false fails zero g further = let same : y ≡ x = cc in absurd (no_yes (sym fails ∙ ap (λ (z : Key × ℕ). test (plain_key z.0)) same ∙ t))
    by false fails (suc j) g further = later (further j g) fails

-- a key without its marks chooses the same
pub value_plain : (ch : Choice) (key : Key) → value_of ch key ≡ value_of ch (plain_key key)
value_plain ch (own n) = refl
value_plain ch (letter n k) = refl
value_plain ch (filled n o) = refl
value_plain ch (without_unknown key) = value_plain ch key
value_plain ch (doubtful key) = value_plain ch key

plain_is : (key z : Key) → plain_key key ≡ without_unknown z → ⊥
plain_is (own n) z e = absurd (cc)
plain_is (letter n k) z e = absurd (cc)
plain_is (filled n o) z e = absurd (cc)
plain_is (without_unknown key) z e = plain_is key z e
plain_is (doubtful key) z e = plain_is key z e

plain_sure : (key z : Key) → plain_key key ≡ doubtful z → ⊥
plain_sure (own n) z e = absurd (cc)
plain_sure (letter n k) z e = absurd (cc)
plain_sure (filled n o) z e = absurd (cc)
plain_sure (without_unknown key) z e = plain_sure key z e
plain_sure (doubtful key) z e = plain_sure key z e

known_for : (key : Key) (t : Typ) → IsKnown t → IsKnownFor key t
known_for (own n) t h = tt
known_for (letter n k) t h = tt
known_for (filled n o) t h = tt
known_for (without_unknown key) t h = h
known_for (doubtful key) t h = known_for key t h

module _ (V : Types) (b : Sight) (keys : Letters) (left : List Left) (one : AreOne V b keys) (alone : DecidedAlone b keys left) where
  abbrev ch : Choice
  ch = read_choice V b keys left

  -- the type of what is found is that of each letter with its key
  letter_found : (test : Key → Bool) (q : Key) → ((key : Key) → test key ≡ true → key ≡ q) → test q ≡ true → (k : ℕ) (x : Key × ℕ) → slice_get keys k ≡ Some x → plain_key x.0 ≡ q → (t : Typ) → type_or V t (node_for test keys) ≡ V x.1
  letter_found test q only itself k x e is t =
      let f = find test keys k x e (ap test is ∙ itself) in
      ap (type_or V t) f.found ∙ one.letters f.place k f.entry x f.at e (only (plain_key f.entry.0) f.passes ∙ sym is)

  own_found : (n : ℕ) (o : Option ℕ) → recorded_at b n ≡ o → (k : ℕ) (x : Key × ℕ) → slice_get keys k ≡ Some x → plain_key x.0 ≡ own n → type_or V (Var (length b.nodes + n)) (first_there o (node_for (is_own n) keys)) ≡ V x.1
  own_found n None e k x at is = letter_found (is_own n) (own n) (own_is n) (eqb_same n) k x at is (Var (length b.nodes + n))
  own_found n (Some m) e k x at is = sym (one.recorded (n / 2 ^ 32) (n % 2 ^ 32) m k x e at (is ∙ ap own (sym (div-add-mod' n (2 ^ 32)))))

  value_there : (k : ℕ) (x : Key × ℕ) → slice_get keys k ≡ Some x → value_of ch x.0 ≡ V x.1
  value_there k x at = value_plain ch x.0 ∙ by (plain_key x.0) refl
    where
      by : (q : Key) → plain_key x.0 ≡ q → value_of ch q ≡ V x.1
      by (own n) is = ap (or_type (type_or V (Var (length b.nodes + n)) (first_there (recorded_at b n) (node_for (is_own n) keys)))) (alone.letters n k x at is) ∙ own_found n (recorded_at b n) refl k x at is
      by (letter n j) is = letter_found (is_letter n j) (letter n j) (letter_is n j) (letter_itself n j) k x at is (Var n)
      by (filled n o) is = letter_found (is_filled n o) (filled n o) (filled_is n o) (filled_itself n o) k x at is (Var n)
      by (without_unknown z) is = absurd (plain_is x.0 z is)
      by (doubtful z) is = absurd (plain_sure x.0 z is)

  -- letters that are among these have the types of their nodes
  given_there : ((m : ℕ) → IsKnown (V m)) → (xs : Letters) → ((k : ℕ) (x : Key × ℕ) → slice_get xs k ≡ Some x → (j : ℕ) × (slice_get keys j ≡ Some x)) → AreGiven xs V ch
  given_there known [] among = tt
  given_there known (x ∷ xs) among =
      let (j, at) = among zero x refl in
      (record { is = value_there j x at; known = known_for x.0 (V x.1) (known x.1) }, given_there known xs (λ k y e. among (suc k) y e))

  recorded_there : (i p m : ℕ) → b.types i p ≡ Some m → ch.type_at (number_in i p) ≡ V m
  recorded_there i p m e =
      let low = one.places i p m e in
      let here : recorded_at b (number_in i p) ≡ Some m = (λ k. b.types (div-mul-add i (2 ^ 32) p low k) (mod-mul-add i (2 ^ 32) p low k)) ∙ e in
      let n = number_in i p in
      ap (or_type (type_or V (Var (length b.nodes + n)) (first_there (recorded_at b n) (node_for (is_own n) keys)))) (alone.recorded i p m e) ∙ ap (λ o. type_or V (Var (length b.nodes + n)) (first_there o (node_for (is_own n) keys))) here

-- a type variable that is written in an item is found there
written_found : (front : List Left) (l : Left) (ls : List Left) (x : Name) → ((k : ℕ) (m : Left) → slice_get front k ≡ Some m → (l.owner == m.owner) ≡ false) → written_at l.owner x (front ++ l ∷ ls) ≡ l.written x
written_found [] l ls x apart = ap (λ b. if b then l.written x else written_at l.owner x ls) (eqb_same l.owner)
written_found (m ∷ front) l ls x apart = ap (λ b. if b then m.written x else written_at l.owner x (front ++ l ∷ ls)) (apart zero m refl) ∙ written_found front l ls x (λ k z e. apart (suc k) z e)

-- a choice that has each of some types has them all
fixed_each : (ch : Choice) (fs : Fixes) → ((j : ℕ) (f : ℕ × Typ) → slice_get fs j ≡ Some f → ch.type_at f.0 ≡ f.1) → AreFixed fs ch
fixed_each ch [] h = tt
fixed_each ch (f ∷ fs) h = (h zero f refl, fixed_each ch fs (λ j g e. h (suc j) g e))

-- what items left is read off
left_there : (nodes : List Node) (V : Types) (b : Sight) (keys : Letters) (one : AreOne V b keys) → ((m : ℕ) → IsKnown (V m)) → (all front ls : List Left) → DecidedAlone b keys all → ((k : ℕ) (l : Left) → slice_get ls k ≡ Some l → (j : ℕ) (f : ℕ × Typ) → slice_get l.fixed j ≡ Some f → decided_at f.0 all ≡ Some f.1) → all ≡ front ++ ls → OwnersApart ls → ((j k : ℕ) (l m : Left) → slice_get front j ≡ Some m → slice_get ls k ≡ Some l → (l.owner == m.owner) ≡ false) →
    ((k : ℕ) (x : Key × ℕ) → slice_get (letters_left ls) k ≡ Some x → (j : ℕ) × (slice_get keys j ≡ Some x)) → AreLeft nodes ls V (read_choice V b keys all)
left_there nodes V b keys one known all front [] alone decided e apart others among = tt
left_there nodes V b keys one known all front (l ∷ ls) alone decided e apart others among = (here, left_there nodes V b keys one known all (front ++ l ∷ []) ls alone (λ k m g. decided (suc k) m g) (e ∙ more front) apart.1 next (λ k x g. let (j, at) = in_second l.letters (letters_left ls) k x g in among j x at))
  where
    more : (f : List Left) → f ++ l ∷ ls ≡ (f ++ l ∷ []) ++ ls
    more [] = refl
    more (m ∷ f) = ap (λ ms. m ∷ ms) (more f)

    is_written : (x : Name) → written_at l.owner x all ≡ l.written x
    is_written x = ap (written_at l.owner x) e ∙ written_found front l ls x (λ k m g. others k zero l m g refl)

    here : IsLeft nodes l V (read_choice V b keys all)
    here = record {
      letters = given_there V b keys all one alone known l.letters (λ k x g. let (j, at) = in_first l.letters (letters_left ls) k x g in among j x at);
      written = λ x m g. ap (type_or V (Tuple Nil)) (is_written x ∙ g);
      others = λ k x g none v bound. ap (λ o. occurs v (type_or V (Tuple Nil) o)) (is_written x ∙ none);
      fixed = fixed_each (read_choice V b keys all) l.fixed (λ j f g. ap (or_type (type_or V (Var (length b.nodes + f.0)) (first_there (recorded_at b f.0) (node_for (is_own f.0) keys)))) (decided zero l refl j f g));
    }

    next : (j k : ℕ) (q m : Left) → slice_get (front ++ l ∷ []) j ≡ Some m → slice_get ls k ≡ Some q → (q.owner == m.owner) ≡ false
    next j k q m g h = last front j g (λ i f. others i (suc k) q m f h)
      where
        last : (f : List Left) (i : ℕ) → slice_get (f ++ l ∷ []) i ≡ Some m → ((i : ℕ) → slice_get f i ≡ Some m → (q.owner == m.owner) ≡ false) → (q.owner == m.owner) ≡ false
        last [] zero g among = let same : l ≡ m = cc in subst (λ z. (q.owner == z.owner) ≡ false) same (apart.0 k q h)
        last [] (suc i) g among = absurd (cc)
        last (z ∷ f) zero g among = among zero g
        last (z ∷ f) (suc i) g among = last f i g (λ n e. among (suc n) e)

-- where no declaration decided a type there is none
pub none_decided : (ls : List Left) → NoneDecided ls → (n : ℕ) → decided_at n ls ≡ None
none_decided [] none n = refl
none_decided (l ∷ ls) none n = ap (λ fs. option_or (decided_in n fs) (decided_at n ls)) none.0 ∙ none_decided ls none.1 n

none_fixed : (ls : List Left) → NoneDecided ls → (k : ℕ) (l : Left) → slice_get ls k ≡ Some l → l.fixed ≡ []
none_fixed [] none k l e = absurd (cc)
none_fixed (m ∷ ls) none zero l e = let same : m ≡ l = cc in subst (λ (z : Left). z.fixed ≡ []) same none.0
none_fixed (m ∷ ls) none (suc k) l e = none_fixed ls none.1 k l e

pub alone_none : {b : Sight} {keys : Letters} {left : List Left} → NoneDecided left → DecidedAlone b keys left
alone_none {left = left} none = record {
  recorded = λ i p m e. none_decided left none (number_in i p);
  letters = λ n k x e is. none_decided left none n;
  one = λ k l e j f h. absurd (let g : slice_get [] j ≡ Some f = subst (λ fs. slice_get fs j ≡ Some f) (none_fixed left none k l e) h in no_entry j f g);
}
  where
    no_entry : (j : ℕ) (f : ℕ × Typ) → slice_get [] j ≡ Some f → ⊥
    no_entry j f e = absurd (cc)

-- Where letters without doubt have one node for one thing, only the others are asked for.
left_one : (V : Types) {b : Sight} (left : Letters) → HaveOneNode b left → DoubtfulAreOne V b left → AreOne V b left
left_one V {b} left one h = record {
  letters = λ j k x y e f is. both j k x y e f is (is_doubtful x.0) (is_doubtful y.0) refl refl;
  recorded = λ i p m k x e f is. alone i p m k x e f is (is_doubtful x.0) refl;
  places = h.places.recorded;
}
  where
    both : (j k : ℕ) (x y : Key × ℕ) → slice_get left j ≡ Some x → slice_get left k ≡ Some y → plain_key x.0 ≡ plain_key y.0 → (s t : Bool) → is_doubtful x.0 ≡ s → is_doubtful y.0 ≡ t → V x.1 ≡ V y.1
    both j k x y e f is true t g h' = h.doubted j k x y e f g is
    both j k x y e f is false true g h' = sym (h.doubted k j y x f e h' (sym is))
    both j k x y e f is false false g h' = ap V (one.letters j k x y e f g h' is)

    alone : (i p m k : ℕ) (x : Key × ℕ) → b.types i p ≡ Some m → slice_get left k ≡ Some x → plain_key x.0 ≡ own (number_in i p) → (s : Bool) → is_doubtful x.0 ≡ s → V x.1 ≡ V m
    alone i p m k x e f is true g = h.doubted_recorded i p m k x e f g is
    alone i p m k x e f is false g = ap V (one.recorded i p m k x e f g is)

-- Letters that are open are among those that items left, so they are one with them.
pub letters_one : (V : Types) {b : Sight} (open_ones left : Letters) → ((k : ℕ) (x : Key × ℕ) → slice_get open_ones k ≡ Some x → HasCopy left x) → HaveOneNode b left → DoubtfulAreOne V b left → AreOne V b (open_ones ++ left)
letters_one V {b} open_ones left among one h = record {
  letters = λ j k x y e f is. let g = copied j x e in let h' = copied k y f in sym (ap V g.node) ∙ all.letters g.place h'.place g.entry h'.entry g.at h'.at (g.key ∙ is ∙ sym h'.key) ∙ ap V h'.node;
  recorded = λ i p m k x e f is. let g = copied k x f in sym (ap V g.node) ∙ all.recorded i p m g.place g.entry e g.at (g.key ∙ is);
  places = h.places.recorded;
}
  where
    all : AreOne V b left
    all = left_one V left one h

    copied : (k : ℕ) (x : Key × ℕ) → slice_get (open_ones ++ left) k ≡ Some x → HasCopy left x
    copied k x e = elim (split_get open_ones left k x e) [ inl r ↦ among r.0 x r.1 | inr r ↦ copy_itself left r.0 x r.1 ]

-- What is read off a state, in which no unknown type stands, whatever is kept and was judged.
pub reads_there : (env : Environment) (b : Sight) (G : Letters) (left : List Left) (V : Types) → IsReading b.nodes V → ((m : ℕ) → IsKnown (V m)) → AreOne V b (G ++ letters_left left) → OwnersApart left → DecidedAlone b (G ++ letters_left left) left → (kept : Site → Bool) (js : List Judgement) → AreKept kept js →
    ReadsItems (λ ch. env) b G left js V (outermost env kept (read_choice V b (G ++ letters_left left) left))
reads_there env b G left V reads known one owners alone kept js h = record {
  env = refl;
  reads = reads;
  agrees = record {
    recorded = recorded_there V b (G ++ letters_left left) left one alone;
    known = λ i k m e. known m;
    given = given_there V b (G ++ letters_left left) left one alone known G (in_first G (letters_left left));
  };
  left_too = left_there b.nodes V b (G ++ letters_left left) one known left [] left alone alone.one refl owners (λ j k l m g h. absurd (cc)) (in_second G (letters_left left));
  kept = h;
}

-- So of the state after a text.
module _ (env : Environment) (text : List Tree) {a b : Sight} {G : Letters} (p : ItemsCarried (λ ch. env) (text_asks text) a [] b G) (V : Types) (reads : IsReading b.nodes V) (known : (m : ℕ) → IsKnown (V m)) (one : AreOne V b (G ++ letters_left p.left)) (owners : OwnersApart p.left) (alone : DecidedAlone b (G ++ letters_left p.left) p.left) where
  abbrev found : Choice
  found = read_choice V b (G ++ letters_left p.left) p.left

  pub read_off : (kept : Site → Bool) (js : List Judgement) → AreKept kept js → ReadsItems (λ ch. env) b G p.left js V (outermost env kept found)
  read_off kept js h = reads_there env b G p.left V reads known one owners alone kept js h

  -- Where the text makes each demand once, each site was judged once.
  pub text_apart : AsksOnce env text → AreApart p.judged
  text_apart once =
      let kept = kept_of p.judged in
      judged_once p.judged (conditions_of env text kept found) (p.follows V (outermost env kept found) (read_off kept [] tt)) (once kept found)

-- no letter was open before the text
pub open_left : {E : Choice → Environment} {asks : Asks} {a b : Sight} {G : Letters} (p : ItemsCarried E asks a [] b G) (k : ℕ) (x : Key × ℕ) → slice_get G k ≡ Some x → HasCopy (letters_left p.left) x
open_left p k x e = elim (p.opened k x e) [ inl before ↦ absurd (let none : None ≡ Some before.entry = before.at in cc) | inr left ↦ left ]

-- So items that were typed from a state in which nothing is recorded are those of a typed text, with the demands that were kept, at each reading in which no unknown type stands.
unfoldable pub text_typed : {env : Environment} {text : List Tree} {a b : Sight} {G : Letters} (p : ItemsCarried (λ ch. env) (text_asks text) a [] b G) → ((i k : ℕ) → a.types i k ≡ None) → IsSound a.nodes → AsksOnce env text → has_no_modules text ≡ true →
    (V : Types) → IsReading b.nodes V → ((m : ℕ) → IsKnown (V m)) → DoubtfulAreOne V b (letters_left p.left) → OwnersApart p.left → DecidedAlone b (G ++ letters_left p.left) p.left → IsTyped env text (kept_of p.judged) a b G
text_typed {env} {text} {b = b} {G = G} p none sound once plain V reads known rest owners alone =
    let one = letters_one V G (letters_left p.left) (open_left p) (p.settled.one rest.places) rest in
    let kept = kept_of p.judged in
    let there = read_off env text p V reads known one owners alone kept p.judged (kept_as_judged [] p.judged (text_apart env text p V reads known one owners alone once)) in
    record {
      none_recorded = none;
      sound = sound;
      carried = p;
      none_closes = subst NoneCloses (p.sound V (outermost env kept (found env text p V reads known one owners alone)) there).same (none_closing env text kept (found env text p V reads known one owners alone) plain);
      only = λ s e. kept_among p.judged s e;
      types = V;
      choice = found env text p V reads known one owners alone;
      reads = there;
    }

-- The same of a text of `let`, `;;` and exceptions without an argument, whose items aren't too large, where what was left was left by its items.
unfoldable pub values_typed : {env : Environment} {text : List Tree} {a b : Sight} {G : Letters} (p : ItemsCarried (λ ch. env) (text_asks text) a [] b G) → AreOwned (items_of text) p.left → ((i k : ℕ) → a.types i k ≡ None) → IsSound a.nodes → has_values_alone text ≡ true → are_bare text ≡ true → AreSmall text →
    (V : Types) → IsReading b.nodes V → ((m : ℕ) → IsKnown (V m)) → DoubtfulAreOne V b (letters_left p.left) → IsTyped env text (kept_of p.judged) a b G
values_typed {env} {text} p owned none sound values bare small V reads known one = text_typed {text = text} p none sound (values_once env text values small) (values_plain text values) V reads known one (owners_apart text values bare owned) (alone_none (none_left text values bare owned))

-- Nothing is asked for where none is doubtful.
pub none_doubted : (V : Types) {b : Sight} (left : Letters) → NoneDoubtful left → ArePlaced b → DoubtfulAreOne V b left
none_doubted V left sure placed = record {
  doubted = λ j k x y e f s is. absurd (no_yes (sym (sure j x e) ∙ s));
  doubted_recorded = λ i p m k x e f s is. absurd (no_yes (sym (sure k x f) ∙ s));
  places = placed;
}

-- So such a text, after which none of the letters that are left is doubtful, is a typed text at each such reading.
pub sure_typed : {env : Environment} {text : List Tree} {a b : Sight} {G : Letters} (p : ItemsCarried (λ ch. env) (text_asks text) a [] b G) → AreOwned (items_of text) p.left → ((i k : ℕ) → a.types i k ≡ None) → IsSound a.nodes → has_values_alone text ≡ true → are_bare text ≡ true → AreSmall text →
    NoneDoubtful (letters_left p.left) → ArePlaced b → (V : Types) → IsReading b.nodes V → ((m : ℕ) → IsKnown (V m)) → IsTyped env text (kept_of p.judged) a b G
sure_typed {env} {text} p owned none sound values bare small sure placed V reads known = values_typed {text = text} p owned none sound values bare small V reads known (none_doubted V (letters_left p.left) sure placed)
