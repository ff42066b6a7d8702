-- What is recorded for nodes.
use Rattle.std.proofs.Common.{◌≡◌, ◌≢◌, ℕ, ap, inl, inr, false, List, [], Option, Some, None, option_map, Result, Ok, Err, refl, sym, subst, ◌∙◌, rules}
use Rattle.std.specs.Prelude.{◌==◌, OnOk, OnErr, is_some}
use Rattle.std.proofs.lemmas.Bool.{ne_eqb}
use Rattle.std.proofs.lemmas.Bool.Decides.{eqb_tells}
use Rattle.typed_index.specs.Seen.{seen_at, with_note}
use Rattle.typed_index.specs.declared.TypedIndex.{TypedIndex}
use Rattle.env_table.specs.declared.seen.Seen.{Seen}
use Rattle.std.specs.declared.vec.Vec.{Vec}
use Rattle.std.specs.declared.rc.Rc.{Rc}
use Rattle.std.specs.declared.alloc.Global.{Global}
use Rattle.type_terms.specs.declared.types.NodeRef.{NodeRef}
use Rattle.env_table.specs.declared.entries.Entry.{Entry}
use Rattle.typing_state.specs.declared.parts.Parts.{Parts}
use Rattle.typing_state.specs.declared.parts.Telling.{Telling}
use Rattle.typing_state.specs.declared.parts.Telling.TheVariants.{Aloud, Quiet}
use Rattle.typing_state.specs.Goes.{Goes, OnlyIndex}
use Rattle.typing_state.specs.Notes.{Noted, NotedNameless, IsRecorded}
use Rattle.typing_state.proofs.Going.{index_goes}

-- what is recorded with no name is recorded
pub noted_nameless : {A E : Type 0} (r : Result A E) (old new : Parts) (number : ℕ) (env : List Entry) (ty : Option NodeRef) (names : Vec (Option (Rc Entry Global)) Global) → names.items ≡ [] →
    OnOk r (Noted old.telling old new number (record { env = env; ty = ty; names = names })) → OnOk r (NotedNameless old new number env ty)
noted_nameless (Ok a) old new number env ty names e h = (names, e, h)
noted_nameless (Err a) old new number env ty names e h = tt

-- where nothing is seen, nothing is there
pub none_there : {A B : Type 0} (f : A → B) (o : Option A) (p : Option B) → option_map f o ≡ p → is_some o ≡ false → p ≡ None
none_there f (Some a) p e not = absurd (cc)
none_there f None p e not = sym e

-- what is noted for a node that had no record is its one record
pub noted_first : {A E : Type 0} (r : Result A E) (t : Telling) (old new : Parts) (number : ℕ) (seen : Seen) → t ≢ Quiet → seen_at old.index old.item number ≡ None →
    OnOk r ((i p : ℕ) → seen_at new.index i p ≡ with_note old.item number seen (seen_at old.index) i p) → OnOk r (Noted t old new number seen)
noted_first (Ok a) Aloud old new number seen aloud none noted = record { before = none; after = noted }
noted_first (Ok a) Quiet old new number seen aloud none noted = absurd (aloud refl)
noted_first (Err e) t old new number seen aloud none noted = tt

-- what is noted for a node is recorded for it
pub noted_there : {S : Type 0} (item number : ℕ) (seen : S) (before : ℕ → ℕ → Option S) → with_note item number seen before item number ≡ Some seen
noted_there item number seen before = search rules

-- another record than that of a node is as before
noted_other : {S : Type 0} (item number : ℕ) (seen : S) (before : ℕ → ℕ → Option S) (i p : ℕ) → i ≢ item → with_note item number seen before i p ≡ before i p
noted_other item number seen before i p other =
    let h : (item == i) ≡ false = ne_eqb item i (λ e. other (sym e)) in rw h refl

-- where a node had no record, what was recorded stays
noted_stays : {S : Type 0} (item number : ℕ) (seen : S) (before : ℕ → ℕ → Option S) (i p : ℕ) (x : S) → before item number ≡ None → before i p ≡ Some x → with_note item number seen before i p ≡ Some x
noted_stays item number seen before i p x none is = elim (eqb_tells item i) [
  | inl (t, e) ↦ elim (eqb_tells number p) [
    | inl (u, f) ↦ let no : None ≡ Some x = sym none ∙ ap (λ j. before j number) e ∙ ap (before i) f ∙ is in absurd (cc)
    | inr (u, f) ↦ rw (t, u) is
  ]
  | inr (t, e) ↦ rw t is
]

pub recorded_there : {A E : Type 0} (r : Result A E) (x : TypedIndex Seen) (before : ℕ → ℕ → Option Seen) (item number : ℕ) (seen : Seen) (P : Type 0) →
    OnOk r ((i p : ℕ) → seen_at x i p ≡ with_note item number seen before i p) → OnOk r (P → (s : Seen) × (seen_at x item number ≡ Some s))
recorded_there (Ok a) x before item number seen P noted = λ aloud. (seen, noted item number ∙ noted_there item number seen before)
recorded_there (Err e) x before item number seen P noted = tt

-- the same with another index
abbrev pub with_index : Parts → TypedIndex Seen → Parts
with_index at x = record { alloc = at.alloc; store = at.store; index = x; faults = at.faults; written = at.written; item = at.item; level = at.level; telling = at.telling; constants = at.constants }

only_index : (at : Parts) (x : TypedIndex Seen) → OnlyIndex at (with_index at x)
only_index at x = record { store = refl; faults = refl; written = refl; item = refl; level = refl; telling = refl; constants = refl }

-- a call that records something for a node that had no record, or gives up
pub note_goes : {A E : Type 0} (r : Result A E) (at : Parts) (x : TypedIndex Seen) (number : ℕ) (seen : Seen) → seen_at at.index at.item number ≡ None →
    OnOk r ((i p : ℕ) → seen_at x i p ≡ with_note at.item number seen (seen_at at.index) i p) → OnErr r ((i p : ℕ) → seen_at x i p ≡ seen_at at.index i p) → Goes at (with_index at x)
note_goes (Ok a) at x number seen none noted failed =
    index_goes at (with_index at x) (λ i p other. noted i p ∙ noted_other at.item number seen (seen_at at.index) i p other)
    (λ i p y is. noted i p ∙ noted_stays at.item number seen (seen_at at.index) i p y none is) (only_index at x)
note_goes (Err e) at x number seen none noted failed = index_goes at (with_index at x) (λ i p other. failed i p) (λ i p y is. failed i p ∙ is) (only_index at x)

-- a record stays
pub record_stays : (n : ℕ) (a b : Parts) → Goes a b → IsRecorded a n → IsRecorded b n
record_stays n a b g r = λ aloud. let there : (seen : Seen) × (seen_at a.index a.item n ≡ Some seen) = r (sym g.telling ∙ aloud) in
    (there.0, subst (λ i. seen_at b.index i n ≡ Some there.0) (sym g.item) (g.recorded a.item n there.0 there.1))

-- the same after a last call, whose result is the result
pub record_stays_in : {A E : Type 0} (r : Result A E) (n : ℕ) (a b : Parts) → Goes a b → IsRecorded a n → OnOk r (IsRecorded b n)
record_stays_in (Ok x) n a b g h = record_stays n a b g h
record_stays_in (Err e) n a b g h = tt

-- the same after a call that changes nothing
pub record_still : {A E : Type 0} (r : Result A E) (n : ℕ) (a : Parts) → IsRecorded a n → OnOk r (IsRecorded a n)
record_still (Ok x) n a h = h
record_still (Err e) n a h = tt
