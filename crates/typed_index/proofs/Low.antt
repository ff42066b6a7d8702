-- Nothing is recorded for a number of 2^32 or more, whatever is recorded next.
use Rattle.std.proofs.Common.{◌≡◌, ◌∙◌, ℕ, ◌<◌, ◌^◌, ◌==◌, ◌&&◌, Bool, true, false, if◌then◌else◌, List, Option, Some, Result, Ok, Err, OnOk, OnErr, refl, sym, subst}
use Rattle.std.proofs.lemmas.Bool.{eqb-true}
use Rattle.std.specs.declared.vec.Vec.{Vec}
use Rattle.std.specs.declared.alloc.Global.{Global}
use Rattle.typed_index.specs.Lists.{seen_among, with_note}

-- each number for which something is recorded is below 2^32
abbrev Low : {S : Type 0} → List (Vec (Option S) Global) → Type 0
Low {S} items = (i p : ℕ) (s : S) → seen_among items i p ≡ Some s → p < 2 ^ 32

second_of : (a b : Bool) → (a && b) ≡ true → b ≡ true
second_of true b e = e
second_of false b e = absurd (let f : false ≡ true = e in cc)

pub low_after : {S A E : Type 0} (old new : List (Vec (Option S) Global)) (n pre : ℕ) (s : S) (r : Result A E) →
    OnOk r ((i p : ℕ) → seen_among new i p ≡ with_note n pre s (seen_among old) i p) → OnErr r ((i p : ℕ) → seen_among new i p ≡ seen_among old i p) → pre < 2 ^ 32 →
    ((i p : ℕ) (z : S) → seen_among old i p ≡ Some z → p < 2 ^ 32) → (i p : ℕ) (z : S) → seen_among new i p ≡ Some z → p < 2 ^ 32
low_after old new n pre s (Err x) noted failed lt low i p z e = low i p z (sym (failed i p) ∙ e)
low_after old new n pre s (Ok x) noted failed lt low i p z e = by ((n == i) && (pre == p)) refl
  where
    by : (t : Bool) → ((n == i) && (pre == p)) ≡ t → p < 2 ^ 32
    by true f = subst (λ q. q < 2 ^ 32) (eqb-true pre p (second_of (n == i) (pre == p) f)) lt
    by false f = low i p z (sym (noted i p ∙ (λ k. if f k then Some s else seen_among old i p)) ∙ e)
