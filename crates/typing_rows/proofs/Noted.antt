-- What is recorded for type expressions stays so, and the first record of one is that of no other.
use Rattle.std.proofs.Common.{◌≡◌, ◌∙◌, ◌&&◌, ℕ, zero, suc, ◌/◌, ◌%◌, ◌<◌, ◌^◌, List, ◌∷◌, Option, Some, None, option_map, true, refl, sym, ap, if◌then◌else◌}
use Rattle.std.proofs.lemmas.Nat.{div-mul-add, mod-mul-add}
use Rattle.type_model.proofs.Applying.{eqb_same}
use Rattle.env_table.specs.declared.entries.Entry.{Entry}
use Rattle.env_table.specs.declared.seen.Seen.{Seen}
use Rattle.typed_index.specs.Seen.{seen_at, with_note}
use Rattle.typing_state.specs.declared.parts.Parts.{Parts}
use Rattle.typing_state.specs.Goes.{Goes}
use Rattle.typing_state.specs.Notes.{NotedFirst, Noted, NotedNameless}
use Rattle.typing_conditions.specs.Standing.{IsIn}
use Rattle.typing_conditions.specs.Sights.{AreScopesIn, number_in}
use Rattle.typing_laws.proofs.Bools.{no_yes}
use Rattle.typing_steps.specs.States.{is_noted, is_aloud, sight}
use Rattle.typing_steps.proofs.Recording.{noted_scope}
use Rattle.typing_rows.specs.Noted.{AreNoted}

-- whatever is typed later
pub noted_on : {a b : Parts} (U : List ℕ) → AreNoted U a → Goes a b → AreNoted U b
noted_on U noted goes k i = let x = noted k i in record { item = x.item; place = x.place; small = x.small; number = x.number; seen = x.seen; at = goes.recorded x.item x.place x.seen x.at }

-- what was noted is so still
pub still_noted : {a b : Parts} → Goes a b → (i p : ℕ) → is_noted (seen_at a.index i p) ≡ true → is_noted (seen_at b.index i p) ≡ true
still_noted {a} {b} goes i p h = by (seen_at a.index i p) refl h
  where
    by : (o : Option Seen) → seen_at a.index i p ≡ o → is_noted o ≡ true → is_noted (seen_at b.index i p) ≡ true
    by None e k = absurd (no_yes k)
    by (Some s) e k = ap is_noted (goes.recorded i p s e)

-- a node that is recorded for the first time is none of those for which something was recorded
pub not_noted : {b d : Parts} {number : ℕ} {seen : Seen} (U : List ℕ) → AreNoted U b → number < 2 ^ 32 → NotedFirst b d number seen → IsIn U (number_in b.item number) → ⊥
not_noted {b} {d} {number} {seen} U noted small first i =
    let x = noted (number_in b.item number) i in
    let same : b.item ≡ x.item = sym (div-mul-add b.item (2 ^ 32) number small) ∙ ap (λ n. n / 2 ^ 32) x.number ∙ div-mul-add x.item (2 ^ 32) x.place x.small in
    let here : number ≡ x.place = sym (mod-mul-add b.item (2 ^ 32) number small) ∙ ap (λ n. n % 2 ^ 32) x.number ∙ mod-mul-add x.item (2 ^ 32) x.place x.small in
    let h : None ≡ Some x.seen = sym first.before ∙ (λ k. seen_at b.index (same k) (here k)) ∙ x.at in absurd (cc)

here_noted : (i p : ℕ) (seen : Seen) (f : ℕ → ℕ → Option Seen) → with_note i p seen f i p ≡ Some seen
here_noted i p seen f = (λ k. if eqb_same i k && eqb_same p k then Some seen else f i p)

-- and then something is recorded for it too
pub more_noted : {b d : Parts} {number : ℕ} {seen : Seen} (U : List ℕ) → AreNoted U d → number < 2 ^ 32 → NotedFirst b d number seen → AreNoted (number_in b.item number ∷ U) d
more_noted {b} {d} {number} {seen} U noted small first k (zero, e) =
    let s : number_in b.item number ≡ k = cc in record { item = b.item; place = number; small = small; number = sym s; seen = seen; at = first.after b.item number ∙ here_noted b.item number seen (seen_at b.index) }
more_noted U noted small first k (suc i, e) = noted k (i, e)

-- the names in scope that were recorded are so still, whatever is typed later
pub still_scoped : {a b : Parts} → Goes a b → AreScopesIn (sight a).scopes (sight b).scopes
still_scoped {a} {b} goes i p env h = by _ (λ s e. ap (option_map (λ (x : Seen). x.env)) (goes.recorded i p s e)) h
  where
    by : (o : Option Seen) → ((s : Seen) → o ≡ Some s → (sight b).scopes i p ≡ Some s.env) → option_map (λ (s : Seen). s.env) o ≡ Some env → (sight b).scopes i p ≡ Some env
    by None on k = absurd (cc)
    by (Some s) on k = on s refl ∙ k

-- they are recorded for a node that is noted after other calls
pub scope_after : (a b d : Parts) (number : ℕ) (seen : Seen) → Goes a b → Noted b.telling b d number seen → is_aloud a.telling ≡ true → (sight d).scopes a.item number ≡ Some seen.env
scope_after a b d number seen goes noted aloud = ap (λ i. (sight d).scopes i number) (sym goes.item) ∙ noted_scope b d number seen (ap is_aloud goes.telling ∙ aloud) noted

-- and for one without names of its own
pub plain_scope : (a b : Parts) (number : ℕ) (env : List Entry) → is_aloud a.telling ≡ true → NotedNameless a b number env None → (sight b).scopes a.item number ≡ Some env
plain_scope a b number env aloud (names, none, noted) = noted_scope a b number (record { env = env; ty = None; names = names }) aloud noted
