-- The demand that a path is bound: the code and the definitions find the same, and lose the same qualifier.
use Rattle.std.proofs.Common.{◌≡◌, ◌∙◌, ◌++◌, ℕ, suc, ◌+◌, Bool, true, false, List, [], ◌∷◌, Option, Some, None, refl, sym, ap, subst, arith, if◌then◌else◌}
use Rattle.std.specs.Prelude.{slice_get, codes}
use Rattle.token_model.specs.Kinds.{Tok}
use Rattle.tree_model.specs.Trees.{Place}
use Rattle.type_model.specs.Types.{Typ}
use Rattle.type_model.specs.Schemes.{Scheme}
use Rattle.signature_model.specs.Declarations as rules
use Rattle.signature_model.specs.Declarations.{Name}
use Rattle.signature_model.specs.Entries.{Environment}
use Rattle.signature_model.specs.Entries.{Entry as Named}
use Rattle.signature_model.specs.Lookups.{FoundAmong, an_entry, a_hole, nothing, ScopeOf, lookup, scope_by, scope_behind}
use Rattle.typing_model.specs.Demands.{Site, Word, unbound, demand, test}
use Rattle.typing_model.specs.Contexts.{Context}
use Rattle.typing_model.specs.Names as names
use Rattle.typing_model.specs.Names.{names_of, place_unbound, complaint_unbound}
use Rattle.typing_model.specs.Messages.{word_text, complaint_text}
use Rattle.type_nodes.specs.Readings.{Types}
use Rattle.level_unify.specs.Solutions.{Loose}
use Rattle.env_table.specs.declared.entries.Constructor.{Constructor}
use Rattle.env_table.specs.declared.entries.Declaration.{Declaration}
use Rattle.env_table.specs.declared.entries.Entry.{Entry}
use Rattle.env_table.specs.declared.entries.Kind.{Kind}
use Rattle.env_table.specs.declared.faults.FaultKind.TheVariants as fault
use Rattle.env_table.specs.Views.{is_named, inside, kind_of}
use Rattle.env_table.specs.Scopes.{is_no_scope, lost_behind}
use Rattle.typing_state.specs.declared.parts.Parts.{Parts}
use Rattle.typing_state.specs.declared.messages.Word.{Word as Called}
use Rattle.typing_state.specs.declared.messages.Word.TheVariants as word
use Rattle.typing_state.specs.Bound.{names_of_tokens, TellsUnbound, token_at, lost_among, found_at, word_of, BoundIs, BoundLastIs}
use Rattle.typing_state.specs.Messages.{unbound_text}
use Rattle.typing_state.specs.Messages as messages
use Rattle.typing_conditions.specs.Environments.{EnvAs}
use Rattle.typing_conditions.specs.Standing.{IsIn}
use Rattle.typing_conditions.specs.Assumptions.{SchemeFits}
use Rattle.typing_conditions.proofs.Own.{own_of}
use Rattle.typing_conditions.proofs.Environments.{ScopeAs, both_known, both_unknown, both_absent, scope_alike, ComesTo, to_entry, to_hole, to_nothing, lookup_alike}
use Rattle.typing_conditions.specs.Sights.{Letters, Agrees}
use Rattle.typing_conditions.specs.Frames.{Frame}
use Rattle.typing_conditions.specs.Steps.{Tells}
use Rattle.typing_conditions.specs.Carrying.{Scope, HoldsWritten, IsUnder, Carried}
use Rattle.typing_conditions.specs.Surroundings.{Declared, Surrounds}
use Rattle.typing_steps.specs.States.{is_aloud, sight}
use Rattle.typing_steps.specs.Demands.{JudgedAs, is_found_here, bound_asks, bound_last_asks}
use Rattle.typing_steps.proofs.Seeing.{only_reports, same_state, tells_one}
use Rattle.typing_steps.proofs.Still.{state_still}
use Rattle.typing_steps.proofs.Testing.{judged_here, test_held, test_reported}

module _ (R : ℕ → Scheme → Type 0) (D : Declaration → rules.Declaration → Type 0) (X : Constructor → Option Typ → Type 0) where
  absent_alike : {x : ScopeOf Entry} {y : ScopeOf Named} → ScopeAs R D X x y → is_no_scope x ≡ names.is_no_scope y
  absent_alike (both_known h) = refl
  absent_alike both_unknown = refl
  absent_alike both_absent = refl

  pub found_so : {x : FoundAmong Entry} {y : FoundAmong Named} → ComesTo R D X x y → is_found_here x ≡ names.is_found y
  found_so (to_entry h) = refl
  found_so to_hole = refl
  found_so to_nothing = refl

  -- the first qualifier that names no module is the same one
  pub lost_so : (es : List Entry) (fs : Environment) → EnvAs R D X es fs → (all : List Tok) (path : List Name) (i : ℕ) (qs : List Tok) → ((j : ℕ) → slice_get all (i + j) ≡ slice_get qs j) →
      token_at all (lost_behind es path i (names_of_tokens qs)) ≡ names.lost_behind fs path qs
  lost_so es fs h all path i [] there = refl
  lost_so es fs h all path i (q ∷ qs) there =
      at (is_no_scope (scope_by is_named inside es (path ++ q.name ∷ []))) (names.is_no_scope (scope_behind fs (path ++ q.name ∷ []))) (absent_alike (scope_alike R D X (path ++ q.name ∷ []) es fs h))
      (λ next. lost_so es fs h all (path ++ q.name ∷ []) (i + 1) qs next)
    where
      here : slice_get all i ≡ Some q
      here = ap (slice_get all) (let e : i ≡ i + 0 = omega arith in e) ∙ there 0

      next : (j : ℕ) → slice_get all ((i + 1) + j) ≡ slice_get qs j
      next j = ap (slice_get all) (let e : (i + 1) + j ≡ i + suc j = omega arith in e) ∙ there (suc j)

      at : (s t : Bool) → s ≡ t →
          (((j : ℕ) → slice_get all ((i + 1) + j) ≡ slice_get qs j) → token_at all (lost_behind es (path ++ q.name ∷ []) (i + 1) (names_of_tokens qs)) ≡ names.lost_behind fs (path ++ q.name ∷ []) qs) →
          token_at all (if s then Some i else lost_behind es (path ++ q.name ∷ []) (i + 1) (names_of_tokens qs)) ≡ (if t then Some q else names.lost_behind fs (path ++ q.name ∷ []) qs)
      at true true e later = here
      at true false e later = absurd (cc)
      at false true e later = absurd (cc)
      at false false e later = later next

pub tells_unbound : (a b : Parts) {at : Place} (word : Called) (x : Name) → is_aloud a.telling ≡ true → TellsUnbound a b at word x → Tells (sight a) (sight b) at fault.Bound (unbound_text word x)
tells_unbound a b word x aloud (span, is, told) = subst (λ p. Tells (sight a) (sight b) p fault.Bound (unbound_text word x)) is (tells_one a b span fault.Bound _ refl aloud told)

-- the same in the definitions' words
pub tells_called : (a b : Parts) {at : Place} (called : Called) (w : Word) (x : Name) → messages.word_text called ≡ word_text w → is_aloud a.telling ≡ true → TellsUnbound a b at called x → Tells (sight a) (sight b) at fault.Bound (complaint_text (unbound w x))
tells_called a b {at} called w x one aloud told = subst (λ u. Tells (sight a) (sight b) at fault.Bound (codes "Unbound " ++ u ++ codes " " ++ x)) one (tells_unbound a b called x aloud told)

-- what comes of the demand, whatever the names stand for
bound_so : (a b : Parts) {F : Frame} {scope : Scope} {G : Letters} (x : FoundAmong Entry) (given : Option Entry) (lost : Option Tok) (t : Tok) (called : Called) (w : Word) (s : Site) → messages.word_text called ≡ word_text w → is_aloud a.telling ≡ true → BoundIs x given a b lost t called →
    JudgedAs F scope (λ c. demand s (place_unbound lost t) (test (complaint_unbound lost w t) (is_found_here x)) ∷ []) (sight a) G (sight b) G s (is_found_here x)
bound_so a b (an_entry e) given lost t called w s one aloud (_, same) = test_held (complaint_unbound lost w t) s (same_state a b same) (ap (λ p. (sight p).reports) same)
bound_so a b a_hole given lost t called w s one aloud (_, same) = test_held (complaint_unbound lost w t) s (same_state a b same) (ap (λ p. (sight p).reports) same)
bound_so a b nothing given None t called w s one aloud (_, lost) = test_reported (complaint_unbound None w t) s (only_reports a b lost.rest) (tells_called a b called w t.name one aloud lost.told)
bound_so a b nothing given (Some q) t called w s one aloud (_, lost) = test_reported (complaint_unbound (Some q) w t) s (only_reports a b lost.rest) (tells_unbound a b word.Module q.name aloud lost.told)

-- `bound`: a path finds what the definitions find, a hole included; where it finds nothing, that is reported, in the words for what is looked for
pub bound_asked : (a b : Parts) {D : Declared} {F : Frame} {scope : Scope} {G : Letters} {env : List Entry} (given : Option Entry) (called : Called) (qs : List Tok) (t : Tok) (kind : Kind) (w : Word) → messages.word_text called ≡ word_text w → (s : Site) → Surrounds D F (sight a) G env scope →
    is_aloud a.telling ≡ true → BoundIs (found_at env qs kind t) given a b (lost_among env qs) t called → JudgedAs F scope (λ c. bound_asks c s (kind_of kind) w qs t) (sight a) G (sight b) G s (is_found_here (found_at env qs kind t))
bound_asked a b {D} {F} {scope} {G} {env} given called qs t kind w one s at aloud is = judged_here same (bound_so a b (found_at env qs kind t) given (lost_among env qs) t called w s one aloud is)
  where
    same : (V : Types) (c : Context) → Loose a.store.nodes V → IsUnder scope c → Agrees F.owner (sight a) G V c.chosen → HoldsWritten scope (sight a) →
        demand s (place_unbound (lost_among env qs) t) (test (complaint_unbound (lost_among env qs) w t) (is_found_here (found_at env qs kind t))) ∷ [] ≡ bound_asks c s (kind_of kind) w qs t
    same V c loose under agrees named =
        let own = own_of a.store.nodes at.reached.sound in
        let stands = (at.fits own.0 V c.chosen own.1 loose agrees named).names in
        let R : ℕ → Scheme → Type 0 = λ r sc. SchemeFits a.store.nodes V r sc × IsIn at.roots r in
        let lost : lost_among env qs ≡ names.lost_behind c.env [] qs =
        lost_so R (D.declaration a.store.nodes at.roots at.names) (D.exception a.store.nodes at.roots at.names) env (scope.env c.chosen) stands qs [] 0 qs (λ j. ap (slice_get qs) (let e : 0 + j ≡ j = omega arith in e)) ∙ ap (λ E. names.lost_behind E [] qs) (sym under.env) in
        let found : is_found_here (found_at env qs kind t) ≡ names.is_found (lookup c.env (names_of qs) (kind_of kind) t.name) =
        found_so R (D.declaration a.store.nodes at.roots at.names) (D.exception a.store.nodes at.roots at.names) (lookup_alike R (D.declaration a.store.nodes at.roots at.names) (D.exception a.store.nodes at.roots at.names) (names_of qs) (kind_of kind) t.name stands) ∙ ap (λ E. names.is_found (lookup E (names_of qs) (kind_of kind) t.name)) (sym under.env) in
        λ i. demand s (place_unbound (lost i) t) (test (complaint_unbound (lost i) w t) (found i)) ∷ []

-- `bound_last`: the same of a last name that may be missing
pub bound_last_asked : (a b : Parts) {D : Declared} {F : Frame} {scope : Scope} {G : Letters} {env : List Entry} (given : Option Entry) (qs : List Tok) (last : Option Tok) (kind : Kind) (w : Word) → messages.word_text (word_of kind) ≡ word_text w → (s : Site) → Surrounds D F (sight a) G env scope →
    is_aloud a.telling ≡ true → BoundLastIs last kind given a b env qs → Carried F scope (λ c. bound_last_asks c s (kind_of kind) w qs last) (sight a) G (sight b) G
bound_last_asked a b given qs None kind w one s at aloud (_, same) = state_still a b same
bound_last_asked a b given qs (Some t) kind w one s at aloud is = (bound_asked a b given (word_of kind) qs t kind w one s at aloud is).carried
