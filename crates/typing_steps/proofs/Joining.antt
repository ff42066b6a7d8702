-- Types that are made one without a demand, new variables of a scope, and the calls that limit a type.
use Rattle.std.proofs.Common.{◌≡◌, ◌≢◌, ◌∙◌, ◌⊎◌, inl, inr, ℕ, zero, ◌-◌, ◌^◌, ◌<◌, ◌≤◌, min, List, [], ◌∷◌, refl, sym, subst, arith, append-nil}
use Rattle.std.proofs.lemmas.Option.{slice_get_within}
use Rattle.type_model.specs.Types.{Typ}
use Rattle.type_model.specs.Limits.{IsInScope}
use Rattle.typing_model.specs.Demands.{same, AllHold}
use Rattle.typing_model.specs.Contexts.{Choice, Context}
use Rattle.type_nodes.specs.Nodes.{Var, bound_level, IsSound, IsNode}
use Rattle.type_nodes.specs.Readings.{Types}
use Rattle.type_nodes.specs.States.{State, Change, state}
use Rattle.type_nodes.specs.Changes.{Makes}
use Rattle.level_unify.specs.Solutions.{Tightens}
use Rattle.level_unify.specs.Unification.{Unified, NeverAlike}
use Rattle.level_unify.proofs.Unified.{fits_loosely, fits_under, under_fits}
use Rattle.typing_state.specs.declared.parts.Parts.{Parts}
use Rattle.typing_state.specs.Goes.{OnlyStore, Goes}
use Rattle.typing_state.specs.Types.{level_for, any_scope, MakesVar, MadeOne, JoinedIfNodes}
use Rattle.typing_conditions.specs.Locals.{IsOwn}
use Rattle.typing_conditions.specs.Rows.{Row}
use Rattle.typing_conditions.specs.Standing.{IsIn}
use Rattle.typing_conditions.proofs.Judged.{seen_none, start_none, follows_silent}
use Rattle.typing_conditions.proofs.Own.{own_of}
use Rattle.typing_conditions.proofs.Rows.{row_var}
use Rattle.typing_conditions.proofs.Fresh.{fresh_is_one}
use Rattle.typing_conditions.specs.Sights.{Sight, Key, value_of, Letters, IsKnownFor, SameAt}
use Rattle.typing_conditions.specs.Seeing.{IsSeen}
use Rattle.typing_conditions.specs.Frames.{Frame, Reaches, IsOpen, AreOpen}
use Rattle.typing_conditions.specs.Meanings.{Means}
use Rattle.typing_conditions.specs.Judging.{StartsWith, FallsShort}
use Rattle.typing_conditions.specs.Steps.{OnlyNodes}
use Rattle.typing_conditions.specs.Carrying.{Asks, Scope, Enters, GoesOn, Stays, Continues, Carried, CarriedTo}
use Rattle.typing_conditions.proofs.Stays.{agrees_before}
use Rattle.typing_conditions.proofs.Framing.{row_of, reaches_step, open_from, sound_made, no_bound}
use Rattle.typing_conditions.proofs.First.{starts_none, first_one}
use Rattle.typing_conditions.proofs.Making.{with_type, at_own, at_older, made_here, fits_made, makes_extends}
use Rattle.typing_conditions.proofs.Meaning.{agrees_same}
use Rattle.typing_conditions.proofs.Equals.{unified_stays}
use Rattle.typing_conditions.proofs.Nodes.{made_stays}
use Rattle.typing_steps.specs.States.{sight}
use Rattle.typing_steps.proofs.Seeing.{only_nodes, level_here}
use Rattle.typing_steps.proofs.Limiting.{LimitAsks, Limited}
use Rattle.typing_conditions.proofs.Hiding.{settles_none, none_doubtful}
use Rattle.typing_conditions.proofs.Stops.{none_stop}

-- two open types were made one: they are the same
pub same_joined : {F : Frame} {scope : Scope} {G : Letters} {first second : Choice → Typ} {m n : ℕ} {a b : Sight} → IsSound b.nodes → Means F a G first m → Means F a G second n → OnlyNodes a b → Tightens a.nodes b.nodes → Unified a.nodes b.nodes m n →
    Carried F scope (λ c. same (first c.chosen) (second c.chosen) ∷ []) a G b G
same_joined {F} {scope} {G} {first} {second} {m} {n} {a} {b} sound p q rest tight one = record {
  stays = stays;
  hidden = [];
  settled = settles_none;
  clear = λ known placed. none_doubtful;
  judged = [];
  told = [];
  reports = rest.reports ∙ sym (append-nil a.reports);
  counted = refl;
  sound = λ r V c l.
      let old = one.read V l.reads in
      let g = agrees_before stays l.agrees in
      let loose = fits_loosely a.nodes V old.0.fits in
      record { same = refl; holds = (p.is V c.chosen loose g ∙ old.1 ∙ sym (q.is V c.chosen loose g), tt); tells = refl; sees = tt; starts = refl };
  follows = λ r V c l. refl;
  complete = λ named. complete;
  first = λ named. first_one (λ c. same (first c.chosen) (second c.chosen)) complete;
  stops = none_stop;
}
  where
    stays : Stays F a G b G
    stays = unified_stays sound rest tight p.open_node q.open_node one

    complete : (V : Types) (c : Context) → Enters F scope a G V c → AllHold c.kept (same (first c.chosen) (second c.chosen) ∷ []) →
        Continues F (λ c. same (first c.chosen) (second c.chosen) ∷ []) a b G [] [] V c ⊎ FallsShort [] []
    complete V c e h =
        let loose = fits_loosely a.nodes V e.fits in
        let is : V m ≡ V n = sym (p.is V c.chosen loose e.agrees) ∙ h.0 ∙ q.is V c.chosen loose e.agrees in
        inl (record {
          same = refl;
          types = V;
          on = record {
            fits = under_fits (λ v. 0) b.nodes V (one.fits (λ v. 0) V (fits_under a.nodes V e.fits) is);
            before = λ i lt. refl;
            agrees = agrees_same a b rest.types rest.written e.inside (λ i lt. refl) e.agrees;
          };
          hidden_too = (tt, tt);
        })

-- `join`: two types are the same from then on, or they never are, and all is as before
pub types_joined : (a b : Parts) {F : Frame} {scope : Scope} {G : Letters} {first second : Choice → Typ} {m n : ℕ} → IsSound b.store.nodes → Means F (sight a) G first m → Means F (sight a) G second n →
    JoinedIfNodes a.store b.store m n → OnlyStore a b → Goes a b →
    Carried F scope (λ c. same (first c.chosen) (second c.chosen) ∷ []) (sight a) G (sight b) G ⊎ ((b.store ≡ a.store) × NeverAlike a.store.nodes m n)
types_joined a b sound p q joined rest goes = elim (joined.0 p.open_node.inside q.open_node.inside) [
  | inl one ↦ inl (same_joined sound p q (only_nodes a b rest) goes.types (one (no_bound p.open_node q.open_node)))
  | inr (as_before, never) ↦ inr (as_before, never (no_bound p.open_node q.open_node))
]

-- a new variable of the frame's level is open, whatever its scope
open_scoped : {F : Frame} {a b : Sight} {s t : List Change} {n o : ℕ} → Reaches F a → Makes (state a.nodes s) (state b.nodes t) n (Var F.level o) → OnlyNodes a b → IsOpen F b n
open_scoped {F} {a} {b} {s} {t} {n} {o} r makes rest = open_from reached (λ K own. let before = own_of a.nodes r.sound in (row before.0 K before.1 own).open_nodes zero n refl)
  where
    none_open : AreOpen F a []
    none_open k m e = absurd (cc)

    row : (J K : Types) → IsOwn a.nodes J → IsOwn b.nodes K → Row F.start b.nodes F.types K F.roots r.held F.level (n ∷ [])
    row J K own own' = row_var (row_of r J own [] none_open) K own' n (Var F.level o) makes o refl (λ e. let lt = r.frame.free in absurd (omega arith))

    reached : Reaches F b
    reached = reaches_step r (sound_made a b r.sound makes (λ k d lt. absurd (omega arith))) rest.level (λ x m e. rest.written x ∙ e) (λ J K own own'. (row J K own own').local)

-- a new variable of a scope stands for what a choice chooses, whose origins are in the scope
pub scoped_letter : {F : Frame} {scope : Scope} {G : Letters} {a b : Sight} {s t : List Change} {n o : ℕ} {asks : Asks} (key : Key) → ((x : Typ) → IsKnownFor key x) → LimitAsks o (λ ch. value_of ch key) asks → Reaches F a →
    Makes (state a.nodes s) (state b.nodes t) n (Var F.level o) → OnlyNodes a b → CarriedTo F scope asks a G b ((key, n) ∷ G) (λ ch. value_of ch key) n
scoped_letter {F} {scope} {G} {a} {b} {s} {t} {n} {o} {asks} key free limits r makes rest = record {
  carried = record {
    stays = made_stays ((key, n) ∷ []) opened makes rest (opened.inside, tt);
    hidden = [];
    settled = settles_none;
    clear = λ known placed. none_doubtful;
    judged = [];
    told = [];
    reports = rest.reports ∙ sym (append-nil a.reports);
    counted = refl;
    sound = λ r V c l. record {
      same = limits.silent c;
      holds = limits.holds c (subst (IsInScope o) (sym l.agrees.given.0.is) (l.reads.fits.each n (Var F.level o) (made_here (state a.nodes s) (state b.nodes t) n (Var F.level o) makes) not_bound));
      tells = limits.reports_none c;
      sees = seen_none (IsSeen l.scopes l.types V) (asks c) (limits.treats c);
      starts = start_none (asks c) (limits.treats c);
    };
    follows = λ r V c l. follows_silent c.kept (asks c) (limits.silent c);
    complete = λ named V c e h. inl (record { same = limits.silent c; types = with_type V n (value_of c.chosen key); on = goes V c e (limits.gives c h); hidden_too = (tt, tt) });
    first = λ named k V c e h. inl (subst (StartsWith []) (sym (limits.silent_first k c)) (starts_none []));
    stops = none_stop;
  };
  means = record { open_node = opened; is = λ V ch loose g. g.given.0.is };
}
  where
    opened : IsOpen F b n
    opened = open_scoped r makes rest

    not_bound : F.level ≢ bound_level
    not_bound e = let lt = r.frame.free in absurd (omega arith)

    older : (V : Types) (x : Typ) → SameAt a.nodes V (with_type V n x)
    older V x m lt = at_older V n x m (let e = makes.added.number in omega arith)

    goes : (V : Types) (c : Context) → Enters F scope a G V c → IsInScope o (value_of c.chosen key) → GoesOn F a b ((key, n) ∷ G) V (with_type V n (value_of c.chosen key)) c.chosen
    goes V c e here =
        let x = value_of c.chosen key in
        let g = agrees_same a b rest.types rest.written e.inside (older V x) e.agrees in
        record {
          fits = fits_made (state a.nodes s) (state b.nodes t) n (Var F.level o) r.sound makes V x e.fits (λ open_here. subst (IsInScope o) (sym (at_own V n x)) here);
          before = older V x;
          agrees = record { recorded = g.recorded; known = g.known; written = g.written; given = (record { is = sym (at_own V n x); known = free (with_type V n x n) }, g.given) };
        }

-- `var_of_scope`
pub scoped_made : (a b : Parts) {F : Frame} {scope : Scope} {G : Letters} {n o : ℕ} {asks : Asks} (key : Key) → ((x : Typ) → IsKnownFor key x) → LimitAsks o (λ ch. value_of ch key) asks → Reaches F (sight a) → MakesVar a b n o → OnlyStore a b →
    CarriedTo F scope asks (sight a) G (sight b) ((key, n) ∷ G) (λ ch. value_of ch key) n
scoped_made a b {n = n} {o = o} key free limits r makes rest =
    scoped_letter {s = a.store.trail} {t = b.store.trail} key free limits r (subst (λ l. Makes a.store b.store n (Var l o)) (level_here a r) makes) (only_nodes a b rest)

-- a state at another level, as a group's types are limited once the level is lowered
abbrev pub with_level : ℕ → Sight → Sight
with_level k a = record a { level = k }

-- a call that changes the nodes alone does so whatever the level is
at_level : (a b : Parts) (k : ℕ) → OnlyStore a b → OnlyNodes (with_level k (sight a)) (with_level k (sight b))
at_level a b k rest = let r = only_nodes a b rest in record { types = r.types; noted = r.noted; scopes = r.scopes; written = r.written; reports = r.reports; aloud = r.aloud; item = r.item; level = refl; fixed = r.fixed }

level_below : (l : ℕ) → level_for l ≢ bound_level
level_below l = below (level_for l) (min_right l (2 ^ 32 - 2))
  where
    min_right : (l m : ℕ) → min l m ≤ m
    min_right l m = grind arith

    below : (n : ℕ) → n ≤ 2 ^ 32 - 2 → n ≢ 2 ^ 32 - 1
    below n le e = absurd (omega arith)

-- the new variable of a limit, where the clause of `limit` says that it was made one with the type
pub scope_limited : (a b : Parts) (k level : ℕ) {F : Frame} {mid : State} {v o m : ℕ} → IsOpen F (with_level k (sight a)) m → Makes a.store mid v (Var (level_for level) o) → (IsNode mid.nodes v → IsNode mid.nodes m → MadeOne mid.nodes b.store.nodes v m) →
    OnlyStore a b → Goes a b → IsSound b.store.nodes → ((i : ℕ) → level_for level ≤ i → i < F.level → IsIn (F.held i) v) → Limited F (with_level k (sight a)) (with_level k (sight b)) mid v (level_for level) o m
scope_limited a b k level {mid = mid} {v = v} {o = o} {m = m} p makes one rest goes sound held =
    let longer = (makes_extends a.store mid v (Var (level_for level) o) makes).longer in
    let there = made_here a.store mid v (Var (level_for level) o) makes in
    record {
      before = a.store.trail;
      made = makes;
      free = level_below level;
      one = one (slice_get_within mid.nodes v (Var (level_for level) o) there) (let i = p.inside in omega arith);
      tight = goes.types.types;
      sound = sound;
      rest = at_level a b k rest;
      held = held;
    }

-- `limit` with the scope that limits nothing: the new variable is made one with the type in any case
pub level_limited : (a b : Parts) (k level : ℕ) {F : Frame} {mid : State} {v m : ℕ} → IsOpen F (with_level k (sight a)) m → Makes a.store mid v (Var (level_for level) any_scope) → JoinedIfNodes mid b.store v m →
    OnlyStore a b → Goes a b → IsSound b.store.nodes → ((i : ℕ) → level_for level ≤ i → i < F.level → IsIn (F.held i) v) → Limited F (with_level k (sight a)) (with_level k (sight b)) mid v (level_for level) any_scope m
level_limited a b k level {mid = mid} {v = v} {m = m} p makes joined rest goes sound held =
    scope_limited a b k level p makes (λ here there none. fresh_is_one a.store mid b.store.nodes v (level_for level) m b.store p.reached.sound makes (level_below level) p.inside refl (joined.0 here there) none) rest goes sound held
