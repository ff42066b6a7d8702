-- Limits: a new variable of a level and a scope is made one with a type, whose variables are of at most that level then, and whose origins are in the scope.
use Rattle.std.proofs.Common.{◌≡◌, ◌≢◌, ◌∙◌, ◌⊎◌, inl, inr, ◌++◌, ℕ, zero, suc, ◌<◌, ◌≤◌, false, true, List, [], ◌∷◌, take, length, Some, refl, sym, ap, subst, arith, append-nil}
use Rattle.std.specs.Prelude.{slice_get}
use Rattle.std.proofs.lemmas.Option.{slice_get_within}
use Rattle.std.proofs.lemmas.Bool.{eqb-true}
use Rattle.type_model.specs.Types.{Typ, occurs}
use Rattle.type_model.specs.Limits.{no_scope, IsInScope}
use Rattle.type_model.proofs.Applying.{eqb_same, or_cases}
use Rattle.typing_laws.proofs.Bools.{no_yes}
use Rattle.typing_model.specs.Demands.{made, AllHold}
use Rattle.typing_model.specs.Contexts.{Choice, Context}
use Rattle.type_nodes.specs.Nodes.{Var, bound_level, IsSound}
use Rattle.type_nodes.specs.Readings.{Types, Fits}
use Rattle.type_nodes.specs.States.{State, Change, state}
use Rattle.type_nodes.specs.Changes.{Makes}
use Rattle.type_nodes.proofs.Lists.{get-append_cases}
use Rattle.level_unify.specs.Solutions.{Loose, FitsLoosely, HaveNoBound}
use Rattle.level_unify.specs.Copies.{Extends}
use Rattle.level_unify.specs.Unification.{Unified}
use Rattle.level_unify.proofs.Unified.{fits_loosely, fits_under, under_fits}
use Rattle.typing_conditions.specs.Locals.{IsOwn, Refines, Local, Within, IsContext}
use Rattle.typing_conditions.specs.Standing.{IsIn}
use Rattle.typing_conditions.proofs.Judged.{seen_none, start_none, follows_silent}
use Rattle.typing_conditions.proofs.Own.{own_of}
use Rattle.typing_conditions.proofs.Regions.{any_in}
use Rattle.typing_conditions.proofs.Steps.{local_then, local_unified, refines_made, refines_then}
use Rattle.typing_conditions.proofs.Instances.{local_node, local_more, new_within, open_nodes}
use Rattle.typing_conditions.proofs.Bindings.{any_before, any_after}
use Rattle.typing_conditions.proofs.Later.{result_after}
use Rattle.typing_conditions.specs.Sights.{Sight, Letters}
use Rattle.typing_conditions.specs.Seeing.{IsSeen}
use Rattle.typing_conditions.specs.Frames.{Frame, Reaches, IsHeld, IsOpen}
use Rattle.typing_conditions.specs.Meanings.{Means}
use Rattle.typing_conditions.specs.Judging.{judgements, StartsWith, TellAll, treats_none}
use Rattle.typing_conditions.specs.Steps.{OnlyNodes}
use Rattle.typing_conditions.specs.Carrying.{Asks, Scope, Enters, Stays, Continues, Carried}
use Rattle.typing_conditions.proofs.Stays.{agrees_before}
use Rattle.typing_conditions.proofs.Carried.{take_none}
use Rattle.typing_conditions.proofs.First.{starts_none}
use Rattle.typing_conditions.proofs.Framing.{sound_made, written_next}
use Rattle.typing_conditions.proofs.Making.{with_type, at_own, at_older, in_any_scope, makes_extends, made_here, reading_before, fits_made}
use Rattle.typing_conditions.proofs.Meaning.{agrees_same, inside_longer}
use Rattle.typing_conditions.proofs.Hiding.{keeps_as, settles_none, none_doubtful}
use Rattle.typing_conditions.proofs.Copies.{copied_same}
use Rattle.typing_conditions.proofs.Stops.{none_stop}

-- What is asked of a type that is limited to a scope: that its origins are in the scope.
pub record LimitAsks (scope : ℕ) (type : Choice → Typ) (asks : Asks) : Type 0 where
  pub gives : (c : Context) → AllHold c.kept (asks c) → IsInScope scope (type c.chosen)
  pub holds : (c : Context) → IsInScope scope (type c.chosen) → AllHold c.kept (asks c)
  pub silent : (c : Context) → judgements c.kept (asks c) ≡ []
  pub silent_first : (k : ℕ) (c : Context) → judgements c.kept (take k (asks c)) ≡ []
  pub reports_none : (c : Context) → TellAll c.kept (asks c) []
  pub treats : (c : Context) → treats_none (asks c) ≡ true

-- the condition that the definitions have for it
pub made_asked : (scope : ℕ) (type : Choice → Typ) → LimitAsks scope type (λ c. made scope (type c.chosen) ∷ [])
made_asked scope type = record { gives = λ c h. h.0; holds = λ c h. (h, tt); silent = λ c. refl; silent_first = first; reports_none = λ c. refl; treats = λ c. refl }
  where
    first : (k : ℕ) (c : Context) → judgements c.kept (take k (made scope (type c.chosen) ∷ [])) ≡ []
    first zero c = refl
    first (suc k) c = ap (judgements c.kept) (take_none k)

-- nothing is asked for the scope that limits nothing
pub level_asked : (type : Choice → Typ) → LimitAsks no_scope type (λ c. [])
level_asked type = record { gives = λ c h. in_any_scope (type c.chosen); holds = λ c h. tt; silent = λ c. refl; silent_first = λ k c. ap (judgements c.kept) (take_none k); reports_none = λ c. refl; treats = λ c. refl }

-- types that fit loosely still do with a new variable
loose_with_var : (old new : State) (n l o : ℕ) (V : Types) → Makes old new n (Var l o) → Loose old.nodes V → Loose new.nodes V
loose_with_var old new n l o V makes loose = record {
  each = λ m c e. elim (get-append_cases old.nodes (Var l o) m c (ap (λ ns. slice_get ns m) (sym makes.added.nodes) ∙ e)) [ inl f ↦ loose.each m c f | inr (p, q) ↦ subst (FitsLoosely V m) (sym q) tt ];
}

-- The variable v of the level l and the scope o was made one with m; where l is below the frame's level, the frame holds v at each level from l on.
pub record Limited (F : Frame) (a b : Sight) (mid : State) (v l o m : ℕ) : Type 0 where
  pub before : List Change
  pub made : Makes (state a.nodes before) mid v (Var l o)
  pub free : l ≢ bound_level
  pub one : HaveNoBound mid.nodes v m → Unified mid.nodes b.nodes v m
  pub tight : (V : Types) → Loose b.nodes V → Loose a.nodes V
  pub sound : IsSound b.nodes
  pub rest : OnlyNodes a b
  pub held : (k : ℕ) → l ≤ k → k < F.level → IsIn (F.held k) v

module _ {F : Frame} {a b : Sight} {mid : State} {v l o m : ℕ} (at : Limited F a b mid v l o m) (p : IsOpen F a m) where
  abbrev old : State
  old = state a.nodes at.before

  there : slice_get mid.nodes v ≡ Some (Var l o)
  there = made_here old mid v (Var l o) at.made

  extends : Extends a.nodes mid.nodes
  extends = makes_extends old mid v (Var l o) at.made

  own_a : (I : Types) × IsOwn a.nodes I
  own_a = own_of a.nodes p.reached.sound

  own_mid : (J : Types) × IsOwn mid.nodes J
  own_mid = own_of mid.nodes (sound_made a (record a { nodes = mid.nodes }) p.reached.sound at.made (λ k d lt. absurd (omega arith)))

  refines_mid : Refines a.nodes mid.nodes own_mid.0
  refines_mid = refines_made a.nodes mid.nodes own_mid.0 own_mid.1 (record { longer = extends.longer; node = extends.node })

  -- no bound variable stands in either of the two
  none_bound : HaveNoBound mid.nodes v m
  none_bound = open_nodes mid.nodes own_mid.0 v m own_mid.1
      (λ u h. let s = eqb-true u v (ap (occurs u) (sym (own_mid.1.vars v l o there)) ∙ h) in record { level = l; scope = o; at = ap (slice_get mid.nodes) s ∙ there; free = at.free })
      (λ u h.
      let r = result_after F.start a.nodes mid.nodes own_a.0 own_mid.0 F.roots F.level m own_a.1 own_mid.1 refines_mid (record { inside = p.inside; within = p.within; free = p.free own_a.0 own_a.1 }) in
      let f = r.free u h in record { level = f.level; scope = f.scope; at = f.at; free = f.free })

  one : Unified mid.nodes b.nodes v m
  one = at.one none_bound

  tight : (V : Types) → Loose b.nodes V → Loose mid.nodes V
  tight V h = loose_with_var old mid v l o V at.made (at.tight V h)

  abbrev held : ℕ → List ℕ
  held k = p.reached.held k ++ F.held k

  local_mid : Local F.start mid.nodes F.types own_mid.0 F.roots held F.level
  local_mid =
      let step : Local a.nodes mid.nodes own_a.0 own_mid.0 [] held F.level = local_node old mid v (Var l o) own_a.0 own_mid.0 held F.level own_a.1 own_mid.1 at.made
      (λ k l' o' lt e le. let i = at.held k (let f : l ≡ l' = cc in omega arith) lt in
      any_after v own_mid.0 (p.reached.held k) (F.held k) (any_in v own_mid.0 (F.held k) i.0 v i.1 (ap (occurs v) (own_mid.1.vars v l o there) ∙ eqb_same v))) in
      local_then F.start a.nodes mid.nodes F.types own_a.0 own_mid.0 F.roots [] p.reached.held held F.level p.reached.frame.own own_a.1 own_mid.1 (p.reached.local own_a.0 own_a.1) step
      (λ k d e. absurd (none_there k d e)) (λ k u lt h. any_before u own_mid.0 (p.reached.held k) (F.held k) h)
    where
      none_there : (k d : ℕ) → slice_get [] k ≡ Some d → ⊥
      none_there k d e = cc

  unified_step : (K : Types) → IsOwn b.nodes K → Local mid.nodes b.nodes own_mid.0 K (v ∷ m ∷ []) (λ k. []) F.level
  unified_step K own = local_unified mid.nodes b.nodes own_mid.0 K v m F.level own_mid.1 own one none_bound tight

  local : (K : Types) → IsOwn b.nodes K → Local F.start b.nodes F.types K F.roots held F.level
  local K own = local_then F.start mid.nodes b.nodes F.types own_mid.0 K F.roots (v ∷ m ∷ []) held held F.level p.reached.frame.own own_mid.1 own local_mid
      (local_more mid.nodes b.nodes own_mid.0 K (v ∷ m ∷ []) (v ∷ m ∷ []) (λ k. []) held F.level F.level own (omega arith) (λ k c e. (k, e)) (λ k u lt h. absurd (no_yes h)) (unified_step K own))
      both (λ k u lt h. h)
    where
      both : (k d : ℕ) → slice_get (v ∷ m ∷ []) k ≡ Some d → Within F.start F.roots d × (d < length mid.nodes)
      both zero d e =
          let s : v ≡ d = cc in
          (subst (Within F.start F.roots) s (new_within F.start F.roots v (let q = (p.reached.local own_a.0 own_a.1).refines.longer in let n = at.made.added.number in omega arith)), subst (λ j. j < length mid.nodes) s (slice_get_within mid.nodes v (Var l o) there))
      both (suc zero) d e = let s : m ≡ d = cc in (subst (Within F.start F.roots) s p.within, subst (λ j. j < length mid.nodes) s (let i = p.inside in let q = extends.longer in omega arith))
      both (suc (suc k)) d e = absurd (cc)

  -- the state is reached
  pub limit_reached : Reaches F b
  limit_reached = record {
    frame = p.reached.frame;
    sound = at.sound;
    level = at.rest.level ∙ p.reached.level;
    held = held;
    only_held = λ k n lt i. elim (either (p.reached.held k) (F.held k) n i) [ inl h ↦ still k n (p.reached.only_held k n lt h) | inr h ↦ inl h ];
    local = local;
  }
    where
      either : (xs ys : List ℕ) (n : ℕ) → IsIn (xs ++ ys) n → IsIn xs n ⊎ IsIn ys n
      either [] ys n h = inr h
      either (x ∷ xs) ys n (zero, e) = inl (zero, e)
      either (x ∷ xs) ys n (suc k, e) = elim (either xs ys n (k, e)) [ inl (j, f) ↦ inl (suc j, f) | inr f ↦ inr f ]

      still : (k n : ℕ) → IsHeld F a k n → IsHeld F b k n
      still k n (inl h) = inl h
      still k n (inr (le, (x, e))) = inr (le, (x, at.rest.written x ∙ e))

  refines : (K : Types) → IsOwn b.nodes K → Refines a.nodes b.nodes K
  refines K own = refines_then a.nodes mid.nodes b.nodes own_mid.0 K own_mid.1 own refines_mid (unified_step K own).refines

  longer : length a.nodes ≤ length b.nodes
  longer = let e = one.len in let q = extends.longer in omega arith

  pub limit_stays : {G : Letters} → Stays F a G b G
  limit_stays {G} = record {
    longer = longer;
    loose = at.tight;
    reads = λ V r. reading_before a.nodes mid.nodes V extends (one.read V r).0;
    refines = λ r. refines;
    reaches = λ r. limit_reached;
    writes = written_next at.rest.written (λ r. limit_reached) (λ r. refines);
    recorded = λ i k x e. at.rest.types i k ∙ e;
    keeps = keeps_as at.rest.noted at.rest.scopes at.rest.types;
    written = λ x n e. at.rest.written x ∙ e;
    given = λ V ch h. h;
    opens = copied_same G;
    inside = inside_longer a b at.rest.types at.rest.written longer;
    aloud = at.rest.aloud;
    item = at.rest.item;
    level = at.rest.level;
    fixed = at.rest.fixed;
  }

  -- what stands in the variable of the limit is of at most its level from then on
  pub limit_low : (K : Types) → IsOwn b.nodes K → IsContext b.nodes K (v ∷ []) l
  limit_low K own = record {
    inside = inside;
    low = λ u k i h e free. elim (or_cases (occurs u (K v)) false h) [ inl j ↦ (unified_step K own).refines.falls v l o u k i there at.free e j | inr j ↦ absurd (no_yes j) ];
  }
    where
      inside : (k c : ℕ) → slice_get (v ∷ []) k ≡ Some c → c < length b.nodes
      inside zero c e = let s : v ≡ c = cc in subst (λ n. n < length b.nodes) s (let i = slice_get_within mid.nodes v (Var l o) there in let n = one.len in omega arith)
      inside (suc k) c e = absurd (cc)

-- `limit`: the type's origins are in the scope
pub limit_asked : {F : Frame} {a b : Sight} {mid : State} {v l o m : ℕ} {scope : Scope} {G : Letters} {type : Choice → Typ} {asks : Asks} → Limited F a b mid v l o m → Means F a G type m → LimitAsks o type asks → Carried F scope asks a G b G
limit_asked {F} {a} {b} {mid} {v} {l} {o} {m} {scope} {G} {type} {asks} at p limits = record {
  stays = stays;
  hidden = [];
  settled = settles_none;
  clear = λ known placed. none_doubtful;
  judged = [];
  told = [];
  reports = at.rest.reports ∙ sym (append-nil a.reports);
  counted = refl;
  sound = λ reached V c r.
      let before = (one at p.open_node).read V r.reads in
      let here : IsInScope o (V v) = before.0.fits.each v (Var l o) (there at p.open_node) at.free in
      let is = p.is V c.chosen (stays.loose V (fits_loosely b.nodes V r.reads.fits)) (agrees_before stays r.agrees) in
      record { same = limits.silent c; holds = limits.holds c (subst (IsInScope o) (before.1 ∙ sym is) here); tells = limits.reports_none c; sees = seen_none (IsSeen r.scopes r.types V) (asks c) (limits.treats c); starts = start_none (asks c) (limits.treats c) };
  follows = λ reached V c r. follows_silent c.kept (asks c) (limits.silent c);
  complete = λ named V c e h. inl (goes V c e (limits.gives c h));
  first = λ named k V c e h. inl (subst (StartsWith []) (sym (limits.silent_first k c)) (starts_none []));
  stops = none_stop;
}
  where
    stays : Stays F a G b G
    stays = limit_stays at p.open_node

    goes : (V : Types) (c : Context) → Enters F scope a G V c → IsInScope o (type c.chosen) → Continues F asks a b G [] [] V c
    goes V c e here =
        let is = p.is V c.chosen (fits_loosely a.nodes V e.fits) e.agrees in
        let W : Types = with_type V v (V m) in
        let own : W v ≡ V m = at_own V v (V m) in
        let older : (n : ℕ) → n < length a.nodes → W n ≡ V n = λ n lt. at_older V v (V m) n (let q = at.made.added.number in omega arith) in
        let fits : Fits mid.nodes W = fits_made (state a.nodes at.before) mid v (Var l o) p.open_node.reached.sound at.made V (V m) e.fits (λ free. subst (IsInScope o) (is ∙ sym own) here) in
        record {
          same = limits.silent c;
          types = W;
          on = record {
            fits = under_fits (λ n. 0) b.nodes W ((one at p.open_node).fits (λ n. 0) W (fits_under mid.nodes W fits) (own ∙ sym (older m p.open_node.inside)));
            before = older;
            agrees = agrees_same a b at.rest.types at.rest.written e.inside older e.agrees;
          };
          hidden_too = (tt, tt);
        }
