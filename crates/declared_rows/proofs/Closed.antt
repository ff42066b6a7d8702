-- Once the variables of roots are bound, each root that denoted a type stands for it, as a type of the declaration.
use Rattle.std.proofs.Common.{◌≡◌, ◌≢◌, ◌∙◌, inl, inr, ℕ, zero, suc, ◌<◌, ◌≤◌, true, List, [], ◌∷◌, ◌++◌, length, nat_le, Some, sym, ap, subst, arith}
use Rattle.std.specs.Prelude.{slice_get}
use Rattle.std.proofs.lemmas.Bool.{eqb-true, leb-true}
use Rattle.std.proofs.lemmas.Option.{slice_get_within}
use Rattle.type_model.specs.Types.{Path, Typ, occurs}
use Rattle.type_model.proofs.Applying.{or_cases, apply_agree, eqb_same}
use Rattle.signature_model.specs.Matching.{is_unknown}
use Rattle.type_nodes.specs.Nodes.{Node, Var, bound_level}
use Rattle.type_nodes.specs.Readings.{Types, IsReading}
use Rattle.typing_conditions.specs.Locals.{IsLow, IsPlain, IsOwn, IsLowBy, stands_in_any, all_pass, Local, ClosesAll, Refines}
use Rattle.typing_conditions.specs.Standing.{IsIn}
use Rattle.typing_conditions.specs.Declared.{IsNamed, RootAs}
use Rattle.typing_conditions.specs.Declared as named
use Rattle.typing_conditions.specs.Sights.{Sight}
use Rattle.typing_conditions.specs.Frames.{Frame, IsOpen}
use Rattle.typing_conditions.proofs.Regions.{any_in, in_any, region, region_is, passed}
use Rattle.typing_conditions.proofs.Steps.{same_node, stands_before, old_or_new}
use Rattle.typing_conditions.proofs.Own.{own_of}
use Rattle.typing_conditions.proofs.Closing.{own_reopened, refines_closed}
use Rattle.typing_conditions.proofs.Fresh.{reads_closed}
use Rattle.declared_rows.specs.Assignments.{IsAssigned, a_parameter, an_unknown, Assignment, Assigns, Denotes, IsDeclaring}

-- a path with one more number is that of an unknown type where it was
unknown_longer : (o : Path) (n : ℕ) → is_unknown o ≡ true → is_unknown (o ++ n ∷ []) ≡ true
unknown_longer [] n u = absurd (cc)
unknown_longer (k ∷ o) n u = u

module _ {F : Frame} {arity : ℕ} {U : List ℕ} {b : Sight} {A : Assignment} (declaring : IsDeclaring F) (at : Assigns F arity U b A) where
  -- a bound variable of the roots is one still
  still_bound : (K : Types) → IsOwn b.nodes K → (v : ℕ) → stands_in_any F.types F.roots v ≡ true → (scope : ℕ) × (slice_get b.nodes v ≡ Some (Var bound_level scope))
  still_bound K own v h = let (scope, e) = declaring.bound v h in (scope, (at.reached.local K own).refines.bounds v scope e)

  -- a free variable of an open node was made since the start
  pub made_since : {r : ℕ} (K : Types) → IsOwn b.nodes K → IsOpen F b r → (v : ℕ) → occurs v (K r) ≡ true → length F.start ≤ v
  made_since {r} K own o v h = elim (old_or_new v (length F.start)) [ inr le ↦ le | inl lt ↦ absurd (old lt) ]
    where
      local : Local F.start b.nodes F.types K F.roots at.reached.held F.level
      local = at.reached.local K own

      low : IsLow b.nodes F.level v
      low = o.free K own v h

      in_region : region F.start F.types F.roots v ≡ true
      in_region =
          let is = region_is F.start F.types F.roots at.reached.frame.own.loose in
          (own.stands r v o.inside h).each (region F.start F.types F.roots) (local.closed (region F.start F.types F.roots) is) (o.within.each (region F.start F.types F.roots) is)

      old : v < length F.start → ⊥
      old lt =
          let passes : all_pass (stands_in_any F.types F.roots) (F.types v) ≡ true = elim (or_cases (nat_le (length F.start) v) (all_pass (stands_in_any F.types F.roots) (F.types v)) in_region) [ inl i ↦ absurd (let le = leb-true (length F.start) v i in omega arith) | inr i ↦ i ] in
          let here : occurs v (K v) ≡ true = ap (occurs v) (own.vars v low.level low.scope low.at) ∙ eqb_same v in
          let (m, p, q) = stands_before F.start F.types K at.reached.frame.own (local.refines.loose K own.loose) v v here in
          let (scope, e) = still_bound K own m (passed (stands_in_any F.types F.roots) (F.types v) m passes p) in
          let s : v ≡ m = eqb-true v m (ap (occurs v) (sym (own.vars m bound_level scope e)) ∙ q) in
          low.free (same_node b.nodes v low.level low.scope bound_level scope low.at (ap (slice_get b.nodes) s ∙ e))

  -- and it is above the level around
  pub made_above : {r : ℕ} (K : Types) → IsOwn b.nodes K → IsOpen F b r → (v l o : ℕ) → occurs v (K r) ≡ true → slice_get b.nodes v ≡ Some (Var l o) → l ≢ bound_level → 0 < l
  made_above {r} K own o v zero scope h e free = absurd (by (local.sources 0 v (let f = declaring.level in omega arith) low))
    where
      local : Local F.start b.nodes F.types K F.roots at.reached.held F.level
      local = at.reached.local K own

      low : IsLow b.nodes 0 v
      low = record { level = 0; scope = scope; at = e; free = free; low = omega arith }

      by : IsLowBy F.start F.types K F.roots (at.reached.held 0) 0 v → ⊥
      by (inl s) = elim s.within [
        | inl same ↦ let le = made_since K own o v h in let lt = slice_get_within F.start s.source (Var s.was.level s.was.scope) s.was.at in absurd (omega arith)
        | inr stands ↦ let (scope', f) = declaring.bound s.source stands in s.was.free (same_node F.start s.source s.was.level s.was.scope bound_level scope' s.was.at f)
      ]
      by (inr held) =
          let a = in_any v K (at.reached.held 0) held in
          elim (at.reached.only_held 0 a.node (let f = declaring.level in omega arith) (a.place, a.at)) [ inl i ↦ declaring.held 0 a.node i | inr (le, w) ↦ absurd (omega arith) ]
  made_above K own o v (suc l) scope h e free = omega arith

  -- the name of a variable that is bound now
  bound_name : {nodes : List Node} {N : Types} {v o : ℕ} → N v ≡ A.types v → slice_get nodes v ≡ Some (Var bound_level o) → IsAssigned A.types A.older U arity o v → IsNamed nodes N arity v
  bound_name {o = o} same e (a_parameter k scoped lt is) = named.a_parameter o k e scoped lt (same ∙ is)
  bound_name {nodes} {N} {v} {o} same e (an_unknown p n scope u i new is) = named.an_unknown (p ++ n ∷ []) (subst (λ s. slice_get nodes v ≡ Some (Var bound_level s)) scope e) (unknown_longer p n u) (same ∙ is)

  -- A root that denotes a type stands for it, once its variables are bound; the names of variables in the roots are those of the assignment.
  pub root_closed : {nodes : List Node} {R C : List ℕ} {N : Types} {r : ℕ} {t : Typ} → ((K : Types) → IsOwn b.nodes K → ClosesAll b.nodes nodes K R 0) → IsPlain nodes → ((I : Types) → IsOwn nodes I → (v : ℕ) → length F.start ≤ v → stands_in_any I R v ≡ true → N v ≡ A.types v) → IsIn R r → IsIn C r → Denotes A r t →
      RootAs nodes C N arity r t
  root_closed {nodes} {R} {C} {N} {r} {t} closes plain names listed among d = record {
    inside = let e = (closes own_b.0 own_b.1).len in let lt = open_root.inside in omega arith;
    among = among;
    known = λ I own. own.known plain r;
    is = λ I own. let own' = before I own in
        sym d.is ∙ own'.comes A.types at.loose r ∙ apply_agree A.types N (I r) (λ v o. sym (named_as I own v o));
    named = λ I own v o.
        let own' = before I own in
        let low = open_root.free I own' v o in
        let (k, e) = listed in
        bound_name (named_as I own v o) ((closes I own').binds v low.level low.scope low.at low.free (made_above I own' open_root v low.level low.scope o low.at low.free) (any_in v I R k r e o))
        (at.each I own' v low.level low.scope (stands I v o) low.at);
    apart = λ I own v w o p e.
        let own' = before I own in
        at.apart I own' v w (stands I v o) (stands I w p) (sym (named_as I own v o) ∙ e ∙ named_as I own w p);
  }
    where
      own_b : (J : Types) × IsOwn b.nodes J
      own_b = own_of b.nodes at.reached.sound

      open_root : IsOpen F b r
      open_root = at.opens r d.known

      before : (I : Types) → IsOwn nodes I → IsOwn b.nodes I
      before I own = own_reopened b.nodes nodes own_b.0 I R 0 own (closes own_b.0 own_b.1)

      named_as : (I : Types) → IsOwn nodes I → (v : ℕ) → occurs v (I r) ≡ true → N v ≡ A.types v
      named_as I own v o = let (k, e) = listed in names I own v (made_since I (before I own) open_root v o) (any_in v I R k r e o)

      stands : (I : Types) (v : ℕ) → occurs v (I r) ≡ true → stands_in_any I A.nodes v ≡ true
      stands I v o = let (k, e) = d.known in any_in v I A.nodes k r e o

  module _ {nodes : List Node} {R : List ℕ} (closes : (K : Types) → IsOwn b.nodes K → ClosesAll b.nodes nodes K R 0) (opens : (k r : ℕ) → slice_get R k ≡ Some r → IsOpen F b r) where
    own_now : (J : Types) × IsOwn b.nodes J
    own_now = own_of b.nodes at.reached.sound

    -- The whole refines types: it makes new ones, and binds them.
    pub refines_declared : (K : Types) → IsOwn nodes K → Refines F.start nodes K
    refines_declared K own =
        let before = own_reopened b.nodes nodes own_now.0 K R 0 own (closes own_now.0 own_now.1) in
        refines_closed F.start b.nodes nodes F.types K F.roots R at.reached.held 0 at.reached.frame.own before
        (record { inside = at.reached.frame.context.inside; low = λ v l o h e free. let (scope, f) = declaring.bound v h in absurd (free (same_node F.start v l o bound_level scope e f)) })
        (subst (λ l. Local F.start b.nodes F.types K F.roots at.reached.held l) declaring.level (at.reached.local K before))
        (λ k r e. let o = opens k r e in (o.inside, o.within))
        (λ v l o h e free. let a = in_any v K (at.reached.held 0) h in absurd (elim (at.reached.only_held 0 a.node (let f = declaring.level in omega arith) (a.place, a.at)) [ inl i ↦ declaring.held 0 a.node i | inr (le, w) ↦ absurd (omega arith) ]))
        (closes K before)

    -- And each reading was one.
    pub reads_declared : ((V : Types) → IsReading b.nodes V → IsReading F.start V) → (V : Types) → IsReading nodes V → IsReading F.start V
    reads_declared reads V h = reads V (reads_closed b.nodes nodes own_now.0 V R 0 (closes own_now.0 own_now.1) h)
