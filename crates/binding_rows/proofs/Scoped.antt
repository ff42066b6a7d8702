-- Types that are limited to the origins of a scope: the conditions that they were made before are carried, or no reading ever meets one of them.
use Rattle.std.proofs.Common.{◌≡◌, ◌≢◌, ◌∙◌, ◌⊎◌, inl, inr, ℕ, zero, suc, ◌<◌, ◌≤◌, false, List, [], ◌∷◌, map, length, Option, None, Some, refl, sym, ap, subst, arith}
use Rattle.std.specs.Prelude.{slice_get}
use Rattle.std.proofs.lemmas.Bool.{eqb-true}
use Rattle.std.proofs.lemmas.Option.{slice_get_within}
use Rattle.type_model.specs.Types.{Typ, types_of, occurs}
use Rattle.type_model.specs.Limits.{IsInScope, AreInScope}
use Rattle.typing_model.specs.Demands.{made}
use Rattle.typing_model.specs.Contexts.{Choice}
use Rattle.type_nodes.specs.Nodes.{Node, Var, Rigid, Link, Arrow, Tuple, Con, bound_level, IsSound}
use Rattle.type_nodes.specs.Readings.{Types, IsReading}
use Rattle.type_nodes.specs.States.{State}
use Rattle.type_nodes.specs.Changes.{Makes}
use Rattle.type_nodes.proofs.Identity.{built_from, read_in, identity, identity_reads}
use Rattle.type_nodes.proofs.Lists.{get-append_cases}
use Rattle.level_unify.specs.Solutions.{HaveNoBound}
use Rattle.level_unify.specs.Unification.{Unified}
use Rattle.level_unify.proofs.Variants.{bound_there}
use Rattle.typing_state.specs.declared.parts.Parts.{Parts}
use Rattle.typing_state.specs.Types.{level_for}
use Rattle.typing_conditions.specs.Locals.{IsOwn, Refines}
use Rattle.typing_conditions.proofs.Own.{own_of}
use Rattle.typing_conditions.proofs.Steps.{refines_made}
use Rattle.typing_conditions.proofs.Instances.{open_nodes}
use Rattle.typing_conditions.proofs.Later.{result_after}
use Rattle.typing_conditions.specs.Sights.{Letters}
use Rattle.typing_conditions.specs.Frames.{Frame, IsOpen}
use Rattle.typing_conditions.specs.Meanings.{AllMean, one_means, none_mean, Means}
use Rattle.typing_conditions.specs.Carrying.{Scope, Carried}
use Rattle.typing_conditions.proofs.Carried.{carried_refl, carried_trans}
use Rattle.typing_conditions.proofs.Framing.{sound_made}
use Rattle.typing_conditions.proofs.Making.{with_type, at_own, at_older, fits_made, makes_extends, made_here}
use Rattle.typing_conditions.proofs.Meaning.{open_unbound, all_mean_on, all_open}
use Rattle.typing_steps.specs.States.{sight}
use Rattle.typing_steps.proofs.Joining.{with_level, scope_limited}
use Rattle.typing_steps.proofs.Limiting.{Limited, made_asked, limit_asked}
use Rattle.binding_rows.specs.Closing.{Limit, limit_nodes}
use Rattle.binding_rows.specs.Scopes.{ScopesOne, ScopesAll, CanBeMade, NeverMade, AllInScope, InsideAll, all_made}

-- A reading goes on to a new variable: it has any type in its scope in which no bound variable stands.
fresh_reading : (old new : State) (v l o : ℕ) (V : Types) (t : Typ) → IsSound old.nodes → Makes old new v (Var l o) → l ≢ bound_level → IsReading old.nodes V → IsInScope o t →
    ((b s : ℕ) → slice_get old.nodes b ≡ Some (Var bound_level s) → occurs b t ≡ false) → IsReading new.nodes (with_type V v t)
fresh_reading old new v l o V t sound makes free reads here none = record {
  fits = fits_made old new v (Var l o) sound makes V t reads.fits (λ open_here. subst (IsInScope o) (sym (at_own V v t)) here);
  own = λ n s e. let (lt, f) = bound_old n s e in older n lt ∙ reads.own n s f;
  apart = λ n k s b s' e open_here e'.
      let (lt, f) = bound_old b s' e' in
      elim (get-append_cases old.nodes (Var l o) n (Var k s) (ap (λ ns. slice_get ns n) (sym makes.added.nodes) ∙ e)) [
        | inl g ↦ ap (occurs b) (older n (slice_get_within old.nodes n (Var k s) g)) ∙ reads.apart n k s b s' g open_here f
        | inr (p, q) ↦ ap (occurs b) (ap (with_type V v t) (p ∙ sym makes.added.number) ∙ at_own V v t) ∙ none b s' f
      ];
}
  where
    older : (n : ℕ) → n < length old.nodes → with_type V v t n ≡ V n
    older n lt = at_older V v t n (let e = makes.added.number in omega arith)

    -- a bound variable is an old one
    bound_old : (b s : ℕ) → slice_get new.nodes b ≡ Some (Var bound_level s) → (b < length old.nodes) × (slice_get old.nodes b ≡ Some (Var bound_level s))
    bound_old b s e = elim (get-append_cases old.nodes (Var l o) b (Var bound_level s) (ap (λ ns. slice_get ns b) (sym makes.added.nodes) ∙ e)) [
      | inl f ↦ (slice_get_within old.nodes b (Var bound_level s) f, f)
      | inr (p, q) ↦ absurd (free (let f : bound_level ≡ l = cc in sym f))
    ]

-- One limit: a new variable of a scope is joined with an open node.
module _ {F : Frame} {a b : Parts} (k level scope : ℕ) {l : Limit} (one : ScopesOne a b level scope l) (p : IsOpen F (with_level k (sight a)) l.node) (below : F.level ≤ level_for level) (free : level_for level ≢ bound_level) where
  there : slice_get one.mid.nodes l.variable ≡ Some (Var (level_for level) scope)
  there = made_here a.store one.mid l.variable (Var (level_for level) scope) one.makes

  own_old : (I : Types) × IsOwn a.store.nodes I
  own_old = own_of a.store.nodes p.reached.sound

  own_mid : (J : Types) × IsOwn one.mid.nodes J
  own_mid = own_of one.mid.nodes (sound_made (sight a) (record (sight a) { nodes = one.mid.nodes }) p.reached.sound one.makes (λ k d lt. absurd (omega arith)))

  refines_mid : Refines a.store.nodes one.mid.nodes own_mid.0
  refines_mid = let e = makes_extends a.store one.mid l.variable (Var (level_for level) scope) one.makes in refines_made a.store.nodes one.mid.nodes own_mid.0 own_mid.1 (record { longer = e.longer; node = e.node })

  -- no bound variable stands in either of the two
  none_bound : HaveNoBound one.mid.nodes l.variable l.node
  none_bound = open_nodes one.mid.nodes own_mid.0 l.variable l.node own_mid.1
      (λ u h. let s = eqb-true u l.variable (ap (occurs u) (sym (own_mid.1.vars l.variable (level_for level) scope there)) ∙ h) in record { level = level_for level; scope = scope; at = ap (slice_get one.mid.nodes) s ∙ there; free = free })
      (λ u h.
      let r = result_after F.start a.store.nodes one.mid.nodes own_old.0 own_mid.0 F.roots F.level l.node own_old.1 own_mid.1 refines_mid (record { inside = p.inside; within = p.within; free = p.free own_old.0 own_old.1 }) in
      let f = r.free u h in record { level = f.level; scope = f.scope; at = f.at; free = f.free })

  variable_inside : l.variable < length one.mid.nodes
  variable_inside = slice_get_within one.mid.nodes l.variable (Var (level_for level) scope) there

  node_inside : l.node < length one.mid.nodes
  node_inside = let i = p.inside in let e = (makes_extends a.store one.mid l.variable (Var (level_for level) scope) one.makes).longer in omega arith

  older : (V : Types) (t : Typ) (n : ℕ) → n < length a.store.nodes → with_type V l.variable t n ≡ V n
  older V t n lt = at_older V l.variable t n (let q = one.makes.added.number in omega arith)

  -- a reading in which the node's type is in the scope goes on to the new variable
  reads_there : (V : Types) → IsReading a.store.nodes V → IsInScope scope (V l.node) → IsReading one.mid.nodes (with_type V l.variable (V l.node))
  reads_there V reads here = fresh_reading a.store one.mid l.variable (level_for level) scope V (V l.node) p.reached.sound one.makes free reads here
      (λ b s e. open_unbound p V reads b (bound_there a.store.nodes b (Var bound_level s) e refl))

  alike : (V : Types) → with_type V l.variable (V l.node) l.variable ≡ with_type V l.variable (V l.node) l.node
  alike V = at_own V l.variable (V l.node) ∙ sym (older V (V l.node) l.node p.inside)

  -- the two were made one, or no reading gives the node a type in the scope
  joined_or_never : Unified one.mid.nodes b.store.nodes l.variable l.node ⊎ NeverMade a.store.nodes scope l.node
  joined_or_never = elim (one.joins variable_inside node_inside) [
    | inl made_one ↦ inl (made_one none_bound)
    | inr (same, apart) ↦ inr (record { never = λ V reads here. (apart none_bound).never (with_type V l.variable (V l.node)) (reads_there V reads here) (alike V) })
  ]

  -- a limit that was made
  limited_by : Unified one.mid.nodes b.store.nodes l.variable l.node → Limited F (with_level k (sight a)) (with_level k (sight b)) one.mid l.variable (level_for level) scope l.node
  limited_by unified = scope_limited a b k level p one.makes (λ here inside none. unified) one.rest one.goes one.sound (λ i le lt. absurd (omega arith))

  -- The condition that the type was made before the scope is carried, or no reading ever meets it.
  pub scoped_or_never : {in_scope : Scope} {G : Letters} {type : Choice → Typ} → Means F (with_level k (sight a)) G type l.node →
      Carried F in_scope (λ c. made scope (type c.chosen) ∷ []) (with_level k (sight a)) G (with_level k (sight b)) G ⊎ NeverMade a.store.nodes scope l.node
  scoped_or_never {type = type} means = elim joined_or_never [ inl unified ↦ inl (limit_asked (limited_by unified) means (made_asked scope type)) | inr never ↦ inr never ]

  -- where some reading meets it, it goes on to one that meets it
  can_go_on : {ms : List ℕ} → Unified one.mid.nodes b.store.nodes l.variable l.node → ((i m : ℕ) → slice_get ms i ≡ Some m → m < length a.store.nodes) → CanBeMade a.store.nodes scope (l.node ∷ ms) → CanBeMade b.store.nodes scope ms
  can_go_on {ms} unified inside can = record {
    types = with_type can.types l.variable (can.types l.node);
    reads = unified.reads (with_type can.types l.variable (can.types l.node)) (reads_there can.types can.reads (can.made zero l.node refl)) (alike can.types);
    made = λ i m e. subst (IsInScope scope) (sym (older can.types (can.types l.node) m (inside i m e))) (can.made (suc i) m e);
  }

-- Types are limited to a scope, one after the other, in a frame below the limits' level: the conditions that they were made before it are carried, or no reading meets them all.
pub scopes_or_never : {F : Frame} {in_scope : Scope} {G : Letters} {types : List (Choice → Typ)} (a b : Parts) (k level scope : ℕ) (ls : List Limit) → AllMean F (with_level k (sight a)) G types (limit_nodes ls) → ScopesAll a b level scope ls → F.level ≤ level_for level → level_for level ≢ bound_level →
    Carried F in_scope (λ c. all_made scope c.chosen types) (with_level k (sight a)) G (with_level k (sight b)) G ⊎ (CanBeMade a.store.nodes scope (limit_nodes ls) → ⊥)
scopes_or_never {F} {in_scope} {G} a b k level scope [] none_mean same below free = inl (subst (λ x. Carried F in_scope (λ c. []) (with_level k (sight a)) G (with_level k (sight x)) G) (sym same) carried_refl)
scopes_or_never {F} {in_scope} {G} a b k level scope (l ∷ ls) (one_means {type = t} {types = ts} p ps) (c, one, rest) below free =
    elim (joined_or_never k level scope one p.open_node below free) [
      | inr never ↦ inr (λ can. never.never can.types can.reads (can.made zero l.node refl))
      | inl unified ↦
          let first : Carried F in_scope (λ x. made scope (t x.chosen) ∷ []) (with_level k (sight a)) G (with_level k (sight c)) G = limit_asked (limited_by k level scope one p.open_node below free unified) p (made_asked scope t) in
          elim (scopes_or_never {in_scope = in_scope} c b k level scope ls (all_mean_on first.stays ps) rest below free) [
            | inl others ↦ inl (carried_trans first others)
            | inr never ↦ inr (λ can. never (can_go_on k level scope one p.open_node below free unified (λ i m e. (all_open ps i m e).inside) can))
          ]
    ]

-- So they are carried where some reading meets them all.
pub scopes_carried : {F : Frame} {in_scope : Scope} {G : Letters} {types : List (Choice → Typ)} (a b : Parts) (k level scope : ℕ) (ls : List Limit) → AllMean F (with_level k (sight a)) G types (limit_nodes ls) → ScopesAll a b level scope ls → F.level ≤ level_for level → level_for level ≢ bound_level →
    CanBeMade a.store.nodes scope (limit_nodes ls) → Carried F in_scope (λ c. all_made scope c.chosen types) (with_level k (sight a)) G (with_level k (sight b)) G
scopes_carried a b k level scope ls means all below free can = elim (scopes_or_never a b k level scope ls means all below free) [ inl carried ↦ carried | inr never ↦ absurd (never can) ]

-- And they are carried where each type was made one with its variable.
pub inside_carried : {F : Frame} {in_scope : Scope} {G : Letters} {types : List (Choice → Typ)} (a b : Parts) (k level scope : ℕ) (ls : List Limit) → AllMean F (with_level k (sight a)) G types (limit_nodes ls) → InsideAll a b level scope ls → F.level ≤ level_for level → level_for level ≢ bound_level →
    Carried F in_scope (λ c. all_made scope c.chosen types) (with_level k (sight a)) G (with_level k (sight b)) G
inside_carried {F} {in_scope} {G} a b k level scope [] none_mean same below free = subst (λ x. Carried F in_scope (λ c. []) (with_level k (sight a)) G (with_level k (sight x)) G) (sym same) carried_refl
inside_carried {F} {in_scope} {G} a b k level scope (l ∷ ls) (one_means {type = t} {types = ts} p ps) (c, one, here, rest) below free =
    let first : Carried F in_scope (λ x. made scope (t x.chosen) ∷ []) (with_level k (sight a)) G (with_level k (sight c)) G =
    limit_asked (limited_by k level scope one p.open_node below free (here (none_bound k level scope one p.open_node below free))) p (made_asked scope t) in
    carried_trans first (inside_carried c b k level scope ls (all_mean_on first.stays ps) rest below free)

-- where each type is limited the level is as before
pub scoped_level : (a b : Parts) (level scope : ℕ) (ls : List Limit) → ScopesAll a b level scope ls → b.level ≡ a.level
scoped_level a b level scope [] same = ap (λ (p : Parts). p.level) same
scoped_level a b level scope (l ∷ ls) (c, one, rest) = scoped_level c b level scope ls rest ∙ one.rest.level

pub inside_level : (a b : Parts) (level scope : ℕ) (ls : List Limit) → InsideAll a b level scope ls → b.level ≡ a.level
inside_level a b level scope [] same = ap (λ (p : Parts). p.level) same
inside_level a b level scope (l ∷ ls) (c, one, here, rest) = inside_level c b level scope ls rest ∙ one.rest.level

-- the types that are built of some are in a scope where these are
each_in_scope : (scope : ℕ) (P : Types) (ms : List ℕ) → ((m : ℕ) → IsInScope scope (P m)) → AreInScope scope (types_of (map P ms))
each_in_scope scope P [] h = tt
each_in_scope scope P (m ∷ ms) h = (h m, each_in_scope scope P ms h)

built_in_scope : (nodes : List Node) (scope : ℕ) → AllInScope nodes scope → (P : Types) → ((m : ℕ) → IsInScope scope (P m)) → (n : ℕ) (c : Node) → slice_get nodes n ≡ Some c → IsInScope scope (built_from P n (Some c))
built_in_scope nodes scope all P h n (Var l o) e = tt
built_in_scope nodes scope all P h n Rigid e = absurd (all.none_rigid n e)
built_in_scope nodes scope all P h n (Link m) e = h m
built_in_scope nodes scope all P h n (Arrow a b) e = (h a, h b)
built_in_scope nodes scope all P h n (Tuple ms) e = each_in_scope scope P ms h
built_in_scope nodes scope all P h n (Con p name ms) e = (all.each n p name ms e, each_in_scope scope P ms h)

read_in_scope : (nodes : List Node) (scope : ℕ) → AllInScope nodes scope → (k n : ℕ) → IsInScope scope (read_in k nodes n)
read_in_scope nodes scope all zero n = tt
read_in_scope nodes scope all (suc k) n = at (read_in_scope nodes scope all k) (slice_get nodes n) refl
  where
    at : ((m : ℕ) → IsInScope scope (read_in k nodes m)) → (o : Option Node) → slice_get nodes n ≡ o → IsInScope scope (built_from (read_in k nodes) n (slice_get nodes n))
    at go None e = subst (λ o. IsInScope scope (built_from (read_in k nodes) n o)) (sym e) tt
    at go (Some c) e = subst (λ o. IsInScope scope (built_from (read_in k nodes) n o)) (sym e) (built_in_scope nodes scope all (read_in k nodes) go n c e)

-- Where all origins of the store are in the scope, some reading meets the conditions: that in which each variable is itself.
pub can_be_made : (nodes : List Node) (scope : ℕ) (ms : List ℕ) → IsSound nodes → AllInScope nodes scope → CanBeMade nodes scope ms
can_be_made nodes scope ms (rank, ranked) all = record { types = identity rank nodes; reads = identity_reads nodes rank ranked; made = λ k m e. read_in_scope nodes scope all (suc (rank m)) m }
