-- The close of an item's `let`, at the lowest level: what its group touched, and the types of its names once they are generalised.
use Rattle.std.proofs.Common.{◌-◌, ◌^◌, ◌≡◌, ◌≢◌, ◌∙◌, inl, inr, ℕ, suc, ◌<◌, ◌≤◌, true, false, ◌||◌, List, [], ◌++◌, map, length, Some, refl, sym, ap, subst, arith, append-nil, ◌⊎◌}
use Rattle.std.specs.Prelude.{slice_get}
use Rattle.type_model.specs.Types.{occurs}
use Rattle.type_model.proofs.Applying.{or_left, or_right}
use Rattle.type_model.specs.Schemes.{Scheme}
use Rattle.signature_model.specs.Entries.{Environment, free_in}
use Rattle.signature_model.specs.Matching.{IsKnown}
use Rattle.token_model.specs.Kinds.{Tok}
use Rattle.typing_laws.proofs.Bools.{no_yes}
use Rattle.typing_model.specs.Contexts.{Choice, occurs_in, generalised_in}
use Rattle.typing_model.specs.Parts.{Binding}
use Rattle.typing_model.specs.Bindings.{names_of_group}
use Rattle.type_nodes.specs.Nodes.{Node, Var, bound_level}
use Rattle.type_nodes.specs.Readings.{Types, IsReading}
use Rattle.level_unify.specs.Solutions.{Loose}
use Rattle.level_unify.specs.Instances.{is_bound}
use Rattle.level_unify.proofs.Unified.{fits_loosely}
use Rattle.level_unify.proofs.Variants.{bound_cell, bound_there}
use Rattle.env_table.specs.declared.entries.Entry.{Entry}
use Rattle.typing_state.specs.declared.parts.Parts.{Parts}
use Rattle.typing_conditions.specs.Locals.{IsOwn, stands_in_any, Within, Refines, Local, ClosesAll}
use Rattle.typing_conditions.specs.Assumptions.{SchemeFits, SchemeReads}
use Rattle.typing_conditions.specs.Standing.{IsIn, Stands}
use Rattle.typing_conditions.proofs.Own.{own_of}
use Rattle.typing_conditions.proofs.Regions.{any_in, in_any}
use Rattle.typing_conditions.proofs.Steps.{same_node, stands_after}
use Rattle.typing_conditions.proofs.Closing.{closed_loose, own_reopened, local_closed}
use Rattle.typing_conditions.proofs.Generalised.{Fixes, name_fits, name_reads}
use Rattle.typing_conditions.proofs.Standing.{none_free}
use Rattle.typing_conditions.specs.Sights.{Sight, Key, Letters, Agrees}
use Rattle.typing_conditions.specs.Frames.{Frame, Reaches, IsHeld, IsOpenAt}
use Rattle.typing_conditions.specs.Meanings.{AllMean, KnowsWritten}
use Rattle.typing_conditions.specs.Carrying.{Asks, Carried}
use Rattle.typing_conditions.specs.Surroundings.{Declared}
use Rattle.typing_conditions.proofs.Carried.{carried_trans, carried_as, as_hides, done_then}
use Rattle.typing_conditions.proofs.Inward.{fixed_nodes, reached_inward, written_inward}
use Rattle.typing_conditions.proofs.Meaning.{open_unbound, all_open}
use Rattle.typing_conditions.proofs.Outward.{GoesOut}
use Rattle.typing_steps.specs.States.{sight}
use Rattle.binding_rows.specs.Closing.{Limit, limit_variables}
use Rattle.binding_rows.specs.Lets.{ToClose, AllToClose, bind_nodes, names_closed, limited_nodes, held_at, GroupToClose}
use Rattle.binding_rows.proofs.Limits.{LimitsCarried}
use Rattle.binding_rows.proofs.Closing.{limited_state, limits_asked, closed_out}
use Rattle.binding_rows.proofs.Held.{limited_means, held_same, to_close_on, all_names_bound, bound_open, limit_shares, limited_open, nodes_none}
use Rattle.pattern_rows.specs.Bounds.{AllBound}
use Rattle.typing_conditions.proofs.Keeping.{all_among, carried_kept, kept_copies}
use Rattle.typing_conditions.specs.Hiding.{HasCopy, ArePlaced, AreDone, AreSure}
use Rattle.typing_conditions.proofs.Hiding.{split_get, copy_itself, done_sure}
use Rattle.binding_rows.specs.ItemGroups.{item_scope, ItemGroup}
use Rattle.binding_rows.proofs.Starting.{in_either, fixed_none, own_start, item_roots, item_held, item_frame, group_frame, lowest, item_context, item_reached, goes_in, known_written, surrounds_item}
use Rattle.binding_rows.proofs.Lets.{held_here}

module _ {D : Declared} {n : ℕ} {ts : List Tok} {E : Choice → Environment} {asks : Asks} {x : Parts} {y : Sight} {G : Letters} {s d : Parts} {env : List Entry} {xs : List Binding} {ys : List ToClose} {limits : List Limit} (l : ItemGroup D n ts E asks x y G s d env xs ys limits) where
  abbrev F : Frame
  F = item_frame l

  abbrev I : Frame
  I = group_frame l

  -- the names' nodes
  abbrev pub closed_nodes : List ℕ
  closed_nodes = bind_nodes (names_closed ys)

  -- the group, typed in its frame
  pub item_group : GroupToClose D env I (item_scope n ts E) asks y G (sight s) xs ys
  item_group = l.group I (surrounds_item l)

  -- the letters after the group
  abbrev pub item_letters : Letters
  item_letters = item_group.own ++ G

  level : s.level ≡ suc x.level
  level = item_group.carried.stays.level ∙ l.raised

  one_level : suc x.level < bound_level
  one_level = below x.level (lowest l)
    where
      below : (k : ℕ) → k ≡ 0 → suc k < 2 ^ 32 - 1
      below k e = omega arith

  -- the state once all is limited, seen at the level of the group
  abbrev pub item_limited : Sight
  item_limited = limited_state l.close

  limits_done : LimitsCarried I (item_scope n ts E) (sight s) item_limited item_letters x.level limits
  limits_done =
      let h = limited_means item_group.typed in
      limits_asked l.close x.level level one_level refl (λ v i. subst (λ ns. IsIn ns v) (sym (held_here x.level (limit_variables limits) (λ k. []))) i) (subst (AllMean I (sight s) item_letters h.types) (sym l.nodes) h.mean)

  -- the bindings, once all is limited
  pub item_typed : AllToClose D env I item_limited item_letters xs ys
  item_typed = to_close_on limits_done.carried.stays item_group.typed

  -- and their names
  pub item_bound : AllBound I item_limited item_letters (names_of_group xs) (names_closed ys)
  item_bound = all_names_bound item_typed

  pub item_out : GoesOut F (sight x) (own_start l).0 (item_roots l) (item_held l) closed_nodes item_limited (sight d)
  item_out = closed_out l.close level (sight x) (own_start l).0 (item_roots l) (item_held l) limits_done.limited (λ m i. subst (λ ns. IsIn ns m) (held_here x.level (limit_variables limits) (λ k. [])) i) (bound_open item_bound)

  -- what is asked inside the item, with the letters of the group open
  item_open : Carried I (item_scope n ts E) asks y G item_limited item_letters
  item_open = carried_as (λ c. append-nil (asks c)) (carried_trans item_group.carried limits_done.carried)

  -- these are without doubt: their rows are done
  item_sure : I.known ≡ true → ArePlaced item_limited → AreSure y item_limited item_open.hidden item_group.own
  unfolding item_open carried_as item_group
  item_sure known placed =
      done_sure item_open.hidden item_open.settled placed (item_open.clear known placed)
      (subst (λ hidden. AreDone item_limited hidden item_group.own) (sym (as_hides (λ c. append-nil (asks c)) (carried_trans item_group.carried limits_done.carried))) (done_then item_group.carried limits_done.carried item_group.done))

  -- what is asked inside the item is carried in the group's frame
  pub item_part : Carried I (item_scope n ts E) asks y G item_limited item_letters
  item_part = carried_kept item_group.own item_group.own (all_among item_group.own) item_open item_sure

  -- the letters that are open then were so before, or are hidden too
  pub item_copies : (k : ℕ) (x : Key × ℕ) → slice_get item_letters k ≡ Some x → HasCopy G x ⊎ HasCopy item_part.hidden x
  unfolding item_part
  item_copies k x e = elim (split_get item_group.own G k x e) [
    | inl r ↦ inr (kept_copies item_group.own item_group.own (all_among item_group.own) item_open item_sure r.0 x r.1)
    | inr r ↦ inl (copy_itself G r.0 x r.1)
  ]

  pub item_inside : Reaches I item_limited
  item_inside = item_part.stays.reaches (reached_inward (goes_in l) l.only l.raised)

  pub item_written : KnowsWritten I item_limited
  item_written = item_part.stays.writes (written_inward (goes_in l) l.only l.raised (known_written l))

  pub item_closes : (K : Types) × IsOwn item_limited.nodes K × ClosesAll item_limited.nodes d.store.nodes K closed_nodes x.level
  item_closes = let own = own_of item_limited.nodes item_inside.sound in (own.0, own.1, item_out.closes own.0 own.1)

  -- types that are the nodes' own after the close were so before it
  pub before_close : (M : Types) → IsOwn d.store.nodes M → IsOwn item_limited.nodes M
  before_close M own = let (K, own_k, closes) = item_closes in own_reopened item_limited.nodes d.store.nodes K M closed_nodes x.level own closes

  pub loose_before_close : (V : Types) → Loose d.store.nodes V → Loose item_limited.nodes V
  loose_before_close V h = let (K, own_k, closes) = item_closes in closed_loose item_limited.nodes d.store.nodes K closed_nodes x.level closes V h

  -- the names are nodes within the roots
  name_nodes : (k r : ℕ) → slice_get closed_nodes k ≡ Some r → (r < length item_limited.nodes) × Within x.store.nodes (item_roots l) r
  name_nodes k r e = let o = item_out.are_open k r e in (o.inside, o.within)

  -- what is held for the lowest level are the variables of the limits alone: written type variables are of the level above
  held_limit : (m : ℕ) → IsHeld I item_limited x.level m → IsIn (limit_variables limits) m
  held_limit m (inl i) = subst (λ ns. IsIn ns m) (held_here x.level (limit_variables limits) (λ k. [])) i
  held_limit m (inr (le, w)) = absurd (let e = lowest l in omega arith)

  only_limits : (m : ℕ) → IsIn (item_inside.held x.level) m → IsIn (limit_variables limits) m
  only_limits m i = held_limit m (item_inside.only_held x.level m (below x.level) i)
    where
      below : (k : ℕ) → k < suc k
      below k = omega arith

  -- and these are low
  held_low : (M : Types) → IsOwn item_limited.nodes M → (v k o : ℕ) → stands_in_any M (item_inside.held x.level) v ≡ true → slice_get item_limited.nodes v ≡ Some (Var k o) → k ≢ bound_level → k ≤ x.level
  held_low M own v k o h e free =
      let i = in_any v M (item_inside.held x.level) h in
      item_out.held_low M own i.node v k o (subst (λ ns. IsIn ns i.node) (sym (held_here x.level (limit_variables limits) (λ k. []))) (only_limits i.node (i.place, i.at))) i.occurs e free

  -- with its close the item touches only what stands in its roots
  pub item_local : (M : Types) → IsOwn d.store.nodes M → Local x.store.nodes d.store.nodes (own_start l).0 M (item_roots l) item_inside.held x.level
  item_local M own =
      let own_c = before_close M own in
      local_closed x.store.nodes item_limited.nodes d.store.nodes (own_start l).0 M (item_roots l) closed_nodes item_inside.held x.level (own_start l).1 own_c (item_context l (own_start l).0 (own_start l).1) (item_inside.local M own_c) name_nodes (held_low M own_c) (item_out.closes M own_c)

  pub item_refines : (M : Types) → IsOwn d.store.nodes M → Refines x.store.nodes d.store.nodes M
  item_refines M own = (item_local M own).refines

  -- the item's own frame reaches the state after it
  pub after_reached : Reaches F (sight d)
  after_reached = record {
    frame = (item_reached l).frame;
    sound = l.close.sound;
    level = one_less (sym item_out.lowered ∙ item_inside.level);
    held = item_inside.held;
    only_held = λ k m lt i. absurd (let e = lowest l in omega arith);
    local = item_local;
  }
    where
      one_less : {i j : ℕ} → suc i ≡ suc j → i ≡ j
      one_less {i} {j} e = omega arith

  -- a node of the lowest level that is open before the close is open after it
  open_after : (m : ℕ) → IsOpenAt I item_limited x.level m → IsOpenAt F (sight d) x.level m
  open_after m o = record {
    reached = after_reached;
    inside = let (K, own_k, closes) = item_closes in let q = closes.len in let i = o.inside in omega arith;
    within = o.within;
    free = λ M own v h.
        let f = o.free M (before_close M own) v h in
        let closes = item_out.closes M (before_close M own) in
        record { level = f.level; scope = f.scope; free = f.free; low = f.low; at = closes.stays v (λ i k e free above stands. let s : i ≡ f.level = same_node item_limited.nodes v i k f.level f.scope e f.at in let y = f.low in absurd (omega arith)) ∙ f.at };
  }

  limited_after : (m : ℕ) → IsIn (limited_nodes ys) m → IsOpenAt F (sight d) x.level m
  limited_after m (k, e) = open_after m (limited_open x.level limits limits_done.limited m (subst (λ ns. IsIn ns m) (sym l.nodes) (k, e)) (all_open (limited_means item_typed).mean k m e))

  -- what was bound before the close is bound after it
  pub still_bound : (v : ℕ) → is_bound item_limited.nodes v ≡ true → is_bound d.store.nodes v ≡ true
  still_bound v b =
      let (scope, at) = bound_cell item_limited.nodes v b in
      let (K, own_k, closes) = item_closes in
      bound_there d.store.nodes v (Var bound_level scope)
      (closes.stays v (λ k o e free above stands. absurd (free (same_node item_limited.nodes v k o bound_level scope e at))) ∙ at) refl

  -- The types that are held are those of the nodes that are limited, where the choice agrees with what was typed inside the item.
  pub held_is : (V : Types) (ch : Choice) → Loose d.store.nodes V → Agrees n item_limited item_letters V ch → map V (limited_nodes ys) ≡ held_at ch xs ys
  held_is V ch loose g = held_same item_typed V ch (loose_before_close V loose) g

  -- no bound variable is held
  none_held : (V : Types) → IsReading d.store.nodes V → (v : ℕ) → is_bound d.store.nodes v ≡ true → occurs_in v (map V (limited_nodes ys)) ≡ false
  none_held V reads v b = nodes_none V v (limited_nodes ys) (λ m i. open_unbound (limited_after m i) V reads v b)

  -- what a scheme isn't to bind is free in the environment before or held
  fixes : {R : List Node → Types → ℕ → Scheme → Type 0} → (M V : Types) (W : Environment) → IsOwn d.store.nodes M → Loose d.store.nodes V →
      Stands R (D.declaration d.store.nodes l.at.roots l.at.names) (D.exception d.store.nodes l.at.roots l.at.names) d.store.nodes M l.at.roots V env W → Fixes d.store.nodes M V (item_roots l) (item_inside.held x.level) W (map V (limited_nodes ys))
  fixes M V W own loose stands = record {
    roots = λ u w free h o.
        let i = in_any u M (item_roots l) h in
        elim (in_either l.at.roots (fixed_nodes (sight x).fixed) i.node (i.place, i.at)) [
          | inl (k, e) ↦ or_left (free_in w W) (occurs_in w (map V (limited_nodes ys))) (stands.brings u w free (any_in u M l.at.roots k i.node e i.occurs) o)
          | inr (k, e) ↦ absurd (no_yes (sym ((fixed_none x l.constants k i.node e).none M (from_start M own.loose) u) ∙ i.occurs))
        ];
    extra = λ u w free h o.
        let i = in_any u M (item_inside.held x.level) h in
        or_right (free_in w W) (occurs_in w (map V (limited_nodes ys))) (limit_held i.node (only_limits i.node (i.place, i.at)) w (stands_after d.store.nodes M V own loose i.node u w i.occurs o));
  }
    where
      from_start : (U : Types) → Loose d.store.nodes U → Loose x.store.nodes U
      from_start U h = (item_refines M own).loose U h

      limit_held : (m : ℕ) → IsIn (limit_variables limits) m → (w : ℕ) → occurs w (V m) ≡ true → occurs_in w (map V (limited_nodes ys)) ≡ true
      limit_held m i w h =
          let (j, k, same) = limit_shares item_limited.nodes x.level limits limits_done.limited V (loose_before_close V loose) m i in
          let (p, e) = subst (λ ns. IsIn ns j) l.nodes k in
          any_in w V (limited_nodes ys) p j e (ap (occurs w) (sym same) ∙ h)

  -- the scheme of a name, under types that fit, in an environment for which the names of before stand
  pub item_scheme_fits : (M V : Types) (W : Environment) → IsOwn d.store.nodes M → Loose d.store.nodes V →
      Stands SchemeFits (D.declaration d.store.nodes l.at.roots l.at.names) (D.exception d.store.nodes l.at.roots l.at.names) d.store.nodes M l.at.roots V env W →
      (k r : ℕ) → slice_get closed_nodes k ≡ Some r → IsKnown (V r) → SchemeFits d.store.nodes V r (generalised_in W (map V (limited_nodes ys)) (V r))
  item_scheme_fits M V W own loose stands k r e known =
      let own_c = before_close M own in
      name_fits x.store.nodes item_limited.nodes d.store.nodes (own_start l).0 M (item_roots l) closed_nodes item_inside.held x.level (own_start l).1 own_c (item_context l (own_start l).0 (own_start l).1) (item_inside.local M own_c) name_nodes (held_low M own_c) (item_out.closes M own_c) V W (map V (limited_nodes ys)) loose
      (fixes M V W own loose stands) k r e known

  -- and at each reading
  pub item_scheme_reads : (M V : Types) (W : Environment) → IsOwn d.store.nodes M → IsReading d.store.nodes V →
      Stands SchemeReads (D.declaration d.store.nodes l.at.roots l.at.names) (D.exception d.store.nodes l.at.roots l.at.names) d.store.nodes M l.at.roots V env W →
      (k r : ℕ) → slice_get closed_nodes k ≡ Some r → IsKnown (V r) → SchemeReads d.store.nodes V r (generalised_in W (map V (limited_nodes ys)) (V r))
  item_scheme_reads M V W own reads stands k r e known =
      let own_c = before_close M own in
      name_reads x.store.nodes item_limited.nodes d.store.nodes (own_start l).0 M (item_roots l) closed_nodes item_inside.held x.level (own_start l).1 own_c (item_context l (own_start l).0 (own_start l).1) (item_inside.local M own_c) name_nodes (held_low M own_c) (item_out.closes M own_c) V W (map V (limited_nodes ys)) reads
      (fixes M V W own (fits_loosely d.store.nodes V reads.fits) stands)
      (λ v h. let p = none_free (D.declaration d.store.nodes l.at.roots l.at.names) (D.exception d.store.nodes l.at.roots l.at.names) d.store.nodes M V l.at.roots env W stands v h in let q = none_held V reads v h in (λ i. p i || q i)) k r e known
