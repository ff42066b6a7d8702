-- A `let` with a body: its group one level further in, its names closed, and then the body among them.
use Rattle.std.proofs.Common.{◌≡◌, ◌∙◌, ◌⊎◌, inl, inr, ℕ, suc, ◌<◌, ◌≤◌, min, Bool, true, false, if◌then◌else◌, List, ◌∷◌, ◌++◌, map, Some, refl, sym, ap, subst, arith, append-nil, ◌+◌, ◌^◌, ◌-◌}
use Rattle.std.specs.Prelude.{slice_get}
use Rattle.std.proofs.lemmas.Bool.Decides.{eqb_tells}
use Rattle.tree_model.specs.Trees.{Place}
use Rattle.type_model.specs.Types.{Typ, occurs}
use Rattle.type_model.specs.Schemes.{Scheme}
use Rattle.type_model.proofs.Applying.{eqb_same}
use Rattle.signature_model.specs.Declarations.{in_text}
use Rattle.signature_model.specs.Entries.{Environment, entry, a_value}
use Rattle.typing_model.specs.Contexts.{Choice, Context, Bound, occurs_in, entries_with, generalised_in}
use Rattle.typing_model.specs.Parts.{Binding, Expression}
use Rattle.typing_model.specs.Bindings.{bindings_ask, names_of_group, held_by, types_written, within_let}
use Rattle.typing_model.specs.Expressions.{is_of, let_expression}
use Rattle.type_nodes.specs.Nodes.{bound_level}
use Rattle.type_nodes.specs.Readings.{Types}
use Rattle.level_unify.specs.Solutions.{Loose}
use Rattle.level_unify.proofs.Unified.{fits_loosely}
use Rattle.env_table.specs.declared.entries.Entry.{Entry}
use Rattle.typing_state.specs.declared.parts.Parts.{Parts}
use Rattle.typing_conditions.specs.Locals.{IsOwn}
use Rattle.typing_conditions.specs.Standing.{IsIn}
use Rattle.typing_conditions.proofs.Own.{own_of}
use Rattle.typing_conditions.proofs.Regions.{any_in}
use Rattle.typing_conditions.proofs.Closing.{closed_loose}
use Rattle.typing_conditions.proofs.Groups.{added}
use Rattle.typing_conditions.specs.Sights.{Sight, Letters, Agrees}
use Rattle.typing_conditions.specs.Frames.{Frame, IsWritten, IsOpen, inner_frame, GoesIn}
use Rattle.typing_conditions.specs.Meanings.{AllMean}
use Rattle.typing_conditions.specs.Steps.{OnlyLevel}
use Rattle.typing_conditions.specs.Carrying.{Asks, Scope, HoldsWritten, IsUnder, Carried, CarriedTo, without_values}
use Rattle.typing_conditions.specs.Surroundings.{Declared, Surrounds, context_of, with_closed}
use Rattle.typing_conditions.specs.Hiding.{AreDone}
use Rattle.typing_conditions.proofs.Carried.{carried_trans, carried_as, carried_under, done_then, done_as}
use Rattle.typing_conditions.proofs.Closed.{HasHeld, HoldsRest, surrounds_closed}
use Rattle.typing_conditions.proofs.Inward.{fixed_nodes, agrees_as, surrounds_inward}
use Rattle.typing_conditions.proofs.Meaning.{all_open, open_unbound}
use Rattle.typing_conditions.proofs.Outward.{GoesOut, GroupTyped, inner_reached, open_outward, carried_out, done_out}
use Rattle.typing_conditions.proofs.Recording.{ends_same}
use Rattle.typing_conditions.proofs.Stays.{agrees_before, named_before}
use Rattle.typing_conditions.proofs.Surrounding.{surrounds_on}
use Rattle.typing_conditions.proofs.Hiding.{owns_done}
use Rattle.typing_steps.specs.States.{is_aloud, sight}
use Rattle.typing_steps.specs.Typing.{RowCarried, TypesTo, TypesRow}
use Rattle.pattern_rows.specs.Bounds.{Bind, AllBound, none_bound, one_bound}
use Rattle.binding_rows.specs.Closing.{limit_nodes, Limit, limit_variables, ClosesGroup}
use Rattle.binding_rows.specs.Decided.{IsAmong}
use Rattle.binding_rows.specs.Lets.{ToClose, AllToClose, none_to_close, one_to_close, bind_nodes, bind_entries, names_closed, limited_nodes, held_at, held_types, written_nodes, together, held_from, GroupToClose}
use Rattle.binding_rows.specs.LetGroups.{LetGroup, TypesToClose}
use Rattle.binding_rows.proofs.Alike.{carried_alike}
use Rattle.binding_rows.proofs.Limits.{LimitsCarried}
use Rattle.binding_rows.proofs.Closing.{limited_state, limits_asked, closed_out}
use Rattle.binding_rows.proofs.Held.{limited_means, held_same, to_close_on, all_names_bound, bound_open, closed_names, limit_shares, limited_open, open_root, fixed_held, fixed_roots, named_occurs, named_none, nodes_none, occurs_first, occurs_second, occurs_neither, written_there, there_written}
use Rattle.binding_rows.proofs.Starting.{in_either, in_first, in_second}
use Rattle.typing_conditions.proofs.Stops.{around_values}
use Rattle.binding_rows.proofs.Scopes.{only_values}

-- a node of three lists is of one of them
in_one : (ms ns ks : List ℕ) (n : ℕ) → IsIn (together ms ns ks) n → IsIn ms n ⊎ (IsIn ns n ⊎ IsIn ks n)
unfolding together
in_one ms ns ks n h = elim (in_either ms (ns ++ ks) n h) [ inl i ↦ inl i | inr i ↦ inr (in_either ns ks n i) ]

-- and a node of one of them is of all three
of_first : (ms ns ks : List ℕ) (n : ℕ) → IsIn ms n → IsIn (together ms ns ks) n
unfolding together
of_first ms ns ks n h = in_first ms (ns ++ ks) n h

of_second : (ms ns ks : List ℕ) (n : ℕ) → IsIn ns n → IsIn (together ms ns ks) n
unfolding together
of_second ms ns ks n h = in_second ms (ns ++ ks) n (in_first ns ks n h)

of_third : (ms ns ks : List ℕ) (n : ℕ) → IsIn ks n → IsIn (together ms ns ks) n
unfolding together
of_third ms ns ks n h = in_second ms (ns ++ ks) n (in_second ns ks n h)

-- at their own level these nodes are held
pub held_here : (level : ℕ) (ns : List ℕ) (before : ℕ → List ℕ) → held_from level ns before level ≡ ns
held_here level ns before = ap (λ b. if b then ns else before level) (eqb_same level)

-- below it what was held before
held_below : (level : ℕ) (ns : List ℕ) (before : ℕ → List ℕ) (k : ℕ) → k < level → held_from level ns before k ≡ before k
held_below level ns before k lt = elim (eqb_tells k level) [ inl (_, e) ↦ absurd (omega arith) | inr (f, _) ↦ ap (λ b. if b then ns else before k) f ]

-- names in a context have the types that its choice gives them
names_chosen : {F : Frame} {a : Sight} {G : Letters} {bs : List Bound} {ns : List Bind} → AllBound F a G bs ns → (c : Context) → map (λ (n : Bound). n.has_type c) bs ≡ map (λ (n : Bound). n.has_type (context_of c.chosen)) bs
names_chosen none_bound c = refl
names_chosen (one_bound h hs) c = (λ i. h.chosen c i ∷ names_chosen hs c i)

-- the definitions hold the types of the nodes that are limited
pub held_chosen : {D : Declared} {env : List Entry} {F : Frame} {a : Sight} {G : Letters} {xs : List Binding} {ys : List ToClose} → AllToClose D env F a G xs ys → (c : Context) → IsAmong D env c → held_by c xs ≡ held_at c.chosen xs ys
held_chosen none_to_close c among = refl
held_chosen (one_to_close {x = x} h hs) c among = (λ i. if h.decides c among i then held_chosen hs c among i else c.chosen.type_at x.body.node ∷ names_chosen h.names c i ++ held_chosen hs c among i)

-- the entries of names are the same for the same schemes
pub entries_same : {F : Frame} {a : Sight} {G : Letters} {bs : List Bound} {ns : List Bind} → AllBound F a G bs ns → (c : Context) (s s' : Typ → Scheme) (E E' : Environment) → s ≡ s' → E ≡ E' → entries_with s c bs E ≡ entries_with s' (context_of c.chosen) bs E'
entries_same none_bound c s s' E E' p e = e
entries_same (one_bound {x = x} h hs) c s s' E E' p e =
    entries_same hs c s s' (entry x.name (in_text x.place) (a_value (s (x.has_type c))) ∷ E) (entry x.name (in_text x.place) (a_value (s' (x.has_type (context_of c.chosen)))) ∷ E') p
    (λ k. entry x.name (in_text x.place) (a_value (p k (h.chosen c k))) ∷ e k)

module _ {D : Declared} {F : Frame} {scope : Scope} {asks : Asks} {x y : Sight} {G : Letters} {a d : Parts} {env : List Entry} {xs : List Binding} {ys : List ToClose} {limits : List Limit} (l : LetGroup D F scope asks x y G a d env xs ys limits) where
  -- the types with which the frame starts
  pub own_start : (J : Types) × IsOwn x.nodes J
  own_start = own_of x.nodes l.at.reached.sound

  -- the roots of the frame further in: those of the environment, the nodes of the built-in types, and those of written type variables
  abbrev pub inner_roots : List ℕ
  inner_roots = together l.at.roots (fixed_nodes x.fixed) (written_nodes x.written l.at.written.names)

  -- what it holds: at the outer level the variables of the limits
  abbrev pub inner_held : ℕ → List ℕ
  inner_held = held_from F.level (limit_variables limits) F.held

  -- the names' nodes
  abbrev pub names : List ℕ
  names = bind_nodes (names_closed ys)

  -- the frame further in
  abbrev pub further : Frame
  further = inner_frame F x own_start.0 inner_roots inner_held

  goes_in : GoesIn F x own_start.0 inner_roots inner_held
  goes_in = record {
    reached = l.at.reached;
    own = own_start.1;
    are_roots = λ k r e. elim (in_one l.at.roots (fixed_nodes x.fixed) (written_nodes x.written l.at.written.names) r (k, e)) [
      | inl i ↦ l.at.are_roots i.0 r i.1
      | inr j ↦ elim j [
        | inl i ↦ open_root (same_level F.level) (fixed_roots l.at.fixed i.0 r i.1)
        | inr i ↦ let w = there_written x.written l.at.written.names r i in open_root (min_left F.level 1) (l.at.written.each w.0 r w.1)
      ]
    ];
    written_in = λ n m e. let h = l.at.written.listed n m e in of_third l.at.roots (fixed_nodes x.fixed) (written_nodes x.written l.at.written.names) m (written_there x.written l.at.written.names h.0 n m h.1 e);
    keeps_held = λ k n lt i. subst (λ ns. IsIn ns n) (held_below F.level (limit_variables limits) F.held k lt) i;
    free = l.free;
  }
    where
      same_level : (n : ℕ) → n ≤ n
      same_level n = omega arith

      min_left : (m n : ℕ) → min m n ≤ m
      min_left m n = grind arith

  surrounds_group : Surrounds D further y G env scope
  surrounds_group = surrounds_inward goes_in l.only l.raised l.at (λ k r e. of_first l.at.roots (fixed_nodes x.fixed) (written_nodes x.written l.at.written.names) r (k, e))
      (λ k m e. of_second l.at.roots (fixed_nodes x.fixed) (written_nodes x.written l.at.written.names) m (k, e))

  -- the group, typed in that frame
  pub group : GroupToClose D env further scope asks y G (sight a) xs ys
  group = l.group further surrounds_group

  -- the letters after the group
  abbrev pub letters : Letters
  letters = group.own ++ G

  level : a.level ≡ suc F.level
  level = group.carried.stays.level ∙ l.raised ∙ ap suc l.at.reached.level

  limits_done : LimitsCarried further scope (sight a) (limited_state l.close) letters F.level limits
  limits_done =
      let h = limited_means group.typed in
      limits_asked l.close F.level level l.free refl (λ v i. subst (λ ns. IsIn ns v) (sym (held_here F.level (limit_variables limits) F.held)) i) (subst (AllMean further (sight a) letters h.types) (sym l.nodes) h.mean)

  typed : AllToClose D env further (limited_state l.close) letters xs ys
  typed = to_close_on limits_done.carried.stays group.typed

  bound : AllBound further (limited_state l.close) letters (names_of_group xs) (names_closed ys)
  bound = all_names_bound typed

  out : GoesOut F x own_start.0 inner_roots inner_held names (limited_state l.close) (sight d)
  out = closed_out l.close level x own_start.0 inner_roots inner_held limits_done.limited (λ n i. subst (λ ns. IsIn ns n) (held_here F.level (limit_variables limits) F.held) i) (bound_open bound)

  group_typed : GroupTyped F scope asks x y (limited_state l.close) (sight d) own_start.0 inner_roots names inner_held G letters
  group_typed = record {
    goes_in = goes_in;
    only = l.only;
    raised = l.raised;
    part = carried_as (λ c. append-nil (asks c)) (carried_trans group.carried limits_done.carried);
    out = out;
    inside_item = l.at.inside;
    written = l.at.written;
  }

  -- The group with its close is carried at the outer level.
  pub group_closed : Carried F scope asks x G (sight d) letters
  group_closed = carried_out group_typed

  -- and the rows of its letters are done
  rows_closed : AreDone (sight d) group_closed.hidden group.own
  unfolding group_closed group_typed
  rows_closed = done_out group_typed (done_as (λ c. append-nil (asks c)) (carried_trans group.carried limits_done.carried) (done_then group.carried limits_done.carried group.done))

  -- the types that the definitions hold
  abbrev pub types : Choice → List Typ
  types = held_types F.owner scope.held xs ys

  loose_before : (V : Types) → Loose d.store.nodes V → Loose (limited_state l.close).nodes V
  loose_before V h =
      let own = own_of (limited_state l.close).nodes (inner_reached group_typed).sound in
      closed_loose (limited_state l.close).nodes d.store.nodes own.0 names F.level (out.closes own.0 own.1) V h

  agrees_there : (V : Types) (ch : Choice) → Agrees F.owner (sight d) letters V ch → Agrees F.owner (limited_state l.close) letters V ch
  agrees_there V ch g = agrees_as (sight d) (limited_state l.close) (λ i k. sym (out.types i k)) (λ n. sym (out.written n)) g

  node_held : (m : ℕ) → IsIn (limited_nodes ys) m → HasHeld F (sight d) letters types m
  node_held m (k, e) V ch loose g w h =
      occurs_second w (map (ch.written F.owner) scope.held) (held_at ch xs ys)
      (subst (λ ts. occurs_in w ts ≡ true) (held_same typed V ch (loose_before V loose) (agrees_there V ch g)) (any_in w V (limited_nodes ys) k m e h))

  limit_held : (n : ℕ) → IsIn (inner_held F.level) n → HasHeld F (sight d) letters types n
  limit_held n i V ch loose g w h =
      let (m, j, same) = limit_shares (limited_state l.close).nodes F.level limits limits_done.limited V (loose_before V loose) n (subst (λ ns. IsIn ns n) (held_here F.level (limit_variables limits) F.held) i) in
      node_held m (subst (λ ns. IsIn ns m) l.nodes j) V ch loose g w (ap (occurs w) (sym same) ∙ h)

  written_held : HoldsWritten scope (sight d) → (n : ℕ) → IsWritten (sight d) n → HasHeld F (sight d) letters types n
  written_held named n (z, e) V ch loose g w h =
      let (k, f) = named z n e in
      occurs_first w (map (ch.written F.owner) scope.held) (held_at ch xs ys) (named_occurs (ch.written F.owner) w scope.held k z f (ap (occurs w) (g.written z n e) ∙ h))

  root_held : HoldsWritten scope (sight d) → (k r : ℕ) → slice_get inner_roots k ≡ Some r → IsIn l.at.roots r ⊎ HasHeld F (sight d) letters types r
  root_held named k r e = elim (in_one l.at.roots (fixed_nodes x.fixed) (written_nodes x.written l.at.written.names) r (k, e)) [
    | inl i ↦ inl i
    | inr j ↦ elim j [
      | inl i ↦ inr (fixed_held letters types (surrounds_on group_closed.stays l.at).fixed i.0 r (subst (λ f. slice_get (fixed_nodes f) i.0 ≡ Some r) (sym group_closed.stays.fixed) i.1))
      | inr i ↦ let w = there_written x.written l.at.written.names r i in inr (written_held named r (w.0, group_closed.stays.written w.0 r w.1))
    ]
  ]

  node_open : (m : ℕ) → IsIn (limited_nodes ys) m → IsOpen F (sight d) m
  node_open m (k, e) = open_outward group_typed F.level m (same_level F.level) l.at.reached (limited_open F.level limits limits_done.limited m (subst (λ ns. IsIn ns m) (sym l.nodes) (k, e)) (all_open (limited_means typed).mean k m e))
    where
      same_level : (n : ℕ) → n ≤ n
      same_level n = omega arith

  rest : HoldsRest D group_typed env types
  unfolding surrounds_on
  rest = record {
    at = surrounds_on group_closed.stays l.at;
    roots_held = root_held;
    limits_held = limit_held;
    written_held = written_held;
    none_bound = λ V ch reads g unbound v b. occurs_neither v (map (ch.written F.owner) scope.held) (held_at ch xs ys)
        (named_none (ch.written F.owner) v scope.held (λ k n e. unbound k n e v b))
        (subst (λ ts. occurs_in v ts ≡ false) (held_same typed V ch (loose_before V (fits_loosely d.store.nodes V reads.fits)) (agrees_there V ch g)) (nodes_none V v (limited_nodes ys) (λ m i. open_unbound (node_open m i) V reads v b)));
  }

  -- A part is typed among the closed names.
  pub surrounds_body : Surrounds D F (sight d) letters (added (bind_entries (names_closed ys)) env) (with_closed (names_of_group xs) types scope)
  surrounds_body = surrounds_closed group_typed rest (closed_names names refl loose_before agrees_there bound (λ m i. i))

  -- a context of the scope after the close is one among the names around the group
  among : (V : Types) (c : Context) → Loose d.store.nodes V → IsUnder scope c → Agrees F.owner (sight d) letters V c.chosen → HoldsWritten scope (sight d) → IsAmong D env c
  among V c loose u g named = record {
    state = x;
    frame = F;
    scope = scope;
    letters = G;
    types = V;
    at = l.at;
    loose = group_closed.stays.loose V loose;
    under = u;
    agrees = agrees_before group_closed.stays g;
    named = named_before scope group_closed.stays named;
  }

  -- so that of the body is one of the scope with the names
  body_under : (V : Types) (c : Context) → Loose d.store.nodes V → IsUnder scope c → Agrees F.owner (sight d) letters V c.chosen → HoldsWritten scope (sight d) → IsUnder (with_closed (names_of_group xs) types scope) (within_let c xs)
  body_under V c loose u g named = record {
    env = entries_same bound c (generalised_in c.env (types_written c c.variables ++ held_by c xs)) (generalised_in (scope.env c.chosen) (types c.chosen)) c.env (scope.env c.chosen) (λ i. generalised_in (u.env i) (held i)) u.env;
    variables = u.variables;
    held = u.held;
  }
    where
      written : types_written c c.variables ≡ map (c.chosen.written F.owner) scope.held
      written = ap (types_written c) (u.variables ∙ l.at.item) ∙ ap (map (c.chosen.written F.owner)) u.held

      held : types_written c c.variables ++ held_by c xs ≡ types c.chosen
      held = (λ i. written i ++ held_chosen typed c (among V c loose u g named) i)

  -- the context of the body, by what is chosen
  abbrev body_context : Context → Context
  body_context c = record c { env = (with_closed (names_of_group xs) types scope).env c.chosen; variables = scope.variables; held = scope.held }

  -- The group, its close, and the body among its names.
  pub let_closed : {body_asks : Asks} {f : Sight} {type : Choice → Typ} {m : ℕ} → (Surrounds D F (sight d) letters (added (bind_entries (names_closed ys)) env) (with_closed (names_of_group xs) types scope) →
      CarriedTo F (with_closed (names_of_group xs) types scope) body_asks (sight d) letters f letters type m) → CarriedTo F scope (λ c. asks c ++ body_asks (within_let c xs)) x G f letters type m
  let_closed {body_asks} body =
      let r = body surrounds_body in
      record {
        carried = carried_trans group_closed (carried_alike (λ V c loose u g named. let h = body_under V c loose u g named in ap body_asks (λ i. record c { env = sym h.env i; variables = sym h.variables i; held = sym h.held i }))
            (carried_under body_context refl (λ c. (refl, refl)) (λ c u. record { env = refl; variables = refl; held = refl })
            (around_values scope (with_closed (names_of_group xs) types scope) body_context body_asks refl (λ c u. only_values (generalised_in (scope.env c.chosen) (types c.chosen)) (context_of c.chosen) (names_of_group xs) (scope.env c.chosen) ∙ ap without_values (sym u.env))) r.carried));
        means = r.means;
      }

  -- the rows of the group's letters are done still
  pub let_done : {body_asks : Asks} {f : Sight} {type : Choice → Typ} {m : ℕ} (body : Surrounds D F (sight d) letters (added (bind_entries (names_closed ys)) env) (with_closed (names_of_group xs) types scope) →
      CarriedTo F (with_closed (names_of_group xs) types scope) body_asks (sight d) letters f letters type m) → AreDone f (let_closed body).carried.hidden group.own
  unfolding let_closed
  let_done body = done_then group_closed _ rows_closed

-- The row of a `let` with a body: what its group and its body ask is carried, and its type is that of the body.
pub let_typed : {D : Declared} {F : Frame} {scope : Scope} {x y : Sight} {G : Letters} {a d : Parts} {f : Sight} {env : List Entry} {xs : List Binding} {ys : List ToClose} {limits : List Limit} {m : ℕ} (n : ℕ) (at : Place) (is_rec : Bool) (e : Expression)
    (l : LetGroup D F scope (λ c. bindings_ask c is_rec xs) x y G a d env xs ys limits) →
    ((H : Letters) → Surrounds D F (sight d) H (added (bind_entries (names_closed ys)) env) (with_closed (names_of_group xs) (held_types F.owner scope.held xs ys) scope) →
    CarriedTo F (with_closed (names_of_group xs) (held_types F.owner scope.held xs ys) scope) e.typed (sight d) H f H (λ ch. ch.type_at e.node) m) → RowCarried F scope (let_expression n at is_rec xs e).typed x G f n m
let_typed {xs = xs} n at is_rec e l body = record {
  own = (group l).own;
  type = λ ch. ch.type_at e.node;
  first = λ c. bindings_ask c is_rec xs ++ e.typed (within_let c xs);
  ends = λ c. is_of c n (c.chosen.type_at e.node);
  all = λ c. refl;
  typed = let_closed l (body (letters l));
  owns = λ known. owns_done (let_done l (body (letters l)));
  end = ends_same n (λ ch. ch.type_at e.node);
}

-- the level is raised, and nothing else is done
pub only_raised : (x y : Parts) → y ≡ record x { level = x.level + 1 } → OnlyLevel (sight x) (sight y)
only_raised x y e = subst (λ z. OnlyLevel (sight x) (sight z)) (sym e) (record { nodes = refl; types = λ i p. refl; noted = λ i p h. h; scopes = λ i p env h. h; written = λ n. refl; reports = refl; aloud = refl; item = refl; fixed = refl })

pub level_raised : (x y : Parts) → y ≡ record x { level = x.level + 1 } → y.level ≡ suc x.level
level_raised x y e = ap (λ (p : Parts). p.level) e ∙ (let s : x.level + 1 ≡ suc x.level = omega arith in s)

-- The row of the code's `let`: the level is raised, below which there is one more, the group is typed and closed, and then the body is typed among its names.
pub let_row : {x y a d : Parts} (f : Parts) {env : List Entry} {xs : List Binding} {ys : List ToClose} {limits : List Limit} {m : ℕ} (n : ℕ) (at : Place) (is_rec : Bool) (e : Expression) → y ≡ record x { level = x.level + 1 } → x.level + 1 < bound_level → TypesToClose y a env (λ c. bindings_ask c is_rec xs) xs ys →
    limit_nodes limits ≡ limited_nodes ys → ClosesGroup a d limits (bind_nodes (names_closed ys)) → d.telling ≡ x.telling → TypesTo d f (added (bind_entries (names_closed ys)) env) e.typed (λ ch. ch.type_at e.node) m → TypesRow x f env (let_expression n at is_rec xs e).typed n m
let_row {x} {y} f {xs = xs} {ys = ys} n at is_rec e raised below group_types nodes close same body = λ aloud F scope G its s.
    let_typed n at is_rec e (record {
      at = s;
      only = only_raised x y raised;
      raised = level_raised x y raised;
      free = room x.level F.level s.reached.level below;
      nodes = nodes;
      close = close;
      group = λ I. group_types (ap (λ (p : Parts). is_aloud p.telling) raised ∙ aloud) I scope G;
    }) (λ H. body (ap is_aloud same ∙ aloud) F (with_closed (names_of_group xs) (held_types F.owner scope.held xs ys) scope) H)
  where
    room : (l k : ℕ) → l ≡ k → l + 1 < 2 ^ 32 - 1 → suc k < 2 ^ 32 - 1
    room l k e lt = omega arith
