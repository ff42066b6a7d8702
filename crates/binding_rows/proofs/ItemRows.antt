-- The `let` of an item, from the calls that type its group, limit its names' types to what was made before it, and close it.
use Rattle.std.proofs.Common.{inl, inr, ◌≡◌, ◌≢◌, ◌∙◌, ℕ, ◌-◌, ◌^◌, ◌<◌, ◌≤◌, min, Bool, true, List, [], ◌∷◌, ◌++◌, map, None, Some, refl, sym, ap, subst, arith}
use Rattle.token_model.specs.Kinds.{Tok}
use Rattle.tree_model.specs.Slots.{is_operand}
use Rattle.tree_model.specs.Trees.{Place, Tree, yield_of}
use Rattle.type_model.specs.Types.{Typ}
use Rattle.type_model.specs.Schemes.{Scheme}
use Rattle.signature_model.specs.Declarations.{Name, in_text}
use Rattle.signature_model.specs.Entries.{Environment, entry, a_value}
use Rattle.typing_model.specs.Demands.{made}
use Rattle.typing_model.specs.Contexts.{Choice, Context, Bound, entries_with, generalised_in}
use Rattle.typing_model.specs.Parts.{Binding, Seen, no_names}
use Rattle.typing_model.specs.Bindings.{bindings_ask, names_of_group, held_by}
use Rattle.typing_model.specs.Expressions.{is_some}
use Rattle.typing_model.specs.Items.{let_item, inside_item, names_made}
use Rattle.typing_model.specs.Modules.{item_row}
use Rattle.typing_model.specs.Meanings.{recorded_item}
use Rattle.row_parts.specs.Numbered.{operands_in, token_in}
use Rattle.type_nodes.specs.Nodes.{bound_level}
use Rattle.type_nodes.specs.Readings.{Types}
use Rattle.level_unify.specs.Solutions.{Loose}
use Rattle.env_table.specs.declared.entries.Entry.{Entry}
use Rattle.typing_state.specs.declared.parts.Written.{Written}
use Rattle.typing_state.specs.declared.parts.Parts.{Parts}
use Rattle.typing_state.specs.Goes.{Goes}
use Rattle.typing_state.specs.Types.{level_for}
use Rattle.operand_laws.specs.Formed.{row_of}
use Rattle.operand_laws.specs.Operands.{number_of, parts_of}
use Rattle.typing_conditions.specs.Sights.{Sight, Letters}
use Rattle.typing_conditions.specs.Frames.{Frame}
use Rattle.typing_conditions.specs.Meanings.{AllMean, none_mean, one_means}
use Rattle.typing_conditions.specs.Carrying.{Asks, Scope, HoldsWritten, Carried}
use Rattle.typing_conditions.specs.Surroundings.{Declared, context_of}
use Rattle.typing_conditions.proofs.Carried.{carried_trans, carried_as, done_as, done_then}
use Rattle.typing_steps.specs.States.{is_aloud, written_in, sight}
use Rattle.typing_steps.specs.Typing.{as_declared}
use Rattle.typing_steps.specs.Constants.{HasConstants}
use Rattle.typing_steps.specs.Warning.{OnlyNotes}
use Rattle.typing_steps.proofs.Joining.{with_level}
use Rattle.typing_steps.proofs.Starting.{constants_kept}
use Rattle.pattern_rows.specs.Bounds.{Bind, AllBound, none_bound, one_bound}
use Rattle.binding_rows.specs.Operands.{bindings_of}
use Rattle.binding_rows.specs.Groups.{TypesGroup}
use Rattle.binding_rows.proofs.Terms.{bindings_stand, rec_stands}
use Rattle.binding_rows.specs.Closing.{Limit}
use Rattle.binding_rows.specs.Lets.{ToClose, bind_nodes, names_closed, held_at, GroupToClose}
use Rattle.binding_rows.specs.LetGroups.{TypesToClose}
use Rattle.binding_rows.specs.LetNodes.{typed_as}
use Rattle.binding_rows.proofs.Held.{to_close_on, all_names_bound}
use Rattle.binding_rows.proofs.LetNodes.{types_to_close, entries_added}
use Rattle.binding_rows.specs.Scopes.{CanBeMade, AreMade, all_made}
use Rattle.binding_rows.specs.Outside.{AgreesOutside, Outside}
use Rattle.binding_rows.specs.ItemGroups.{item_scope, group_asks, env_after, ItemGroup}
use Rattle.binding_rows.specs.ItemRows.{IsItemNode, TypesItem, recorded_let, ItemDone, AreWrittenIn, GivesLet}
use Rattle.binding_rows.proofs.Scoped.{scopes_carried, inside_carried, scoped_level, inside_level}
use Rattle.typing_rows.specs.Noted.{AreNoted}
use Rattle.typing_rows.proofs.Noted.{noted_on}
use Rattle.binding_rows.proofs.ItemClosing.{item_letters, item_typed, item_bound}
use Rattle.binding_rows.proofs.Items.{among_group, item_stays, item_carried, item_clear, item_sees, item_stops, item_owned}
use Rattle.binding_rows.proofs.ItemsAfter.{outside_after, after_older, after_known}
use Rattle.binding_rows.proofs.ItemOrders.{agrees_earlier, items_treated, treated_owned, treated_clear, treated_sees, treated_stops, outside_between, done_between}
use Rattle.binding_rows.proofs.ItemTurns.{item_begins}
use Rattle.binding_rows.proofs.Unwritten.{names_unwritten}
use Rattle.binding_rows.proofs.Lets.{entries_same, held_chosen, level_raised, only_raised}

-- the types of names, by what is chosen
abbrev types_of_names : List Bound → List (Choice → Typ)
types_of_names bs = map (λ (b : Bound). λ (ch : Choice). b.has_type (context_of ch)) bs

names_mean : {F : Frame} {a : Sight} {G : Letters} {bs : List Bound} {ns : List Bind} → AllBound F a G bs ns → AllMean F a G (types_of_names bs) (bind_nodes ns)
names_mean none_bound = none_mean
names_mean (one_bound h hs) = one_means h.means (names_mean hs)

-- the conditions that the types of names were made before an item
made_names : {F : Frame} {a : Sight} {G : Letters} {bs : List Bound} {ns : List Bind} → AllBound F a G bs ns → (n : ℕ) (c : Context) → all_made n c.chosen (types_of_names bs) ≡ names_made n c bs
made_names none_bound n c = refl
made_names (one_bound h hs) n c = (λ i. made n (sym (h.chosen c) i) ∷ made_names hs n c i)

-- the highest level is above that of each frame, and isn't that of bound variables
highest : (k b : ℕ) → k < b → b ≡ 2 ^ 32 - 1 → k ≤ min b (2 ^ 32 - 2)
highest k b lt e = grind arith

highest_free : level_for bound_level ≢ bound_level
highest_free = below (level_for bound_level) (min_right bound_level (2 ^ 32 - 2))
  where
    min_right : (l m : ℕ) → min l m ≤ m
    min_right l m = grind arith

    below : (n : ℕ) → n ≤ 2 ^ 32 - 2 → n ≢ 2 ^ 32 - 1
    below n le e = absurd (omega arith)

-- the conditions of the names of a group, once their types are limited
names_scoped : {I : Frame} {scope : Scope} {G : Letters} {bs : List Bound} {ns : List Bind} (a s : Parts) (n : ℕ) → I.level < bound_level → AllBound I (sight a) G bs ns → AreMade a s bound_level n (bind_nodes ns) → Carried I scope (λ c. all_made n c.chosen (types_of_names bs)) (sight a) G (sight s) G
names_scoped {I} {scope} {G} {bs} a s n below bound (inl inside) =
    subst (λ k. Carried I scope (λ c. all_made n c.chosen (types_of_names bs)) (sight a) G (with_level k (sight s)) G) (sym (inside_level a s bound_level n inside.limits inside.all))
    (inside_carried a s a.level bound_level n inside.limits (subst (AllMean I (sight a) G (types_of_names bs)) (sym inside.nodes) (names_mean bound)) inside.all (highest I.level bound_level below refl) highest_free)
names_scoped {I} {scope} {G} {bs} a s n below bound (inr (scopes, can)) =
    subst (λ k. Carried I scope (λ c. all_made n c.chosen (types_of_names bs)) (sight a) G (with_level k (sight s)) G) (sym (scoped_level a s bound_level n scopes.limits scopes.all))
    (scopes_carried a s a.level bound_level n scopes.limits (subst (AllMean I (sight a) G (types_of_names bs)) (sym scopes.nodes) (names_mean bound)) scopes.all (highest I.level bound_level below refl) highest_free (subst (CanBeMade a.store.nodes n) (sym scopes.nodes) can))

-- A group whose names' types are limited to what was made before an item is typed as that of the item.
pub group_made : {D : Declared} {env : List Entry} {I : Frame} {scope : Scope} {y : Sight} {G : Letters} {xs : List Binding} {ys : List ToClose} (a s : Parts) (n : ℕ) (is_rec : Bool) → I.level < bound_level → GroupToClose D env I scope (λ c. bindings_ask c is_rec xs) y G (sight a) xs ys → AreMade a s bound_level n (bind_nodes (names_closed ys)) →
    GroupToClose D env I scope (group_asks n is_rec xs) y G (sight s) xs ys
group_made {I = I} {scope = scope} {y = y} {G = G} {xs = xs} {ys = ys} a s n is_rec below group are_made =
    let scoped : Carried I scope (λ c. all_made n c.chosen (types_of_names (names_of_group xs))) (sight a) (group.own ++ G) (sight s) (group.own ++ G) = names_scoped a s n below (all_names_bound group.typed) are_made in
    record {
      own = group.own;
      carried = carried_as (λ c. ap (λ cs. bindings_ask c is_rec xs ++ cs) (made_names (all_names_bound group.typed) n c)) (carried_trans group.carried scoped);
      done = done_as (λ c. ap (λ cs. bindings_ask c is_rec xs ++ cs) (made_names (all_names_bound group.typed) n c)) (carried_trans group.carried scoped) (done_then group.carried scoped group.done);
      typed = to_close_on scoped.stays group.typed;
    }

-- the entries that a group adds, before others
entries_before : (s : Typ → Scheme) (c : Context) (bs : List Bound) (E W : Environment) → entries_with s c bs E ++ W ≡ entries_with s c bs (E ++ W)
entries_before s c [] E W = refl
entries_before s c (b ∷ bs) E W = entries_before s c bs (entry b.name (in_text b.place) (a_value (s (b.has_type c))) ∷ E) W

-- names in a context have the types that its choice gives them
names_chosen : {F : Frame} {a : Sight} {G : Letters} {bs : List Bound} {ns : List Bind} → AllBound F a G bs ns → (c : Context) → map (λ (b : Bound). b.has_type c) bs ≡ map (λ (b : Bound). b.has_type (context_of c.chosen)) bs
names_chosen none_bound c = refl
names_chosen (one_bound h hs) c = (λ i. h.chosen c i ∷ names_chosen hs c i)

-- The environment after an item is that of the definitions.
pub item_adds : {D : Declared} {n : ℕ} {ts : List Tok} {E : Choice → Environment} {asks : Asks} {x : Parts} {y : Sight} {G : Letters} {s d : Parts} {env : List Entry} {xs : List Binding} {ys : List ToClose} {limits : List Limit} (l : ItemGroup D n ts E asks x y G s d env xs ys limits) (is_rec : Bool) →
    (V : Types) (c : Context) → c.env ≡ E c.chosen → Loose x.store.nodes V → AgreesOutside (sight x) G V c.chosen → (let_item n ts is_rec xs).adds c ++ c.env ≡ env_after E xs ys c.chosen
item_adds {n = n} {ts = ts} {E = E} {xs = xs} {ys = ys} l is_rec V c same loose agrees =
    entries_before (generalised_in c.env (held_by (inside_item n ts c) xs)) (inside_item n ts c) (names_of_group xs) [] c.env
    ∙ entries_same (item_bound l) (inside_item n ts c) (generalised_in c.env (held_by (inside_item n ts c) xs)) (generalised_in (E c.chosen) (held_at c.chosen xs ys)) c.env (E c.chosen)
    (λ i. generalised_in (same i) (held_chosen (item_typed l) (inside_item n ts c) (among_group l V c same loose agrees) i)) same

-- the item of the definitions, by its node
pub item_term : (i n : ℕ) (at : Place) (t : Tree) (ts : List Tok) → IsItemNode n t → recorded_item (number_of i n) (item_row (row_of t) (number_of i n) at ts (parts_of i n t)) ≡ Some (recorded_let i ts n t)
unfolding item_row is_operand
item_term i n at t ts node =
    ap (λ r. recorded_item (number_of i n) (item_row r (number_of i n) at ts (parts_of i n t))) node.row
    ∙ (λ k. recorded_item (number_of i n) (Some (let_item (number_of i n) ts (rec_stands i n t k) (bindings_stand i n t node.formed (ap (λ r. is_operand r 2) node.row) k))))

-- The `let` of an item, for whose node the names in scope are recorded: where faults are reported, what it asks is carried, and the next item starts among its names.
pub item_row_of_node : (x d : Parts) (env after : List Entry) (n : ℕ) (t : Tree) (ts : List Tok) (G : Letters) (E : Choice → Environment) (seen : Seen) → IsItemNode n t → (h : TypesItem x d env after n t) → is_aloud x.telling ≡ true → (at : Outside as_declared (sight x) G env E) → HasConstants x → AreNoted at.older x → (sight x).scopes x.item n ≡ Some env →
    ((z : Name) → (sight x).written z ≡ None) → HoldsWritten (item_scope (number_of x.item n) ts E) (sight d) → ItemDone as_declared (at.known ≡ true) E (recorded_let x.item ts n t) seen no_names x d G after
item_row_of_node x d env after n t ts G E seen node h aloud at constants noted here cleared named = subst (λ es. ItemDone as_declared (at.known ≡ true) E (recorded_let x.item ts n t) seen no_names x d G es) (sym (h.scope ∙ entries_added (names_closed h.bindings) env)) (record {
  letters = item_letters group;
  env = env_after E (bindings_of x.item (operands_in n t 2)) h.bindings;
  carried = items_treated (number_of x.item n) (item_carried group);
  owners = treated_owned (number_of x.item n) (item_carried group) (item_owned group (recorded_let x.item ts n t) refl);
  clear = λ known placed. treated_clear (number_of x.item n) (item_carried group) (item_clear group known placed);
  sees = λ known. treated_sees (number_of x.item n) x.item n refl ((item_stays group).keeps.scopes x.item n env here) at (item_carried group) (item_sees group);
  stops = λ known. treated_stops (number_of x.item n) (item_carried group) (item_stops group);
  outside = outside_after group (names_unwritten x.item (operands_in n t 2));
  knows = λ known. after_known group (names_unwritten x.item (operands_in n t 2)) ∙ known;
  noted = subst (λ U. AreNoted U d) (sym (after_older group (names_unwritten x.item (operands_in n t 2)))) (noted_on at.older noted h.goes);
  adds = λ V c same loose agrees met. item_adds group (is_some (token_in t 1)) V c same ((item_stays group).loose V loose) (agrees_earlier (item_stays group) agrees);
  named = λ V c same loose agrees met. refl;
  constants = constants_kept x d h.goes constants;
})
  where
    begun_item : h.begun.item ≡ x.item
    begun_item = ap (λ (p : Parts). p.item) h.raised

    typed : TypesGroup h.begun h.done env (is_some (token_in t 1)) (bindings_of x.item (operands_in n t 2)) (map typed_as h.bindings)
    typed = subst (λ i. TypesGroup h.begun h.done env (is_some (token_in t 1)) (bindings_of i (operands_in n t 2)) (map typed_as h.bindings)) begun_item (h.typed node.bindings)

    to_close : TypesToClose h.begun h.done env (λ c. bindings_ask c (is_some (token_in t 1)) (bindings_of x.item (operands_in n t 2))) (bindings_of x.item (operands_in n t 2)) h.bindings
    to_close = types_to_close h.begun h.done env (is_some (token_in t 1)) (bindings_of x.item (operands_in n t 2)) h.bindings (h.judged node.bindings x.item) typed

    group : ItemGroup as_declared (number_of x.item n) ts E (group_asks (number_of x.item n) (is_some (token_in t 1)) (bindings_of x.item (operands_in n t 2))) x (sight h.begun) G h.scoped d env (bindings_of x.item (operands_in n t 2)) h.bindings h.closes.limits
    group = record {
      at = at;
      constants = constants;
      cleared = cleared;
      only = only_raised x h.begun h.raised;
      raised = level_raised x h.begun h.raised;
      nodes = h.closes.nodes;
      close = h.closes.close;
      group = λ I s. group_made h.done h.scoped (number_of x.item n) (is_some (token_in t 1)) s.reached.frame.free (to_close (ap (λ (p : Parts). is_aloud p.telling) h.raised ∙ aloud) I (item_scope (number_of x.item n) ts E) G s) h.scopes;
      named = named;
    }

-- what is written may be forgotten
written_goes : (a b : Parts) (w : Written) → Goes a b → Goes a (record b { written = w })
written_goes a b w g = record { store = g.store; types = g.types; faults = g.faults; index = g.index; recorded = g.recorded; item = g.item; telling = g.telling; constants = g.constants }

-- The call for an item's `let`: its node is noted, the type variables that were written are forgotten, and its `let` is typed, in which only its own type variables are written.
pub let_given : (a b c d : Parts) (w : Written) (env after : List Entry) (n : ℕ) (t : Tree) → OnlyNotes a b → Goes a b → c ≡ record b { written = w } → ((z : Name) → written_in w z ≡ None) → TypesItem c d env after n t → AreWrittenIn (yield_of t) d.written → (is_aloud a.telling ≡ true → (sight b).scopes a.item n ≡ Some env) → GivesLet a d env after n t
unfolding outside_between
let_given a b c d w env after n t notes goes same none typed own recorded G E seen node aloud at constants noted =
    let only = item_begins a b c w notes same in
    let here : c.item ≡ a.item = ap (λ (p : Parts). p.item) same ∙ notes.rest.item in
    let goes' : Goes a c = subst (Goes a) (sym same) (written_goes a b w goes) in
    let scoped : (sight c).scopes c.item n ≡ Some env = subst (λ (p : Parts). (sight p).scopes c.item n ≡ Some env) (sym same) (ap (λ i. (sight b).scopes i n) here ∙ recorded aloud) in
    done_between only (subst (λ i. ItemDone as_declared (at.known ≡ true) E (recorded_let i (yield_of t) n t) seen no_names c d G after) here
    (item_row_of_node c d env after n t (yield_of t) G E seen node typed (only.aloud ∙ aloud) (outside_between only at) (constants_kept a c goes' constants) (noted_on at.older noted goes') scoped (λ z. ap (λ (p : Parts). written_in p.written z) same ∙ none z) own))
