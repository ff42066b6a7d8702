-- Rows whose patterns are matched in order.
use Rattle.std.proofs.Common.{◌≡◌, ◌∙◌, ◌++◌, ℕ, List, [], ◌∷◌, map, Some, None, refl, sym, ap, subst, append-nil}
use Rattle.std.specs.Prelude.{All, codes, slice_get}
use Rattle.token_model.specs.Kinds.{Tok}
use Rattle.tree_model.specs.Rows.{pparen_row, pcons_row, ptuple_row, pas_row}
use Rattle.tree_model.specs.Slots.{is_operand}
use Rattle.tree_model.specs.Trees.{Place, Tree}
use Rattle.type_model.specs.Types.{types_of}
use Rattle.type_model.specs.Types.{Typ as type}
use Rattle.signature_model.specs.Declarations.{Name, in_text}
use Rattle.row_parts.specs.Numbered.{Numbered, operands_in, all_operands, first_in, filled_in, token_in}
use Rattle.typing_model.specs.Demands.{Condition, site, same, equal}
use Rattle.typing_model.specs.Contexts.{Choice, Context, ask, type_at}
use Rattle.typing_model.specs.Parts.{Pattern, TypeExpression, place_of}
use Rattle.typing_model.specs.BuiltIns.{list_type}
use Rattle.typing_model.specs.Patterns.{over, pas, ask_fresh}
use Rattle.type_terms.specs.declared.types.NodeRef.{NodeRef}
use Rattle.type_nodes.specs.Nodes.{Tuple, Con, IsNode}
use Rattle.type_nodes.specs.Changes.{Makes}
use Rattle.env_table.specs.declared.entries.Entry.{Entry}
use Rattle.typing_state.specs.declared.parts.Parts.{Parts}
use Rattle.typing_state.specs.Goes.{Goes, OnlyStore}
use Rattle.typing_state.specs.Types.{list_path}
use Rattle.typing_conditions.specs.Sights.{Sight, Letters}
use Rattle.typing_conditions.specs.Frames.{Frame}
use Rattle.typing_conditions.specs.Meanings.{Means, AllMean, one_means, types_by}
use Rattle.typing_conditions.specs.Carrying.{Carried}
use Rattle.typing_conditions.specs.Surroundings.{IsEntry}
use Rattle.typing_conditions.proofs.Recording.{ends_same}
use Rattle.typing_conditions.specs.Hiding.{AreDone}
use Rattle.typing_conditions.proofs.Carried.{carried_refl, carried_trans, carried_as, done_then, done_as}
use Rattle.typing_conditions.proofs.Hiding.{owns_done}
use Rattle.typing_conditions.proofs.Keeping.{all_among}
use Rattle.typing_conditions.proofs.Meaning.{means_on}
use Rattle.typing_conditions.proofs.Stays.{stays_trans, stays_closed}
use Rattle.typing_conditions.proofs.Surrounding.{surrounds_on, surrounds_sees, sees_on}
use Rattle.typing_steps.specs.States.{is_aloud, sight}
use Rattle.typing_steps.specs.Typing.{AsksEqual}
use Rattle.typing_steps.proofs.Making.{tuple_over, list_over}
use Rattle.operand_laws.specs.Formed.{row_of, is_needed, may_repeat, IsFormed}
use Rattle.operand_laws.specs.Operands.{number_of, pattern_of, type_of}
use Rattle.operand_laws.proofs.SlotBySlot.{exactly_one}
use Rattle.typing_rows.proofs.Ending.{row_of_type}
use Rattle.typing_rows.proofs.Terms.{two_operands}
use Rattle.typing_rows.specs.Operands.{Annotates}
use Rattle.typing_rows.specs.TypeContracts.{ReadAs}
use Rattle.typing_rows.proofs.Annotated.{row_written}
use Rattle.pattern_rows.specs.Bounds.{Bind, AllBound, none_bound, one_bound}
use Rattle.pattern_rows.specs.Contracts.{row_pattern, patterns_of, types_at, AsksFresh, MatchesRow, MatchesAll, EndsPatterns, cons_asks}
use Rattle.pattern_rows.proofs.Naming.{all_bound_on, all_bound_both}
use Rattle.pattern_rows.proofs.Opened.{row_behind}
use Rattle.pattern_rows.proofs.Terms.{paren_term, written_term, cons_term, tuple_term, as_term, one_operand}

-- patterns in order, and then the end of their row
pub over_row : (a b d : Parts) (env : List Entry) (n : ℕ) (at : Place) (ps : List Pattern) (seen : List Name) (added : List Bind) (ms : List ℕ) (m : ℕ) (asks : Context → ℕ → List Condition) → MatchesAll a b env ps seen added ms → Goes a b → EndsPatterns b d env asks ps ms m →
    MatchesRow a d env (over n at ps (λ c. asks c n)) seen added n m
over_row a b d env n at ps seen added ms m asks all goes ends = record {
  opens = all.opens;
  typed = λ aloud F scope G its s.
      let x = all.typed aloud F scope G s in
      let y = ends (ap is_aloud goes.telling ∙ aloud) F scope (all.opens ++ G) n its (surrounds_on x.carried.stays s) x.means in
      let r = row_behind all.opens x.carried x.done y in
      record { row = r.row; among = r.among; done = r.done; names = λ e st h known. all_bound_on (stays_trans (stays_closed y.own y.typed.carried.stays) st) x.names };
}

-- the first node is that of the first pattern
pub first_means : {F : Frame} {a : Sight} {G : Letters} (p : Pattern) (ps : List Pattern) (ms : List ℕ) (m : ℕ) → AllMean F a G (types_at (p ∷ ps)) ms → slice_get ms 0 ≡ Some m → Means F a G (λ ch. ch.type_at p.node) m
first_means p ps [] m all e = absurd (cc)
first_means {F} {a} {G} p ps (k ∷ ms) m (one_means h hs) e = let s : k ≡ m = cc in subst (Means F a G (λ ch. ch.type_at p.node)) s h

-- and the second that of the second
pub second_means : {F : Frame} {a : Sight} {G : Letters} (p q : Pattern) (ps : List Pattern) (k m : ℕ) (ms : List ℕ) → AllMean F a G (types_at (p ∷ q ∷ ps)) (k ∷ m ∷ ms) → Means F a G (λ ch. ch.type_at q.node) m
second_means p q ps k m ms (one_means h (one_means i hs)) = i

-- an end that has the type of the first pattern
pub ends_first : (a : Parts) (env : List Entry) (p : Pattern) (ps : List Pattern) (ms : List ℕ) (m : ℕ) → slice_get ms 0 ≡ Some m → EndsPatterns a a env (λ c n. same (type_at c n) (type_at c p.node) ∷ []) (p ∷ ps) ms m
ends_first a env p ps ms m node = λ aloud F scope G n its s all. row_of_type (λ c. []) (λ ch. ch.type_at p.node) carried_refl (first_means p ps ms m all node) (λ c. refl)

-- ( p ), where no type is written
pub paren_typed : (a b : Parts) (env : List Entry) (i n : ℕ) (at : Place) (t : Tree) (seen : List Name) (added : List Bind) (ms : List ℕ) (m : ℕ) → IsFormed n t → row_of t ≡ pparen_row → first_in n t 3 ≡ None → Goes a b →
    MatchesAll a b env (patterns_of i (operands_in n t 1)) seen added ms → slice_get ms 0 ≡ Some m → MatchesRow a b env (row_pattern i n at t) seen added (number_of i n) m
unfolding is_operand is_needed may_repeat
paren_typed a b env i n at t seen added ms m formed row none goes all node =
    let p = pattern_of i (filled_in n t 1) in
    let alone : operands_in n t 1 ≡ filled_in n t 1 ∷ [] = exactly_one n t 1 formed (ap (λ q. is_operand q 1) row) (ap (λ q. is_needed q 1) row) (ap (λ q. may_repeat q 1) row) in
    subst (λ x. MatchesRow a b env x seen added (number_of i n) m) (sym (paren_term i n at t formed row none))
    (over_row a b b env (number_of i n) at (p ∷ []) seen added ms m (λ c k. same (type_at c k) (type_at c p.node) ∷ []) (subst (λ os. MatchesAll a b env (patterns_of i os) seen added ms) alone all) goes (ends_first b env p [] ms m node))

-- what ( p : t ) asks once its pattern is matched
abbrev written_asks : Pattern → TypeExpression → Context → ℕ → List Condition
written_asks p w c n = w.read c ++ ask n 0 p.at (equal (type_at c p.node) (type_at c w.node)) ++ same (type_at c n) (type_at c w.node) ∷ []

-- its end: the pattern has the written type
pub ends_written : (a b : Parts) (env : List Entry) (p : Pattern) (w : TypeExpression) (at : Place) (ms : List ℕ) (found wanted : ℕ) → p.at ≡ at → slice_get ms 0 ≡ Some found → Annotates a b env w at found wanted → EndsPatterns a b env (written_asks p w) (p ∷ []) ms wanted
ends_written a b env p w at ms found wanted place node written = λ aloud F scope G n its s all.
    let x = written aloud F scope G n 0 (λ ch. ch.type_at p.node) its s (first_means p [] ms found all node) in
    let y = subst (λ l. ReadAs F scope (λ c. w.read c ++ ask n 0 l (equal (type_at c p.node) (type_at c w.node))) (sight a) G (sight b) w.node wanted) (sym place) x in
    row_written (λ c. w.read c ++ ask n 0 p.at (equal (type_at c p.node) (type_at c w.node))) w y (λ c. refl)

-- ( p : t )
pub written_typed : (a b d : Parts) (env : List Entry) (i n : ℕ) (at place : Place) (t : Tree) (o : Numbered) (seen : List Name) (added : List Bind) (ms : List ℕ) (found wanted : ℕ) → IsFormed n t → row_of t ≡ pparen_row → first_in n t 3 ≡ Some o → Goes a b →
    MatchesAll a b env (patterns_of i (operands_in n t 1)) seen added ms → slice_get ms 0 ≡ Some found → (pattern_of i (filled_in n t 1)).at ≡ place → Annotates b d env (type_of i o) place found wanted → MatchesRow a d env (row_pattern i n at t) seen added (number_of i n) wanted
unfolding is_operand is_needed may_repeat
written_typed a b d env i n at place t o seen added ms found wanted formed row some goes all node here written =
    let p = pattern_of i (filled_in n t 1) in
    let alone : operands_in n t 1 ≡ filled_in n t 1 ∷ [] = exactly_one n t 1 formed (ap (λ q. is_operand q 1) row) (ap (λ q. is_needed q 1) row) (ap (λ q. may_repeat q 1) row) in
    subst (λ x. MatchesRow a d env x seen added (number_of i n) wanted) (sym (written_term i n at t o formed row some))
    (over_row a b d env (number_of i n) at (p ∷ []) seen added ms wanted (written_asks p (type_of i o)) (subst (λ os. MatchesAll a b env (patterns_of i os) seen added ms) alone all) goes (ends_written b d env p (type_of i o) place ms found wanted here node written))

-- types by a choice
types_by_at : (ch : Choice) (ps : List Pattern) → types_by ch (types_at ps) ≡ map (λ p. ch.type_at p.node) ps
types_by_at ch [] = refl
types_by_at ch (p ∷ ps) = ap (λ ts. ch.type_at p.node ∷ ts) (types_by_at ch ps)

-- the end of p, p
pub ends_tuple : (a b : Parts) (env : List Entry) (ps : List Pattern) (ms : List ℕ) (m : ℕ) → (All (IsNode a.store.nodes) ms → Makes a.store b.store m (Tuple ms)) → OnlyStore a b →
    EndsPatterns a b env (λ c n. same (type_at c n) (type.Tuple (types_of (map (λ p. type_at c p.node) ps))) ∷ []) ps ms m
ends_tuple a b env ps ms m made rest = λ aloud F scope G n its s all.
    let x = tuple_over a b {scope = scope} s.reached all made rest in
    row_of_type (λ c. []) (λ ch. type.Tuple (types_of (types_by ch (types_at ps)))) x.carried x.means (λ c. ap (λ ts. same (type_at c n) (type.Tuple (types_of ts)) ∷ []) (types_by_at c.chosen ps))

-- p, p
pub tuple_typed : (a b d : Parts) (env : List Entry) (i n : ℕ) (at : Place) (t : Tree) (seen : List Name) (added : List Bind) (ms : List ℕ) (m : ℕ) → IsFormed n t → row_of t ≡ ptuple_row → Goes a b → MatchesAll a b env (patterns_of i (all_operands n t)) seen added ms →
    (All (IsNode b.store.nodes) ms → Makes b.store d.store m (Tuple ms)) → OnlyStore b d → MatchesRow a d env (row_pattern i n at t) seen added (number_of i n) m
tuple_typed a b d env i n at t seen added ms m formed row goes all made rest =
    let ps = patterns_of i (all_operands n t) in
    subst (λ x. MatchesRow a d env x seen added (number_of i n) m) (sym (tuple_term i n at t formed row))
    (over_row a b d env (number_of i n) at ps seen added ms m (λ c k. same (type_at c k) (type.Tuple (types_of (map (λ p. type_at c p.node) ps))) ∷ []) all goes (ends_tuple b d env ps ms m made rest))

-- the end of p :: p
pub ends_cons : (a b d : Parts) (env : List Entry) (p q : Pattern) (at : Place) (left right m : ℕ) → q.at ≡ at → (IsNode a.store.nodes left → Makes a.store b.store m (Con list_path (codes "list") (left ∷ []))) → OnlyStore a b → AsksEqual b d env at right m →
    EndsPatterns a d env (cons_asks p q) (p ∷ q ∷ []) (left ∷ right ∷ []) m
ends_cons a b d env p q at left right m place made rest asked = λ aloud F scope G n its s all.
    let x = list_over a b {scope = scope} (first_means p (q ∷ []) (left ∷ right ∷ []) left all refl) made rest in
    let st = x.carried.stays in
    let y = asked (st.aloud ∙ aloud) F scope G (site n 0) (λ ch. ch.type_at q.node) (λ ch. list_type (ch.type_at p.node)) its (sees_on scope st s.reached (surrounds_sees s)) (means_on st (second_means p q [] left right [] all)) x.means in
    let z = subst (λ l. Carried F scope (λ c. ask n 0 l (equal (type_at c q.node) (list_type (type_at c p.node)))) (sight b) G (sight d) G) (sym place) y in
    row_of_type (λ c. ask n 0 q.at (equal (type_at c q.node) (list_type (type_at c p.node)))) (λ ch. list_type (ch.type_at p.node)) (carried_trans x.carried z) (means_on z.stays x.means) (λ c. refl)

-- p :: p
pub cons_typed : (a b d e : Parts) (env : List Entry) (i n : ℕ) (at place : Place) (t : Tree) (seen : List Name) (added : List Bind) (left right m : ℕ) → IsFormed n t → row_of t ≡ pcons_row → Goes a b → MatchesAll a b env (patterns_of i (all_operands n t)) seen added (left ∷ right ∷ []) →
    (pattern_of i (filled_in n t 2)).at ≡ place → (IsNode b.store.nodes left → Makes b.store d.store m (Con list_path (codes "list") (left ∷ []))) → OnlyStore b d → AsksEqual d e env place right m → MatchesRow a e env (row_pattern i n at t) seen added (number_of i n) m
unfolding is_operand is_needed may_repeat
cons_typed a b d e env i n at place t seen added left right m formed row goes all here made rest asked =
    let p = pattern_of i (filled_in n t 0) in
    let q = pattern_of i (filled_in n t 2) in
    subst (λ x. MatchesRow a e env x seen added (number_of i n) m) (sym (cons_term i n at t formed row))
    (over_row a b e env (number_of i n) at (p ∷ q ∷ []) seen added (left ∷ right ∷ []) m (cons_asks p q)
    (subst (λ os. MatchesAll a b env (patterns_of i os) seen added (left ∷ right ∷ [])) (two_operands n t pcons_row 0 2 formed row refl refl refl refl refl refl refl) all) goes (ends_cons b d e env p q place left right m here made rest asked))

-- p as x
pub as_typed : (a b d : Parts) (env : List Entry) (n : ℕ) (at : Place) (p : Pattern) (t : Tok) (ty : NodeRef) (e : Entry) (seen : List Name) (added : List Bind) (ms : List ℕ) → MatchesAll a b env (p ∷ []) seen added ms → slice_get ms 0 ≡ Some ty.0 → Goes a b →
    AsksFresh b d t (seen ++ p.mentions) → IsEntry e t.name (in_text (place_of t)) ty → MatchesRow a d env (pas n at p (Some t)) seen (added ++ record { token = t; node = ty; entry = e } ∷ []) n ty.0
as_typed a b d env n at p t ty e seen added ms all node goes fresh entry = record {
  opens = all.opens;
  typed = λ aloud F scope G its s.
      let x = all.typed aloud F scope G s in
      let h = first_means p [] ms ty.0 x.means node in
      let y = fresh (ap is_aloud goes.telling ∙ aloud) F scope (all.opens ++ G) n 0 in
      let z = carried_as (λ c. append-nil (p.matched c seen)) x.carried in
      let ready : AreDone (sight d) (carried_trans z y).hidden all.opens = done_then z y (done_as (λ c. append-nil (p.matched c seen)) x.carried x.done) in
      record {
        row = record {
          own = all.opens;
          type = λ ch. ch.type_at p.node;
          first = λ c. p.matched c seen ++ ask_fresh n 0 (seen ++ p.mentions) t;
          ends = λ c. same (type_at c n) (type_at c p.node) ∷ [];
          all = λ c. refl;
          typed = record { carried = carried_trans z y; means = means_on y.stays h };
          owns = λ known. owns_done ready;
          end = ends_same n (λ ch. ch.type_at p.node);
        };
        among = all_among all.opens;
        done = ready;
        names = λ o st k known.
            all_bound_both (all_bound_on (stays_trans y.stays st) (subst (λ bs. AllBound F (sight b) (all.opens ++ G) bs added) (append-nil p.names) x.names))
            (one_bound (record { named = refl; placed = refl; chosen = λ c. refl; means = k; known = known; entry = entry }) none_bound);
      };
}

-- p as x, whose name is missing
pub as_nameless : (a b : Parts) (env : List Entry) (n : ℕ) (at : Place) (p : Pattern) (seen : List Name) (added : List Bind) (ms : List ℕ) (m : ℕ) → MatchesAll a b env (p ∷ []) seen added ms → slice_get ms 0 ≡ Some m → Goes a b → MatchesRow a b env (pas n at p None) seen added n m
as_nameless a b env n at p seen added ms m all node goes = over_row a b b env n at (p ∷ []) seen added ms m (λ c k. same (type_at c k) (type_at c p.node) ∷ []) all goes (ends_first b env p [] ms m node)

-- p as x, as the row of a node
pub as_row_typed : (a d : Parts) (env : List Entry) (i n : ℕ) (at : Place) (t : Tree) (seen : List Name) (added : List Bind) (m : ℕ) → IsFormed n t → row_of t ≡ pas_row → MatchesRow a d env (pas (number_of i n) at (pattern_of i (filled_in n t 0)) (token_in t 2)) seen added (number_of i n) m →
    MatchesRow a d env (row_pattern i n at t) seen added (number_of i n) m
as_row_typed a d env i n at t seen added m formed row matched = subst (λ p. MatchesRow a d env p seen added (number_of i n) m) (sym (as_term i n at t formed row)) matched

-- its one operand
pub as_operand : (n : ℕ) (t : Tree) → IsFormed n t → row_of t ≡ pas_row → all_operands n t ≡ filled_in n t 0 ∷ []
unfolding is_operand is_needed may_repeat
as_operand n t formed row = one_operand n t pas_row 0 formed row refl refl refl refl
