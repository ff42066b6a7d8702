-- The end of a row whose parts are typed: its type, and what is asked besides.
use Rattle.std.proofs.Common.{◌≡◌, ◌∙◌, ◌++◌, ℕ, zero, suc, ◌+◌, true, List, [], ◌∷◌, map, Some, None, refl, sym, ap, subst, append_assoc, append-nil, arith}
use Rattle.std.specs.Prelude.{All, codes, slice_get}
use Rattle.tree_model.specs.Rows.{Row}
use Rattle.tree_model.specs.Trees.{Place}
use Rattle.type_model.specs.Types.{Typ, types_of}
use Rattle.type_model.specs.Types.{Typ as type}
use Rattle.typing_model.specs.Demands.{Condition, site, equal}
use Rattle.typing_model.specs.Contexts.{Choice, Context, ask, type_at}
use Rattle.typing_model.specs.Contexts as contexts
use Rattle.typing_model.specs.BuiltIns.{unit_type, list_type}
use Rattle.typing_model.specs.Parts.{Expression}
use Rattle.typing_model.specs.Patterns.{ask_all, behind_first}
use Rattle.typing_model.specs.Expressions.{has_type, is_of, each_has, node_types}
use Rattle.type_nodes.specs.Nodes.{Tuple, Con, IsNode}
use Rattle.type_nodes.specs.Changes.{Makes}
use Rattle.env_table.specs.declared.entries.Entry.{Entry}
use Rattle.typing_state.specs.declared.parts.Parts.{Parts}
use Rattle.typing_state.specs.Goes.{Goes, OnlyStore}
use Rattle.typing_state.specs.Types.{list_path}
use Rattle.typing_conditions.specs.Sights.{Sight, letter, Letters}
use Rattle.typing_conditions.specs.Frames.{Frame}
use Rattle.typing_conditions.specs.Meanings.{Means, AllMean, none_mean, one_means, types_by}
use Rattle.typing_conditions.specs.Carrying.{Asks, Scope, Carried}
use Rattle.typing_conditions.specs.Surroundings.{Surrounds}
use Rattle.typing_conditions.proofs.Recording.{ends_same}
use Rattle.typing_conditions.proofs.Carried.{owns_last, carried_refl, carried_trans, carried_as}
use Rattle.typing_conditions.proofs.Meaning.{means_on, means_more, all_mean_on}
use Rattle.typing_conditions.proofs.Surrounding.{surrounds_on, surrounds_sees}
use Rattle.typing_conditions.proofs.Hiding.{below_none, below_more, owns_none, owns_row}
use Rattle.typing_steps.specs.States.{is_aloud, sight}
use Rattle.typing_steps.specs.Typing.{as_declared, RowCarried, TypesRow, AsksEqual, TypesAny}
use Rattle.typing_steps.proofs.Making.{tuple_over, list_over}
use Rattle.typing_steps.proofs.Rows.{row_any}
use Rattle.typing_rows.specs.Asked.{parts_ask, has_if, branches_ask, cons_asks, list_asks}
use Rattle.typing_rows.specs.Contracts.{types_at, TypesParts, AsksAt, AsksLater, AsksLaterFirst, EndsRow}

-- a row that has a type once something was asked
pub row_of_type : {F : Frame} {scope : Scope} {asks : Asks} {a b : Sight} {G : Letters} {n m : ℕ} (front : Asks) (type : Choice → Typ) → Carried F scope front a G b G → Means F b G type m → ((c : Context) → front c ++ is_of c n (type c.chosen) ≡ asks c) → RowCarried F scope asks a G b n m
row_of_type {n = n} front type carried means is = record { own = []; type = type; first = front; ends = λ c. is_of c n (type c.chosen); all = is; typed = record { carried = carried; means = means }; owns = λ known. owns_none; end = ends_same n type }

-- what a row asks may be written in another way
pub row_as : {F : Frame} {scope : Scope} {asks others : Asks} {a b : Sight} {G : Letters} {n m : ℕ} → ((c : Context) → asks c ≡ others c) → RowCarried F scope asks a G b n m → RowCarried F scope others a G b n m
row_as e row = record { own = row.own; type = row.type; first = row.first; ends = row.ends; all = λ c. row.all c ∙ e c; typed = row.typed; owns = row.owns; end = row.end }

-- a row after other conditions
pub row_after : {F : Frame} {scope : Scope} {before asks : Asks} {a b d : Sight} {G : Letters} {n m : ℕ} → Carried F scope before a G b G → RowCarried F scope asks b G d n m → RowCarried F scope (λ c. before c ++ asks c) a G d n m
row_after {before = before} first row = record {
  own = row.own;
  type = row.type;
  first = λ c. before c ++ row.first c;
  ends = row.ends;
  all = λ c. append_assoc (before c) (row.first c) (row.ends c) ∙ ap (λ xs. before c ++ xs) (row.all c);
  typed = record { carried = carried_trans first row.typed.carried; means = row.typed.means };
  owns = λ known. owns_last first row.typed.carried (row.owns known);
  end = row.end;
}

-- the parts of a row and its end
pub plain_typed : (a b d : Parts) (env : List Entry) (r : Row) (end : Context → ℕ → List Condition) (es : List Expression) (ms : List ℕ) (m n : ℕ) (asks : Asks) → ((c : Context) → parts_ask r 0 c n es ++ end c n ≡ asks c) → TypesParts a b env r es ms → Goes a b → EndsRow b d env end es ms m →
    TypesRow a d env asks n m
plain_typed a b d env r end es ms m n asks is parts goes ends = λ aloud F scope G its s.
    let p = parts aloud F scope G n its s in
    row_as is (row_after p.carried (ends (ap is_aloud goes.telling ∙ aloud) F scope G n its (surrounds_on p.carried.stays s) p.means))

-- what is there is one
one_some : {A : Type 0} (x y : A) → Some x ≡ Some y → x ≡ y
one_some x y e = cc

-- types by a choice
pub types_by_at : (ch : Choice) (es : List Expression) → types_by ch (types_at es) ≡ map (λ e. ch.type_at e.node) es
types_by_at ch [] = refl
types_by_at ch (e ∷ es) = ap (λ ts. ch.type_at e.node ∷ ts) (types_by_at ch es)

-- the expression at the place of a node that is among those of the parts
pub record ReadsAt (F : Frame) (a : Sight) (G : Letters) (es : List Expression) (i m : ℕ) : Type 0 where
  pub part : Expression
  pub here : slice_get es i ≡ Some part
  pub means : Means F a G (λ ch. ch.type_at part.node) m

-- each node among them is that of an expression
pub reads_at : {F : Frame} {a : Sight} {G : Letters} (es : List Expression) (ms : List ℕ) (i m : ℕ) → AllMean F a G (types_at es) ms → slice_get ms i ≡ Some m → ReadsAt F a G es i m
reads_at [] [] i m none_mean e = absurd (cc)
reads_at {F = F} {a = a} {G = G} [] (k ∷ ms) i m all e = elim all [ ]
reads_at {F = F} {a = a} {G = G} (x ∷ es) [] i m all e = elim all [ ]
reads_at {F} {a} {G} (x ∷ es) (k ∷ ms) zero m (one_means h hs) e = let s : k ≡ m = cc in record { part = x; here = refl; means = subst (Means F a G (λ ch. ch.type_at x.node)) s h }
reads_at (x ∷ es) (k ∷ ms) (suc i) m (one_means h hs) e = let r = reads_at es ms i m hs e in record { part = r.part; here = r.here; means = r.means }

-- there are as many nodes as expressions
pub none_at : {F : Frame} {a : Sight} {G : Letters} (es : List Expression) (ms : List ℕ) (i : ℕ) → AllMean F a G (types_at es) ms → slice_get ms i ≡ None → slice_get es i ≡ None
none_at [] ms i all e = refl
none_at {F = F} {a = a} {G = G} (x ∷ es) [] i all e = elim all [ ]
none_at (x ∷ es) (k ∷ ms) zero (one_means h hs) e = absurd (cc)
none_at (x ∷ es) (k ∷ ms) (suc i) (one_means h hs) e = none_at es ms i hs e

-- `has`: the part at a place has a type
pub asks_at : (a b : Parts) (env : List Entry) (es : List Expression) (ms : List ℕ) (place found wanted : ℕ) (e : Expression) (at : Place) → slice_get es place ≡ Some e → slice_get ms place ≡ Some found → e.at ≡ at → AsksEqual a b env at found wanted → AsksAt a b env es ms place wanted
asks_at a b env es ms place found wanted e at here node is asked = λ aloud F scope G n k t its s all has.
    let r = reads_at es ms place found all node in
    let same : r.part ≡ e = one_some r.part e (sym r.here ∙ here) in
    let z = asked aloud F scope G (site n k) (λ ch. ch.type_at e.node) t its (surrounds_sees s) (subst (λ x. Means F (sight a) G (λ ch. ch.type_at x.node) found) same r.means) has in
    carried_as (λ c. ap (λ o. has_if c n k o (t c.chosen)) (sym here)) (subst (λ p. Carried F scope (λ c. ask n k p (equal (c.chosen.type_at e.node) (t c.chosen))) (sight a) G (sight b) G) (sym is) z)

-- where there is no part, nothing is asked
pub asks_none : (a : Parts) (env : List Entry) (es : List Expression) (ms : List ℕ) (place wanted : ℕ) → slice_get es place ≡ None → AsksAt a a env es ms place wanted
asks_none a env es ms place wanted none = λ aloud F scope G n k t its s all has. carried_as (λ c. ap (λ o. has_if c n k o (t c.chosen)) (sym none)) carried_refl

-- where there is no node for a place, there is no part
pub asks_no_node : (a : Parts) (env : List Entry) (es : List Expression) (ms : List ℕ) (place wanted : ℕ) → slice_get ms place ≡ None → AsksAt a a env es ms place wanted
asks_no_node a env es ms place wanted none = λ aloud F scope G n k t its s all has. carried_as (λ c. ap (λ o. has_if c n k o (t c.chosen)) (sym (none_at es ms place all none))) carried_refl

-- no later part yet
pub later_none : (a : Parts) (env : List Entry) (es : List Expression) (ms : List ℕ) (wanted : ℕ) (left : List Expression) → left ≡ behind_first es → AsksLaterFirst a a env es ms wanted (behind_first es) left
later_none a env es ms wanted left is = λ aloud F scope G n t its s all has. record {
  done = λ c. [];
  k = 0;
  carried = carried_refl;
  asks = λ c. ap (λ xs. ask_all n 0 (each_has c (t c.chosen) xs)) (sym is);
}

-- one later part more
pub later_more : (a b d : Parts) (env : List Entry) (es : List Expression) (ms : List ℕ) (place wanted : ℕ) (all left rest : List Expression) (e : Expression) → left ≡ e ∷ rest → slice_get es place ≡ Some e → Goes a b → AsksLaterFirst a b env es ms wanted all left → AsksAt b d env es ms place wanted →
    AsksLaterFirst a d env es ms wanted all rest
later_more a b d env es ms place wanted all left rest e split here goes first one = λ aloud F scope G n t its s means has.
    let p = first aloud F scope G n t its s means has in
    let q = one (ap is_aloud goes.telling ∙ aloud) F scope G n p.k t its (surrounds_on p.carried.stays s) (all_mean_on p.carried.stays means) (means_on p.carried.stays has) in
    record {
      done = λ c. p.done c ++ has_type c n p.k e (t c.chosen);
      k = p.k + 1;
      carried = carried_trans p.carried (carried_as (λ c. ap (λ o. has_if c n p.k o (t c.chosen)) here) q);
      asks = λ c. p.asks c ∙ ap (λ xs. p.done c ++ ask_all n p.k (each_has c (t c.chosen) xs)) split ∙ sym (append_assoc (p.done c) (has_type c n p.k e (t c.chosen)) (ask_all n (p.k + 1) (each_has c (t c.chosen) rest)));
    }

-- all later parts
pub later_all : (a b : Parts) (env : List Entry) (es : List Expression) (ms : List ℕ) (wanted : ℕ) (left : List Expression) → left ≡ [] → AsksLaterFirst a b env es ms wanted (behind_first es) left → AsksLater a b env es ms wanted
later_all a b env es ms wanted left none first = λ aloud F scope G n t its s means has.
    let p = first aloud F scope G n t its s means has in
    carried_as (λ c. sym (append-nil (p.done c)) ∙ ap (λ xs. p.done c ++ ask_all n p.k (each_has c (t c.chosen) xs)) (sym none) ∙ sym (p.asks c)) p.carried

-- an end that has the type of a fixed node, or of a part, and asks nothing else
pub ends_still : (a : Parts) (env : List Entry) (end : Context → ℕ → List Condition) (es : List Expression) (ms : List ℕ) (i m : ℕ) (e : Expression) → slice_get es i ≡ Some e → slice_get ms i ≡ Some m → ((c : Context) (n : ℕ) → is_of c n (type_at c e.node) ≡ end c n) → EndsRow a a env end es ms m
ends_still a env end es ms i m e here node is = λ aloud F scope G n its s all.
    let r = reads_at es ms i m all node in
    let same : r.part ≡ e = one_some r.part e (sym r.here ∙ here) in
    row_of_type (λ c. []) (λ ch. ch.type_at e.node) carried_refl (subst (λ x. Means F (sight a) G (λ ch. ch.type_at x.node) m) same r.means) (λ c. is c n)

-- an end that is a unit
pub ends_unit : (a : Parts) (env : List Entry) (end : Context → ℕ → List Condition) (es : List Expression) (ms : List ℕ) → ((c : Context) (n : ℕ) → is_of c n unit_type ≡ end c n) → EndsRow a a env end es ms a.constants.unit.0
ends_unit a env end es ms is = λ aloud F scope G n its s all. row_of_type (λ c. []) (λ ch. unit_type) carried_refl (means_more s.fixed.unit) (λ c. is c n)

-- an end that has any type
pub ends_any : (a b : Parts) (env : List Entry) (end : Context → ℕ → List Condition) (es : List Expression) (ms : List ℕ) (m : ℕ) → TypesAny a b m → ((c : Context) (n : ℕ) → [] ≡ end c n) → EndsRow a b env end es ms m
ends_any a b env end es ms m any is = λ aloud F scope G n its s all. row_as (λ c. is c n) (row_any a b {env = env} n any aloud F scope G its s)

-- e, e
pub ends_tuple : (a b : Parts) (env : List Entry) (es : List Expression) (ms : List ℕ) (m : ℕ) → (All (IsNode a.store.nodes) ms → Makes a.store b.store m (Tuple ms)) → OnlyStore a b → EndsRow a b env (λ c n. is_of c n (type.Tuple (types_of (node_types c es)))) es ms m
ends_tuple a b env es ms m made rest = λ aloud F scope G n its s all.
    let x = tuple_over a b {scope = scope} s.reached all made rest in
    row_of_type (λ c. []) (λ ch. type.Tuple (types_of (types_by ch (types_at es)))) x.carried x.means (λ c. ap (λ ts. is_of c n (type.Tuple (types_of ts))) (types_by_at c.chosen es))

-- e :: e
pub ends_cons : (a b d : Parts) (env : List Entry) (e : Expression) (es : List Expression) (ms : List ℕ) (left m : ℕ) → slice_get ms 0 ≡ Some left → (IsNode a.store.nodes left → Makes a.store b.store m (Con list_path (codes "list") (left ∷ []))) → OnlyStore a b → AsksAt b d env (e ∷ es) ms 1 m →
    EndsRow a d env (λ c n. cons_asks c n (e ∷ es)) (e ∷ es) ms m
ends_cons a b d env e es ms left m node made rest asked = λ aloud F scope G n its s all.
    let r = reads_at (e ∷ es) ms 0 left all node in
    let same : r.part ≡ e = one_some r.part e (sym r.here) in
    let x = list_over a b {scope = scope} (subst (λ y. Means F (sight a) G (λ ch. ch.type_at y.node) left) same r.means) made rest in
    let st = x.carried.stays in
    let y = asked (st.aloud ∙ aloud) F scope G n 0 (λ ch. list_type (ch.type_at e.node)) its (surrounds_on st s) (all_mean_on st all) x.means in
    row_of_type (λ c. has_if c n 0 (slice_get es 0) (list_type (type_at c e.node))) (λ ch. list_type (ch.type_at e.node)) (carried_trans x.carried y) (means_on y.stays x.means) (λ c. refl)

-- if e then e, where the branch is a unit
pub ends_then : (a b : Parts) (env : List Entry) (e f : Expression) (ms : List ℕ) → AsksAt a b env (e ∷ f ∷ []) ms 1 a.constants.unit.0 → EndsRow a b env (λ c n. branches_ask c n (e ∷ f ∷ [])) (e ∷ f ∷ []) ms a.constants.unit.0
ends_then a b env e f ms asked = λ aloud F scope G n its s all.
    let x = asked aloud F scope G n 1 (λ ch. unit_type) its s all (means_more s.fixed.unit) in
    row_of_type (λ c. has_type c n 1 f unit_type) (λ ch. unit_type) x (means_on x.stays (means_more s.fixed.unit)) (λ c. refl)

-- if e then e else e, where the branches have one type
pub ends_else : (a b : Parts) (env : List Entry) (e f g : Expression) (gs : List Expression) (ms : List ℕ) (branch : ℕ) → slice_get ms 1 ≡ Some branch → AsksAt a b env (e ∷ f ∷ g ∷ gs) ms 2 branch → EndsRow a b env (λ c n. branches_ask c n (e ∷ f ∷ g ∷ gs)) (e ∷ f ∷ g ∷ gs) ms branch
ends_else a b env e f g gs ms branch node asked = λ aloud F scope G n its s all.
    let r = reads_at (e ∷ f ∷ g ∷ gs) ms 1 branch all node in
    let same : r.part ≡ f = one_some r.part f (sym r.here) in
    let has = subst (λ y. Means F (sight a) G (λ ch. ch.type_at y.node) branch) same r.means in
    let x = asked aloud F scope G n 1 (λ ch. ch.type_at f.node) its s all has in
    row_of_type (λ c. has_type c n 1 g (type_at c f.node)) (λ ch. ch.type_at f.node) x (means_on x.stays has) (λ c. refl)

-- [ e; e ], where there is a first part
pub ends_list : (a b d : Parts) (env : List Entry) (e : Expression) (es : List Expression) (ms : List ℕ) (element m : ℕ) → slice_get ms 0 ≡ Some element → Goes a b → AsksLater a b env (e ∷ es) ms element → (IsNode b.store.nodes element → Makes b.store d.store m (Con list_path (codes "list") (element ∷ []))) → OnlyStore b d →
    EndsRow a d env (λ c n. list_asks c n (e ∷ es)) (e ∷ es) ms m
ends_list a b d env e es ms element m node goes later made rest = λ aloud F scope G n its s all.
    let r = reads_at (e ∷ es) ms 0 element all node in
    let same : r.part ≡ e = one_some r.part e (sym r.here) in
    let has = subst (λ y. Means F (sight a) G (λ ch. ch.type_at y.node) element) same r.means in
    let x = later aloud F scope G n (λ ch. ch.type_at e.node) its s all has in
    let y = list_over b d {scope = scope} (means_on x.stays has) made rest in
    row_of_type (λ c. ask_all n 0 (each_has c (type_at c e.node) es) ++ []) (λ ch. list_type (ch.type_at e.node)) (carried_trans x y.carried) y.means
    (λ c. ap (λ xs. xs ++ is_of c n (list_type (type_at c e.node))) (append-nil (ask_all n 0 (each_has c (type_at c e.node) es))))

-- the same where there is none: a list of any type
pub ends_list_none : (a b d e : Parts) (env : List Entry) (es : List Expression) (ms : List ℕ) (element m : ℕ) → slice_get ms 0 ≡ None → TypesAny a b element → Goes a b → AsksLater b d env es ms element → (IsNode d.store.nodes element → Makes d.store e.store m (Con list_path (codes "list") (element ∷ []))) → OnlyStore d e →
    EndsRow a e env (λ c n. list_asks c n es) es ms m
ends_list_none a b d e env es ms element m none any goes later made rest = λ aloud F scope G n its s all. by es all (none_at es ms 0 all none) later aloud F scope G n its s
  where
    by : (es : List Expression) {F : Frame} {G : Letters} → AllMean F (sight a) G (types_at es) ms → slice_get es 0 ≡ None → AsksLater b d env es ms element → is_aloud a.telling ≡ true → (F' : Frame) (scope : Scope) (G' : Letters) (n : ℕ) → scope.own n ≡ true → Surrounds as_declared F' (sight a) G' env scope →
        RowCarried F' scope (λ c. list_asks c n es) (sight a) G' (sight e) n m
    by (x ∷ es) all there later aloud F scope G n its s = absurd (cc)
    by [] all there later aloud F scope G n its s =
        let x = any F scope G (letter n 0) (λ t. tt) s.reached in
        let st = x.carried.stays in
        let y = later (ap is_aloud goes.telling ∙ aloud) F scope ((letter n 0, element) ∷ G) n (λ ch. ch.letter n 0) its (surrounds_on st s) (no_means ms none) x.means in
        let z = list_over d e {scope = scope} (means_on y.stays x.means) made rest in
        record {
          own = (letter n 0, element) ∷ [];
          type = λ ch. list_type (ch.letter n 0);
          first = λ c. [];
          ends = λ c. is_of c n (list_type (contexts.letter c n 0));
          all = λ c. refl;
          typed = record { carried = carried_trans (carried_trans x.carried y) z.carried; means = z.means };
          owns = λ known. owns_row (below_more 0 1 element (omega arith) (omega arith) (below_none n 0)).of_row;
          end = ends_same n (λ ch. list_type (ch.letter n 0));
        }
      where
        no_means : {F : Frame} {b : Sight} {H : Letters} (ms : List ℕ) → slice_get ms 0 ≡ None → AllMean F b H [] ms
        no_means [] e = none_mean
        no_means (m ∷ ms) e = absurd (cc)
