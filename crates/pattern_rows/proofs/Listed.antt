-- [ p; p ]: the patterns in order, each behind the first has its type.
use Rattle.std.proofs.Common.{◌≡◌, ◌∙◌, ◌++◌, ℕ, ◌+◌, List, [], ◌∷◌, refl, sym, ap, subst, append_assoc, append-nil, arith}
use Rattle.std.specs.Prelude.{codes}
use Rattle.tree_model.specs.Rows.{plist_row}
use Rattle.tree_model.specs.Trees.{Place, Tree}
use Rattle.signature_model.specs.Declarations.{Name}
use Rattle.row_parts.specs.Numbered.{operands_in}
use Rattle.typing_model.specs.Demands.{site, same, equal}
use Rattle.typing_model.specs.Contexts.{ask, type_at}
use Rattle.typing_model.specs.Contexts as contexts
use Rattle.typing_model.specs.Parts.{Pattern}
use Rattle.typing_model.specs.BuiltIns.{list_type}
use Rattle.typing_model.specs.Patterns.{ask_all, each_has}
use Rattle.type_nodes.specs.Nodes.{Con, IsNode}
use Rattle.type_nodes.specs.Changes.{Makes}
use Rattle.env_table.specs.declared.entries.Entry.{Entry}
use Rattle.typing_state.specs.declared.parts.Parts.{Parts}
use Rattle.typing_state.specs.Goes.{Goes, OnlyStore}
use Rattle.typing_state.specs.Types.{list_path}
use Rattle.typing_conditions.specs.Sights.{Sight, letter, Letters}
use Rattle.typing_conditions.specs.Frames.{Frame}
use Rattle.typing_conditions.specs.Meanings.{Means, AllMean, one_means}
use Rattle.typing_conditions.specs.Carrying.{Carried}
use Rattle.typing_conditions.proofs.Hiding.{owns_row, below_none, below_more}
use Rattle.typing_conditions.proofs.Recording.{ends_same}
use Rattle.typing_conditions.proofs.Carried.{carried_refl, carried_trans, carried_as}
use Rattle.typing_conditions.proofs.Meaning.{means_on, all_mean_on}
use Rattle.typing_steps.specs.States.{is_aloud, sight}
use Rattle.typing_steps.specs.Typing.{AsksEqual, TypesAny}
use Rattle.typing_steps.proofs.Making.{list_over}
use Rattle.operand_laws.specs.Formed.{row_of, IsFormed}
use Rattle.operand_laws.specs.Operands.{number_of}
use Rattle.typing_rows.proofs.Ending.{row_of_type}
use Rattle.pattern_rows.specs.Bounds.{Bind}
use Rattle.pattern_rows.specs.Contracts.{row_pattern, patterns_of, types_at, MatchesRow, MatchesAll, EndsPatterns, list_asks, AsksEach, AsksEachFirst}
use Rattle.pattern_rows.proofs.Terms.{list_term}
use Rattle.pattern_rows.proofs.Typed.{over_row}
use Rattle.typing_conditions.proofs.Surrounding.{surrounds_sees, sees_on}

-- the first of some nodes, and the others
pub record SplitMeans (F : Frame) (a : Sight) (G : Letters) (p : Pattern) (rest : List Pattern) (m : ℕ) (ms : List ℕ) : Type 0 where
  pub head : Means F a G (λ ch. ch.type_at p.node) m
  pub tail : AllMean F a G (types_at rest) ms

-- of nodes that have the types of patterns
pub split_means : {F : Frame} {a : Sight} {G : Letters} (left rest : List Pattern) (p : Pattern) (nodes ms : List ℕ) (m : ℕ) → left ≡ p ∷ rest → nodes ≡ m ∷ ms → AllMean F a G (types_at left) nodes → SplitMeans F a G p rest m ms
split_means {F} {a} {G} left rest p nodes ms m split nodes_split all = by (subst (λ ns. AllMean F a G (types_at (p ∷ rest)) ns) nodes_split (subst (λ ps. AllMean F a G (types_at ps) nodes) split all))
  where
    by : AllMean F a G (types_at (p ∷ rest)) (m ∷ ms) → SplitMeans F a G p rest m ms
    by (one_means h hs) = record { head = h; tail = hs }

-- no pattern yet
pub equal_none : (a : Parts) (env : List Entry) (ps : List Pattern) (nodes : List ℕ) (wanted : ℕ) → AsksEachFirst a a env ps ps nodes nodes wanted
equal_none a env ps nodes wanted = λ aloud F scope G n t its s all has. record { done = λ c. []; k = 0; carried = carried_refl; asks = λ c. refl; means = all }

-- one pattern more
pub equal_more : (a b d : Parts) (env : List Entry) (all left rest : List Pattern) (p : Pattern) (at : Place) (nodes left_nodes others : List ℕ) (m wanted : ℕ) → left ≡ p ∷ rest → left_nodes ≡ m ∷ others → p.at ≡ at → Goes a b →
    AsksEachFirst a b env all left nodes left_nodes wanted → AsksEqual b d env at m wanted → AsksEachFirst a d env all rest nodes others wanted
equal_more a b d env all left rest p at nodes left_nodes others m wanted split nodes_split place goes first asked = λ aloud F scope G n t its s means has.
    let x = first aloud F scope G n t its s means has in
    let h = split_means left rest p left_nodes others m split nodes_split x.means in
    let y = asked (ap is_aloud goes.telling ∙ aloud) F scope G (site n x.k) (λ ch. ch.type_at p.node) t its (sees_on scope x.carried.stays s.reached (surrounds_sees s)) h.head (means_on x.carried.stays has) in
    let z = subst (λ l. Carried F scope (λ c. ask n x.k l (equal (type_at c p.node) (t c.chosen))) (sight b) G (sight d) G) (sym place) y in
    record {
      done = λ c. x.done c ++ ask n x.k p.at (equal (type_at c p.node) (t c.chosen));
      k = x.k + 1;
      carried = carried_trans x.carried z;
      asks = λ c.
          x.asks c ∙ ap (λ ps. x.done c ++ ask_all n x.k (each_has c (t c.chosen) ps)) split ∙
          sym (append_assoc (x.done c) (ask n x.k p.at (equal (type_at c p.node) (t c.chosen))) (ask_all n (x.k + 1) (each_has c (t c.chosen) rest)));
      means = all_mean_on z.stays h.tail;
    }

-- all patterns
pub equal_all : (a b : Parts) (env : List Entry) (all left : List Pattern) (nodes left_nodes : List ℕ) (wanted : ℕ) → left ≡ [] → AsksEachFirst a b env all left nodes left_nodes wanted → AsksEach a b env all nodes wanted
equal_all a b env all left nodes left_nodes wanted none first = λ aloud F scope G n t its s means has.
    let x = first aloud F scope G n t its s means has in
    carried_as (λ c. sym (append-nil (x.done c)) ∙ ap (λ ps. x.done c ++ ask_all n x.k (each_has c (t c.chosen) ps)) (sym none) ∙ sym (x.asks c)) x.carried

-- the end of [ p; p ], where there is a first pattern
pub ends_list : (a b d : Parts) (env : List Entry) (p : Pattern) (ps : List Pattern) (element m : ℕ) (ms : List ℕ) → Goes a b → AsksEach a b env ps ms element → (IsNode b.store.nodes element → Makes b.store d.store m (Con list_path (codes "list") (element ∷ []))) → OnlyStore b d →
    EndsPatterns a d env (list_asks (p ∷ ps)) (p ∷ ps) (element ∷ ms) m
ends_list a b d env p ps element m ms goes each made rest = λ aloud F scope G n its s all.
    let h = split_means (p ∷ ps) ps p (element ∷ ms) ms element refl refl all in
    let x = each aloud F scope G n (λ ch. ch.type_at p.node) its s h.tail h.head in
    let y = list_over b d {scope = scope} (means_on x.stays h.head) made rest in
    row_of_type (λ c. ask_all n 0 (each_has c (type_at c p.node) ps) ++ []) (λ ch. list_type (ch.type_at p.node)) (carried_trans x y.carried) y.means
    (λ c. ap (λ xs. xs ++ same (type_at c n) (list_type (type_at c p.node)) ∷ []) (append-nil (ask_all n 0 (each_has c (type_at c p.node) ps))))

-- its end where there is none: a list of any type
pub ends_list_none : (a b d : Parts) (env : List Entry) (element m : ℕ) (ms : List ℕ) → TypesAny a b element → (IsNode b.store.nodes element → Makes b.store d.store m (Con list_path (codes "list") (element ∷ []))) → OnlyStore b d → EndsPatterns a d env (list_asks []) [] ms m
ends_list_none a b d env element m ms any made rest = λ aloud F scope G n its s all.
    let x = any F scope G (letter n 0) (λ t. tt) s.reached in
    let z = list_over b d {scope = scope} x.means made rest in
    record {
      own = (letter n 0, element) ∷ [];
      type = λ ch. list_type (ch.letter n 0);
      first = λ c. [];
      ends = λ c. same (type_at c n) (list_type (contexts.letter c n 0)) ∷ [];
      all = λ c. refl;
      typed = record { carried = carried_trans x.carried z.carried; means = z.means };
      owns = λ known. owns_row (below_more 0 1 element (omega arith) (omega arith) (below_none n 0)).of_row;
      end = ends_same n (λ ch. list_type (ch.letter n 0));
    }

-- [ p; p ]
pub list_typed : (a b d : Parts) (env : List Entry) (i n : ℕ) (at : Place) (t : Tree) (seen : List Name) (added : List Bind) (ms : List ℕ) (m : ℕ) → IsFormed n t → row_of t ≡ plist_row → Goes a b → MatchesAll a b env (patterns_of i (operands_in n t 1)) seen added ms →
    EndsPatterns b d env (list_asks (patterns_of i (operands_in n t 1))) (patterns_of i (operands_in n t 1)) ms m → MatchesRow a d env (row_pattern i n at t) seen added (number_of i n) m
list_typed a b d env i n at t seen added ms m formed row goes all ends =
    subst (λ x. MatchesRow a d env x seen added (number_of i n) m) (sym (list_term i n at t formed row)) (over_row a b d env (number_of i n) at (patterns_of i (operands_in n t 1)) seen added ms m (list_asks (patterns_of i (operands_in n t 1))) all goes ends)
