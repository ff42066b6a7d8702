-- Parts of an application's row: what is asked of a head and its arguments, one after the other.
use Rattle.std.proofs.Common.{◌≡◌, ◌∙◌, ◌++◌, ℕ, ◌+◌, true, List, [], ◌∷◌, refl, sym, ap, subst, append_assoc, append-nil, arith}
use Rattle.tree_model.specs.Trees.{Place}
use Rattle.type_model.specs.Types.{Typ}
use Rattle.type_model.specs.Types.{Typ as type}
use Rattle.typing_model.specs.Demands.{site, same, equal}
use Rattle.typing_model.specs.Contexts.{Choice, Context, ask, type_at}
use Rattle.typing_model.specs.Contexts as contexts
use Rattle.typing_model.specs.Parts.{Expression}
use Rattle.typing_model.specs.Expressions.{typed_all, applied_from}
use Rattle.type_nodes.specs.Nodes.{Arrow, IsNode}
use Rattle.type_nodes.specs.Changes.{Makes}
use Rattle.env_table.specs.declared.entries.Entry.{Entry}
use Rattle.typing_state.specs.declared.parts.Parts.{Parts}
use Rattle.typing_state.specs.Goes.{Goes, OnlyStore}
use Rattle.typing_state.specs.Types.{MakesVar, any_scope}
use Rattle.typing_conditions.specs.Sights.{Sight, letter, Letters}
use Rattle.typing_conditions.specs.Frames.{Frame}
use Rattle.typing_conditions.specs.Hiding.{AreBelow}
use Rattle.typing_conditions.proofs.Hiding.{below_more, owns_row}
use Rattle.typing_conditions.specs.Carrying.{Asks, Scope, Carried, CarriedTo}
use Rattle.typing_conditions.proofs.Carried.{carried_refl, carried_trans, carried_as}
use Rattle.typing_conditions.proofs.Meaning.{means_on}
use Rattle.typing_conditions.proofs.Answering.{then_to, to_as}
use Rattle.typing_conditions.proofs.Surrounding.{surrounds_on}
use Rattle.typing_steps.specs.States.{is_aloud, sight}
use Rattle.typing_steps.specs.Rows.{argument_asks, given_from, result_of}
use Rattle.typing_steps.specs.Typing.{TypesTo, RowCarried, AsksEqual}
use Rattle.typing_steps.proofs.Asking.{two_made, argument_asked}
use Rattle.typing_steps.proofs.Making.{arrow_over}
use Rattle.typing_conditions.proofs.Recording.{ends_same}
use Rattle.typing_rows.specs.Contracts.{TypesEach, TypesFirst, MakesBoth, HeadIsArrow, TypesAs, GivenAll, TypesGiven, TypesGivenFirst, TypesArgument}
use Rattle.typing_conditions.proofs.Surrounding.{sees_on, surrounds_sees}

-- two new variables
pub makes_both : (a b d : Parts) (m n : ℕ) → MakesVar a b m any_scope → OnlyStore a b → MakesVar b d n any_scope → OnlyStore b d → MakesBoth a d m n
makes_both a b d m n made rest made' rest' = λ F scope G first second free free' r. two_made a b d {F = F} {scope = scope} {G = G} first second free free' r made rest made' rest'

-- the demand that a head is an arrow
pub head_is_arrow : (a b d e : Parts) (env : List Entry) (at : Place) (found whole from to : ℕ) → MakesBoth a b from to → Goes a b → (IsNode b.store.nodes from → IsNode b.store.nodes to → Makes b.store d.store whole (Arrow from to)) → OnlyStore b d → AsksEqual d e env at found whole →
    HeadIsArrow a e env at found from to
head_is_arrow a b d e env at found whole from to both goes made rest asked = λ aloud F scope G n k j h its s has.
    let two = both F scope G (letter n j) (letter n (j + 1)) (λ t. tt) (λ t. tt) s.reached in
    let y = arrow_over b d {scope = scope} two.first_is two.second_is made rest in
    let first = carried_trans two.carried y.carried in
    let loud : is_aloud d.telling ≡ true = ap is_aloud rest.telling ∙ ap is_aloud goes.telling ∙ aloud in
    let z = asked loud F scope ((letter n (j + 1), to) ∷ (letter n j, from) ∷ G) (site n k) h (λ ch. type.Arrow (ch.letter n j) (ch.letter n (j + 1))) its (sees_on scope first.stays s.reached (surrounds_sees s)) (means_on first.stays has) y.means in
    record { carried = carried_trans first z; from_is = means_on z.stays (means_on y.carried.stays two.first_is); to_is = means_on z.stays (means_on y.carried.stays two.second_is) }

-- an expression that has a type
pub types_as : (a b d : Parts) (env : List Entry) (e : Expression) (at : Place) (found wanted : ℕ) → e.at ≡ at → TypesTo a b env (λ c. e.typed c) (λ ch. ch.type_at e.node) found → Goes a b → AsksEqual b d env at found wanted → TypesAs a d env e wanted
types_as a b d env e at found wanted place typed goes asked = λ aloud F scope G n k t its s has.
    let x = typed aloud F scope G s in
    let z = asked (ap is_aloud goes.telling ∙ aloud) F scope G (site n k) (λ ch. ch.type_at e.node) t its (sees_on scope x.carried.stays s.reached (surrounds_sees s)) x.means (means_on x.carried.stays has) in
    carried_trans x.carried (subst (λ p. Carried F scope (λ c. ask n k p (equal (c.chosen.type_at e.node) (t c.chosen))) (sight b) G (sight d) G) (sym place) z)

-- an argument of a head
pub types_argument : (a b d : Parts) (env : List Entry) (at : Place) (e : Expression) (head from to : ℕ) → HeadIsArrow a b env at head from to → Goes a b → TypesAs b d env e from → TypesArgument a d env at e head to
types_argument a b d env at e head from to arrow goes typed = λ aloud F scope G n k j h its s has.
    let x = arrow aloud F scope G n k j h its s has in
    let y = typed (ap is_aloud goes.telling ∙ aloud) F scope ((letter n (j + 1), to) ∷ (letter n j, from) ∷ G) n (k + 1) (λ ch. ch.letter n j) its (surrounds_on x.carried.stays s) x.from_is in
    (from, argument_asked e x y)

-- no argument yet
pub given_none : (a : Parts) (env : List Entry) (at : Place) (es : List Expression) (head : ℕ) → TypesGivenFirst a a env at es es head head
given_none a env at es head = λ aloud F scope G n k j h its s has. record { own = []; k' = k; j' = j; below = λ mine b. b; type = h; done = λ c. []; typed = record { carried = carried_refl; means = has }; asks = λ c. refl; gives = λ ch. refl }

-- one argument more
pub given_more : (a b d : Parts) (env : List Entry) (at : Place) (all left rest : List Expression) (e : Expression) (head m to : ℕ) → left ≡ e ∷ rest → Goes a b → TypesGivenFirst a b env at all left head m → TypesArgument b d env at e m to →
    TypesGivenFirst a d env at all rest head to
given_more a b d env at all left rest e head m to split goes first one = λ aloud F scope G n k j h its s has.
    let p = first aloud F scope G n k j h its s has in
    let (from, q) = one (ap is_aloud goes.telling ∙ aloud) F scope (p.own ++ G) n p.k' p.j' p.type its (surrounds_on p.typed.carried.stays s) p.typed.means in
    record {
      own = (letter n (p.j' + 1), to) ∷ (letter n p.j', from) ∷ p.own;
      k' = p.k' + 2;
      j' = p.j' + 2;
      below = λ mine b. below_more (p.j' + 1) (p.j' + 2) to (omega arith) (omega arith) (below_more p.j' (p.j' + 1) from (omega arith) (omega arith) (p.below mine b));
      type = λ ch. ch.letter n (p.j' + 1);
      done = λ c. p.done c ++ argument_asks c n p.k' p.j' at (p.type c.chosen) e;
      typed = record { carried = carried_trans p.typed.carried q.carried; means = q.means };
      asks = λ c. p.asks c ∙ ap (λ es. p.done c ++ given_from c n p.k' p.j' at (p.type c.chosen) es) split ∙
          sym (append_assoc (p.done c) (argument_asks c n p.k' p.j' at (p.type c.chosen) e) (given_from c n (p.k' + 2) (p.j' + 2) at (contexts.letter c n (p.j' + 1)) rest));
      gives = λ ch. p.gives ch ∙ ap (λ es. result_of ch n p.j' (p.type ch) es) split;
    }

-- all arguments
pub given_all : (a b : Parts) (env : List Entry) (at : Place) (all left : List Expression) (head m : ℕ) → left ≡ [] → TypesGivenFirst a b env at all left head m → TypesGiven a b env at all head m
given_all a b env at all left head m none first = λ aloud F scope G n k j h its s has.
    let p = first aloud F scope G n k j h its s has in
    record {
      own = p.own;
      of_row = λ mine b. (p.below mine b).of_row;
      typed = to_as (λ c. sym (append-nil (p.done c)) ∙ ap (λ es. p.done c ++ given_from c n p.k' p.j' at (p.type c.chosen) es) (sym none) ∙ sym (p.asks c))
          (λ ch. ap (λ es. result_of ch n p.j' (p.type ch) es) (sym none) ∙ sym (p.gives ch)) p.typed;
    }

-- what is asked of arguments, and then of the whole
given_ends : (c : Context) (n k j : ℕ) (at : Place) (head : Typ) (es : List Expression) → given_from c n k j at head es ++ same (type_at c n) (result_of c.chosen n j head es) ∷ [] ≡ applied_from c n k j at head es
given_ends c n k j at head [] = refl
given_ends c n k j at head (e ∷ es) =
    append_assoc (argument_asks c n k j at head e) (given_from c n (k + 2) (j + 2) at (contexts.letter c n (j + 1)) es) (same (type_at c n) (result_of c.chosen n (j + 2) (contexts.letter c n (j + 1)) es) ∷ []) ∙
    ap (λ xs. argument_asks c n k j at head e ++ xs) (given_ends c n (k + 2) (j + 2) at (contexts.letter c n (j + 1)) es)

-- a head, with letters of the row, and its arguments
pub applied_row : {F : Frame} {scope : Scope} {a b d : Sight} {G : Letters} {front : Asks} {h : Choice → Typ} {n k j : ℕ} {at : Place} {es : List Expression} {m to : ℕ} (mine : Letters) → AreBelow n j mine → CarriedTo F scope front a G b (mine ++ G) h m → GivenAll F scope b (mine ++ G) d h n k j at es to →
    RowCarried F scope (λ c. front c ++ applied_from c n k j at (h c.chosen) es) a G d n to
applied_row {F} {scope} {a} {b} {d} {G} {front} {h} {n} {k} {j} {at} {es} {m} {to} mine are_below head given = record {
  own = given.own ++ mine;
  type = λ ch. result_of ch n j (h ch) es;
  first = λ c. front c ++ given_from c n k j at (h c.chosen) es;
  ends = λ c. same (type_at c n) (result_of c.chosen n j (h c.chosen) es) ∷ [];
  all = λ c. append_assoc (front c) (given_from c n k j at (h c.chosen) es) (same (type_at c n) (result_of c.chosen n j (h c.chosen) es) ∷ []) ∙ ap (λ xs. front c ++ xs) (given_ends c n k j at (h c.chosen) es);
  typed = subst (λ H. CarriedTo F scope (λ c. front c ++ given_from c n k j at (h c.chosen) es) a G d H (λ ch. result_of ch n j (h ch) es) to) (sym (append_assoc given.own mine G)) (then_to head.carried given.typed);
  owns = λ known. owns_row (given.of_row mine are_below);
  end = ends_same n (λ ch. result_of ch n j (h ch) es);
}

-- no expression yet
pub each_none : (a : Parts) (env : List Entry) (es : List Expression) → TypesFirst a a env es es
each_none a env es = λ aloud F scope G s. record { done = λ c. []; carried = carried_refl; asks = λ c. refl }

-- one expression more
pub each_more : (a b d : Parts) (env : List Entry) (all left rest : List Expression) (e : Expression) (m : ℕ) → left ≡ e ∷ rest → Goes a b → TypesFirst a b env all left → TypesTo b d env (λ c. e.typed c) (λ ch. ch.type_at e.node) m → TypesFirst a d env all rest
each_more a b d env all left rest e m split goes first one = λ aloud F scope G s.
    let p = first aloud F scope G s in
    let q = one (ap is_aloud goes.telling ∙ aloud) F scope G (surrounds_on p.carried.stays s) in
    record {
      done = λ c. p.done c ++ e.typed c;
      carried = carried_trans p.carried q.carried;
      asks = λ c. p.asks c ∙ ap (λ es. p.done c ++ typed_all c es) split ∙ sym (append_assoc (p.done c) (e.typed c) (typed_all c rest));
    }

-- all expressions
pub each_all : (a b : Parts) (env : List Entry) (all left : List Expression) → left ≡ [] → TypesFirst a b env all left → TypesEach a b env all
each_all a b env all left none first = λ aloud F scope G s.
    let p = first aloud F scope G s in
    carried_as (λ c. sym (append-nil (p.done c)) ∙ ap (λ es. p.done c ++ typed_all c es) (sym none) ∙ sym (p.asks c)) p.carried
