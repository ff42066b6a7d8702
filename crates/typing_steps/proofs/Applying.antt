-- The row of an application whose head is no constructor: the head, one argument after the other, and the record of its node.
use Rattle.std.proofs.Common.{◌≡◌, ◌∙◌, ◌++◌, ℕ, ◌+◌, List, [], ◌∷◌, refl, sym, ap, append_assoc, append-nil, arith}
use Rattle.tree_model.specs.Trees.{Place}
use Rattle.type_model.specs.Types.{Typ}
use Rattle.typing_model.specs.Demands.{same}
use Rattle.typing_model.specs.Contexts.{Choice, Context, type_at}
use Rattle.typing_model.specs.Contexts as contexts
use Rattle.typing_model.specs.Parts.{Expression, Form, a_constructor, a_path, a_float, a_false, a_field, no_expression, other}
use Rattle.typing_model.specs.Expressions.{applied_from, application, application_asks}
use Rattle.typing_model.specs.Meanings.{recorded_expression}
use Rattle.env_table.specs.declared.entries.Entry.{Entry}
use Rattle.typing_conditions.specs.Sights.{Sight, letter, Letters, number_in}
use Rattle.typing_conditions.specs.Frames.{Frame}
use Rattle.typing_conditions.specs.Meanings.{Means}
use Rattle.typing_conditions.specs.Steps.{Records}
use Rattle.typing_conditions.specs.Carrying.{Scope, SeesScope, CarriedTo}
use Rattle.typing_conditions.proofs.Carried.{carried_refl, carried_trans}
use Rattle.typing_conditions.proofs.Recording.{ends_same, row_recorded}
use Rattle.typing_conditions.proofs.Answering.{then_to, to_as}
use Rattle.typing_steps.specs.Rows.{argument_asks, given_from, result_of, TypesSome, IsNoConstructor}
use Rattle.typing_conditions.proofs.Hiding.{below_none, below_more, owns_row}

-- no argument yet
pub some_none : {F : Frame} {scope : Scope} {a : Sight} {G : Letters} {head : Choice → Typ} {m : ℕ} (n : ℕ) (at : Place) (es : List Expression) → Means F a G head m → TypesSome F scope a G a head n at es es m
some_none {head = head} n at es has = record { own = []; k' = 0; j' = 0; below = below_none n 0; type = head; done = λ c. []; carried = carried_refl; means = has; asks = λ c. refl; gives = λ ch. refl }

-- one argument more
pub some_more : {F : Frame} {scope : Scope} {a b d : Sight} {G : Letters} {head : Choice → Typ} {n : ℕ} {at : Place} {all left : List Expression} {m from to : ℕ} (e : Expression) (p : TypesSome F scope a G b head n at all (e ∷ left) m) →
    CarriedTo F scope (λ c. argument_asks c n p.k' p.j' at (p.type c.chosen) e) b (p.own ++ G) d ((letter n (p.j' + 1), to) ∷ (letter n p.j', from) ∷ p.own ++ G) (λ ch. ch.letter n (p.j' + 1)) to → TypesSome F scope a G d head n at all left to
some_more {n = n} {at = at} {left = left} {from = from} {to = to} e p q = record {
  own = (letter n (p.j' + 1), to) ∷ (letter n p.j', from) ∷ p.own;
  k' = p.k' + 2;
  j' = p.j' + 2;
  below = below_more (p.j' + 1) (p.j' + 2) to (omega arith) (omega arith) (below_more p.j' (p.j' + 1) from (omega arith) (omega arith) p.below);
  type = λ ch. ch.letter n (p.j' + 1);
  done = λ c. p.done c ++ argument_asks c n p.k' p.j' at (p.type c.chosen) e;
  carried = carried_trans p.carried q.carried;
  means = q.means;
  asks = λ c. p.asks c ∙ sym (append_assoc (p.done c) (argument_asks c n p.k' p.j' at (p.type c.chosen) e) (given_from c n (p.k' + 2) (p.j' + 2) at (contexts.letter c n (p.j' + 1)) left));
  gives = p.gives;
}

-- all arguments: the whole has the type of the last result
some_all : {F : Frame} {scope : Scope} {a b : Sight} {G : Letters} {head : Choice → Typ} {n : ℕ} {at : Place} {all : List Expression} {m : ℕ} (p : TypesSome F scope a G b head n at all [] m) →
    CarriedTo F scope (λ c. given_from c n 0 0 at (head c.chosen) all) a G b (p.own ++ G) (λ ch. result_of ch n 0 (head ch) all) m
some_all p = to_as (λ c. sym (append-nil (p.done c)) ∙ sym (p.asks c)) (λ ch. sym (p.gives ch)) (record { carried = p.carried; means = p.means })

-- what is asked of arguments, and then of the whole
applied_split : (c : Context) (n k j : ℕ) (at : Place) (head : Typ) (es : List Expression) → given_from c n k j at head es ++ same (type_at c n) (result_of c.chosen n j head es) ∷ [] ≡ applied_from c n k j at head es
applied_split c n k j at head [] = refl
applied_split c n k j at head (e ∷ es) =
    append_assoc (argument_asks c n k j at head e) (given_from c n (k + 2) (j + 2) at (contexts.letter c n (j + 1)) es) (same (type_at c n) (result_of c.chosen n (j + 2) (contexts.letter c n (j + 1)) es) ∷ []) ∙
    ap (λ xs. argument_asks c n k j at head e ++ xs) (applied_split c n (k + 2) (j + 2) at (contexts.letter c n (j + 1)) es)

-- an application whose head is no constructor asks the head and then this
application_as : (c : Context) (n : ℕ) (head : Expression) (es : List Expression) (f : Form) → IsNoConstructor f → head.typed c ++ applied_from c n 0 0 head.at (type_at c head.node) es ≡ application_asks c n head es f
application_as c n head es (a_constructor p) no_one = absurd no_one
application_as c n head es (a_path p) no_one = refl
application_as c n head es a_float no_one = refl
application_as c n head es a_false no_one = refl
application_as c n head es (a_field p l) no_one = refl
application_as c n head es no_expression no_one = refl
application_as c n head es other no_one = refl

-- The whole row, where its type is recorded for the node's number in the item.
pub application_recorded : {F : Frame} {scope : Scope} {a b d e : Sight} {G : Letters} {n number found m : ℕ} {env : List Entry} (at : Place) (head : Expression) (es : List Expression) → number_in d.item number ≡ n → IsNoConstructor head.form →
    CarriedTo F scope (λ c. head.typed c) a G b G (λ ch. ch.type_at head.node) found → TypesSome F scope b G d (λ ch. ch.type_at head.node) n head.at es [] m → Records d e number m env → SeesScope F scope a G env →
    CarriedTo F scope (λ c. (recorded_expression n (application n at head es)).typed c) a G e G (λ ch. ch.type_at n) m
application_recorded {n = n} at head es number plain first p r sees =
    let given = then_to first.carried (some_all p) in
    let whole = row_recorded p.own n number given (ends_same n (λ ch. result_of ch n 0 (ch.type_at head.node) es)) r sees (λ known. owns_row p.below.of_row) in
    to_as (λ c. ap (λ xs. contexts.tell_typed n c ++ xs) (append_assoc (head.typed c) (given_from c n 0 0 head.at (type_at c head.node) es) (same (type_at c n) (result_of c.chosen n 0 (type_at c head.node) es) ∷ []) ∙
    ap (λ xs. head.typed c ++ xs) (applied_split c n 0 0 head.at (type_at c head.node) es) ∙ application_as c n head es head.form plain)) (λ ch. refl) whole
