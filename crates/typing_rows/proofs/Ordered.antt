-- The parts of a row that are typed in order, each with what is asked of it.
use Rattle.std.proofs.Common.{◌≡◌, ◌∙◌, ◌++◌, ℕ, ◌+◌, ◌==◌, ◌&&◌, true, false, List, [], ◌∷◌, refl, sym, ap, subst, append_assoc, append-nil}
use Rattle.tree_model.specs.Rows.{Row}
use Rattle.tree_model.specs.Trees.{Place}
use Rattle.typing_model.specs.Demands.{site, equal}
use Rattle.typing_model.specs.Contexts.{Choice, ask}
use Rattle.typing_model.specs.BuiltIns.{bool_type}
use Rattle.typing_model.specs.Parts.{Expression}
use Rattle.typing_model.specs.Expressions.{is_false}
use Rattle.type_terms.specs.declared.types.NodeRef.{NodeRef}
use Rattle.type_nodes.specs.Views.{numbers}
use Rattle.env_table.specs.declared.entries.Entry.{Entry}
use Rattle.typing_state.specs.declared.parts.Parts.{Parts}
use Rattle.typing_state.specs.Goes.{Goes}
use Rattle.typing_conditions.specs.Meanings.{AllMean, none_mean}
use Rattle.typing_conditions.specs.Carrying.{Carried, CarriedTo}
use Rattle.typing_conditions.proofs.Carried.{carried_refl, carried_trans, carried_as}
use Rattle.typing_conditions.proofs.Meaning.{means_on, means_more, all_mean_on, all_mean_more}
use Rattle.typing_conditions.proofs.Surrounding.{surrounds_on}
use Rattle.typing_steps.specs.States.{is_aloud, sight}
use Rattle.typing_steps.specs.Typing.{TypesTo, AsksEqual}
use Rattle.typing_rows.specs.Asked.{wants_bool, bool_if, behind_asks, parts_ask}
use Rattle.typing_rows.specs.Contracts.{types_at, TypesParts, TypesPartsFirst, TypesPart, AsksBehind, AsksBool}
use Rattle.typing_conditions.proofs.Surrounding.{surrounds_sees}

-- the demand that an expression is a bool
pub asks_bool : (a b : Parts) (env : List Entry) (e : Expression) (at : Place) (ty : ℕ) → e.at ≡ at → AsksEqual a b env at ty a.constants.bool.0 → AsksBool a b env e ty
asks_bool a b env e at ty place asked = λ aloud F scope G n its s has.
    subst (λ p. Carried F scope (λ c. ask n 0 p (equal (c.chosen.type_at e.node) bool_type)) (sight a) G (sight b) G) (sym place)
    (asked aloud F scope G (site n 0) (λ ch. ch.type_at e.node) (λ ch. bool_type) its (surrounds_sees s) has (means_more s.fixed.bool))

-- it is made where the row wants it
pub behind_bool : (a b : Parts) (env : List Entry) (r : Row) (i : ℕ) (e : Expression) (m : ℕ) → (i == 0 && wants_bool r (is_false e.form)) ≡ true → AsksBool a b env e m → AsksBehind a b env r i e m
behind_bool a b env r i e m wants asked = λ aloud F scope G n its s has. carried_as (λ c. ap (λ w. bool_if w c n e) (sym wants)) (asked aloud F scope G n its s has)

-- and nowhere else
pub behind_none : (a : Parts) (env : List Entry) (r : Row) (i : ℕ) (e : Expression) (m : ℕ) → (i == 0 && wants_bool r (is_false e.form)) ≡ false → AsksBehind a a env r i e m
behind_none a env r i e m wants = λ aloud F scope G n its s has. carried_as (λ c. ap (λ w. bool_if w c n e) (sym wants)) carried_refl

-- a part, and then what is asked of it
pub part_typed : (a b d : Parts) (env : List Entry) (r : Row) (i : ℕ) (e : Expression) (m : ℕ) → TypesTo a b env (λ c. e.typed c) (λ ch. ch.type_at e.node) m → Goes a b → AsksBehind b d env r i e m → TypesPart a d env r i e m
part_typed a b d env r i e m typed goes asked = λ aloud F scope G n its s.
    let x = typed aloud F scope G s in
    let y = asked (ap is_aloud goes.telling ∙ aloud) F scope G n its (surrounds_on x.carried.stays s) x.means in
    record { carried = carried_trans x.carried y; means = means_on y.stays x.means }

-- no part yet
pub parts_none : (a : Parts) (env : List Entry) (r : Row) (es : List Expression) (ms : List ℕ) → ms ≡ [] → TypesPartsFirst a a env r 0 es es ms
parts_none a env r es ms none = λ aloud F scope G n its s. record {
  done = λ c. [];
  types = [];
  carried = carried_refl;
  means = subst (AllMean F (sight a) G []) (sym none) none_mean;
  asks = λ c. refl;
  gives = refl;
}

-- one part more
pub parts_more : (a b d : Parts) (env : List Entry) (r : Row) (i j : ℕ) (all left rest : List Expression) (e : Expression) (ms more : List ℕ) (m : ℕ) → left ≡ e ∷ rest → j ≡ i → more ≡ ms ++ m ∷ [] → Goes a b → TypesPartsFirst a b env r i all left ms → TypesPart b d env r j e m →
    TypesPartsFirst a d env r (i + 1) all rest more
parts_more a b d env r i j all left rest e ms more m split place longer goes first one = λ aloud F scope G n its s.
    let p = first aloud F scope G n its s in
    let q = subst (λ k. CarriedTo F scope (λ c. e.typed c ++ behind_asks r k c n e) (sight b) G (sight d) G (λ ch. ch.type_at e.node) m) place (one (ap is_aloud goes.telling ∙ aloud) F scope G n its (surrounds_on p.carried.stays s)) in
    record {
      done = λ c. p.done c ++ (e.typed c ++ behind_asks r i c n e);
      types = p.types ++ (λ (ch : Choice). ch.type_at e.node) ∷ [];
      carried = carried_trans p.carried q.carried;
      means = subst (AllMean F (sight d) G (p.types ++ (λ (ch : Choice). ch.type_at e.node) ∷ [])) (sym longer) (all_mean_more (all_mean_on q.carried.stays p.means) q.means);
      asks = λ c. p.asks c ∙ ap (λ es. p.done c ++ parts_ask r i c n es) split ∙ sym (append_assoc (p.done c) (e.typed c ++ behind_asks r i c n e) (parts_ask r (i + 1) c n rest));
      gives = p.gives ∙ ap (λ es. p.types ++ types_at es) split ∙ sym (append_assoc p.types ((λ (ch : Choice). ch.type_at e.node) ∷ []) (types_at rest));
    }

-- all parts
pub parts_all : (a b : Parts) (env : List Entry) (r : Row) (i : ℕ) (all left : List Expression) (ms : List ℕ) → left ≡ [] → TypesPartsFirst a b env r i all left ms → TypesParts a b env r all ms
parts_all a b env r i all left ms none first = λ aloud F scope G n its s.
    let p = first aloud F scope G n its s in
    record {
      carried = carried_as (λ c. sym (append-nil (p.done c)) ∙ ap (λ es. p.done c ++ parts_ask r i c n es) (sym none) ∙ sym (p.asks c)) p.carried;
      means = subst (λ ts. AllMean F (sight b) G ts ms) (sym (append-nil p.types) ∙ ap (λ es. p.types ++ types_at es) (sym none) ∙ sym p.gives) p.means;
    }

-- numbers of a list with one node more
pub numbers_more : (xs : List NodeRef) (ys : List NodeRef) (x : NodeRef) → ys ≡ xs ++ x ∷ [] → numbers ys ≡ numbers xs ++ x.0 ∷ []
numbers_more xs ys x e = ap numbers e ∙ one xs x
  where
    one : (xs : List NodeRef) (x : NodeRef) → numbers (xs ++ x ∷ []) ≡ numbers xs ++ x.0 ∷ []
    one [] x = refl
    one (y ∷ xs) x = ap (λ ns. y.0 ∷ ns) (one xs x)
