-- Bindings without `rec`: of each its number, its right side and then its pattern, which has the type of the whole.
use Rattle.std.proofs.Common.{◌≡◌, ◌∙◌, ◌++◌, ℕ, true, List, [], ◌∷◌, Option, Some, None, refl, sym, ap, subst, append_assoc, append-nil}
use Rattle.std.specs.List.{cons_option}
use Rattle.signature_model.specs.Declarations.{Name}
use Rattle.typing_model.specs.Contexts.{tell}
use Rattle.typing_model.specs.Parts.{Binding}
use Rattle.typing_model.specs.Bindings.{right_side, bound_in_turn}
use Rattle.env_table.specs.declared.entries.Entry.{Entry}
use Rattle.typing_state.specs.declared.parts.Parts.{Parts}
use Rattle.typing_state.specs.Goes.{Goes}
use Rattle.typing_conditions.specs.Carrying.{Carried, at_node}
use Rattle.typing_conditions.proofs.Carried.{carried_refl, carried_trans, carried_as, done_then, done_as, done_last, carried_row, row_hides}
use Rattle.typing_conditions.proofs.Meaning.{means_on}
use Rattle.typing_conditions.proofs.Surrounding.{surrounds_on, surrounds_at, own_node, surrounds_sees, sees_on}
use Rattle.typing_conditions.proofs.Hiding.{done_none, done_both}
use Rattle.typing_steps.specs.States.{is_aloud, sight}
use Rattle.pattern_rows.specs.Bounds.{Bind}
use Rattle.pattern_rows.specs.Contracts.{MatchesTo}
use Rattle.pattern_rows.proofs.Naming.{all_bound_on}
use Rattle.binding_rows.specs.Rights.{whole_by, TypesRight}
use Rattle.binding_rows.specs.Groups.{TypedBinding, IsTyped, AllTyped, none_typed, AsksWhole, TypesBindings, turn_asks, TypesTurn, TurnAdded, NoneAdded, TypesTurnIf, TypesTurnsFirst}
use Rattle.binding_rows.proofs.Typed.{all_typed_on, all_typed_more, whole_same}
use Rattle.pattern_rows.proofs.Opened.{done_grouped}
use Rattle.typing_conditions.specs.Hiding.{AreDone}

-- a binding: its right side with its number, its pattern, and the demand on the pattern
pub turn_typed : (a b d e : Parts) (env : List Entry) (x : Binding) (seen : List Name) (added : List Bind) (right whole found : ℕ) → TypesRight a b env (λ c. tell x.node c ++ right_side c x) x right whole → Goes a b →
    MatchesTo b d env x.pattern seen added found → Goes b d → AsksWhole d e env x.pattern found whole → TypesTurn a e env seen x (record { names = added; right = right })
turn_typed a b d e env x seen added right whole found typed goes matched goes' asked = λ aloud F around G at.
    let scope = at_node x.node around in
    let s = surrounds_at x.node at in
    let p = typed aloud F scope G (own_node x.node) s in
    let loud : is_aloud b.telling ≡ true = ap is_aloud goes.telling ∙ aloud in
    let q = matched.typed loud F scope (p.own ++ G) (surrounds_on p.typed.carried.stays s) in
    let r = asked (ap is_aloud goes'.telling ∙ loud) F scope (matched.opens ++ (p.own ++ G)) x.node (whole_by x) (own_node x.node) (sees_on scope q.typed.carried.stays (p.typed.carried.stays.reaches s.reached) (sees_on scope p.typed.carried.stays s.reached (surrounds_sees s))) q.typed.means (means_on q.typed.carried.stays p.typed.means) in
    let same = sym (append_assoc matched.opens p.own G) in
    let front = carried_trans p.typed.carried q.typed.carried in
    let both = carried_trans front r in
    let here : Carried F scope (λ c. turn_asks c seen x) (sight a) G (sight e) (matched.opens ++ (p.own ++ G)) = carried_as (λ c. ap (λ cs. tell x.node c ++ right_side c x ++ x.pattern.matched c seen ++ cs) (whole_same c x)) both in
    let row = subst (λ H. Carried F scope (λ c. turn_asks c seen x) (sight a) G (sight e) H) same here in
    record {
      own = matched.opens ++ p.own;
      carried = carried_row x.node row;
      done = subst (λ xs. AreDone (sight e) xs (matched.opens ++ p.own)) (sym (row_hides around x.node row)) (done_grouped same here (done_as _ both (done_then front r (done_both (done_last p.typed.carried q.typed.carried q.done) (done_then p.typed.carried q.typed.carried p.done)))));
      typed = subst (λ H. IsTyped F (sight e) H x (record { names = added; right = right })) same (record { names = all_bound_on r.stays q.names; right = means_on r.stays (means_on q.typed.carried.stays p.right_means) });
    }

-- no binding yet
pub turns_none : (a : Parts) (env : List Entry) (all : List Binding) (now : List Name) (ys : List TypedBinding) → now ≡ [] → ys ≡ [] → TypesTurnsFirst a a env all all now ys
turns_none a env all now ys unseen none = λ aloud F scope G s. record {
  done = λ c. [];
  first = [];
  own = [];
  carried = carried_refl;
  rows_done = done_none;
  typed = subst (AllTyped F (sight a) G []) (sym none) none_typed;
  asks = λ c. ap (λ ns. bound_in_turn c ns all) (sym unseen);
  splits = refl;
}

-- one binding more
pub turns_more : (a b d : Parts) (env : List Entry) (all left rest : List Binding) (x : Binding) (now then : List Name) (ys zs : List TypedBinding) → left ≡ x ∷ rest → Goes a b → TypesTurnsFirst a b env all left now ys →
    TurnAdded b d env now then ys zs x → TypesTurnsFirst a d env all rest then zs
turns_more a b d env all left rest x now then ys zs split goes first one = λ aloud F scope G s.
    let p = first aloud F scope G s in
    let q = one.typed (ap is_aloud goes.telling ∙ aloud) F scope (p.own ++ G) (surrounds_on p.carried.stays s) in
    let same = sym (append_assoc q.own p.own G) in
    record {
      done = λ c. p.done c ++ turn_asks c now x;
      first = p.first ++ x ∷ [];
      own = q.own ++ p.own;
      carried = subst (λ H. Carried F scope (λ c. p.done c ++ turn_asks c now x) (sight a) G (sight d) H) same (carried_trans p.carried q.carried);
      rows_done = done_grouped same (carried_trans p.carried q.carried) (done_both (done_last p.carried q.carried q.done) (done_then p.carried q.carried p.rows_done));
      typed = subst (λ us. AllTyped F (sight d) ((q.own ++ p.own) ++ G) (p.first ++ x ∷ []) us) (sym one.adds)
          (subst (λ H. AllTyped F (sight d) H (p.first ++ x ∷ []) (ys ++ one.one ∷ [])) same (all_typed_more (all_typed_on q.carried.stays p.typed) q.typed));
      asks = λ c.
          p.asks c ∙ ap (λ xs. p.done c ++ bound_in_turn c now xs) split ∙ sym (append_assoc (p.done c) (turn_asks c now x) (bound_in_turn c (now ++ x.pattern.mentions) rest)) ∙
          ap (λ ns. p.done c ++ turn_asks c now x ++ bound_in_turn c ns rest) (sym one.sees);
      splits = p.splits ∙ ap (λ xs. p.first ++ xs) split ∙ sym (append_assoc p.first (x ∷ []) rest);
    }

-- an operand that is no binding
pub turns_same : (a b d : Parts) (env : List Entry) (all left rest : List Binding) (now then : List Name) (ys zs : List TypedBinding) → left ≡ rest → TypesTurnsFirst a b env all left now ys → NoneAdded b d now then ys zs →
    TypesTurnsFirst a d env all rest then zs
turns_same a b d env all left rest now then ys zs split first none =
    subst (λ q. TypesTurnsFirst a q env all rest then zs) (sym none.still) (subst (λ us. TypesTurnsFirst a b env all rest then us) (sym none.adds)
    (subst (λ ns. TypesTurnsFirst a b env all rest ns ys) (sym none.sees) (subst (λ xs. TypesTurnsFirst a b env all xs now ys) split first)))

-- one operand more, which may be no binding
pub turns_further : (a b d : Parts) (env : List Entry) (all left rest : List Binding) (x : Option Binding) (now then : List Name) (ys zs : List TypedBinding) → left ≡ cons_option x rest → Goes a b → TypesTurnsFirst a b env all left now ys →
    TypesTurnIf b d env now then ys zs x → TypesTurnsFirst a d env all rest then zs
turns_further a b d env all left rest None now then ys zs split goes first none = turns_same a b d env all left rest now then ys zs split first none
turns_further a b d env all left rest (Some x) now then ys zs split goes first one = turns_more a b d env all left rest x now then ys zs split goes first one

-- all bindings
pub turns_all : (a b : Parts) (env : List Entry) (all left : List Binding) (now : List Name) (ys : List TypedBinding) → left ≡ [] → TypesTurnsFirst a b env all left now ys → TypesBindings a b env (λ c. bound_in_turn c [] all) all ys
turns_all a b env all left now ys none first = λ aloud F scope G s.
    let p = first aloud F scope G s in
    record {
      own = p.own;
      carried = carried_as (λ c. sym (append-nil (p.done c)) ∙ ap (λ xs. p.done c ++ bound_in_turn c now xs) (sym none) ∙ sym (p.asks c)) p.carried;
      done = done_as _ p.carried p.rows_done;
      typed = subst (λ xs. AllTyped F (sight b) (p.own ++ G) xs ys) (sym (append-nil p.first) ∙ ap (λ xs. p.first ++ xs) (sym none) ∙ sym p.splits) p.typed;
    }
