-- A constructor with arguments, from what its use and its arguments carry.
use Rattle.std.proofs.Common.{◌≡◌, ◌∙◌, ◌++◌, ◌==◌, ℕ, Bool, true, false, List, [], ◌∷◌, Option, Some, None, refl, sym, ap, subst, append-nil, append_assoc, if◌then◌else◌}
use Rattle.std.specs.Prelude.{option_map}
use Rattle.token_model.specs.Kinds.{Tok}
use Rattle.tree_model.specs.Rows.{eapp_row}
use Rattle.tree_model.specs.Slots.{is_operand}
use Rattle.tree_model.specs.Trees.{Place, Tree}
use Rattle.row_parts.specs.Numbered.{Numbered, first_of, filled_in, operands_in}
use Rattle.type_model.specs.Types.{Typ}
use Rattle.type_terms.specs.declared.types.NodeRef.{NodeRef}
use Rattle.signature_model.specs.Entries.{constructor_kind}
use Rattle.typing_model.specs.Demands.{Condition, same, test, arity, constructor_word}
use Rattle.typing_model.specs.Contexts.{Context, is_kept, ask, type_at, tell_typed}
use Rattle.typing_model.specs.Names.{Built, ask_bound, then_by, used_at}
use Rattle.typing_model.specs.Parts as parts
use Rattle.typing_model.specs.Parts.{Expression, Written, Form, place_of}
use Rattle.typing_model.specs.Patterns.{built_by, taken_by, with_built, argument_has, argument_type, of_one_type}
use Rattle.typing_model.specs.Expressions.{is_some, behind_argument, constructor_applied, application_asks}
use Rattle.env_table.specs.declared.entries.Entry.{Entry}
use Rattle.typing_state.specs.declared.parts.Parts.{Parts}
use Rattle.typing_state.specs.Goes.{Goes}
use Rattle.typing_conditions.specs.Sights.{Sight, own, number_in, Letters, Agrees}
use Rattle.typing_conditions.specs.Frames.{Frame, IsOpen}
use Rattle.typing_conditions.specs.Meanings.{Means}
use Rattle.typing_conditions.specs.Steps.{Records}
use Rattle.typing_conditions.specs.Carrying.{Asks, Scope, HoldsWritten, IsUnder, Carried}
use Rattle.typing_conditions.specs.Surroundings.{Surrounds}
use Rattle.type_nodes.specs.Readings.{Types}
use Rattle.level_unify.specs.Solutions.{Loose}
use Rattle.typing_conditions.specs.Judging.{AreKept}
use Rattle.typing_conditions.proofs.Judged.{kept_left}
use Rattle.typing_conditions.proofs.Carried.{carried_as, carried_refl, carried_trans, done_as, done_then, owns_as, owns_then, owns_last}
use Rattle.typing_conditions.proofs.Keeping.{carried_kept}
use Rattle.typing_conditions.specs.Hiding.{Owns}
use Rattle.typing_conditions.proofs.Hiding.{below_none, owns_also, owns_row, owns_node, owns_before}
use Rattle.typing_conditions.proofs.Meaning.{means_on}
use Rattle.typing_conditions.proofs.Nodes.{same_made}
use Rattle.typing_conditions.proofs.Recording.{ends_own}
use Rattle.typing_conditions.proofs.Branching.{carried_after, after_hides}
use Rattle.typing_conditions.proofs.Surrounding.{surrounds_on, surrounds_sees}
use Rattle.typing_steps.specs.States.{is_aloud, sight}
use Rattle.typing_steps.specs.Typing.{as_declared, TypesTo, RowCarried, TypesRow, AsksEqualIf}
use Rattle.typing_steps.specs.Building.{used_by, building_in, construction_asks, TakesAs, TypesConstructor}
use Rattle.operand_laws.specs.Formed.{row_of, is_needed, IsFormed}
use Rattle.operand_laws.specs.Operands.{number_of, expression_of}
use Rattle.operand_laws.proofs.There.{filled_first}
use Rattle.typing_rows.specs.Asked.{row_expression, expressions_of, head_asks, later_asks}
use Rattle.typing_rows.specs.Contracts.{TypesEach, TypesGiven, TypesAsIf, TypesHead, TypesLater, EndsUnknown, TypesConstructed}
use Rattle.typing_rows.proofs.Own.{same_itself, ends_made, own_recorded, head_noted}
use Rattle.typing_rows.proofs.Given.{applied_row, types_as}
use Rattle.typing_rows.proofs.Ending.{row_of_type, row_as}
use Rattle.typing_rows.proofs.Terms.{application_term}
use Rattle.typing_rows.proofs.Typed.{unoperated_typed}

-- what is asked after the demands of a constructor, by what is found: the argument, with the declared type, and the result
abbrev behind_head : Context → ℕ → (head : ℕ) → Expression → Option Built → List Condition
behind_head c n head e None = e.typed c ++ same (type_at c head) (type_at c head) ∷ []
behind_head c n head e (Some b) = (e.typed c ++ argument_has n 2 e.at (type_at c e.node) (option_map (used_at c head) b.argument)) ++ same (type_at c head) (used_at c head b.result) ∷ []

-- a constructor with its first argument asks its demands and then this
head_splits : (c : Context) (n head : ℕ) (e : Expression) (qs : List Tok) (last : Option Tok) → let p : Written = record { qualifiers = qs; last = last } in
    tell_typed head c ++ (construction_asks c n p 1 ++ behind_head c n head e (if is_kept c n 0 then building_in c.env p else None)) ≡ head_asks c n p head e
head_splits c n head e qs None = by (is_kept c n 0)
  where
    by : (k : Bool) → tell_typed head c ++ behind_head c n head e (if k then None else None) ≡ tell_typed head c ++ (e.typed c ++ of_one_type c head (head ∷ []))
    by true = refl
    by false = refl
head_splits c n head e qs (Some t) = by (built_by c n (record { qualifiers = qs; last = Some t }) t)
  where
    by : (o : Option Built) → let p : Written = record { qualifiers = qs; last = Some t } in
        tell_typed head c ++ ((ask_bound c n 0 constructor_kind constructor_word p t ++ elim o [ None ↦ [] | Some b ↦ ask n 1 (place_of t) (test (arity t.name (taken_by b) 1) (taken_by b == 1)) ]) ++ behind_head c n head e o) ≡
        tell_typed head c ++ (ask_bound c n 0 constructor_kind constructor_word p t ++
        elim o [ None ↦ e.typed c ++ of_one_type c head (head ∷ []) | Some b ↦ with_built c n head t 1 b (head ∷ []) (e.typed c ++ argument_has n 2 e.at (type_at c e.node) (argument_type c head (Some b))) ])
    by None = refl
    by (Some b) = refl

-- whether a constructor is found, in both ways to write what is
found_as : (c : Context) (n : ℕ) (qs : List Tok) (last : Option Tok) (v : Bool) → let p : Written = record { qualifiers = qs; last = last } in
    is_some (if is_kept c n 0 then building_in c.env p else None) ≡ v → is_some (then_by last (built_by c n p)) ≡ v
found_as c n qs None v h = by (is_kept c n 0) h
  where
    by : (k : Bool) → is_some (if k then (let none : Option Built = None in none) else None) ≡ v → false ≡ v
    by true h = h
    by false h = h
found_as c n qs (Some t) v h = h

-- the argument of a constructor that is known has the declared type
argument_known : (b d : Parts) (env : List Entry) (e : Expression) (n head : ℕ) (takes : Option Typ) (argument : Option ℕ) {F : Frame} {scope : Scope} {H : Letters} → is_aloud b.telling ≡ true → scope.own n ≡ true → Surrounds as_declared F (sight b) H env scope →
    TakesAs F (sight b) H head takes argument → TypesAsIf b d env e argument →
    Carried F scope (λ c. e.typed c ++ argument_has n 2 e.at (type_at c e.node) (option_map (λ t. used_by head t c.chosen) takes)) (sight b) H (sight d) H
argument_known b d env e n head None None {F} {scope} {H} aloud its names has typed = typed aloud F scope H names
argument_known b d env e n head (Some t) (Some m) {F} {scope} {H} aloud its names has typed = typed aloud F scope H n 2 (used_by head t) its names has
argument_known b d env e n head None (Some m) aloud its names has typed = absurd has
argument_known b d env e n head (Some t) None aloud its names has typed = absurd has

-- A constructor with its first argument: its use, the argument, and the record of its node.
pub head_typed : (a b d f : Parts) (env : List Entry) (n head number : ℕ) (qs : List Tok) (last : Option Tok) (known : Bool) (e : Expression) (m : ℕ) (argument : Option ℕ) → TypesConstructor a b env (record { qualifiers = qs; last = last }) 1 known m argument → Goes a b →
    TypesAsIf b d env e argument → Goes b d → number_in d.item number ≡ head → (is_aloud d.telling ≡ true → Records (sight d) (sight f) number m env) → TypesHead a f env n head (record { qualifiers = qs; last = last }) known e m
unfolding head_noted carried_kept own_recorded carried_after carried_as
head_typed a b d f env n head number qs last true e m argument typed goes argued goes' place records aloud F scope G its names =
    let p : Written = record { qualifiers = qs; last = last } in
    let k = typed aloud F scope G n head names in
    let loud : is_aloud b.telling ≡ true = ap is_aloud goes.telling ∙ aloud in
    let x = argument_known b d env e n head k.building.argument argument loud its (surrounds_on k.carried.stays names) k.takes argued in
    let y = means_on x.stays k.builds in
    let z = carried_trans x (same_made (own head) (λ t. tt) y) in
    let behind = carried_after k.carried (λ V c loose under agrees named kept. ap (behind_head c n head e) (ap (λ v. if v then building_in c.env p else None) (k.kept c kept) ∙ k.finds V c loose under agrees named)) z in
    let means : Means F (sight d) ((own head, m) ∷ (k.letters ++ G)) (λ ch. ch.type_at head) m = record { open_node = y.open_node; is = λ V ch loose g. g.given.0.is } in
    let noted = records (ap is_aloud goes'.telling ∙ loud) in
    let there = head_noted ((own head, m) ∷ k.letters) head place behind means noted (surrounds_sees names) (owns_also (own head) refl refl (owns_row k.of_row)) in
    record {
      own = (own head, m) ∷ k.letters;
      typed = record { carried = carried_as (λ c. head_splits c n head e qs last) there.carried; means = there.means };
      done = done_as (λ c. head_splits c n head e qs last) there.carried there.done;
      found = λ V c loose under agrees named kept. found_as c n qs last true
          (ap is_some (ap (λ v. if v then building_in c.env p else None) (k.kept c (kept_left c.kept k.carried.judged z.judged kept)) ∙ k.finds V c loose under agrees named));
    }
head_typed a b d f env n head number qs last false e m argument typed goes argued goes' place records aloud F scope G its names =
    let p : Written = record { qualifiers = qs; last = last } in
    let k = typed.1 aloud F scope G n (own head) (λ t. tt) names in
    let loud : is_aloud b.telling ≡ true = ap is_aloud goes.telling ∙ aloud in
    let x = (subst (TypesAsIf b d env e) typed.0 argued) loud F scope ((own head, m) ∷ G) (surrounds_on k.typed.carried.stays names) in
    let means : Means F (sight d) ((own head, m) ∷ G) (λ ch. ch.type_at head) m = means_on x.stays k.typed.means in
    let z = carried_trans (carried_as (λ c. append-nil (e.typed c)) x) (same_itself (λ ch. ch.type_at head)) in
    let behind = carried_after k.typed.carried (λ V c loose under agrees named kept. ap (behind_head c n head e) (k.none V c loose under agrees named kept)) z in
    let noted = records (ap is_aloud goes'.telling ∙ loud) in
    let there = head_noted ((own head, m) ∷ []) head place behind means noted (surrounds_sees names) (owns_node (own head) refl refl) in
    record {
      own = (own head, m) ∷ [];
      typed = record { carried = carried_as (λ c. head_splits c n head e qs last) there.carried; means = there.means };
      done = done_as (λ c. head_splits c n head e qs last) there.carried there.done;
      found = λ V c loose under agrees named kept. found_as c n qs last false (ap is_some (k.none V c loose under agrees named (kept_left c.kept k.typed.carried.judged z.judged kept)));
    }

-- the arguments after the first one of a constructor that is known
pub later_known : (a b : Parts) (env : List Entry) (at : Place) (es : List Expression) (head m : ℕ) → TypesGiven a b env at es head m → TypesLater a b env true at es head m
later_known a b env at es head m given aloud F scope G n h its names has = applied_row [] (below_none n 0) (record { carried = carried_refl; means = has }) (given aloud F scope G n 3 0 h its names has)

-- those of one that isn't known
pub later_unknown : (a b d : Parts) (env : List Entry) (at : Place) (es : List Expression) (head m : ℕ) → TypesEach a b env es → Goes a b → EndsUnknown b d es head m → TypesLater a d env false at es head m
later_unknown a b d env at [] head m each goes ends aloud F scope G n h its names has =
    let x = each aloud F scope G names in
    subst (λ q. TypesLater a d env false at [] head q) (sym ends.1) (subst (λ q. TypesLater a q env false at [] head head) (sym ends.0)
    (λ aloud F scope G n h its names has. let x = each aloud F scope G names in row_of_type (λ c. []) h x (means_on x.stays has) (λ c. refl))) aloud F scope G n h its names has
later_unknown a b d env at (e ∷ es) head m each goes ends aloud F scope G n h its names has = unoperated_typed a b d env (e ∷ es) n m each goes ends aloud F scope G its names

-- what is asked of these arguments, by whether the constructor is found
behind_found : (c : Context) (n : ℕ) (head : Expression) (es : List Expression) (o : Option Built) (known : Bool) → is_some o ≡ known → later_asks known c n head.at (type_at c head.node) es ≡ behind_argument c n head es o
behind_found c n head [] None false h = refl
behind_found c n head (e ∷ es) None false h = refl
behind_found c n head [] (Some b) true h = refl
behind_found c n head (e ∷ es) (Some b) true h = refl
behind_found c n head es None true h = absurd (cc)
behind_found c n head es (Some b) false h = absurd (cc)

-- a row whose node's type is its own, with further letters, whatever is open after it
record OpenRow (F : Frame) (scope : Scope) (asks : Asks) (a : Sight) (G : Letters) (b : Sight) (n m : ℕ) (letters H : Letters) : Type 0 where
  carried : Carried F scope asks a G b ((own n, m) ∷ H)
  opened : IsOpen F b m
  owns : F.known ≡ true → Owns n m b carried.hidden ((own n, m) ∷ letters)

own_row : {F : Frame} {scope : Scope} {a b : Sight} {G : Letters} {n m : ℕ} (letters : Letters) (asks : Asks) → OpenRow F scope asks a G b n m letters (letters ++ G) → RowCarried F scope asks a G b n m
own_row {n = n} {m = m} letters asks x = record {
  own = (own n, m) ∷ letters;
  type = λ ch. ch.type_at n;
  first = asks;
  ends = λ c. [];
  all = λ c. append-nil (asks c);
  typed = record { carried = x.carried; means = record { open_node = x.opened; is = λ V ch loose g. g.given.0.is } };
  owns = x.owns;
  end = ends_own n;
}

-- A constructor with its arguments, as a row: its node's type is its own.
pub constructed_typed : (a b d : Parts) (env : List Entry) (n : ℕ) (p : Written) (head e : Expression) (es : List Expression) (at : Place) (known : Bool) (ty m : ℕ) → head.at ≡ at → TypesHead a b env n head.node p known e ty → Goes a b → TypesLater b d env known at es ty m →
    TypesConstructed a d env n p head (e ∷ es) m
constructed_typed a b d env n p head e es at known ty m place typed goes later aloud F scope G its names =
    let h = typed aloud F scope G its names in
    let loud : is_aloud b.telling ≡ true = ap is_aloud goes.telling ∙ aloud in
    let r = (subst (λ q. TypesLater b d env known q es ty m) (sym place) later) loud F scope (h.own ++ G) n (λ ch. ch.type_at head.node) its (surrounds_on h.typed.carried.stays names) h.typed.means in
    let made = ends_made r.typed.means r.end in
    let both = carried_trans r.typed.carried made in
    let end = carried_as r.all both in
    let by_kept : (V : Types) (c : Context) → Loose (sight a).nodes V → IsUnder scope c → Agrees F.owner (sight a) G V c.chosen → HoldsWritten scope (sight a) → AreKept c.kept h.typed.carried.judged → behind_argument c n head es (then_by p.last (built_by c n p)) ≡ later_asks known c n head.at (type_at c head.node) es =
    λ V c loose under agrees named kept. sym (behind_found c n head es (then_by p.last (built_by c n p)) known (h.found V c loose under agrees named kept)) in
    let whole = carried_after h.typed.carried by_kept end in
    let owned : F.known ≡ true → Owns n m (sight d) whole.hidden ((own n, m) ∷ (r.own ++ h.own)) = λ is_known. subst (λ xs. Owns n m (sight d) xs ((own n, m) ∷ (r.own ++ h.own))) (sym (after_hides h.typed.carried by_kept end))
    (owns_also (own n) refl refl (owns_before (owns_last h.typed.carried end (owns_as r.all both (owns_then r.typed.carried made (r.owns is_known)))) (done_then h.typed.carried end h.done))) in
    own_row (r.own ++ h.own) (λ c. constructor_applied c n p head (e ∷ es))
    (subst (OpenRow F scope (λ c. constructor_applied c n p head (e ∷ es)) (sight a) G (sight d) n m (r.own ++ h.own)) (sym (append_assoc r.own h.own G))
    (record { carried = whole; opened = r.typed.means.open_node; owns = owned }))

-- an expression that has the type that may be wanted
pub types_as_if : (a b d : Parts) (env : List Entry) (e : Expression) (at : Place) (found : ℕ) (wanted : Option NodeRef) → e.at ≡ at → TypesTo a b env (λ c. e.typed c) (λ ch. ch.type_at e.node) found → Goes a b → AsksEqualIf b d env at found wanted →
    TypesAsIf a d env e (option_map (λ (w : NodeRef). w.0) wanted)
types_as_if a b d env e at found None place typed goes asked = λ aloud F scope G s.
    carried_as (λ c. sym (append-nil (e.typed c))) (subst (λ q. Carried F scope (λ c. e.typed c) (sight a) G (sight q) G) (sym asked) (typed aloud F scope G s).carried)
types_as_if a b d env e at found (Some wanted) place typed goes asked = types_as a b d env e at found wanted.0 place typed goes asked

constructor_asked : (c : Context) (n : ℕ) (head : Expression) (es : List Expression) (p : Written) (f : Form) → f ≡ parts.a_constructor p → constructor_applied c n p head es ≡ application_asks c n head es f
constructor_asked c n head es p f is = ap (application_asks c n head es) (sym is)

-- A e e
pub construction_typed : (a d : Parts) (env : List Entry) (i n : ℕ) (at : Place) (t : Tree) (p : Written) (m : ℕ) → IsFormed n t → row_of t ≡ eapp_row → (expression_of i (filled_in n t 0)).form ≡ parts.a_constructor p →
    TypesConstructed a d env (number_of i n) p (expression_of i (filled_in n t 0)) (expressions_of i (operands_in n t 1)) m → TypesRow a d env (λ c. (row_expression i n at t).typed c) (number_of i n) m
unfolding is_operand is_needed
construction_typed a d env i n at t p m formed row form typed =
    let head = expression_of i (filled_in n t 0) in
    let there = filled_first n t 1 formed (ap (λ r. is_operand r 1) row) (ap (λ r. is_needed r 1) row) in
    λ aloud F scope G its s.
    row_as (λ c. constructor_asked c (number_of i n) head (expressions_of i (operands_in n t 1)) p head.form form ∙ ap (λ e. e.typed c) (sym (application_term i n at t formed row))) (by (operands_in n t 1) there typed aloud F scope G its s)
  where
    by : (os : List Numbered) → first_of os ≡ Some (filled_in n t 1) → TypesConstructed a d env (number_of i n) p (expression_of i (filled_in n t 0)) (expressions_of i os) m →
        TypesRow a d env (λ c. constructor_applied c (number_of i n) p (expression_of i (filled_in n t 0)) (expressions_of i os)) (number_of i n) m
    by [] e h = absurd (cc)
    by (o ∷ os) e h = h
