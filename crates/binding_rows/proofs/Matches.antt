-- The rows over cases: `match`, `try` and `function`.
use Rattle.std.proofs.Common.{◌≡◌, ◌∙◌, ◌++◌, ℕ, List, [], ◌∷◌, Some, None, refl, sym, ap, subst, append_assoc, arith, append-nil, Option}
use Rattle.tree_model.specs.Rows.{case_row, ematch_row, etry_row, efunction_row}
use Rattle.tree_model.specs.Slots.{is_operand}
use Rattle.tree_model.specs.Trees.{Place, Tree, inner, node}
use Rattle.type_model.specs.Types.{Typ}
use Rattle.type_model.specs.Types.{Typ as type}
use Rattle.row_parts.specs.Numbered.{numbered, operands_in, filled_in}
use Rattle.typing_model.specs.Contexts.{Choice, Context, type_at}
use Rattle.typing_model.specs.Contexts as contexts
use Rattle.typing_model.specs.BuiltIns.{exn_type}
use Rattle.typing_model.specs.Parts.{Expression, Case}
use Rattle.typing_model.specs.Expressions.{expression_row, is_of, later_cases, cases_ask, first_body, cases_in, match_expression, try_expression, function_expression}
use Rattle.type_nodes.specs.Nodes.{Arrow, IsNode}
use Rattle.type_nodes.specs.Changes.{Makes}
use Rattle.env_table.specs.declared.entries.Entry.{Entry}
use Rattle.typing_state.specs.declared.parts.Parts.{Parts}
use Rattle.typing_state.specs.Goes.{Goes, OnlyStore}
use Rattle.typing_conditions.specs.Sights.{letter, Sight, Letters}
use Rattle.typing_conditions.specs.Carrying.{CarriedTo, Scope}
use Rattle.typing_conditions.specs.Hiding.{Owns}
use Rattle.typing_conditions.specs.Frames.{Frame}
use Rattle.typing_conditions.proofs.Meaning.{means_on, means_more}
use Rattle.typing_conditions.proofs.Recording.{ends_same}
use Rattle.typing_conditions.proofs.Surrounding.{surrounds_on}
use Rattle.typing_conditions.proofs.Carried.{carried_trans, carried_as, owns_last, owns_then, owns_as}
use Rattle.typing_conditions.proofs.Hiding.{below_none, below_more}
use Rattle.typing_steps.specs.States.{is_aloud, sight}
use Rattle.typing_steps.specs.Typing.{TypesTo, TypesAny, TypesRow}
use Rattle.typing_steps.proofs.Making.{arrow_over}
use Rattle.operand_laws.specs.Formed.{row_of, is_needed, IsFormed}
use Rattle.operand_laws.specs.Operands.{number_of, parts_of, expression_of}
use Rattle.operand_laws.proofs.Sorts.{first_expression_stands, pattern_stands, chosen_stand}
use Rattle.typing_rows.specs.Asked.{row_expression}
use Rattle.typing_rows.proofs.Terms.{one, as_row}
use Rattle.typing_model.specs.Meanings as meanings
use Rattle.binding_rows.specs.Cases.{case_of, cases_of, case_over, cases_from, bodies_type, result_type, TypesCases, CasesTo}
use Rattle.pattern_rows.proofs.Opened.{grouped_to_hides}

-- what cases ask where no type of the bodies is known
cases_first : (c : Context) (n : ℕ) (subject : Typ) (xs : List Case) → cases_from c n 0 subject None xs ≡ cases_ask c n subject xs
cases_first c n subject [] = refl
cases_first c n subject (x ∷ xs) = refl

-- and the type of the bodies then
result_first : (c : Context) (n : ℕ) (xs : List Case) → result_type n (bodies_type None xs) c.chosen ≡ first_body c n xs
result_first c n [] = refl
result_first c n (x ∷ xs) = refl

-- the letters of cases alone
cases_own : {F : Frame} {scope : Scope} {a b : Sight} {G : Letters} {n m : ℕ} {subject : Choice → Typ} {result : Option (Choice → Typ)} {xs : List Case} (y : CasesTo F scope a G b n subject result xs m) (k : ℕ) → Owns n k b y.typed.carried.hidden y.own
cases_own {b = b} {n = n} y k = subst (Owns n k b y.typed.carried.hidden) (append-nil y.own) (y.owns k [] (below_none n 1))

-- match e with p -> e
pub match_typed : (a b d : Parts) (env : List Entry) (n : ℕ) (at : Place) (e : Expression) (xs : List Case) (ty m : ℕ) → TypesTo a b env (λ c. e.typed c) (λ ch. ch.type_at e.node) ty → Goes a b → TypesCases b d env xs ty None m →
    TypesRow a d env (λ c. (match_expression n at e xs).typed c) n m
match_typed a b d env n at e xs ty m first goes cases = λ aloud F scope G its s.
    let x = first aloud F scope G s in
    let y = cases (ap is_aloud goes.telling ∙ aloud) F scope G n (λ ch. ch.type_at e.node) None its (surrounds_on x.carried.stays s) x.means tt in
    record {
      own = y.own;
      type = result_type n (bodies_type None xs);
      first = λ c. e.typed c ++ cases_from c n 0 (type_at c e.node) None xs;
      ends = λ c. is_of c n (result_type n (bodies_type None xs) c.chosen);
      all = λ c k. e.typed c ++ cases_first c n (type_at c e.node) xs k ++ is_of c n (result_first c n xs k);
      typed = record { carried = carried_trans x.carried y.typed.carried; means = y.typed.means };
      owns = λ all_known. owns_last x.carried y.typed.carried (cases_own y m);
      end = ends_same n (result_type n (bodies_type None xs));
    }

-- try e with p -> e
pub try_typed : (a b d : Parts) (env : List Entry) (n : ℕ) (at : Place) (e : Expression) (xs : List Case) (ty m : ℕ) → TypesTo a b env (λ c. e.typed c) (λ ch. ch.type_at e.node) ty → Goes a b → TypesCases b d env xs b.constants.exn.0 (Some ty) m →
    TypesRow a d env (λ c. (try_expression n at e xs).typed c) n m
try_typed a b d env n at e xs ty m first goes cases = λ aloud F scope G its s.
    let x = first aloud F scope G s in
    let here = surrounds_on x.carried.stays s in
    let y = cases (ap is_aloud goes.telling ∙ aloud) F scope G n (λ ch. exn_type) (Some (λ ch. ch.type_at e.node)) its here (means_more here.fixed.exn) x.means in
    record {
      own = y.own;
      type = λ ch. ch.type_at e.node;
      first = λ c. e.typed c ++ later_cases c n 0 exn_type (type_at c e.node) xs;
      ends = λ c. is_of c n (type_at c e.node);
      all = λ c. refl;
      typed = record { carried = carried_trans x.carried y.typed.carried; means = y.typed.means };
      owns = λ all_known. owns_last x.carried y.typed.carried (cases_own y m);
      end = ends_same n (λ ch. ch.type_at e.node);
    }

-- function p -> e
pub function_typed : (a b d f : Parts) (env : List Entry) (n : ℕ) (at : Place) (xs : List Case) (from to m : ℕ) → TypesAny a b from → Goes a b → TypesCases b d env xs from None to → (IsNode d.store.nodes from → IsNode d.store.nodes to → Makes d.store f.store m (Arrow from to)) →
    OnlyStore d f → TypesRow a f env (λ c. (function_expression n at xs).typed c) n m
function_typed a b d f env n at xs from to m any goes cases made rest = λ aloud F scope G its s.
    let whole = λ (ch : Choice). type.Arrow (ch.letter n 0) (result_type n (bodies_type None xs) ch) in
    let x = any F scope G (letter n 0) (λ t. tt) s.reached in
    let y = cases (ap is_aloud goes.telling ∙ aloud) F scope ((letter n 0, from) ∷ G) n (λ ch. ch.letter n 0) None its (surrounds_on x.carried.stays s) x.means tt in
    let z = arrow_over d f {scope = scope} (means_on y.typed.carried.stays x.means) y.typed.means made rest in
    let same = sym (append_assoc y.own ((letter n 0, from) ∷ []) G) in
    let front = carried_trans x.carried y.typed.carried in
    let both = carried_trans front z.carried in
    let here : CarriedTo F scope (λ c. cases_from c n 0 (contexts.letter c n 0) None xs) (sight a) G (sight f) (y.own ++ ((letter n 0, from) ∷ G)) whole m =
    record { carried = carried_as (λ c. append-nil (cases_from c n 0 (contexts.letter c n 0) None xs)) both; means = z.means } in
    record {
      own = y.own ++ (letter n 0, from) ∷ [];
      type = whole;
      first = λ c. cases_from c n 0 (contexts.letter c n 0) None xs;
      ends = λ c. is_of c n (whole c.chosen);
      all = λ c k. cases_first c n (contexts.letter c n 0) xs k ++ is_of c n (type.Arrow (contexts.letter c n 0) (result_first c n xs k));
      typed = subst (λ H. CarriedTo F scope (λ c. cases_from c n 0 (contexts.letter c n 0) None xs) (sight a) G (sight f) H whole m) same here;
      owns = λ all_known. subst (λ zs. Owns n m (sight f) zs (y.own ++ (letter n 0, from) ∷ [])) (sym (grouped_to_hides same here))
          (owns_as _ both (owns_then front z.carried (owns_last x.carried y.typed.carried (y.owns m ((letter n 0, from) ∷ []) (below_more 0 1 from (omega arith) (omega arith) (below_none n 0))))));
      end = ends_same n whole;
    }

-- the rows as the definitions take them, over the operands of the code
pub match_term : (i n : ℕ) (at : Place) (t : Tree) → IsFormed n t → row_of t ≡ ematch_row → row_expression i n at t ≡ match_expression (number_of i n) at (expression_of i (filled_in n t 1)) (cases_of i (operands_in n t 4))
unfolding expression_row is_operand is_needed
match_term i n at t formed row =
    as_row i n t formed at ematch_row row ∙ ap (λ e. match_expression (number_of i n) at e (cases_in 4 (parts_of i n t))) (one i n t formed ematch_row 1 row refl refl) ∙
    ap (λ xs. match_expression (number_of i n) at (expression_of i (filled_in n t 1)) xs) (chosen_stand (λ c. c.case) i n t 4 formed (ap (λ q. is_operand q 4) row))

-- try e with p -> e
pub try_term : (i n : ℕ) (at : Place) (t : Tree) → IsFormed n t → row_of t ≡ etry_row → row_expression i n at t ≡ try_expression (number_of i n) at (expression_of i (filled_in n t 1)) (cases_of i (operands_in n t 4))
unfolding expression_row is_operand is_needed
try_term i n at t formed row =
    as_row i n t formed at etry_row row ∙ ap (λ e. try_expression (number_of i n) at e (cases_in 4 (parts_of i n t))) (one i n t formed etry_row 1 row refl refl) ∙
    ap (λ xs. try_expression (number_of i n) at (expression_of i (filled_in n t 1)) xs) (chosen_stand (λ c. c.case) i n t 4 formed (ap (λ q. is_operand q 4) row))

-- function p -> e
pub function_term : (i n : ℕ) (at : Place) (t : Tree) → IsFormed n t → row_of t ≡ efunction_row → row_expression i n at t ≡ function_expression (number_of i n) at (cases_of i (operands_in n t 4))
unfolding expression_row is_operand is_needed
function_term i n at t formed row =
    as_row i n t formed at efunction_row row ∙ ap (λ xs. function_expression (number_of i n) at xs) (chosen_stand (λ c. c.case) i n t 4 formed (ap (λ q. is_operand q 4) row))

-- a node as a case, by its row
case_by_row : (i n : ℕ) (at : Place) (t : Tree) → case_of i (numbered n at (inner t)) ≡ meanings.case_of (row_of t) (number_of i n) (parts_of i n t)
case_by_row i n at (node r x ps) = refl

-- p when e -> e
pub case_term : (i n : ℕ) (at : Place) (t : Tree) → IsFormed n t → row_of t ≡ case_row → case_of i (numbered n at (inner t)) ≡ Some (case_over i n t)
unfolding is_operand is_needed
case_term i n at t formed row =
    case_by_row i n at t ∙ ap (λ r. meanings.case_of r (number_of i n) (parts_of i n t)) row ∙
    (λ k. Some (record {
      node = number_of i n;
      pattern = pattern_stands i n t 0 formed (ap (λ q. is_operand q 0) row) (ap (λ q. is_needed q 0) row) k;
      guard = first_expression_stands i n t 2 formed (ap (λ q. is_operand q 2) row) k;
      body = one i n t formed case_row 4 row refl refl k;
    }))
