-- Rows without patterns in them: names, `_`, constants, and constructors without arguments.
use Rattle.std.proofs.Common.{◌≡◌, ◌∙◌, ℕ, Bool, true, false, List, [], ◌∷◌, Option, Some, None, refl, sym, ap, subst, append-nil}
use Rattle.std.specs.Prelude.{not}
use Rattle.token_model.specs.Kinds.{Tok}
use Rattle.text_terms.specs.declared.Span.{Span}
use Rattle.tree_model.specs.Rows.{pname_row, pany_row, pconst_row, pneg_row, pcon_row}
use Rattle.tree_model.specs.Trees.{Place, Tree}
use Rattle.syntax_tree.specs.View.{place_of}
use Rattle.signature_model.specs.Declarations.{Name, in_text}
use Rattle.row_parts.specs.Numbered.{token_in, path_in}
use Rattle.typing_model.specs.Demands.{site, test, demand, twice}
use Rattle.typing_model.specs.Parts as parts
use Rattle.typing_model.specs.Parts.{Written, Pattern, no_pattern_at}
use Rattle.typing_model.specs.Records.{is_among}
use Rattle.typing_model.specs.BuiltIns.{constant}
use Rattle.typing_model.specs.Patterns.{ask_fresh, over, pname, pconst, pneg, pcon}
use Rattle.type_terms.specs.declared.types.NodeRef.{NodeRef}
use Rattle.env_table.specs.declared.faults.FaultKind.TheVariants as fault
use Rattle.env_table.specs.declared.entries.Entry.{Entry}
use Rattle.typing_state.specs.declared.parts.Parts.{Parts}
use Rattle.typing_state.specs.Goes.{Goes}
use Rattle.typing_state.specs.Messages.{twice_text}
use Rattle.typing_conditions.specs.Sights.{own}
use Rattle.typing_conditions.specs.Carrying.{Carried}
use Rattle.typing_conditions.specs.Surroundings.{IsEntry}
use Rattle.typing_conditions.proofs.Hiding.{done_none, owns_node}
use Rattle.typing_conditions.proofs.Keeping.{none_among}
use Rattle.typing_conditions.proofs.Recording.{ends_own}
use Rattle.typing_conditions.proofs.Answering.{to_then}
use Rattle.typing_steps.specs.States.{is_aloud, sight}
use Rattle.typing_steps.specs.Building.{TypesConstructor}
use Rattle.typing_steps.specs.Demands.{TestedAs}
use Rattle.typing_steps.specs.Typing.{TypesAny, TypesRow}
use Rattle.typing_steps.proofs.Rows.{row_any}
use Rattle.typing_steps.proofs.Testing.{new_asked}
use Rattle.operand_laws.specs.Formed.{row_of}
use Rattle.operand_laws.specs.Operands.{number_of, path_of}
use Rattle.typing_rows.proofs.Constructed.{alone_typed}
use Rattle.pattern_rows.specs.Bounds.{Bind, AllBound, none_bound, one_bound}
use Rattle.pattern_rows.specs.Contracts.{row_pattern, MatchesRow, AsksFresh}
use Rattle.pattern_rows.proofs.Terms.{name_term, any_term, constant_term, minus_term, con_term, IsNoPattern, no_term}

-- The demand that a name is new among those before: the call reports it where it isn't, and else leaves all as it was.
pub fresh_asked : (a b : Parts) (t : Tok) (at : Span) (seen : List Name) → place_of at ≡ parts.place_of t → TestedAs (not (is_among t.name seen)) a b at fault.Unique (twice_text t.name) → AsksFresh a b t seen
fresh_asked a b t at seen here tested = λ aloud F scope G n k.
    subst (λ p. Carried F scope (λ c. demand (site n k) p (test (twice t.name) (not (is_among t.name seen))) ∷ []) (sight a) G (sight b) G) here (new_asked a b t.name seen (site n k) aloud tested).carried

-- a row without names
nameless : {a b : Parts} {env : List Entry} {p : Pattern} {seen : List Name} {n m : ℕ} → p.names ≡ [] → TypesRow a b env (λ c. p.matched c seen) n m → MatchesRow a b env p seen [] n m
nameless {a} {b} {env} {p} {seen} {n} {m} none typed = record {
  opens = [];
  typed = λ aloud F scope G its s. let r = typed aloud F scope G its s in record { row = r; among = none_among r.own; done = done_none; names = λ o st h known. subst (λ bs. AllBound F o G bs []) (sym none) none_bound };
}

-- x
pub named_row : (a b d : Parts) (env : List Entry) (n : ℕ) (at : Place) (t : Tok) (ty : NodeRef) (e : Entry) (seen : List Name) → TypesAny a b ty.0 → Goes a b → AsksFresh b d t seen → IsEntry e t.name (in_text (parts.place_of t)) ty →
    MatchesRow a d env (pname n at (Some t)) seen (record { token = t; node = ty; entry = e } ∷ []) n ty.0
named_row a b d env n at t ty e seen any goes fresh entry = record {
  opens = [];
  typed = λ aloud F scope G its s.
      let x = any F scope G (own n) (λ u. tt) s.reached in
      let y = fresh (ap is_aloud goes.telling ∙ aloud) F scope ((own n, ty.0) ∷ G) n 0 in
      record {
        row = record {
          own = (own n, ty.0) ∷ [];
          type = λ ch. ch.type_at n;
          first = λ c. ask_fresh n 0 seen t;
          ends = λ c. [];
          all = λ c. append-nil (ask_fresh n 0 seen t);
          typed = to_then x y;
          owns = λ known. owns_node (own n) refl refl;
          end = ends_own n;
        };
        among = none_among ((own n, ty.0) ∷ []);
        done = done_none;
        names = λ o st h known. one_bound (record { named = refl; placed = refl; chosen = λ c. refl; means = h; known = known; entry = entry }) none_bound;
      };
}

-- x, whose token is missing
pub nameless_row : (a b : Parts) (env : List Entry) (n : ℕ) (at : Place) (m : ℕ) (seen : List Name) → TypesAny a b m → MatchesRow a b env (pname n at None) seen [] n m
nameless_row a b env n at m seen any = nameless refl (row_any a b {env = env} n any)

-- x, as the row of a node
pub name_row_typed : (a d : Parts) (env : List Entry) (i n : ℕ) (at : Place) (t : Tree) (seen : List Name) (added : List Bind) (m : ℕ) → row_of t ≡ pname_row → MatchesRow a d env (pname (number_of i n) at (token_in t 0)) seen added (number_of i n) m →
    MatchesRow a d env (row_pattern i n at t) seen added (number_of i n) m
name_row_typed a d env i n at t seen added m row matched = subst (λ p. MatchesRow a d env p seen added (number_of i n) m) (sym (name_term i n at t row)) matched

-- _
pub any_row_typed : (a b : Parts) (env : List Entry) (i n : ℕ) (at : Place) (t : Tree) (seen : List Name) (m : ℕ) → row_of t ≡ pany_row → TypesAny a b m → MatchesRow a b env (row_pattern i n at t) seen [] (number_of i n) m
any_row_typed a b env i n at t seen m row any = subst (λ p. MatchesRow a b env p seen [] (number_of i n) m) (sym (any_term i n at t row)) here
  where
    here : MatchesRow a b env (over (number_of i n) at [] (λ c. [])) seen [] (number_of i n) m
    here = nameless refl (row_any a b {env = env} (number_of i n) any)

-- what is no pattern
pub no_row_typed : (a b : Parts) (env : List Entry) (i n : ℕ) (at : Place) (t : Tree) (seen : List Name) (m : ℕ) → IsNoPattern (row_of t) → TypesAny a b m → MatchesRow a b env (row_pattern i n at t) seen [] (number_of i n) m
no_row_typed a b env i n at t seen m other any = subst (λ p. MatchesRow a b env p seen [] (number_of i n) m) (sym (no_term i n at t other)) here
  where
    here : MatchesRow a b env (no_pattern_at (number_of i n) at) seen [] (number_of i n) m
    here = nameless refl (row_any a b {env = env} (number_of i n) any)

-- 1, "a", true
pub constant_row_typed : (a b : Parts) (env : List Entry) (i n : ℕ) (at : Place) (t : Tree) (seen : List Name) (m : ℕ) → row_of t ≡ pconst_row → TypesRow a b env (constant false (number_of i n) (token_in t 0)) (number_of i n) m →
    MatchesRow a b env (row_pattern i n at t) seen [] (number_of i n) m
constant_row_typed a b env i n at t seen m row typed = subst (λ p. MatchesRow a b env p seen [] (number_of i n) m) (sym (constant_term i n at t row)) here
  where
    here : MatchesRow a b env (pconst (number_of i n) at (token_in t 0)) seen [] (number_of i n) m
    here = nameless refl typed

-- - 1
pub minus_row_typed : (a b : Parts) (env : List Entry) (i n : ℕ) (at : Place) (t : Tree) (seen : List Name) (m : ℕ) → row_of t ≡ pneg_row → TypesRow a b env (constant true (number_of i n) (token_in t 1)) (number_of i n) m →
    MatchesRow a b env (row_pattern i n at t) seen [] (number_of i n) m
minus_row_typed a b env i n at t seen m row typed = subst (λ p. MatchesRow a b env p seen [] (number_of i n) m) (sym (minus_term i n at t row)) here
  where
    here : MatchesRow a b env (pneg (number_of i n) at (token_in t 1)) seen [] (number_of i n) m
    here = nameless refl typed

-- A
pub con_row_typed : (a b : Parts) (env : List Entry) (i n : ℕ) (at : Place) (t : Tree) (seen : List Name) (known : Bool) (m : ℕ) (argument : Option ℕ) → row_of t ≡ pcon_row → TypesConstructor a b env (path_of (path_in t 0 1)) 0 known m argument →
    MatchesRow a b env (row_pattern i n at t) seen [] (number_of i n) m
con_row_typed a b env i n at t seen known m argument row typed = subst (λ p. MatchesRow a b env p seen [] (number_of i n) m) (sym (con_term i n at t row)) here
  where
    p : Written
    p = path_of (path_in t 0 1)

    here : MatchesRow a b env (pcon (number_of i n) at p) seen [] (number_of i n) m
    here = nameless refl (alone_typed a b {env = env} p.qualifiers p.last known m argument (number_of i n) typed)
