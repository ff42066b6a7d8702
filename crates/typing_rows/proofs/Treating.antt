-- The names in scope that are recorded for type expressions, one after the other; what a row of these asks at its end treats no node.
use Rattle.std.proofs.Common.{◌≡◌, ◌∙◌, ◌++◌, ℕ, Bool, true, false, List, [], ◌∷◌, Option, Some, None, refl, sym, ap, subst, append_assoc, append-nil, if◌then◌else◌}
use Rattle.token_model.specs.Kinds.{Tok}
use Rattle.tree_model.specs.Rows.{Row, tvar_row, tcon_row, tparen_row, tapp_row, ttuple_row, tarrow_row}
use Rattle.tree_model.specs.Trees.{Place, Tree}
use Rattle.signature_model.specs.Declarations.{Declaration}
use Rattle.signature_model.specs.Entries.{Environment, type_kind}
use Rattle.row_parts.specs.Numbered.{operands_in, token_in, path_in, filled_in}
use Rattle.typing_model.specs.Demands.{site, Condition, same, instance, made, known, demand, treated}
use Rattle.typing_model.specs.Contexts.{Context, Variables, in_item, parameters, unresolved_in, tell}
use Rattle.typing_model.specs.Names.{then_by, referent_of, found_by, declaration_in}
use Rattle.typing_model.specs.Parts.{Written, TypeExpression}
use Rattle.typing_model.specs.TypeExpressions.{index_from, variable_asks, tvar, read_all, declared_type, constructor_asks, in_parentheses}
use Rattle.env_table.specs.declared.entries.Entry.{Entry}
use Rattle.typing_state.specs.declared.parts.Parts.{Parts}
use Rattle.typing_state.specs.Goes.{Goes}
use Rattle.typing_conditions.specs.Sights.{AreScopesIn, Sight}
use Rattle.typing_conditions.specs.Judging.{AllSeen, starts_known, treats_none}
use Rattle.typing_conditions.specs.Carrying.{Asks}
use Rattle.typing_conditions.proofs.Judged.{starts_both, seen_both, start_none, seen_none}
use Rattle.typing_steps.specs.States.{is_aloud}
use Rattle.operand_laws.specs.Operands.{number_of, type_of, path_of}
use Rattle.typing_rows.specs.Rows.{types_read, end_asks}
use Rattle.typing_rows.specs.Treating.{IsScoped, Treats, TreatsTo, TreatsFirst}
use Rattle.typing_rows.proofs.Noted.{still_scoped}

-- What holds of each node that conditions say to be treated holds where something does from which it follows.
pub seen_as : (S T : ℕ → Environment → Bool → Type 0) → ((n : ℕ) (E : Environment) (is_typed : Bool) → S n E is_typed → T n E is_typed) → (cs : List Condition) → AllSeen S cs → AllSeen T cs
seen_as S T on [] h = tt
seen_as S T on (same t u ∷ cs) h = seen_as S T on cs h
seen_as S T on (instance s t ∷ cs) h = seen_as S T on cs h
seen_as S T on (made n t ∷ cs) h = seen_as S T on cs h
seen_as S T on (known t ∷ cs) h = seen_as S T on cs h
seen_as S T on (demand s at d ∷ cs) h = seen_as S T on cs h
seen_as S T on (treated n env ∷ cs) h = (on n env (starts_known cs) h.0, seen_as S T on cs h.1)

-- conditions that treat no node
pub none_treated : {b : Sight} {env : List Entry} {asks : Asks} → ((c : Context) → treats_none (asks c) ≡ true) → Treats b env asks
none_treated {b} {env} {asks} none = record { sees = λ c. seen_none (IsScoped b env c.env) (asks c) (none c); starts = λ c. start_none (asks c) (none c) }

-- conditions after others
pub treats_then : {b : Sight} {env : List Entry} {asks further : Asks} → Treats b env asks → Treats b env further → Treats b env (λ c. asks c ++ further c)
treats_then {b} {env} {asks} {further} p q = record {
  sees = λ c. seen_both (IsScoped b env c.env) (asks c) (further c) (q.starts c) (p.sees c) (q.sees c);
  starts = λ c. starts_both (asks c) (further c) (p.starts c) (q.starts c);
}

-- what is recorded is so later
pub treats_on : {b d : Sight} {env : List Entry} {asks : Asks} → AreScopesIn b.scopes d.scopes → Treats b env asks → Treats d env asks
treats_on {b} {d} {env} {asks} inside p = record {
  sees = λ c. seen_as (IsScoped b env c.env) (IsScoped d env c.env) (λ n F is_typed h. record { item = h.item; place = h.place; number = h.number; at = inside h.item h.place env h.at; same = h.same; untyped = h.untyped }) (asks c) (p.sees c);
  starts = p.starts;
}

-- conditions may be written in another way
pub treats_as : {b : Sight} {env : List Entry} {asks others : Asks} → ((c : Context) → asks c ≡ others c) → Treats b env asks → Treats b env others
treats_as {b} {env} e p = record { sees = λ c. subst (AllSeen (IsScoped b env c.env)) (e c) (p.sees c); starts = λ c. ap starts_known (sym (e c)) ∙ p.starts c }

-- a node is treated, for which the names in scope are recorded, and then what follows is
pub treats_node : {b : Sight} {env : List Entry} {asks : Asks} (i n : ℕ) → b.scopes i n ≡ Some env → Treats b env asks → Treats b env (λ c. tell (number_of i n) c ++ asks c)
treats_node {b} {env} {asks} i n here p = record { sees = λ c. (record { item = i; place = n; number = refl; at = here; same = refl; untyped = p.starts c }, p.sees c); starts = λ c. refl }

-- no type expression yet
pub none_first : (a : Parts) (env : List Entry) (all : List TypeExpression) → TreatsFirst a a env all all
none_first a env all aloud = record { done = λ c. []; treats = none_treated (λ c. refl); asks = λ c. refl }

-- one type expression more
pub one_treated : (a b d : Parts) (env : List Entry) (all left : List TypeExpression) (t : TypeExpression) → TreatsFirst a b env all (t ∷ left) → Goes a b → Goes b d → TreatsTo b d env (λ c. t.read c) → TreatsFirst a d env all left
one_treated a b d env all left t first goes further read aloud =
    let x = first aloud in
    record {
      done = λ c. x.done c ++ t.read c;
      treats = treats_then (treats_on (still_scoped further) x.treats) (read (ap is_aloud goes.telling ∙ aloud));
      asks = λ c. x.asks c ∙ sym (append_assoc (x.done c) (t.read c) (read_all c left));
    }

-- all of them
pub all_treated : (a b : Parts) (env : List Entry) (all : List TypeExpression) → TreatsFirst a b env all [] → TreatsTo a b env (λ c. read_all c all)
all_treated a b env all first aloud = let x = first aloud in treats_as (λ c. sym (x.asks c ∙ append-nil (x.done c))) x.treats

-- no node is treated where a type expression names no type
unresolved_none : (c : Context) (n : ℕ) (v : Variables) → treats_none (unresolved_in c n v) ≡ true
unresolved_none c n (in_item i) = refl
unresolved_none c n (parameters ps) = refl

variable_none : (c : Context) (n : ℕ) (t : Tok) (v : Variables) → treats_none (variable_asks c n t v) ≡ true
variable_none c n t (in_item i) = refl
variable_none c n t (parameters ps) = by (index_from 0 t.name ps) refl
  where
    by : (o : Option ℕ) → index_from 0 t.name ps ≡ o → treats_none (variable_asks c n t (parameters ps)) ≡ true
    by None e = rw (e, variable_asks) (unresolved_none c n c.variables)
    by (Some j) e = rw (e, variable_asks) refl

tvar_none : (c : Context) (n : ℕ) (at : Place) (o : Option Tok) → treats_none ((tvar n at o).read c) ≡ true
tvar_none c n at None = unresolved_none c n c.variables
tvar_none c n at (Some t) = variable_none c n t c.variables

declared_none : (c : Context) (n : ℕ) (t : Tok) (ns : List ℕ) (o : Option Declaration) → treats_none (declared_type c n t ns o) ≡ true
declared_none c n t ns None = unresolved_none c n c.variables
declared_none c n t ns (Some d) = by (c.kept (site n 1)) _ refl
  where
    by : (b : Bool) (x : Condition) → treats_none (x ∷ []) ≡ true → treats_none (if b then x ∷ [] else unresolved_in c n c.variables) ≡ true
    by true x e = e
    by false x e = unresolved_none c n c.variables

constructor_none : (c : Context) (n : ℕ) (p : Written) (ns : List ℕ) → treats_none (constructor_asks c n p ns) ≡ true
constructor_none c n p ns = by p.last refl
  where
    by : (o : Option Tok) → p.last ≡ o → treats_none (constructor_asks c n p ns) ≡ true
    by None e = rw (e, constructor_asks) (unresolved_none c n c.variables)
    by (Some t) e = rw (e, constructor_asks) (declared_none c n t ns (if c.kept (site n 0) then then_by (referent_of (found_by c type_kind p t)) declaration_in else None))

parentheses_none : (c : Context) (n : ℕ) (at : Place) (ts : List TypeExpression) → treats_none (in_parentheses c n at ts) ≡ true
parentheses_none c n at [] = refl
parentheses_none c n at (t ∷ []) = refl
parentheses_none c n at (t ∷ u ∷ ts) = unresolved_none c n c.variables

-- What a row of type expressions asks at its end treats no node.
pub end_treats_none : (r : Row) (i n : ℕ) (at : Place) (t : Tree) (c : Context) → treats_none (end_asks r i n at t c) ≡ true
end_treats_none tvar_row i n at t c = tvar_none c (number_of i n) at (token_in t 0)
end_treats_none tcon_row i n at t c = constructor_none c (number_of i n) (path_of (path_in t 0 1)) []
end_treats_none tparen_row i n at t c = parentheses_none c (number_of i n) at (types_read i (operands_in n t 1))
end_treats_none tapp_row i n at t c = constructor_none c (number_of i n) (path_of (path_in t 1 2)) (type_of i (filled_in n t 0)).grouped
end_treats_none ttuple_row i n at t c = refl
end_treats_none tarrow_row i n at t c = refl
end_treats_none _ i n at t c = unresolved_none c (number_of i n) c.variables

-- so what a type expression that isn't there asks treats none
pub unresolved_treats : {b : Sight} {env : List Entry} (n : ℕ) → Treats b env (λ c. unresolved_in c n c.variables)
unresolved_treats n = none_treated (λ c. unresolved_none c n c.variables)

-- the parts of a row, and then its end
pub row_treats : (a b d : Parts) (env : List Entry) (front : Asks) (r : Row) (i n : ℕ) (at : Place) (t : Tree) → TreatsTo a b env front → Goes b d → TreatsTo a d env (λ c. front c ++ end_asks r i n at t c)
row_treats a b d env front r i n at t parts goes aloud = treats_then (treats_on (still_scoped goes) (parts aloud)) (none_treated (λ c. end_treats_none r i n at t c))
