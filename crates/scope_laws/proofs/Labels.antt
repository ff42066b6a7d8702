-- A path that is the first part of a record without `with` is read as a label: the definitions of typing and those of typed nodes agree on which paths are so.
use Rattle.std.proofs.Common.{◌≡◌, ◌∙◌, ℕ, ◌+◌, ◌==◌, Bool, true, false, ◌&&◌, ◌||◌, not, List, [], ◌++◌, Option, Some, None, refl, sym, if◌then◌else◌}
use Rattle.std.specs.Prelude.{nat_eq}
use Rattle.std.proofs.lemmas.Bool.{eqb-true, eq-eqb}
use Rattle.token_model.specs.Kinds.{Tok, Kind, lower, float, false_word}
use Rattle.tree_model.specs.Rows.{Row, name_row, epath_row, econst_row, eparen_row, ebegin_row, erecord_row, eif_row}
use Rattle.tree_model.specs.Trees.{Place, Forest, node, no_parts, part, taken, inner, missing, part_size}
use Rattle.tree_model.specs.Nodes.{Id}
use Rattle.query_model.specs.TypedNodes.{Typed, typed_if, is_lower, last_name_slot, has_name_in, has_taken_in}
use Rattle.typing_model.specs.Parts.{Form, a_path, Expression, TypeExpression, Child, tokens_in, token_in, types_in, expression_in, expressions_in, first_of}
use Rattle.typing_model.specs.Expressions.{name_form, path_expression, literal_form, parenthesised, begun, if_expression, update_expression, record_expression, fields_in, expression_row, is_some}
use Rattle.typing_model.specs.Meanings.{children_of}
use Rattle.typing_laws.proofs.Bools.{no_yes}
use Rattle.scope_laws.proofs.Heard.{Heards, none_told}
use Rattle.scope_laws.proofs.HeardExpressions.{IsUnread}
use Rattle.scope_laws.proofs.HeardRows.{HeardChild, covered}

-- what is asked only of a path
abbrev pub IfPath : Form → Type 0 → Type 0
IfPath (a_path p) P = P
IfPath _ P = Unit {0}

-- a token that is there, and a name in small letters, is found
abbrev IsNamed : Option Tok → Bool → Type 0
IsNamed None b = Unit {0}
IsNamed (Some t) b = is_lower t.kind ≡ true → b ≡ true

-- a test either way round
turned : (s q : ℕ) (b : Bool) → (q == s) ≡ b → nat_eq s q ≡ b
turned s q true e = eq-eqb s q (sym (eqb-true q s e))
turned s q false e = by (nat_eq s q) refl
  where
    by : (b : Bool) → nat_eq s q ≡ b → b ≡ false
    by true f = absurd (no_yes (sym e ∙ eq-eqb q s (sym (eqb-true s q f))))
    by false f = refl

-- the first token in a slot, where it is a name in small letters, is one that stands in the slot
named_in : (s : ℕ) (r : Row) (m : ℕ) (ps : Forest) → IsNamed (token_in s (children_of m r ps)) (has_name_in (Some s) ps)
named_in s r m no_parts = tt
named_in s r m (part q (taken t) ps) = by (q == s) refl (named_in s r (m + part_size r q (taken t)) ps)
  where
    more : (o : Option Tok) (a b : Bool) → IsNamed o b → IsNamed o (a || b)
    more None a b h = tt
    more (Some u) true b h = λ i. refl
    more (Some u) false b h = h

    by : (b : Bool) → (q == s) ≡ b → IsNamed (token_in s (children_of (m + part_size r q (taken t)) r ps)) (has_name_in (Some s) ps) → IsNamed (token_in s (children_of m r (part q (taken t) ps))) (has_name_in (Some s) (part q (taken t) ps))
    by true e rest = rw (e, turned s q true e) (λ i. rw (i) refl)
    by false e rest = rw (e) (more (token_in s (children_of (m + part_size r q (taken t)) r ps)) (nat_eq s q && is_lower t.kind) (has_name_in (Some s) ps) rest)
named_in s r m (part q (inner (node x y fs)) ps) = by (q == s) refl (named_in s r (m + part_size r q (inner (node x y fs))) ps)
  where
    by : (b : Bool) → (q == s) ≡ b → IsNamed (token_in s (children_of (m + part_size r q (inner (node x y fs))) r ps)) (has_name_in (Some s) ps) → IsNamed (token_in s (children_of m r (part q (inner (node x y fs)) ps))) (has_name_in (Some s) ps)
    by true e rest = rw (e) rest
    by false e rest = rw (e) rest
named_in s r m (part q (missing p) ps) = by (q == s) refl (named_in s r (m + part_size r q (missing p)) ps)
  where
    by : (b : Bool) → (q == s) ≡ b → IsNamed (token_in s (children_of (m + part_size r q (missing p)) r ps)) (has_name_in (Some s) ps) → IsNamed (token_in s (children_of m r (part q (missing p) ps))) (has_name_in (Some s) ps)
    by true e rest = rw (e) rest
    by false e rest = rw (e) rest

-- where no token in a slot is found, none was taken
pub none_taken : (s : ℕ) (r : Row) (m : ℕ) (ps : Forest) → is_some (token_in s (children_of m r ps)) ≡ false → has_taken_in s ps ≡ false
none_taken s r m no_parts h = refl
none_taken s r m (part q (taken t) ps) h = by (q == s) refl h (none_taken s r (m + part_size r q (taken t)) ps)
  where
    by : (b : Bool) → (q == s) ≡ b → is_some (token_in s (children_of m r (part q (taken t) ps))) ≡ false → (is_some (token_in s (children_of (m + part_size r q (taken t)) r ps)) ≡ false → has_taken_in s ps ≡ false) → has_taken_in s (part q (taken t) ps) ≡ false
    by true e = rw (e) (λ g later. absurd (no_yes (sym g)))
    by false e = rw (e, turned s q false e) (λ g later. later g)
none_taken s r m (part q (inner (node x y fs)) ps) h = by (q == s) refl h (none_taken s r (m + part_size r q (inner (node x y fs))) ps)
  where
    by : (b : Bool) → (q == s) ≡ b → is_some (token_in s (children_of m r (part q (inner (node x y fs)) ps))) ≡ false → (is_some (token_in s (children_of (m + part_size r q (inner (node x y fs))) r ps)) ≡ false → has_taken_in s ps ≡ false) → has_taken_in s ps ≡ false
    by true e = rw (e) (λ g later. later g)
    by false e = rw (e) (λ g later. later g)
none_taken s r m (part q (missing p) ps) h = by (q == s) refl h (none_taken s r (m + part_size r q (missing p)) ps)
  where
    by : (b : Bool) → (q == s) ≡ b → is_some (token_in s (children_of m r (part q (missing p) ps))) ≡ false → (is_some (token_in s (children_of (m + part_size r q (missing p)) r ps)) ≡ false → has_taken_in s ps ≡ false) → has_taken_in s ps ≡ false
    by true e = rw (e) (λ g later. later g)
    by false e = rw (e) (λ g later. later g)

-- a name that is a path is one in small letters
name_kind : {P : Type 0} (q : List Tok) (t : Tok) (k : Kind) → (is_lower k ≡ true → P) → IfPath (name_form (record { qualifiers = q; last = Some (record t { kind = k }) })) P
unfolding is_lower
name_kind q t lower h = h refl
name_kind q t _ h = tt

-- so is the last name of a path
path_kind : {P : Type 0} (n : ℕ) (at : Place) (q : List Tok) (t : Tok) (k : Kind) → (is_lower k ≡ true → P) → IfPath (path_expression n at (record { qualifiers = q; last = Some (record t { kind = k }) })).form P
unfolding is_lower
path_kind n at q t lower h = h refl
path_kind n at q t _ h = tt

-- no constant is a path
constant_kind : (P : Type 0) (t : Tok) (k : Kind) → IfPath (literal_form (Some (record t { kind = k }))) P
constant_kind P t float = tt
constant_kind P t false_word = tt
constant_kind P t _ = tt

-- an expression that is a path has its last name in small letters, and has no typed node in it
pub path_row : (r : Row) (n : ℕ) (at : Place) (m : ℕ) (ps : Forest) {label : Option ℕ} {ts : List Typed} → Heards (HeardChild r label) ts (children_of m r ps) →
    IfPath (expression_row r n at (children_of m r ps)).form ((has_name_in (last_name_slot r) ps ≡ true) × (ts ≡ []))
unfolding expression_row last_name_slot
path_row name_row n at m ps {ts = ts} h = by (token_in 0 (children_of m name_row ps)) (named_in 0 name_row m ps)
  where
    by : (o : Option Tok) → IsNamed o (has_name_in (Some 0) ps) → IfPath (name_form (record { qualifiers = tokens_in 9 (children_of m name_row ps); last = o })) ((has_name_in (Some 0) ps ≡ true) × (ts ≡ []))
    by None g = tt
    by (Some t) g = name_kind (tokens_in 9 (children_of m name_row ps)) t t.kind (λ i. (g i, none_told ts (λ types. covered name_row h [] tt)))
path_row epath_row n at m ps {ts = ts} h = by (token_in 1 (children_of m epath_row ps)) (named_in 1 epath_row m ps)
  where
    by : (o : Option Tok) → IsNamed o (has_name_in (Some 1) ps) → IfPath (path_expression n at (record { qualifiers = tokens_in 0 (children_of m epath_row ps); last = o })).form ((has_name_in (Some 1) ps ≡ true) × (ts ≡ []))
    by None g = tt
    by (Some t) g = path_kind n at (tokens_in 0 (children_of m epath_row ps)) t t.kind (λ i. (g i, none_told ts (λ types. covered epath_row h [] tt)))
path_row econst_row n at m ps {ts = ts} h = by (token_in 0 (children_of m econst_row ps))
  where
    by : (o : Option Tok) → IfPath (literal_form o) ((has_name_in None ps ≡ true) × (ts ≡ []))
    by None = tt
    by (Some t) = constant_kind ((has_name_in None ps ≡ true) × (ts ≡ [])) t t.kind
path_row eparen_row n at m ps {ts = ts} h = by (first_of (types_in 3 (children_of m eparen_row ps)))
  where
    by : (o : Option TypeExpression) → IfPath (parenthesised n at (expression_in 1 (children_of m eparen_row ps)) o).form ((has_name_in None ps ≡ true) × (ts ≡ []))
    by None = tt
    by (Some t) = tt
path_row ebegin_row n at m ps {ts = ts} h = by (first_of (expressions_in 1 (children_of m ebegin_row ps)))
  where
    by : (o : Option Expression) → IfPath (begun n at o).form ((has_name_in None ps ≡ true) × (ts ≡ []))
    by None = tt
    by (Some e) = tt
path_row erecord_row n at m ps {ts = ts} h = by (is_some (token_in 4 cs))
  where
    cs : List Child
    cs = children_of m erecord_row ps

    by : (b : Bool) → IfPath (if b then update_expression n at (expression_in 1 cs) (fields_in 5 cs) else record_expression n at (expression_in 1 cs) (first_of (expressions_in 3 cs)) (fields_in 5 cs)).form ((has_name_in None ps ≡ true) × (ts ≡ []))
    by true = tt
    by false = tt
path_row eif_row n at m ps {ts = ts} h = by (first_of (expressions_in 5 (children_of m eif_row ps)))
  where
    by : (o : Option Expression) → IfPath (if_expression n at (expression_in 1 (children_of m eif_row ps)) (expression_in 3 (children_of m eif_row ps)) o).form ((has_name_in None ps ≡ true) × (ts ≡ []))
    by None = tt
    by (Some e) = tt
path_row _ n at m ps h = tt

-- so where it may be a label, it is no typed node, and has none in it
pub unread : (ts : List Typed) (is_typed is_named may_be_label : Bool) (o : ℕ) (i : Id) (p : Place) (f : Form) → IfPath f ((is_named ≡ true) × (ts ≡ [])) → IsUnread (typed_if (is_typed && not (may_be_label && is_named)) o i p ++ ts) f may_be_label
unread ts true is_named true o i p (a_path w) h = rw (h.0, h.1) refl
unread ts false is_named true o i p (a_path w) h = rw (h.1) refl
unread ts is_typed is_named false o i p (a_path w) h = tt
unread ts is_typed is_named may_be_label o i p _ h = tt
