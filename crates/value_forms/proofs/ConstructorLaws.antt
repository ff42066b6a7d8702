-- Which operands are constructors, in the code and in the definitions.
use Rattle.std.proofs.Common.{◌≡◌, ◌∙◌, ℕ, Bool, true, false, List, Option, Some, None, refl, ap, if◌then◌else◌}
use Rattle.token_model.specs.Kinds.{Tok, Kind, upper, lower, float, false_word}
use Rattle.tree_model.specs.Rows.{Row, name_row, econ_row, epath_row, econst_row, eparen_row, ebegin_row, erecord_row, eif_row}
use Rattle.tree_model.specs.Trees.{Place, Tree, Part, taken, inner, missing, node}
use Rattle.row_parts.specs.Numbered.{Numbered, Written, numbered, token_in, path_in}
use Rattle.typing_model.specs.Parts as parts
use Rattle.typing_model.specs.Parts.{Expression, Child, path_in as child_path, token_in as child_token, types_in, expressions_in}
use Rattle.typing_model.specs.Expressions.{expression_row, path_expression, name_form, literal_form, parenthesised, begun, if_expression, update_expression, record_expression, fields_in, is_some}
use Rattle.typing_steps.specs.Rows.{IsNoConstructor}
use Rattle.operand_laws.specs.Operands.{number_of, parts_of, path_of, expression_of}
use Rattle.operand_laws.proofs.Tokens.{token_stands, path_stands}
use Rattle.typing_rows.specs.CarriedRows.{is_upper, names_constructor}
use Rattle.value_forms.specs.Heads.{constructor_at, constructor_in, upper_path, if_upper}

-- `Some` has one path
pub one_written : (w p : Written) → Some w ≡ Some p → w ≡ p
one_written w p e = cc

upper_none : (p : Written) (k : Kind) → if_upper p k ≡ None → is_upper k ≡ false
upper_none p upper h = absurd (cc)
upper_none p _ h = refl

-- a path that is none to a constructor
pub path_unnamed : (p : Written) → upper_path p ≡ None → names_constructor p.last ≡ false
path_unnamed p h = by p.last h
  where
    by : (o : Option Tok) → upper_path (record { qualifiers = p.qualifiers; last = o }) ≡ None → names_constructor o ≡ false
    by None h = refl
    by (Some t) h = upper_none (record { qualifiers = p.qualifiers; last = Some t }) t.kind h

upper_some : (w p : Written) (k : Kind) → if_upper w k ≡ Some p → (is_upper k ≡ true) × (w ≡ p)
upper_some w p upper h = (refl, one_written w p h)
upper_some w p _ h = absurd (cc)

-- a path that is one to a constructor
pub path_named : (w p : Written) → upper_path w ≡ Some p → (names_constructor w.last ≡ true) × (w ≡ p)
path_named w p h = by w.last h
  where
    by : (o : Option Tok) → let x : Written = record { qualifiers = w.qualifiers; last = o } in upper_path x ≡ Some p → (names_constructor o ≡ true) × (x ≡ p)
    by None h = absurd (cc)
    by (Some t) h = upper_some (record { qualifiers = w.qualifiers; last = Some t }) p t.kind h

-- forms that aren't a constructor's
name_plain : (q : List Tok) (start end col : ℕ) (name : List ℕ) (k : Kind) → IsNoConstructor (name_form (record { qualifiers = q; last = Some (record { kind = k; start = start; end = end; col = col; name = name }) }))
name_plain q start end col name lower = tt
name_plain q start end col name _ = tt

name_no : (p : parts.Written) → IsNoConstructor (name_form p)
name_no p = by p.last
  where
    by : (o : Option Tok) → IsNoConstructor (name_form (record { qualifiers = p.qualifiers; last = o }))
    by None = tt
    by (Some t) = name_plain p.qualifiers t.start t.end t.col t.name t.kind

path_plain : (n : ℕ) (at : Place) (q : List Tok) (start end col : ℕ) (name : List ℕ) (k : Kind) → is_upper k ≡ false →
    IsNoConstructor (path_expression n at (record { qualifiers = q; last = Some (record { kind = k; start = start; end = end; col = col; name = name }) })).form
path_plain n at q start end col name upper h = absurd (cc)
path_plain n at q start end col name lower h = tt
path_plain n at q start end col name _ h = tt

path_no : (n : ℕ) (at : Place) (p : parts.Written) → names_constructor p.last ≡ false → IsNoConstructor (path_expression n at p).form
path_no n at p h = by p.last h
  where
    by : (o : Option Tok) → names_constructor o ≡ false → IsNoConstructor (path_expression n at (record { qualifiers = p.qualifiers; last = o })).form
    by None h = tt
    by (Some t) h = path_plain n at p.qualifiers t.start t.end t.col t.name t.kind h

literal_plain : (start end col : ℕ) (name : List ℕ) (k : Kind) → IsNoConstructor (literal_form (Some (record { kind = k; start = start; end = end; col = col; name = name })))
literal_plain start end col name float = tt
literal_plain start end col name false_word = tt
literal_plain start end col name _ = tt

literal_no : (o : Option Tok) → IsNoConstructor (literal_form o)
literal_no None = tt
literal_no (Some t) = literal_plain t.start t.end t.col t.name t.kind

paren_no : (n : ℕ) (at : Place) (e : Expression) (o : Option parts.TypeExpression) → IsNoConstructor (parenthesised n at e o).form
paren_no n at e None = tt
paren_no n at e (Some t) = tt

begun_no : (n : ℕ) (at : Place) (o : Option Expression) → IsNoConstructor (begun n at o).form
begun_no n at None = tt
begun_no n at (Some e) = tt

if_no : (n : ℕ) (at : Place) (e f : Expression) (o : Option Expression) → IsNoConstructor (if_expression n at e f o).form
if_no n at e f None = tt
if_no n at e f (Some g) = tt

either_no : (b : Bool) (x y : Expression) → IsNoConstructor x.form → IsNoConstructor y.form → IsNoConstructor (if b then x else y).form
either_no true x y p q = p
either_no false x y p q = q

row_no : (r : Row) (n : ℕ) (at : Place) (cs : List Child) (t : Tree) → child_token 1 cs ≡ token_in t 1 → constructor_in r t ≡ None → IsNoConstructor (expression_row r n at cs).form
unfolding expression_row
row_no name_row n at cs t e h = name_no (child_path 9 0 cs)
row_no econ_row n at cs t e h = absurd (cc)
row_no epath_row n at cs t e h = path_no n at (child_path 0 1 cs) (ap names_constructor e ∙ path_unnamed (path_in t 0 1) h)
row_no econst_row n at cs t e h = literal_no (child_token 0 cs)
row_no eparen_row n at cs t e h = paren_no n at (parts.expression_in 1 cs) (parts.first_of (types_in 3 cs))
row_no ebegin_row n at cs t e h = begun_no n at (parts.first_of (expressions_in 1 cs))
row_no erecord_row n at cs t e h =
    either_no (is_some (child_token 4 cs)) (update_expression n at (parts.expression_in 1 cs) (fields_in 5 cs)) (record_expression n at (parts.expression_in 1 cs) (parts.first_of (expressions_in 3 cs)) (fields_in 5 cs)) tt tt
row_no eif_row n at cs t e h = if_no n at (parts.expression_in 1 cs) (parts.expression_in 3 cs) (parts.first_of (expressions_in 5 cs))
row_no _ n at cs t e h = tt

-- an operand that is no constructor in the code is none in the definitions
pub operand_no : (i : ℕ) (o : Numbered) → constructor_at o.part ≡ None → IsNoConstructor (expression_of i o).form
operand_no i o h = by o.number o.at o.part h
  where
    by : (n : ℕ) (at : Place) (p : Part) → constructor_at p ≡ None → IsNoConstructor (expression_of i (numbered n at p)).form
    by n at (taken t) h = tt
    by n at (missing q) h = tt
    by n at (inner (node r x ps)) h = row_no r (number_of i n) at (parts_of i n (node r x ps)) (node r x ps) (token_stands i n (node r x ps) 1) h

path_by : (n : ℕ) (at : Place) (q : List Tok) (start end col : ℕ) (name : List ℕ) (k : Kind) (p : Written) →
    let w : Written = record { qualifiers = q; last = Some (record { kind = k; start = start; end = end; col = col; name = name }) } in if_upper w k ≡ Some p → (path_expression n at (path_of w)).form ≡ parts.a_constructor (path_of p)
path_by n at q start end col name upper p e =
    let w : Written = record { qualifiers = q; last = Some (record { kind = upper; start = start; end = end; col = col; name = name }) } in
    ap (λ x. parts.a_constructor (path_of x)) (one_written w p e)
path_by n at q start end col name _ p e = absurd (cc)

path_is : (n : ℕ) (at : Place) (w p : Written) → upper_path w ≡ Some p → (path_expression n at (path_of w)).form ≡ parts.a_constructor (path_of p)
path_is n at w p e = by w.last e
  where
    by : (o : Option Tok) → let x : Written = record { qualifiers = w.qualifiers; last = o } in upper_path x ≡ Some p → (path_expression n at (path_of x)).form ≡ parts.a_constructor (path_of p)
    by None e = absurd (cc)
    by (Some t) e = path_by n at w.qualifiers t.start t.end t.col t.name t.kind p e

row_is : (r : Row) (n : ℕ) (at : Place) (cs : List Child) (t : Tree) (p : Written) → child_path 9 0 cs ≡ path_of (path_in t 9 0) → child_path 0 1 cs ≡ path_of (path_in t 0 1) → constructor_in r t ≡ Some p → (expression_row r n at cs).form ≡ parts.a_constructor (path_of p)
unfolding expression_row
row_is econ_row n at cs t p own path e = ap parts.a_constructor (own ∙ ap path_of (one_written (path_in t 9 0) p e))
row_is epath_row n at cs t p own path e = ap (λ w. (path_expression n at w).form) path ∙ path_is n at (path_in t 0 1) p e
row_is _ n at cs t p own path e = absurd (cc)

-- one that is a constructor is that one in the definitions
pub operand_is : (i : ℕ) (o : Numbered) (p : Written) → constructor_at o.part ≡ Some p → (expression_of i o).form ≡ parts.a_constructor (path_of p)
operand_is i o p h = by o.number o.at o.part h
  where
    by : (n : ℕ) (at : Place) (q : Part) → constructor_at q ≡ Some p → (expression_of i (numbered n at q)).form ≡ parts.a_constructor (path_of p)
    by n at (taken t) h = absurd (cc)
    by n at (missing x) h = absurd (cc)
    by n at (inner (node r x ps)) h = row_is r (number_of i n) at (parts_of i n (node r x ps)) (node r x ps) p (path_stands i n (node r x ps) 9 0) (path_stands i n (node r x ps) 0 1) h
