-- Which operands are the word `false`, in the code and in the definitions.
use Rattle.std.proofs.Common.{◌≡◌, ◌∙◌, ℕ, Bool, true, false, List, Option, Some, None, refl, ap, if◌then◌else◌}
use Rattle.token_model.specs.Kinds.{Tok, Kind, upper, lower, float, false_word}
use Rattle.tree_model.specs.Rows.{Row, name_row, epath_row, econst_row, eparen_row, ebegin_row, erecord_row, eif_row}
use Rattle.tree_model.specs.Trees.{Place, Tree, Part, taken, inner, missing, node}
use Rattle.row_parts.specs.Numbered.{Numbered, numbered, token_in}
use Rattle.typing_model.specs.Parts as parts
use Rattle.typing_model.specs.Parts.{Expression, Child}
use Rattle.typing_model.specs.Expressions.{expression_row, is_false, literal_form, path_expression, name_form, parenthesised, begun, if_expression, update_expression, record_expression, fields_in, is_some}
use Rattle.operand_laws.specs.Operands.{number_of, parts_of, expression_of}
use Rattle.operand_laws.proofs.Tokens.{token_stands}
use Rattle.value_forms.specs.Heads.{is_false_kind, is_false_token, is_false_in, is_false_at}

-- the word `false`, as a form
false_token : (start end col : ℕ) (name : List ℕ) (k : Kind) → is_false (literal_form (Some (record { kind = k; start = start; end = end; col = col; name = name }))) ≡ is_false_kind k
false_token start end col name false_word = refl
false_token start end col name float = refl
false_token start end col name _ = refl

false_literal : (o : Option Tok) → is_false (literal_form o) ≡ is_false_token o
false_literal None = refl
false_literal (Some t) = false_token t.start t.end t.col t.name t.kind

path_false : (n : ℕ) (at : Place) (q : List Tok) (start end col : ℕ) (name : List ℕ) (k : Kind) → is_false (path_expression n at (record { qualifiers = q; last = Some (record { kind = k; start = start; end = end; col = col; name = name }) })).form ≡ false
path_false n at q start end col name upper = refl
path_false n at q start end col name lower = refl
path_false n at q start end col name _ = refl

paths_false : (n : ℕ) (at : Place) (p : parts.Written) → is_false (path_expression n at p).form ≡ false
paths_false n at p = by p.last
  where
    by : (o : Option Tok) → is_false (path_expression n at (record { qualifiers = p.qualifiers; last = o })).form ≡ false
    by None = refl
    by (Some t) = path_false n at p.qualifiers t.start t.end t.col t.name t.kind

name_false : (q : List Tok) (start end col : ℕ) (name : List ℕ) (k : Kind) → is_false (name_form (record { qualifiers = q; last = Some (record { kind = k; start = start; end = end; col = col; name = name }) })) ≡ false
name_false q start end col name lower = refl
name_false q start end col name _ = refl

names_false : (p : parts.Written) → is_false (name_form p) ≡ false
names_false p = by p.last
  where
    by : (o : Option Tok) → is_false (name_form (record { qualifiers = p.qualifiers; last = o })) ≡ false
    by None = refl
    by (Some t) = name_false p.qualifiers t.start t.end t.col t.name t.kind

paren_false : (n : ℕ) (at : Place) (e : Expression) (o : Option parts.TypeExpression) → is_false (parenthesised n at e o).form ≡ false
paren_false n at e None = refl
paren_false n at e (Some t) = refl

begun_false : (n : ℕ) (at : Place) (o : Option Expression) → is_false (begun n at o).form ≡ false
begun_false n at None = refl
begun_false n at (Some e) = refl

if_false : (n : ℕ) (at : Place) (e f : Expression) (o : Option Expression) → is_false (if_expression n at e f o).form ≡ false
if_false n at e f None = refl
if_false n at e f (Some g) = refl

either_false : (b : Bool) (x y : Expression) → is_false x.form ≡ false → is_false y.form ≡ false → is_false (if b then x else y).form ≡ false
either_false true x y p q = p
either_false false x y p q = q

row_false : (r : Row) (n : ℕ) (at : Place) (cs : List Child) (t : Tree) → parts.token_in 0 cs ≡ token_in t 0 → is_false (expression_row r n at cs).form ≡ is_false_in r t
unfolding expression_row
row_false name_row n at cs t e = names_false (parts.path_in 9 0 cs)
row_false epath_row n at cs t e = paths_false n at (parts.path_in 0 1 cs)
row_false econst_row n at cs t e = false_literal (parts.token_in 0 cs) ∙ ap is_false_token e
row_false eparen_row n at cs t e = paren_false n at (parts.expression_in 1 cs) (parts.first_of (parts.types_in 3 cs))
row_false ebegin_row n at cs t e = begun_false n at (parts.first_of (parts.expressions_in 1 cs))
row_false erecord_row n at cs t e =
    either_false (is_some (parts.token_in 4 cs)) (update_expression n at (parts.expression_in 1 cs) (fields_in 5 cs)) (record_expression n at (parts.expression_in 1 cs) (parts.first_of (parts.expressions_in 3 cs)) (fields_in 5 cs)) refl refl
row_false eif_row n at cs t e = if_false n at (parts.expression_in 1 cs) (parts.expression_in 3 cs) (parts.first_of (parts.expressions_in 5 cs))
row_false _ n at cs t e = refl

-- an operand is the word `false` in the definitions where it is in the code
pub false_at : (i : ℕ) (o : Numbered) → is_false (expression_of i o).form ≡ is_false_at o.part
false_at i o = by o.number o.at o.part
  where
    by : (n : ℕ) (at : Place) (p : Part) → is_false (expression_of i (numbered n at p)).form ≡ is_false_at p
    by n at (taken t) = refl
    by n at (missing q) = refl
    by n at (inner (node r x ps)) = row_false r (number_of i n) at (parts_of i n (node r x ps)) (node r x ps) (token_stands i n (node r x ps) 0)
