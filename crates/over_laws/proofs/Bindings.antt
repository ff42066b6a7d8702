-- What bindings tell.
use Rattle.std.proofs.Common.{ℕ, Bool, true, false, List, [], ◌++◌, Option, Some, None}
use Rattle.tree_model.specs.Trees.{Place}
use Rattle.signature_model.specs.Declarations.{Name}
use Rattle.typing_model.specs.Contexts.{Context, with_names, generalised_in}
use Rattle.typing_model.specs.Parts.{other, Expression, TypeExpression, Binding}
use Rattle.typing_model.specs.Patterns.{all_names}
use Rattle.typing_model.specs.Bindings.{read_annotation, has_annotation, right_side, bound_in_turn, patterns_first, right_sides, bindings_ask, held_by, types_written, within_let, names_of_group}
use Rattle.typing_model.specs.Expressions.{let_expression}
use Rattle.typing_laws.proofs.Steady.{Each, no_one, one_and, IfThere, absent, there}
use Rattle.over_laws.proofs.Told.{Around, IsIn, over_names, over_with, Told, nothing_told, join, quiet, asked, told}
use Rattle.over_laws.proofs.Types.{ToldType}
use Rattle.over_laws.proofs.Patterns.{ToldPattern}
use Rattle.over_laws.proofs.Expressions.{ToldExpression, usual}
use Rattle.over_laws.proofs.Records.{each_told}

-- a binding tells environments with values and exceptions in front where it stands in one
pub record ToldBinding (w : Around) (b : Binding) : Type 0 where
  pub pattern : ToldPattern w b.pattern
  pub right : (c : Context) → IsIn w c → Told w (right_side c b)

annotation_told : {w : Around} (c : Context) (o : IsIn w c) (t : Option TypeExpression) → IfThere (ToldType w) t → Told w (read_annotation c t)
annotation_told c o None absent = nothing_told
annotation_told c o (Some t) (there s) = s.reads c o

annotated_told : {w : Around} (c : Context) (b : Binding) (t : Option TypeExpression) → Told w (has_annotation c b t)
annotated_told c b None = nothing_told
annotated_told c b (Some t) = asked

pub binding_told : {w : Around} (b : Binding) → ToldPattern w b.pattern → Each (ToldPattern w) b.parameters → IfThere (ToldType w) b.annotation → ToldExpression w b.body → ToldBinding w b
binding_told b s ps t e = record {
  pattern = s;
  right = λ c o. join (join (join (each_told c o ps) (annotation_told c o b.annotation t)) (e.types (with_names c (all_names b.parameters)) (over_with c (all_names b.parameters) o))) (annotated_told c b b.annotation);
}

in_turn_told : {w : Around} (c : Context) (o : IsIn w c) (seen : List Name) {bs : List Binding} → Each (ToldBinding w) bs → Told w (bound_in_turn c seen bs)
in_turn_told c o seen no_one = nothing_told
in_turn_told c o seen (one_and {x = b} s rest) = told o (join (join (join (s.right c o) (s.pattern.matches c seen o)) asked) (in_turn_told c o (seen ++ b.pattern.mentions) rest))

first_told : {w : Around} (c : Context) (o : IsIn w c) (seen : List Name) {bs : List Binding} → Each (ToldBinding w) bs → Told w (patterns_first c seen bs)
first_told c o seen no_one = nothing_told
first_told c o seen (one_and {x = b} s rest) = told o (join (s.pattern.matches c seen o) (first_told c o (seen ++ b.pattern.mentions) rest))

rights_told : {w : Around} (c inner : Context) (o : IsIn w inner) {bs : List Binding} → Each (ToldBinding w) bs → Told w (right_sides c inner bs)
rights_told c inner o no_one = nothing_told
rights_told c inner o (one_and s rest) = join (join (s.right inner o) asked) (rights_told c inner o rest)

pub bindings_told : {w : Around} (c : Context) (o : IsIn w c) (is_rec : Bool) {bs : List Binding} → Each (ToldBinding w) bs → Told w (bindings_ask c is_rec bs)
bindings_told c o true {bs} h = join (first_told c o [] h) (rights_told c (with_names c (names_of_group bs)) (over_with c (names_of_group bs) o) h)
bindings_told c o false h = in_turn_told c o [] h

-- the body of a let stands among the names of its group
within_over : {w : Around} (c : Context) (bs : List Binding) → IsIn w c → IsIn w (within_let c bs)
within_over c bs o = over_names (generalised_in c.env (types_written c c.variables ++ held_by c bs)) c (names_of_group bs) o

pub elet_told : {w : Around} (n : ℕ) (q : Place) (is_rec : Bool) (bs : List Binding) (e : Expression) → Each (ToldBinding w) bs → ToldExpression w e → ToldExpression w (let_expression n q is_rec bs e)
elet_told n q is_rec bs e each s = usual n q other _ _ (λ c o. quiet _ (tt, tt) (join (bindings_told c o is_rec each) (s.types (within_let c bs) (within_over c bs o))))
