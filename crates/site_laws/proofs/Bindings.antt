-- Bindings make each demand once.
use Rattle.std.proofs.Common.{inl, inr, ◌⊎◌, ℕ, Bool, true, false, List, [], ◌∷◌, ◌++◌, Option, Some, None, refl, arith}
use Rattle.tree_model.specs.Trees.{Place}
use Rattle.signature_model.specs.Declarations.{Name}
use Rattle.typing_model.specs.Demands.{Site}
use Rattle.typing_model.specs.Contexts.{Context, with_names}
use Rattle.typing_model.specs.Parts.{other, Expression, TypeExpression, Binding}
use Rattle.typing_model.specs.Patterns.{all_names}
use Rattle.typing_model.specs.Bindings.{read_annotation, has_annotation, right_side, bound_in_turn, patterns_first, right_sides, bindings_ask, within_let, names_of_group}
use Rattle.typing_model.specs.Expressions.{let_expression}
use Rattle.typing_laws.proofs.Steady.{IfThere, absent, there}
use Rattle.site_laws.proofs.Sites.{Within, Apart, Either, Lies, join, then_within, both_in, apart_both, apart_from_both, apart_turned, At, Span, Others, span_in, own_apart, spans_apart, asked, told, quiet, none_within, Every}
use Rattle.site_laws.proofs.Types.{ApartType}
use Rattle.site_laws.proofs.Patterns.{ApartPattern}
use Rattle.site_laws.proofs.Expressions.{ApartExpression, usual}
use Rattle.site_laws.proofs.Records.{each_apart}

-- A binding makes its demands in a set, each once: those of its pattern in one part of it, those of its right side in another.
pub record ApartBinding (P : Site → Type 0) (b : Binding) : Type 1 where
  pub of_pattern : Site → Type 0
  pub of_right : Site → Type 0
  pub pattern : ApartPattern of_pattern b.pattern
  pub right : (c : Context) → Within of_right (right_side c b)
  pub apart : Apart of_pattern of_right
  pub others : Lies of_pattern (Others b.node)
  pub rights : Apart of_right (Span b.node 1 2)
  pub pattern_in : Lies of_pattern P
  pub right_in : Lies of_right P
  pub own_in : Lies (At b.node) P

annotation_apart : {A : Site → Type 0} (c : Context) (t : Option TypeExpression) → IfThere (ApartType A) t → Within A (read_annotation c t)
annotation_apart c None absent = none_within
annotation_apart c (Some t) (there s) = s.reads c

annotated_apart : (c : Context) (b : Binding) (t : Option TypeExpression) → Within (Span b.node 0 1) (has_annotation c b t)
annotated_apart c b None = none_within
annotated_apart c b (Some t) = asked

pub binding_apart : {A B C D P : Site → Type 0} (b : Binding) → ApartPattern A b.pattern → Every ApartPattern B b.parameters → IfThere (ApartType C) b.annotation → ApartExpression D b.body → Apart A B → Apart A C → Apart A D → Apart B C → Apart B D → Apart C D →
    Lies A (Others b.node) → Lies B (Others b.node) → Lies C (Others b.node) → Lies D (Others b.node) → Lies A P → Lies B P → Lies C P → Lies D P → Lies (At b.node) P → ApartBinding P b
binding_apart {A} {B} {C} {D} {P} b s ps t e ab ac ad bc bd cd ao bo co do_ ai bi ci di own = record {
  of_pattern = A;
  of_right = Either (Either (Either B C) D) (Span b.node 0 1);
  pattern = s;
  right = λ c. join (join (join (each_apart c ps) (annotation_apart c b.annotation t) bc) (e.types (with_names c (all_names b.parameters))) (apart_both bd cd)) (annotated_apart c b b.annotation) (apart_turned (own_apart span_in parts));
  apart = apart_from_both (apart_from_both (apart_from_both ab ac) ad) (apart_turned (own_apart span_in ao));
  others = ao;
  rights = apart_both (apart_turned (own_apart span_in parts)) (spans_apart (omega arith));
  pattern_in = ai;
  right_in = both_in (both_in (both_in bi ci) di) (λ x i. own x i.0);
  own_in = own;
}
  where
    parts : Lies (Either (Either B C) D) (Others b.node)
    parts = both_in (both_in bo co) do_

-- bindings, each in a set apart from those of the others
pub data Bindings : (P : Site → Type 0) → List Binding → Type 1 where
  no_binding : {P : Site → Type 0} → Bindings P []
  and_binding : {P A B : Site → Type 0} {b : Binding} {bs : List Binding} → ApartBinding A b → Bindings B bs → Apart A B → Lies A P → Lies B P → Bindings P (b ∷ bs)

in_turn_apart : {P : Site → Type 0} (c : Context) (seen : List Name) {bs : List Binding} → Bindings P bs → Within P (bound_in_turn c seen bs)
in_turn_apart c seen no_binding = none_within
in_turn_apart c seen (and_binding {b = b} s rest apart a d) =
    told (then_within
    (then_within (join (s.right c) (s.pattern.matches c seen) (apart_turned s.apart)) asked (apart_both s.rights (apart_turned (own_apart span_in s.others))) (both_in (λ x i. s.right_in x i) (λ x i. s.pattern_in x i)) (λ x i. s.own_in x i.0))
    (in_turn_apart c (seen ++ b.pattern.mentions) rest) apart a d)

-- the demands of all patterns, and of all right sides
abbrev PatternsOf : {P : Site → Type 0} {bs : List Binding} → Bindings P bs → Site → Type 0
PatternsOf no_binding x = ⊥
PatternsOf (and_binding s rest apart a d) x = s.of_pattern x ⊎ PatternsOf rest x

abbrev RightsOf : {P : Site → Type 0} {bs : List Binding} → Bindings P bs → Site → Type 0
RightsOf no_binding x = ⊥
RightsOf (and_binding {b = b} s rest apart a d) x = (s.of_right x ⊎ Span b.node 1 2 x) ⊎ RightsOf rest x

patterns_in : {P : Site → Type 0} {bs : List Binding} (h : Bindings P bs) (x : Site) → PatternsOf h x → P x
patterns_in no_binding x i = absurd (i)
patterns_in (and_binding s rest apart a d) x (inl i) = a x (s.pattern_in x i)
patterns_in (and_binding s rest apart a d) x (inr i) = d x (patterns_in rest x i)

rights_in : {P : Site → Type 0} {bs : List Binding} (h : Bindings P bs) (x : Site) → RightsOf h x → P x
rights_in no_binding x i = absurd (i)
rights_in (and_binding s rest apart a d) x (inl (inl i)) = a x (s.right_in x i)
rights_in (and_binding s rest apart a d) x (inl (inr i)) = a x (s.own_in x i.0)
rights_in (and_binding s rest apart a d) x (inr i) = d x (rights_in rest x i)

sorts_apart : {P : Site → Type 0} {bs : List Binding} (h : Bindings P bs) (x : Site) → PatternsOf h x → RightsOf h x → ⊥
sorts_apart no_binding x i j = i
sorts_apart (and_binding s rest apart a d) x (inl i) (inl (inl j)) = s.apart x i j
sorts_apart (and_binding s rest apart a d) x (inl i) (inl (inr j)) = s.others x i j.0
sorts_apart (and_binding s rest apart a d) x (inl i) (inr j) = apart x (s.pattern_in x i) (rights_in rest x j)
sorts_apart (and_binding s rest apart a d) x (inr i) (inl (inl j)) = apart x (s.right_in x j) (patterns_in rest x i)
sorts_apart (and_binding s rest apart a d) x (inr i) (inl (inr j)) = apart x (s.own_in x j.0) (patterns_in rest x i)
sorts_apart (and_binding s rest apart a d) x (inr i) (inr j) = sorts_apart rest x i j

first_apart : {P : Site → Type 0} (c : Context) (seen : List Name) {bs : List Binding} (h : Bindings P bs) → Within (PatternsOf h) (patterns_first c seen bs)
first_apart c seen no_binding = none_within
first_apart c seen (and_binding {b = b} s rest apart a d) =
    told (then_within (s.pattern.matches c seen) (first_apart c (seen ++ b.pattern.mentions) rest) (λ x i j. apart x (s.pattern_in x i) (patterns_in rest x j)) (λ x i. inl i) (λ x i. inr i))

rights_apart : {P : Site → Type 0} (c inner : Context) {bs : List Binding} (h : Bindings P bs) → Within (RightsOf h) (right_sides c inner bs)
rights_apart c inner no_binding = none_within
rights_apart c inner (and_binding {b = b} s rest apart a d) =
    then_within (join (s.right inner) asked s.rights) (rights_apart c inner rest) (apart_both (λ x i j. apart x (s.right_in x i) (rights_in rest x j)) (λ x i j. apart x (s.own_in x i.0) (rights_in rest x j))) (λ x i. inl i) (λ x i. inr i)

pub bindings_apart : {P : Site → Type 0} (c : Context) (is_rec : Bool) {bs : List Binding} → Bindings P bs → Within P (bindings_ask c is_rec bs)
bindings_apart c true {bs} h = then_within (first_apart c [] h) (rights_apart c (with_names c (names_of_group bs)) h) (sorts_apart h) (patterns_in h) (rights_in h)
bindings_apart c false h = in_turn_apart c [] h

pub elet_apart : {A B : Site → Type 0} (n : ℕ) (q : Place) (is_rec : Bool) (bs : List Binding) (e : Expression) → Bindings A bs → ApartExpression B e → Apart A B → ApartExpression (Either A B) (let_expression n q is_rec bs e)
elet_apart n q is_rec bs e each s apart = usual n q other _ _ tt (λ c. quiet _ refl (join (bindings_apart c is_rec each) (s.types (within_let c bs)) apart))
