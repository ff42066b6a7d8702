-- Comparisons of declarations and exceptions, put together from those of their parts.
use Rattle.std.proofs.Common.{◌≡◌, ◌≢◌, ℕ, suc, zero, ◌<◌, Bool, true, false, List, [], ◌∷◌, ◌++◌, length, drop, get_or, min, Result, Ok, Err, refl, sym, ap, subst, ◌∙◌, arith}
use Rattle.std.specs.Prelude.{IfOk, not}
use Rattle.std.specs.Str.{bytes_eq}
use Rattle.std.proofs.Math.Bool.{beq}
use Rattle.std.proofs.lemmas.Slice.Eq.{bytes_eq-Decides}
use Rattle.std.specs.declared.alloc.AllocError.{AllocError}
use Rattle.type_nodes.specs.Nodes.{Node}
use Rattle.env_table.specs.declared.entries.Constructor.{Constructor}
use Rattle.env_table.specs.declared.entries.Label.{Label}
use Rattle.env_table.specs.declared.entries.Declaration.{Declaration}
use Rattle.signature_match.specs.Shapes.{ConstructorsFit, LabelsFit}
use Rattle.signature_match.specs.Comparing.{ComparesRoots, ComparesShapes, ComparesDeclarations, types_differ, types_agree, ComparesExceptions, by_types, ComparesConstructor, arguments, ComparesLabel, label_types, ComparesEach, none_left, one_differs, one_agrees}

-- where the types agree, what is told of the values decides
pub by_shapes : (r : Result Bool AllocError) (old mid new : List Node) (d e : Declaration) (b : Bool) → b ≡ true → ComparesRoots old mid d.root e.root b → IfOk r (λ met. ComparesShapes mid new d.shape e.shape met) →
    IfOk r (λ met. ComparesDeclarations old new d e met)
by_shapes (Ok met) old mid new d e b agree roots shapes = types_agree (subst (λ x. ComparesRoots old mid d.root e.root x) agree roots) shapes
by_shapes (Err x) old mid new d e b agree roots shapes = tt

-- where they don't, the declarations differ
pub by_roots : (old new : List Node) (d e : Declaration) (b : Bool) → b ≡ false → ComparesRoots old new d.root e.root b → ComparesDeclarations old new d e false
by_roots old new d e b differ roots = types_differ (subst (λ x. ComparesRoots old new d.root e.root x) differ roots)

-- constructors that fit and have arguments are compared by their types
pub by_arguments : (r : Result Bool AllocError) (old new : List Node) (k l : Constructor) → ConstructorsFit k l → k.has_argument ≡ true → IfOk r (λ met. ComparesRoots old new k.root l.root met) →
    IfOk r (λ met. ComparesConstructor old new k l met)
by_arguments (Ok met) old new k l fit has roots = arguments fit has roots
by_arguments (Err x) old new k l fit has roots = tt

-- labels that fit are compared by their types
pub by_labels : (r : Result Bool AllocError) (old new : List Node) (k l : Label) → LabelsFit k l → IfOk r (λ met. ComparesRoots old new k.root l.root met) → IfOk r (λ met. ComparesLabel old new k l met)
by_labels (Ok met) old new k l fit roots = label_types fit roots
by_labels (Err x) old new k l fit roots = tt

-- exceptions that both have an argument, or both have none, are compared by their types
pub by_exception_types : (r : Result Bool AllocError) (old new : List Node) (k l : Constructor) → k.has_argument ≡ l.has_argument → IfOk r (λ met. ComparesRoots old new k.root l.root met) →
    IfOk r (λ met. ComparesExceptions old new k l met)
by_exception_types (Ok met) old new k l same roots = by_types same roots
by_exception_types (Err x) old new k l same roots = tt

-- two texts that are told apart differ
pub told_apart : (a b c : List ℕ) (r : Bool) → r ≡ bytes_eq a c → c ≡ b → r ≡ false → a ≢ b
told_apart a b c r test end apart same = let e : true ≡ false = sym ((bytes_eq-Decides a c).1 (same ∙ sym end)) ∙ sym test ∙ apart in cc

not_itself : (b : Bool) → not (beq b b) ≡ true → ⊥
not_itself true e = cc
not_itself false e = cc

-- two answers that are told apart differ
pub answers_apart : (a b : Bool) → not (beq a b) ≡ true → a ≢ b
answers_apart a b apart same = not_itself b (subst (λ x. not (beq x b) ≡ true) same apart)

-- a list from a place on
from_here : {A : Type 0} (xs : List A) (i : ℕ) (x : A) → i < length xs → ((d : A) → x ≡ get_or xs i d) → drop i xs ≡ x ∷ drop (suc i) xs
from_here [] i x lt is = absurd (omega arith)
from_here (y ∷ ys) zero x lt is = ap (λ z. z ∷ ys) (sym (is x))
from_here (y ∷ ys) (suc i) x lt is = from_here ys i x (omega arith) is

all_passed : {A : Type 0} (xs : List A) → drop (length xs) xs ≡ []
all_passed [] = refl
all_passed (x ∷ xs) = all_passed xs

pub one_longer : {X : Type 0} (xs : List X) (x : X) → length (xs ++ x ∷ []) ≡ suc (length xs)
one_longer [] x = refl
one_longer (y ∷ xs) x = ap suc (one_longer xs x)

-- what holds of the members from a place on makes what holds of all
abbrev pub Begun : {A : Type 0} → (List Node → List Node → A → A → Bool → Type 0) → (start now : List Node) → (ks ls : List A) → ℕ → Type 0
Begun P start now ks ls i = (new : List Node) (met : Bool) → ComparesEach P now new (drop i ks) (drop i ls) met → ComparesEach P start new ks ls met

-- two members at a place agree
pub agrees_more : {A : Type 0} (P : List Node → List Node → A → A → Bool → Type 0) (start old mid : List Node) (ks ls : List A) (i : ℕ) (k l : A) (b : Bool) → b ≡ true → i < length ks → i < length ls →
    ((d : A) → k ≡ get_or ks i d) → ((d : A) → l ≡ get_or ls i d) → P old mid k l b → Begun P start old ks ls i → Begun P start mid ks ls (suc i)
agrees_more P start old mid ks ls i k l b agree in_ks in_ls at_k at_l compared begun = λ new met rest.
    begun new met
    (subst (λ xs. ComparesEach P old new xs (drop i ls) met) (sym (from_here ks i k in_ks at_k))
    (subst (λ ys. ComparesEach P old new (k ∷ drop (suc i) ks) ys met) (sym (from_here ls i l in_ls at_l)) (one_agrees (subst (λ x. P old mid k l x) agree compared) rest)))

-- two members at a place differ
pub differs_here : {A : Type 0} (P : List Node → List Node → A → A → Bool → Type 0) (start old new : List Node) (ks ls : List A) (i : ℕ) (k l : A) (b : Bool) → b ≡ false → i < length ks → i < length ls →
    ((d : A) → k ≡ get_or ks i d) → ((d : A) → l ≡ get_or ls i d) → P old new k l b → Begun P start old ks ls i → ComparesEach P start new ks ls false
differs_here P start old new ks ls i k l b differ in_ks in_ls at_k at_l compared begun =
    begun new false
    (subst (λ xs. ComparesEach P old new xs (drop i ls) false) (sym (from_here ks i k in_ks at_k))
    (subst (λ ys. ComparesEach P old new (k ∷ drop (suc i) ks) ys false) (sym (from_here ls i l in_ls at_l)) (one_differs (subst (λ x. P old new k l x) differ compared))))

-- all members have agreed
pub all_agree : {A : Type 0} (P : List Node → List Node → A → A → Bool → Type 0) (start now : List Node) (ks ls : List A) (i : ℕ) → length ks ≡ length ls → i ≡ min (length ks) (length ls) →
    Begun P start now ks ls i → ComparesEach P start now ks ls true
all_agree P start now ks ls i same end begun =
    let left : drop i ks ≡ [] = ap (λ n. drop n ks) (omega arith) ∙ all_passed ks in
    let right : drop i ls ≡ [] = ap (λ n. drop n ls) (omega arith) ∙ all_passed ls in
    begun now true (subst (λ xs. ComparesEach P now now xs (drop i ls) true) (sym left) (subst (λ ys. ComparesEach P now now [] ys true) (sym right) none_left))
