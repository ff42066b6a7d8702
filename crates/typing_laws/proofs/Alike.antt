-- Renamed types print alike, and most general typings are renamed ones of each other.
use Rattle.std.proofs.Common.{◌≡◌, ℕ, Bool, true, false, ◌==◌, ◌||◌, List, [], ◌∷◌, ◌++◌, codes, map, refl, sym, ◌∙◌, ap, subst, inl, inr}
use Rattle.std.proofs.lemmas.List.{map-append}
use Rattle.type_model.specs.Types.{Path, Typ, Typs, Var, Arrow, Tuple, Con, Nil, Cons, occurs, occurs_any}
use Rattle.type_model.specs.Substitutions.{apply, apply_all}
use Rattle.type_model.proofs.Applying.{or_left, or_right, or_cases, eqb_same}
use Rattle.signature_model.specs.Declarations.{Name}
use Rattle.type_print_model.specs.Variables.{is_among, variables_of, variables_in, variable_name}
use Rattle.type_print_model.specs.Paths.{Naming}
use Rattle.type_print_model.specs.Printing.{Within, alone, left_of_arrow, inner, wraps_arrow, wraps_tuple, wrapped, Names, text_of, separated, rest_of, arguments_of, cut, PrintsAmong, Prints, PrintsTwo}
use Rattle.typing_model.specs.Demands.{Site, Condition}
use Rattle.typing_model.specs.Contexts.{Choice}
use Rattle.typing_model.specs.Typings.{IsMostGeneral}
use Rattle.typing_laws.specs.Renaming.{renaming, KeepsWeak, AreRenamed}
use Rattle.typing_laws.proofs.Renamed.{variables_renamed, mentions_renamed, variable_in, puts_variables, is_renamed}
use Rattle.typing_laws.proofs.Ranks.{IsUndone, AllAmong, name_renamed}

-- names of variables and of origins
abbrev names_with : (Path → List ℕ) → (ℕ → List ℕ) → Names
names_with origin variable = record { variable = variable; origin = origin }

-- two equal parts make equal wholes
both : {A B C : Type 0} (f : A → B → C) {a c : A} {b d : B} → a ≡ c → b ≡ d → f a b ≡ f c d
both f {a} {c} {b} {d} p q = ap (λ x. f x b) p ∙ ap (f c) q

-- the text of a renamed type, where its variables are named alike
mutual
  pub text_renamed : (f : ℕ → ℕ) (origin : Path → List ℕ) (x y : ℕ → List ℕ) (w : Within) (t : Typ) → ((v : ℕ) → occurs v t ≡ true → y (f v) ≡ x v) →
      text_of (names_with origin y) w (apply (renaming f) t) ≡ text_of (names_with origin x) w t
  text_renamed f origin x y w (Var v) h = h v (eqb_same v)
  text_renamed f origin x y w (Arrow a b) h =
      both (λ p q. wrapped (wraps_arrow w) (p ++ codes " -> " ++ q)) (text_renamed f origin x y left_of_arrow a (λ v o. h v (or_left (occurs v a) (occurs v b) o)))
      (text_renamed f origin x y alone b (λ v o. h v (or_right (occurs v a) (occurs v b) o)))
  text_renamed f origin x y w (Tuple ts) h = ap (wrapped (wraps_tuple w)) (separated_renamed f origin x y inner (codes " * ") ts h)
  text_renamed f origin x y w (Con o ts) h = ap (λ z. z ++ origin o) (arguments_renamed f origin x y ts h)

  pub separated_renamed : (f : ℕ → ℕ) (origin : Path → List ℕ) (x y : ℕ → List ℕ) (w : Within) (between : List ℕ) (ts : Typs) → ((v : ℕ) → occurs_any v ts ≡ true → y (f v) ≡ x v) →
      separated (names_with origin y) w between (apply_all (renaming f) ts) ≡ separated (names_with origin x) w between ts
  separated_renamed f origin x y w between Nil h = refl
  separated_renamed f origin x y w between (Cons t ts) h =
      both (λ p q. p ++ q) (text_renamed f origin x y w t (λ v o. h v (or_left (occurs v t) (occurs_any v ts) o)))
      (rest_renamed f origin x y w between ts (λ v o. h v (or_right (occurs v t) (occurs_any v ts) o)))

  pub rest_renamed : (f : ℕ → ℕ) (origin : Path → List ℕ) (x y : ℕ → List ℕ) (w : Within) (between : List ℕ) (ts : Typs) → ((v : ℕ) → occurs_any v ts ≡ true → y (f v) ≡ x v) →
      rest_of (names_with origin y) w between (apply_all (renaming f) ts) ≡ rest_of (names_with origin x) w between ts
  rest_renamed f origin x y w between Nil h = refl
  rest_renamed f origin x y w between (Cons t ts) h =
      both (λ p q. between ++ p ++ q) (text_renamed f origin x y w t (λ v o. h v (or_left (occurs v t) (occurs_any v ts) o)))
      (rest_renamed f origin x y w between ts (λ v o. h v (or_right (occurs v t) (occurs_any v ts) o)))

  pub arguments_renamed : (f : ℕ → ℕ) (origin : Path → List ℕ) (x y : ℕ → List ℕ) (ts : Typs) → ((v : ℕ) → occurs_any v ts ≡ true → y (f v) ≡ x v) →
      arguments_of (names_with origin y) (apply_all (renaming f) ts) ≡ arguments_of (names_with origin x) ts
  arguments_renamed f origin x y Nil h = refl
  arguments_renamed f origin x y (Cons t Nil) h = ap (λ z. z ++ codes " ") (text_renamed f origin x y inner t (λ v o. h v (or_left (occurs v t) false o)))
  arguments_renamed f origin x y (Cons t (Cons u us)) h =
      both (λ z q. z ++ q ++ codes ") ")
      (both (λ p q. codes "(" ++ p ++ codes ", " ++ q) (text_renamed f origin x y alone t (λ v o. h v (or_left (occurs v t) (occurs v u || occurs_any v us) o)))
      (text_renamed f origin x y alone u (λ v o. h v (or_right (occurs v t) (occurs v u || occurs_any v us) (or_left (occurs v u) (occurs_any v us) o)))))
      (rest_renamed f origin x y alone (codes ", ") us (λ v o. h v (or_right (occurs v t) (occurs v u || occurs_any v us) (or_right (occurs v u) (occurs_any v us) o))))

or_false : (b : Bool) → (b || false) ≡ b
or_false true = refl
or_false false = refl

or_join : (a b c : Bool) → (a || (b || c)) ≡ ((a || b) || c)
or_join true b c = refl
or_join false b c = refl

among_join : (v : ℕ) (xs ys : List ℕ) → is_among v (xs ++ ys) ≡ (is_among v xs || is_among v ys)
among_join v [] ys = refl
among_join v (x ∷ xs) ys = ap (λ b. (v == x) || b) (among_join v xs ys) ∙ or_join (v == x) (is_among v xs) (is_among v ys)

-- a variable stands in a type where it is one of its variables
mutual
  pub occurs_among : (v : ℕ) (t : Typ) → is_among v (variables_of t) ≡ occurs v t
  occurs_among v (Var w) = or_false (v == w)
  occurs_among v (Arrow a b) = among_join v (variables_of a) (variables_of b) ∙ ap (λ c. c || is_among v (variables_of b)) (occurs_among v a) ∙ ap (λ c. occurs v a || c) (occurs_among v b)
  occurs_among v (Tuple ts) = occurs_among_in v ts
  occurs_among v (Con o ts) = occurs_among_in v ts

  pub occurs_among_in : (v : ℕ) (ts : Typs) → is_among v (variables_in ts) ≡ occurs_any v ts
  occurs_among_in v Nil = refl
  occurs_among_in v (Cons t ts) = among_join v (variables_of t) (variables_in ts) ∙ ap (λ c. c || is_among v (variables_in ts)) (occurs_among v t) ∙ ap (λ c. occurs v t || c) (occurs_among_in v ts)

-- each of a list is among it
all_among : (among : ℕ → Bool) (vs : List ℕ) → ((v : ℕ) → is_among v vs ≡ true → among v ≡ true) → AllAmong among vs
all_among among [] h = tt
all_among among (v ∷ vs) h = (h v (or_left (v == v) (is_among v vs) (eqb_same v)), all_among among vs (λ w i. h w (or_right (w == v) (is_among w vs) i)))

-- what a renamed type is printed as, among the renamed variables
pub prints_renamed : {E : Type 0} (N : Naming E) (env : List E) (declared : Path → Name) (f g : ℕ → ℕ) (weak others all : List ℕ) (t : Typ) (shown : List ℕ) →
    IsUndone f g (λ v. is_among v all) → ((v : ℕ) → is_among v all ≡ true → is_among (f v) others ≡ is_among v weak) → ((v : ℕ) → occurs v t ≡ true → is_among v all ≡ true) →
    PrintsAmong N env declared weak all t shown → PrintsAmong N env declared others (map f all) (apply (renaming f) t) shown
prints_renamed N env declared f g weak others all t shown undone same inside p = record {
  origin = p.origin;
  named = λ o m. p.named o (sym (mentions_renamed f o t) ∙ m);
  text = p.text ∙ ap cut (sym (text_renamed f p.origin (variable_name weak all) (variable_name others (map f all)) alone t
      (λ v o. name_renamed f g (λ w. is_among w all) undone weak others all same (all_among (λ w. is_among w all) all (λ w i. i)) v (inside v o))));
}

-- what a renamed type is printed as by itself
pub prints_alone : {E : Type 0} (N : Naming E) (env : List E) (declared : Path → Name) (f g : ℕ → ℕ) (weak others : List ℕ) (t : Typ) (shown : List ℕ) →
    IsUndone f g (λ v. occurs v t) → KeepsWeak f weak others t → Prints N env declared weak t shown → Prints N env declared others (apply (renaming f) t) shown
prints_alone N env declared f g weak others t shown undone keeps p =
    subst (λ all. PrintsAmong N env declared others all (apply (renaming f) t) shown) (sym (variables_renamed f t))
    (prints_renamed N env declared f g weak others (variables_of t) t shown (λ v i. undone v (sym (occurs_among v t) ∙ i)) (λ v i. keeps v (sym (occurs_among v t) ∙ i)) (λ v o. occurs_among v t ∙ o) p)

-- a variable of two types' variables stands in one of them
in_either : (v : ℕ) (t u : Typ) → is_among v (variables_of t ++ variables_of u) ≡ (occurs v t || occurs v u)
in_either v t u = among_join v (variables_of t) (variables_of u) ∙ both (λ a b. a || b) (occurs_among v t) (occurs_among v u)

both_renamed : (f : ℕ → ℕ) (t u : Typ) → map f (variables_of t ++ variables_of u) ≡ variables_of (apply (renaming f) t) ++ variables_of (apply (renaming f) u)
both_renamed f t u = map-append f (variables_of t) (variables_of u) ∙ sym (both (λ a b. a ++ b) (variables_renamed f t) (variables_renamed f u))

-- and what the two renamed types of a message are printed as
pub prints_both : {E : Type 0} (N : Naming E) (env : List E) (declared : Path → Name) (f g : ℕ → ℕ) (t u : Typ) (first second : List ℕ) →
    IsUndone f g (λ v. occurs v t || occurs v u) → PrintsTwo N env declared t u first second → PrintsTwo N env declared (apply (renaming f) t) (apply (renaming f) u) first second
prints_both N env declared f g t u first second undone (p, q) =
    let all : List ℕ = variables_of t ++ variables_of u in
    let back : IsUndone f g (λ v. is_among v all) = λ v i. undone v (sym (in_either v t u) ∙ i) in (
      subst (λ vs. PrintsAmong N env declared [] vs (apply (renaming f) t) first) (both_renamed f t u)
          (prints_renamed N env declared f g [] [] all t first back (λ v i. refl) (λ v o. in_either v t u ∙ or_left (occurs v t) (occurs v u) o) p),
      subst (λ vs. PrintsAmong N env declared [] vs (apply (renaming f) u) second) (both_renamed f t u)
          (prints_renamed N env declared f g [] [] all u second back (λ v i. refl) (λ v o. in_either v t u ∙ or_right (occurs v t) (occurs v u) o) q),
    )

-- two most general typings are renamings of each other
pub are_renamed : (kept : Site → Bool) (asked : Choice → List Condition) (types others : ℕ → Typ) → IsMostGeneral kept asked types → IsMostGeneral kept asked others → AreRenamed types others
are_renamed kept asked types others m k =
    let forth = m.general others k.fits in
    let back = k.general types m.fits in
    record {
      forth = λ v. variable_in (forth.0 v);
      back = λ v. variable_in (back.0 v);
      gives = λ n. is_renamed forth.0 back.0 (types n) (others n) (forth.1 n) (back.1 n);
      undone = λ n v o. ap variable_in (puts_variables forth.0 back.0 (types n) (others n) (forth.1 n) (back.1 n) v o).1;
    }

-- and print alike
pub print_alike : {E : Type 0} (N : Naming E) (env : List E) (declared : Path → Name) (types others : ℕ → Typ) (r : AreRenamed types others) (weak weaks : List ℕ) (n : ℕ) (shown : List ℕ) →
    KeepsWeak r.forth weak weaks (types n) → Prints N env declared weak (types n) shown → Prints N env declared weaks (others n) shown
print_alike N env declared types others r weak weaks n shown keeps p =
    subst (λ t. Prints N env declared weaks t shown) (sym (r.gives n)) (prints_alone N env declared r.forth r.back weak weaks (types n) shown (r.undone n) keeps p)

pub print_both_alike : {E : Type 0} (N : Naming E) (env : List E) (declared : Path → Name) (types others : ℕ → Typ) (r : AreRenamed types others) (m n : ℕ) (first second : List ℕ) →
    PrintsTwo N env declared (types m) (types n) first second → PrintsTwo N env declared (others m) (others n) first second
print_both_alike N env declared types others r m n first second p =
    subst (λ t. PrintsTwo N env declared t (others n) first second) (sym (r.gives m))
    (subst (λ u. PrintsTwo N env declared (apply (renaming r.forth) (types m)) u first second) (sym (r.gives n))
    (prints_both N env declared r.forth r.back (types m) (types n) first second (λ v o. elim (or_cases (occurs v (types m)) (occurs v (types n)) o) [ inl i ↦ r.undone m v i | inr i ↦ r.undone n v i ]) p))
