-- In a principal typing of a text of `let`, `;;` and exceptions without an argument the types of nodes have no other constructors than the names in scope before it, and those of unknown types.
use Rattle.std.proofs.Common.{◌≡◌, ℕ, Bool, true, List, [], ◌∷◌, ◌++◌, refl, sym, subst, inl, inr}
use Rattle.std.proofs.lemmas.Slice.Eq.{bytes_eq-Decides}
use Rattle.tree_model.specs.Trees.{Tree}
use Rattle.type_model.specs.Types.{Path, Typ, Typs, Var, Arrow, Tuple, Con, Nil, Cons}
use Rattle.type_model.specs.Origins.{same_path}
use Rattle.type_model.proofs.Applying.{or_cases}
use Rattle.signature_model.specs.Changes.{among}
use Rattle.signature_model.specs.Entries.{Environment}
use Rattle.signature_model.specs.Matching.{IsKnown}
use Rattle.typing_model.specs.Demands.{Site, Condition, known, treated, AllHold}
use Rattle.typing_model.specs.Plain.{has_values_alone}
use Rattle.fault_model.specs.Values.{are_bare}
use Rattle.typing_model.specs.Typings.{conditions_of, Fits, IsPrincipal}
use Rattle.type_print_model.specs.Printing.{mentions, mentions_any}
use Rattle.typed_model.specs.Shown.{IsToldTyped, IsTypingOf, asked}
use Rattle.typing_laws.proofs.Bools.{no_yes, and_cases}
use Rattle.settled_types.specs.Made.{Constructors, is_made_of, are_made_of, names_made_of}
use Rattle.settled_types.proofs.Erasing.{Stays, left_stays, instance_stays, made_known}
use Rattle.settled_types.proofs.Goes.{rest, goes_each, chosen_rest}
use Rattle.settled_types.proofs.Texts.{text_goes}

-- What is left of the types of a principal typing meets what the text asks as they do, so it is an instance of them.
types_stay : (w : Constructors) (env : Environment) (items : List Tree) (kept : Site → Bool) (types : ℕ → Typ) → has_values_alone items ≡ true → are_bare items ≡ true → names_made_of w.all env ≡ true → IsPrincipal env items kept types → (n : ℕ) → Stays w.all (types n)
types_stay w env items kept types values bare made p n =
    let holds : AllHold kept (conditions_of env items kept (chosen_rest w p.fits.choice)) = goes_each (text_goes w env items values bare made kept p.fits.choice) kept p.fits.holds in
    let fits : Fits kept (conditions_of env items kept) (λ n. rest w (p.fits.choice.type_at n)) = record { choice = chosen_rest w p.fits.choice; chosen = λ n. refl; holds = holds } in
    let (s, same) = p.general (λ n. rest w (p.fits.choice.type_at n)) fits in
    instance_stays w.all s (types n) (subst (Stays w.all) (same n) (left_stays w.all (p.fits.choice.type_at n)))

-- So a type of it in which no unknown type stands is made of these constructors alone.
pub principal_types_are_made : (w : Constructors) (env : Environment) (items : List Tree) (kept : Site → Bool) (types : ℕ → Typ) → has_values_alone items ≡ true → are_bare items ≡ true → names_made_of w.all env ≡ true → IsPrincipal env items kept types →
    (n : ℕ) → IsKnown (types n) → is_made_of w.all (types n) ≡ true
principal_types_are_made w env items kept types values bare made p n k = made_known w.all (types n) (types_stay w env items kept types values bare made p n) k

-- what holds of conditions holds of the type with which a node is told
told_known : (kept : Site → Bool) (before after : List Condition) (n : ℕ) (E : Environment) (t : Typ) → AllHold kept (before ++ treated n E ∷ known t ∷ after) → IsKnown t
told_known kept [] after n E t h = h.1.0
told_known kept (c ∷ before) after n E t h = told_known kept before after n E t h.1

-- As is the type of each node that is told with it.
pub told_types_are_made : (w : Constructors) (items : List Tree) → has_values_alone items ≡ true → are_bare items ≡ true → (t : IsTypingOf items) → names_made_of w.all t.env ≡ true → (n : ℕ) (E : Environment) → IsToldTyped n E (t.choice.type_at n) (asked t) → is_made_of w.all (t.choice.type_at n) ≡ true
told_types_are_made w items values bare t made n E told =
    principal_types_are_made w t.env items t.kept t.choice.type_at values bare made t.principal n (told_known t.kept told.before told.after n E (t.choice.type_at n) (subst (AllHold t.kept) told.is t.holds))

-- each origin that stands in such a type is one of them
mutual
  pub mentioned_made : (os : List Path) (o : Path) (t : Typ) → is_made_of os t ≡ true → mentions o t ≡ true → among o os ≡ true
  mentioned_made os o (Var v) h m = absurd (no_yes m)
  mentioned_made os o (Arrow a b) h m =
      let (f, g) = and_cases (is_made_of os a) (is_made_of os b) h in
      elim (or_cases (mentions o a) (mentions o b) m) [ inl i ↦ mentioned_made os o a f i | inr i ↦ mentioned_made os o b g i ]
  mentioned_made os o (Tuple ts) h m = any_made os o ts h m
  mentioned_made os o (Con p ts) h m =
      let (f, g) = and_cases (among p os) (are_made_of os ts) h in
      elim (or_cases (same_path o p) (mentions_any o ts) m) [ inl i ↦ subst (λ q. among q os ≡ true) (sym ((bytes_eq-Decides o p).0 i)) f | inr i ↦ any_made os o ts g i ]

  any_made : (os : List Path) (o : Path) (ts : Typs) → are_made_of os ts ≡ true → mentions_any o ts ≡ true → among o os ≡ true
  any_made os o Nil h m = absurd (no_yes m)
  any_made os o (Cons t ts) h m =
      let (f, g) = and_cases (is_made_of os t) (are_made_of os ts) h in
      elim (or_cases (mentions o t) (mentions_any o ts) m) [ inl i ↦ mentioned_made os o t f i | inr i ↦ any_made os o ts g i ]
