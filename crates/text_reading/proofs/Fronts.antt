-- How many of the typer's items are those of the tree, once the tree is another.
use Rattle.std.proofs.Common.{◌≡◌, ◌∙◌, ℕ, ◌≤◌, List, [], ◌∷◌, length, take, min, refl, sym, ap, subst, arith, false}
use Rattle.std.specs.Prelude.{option_map, is_some, OnErr, Option, Some, None, Result, Ok, Err}
use Rattle.std.proofs.lemmas.List.{take-take}
use Rattle.tree_model.specs.Trees.{Tree}
use Rattle.resume_parser.specs.Kept.{SharesFront}
use Rattle.analysis_api.specs.Typed.{GoesOn, SameFront}
use Rattle.text_reading.specs.Types.{has_begun, held, items_or_none}
use Rattle.analysis_api.specs.declared.Analyser.{Ghosts}
use Rattle.text_reading.specs.declared.types.KeptTypes.{KeptTypes}

take_zero : (xs : List Tree) → take 0 xs ≡ []
take_zero [] = refl
take_zero (x ∷ xs) = refl

-- any two lists begin with the same none
pub front_none : (xs ys : List Tree) → SameFront xs ys 0
front_none xs ys = record { left = omega arith; right = omega arith; same = take_zero xs ∙ sym (take_zero ys) }

-- the same where that many are none
pub front_of_none : (xs ys : List Tree) (n : ℕ) → n ≡ 0 → SameFront xs ys n
front_of_none xs ys n is = subst (SameFront xs ys) (sym is) (front_none xs ys)

-- where two lists begin with the same so many, they do with fewer
first_less : (m n : ℕ) (xs ys : List Tree) → m ≤ n → take n xs ≡ take n ys → take m xs ≡ take m ys
first_less m n xs ys le same = sym (take-take m n xs le) ∙ ap (take m) same ∙ take-take m n ys le

-- items that are those of a tree are those of the tree after it, as far as both know
pub front_on : (holds before now : List Tree) (known shared front : ℕ) → SameFront holds before known → SharesFront before now shared → front ≡ min known shared → SameFront holds now front
front_on holds before now known shared front h s is = record {
  left = omega (arith, is, h.left);
  right = omega (arith, is, s.right);
  same = first_less front known holds before (omega (arith, is)) h.same ∙ first_less front shared before now (omega (arith, is)) s.same;
}

-- where no typer has begun, no items are held
none_held : {A : Type 0} {g : Ghosts A} (items : A → List Tree) (k : KeptTypes A g) → has_begun k ≡ false → held items k ≡ []
none_held items k is = by k.typer is
  where
    by : (o : Option _) → is_some o ≡ false → items_or_none (option_map items o) ≡ []
    by None same = refl
    by (Some a) same = cc

-- what holds anyway holds of a result
pub on_err : {T E P : Type 0} (r : Result T E) → P → OnErr r P
on_err (Ok x) p = tt
on_err (Err e) p = p

-- a typer that couldn't begin holds none, and has typed none
pub goes_nowhere : {A : Type 0} {g : Ghosts A} (items : A → List Tree) (old new : KeptTypes A g) (trees : List Tree) (before now : ℕ) → has_begun old ≡ false → held items new ≡ [] → now ≡ before → GoesOn (held items old) trees (held items new) before now
goes_nowhere items old new trees before now begun none typed = record {
  same = 0;
  front = record { front = front_none (held items old) trees; longest = λ m h. subst (λ (hs : List Tree). m ≤ length hs) (none_held items old begun) h.left };
  more = 0;
  within = omega arith;
  holds = none ∙ sym (take_zero trees);
  typed = typed;
}
