-- One item more: what was found of the names before it, and what is found of its own.
use Rattle.std.proofs.Common.{◌≡◌, ◌∙◌, ◌⊎◌, inl, inr, ℕ, ◌<◌, Bool, List, [], ◌∷◌, ◌++◌, length, refl, sym, ap, subst, append_assoc, arith}
use Rattle.std.proofs.lemmas.Bool.{eqb-true}
use Rattle.type_model.specs.Types.{occurs}
use Rattle.type_nodes.specs.Nodes.{Node, IsSound}
use Rattle.env_table.specs.declared.entries.Entry.{Entry}
use Rattle.typing_conditions.specs.Locals.{IsFreeVar}
use Rattle.typing_conditions.specs.Standing.{IsIn}
use Rattle.typing_conditions.proofs.Own.{own_of}
use Rattle.weak_variables.specs.Free.{IsFreeIn, IsRoot, AreAllValues, IsFound, IsFreeToo, SameFree}
use Rattle.weak_variables.specs.Listed.{Lists, Finds, AreListedIn, IsListed}
use Rattle.weak_variables.proofs.Standing.{GoesOn, free_inside, free_occurs, own_free, same_later}
use Rattle.weak_variables.proofs.Searching.{in_none}
use Rattle.weak_variables.proofs.Names.{root_cases, root_left, root_right, values_split}

-- ---- what was found

pub found_left : (nss : List (List ℕ)) (ns : List ℕ) (v : ℕ) → IsFound nss v → IsFound (nss ++ ns ∷ []) v
found_left [] ns v f = absurd f
found_left (ms ∷ nss) ns v (inl h) = inl h
found_left (ms ∷ nss) ns v (inr h) = inr (found_left nss ns v h)

pub found_last : (nss : List (List ℕ)) (ns : List ℕ) (v : ℕ) → IsIn ns v → IsFound (nss ++ ns ∷ []) v
found_last [] ns v h = inl h
found_last (ms ∷ nss) ns v h = inr (found_last nss ns v h)

pub found_cases : (nss : List (List ℕ)) (ns : List ℕ) (v : ℕ) → IsFound (nss ++ ns ∷ []) v → IsFound nss v ⊎ IsIn ns v
found_cases [] ns v (inl h) = inr h
found_cases [] ns v (inr h) = absurd h
found_cases (ms ∷ nss) ns v (inl h) = inl (inl h)
found_cases (ms ∷ nss) ns v (inr h) = elim (found_cases nss ns v h) [ inl f ↦ inl (inr f) | inr f ↦ inr f ]

-- what is listed is in one of the lists, also with what a search has found
pub listed_more : (before after : ℕ → Bool) (free : List (List ℕ)) (own : List ℕ) → AreListedIn before free → Lists before after [] own → AreListedIn after (free ++ own ∷ [])
listed_more before after free own are lists v h = elim (lists.only v h) [ inl was ↦ found_left free own v (are v was) | inr found ↦ found_last free own v found ]

-- ---- one item more

-- a variable is free in the type of another one where it is that
same_var : (nodes : List Node) → IsSound nodes → (u v : ℕ) → IsFreeVar nodes u → IsFreeIn nodes u v → v ≡ u
same_var nodes sound u v var f =
    let (J, own) = own_of nodes sound in
    eqb-true v u (ap (occurs v) (sym (own.vars u var.level var.scope var.at)) ∙ free_occurs nodes J own u v f)

-- what was found is free in the type of one of these
found_in : (nodes : List Node) (R : ℕ → Type 0) (before after : ℕ → Bool) (own : List ℕ) → Finds nodes R before after [] own → (v : ℕ) → IsIn own v → (n : ℕ) × R n × IsFreeIn nodes n v
found_in nodes R before after own h v is = elim (h.found v is) [ inl none ↦ absurd (in_none v none) | inr there ↦ there ]

-- So the names after one item more are listed, where its own were searched.
pub item_listed : (old new : List Node) → GoesOn old new → (env now after more : List Entry) (free : List (List ℕ)) (own : List ℕ) (before listed : ℕ → Bool) → IsListed old env now free → after ≡ more ++ now → ((n : ℕ) → IsRoot more n → n < length new) →
    AreListedIn before free → (AreAllValues more → Finds new (IsRoot more) before listed [] own) → IsListed new env after (free ++ own ∷ [])
item_listed old new on env now after more free own before listed is grown inside are finds = record {
  names = more ++ is.names;
  scope = grown ∙ ap (λ es. more ++ es) is.scope ∙ sym (append_assoc more is.names env);
  inside = λ n r. let longer = on.longer in elim (root_cases more is.names n r) [ inl h ↦ inside n h | inr h ↦ let lt = is.inside n h in omega arith ];
  found = λ values v f. let longer = on.longer in let split = values_split more is.names values in elim (found_cases free own v f) [
    | inl h ↦ let lt = is.found split.1 v h in omega arith
    | inr h ↦ let (n, r, g) = found_in new (IsRoot more) before listed own (finds split.0) v h in free_inside new v g.var
  ];
  same = λ values. let split = values_split more is.names values in both (finds split.0) (same_later old new on (IsRoot is.names) (IsFound free) is.inside (is.found split.1) (is.same split.1));
}
  where
    names : List Entry
    names = more ++ is.names

    news : List (List ℕ)
    news = free ++ own ∷ []

    both : Finds new (IsRoot more) before listed [] own → SameFree new (IsRoot is.names) (IsFound free) → SameFree new (IsRoot names) (IsFound news)
    both h same = record { there = there; back = back }
      where
        there : IsFreeToo new (IsRoot names) (IsFound news)
        there n v r f = elim (root_cases more is.names n r) [
          | inl here ↦ elim (h.lists.only v (h.all v (n, here, f))) [ inl was ↦ (v, found_left free own v (are v was), own_free new v f.var) | inr found ↦ (v, found_last free own v found, own_free new v f.var) ]
          | inr earlier ↦ let (m, found, g) = same.there n v earlier f in (m, found_left free own m found, g)
        ]

        back : IsFreeToo new (IsFound news) (IsRoot names)
        back u v found f = elim (found_cases free own u found) [
          | inl earlier ↦ let (n, r, g) = same.back u v earlier f in (n, root_right more is.names n r, g)
          | inr here ↦
              let (n, r, g) = found_in new (IsRoot more) before listed own h u here in
              (n, root_left more is.names n r, subst (IsFreeIn new n) (sym (same_var new on.sound_too u v g.var f)) g)
        ]

-- before the first item there are none
pub none_listed : (nodes : List Node) (env : List Entry) → IsListed nodes env env []
none_listed nodes env = record {
  names = [];
  scope = refl;
  inside = λ n r. absurd r;
  found = λ values v f. absurd f;
  same = λ values. record { there = λ n v r f. absurd r; back = λ n v r f. absurd r };
}
