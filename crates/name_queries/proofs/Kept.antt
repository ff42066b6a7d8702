-- Names that are kept one by one.
use Rattle.std.proofs.Common.{◌≡◌, ℕ, ◌+◌, ◌<◌, List, [], ◌∷◌, ◌++◌, length, map, drop, get_or, filter, Bool, true, false, sym, ◌∙◌, ap, append_assoc, append-nil, if◌then◌else◌}
use Rattle.std.proofs.lemmas.List.{drop_more}
use Rattle.tree_model.specs.Trees.{Place}
use Rattle.query_model.specs.NameTokens.{Name}
use Rattle.name_queries.specs.NameTokens.{name_of}
use Rattle.name_queries.specs.declared.name_tokens.NameToken.{NameToken}

-- one name more
keep_next : (p : Name → Bool) (n : Name) (ns : List Name) (old : List Place) → (old ++ (if p n then n.span ∷ [] else [])) ++ map (λ m. m.span) (filter p ns) ≡ old ++ map (λ m. m.span) (filter p (n ∷ ns))
keep_next p n ns old =
    elim (p n) as (λ b. (old ++ (if b then n.span ∷ [] else [])) ++ map (λ m. m.span) (filter p ns) ≡ old ++ map (λ m. m.span) (if b then n ∷ filter p ns else filter p ns)) [
      | true ↦ append_assoc old (n.span ∷ []) (map (λ m. m.span) (filter p ns))
      | false ↦ ap (λ xs. xs ++ map (λ m. m.span) (filter p ns)) (append-nil old)
    ]

-- one name of the code more
pub kept_more : (p : Name → Bool) (ns : List NameToken) (i : ℕ) (item : NameToken) (old new all : List Place) → i < length ns → item ≡ get_or ns i item
    → new ≡ old ++ (if p (name_of item) then (name_of item).span ∷ [] else [])
    → old ++ map (λ m. m.span) (filter p (map name_of (drop i ns))) ≡ all → new ++ map (λ m. m.span) (filter p (map name_of (drop (i + 1) ns))) ≡ all
kept_more p ns i item old new all lt is put inv =
    ap (λ xs. xs ++ map (λ m. m.span) (filter p (map name_of (drop (i + 1) ns)))) put
    ∙ keep_next p (name_of item) (map name_of (drop (i + 1) ns)) old
    ∙ ap (λ (xs : List NameToken). old ++ map (λ m. m.span) (filter p (map name_of xs))) (ap (λ (x : NameToken). x ∷ drop (i + 1) ns) is ∙ sym (drop_more ns i item lt))
    ∙ inv
