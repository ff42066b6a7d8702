-- Nodes that are the same but for the limits of free variables.
use Rattle.std.proofs.Common.{◌≡◌, ◌≢◌, ℕ, zero, suc, Bool, true, List, length, get_or, Option, Some, None, refl, sym, ◌∙◌, ap, subst, arith, inl, inr}
use Rattle.std.specs.Prelude.{slice_get, All}
use Rattle.std.proofs.lemmas.Option.{slice_get_within, slice_get_past, slice_get_cases}
use Rattle.type_nodes.specs.Nodes.{Node, Var, Rigid, Link, Arrow, Tuple, Con, parts, bound_level, IsClosed}
use Rattle.type_nodes.specs.Links.{linked_from, next, follow, root}
use Rattle.type_nodes.specs.Readings.{Types}
use Rattle.type_nodes.proofs.Lists.{one_element}
use Rattle.level_unify.specs.Walks.{StandsIn, IsCleared}
use Rattle.level_unify.specs.Solutions.{Loose, FitsLoosely}
use Rattle.level_unify.specs.Limits.{SameButLimit, SameButLimits}
use Rattle.level_unify.proofs.Steps.{cell_at}

cell_leads : (n : ℕ) (c d : Node) → SameButLimit c d → linked_from n (Some d) ≡ linked_from n (Some c)
cell_leads n (Var l o) d (l', o', e, p, q) = ap (λ x. linked_from n (Some x)) e
cell_leads n Rigid d e = ap (λ x. linked_from n (Some x)) e
cell_leads n (Link m) d e = ap (λ x. linked_from n (Some x)) e
cell_leads n (Arrow a b) d e = ap (λ x. linked_from n (Some x)) e
cell_leads n (Tuple ms) d e = ap (λ x. linked_from n (Some x)) e
cell_leads n (Con p name ms) d e = ap (λ x. linked_from n (Some x)) e

cell_parts : (c d : Node) → SameButLimit c d → parts d ≡ parts c
cell_parts (Var l o) d (l', o', e, p, q) = ap parts e
cell_parts Rigid d e = ap parts e
cell_parts (Link m) d e = ap parts e
cell_parts (Arrow a b) d e = ap parts e
cell_parts (Tuple ms) d e = ap parts e
cell_parts (Con p name ms) d e = ap parts e

cell_forth : (V : Types) (n : ℕ) (c d : Node) → SameButLimit c d → FitsLoosely V n c → FitsLoosely V n d
cell_forth V n (Var l o) d (l', o', e, p, q) h = subst (FitsLoosely V n) (sym e) tt
cell_forth V n Rigid d e h = subst (FitsLoosely V n) (sym e) h
cell_forth V n (Link m) d e h = subst (FitsLoosely V n) (sym e) h
cell_forth V n (Arrow a b) d e h = subst (FitsLoosely V n) (sym e) h
cell_forth V n (Tuple ms) d e h = subst (FitsLoosely V n) (sym e) h
cell_forth V n (Con p name ms) d e h = subst (FitsLoosely V n) (sym e) h

cell_back : (V : Types) (n : ℕ) (c d : Node) → SameButLimit c d → FitsLoosely V n d → FitsLoosely V n c
cell_back V n (Var l o) d s h = tt
cell_back V n Rigid d e h = subst (FitsLoosely V n) e h
cell_back V n (Link m) d e h = subst (FitsLoosely V n) e h
cell_back V n (Arrow a b) d e h = subst (FitsLoosely V n) e h
cell_back V n (Tuple ms) d e h = subst (FitsLoosely V n) e h
cell_back V n (Con p name ms) d e h = subst (FitsLoosely V n) e h

-- the cell before one
pub cell_before : (old new : List Node) → SameButLimits old new → (n : ℕ) (d : Node) → slice_get new n ≡ Some d → (c : Node) × (slice_get old n ≡ Some c) × SameButLimit c d
cell_before old new s n d at =
    let lt = slice_get_within new n d at in
    let len = s.len in
    let (c, at') = cell_at old n (omega arith) in
    let (d', e, same) = s.each n c at' in
    (c, at', subst (SameButLimit c) (one_element d' d (slice_get new n) e at) same)

next_same : (old new : List Node) → SameButLimits old new → (n : ℕ) → next new n ≡ next old n
next_same old new s n = go (slice_get old n) refl
  where
    go : (o : Option Node) → slice_get old n ≡ o → next new n ≡ next old n
    go (Some c) e = let (d, at, same) = s.each n c e in ap (linked_from n) at ∙ cell_leads n c d same ∙ sym (ap (linked_from n) e)
    go None e = elim (slice_get_cases old n).1 [
      | inl (x, lt, at, u) ↦ absurd (cc)
      | inr (past, at) ↦ let len = s.len in ap (linked_from n) (slice_get_past new n (omega arith)) ∙ sym (ap (linked_from n) e)
    ]

follow_all : (old new : List Node) → ((n : ℕ) → next new n ≡ next old n) → (k n : ℕ) → follow k new n ≡ follow k old n
follow_all old new h zero n = refl
follow_all old new h (suc k) n = follow_all old new h k (next new n) ∙ ap (follow k old) (h n)

-- links end at the same nodes
pub same_root : (old new : List Node) → SameButLimits old new → (n : ℕ) → root new n ≡ root old n
same_root old new s n = ap (λ k. follow k new n) s.len ∙ follow_all old new (next_same old new s) (length old) n

pub same_loose : (old new : List Node) → SameButLimits old new → (V : Types) → Loose old V → Loose new V
same_loose old new s V fits = record {
  each = λ n d at. let (c, at', same) = cell_before old new s n d at in cell_forth V n c d same (fits.each n c at');
}

pub loose_same : (old new : List Node) → SameButLimits old new → (V : Types) → Loose new V → Loose old V
loose_same old new s V fits = record {
  each = λ n c at. let (d, at', same) = s.each n c at in cell_back V n c d same (fits.each n d at');
}

-- a set with the parts of its nodes stays one
pub same_closed : (old new : List Node) → SameButLimits old new → (F : ℕ → Bool) → IsClosed old F → IsClosed new F
same_closed old new s F closed = record {
  each = λ n d has at.
      let (c, at', same) = cell_before old new s n d at in
      subst (λ ms. All (λ m. F m ≡ true) ms) (sym (cell_parts c d same)) (closed.each n c has at');
}

cell_refl : (c : Node) → SameButLimit c c
cell_refl (Var l o) = (l, o, refl, (λ e. (refl, refl)), λ e. e)
cell_refl Rigid = refl
cell_refl (Link m) = refl
cell_refl (Arrow a b) = refl
cell_refl (Tuple ms) = refl
cell_refl (Con p name ms) = refl

pub same_refl : (nodes : List Node) → SameButLimits nodes nodes
same_refl nodes = record { len = refl; each = λ n c at. (c, at, cell_refl c) }

pub same_is : (c d : Node) → d ≡ c → SameButLimit c d
same_is c d e = subst (SameButLimit c) (sym e) (cell_refl c)

var_trans : (l o : ℕ) (d e : Node) → SameButLimit (Var l o) d → SameButLimit d e → SameButLimit (Var l o) e
var_trans l o d e (l', o', at, p, q) s =
    let (l'', o'', at', p', q') = subst (λ x. SameButLimit x e) at s in
    (l'', o'', at', (λ b. let f = p b in let g = p' (f.0 ∙ b) in (g.0 ∙ f.0, g.1 ∙ f.1)), λ b. q' (q b))

cell_trans : (c d e : Node) → SameButLimit c d → SameButLimit d e → SameButLimit c e
cell_trans (Var l o) d e s s' = var_trans l o d e s s'
cell_trans Rigid d e s s' = subst (λ x. SameButLimit x e) s s'
cell_trans (Link m) d e s s' = subst (λ x. SameButLimit x e) s s'
cell_trans (Arrow a b) d e s s' = subst (λ x. SameButLimit x e) s s'
cell_trans (Tuple ms) d e s s' = subst (λ x. SameButLimit x e) s s'
cell_trans (Con p name ms) d e s s' = subst (λ x. SameButLimit x e) s s'

pub same_trans : (a b c : List Node) → SameButLimits a b → SameButLimits b c → SameButLimits a c
same_trans a b c s s' = record {
  len = s'.len ∙ s.len;
  each = λ n x at.
      let (y, at', p) = s.each n x at in
      let (z, at'', q) = s'.each n y at' in
      (z, at'', cell_trans x y z p q);
}

-- a variable that isn't bound wasn't
pub still_free : (c : Node) (level scope : ℕ) → SameButLimit c (Var level scope) → ((l o : ℕ) → c ≡ Var l o → l ≢ bound_level) → level ≢ bound_level
still_free (Var l o) level scope (l', o', e, p, q) free = let f : level ≡ l' = cc in λ b. q (free l o refl) (sym f ∙ b)
still_free Rigid level scope e free = absurd (cc)
still_free (Link m) level scope e free = absurd (cc)
still_free (Arrow a b) level scope e free = absurd (cc)
still_free (Tuple ms) level scope e free = absurd (cc)
still_free (Con p name ms) level scope e free = absurd (cc)

-- and so does one of the nodes after
pub closed_same : (old new : List Node) → SameButLimits old new → (F : ℕ → Bool) → IsClosed new F → IsClosed old F
closed_same old new s F closed = record {
  each = λ n c has at.
      let (d, at', same) = s.each n c at in
      subst (λ ms. All (λ m. F m ≡ true) ms) (cell_parts c d same) (closed.each n d has at');
}

pub stands_after : (old new : List Node) → SameButLimits old new → (n m : ℕ) → StandsIn old n m → StandsIn new n m
stands_after old new s n m h = record { each = λ F closed has. h.each F (closed_same old new s F closed) has }

pub stands_before : (old new : List Node) → SameButLimits old new → (n m : ℕ) → StandsIn new n m → StandsIn old n m
stands_before old new s n m h = record { each = λ F closed has. h.each F (same_closed old new s F closed) has }

-- the variables of nodes that are the same but for limits
pub var_before : (mid new : List Node) → SameButLimits mid new → (n level scope : ℕ) → slice_get new n ≡ Some (Var level scope) →
    (l : ℕ) × (o : ℕ) × (slice_get mid n ≡ Some (Var l o)) × (l ≡ bound_level → (level ≡ l) × (scope ≡ o)) × (l ≢ bound_level → level ≢ bound_level)
var_before mid new same n level scope e = let (c, at, s) = cell_before mid new same n (Var level scope) e in go c at s
  where
    go : (c : Node) → slice_get mid n ≡ Some c → SameButLimit c (Var level scope) →
        (l : ℕ) × (o : ℕ) × (slice_get mid n ≡ Some (Var l o)) × (l ≡ bound_level → (level ≡ l) × (scope ≡ o)) × (l ≢ bound_level → level ≢ bound_level)
    go (Var l o) at (l', o', f, p, q) =
        let g : level ≡ l' = cc in let g' : scope ≡ o' = cc in
        (l, o, at, (λ b. let u = p b in (g ∙ u.0, g' ∙ u.1)), λ b c. q b (sym g ∙ c))
    go Rigid at s = absurd (cc)
    go (Link m) at s = absurd (cc)
    go (Arrow x y) at s = absurd (cc)
    go (Tuple ms) at s = absurd (cc)
    go (Con p name ms) at s = absurd (cc)

-- a cleared set stays one
pub same_cleared : (old new : List Node) → SameButLimits old new → (D : ℕ → Bool) → IsCleared old D → IsCleared new D
same_cleared old new s D cleared = record {
  each = λ n d has e.
      let (c, at, same) = cell_before old new s n d e in
      subst (λ ms. All (λ m. D (root new m) ≡ true) ms) (sym (cell_parts c d same)) (λ k z lt. ap D (same_root old new s (get_or (parts c) k z)) ∙ cleared.each n c has at k z lt);
}
