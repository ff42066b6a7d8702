-- The names of the type variables among tokens, and each of them once.
use Rattle.std.proofs.Common.{◌≡◌, ◌∙◌, ℕ, ◌+◌, ◌<◌, Bool, true, false, ◌||◌, List, [], ◌∷◌, ◌++◌, length, map, drop, refl, sym, ap, append-nil, append_assoc, if◌then◌else◌}
use Rattle.std.specs.Prelude.{slice_index_or}
use Rattle.std.specs.Str.{bytes_eq}
use Rattle.std.proofs.lemmas.List.{drop_more}
use Rattle.token_model.specs.Kinds.{Tok}
use Rattle.tree_model.specs.Trees.{part_yield, forest_yield}
use Rattle.syntax_tree.specs.Names.{kind_of}
use Rattle.syntax_tree.specs.View.{child_view, part_view, forest_of}
use Rattle.syntax_tree.specs.declared.kinds.TokenKind.{TokenKind}
use Rattle.syntax_tree.specs.declared.kinds.TokenKind.TheVariants as code
use Rattle.syntax_tree.specs.declared.tree.Child.{Child}
use Rattle.syntax_tree.proofs.Views.{child_view_parts}
use Rattle.signature_model.specs.Declarations.{Name}
use Rattle.typing_model.specs.Records.{is_among}
use Rattle.typing_model.specs.Items.{variable_by, variables_written}
use Rattle.typing_model.specs.Modules.{once_each}

-- the name of a token that is a type variable
pub variable_there : (k : TokenKind) (n : Name) → k ≡ code.TyVar → variable_by (kind_of k) n ≡ n ∷ []
unfolding kind_of
variable_there k n e = ap (λ x. variable_by (kind_of x) n) e

-- and another token has none
pub variable_lost : (k : TokenKind) (n : Name) → (k ≡ code.TyVar → ⊥) → variable_by (kind_of k) n ≡ []
unfolding kind_of
variable_lost code.TyVar n other = absurd (other refl)
variable_lost _ n other = refl

-- one or another, and a third
pub or_none : (a : Bool) → (a || false) ≡ a
or_none true = refl
or_none false = refl

pub or_then : (a b c : Bool) → ((a || b) || c) ≡ (a || (b || c))
or_then true b c = refl
or_then false b c = refl

-- the names among more tokens
pub written_both : (ts us : List Tok) → variables_written (ts ++ us) ≡ variables_written ts ++ variables_written us
written_both [] us = refl
written_both (t ∷ ts) us = ap (λ ns. variable_by t.kind t.name ++ ns) (written_both ts us) ∙ sym (append_assoc (variable_by t.kind t.name) (variables_written ts) (variables_written us))

pub among_both : (q : Name) (ns ms : List Name) → is_among q (ns ++ ms) ≡ (is_among q ns || is_among q ms)
among_both q [] ms = refl
among_both q (n ∷ ns) ms = ap (λ b. bytes_eq q n || b) (among_both q ns ms) ∙ sym (or_then (bytes_eq q n) (is_among q ns) (is_among q ms))

-- the tokens of the children that are left
pub children_left : (cs : List Child) (i : ℕ) (x : Child) → i < length cs → x ≡ slice_index_or cs i x →
    forest_yield (forest_of (map child_view (drop i cs))) ≡ part_yield (part_view x.part) ++ forest_yield (forest_of (map child_view (drop (i + 1) cs)))
children_left cs i x lt e =
    ap (λ ds. forest_yield (forest_of (map child_view ds))) (drop_more cs i x lt ∙ ap (λ y. y ∷ drop (i + 1) cs) (sym e))
    ∙ ap (λ p. forest_yield (forest_of (p ∷ map child_view (drop (i + 1) cs)))) (child_view_parts x)

-- which names are left out depends only on which were seen
once_alike : (seen other : List Name) → ((q : Name) → is_among q seen ≡ is_among q other) → (ns : List Name) → once_each seen ns ≡ once_each other ns
once_alike seen other same [] = refl
once_alike seen other same (n ∷ ns) =
    let kept = once_alike seen other same ns in
    let added = once_alike (n ∷ seen) (n ∷ other) (λ q. ap (λ b. bytes_eq q n || b) (same q)) ns in
    (λ i. if same n i then kept i else n ∷ added i)

or_turned : (a b c : Bool) → ((a || b) || c) ≡ (b || (a || c))
or_turned true true c = refl
or_turned true false c = refl
or_turned false true c = refl
or_turned false false c = refl

-- a name that was seen first or with the others
seen_turned : (q n : Name) (seen ns : List Name) → is_among q ((n ∷ seen) ++ ns) ≡ is_among q (seen ++ n ∷ ns)
seen_turned q n seen ns =
    among_both q (n ∷ seen) ns ∙ or_turned (bytes_eq q n) (is_among q seen) (is_among q ns) ∙ sym (among_both q seen (n ∷ ns))

-- each of more names once: those of the first ones, and then those of the others that aren't among these
pub once_both : (seen ns ms : List Name) → once_each seen (ns ++ ms) ≡ once_each seen ns ++ once_each (seen ++ once_each seen ns) ms
once_both seen [] ms = ap (λ s. once_each s ms) (sym (append-nil seen))
once_both seen (n ∷ ns) ms = by (once_both seen ns ms) (once_both (n ∷ seen) ns ms) (is_among n seen)
  where
    by : once_each seen (ns ++ ms) ≡ once_each seen ns ++ once_each (seen ++ once_each seen ns) ms → once_each (n ∷ seen) (ns ++ ms) ≡ once_each (n ∷ seen) ns ++ once_each ((n ∷ seen) ++ once_each (n ∷ seen) ns) ms → (b : Bool) →
        (if b then once_each seen (ns ++ ms) else n ∷ once_each (n ∷ seen) (ns ++ ms)) ≡ (if b then once_each seen ns else n ∷ once_each (n ∷ seen) ns) ++ once_each (seen ++ (if b then once_each seen ns else n ∷ once_each (n ∷ seen) ns)) ms
    by there new true = there
    by there new false = ap (λ ns'. n ∷ ns') (new ∙ ap (λ ns'. once_each (n ∷ seen) ns ++ ns') (once_alike ((n ∷ seen) ++ once_each (n ∷ seen) ns) (seen ++ n ∷ once_each (n ∷ seen) ns) (λ q. seen_turned q n seen (once_each (n ∷ seen) ns)) ms))

-- names that are found in tokens, each once, and then in others
pub once_then : (old mid new : List Name) (ts us : List Tok) → mid ≡ old ++ once_each old (variables_written ts) → new ≡ mid ++ once_each mid (variables_written us) → new ≡ old ++ once_each old (variables_written (ts ++ us))
once_then old mid new ts us first more =
    more
    ∙ ap (λ m. m ++ once_each m (variables_written us)) first
    ∙ append_assoc old (once_each old (variables_written ts)) (once_each (old ++ once_each old (variables_written ts)) (variables_written us))
    ∙ ap (λ ns. old ++ ns) (sym (ap (once_each old) (written_both ts us) ∙ once_both old (variables_written ts) (variables_written us)))
