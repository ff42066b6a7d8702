-- The first row of a chain.
use Rattle.std.proofs.Common.{◌≡◌, ℕ, ◌+◌, ◌<◌, Bool, true, false, ◌&&◌, not, List, [], ◌∷◌, Option, Some, refl, sym, ◌∙◌, ap, if◌then◌else◌, length, map, drop, get_or}
use Rattle.std.proofs.lemmas.List.{drop_more}
use Rattle.std.specs.Prelude.{nat_eq, nat_le}
use Rattle.grammar_model.specs.Tables.{What, nothing, token, operand, has}
use Rattle.grammar_model.specs.Rows.{Row, row_at, is_left, first_what, chain_in, chain_by, or_chain, put_before, what_takes, head_stands}
use Rattle.grammar_model.specs.Separate.{head_of}
use Rattle.syntax_rows.specs.declared.rows.Row.{Row as CodeRow}
use Rattle.syntax_rows.specs.View.{is_begun}

head_by : (all : List Row) (deeper : ℕ → ℕ → List ℕ) (i : ℕ) (w : What) (k : ℕ) (ys : List ℕ) →
    head_of (or_chain (chain_by all deeper i w k) ys) ≡ (if what_takes all deeper w k then Some i else head_of ys)
head_by all deeper i nothing k ys = refl
head_by all deeper i (token ks) k ys = at (has ks k)
  where
    at : (b : Bool) → head_of (or_chain (if b then i ∷ [] else []) ys) ≡ (if b then Some i else head_of ys)
    at true = refl
    at false = refl
head_by all deeper i (operand s n) k ys = at (deeper s k)
  where
    by : (b : Bool) (q : ℕ) (qs : List ℕ) → head_of (or_chain (if b then i ∷ q ∷ qs else []) ys) ≡ (if b then Some i else head_of ys)
    by true q qs = refl
    by false q qs = refl

    at : (xs : List ℕ) → head_of (or_chain (put_before all n i xs) ys) ≡ (if head_stands all n xs then Some i else head_of ys)
    at [] = refl
    at (q ∷ qs) = by (nat_le n (row_at all q).stand) q qs

pub head_step : (all : List Row) (deeper : ℕ → ℕ → List ℕ) (i : ℕ) (w : Row) (ws : List Row) (s k : ℕ) →
    head_of (chain_in all deeper i (w ∷ ws) s k) ≡ (if is_begun all deeper w s k then Some i else head_of (chain_in all deeper (i + 1) ws s k))
head_step all deeper i w ws s k = at (nat_eq w.sort s) (is_left w.left) (head_by all deeper i (first_what w) k (chain_in all deeper (i + 1) ws s k))
  where
    at : (a b : Bool) → head_of (or_chain (chain_by all deeper i (first_what w) k) (chain_in all deeper (i + 1) ws s k)) ≡ (if what_takes all deeper (first_what w) k then Some i else head_of (chain_in all deeper (i + 1) ws s k)) →
        head_of (if a && not b then or_chain (chain_by all deeper i (first_what w) k) (chain_in all deeper (i + 1) ws s k) else chain_in all deeper (i + 1) ws s k)
        ≡ (if a && not b && what_takes all deeper (first_what w) k then Some i else head_of (chain_in all deeper (i + 1) ws s k))
    at true true h = refl
    at true false h = h
    at false b h = refl

-- one turn of the search through the rows
pub chain_at : (all : List Row) (deeper : ℕ → ℕ → List ℕ) (f : CodeRow → Row) (rows : List CodeRow) (d : CodeRow) (i n s k : ℕ) → i < length rows →
    head_of (chain_in all deeper n (map f (drop i rows)) s k) ≡ (if is_begun all deeper (f (get_or rows i d)) s k then Some n else head_of (chain_in all deeper (n + 1) (map f (drop (i + 1) rows)) s k))
chain_at all deeper f rows d i n s k lt =
    ap (λ xs. head_of (chain_in all deeper n (map f xs) s k)) (drop_more rows i d lt) ∙ head_step all deeper n (f (get_or rows i d)) (map f (drop (i + 1) rows)) s k

pub chain_found : (all : List Row) (deeper : ℕ → ℕ → List ℕ) (f : CodeRow → Row) (rows : List CodeRow) (d : CodeRow) (i n s k : ℕ) (b : Bool) (whole : Option ℕ) → i < length rows → b ≡ is_begun all deeper (f (get_or rows i d)) s k → b ≡ true →
    head_of (chain_in all deeper n (map f (drop i rows)) s k) ≡ whole → Some n ≡ whole
chain_found all deeper f rows d i n s k b whole lt is on h =
    let e = chain_at all deeper f rows d i n s k lt in
    let g : is_begun all deeper (f (get_or rows i d)) s k ≡ true = sym is ∙ on in
    sym (e ∙ ap (λ b. if b then Some n else head_of (chain_in all deeper (n + 1) (map f (drop (i + 1) rows)) s k)) g) ∙ h

pub chain_passed : (all : List Row) (deeper : ℕ → ℕ → List ℕ) (f : CodeRow → Row) (rows : List CodeRow) (d : CodeRow) (i n s k : ℕ) (b : Bool) (whole : Option ℕ) → i < length rows → b ≡ is_begun all deeper (f (get_or rows i d)) s k → b ≡ false →
    head_of (chain_in all deeper n (map f (drop i rows)) s k) ≡ whole → head_of (chain_in all deeper (n + 1) (map f (drop (i + 1) rows)) s k) ≡ whole
chain_passed all deeper f rows d i n s k b whole lt is off h =
    let e = chain_at all deeper f rows d i n s k lt in
    let g : is_begun all deeper (f (get_or rows i d)) s k ≡ false = sym is ∙ off in
    sym (e ∙ ap (λ b. if b then Some n else head_of (chain_in all deeper (n + 1) (map f (drop (i + 1) rows)) s k)) g) ∙ h
