-- Which choices agree on what a text re-exports: any two where it re-exports nothing, and everywhere two that are renamings of one another.
use Rattle.std.proofs.Common.{◌≡◌, ◌∙◌, ℕ, ◌+◌, true, List, [], ◌∷◌, filter_map, Option, Some, None, sym, ap}
use Rattle.tree_model.specs.Trees.{Tree, Forest, node}
use Rattle.tree_model.specs.Rows.{Row, let_row, type_row, exception_row, break_row}
use Rattle.signature_model.specs.Records.{origin_of}
use Rattle.typing_model.specs.Contexts.{Choice}
use Rattle.typing_model.specs.Parts.{constructors, labels, RightSide, another, own, DeclarationPart, Child, in_slot}
use Rattle.typing_model.specs.Meanings.{children_of, item_base}
use Rattle.typing_laws.specs.Reexports.{is_new_item, has_new_types}
use Rattle.typing_laws.specs.Renaming.{AreRenamedChoices}
use Rattle.typing_laws.proofs.Bools.{no_yes, and_cases}
use Rattle.typing_laws.proofs.BesideTexts.{origin_renamed}
use Rattle.typing_laws.proofs.Reexports.{IsNew, NewDeclaration, declarations_new}
use Rattle.typing_laws.proofs.Steady.{Each, no_one, one_and}
use Rattle.demand_laws.specs.Agreeing.{AgreeRight, AgreeOn, AgreeRow, AreAgreed}

-- a right side that re-exports nothing
right_new : (ch other : Choice) (r : Option RightSide) → IsNew r → AgreeRight ch other r
right_new ch other None h = tt
right_new ch other (Some (own r)) h = tt
right_new ch other (Some (another n t l None)) h = tt
right_new ch other (Some (another n t l (Some k))) h = absurd h

all_new : (ch other : Choice) (ds : List DeclarationPart) → Each NewDeclaration ds → AgreeOn ch other ds
all_new ch other [] no_one = tt
all_new ch other (d ∷ ds) (one_and s each) = (right_new ch other d.right s.right, all_new ch other ds each)

row_new : (ch other : Choice) (r : Row) (n : ℕ) (ps : Forest) → is_new_item r ps ≡ true → AgreeRow ch other r (children_of n r ps)
row_new ch other let_row n ps e = tt
row_new ch other type_row n ps e = all_new ch other (filter_map (λ c. c.declaration) (in_slot 2 (children_of n type_row ps))) (declarations_new n type_row ps e)
row_new ch other exception_row n ps e = tt
row_new ch other break_row n ps e = tt
row_new ch other _ n ps e = absurd (no_yes e)

-- On a text without re-exports any two choices agree.
pub new_agree : (ch other : Choice) (i : ℕ) (ts : List Tree) → has_new_types ts ≡ true → AreAgreed ch other i ts
new_agree ch other i [] e = tt
new_agree ch other i (node r x ps ∷ ts) e = let (first, others) = and_cases (is_new_item r ps) (has_new_types ts) e in (row_new ch other r (item_base i + 1) ps first, new_agree ch other (i + 1) ts others)

-- two choices of one origin at each node
abbrev OfOneOrigin : Choice → Choice → Type 0
OfOneOrigin ch other = (n : ℕ) → origin_of (ch.type_at n) ≡ origin_of (other.type_at n)

right_agrees : (ch other : Choice) → OfOneOrigin ch other → (r : Option RightSide) → AgreeRight ch other r
right_agrees ch other h None = tt
right_agrees ch other h (Some (own r)) = tt
right_agrees ch other h (Some (another n t l None)) = tt
right_agrees ch other h (Some (another n t l (Some (constructors ks)))) = tt
right_agrees ch other h (Some (another n t l (Some (labels ls)))) = h t.node

all_agree : (ch other : Choice) → OfOneOrigin ch other → (ds : List DeclarationPart) → AgreeOn ch other ds
all_agree ch other h [] = tt
all_agree ch other h (d ∷ ds) = (right_agrees ch other h d.right, all_agree ch other h ds)

row_agrees : (ch other : Choice) → OfOneOrigin ch other → (r : Row) (cs : List Child) → AgreeRow ch other r cs
row_agrees ch other h type_row cs = all_agree ch other h (filter_map (λ c. c.declaration) (in_slot 2 cs))
row_agrees ch other h _ cs = tt

texts_agree : (ch other : Choice) → OfOneOrigin ch other → (i : ℕ) (ts : List Tree) → AreAgreed ch other i ts
texts_agree ch other h i [] = tt
texts_agree ch other h i (node r x ps ∷ ts) = (row_agrees ch other h r (children_of (item_base i + 1) r ps), texts_agree ch other h (i + 1) ts)

-- Two that are renamings of one another agree on any text.
pub renamed_agree : {ch other : Choice} → AreRenamedChoices ch other → (i : ℕ) (ts : List Tree) → AreAgreed ch other i ts
renamed_agree {ch} {other} r i ts = texts_agree ch other (λ n. sym (ap origin_of (r.nodes n) ∙ origin_renamed r.forth (ch.type_at n))) i ts
