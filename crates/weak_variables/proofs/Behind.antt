-- In a text of `let` and `;;` the environment after the items is the first one with values in front: a fact of the definitions alone.
use Rattle.std.proofs.Common.{◌≡◌, ℕ, ◌+◌, true, List, [], ◌∷◌, ◌++◌, Option, Some, None}
use Rattle.token_model.specs.Kinds.{Tok}
use Rattle.tree_model.specs.Rows.{Row, let_row, break_row}
use Rattle.tree_model.specs.Trees.{Place, Tree, node, inner, part_yield}
use Rattle.signature_model.specs.Entries.{Environment}
use Rattle.typing_model.specs.Bindings.{names_of_group, held_by}
use Rattle.typing_model.specs.Contexts.{Choice, Context, under, generalised_in}
use Rattle.typing_model.specs.Demands.{Site}
use Rattle.typing_model.specs.Expressions.{bindings_in}
use Rattle.typing_model.specs.Items.{inside_item, behind_items}
use Rattle.typing_model.specs.Meanings.{recorded_item, children_of, tree_child, item_base, items_from, items_of}
use Rattle.typing_model.specs.Modules.{item_row}
use Rattle.typing_model.specs.Parts.{Item, Child}
use Rattle.typing_model.specs.Plain.{is_let_row, has_lets_alone}
use Rattle.typing_model.specs.Typings.{outermost}
use Rattle.typing_laws.proofs.Bools.{no_yes, and_cases}
use Rattle.typing_laws.proofs.Steady.{Each, no_one, one_and, IfThere, absent, there}
use Rattle.weak_variables.specs.Over.{AreValues, IsOver}
use Rattle.weak_variables.proofs.Over.{over_itself, over_values, values_with}

-- an item adds values
record AddsValues (i : Item) : Type 0 where
  pub adds : (c : Context) → AreValues (i.adds c)

row_adds : (r : Row) (n : ℕ) (q : Place) (ts : List Tok) (cs : List Child) → is_let_row r ≡ true → IfThere AddsValues (item_row r n q ts cs)
unfolding item_row
row_adds let_row n q ts cs e = there (record { adds = λ c. values_with (generalised_in c.env (held_by (inside_item n ts c) (bindings_in 2 cs))) (inside_item n ts c) (names_of_group (bindings_in 2 cs)) [] tt })
row_adds break_row n q ts cs e = there (record { adds = λ c. tt })
row_adds _ n q ts cs e = absurd (no_yes e)

item_adds : (n : ℕ) (i : Option Item) → IfThere AddsValues i → IfThere AddsValues (recorded_item n i)
item_adds n None absent = absent
item_adds n (Some i) (there s) = there (record { adds = s.adds })

items_add : (k : ℕ) (ts : List Tree) → has_lets_alone ts ≡ true → Each AddsValues (items_from k ts)
items_add k [] e = no_one
items_add k (node r x ps ∷ ts) e =
    let (first, others) = and_cases (is_let_row r) (has_lets_alone ts) e in
    by (items_add (k + 1) ts others) (tree_child (item_base k) 0 (node r x ps)).item
    (item_adds (item_base k) (item_row r (item_base k) x.span (part_yield (inner (node r x ps))) (children_of (item_base k + 1) r ps))
    (row_adds r (item_base k) x.span (part_yield (inner (node r x ps))) (children_of (item_base k + 1) r ps) first))
  where
    by : Each AddsValues (items_from (k + 1) ts) → (o : Option Item) → IfThere AddsValues o → Each AddsValues (elim o [ None ↦ items_from (k + 1) ts | Some y ↦ y ∷ items_from (k + 1) ts ])
    by later None absent = later
    by later (Some y) (there s) = one_and s later

behind_over : {env : Environment} (c : Context) → IsOver env c.env → {ms : List Item} → Each AddsValues ms → IsOver env (behind_items c ms)
behind_over c o no_one = o
behind_over c o (one_and {x = i} s rest) = behind_over (under (i.adds c ++ c.env) c) (over_values (i.adds c) (s.adds c) o) rest

pub lets_behind_over : (env : Environment) (items : List Tree) (kept : Site → _) (ch : Choice) → has_lets_alone items ≡ true → IsOver env (behind_items (outermost env kept ch) (items_of items))
lets_behind_over env items kept ch lets = behind_over (outermost env kept ch) over_itself (items_add 1 items lets)
