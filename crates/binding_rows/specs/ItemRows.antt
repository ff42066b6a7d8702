-- The `let` of an item by its node, and what an item gives.
use Rattle.std.specs.Prelude.{◌≡◌, ◌⊎◌, ◌+◌, ◌++◌, ℕ, true, List, [], ◌∷◌, map, slice_get, Option, Some, None, All}
use Rattle.token_model.specs.Kinds.{Tok}
use Rattle.tree_model.specs.Rows.{let_row, exception_row, break_row, con_row}
use Rattle.tree_model.specs.Trees.{Tree, Part, taken, inner, missing, yield_of}
use Rattle.signature_model.specs.Declarations.{Name}
use Rattle.signature_model.specs.Entries.{Environment}
use Rattle.signature_model.specs.Signatures.{Components, Done, Component, Value, TypeName, Exception, Module, ModuleType}
use Rattle.typing_model.specs.Contexts.{Choice, Context, tell}
use Rattle.typing_model.specs.Parts.{Item, Seen, no_names}
use Rattle.typing_model.specs.Declarations.{constructor_row}
use Rattle.typing_model.specs.Items.{let_item, exception_item, no_item, variables_written, items_ask, behind_items, seen_names}
use Rattle.typing_model.specs.Expressions.{is_some}
use Rattle.row_parts.specs.Numbered.{Numbered, operands_in, first_in, token_in}
use Rattle.type_nodes.specs.Nodes.{bound_level}
use Rattle.env_table.specs.declared.entries.Entry.{Entry}
use Rattle.typing_state.specs.declared.parts.Written.{Written}
use Rattle.typing_state.specs.declared.parts.Parts.{Parts}
use Rattle.typing_state.specs.Goes.{Goes}
use Rattle.operand_laws.specs.Formed.{row_of, IsFormed}
use Rattle.operand_laws.specs.Operands.{number_of, parts_of, child_at}
use Rattle.typing_conditions.specs.Sights.{Letters}
use Rattle.typing_conditions.specs.Surroundings.{Declared}
use Rattle.typing_steps.specs.States.{is_aloud, written_in, sight}
use Rattle.typing_steps.specs.Typing.{as_declared}
use Rattle.typing_steps.specs.Constants.{HasConstants}
use Rattle.binding_rows.specs.CaseScopes.{names_added}
use Rattle.binding_rows.specs.Carried.{IsBinding}
use Rattle.binding_rows.specs.Operands.{bindings_of, TypesGroupNode}
use Rattle.binding_rows.specs.Decided.{JudgesGroup}
use Rattle.binding_rows.specs.Lets.{ToClose, bind_nodes, names_closed}
use Rattle.binding_rows.specs.LetNodes.{typed_as, ClosesBindings}
use Rattle.binding_rows.specs.Scopes.{AreMade}
use Rattle.typing_conditions.specs.Hiding.{ArePlaced, NoneDoubtful}
use Rattle.binding_rows.specs.Stopped.{StopsItems}
use Rattle.binding_rows.specs.Outside.{InEachMet, Outside, Left, letters_left, ItemsCarried, SeesItems}
use Rattle.typing_rows.specs.Noted.{AreNoted}

-- an item `let b and b` of which bindings are carried
pub record IsItemNode (n : ℕ) (t : Tree) : Type 0 where
  pub formed : IsFormed n t
  pub row : row_of t ≡ let_row
  pub bindings : All IsBinding (operands_in n t 2)

-- The `let` of an item by its node: its group is typed one level above the item's, then the types of all its names are limited to what was made before it, at any level,
-- and then the group is closed; its names are in scope after it.
pub record TypesItem (a b : Parts) (env after : List Entry) (n : ℕ) (t : Tree) : Type 0 where
  pub begun : Parts
  pub raised : begun ≡ record a { level = a.level + 1 }
  pub done : Parts
  pub scoped : Parts
  pub bindings : List ToClose
  pub typed : TypesGroupNode begun done env n t (map typed_as bindings)
  pub judged : JudgesGroup env n t (map (λ (y : ToClose). y.general) bindings)
  pub scopes : AreMade done scoped bound_level (number_of a.item n) (bind_nodes (names_closed bindings))
  pub closes : ClosesBindings scoped b bindings
  pub scope : after ≡ names_added (names_closed bindings) env
  pub goes : Goes a b

-- an item as it is recorded: its node is treated, and then its `let` is asked
abbrev pub recorded_let : ℕ → List Tok → ℕ → Tree → Item
recorded_let i ts n t = let l = let_item (number_of i n) ts (is_some (token_in t 1)) (bindings_of i (operands_in n t 2)) in record l { asks = λ c seen. tell (number_of i n) c ++ l.asks c seen }

-- `;;` as it is recorded: its node is treated
abbrev pub recorded_idle : ℕ → Item
recorded_idle n = let i = no_item n in record i { asks = λ c seen. tell n c ++ i.asks c seen }

-- an exception as it is recorded, with its constructor and the number of that: its node is treated, and then the exception is asked
abbrev pub recorded_exception : (i n k : ℕ) → Tree → Item
recorded_exception i n k t = let m = exception_item (number_of i n) (Some (constructor_row (number_of i k) (parts_of i k t))) in record m { asks = λ c seen. tell (number_of i n) c ++ m.asks c seen }

-- the first component of an item is no value and no exception without an argument, or it is a value with no variable but those that its scheme binds, as one that is specified
abbrev pub AreDeclared : Components → Type 0
AreDeclared Done = ⊥
AreDeclared (Component n at (Value s) cs) = (v : ℕ) → s.bound v ≡ true
AreDeclared (Component n at (TypeName d) cs) = Unit {0}
AreDeclared (Component n at (Exception None) cs) = ⊥
AreDeclared (Component n at (Exception (Some t)) cs) = Unit {0}
AreDeclared (Component n at (Module s) cs) = Unit {0}
AreDeclared (Component n at (ModuleType made s) cs) = Unit {0}

-- What was left was left by some of the items, in order, each with the type variables of its own node, and without types of declarations; or by one that declares
-- or specifies something, which may leave the types of several declarations.
pub data AreOwned : List Item → List Left → Type 0 where
  none_owned : AreOwned [] []
  leaves_none : {m : Item} {ms : List Item} {ls : List Left} → AreOwned ms ls → AreOwned (m ∷ ms) ls
  leaves_types : {m : Item} {ms : List Item} {l : Left} {ls : List Left} → ((c : Context) → AreDeclared (m.components c)) → AreOwned (m ∷ ms) ls → AreOwned (m ∷ ms) (l ∷ ls)
  leaves_one : {m : Item} {ms : List Item} {l : Left} {ls : List Left} → l.owner ≡ m.node → l.fixed ≡ [] → AreOwned ms ls → AreOwned (m ∷ ms) (l ∷ ls)

-- What an item gives where the names `seen` stand before it in its structure: what it asks is carried, and the next item starts among its names. In each context
-- that the state after it allows, and in which what it asks is met, it adds these entries, and names the types, modules and module types `names`. Something is recorded
-- for each type expression that has unknown types among the names. Where K holds, all that is to be known of names is known after it too, no letter that it left is in doubt, and
-- for each node that is treated in it the names in scope are recorded (`SeesItems`), and it is known what was asked where two types were reported to differ (`StopsItems`).
pub record ItemDone (D : Declared) (K : Type 0) (E : Choice → Environment) (m : Item) (seen names : Seen) (a b : Parts) (G : Letters) (after : List Entry) : Type 0 where
  pub letters : Letters
  pub env : Choice → Environment
  pub carried : ItemsCarried E (λ c. m.asks c seen) (sight a) G (sight b) letters
  pub owners : AreOwned (m ∷ []) carried.left
  pub clear : K → ArePlaced (sight b) → NoneDoubtful (letters_left carried.left)
  pub sees : K → SeesItems E (λ c. m.asks c seen) (sight b) letters carried.left carried.judged
  pub stops : K → StopsItems E (λ c. m.asks c seen) (sight a) G (sight b) letters carried.left carried.judged carried.told
  pub outside : Outside D (sight b) letters after env
  pub knows : K → outside.known ≡ true
  pub noted : AreNoted outside.older b
  pub adds : InEachMet E (λ c. m.asks c seen) (sight b) letters carried.judged (λ c. m.adds c ++ c.env ≡ env c.chosen)
  pub named : InEachMet E (λ c. m.asks c seen) (sight b) letters carried.judged (λ c. m.named c ≡ names)
  pub constants : HasConstants b

-- The same of items in order: the environment after them, and all `names` that then stand in the structure.
pub record ItemsDone (D : Declared) (K : Type 0) (E : Choice → Environment) (ms : List Item) (seen names : Seen) (a b : Parts) (G : Letters) (after : List Entry) : Type 0 where
  pub letters : Letters
  pub env : Choice → Environment
  pub carried : ItemsCarried E (λ c. items_ask c seen ms) (sight a) G (sight b) letters
  pub owners : AreOwned ms carried.left
  pub clear : K → ArePlaced (sight b) → NoneDoubtful (letters_left carried.left)
  pub sees : K → SeesItems E (λ c. items_ask c seen ms) (sight b) letters carried.left carried.judged
  pub stops : K → StopsItems E (λ c. items_ask c seen ms) (sight a) G (sight b) letters carried.left carried.judged carried.told
  pub outside : Outside D (sight b) letters after env
  pub knows : K → outside.known ≡ true
  pub noted : AreNoted outside.older b
  pub behind : InEachMet E (λ c. items_ask c seen ms) (sight b) letters carried.judged (λ c. behind_items c ms ≡ env c.chosen)
  pub named : InEachMet E (λ c. items_ask c seen ms) (sight b) letters carried.judged (λ c. seen_names c ms seen ≡ names)
  pub constants : HasConstants b

-- the type variables that are written are among those of tokens
abbrev pub AreWrittenIn : List Tok → Written → Type 0
AreWrittenIn ts w = (x : Name) (m : ℕ) → written_in w x ≡ Some m → (k : ℕ) × (slice_get (variables_written ts) k ≡ Some x)

-- What a call gives for an item's `let` by its node, from where the item starts to where the next one does: where faults are reported, the definitions' own item, whatever names stand before it. Its type variables are those among its tokens.
abbrev pub GivesLet : (a b : Parts) → (env after : List Entry) → (n : ℕ) → Tree → Type 0
GivesLet a b env after n t =
    (G : Letters) (E : Choice → Environment) (seen : Seen) → IsItemNode n t → is_aloud a.telling ≡ true → (at : Outside as_declared (sight a) G env E) → HasConstants a → AreNoted at.older a → ItemDone as_declared (at.known ≡ true) E (recorded_let a.item (yield_of t) n t) seen no_names a b G after

-- an item `exception A of t` of which the constructor is there, with its name
pub record IsExceptionNode (n : ℕ) (t : Tree) : Type 0 where
  pub formed : IsFormed n t
  pub row : row_of t ≡ exception_row
  pub operand : Numbered
  pub there : first_in n t 1 ≡ Some operand
  pub constructor : Tree
  pub part : operand.part ≡ inner constructor
  pub is : row_of constructor ≡ con_row
  pub name : Tok
  pub named : token_in constructor 0 ≡ Some name

-- an item whose conditions are carried: a `let` of which bindings are, `;;`, or an exception that has a name
abbrev pub IsCarriedItem : ℕ → Tree → Type 0
IsCarriedItem n t = IsItemNode n t ⊎ ((row_of t ≡ break_row) ⊎ IsExceptionNode n t)

-- the same of what is at an operand; what is missing is no item
abbrev pub IsCarriedPart : ℕ → Part → Type 0
IsCarriedPart n (taken t) = Unit {0}
IsCarriedPart n (inner t) = IsCarriedItem n t
IsCarriedPart n (missing at) = Unit {0}

-- the same of an operand
abbrev pub IsCarriedItemOperand : Numbered → Type 0
IsCarriedItemOperand o = IsCarriedPart o.number o.part

-- an item that may be there, as a list
abbrev pub item_if : Option Item → List Item
item_if None = []
item_if (Some m) = m ∷ []

-- the item of the definitions that an operand is, if it is one
abbrev pub item_at : ℕ → Numbered → List Item
item_at i o = item_if (child_at i 0 o).item

-- the items that operands are, in order
abbrev pub items_at : ℕ → List Numbered → List Item
items_at i [] = []
items_at i (o ∷ os) = item_at i o ++ items_at i os
