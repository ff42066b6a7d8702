-- What an item's own `let` is typed among, at the lowest level, and what is carried of items.
use Rattle.std.specs.Prelude.{◌≡◌, ◌⊎◌, ℕ, Bool, true, false, List, [], ◌∷◌, ◌++◌, length, take, slice_get, Option, Some, None}
use Rattle.type_model.specs.Types.{Path, occurs}
use Rattle.type_model.specs.Types.{Typ as type, Typs as types}
use Rattle.signature_model.specs.Declarations.{Name}
use Rattle.signature_model.specs.Entries.{Environment}
use Rattle.signature_model.specs.Matching.{IsKnown}
use Rattle.typing_model.specs.Demands.{Condition, AllHold}
use Rattle.typing_model.specs.Contexts.{Choice, Context}
use Rattle.type_nodes.specs.Nodes.{IsSound, IsNode}
use Rattle.type_nodes.specs.Nodes.{Node}
use Rattle.type_nodes.specs.Readings.{Types, Fits, IsReading}
use Rattle.level_unify.specs.Solutions.{Loose}
use Rattle.level_unify.specs.Instances.{is_bound}
use Rattle.env_table.specs.declared.entries.Entry.{Entry}
use Rattle.typing_conditions.specs.Locals.{IsOwn, Refines, IsContext}
use Rattle.typing_conditions.specs.Assumptions.{SchemeFits, SchemeReads}
use Rattle.typing_conditions.specs.Standing.{IsIn, Covers, Stands}
use Rattle.typing_conditions.specs.Declared.{UnknownApart}
use Rattle.typing_conditions.specs.Sights.{Scopes, AreScopesIn, Recorded, AreTypesIn, Sight, Key, Report, number_in, Letters, AreGiven, AreNodes, SameAt}
use Rattle.typing_conditions.specs.Seeing.{IsSeen}
use Rattle.typing_conditions.specs.Judging.{Judgement, judgements, refused, AreKept, Follows, StartsWith, FallsShort, AllSeen, AnySeen, Meets}
use Rattle.typing_conditions.specs.Carrying.{Asks, AreHidden}
use Rattle.typing_conditions.specs.Hiding.{Keeps, HasCopy, Settles}
use Rattle.typing_conditions.specs.Surroundings.{Declared, IsSteady, KnowsNames}
use Rattle.typing_rows.specs.Settled.{Fixes, AreFixed}

-- A choice agrees with a state between items: it has the types of the nodes that are recorded, in which no unknown type stands, and of letters. Type variables
-- that are written belong to one item, and none is written between items.
pub record AgreesOutside (a : Sight) (G : Letters) (V : Types) (ch : Choice) : Type 0 where
  pub recorded : (i p m : ℕ) → a.types i p ≡ Some m → ch.type_at (number_in i p) ≡ V m
  pub known : (i p m : ℕ) → a.types i p ≡ Some m → IsKnown (V m)
  pub given : AreGiven G V ch

-- Conditions hold in a context, which keeps the demands that were judged as they were.
pub record AreMet (c : Context) (cs : List Condition) (judged : List Judgement) : Type 0 where
  pub kept : AreKept c.kept judged
  pub holds : AllHold c.kept cs

-- in each context before items, with this environment, that the state after them allows, and in which what they ask is met
abbrev pub InEachMet : (Choice → Environment) → Asks → Sight → Letters → List Judgement → (Context → Type 0) → Type 0
InEachMet E asks b H judged P = (V : Types) (c : Context) → c.env ≡ E c.chosen → Loose b.nodes V → AgreesOutside b H V c.chosen → AreMet c (asks c) judged → P c

-- what is recorded is a node of the store, and so are the nodes of letters
pub record AreInside (a : Sight) (G : Letters) : Type 0 where
  pub recorded : (i p m : ℕ) → a.types i p ≡ Some m → IsNode a.nodes m
  pub given : AreNodes G a.nodes

-- an unknown type that is a name is one of these type expressions, by their numbers
abbrev pub AreOf : List ℕ → Types → Type 0
AreOf U N = (v n : ℕ) (o : Path) → N v ≡ type.Con (o ++ n ∷ []) types.Nil → IsIn U n

-- A state between items, where the code's names stand for those of the definitions: at each reading schemes both ways, under types that fit one way. Its level is the lowest,
-- and the free variables of the names' types, which are weak, are of that level. The unknown types among the names are those of the type expressions `older`. `Surrounds` is the same inside an item.
-- `known`: whether all that is to be known of names is, so that no letter of an item is in doubt.
pub record Outside (D : Declared) (a : Sight) (G : Letters) (env : List Entry) (E : Choice → Environment) : Type 0 where
  pub sound : IsSound a.nodes
  pub level : a.level ≡ 0
  pub roots : List ℕ
  pub names : Types
  pub apart : UnknownApart names
  pub older : List ℕ
  pub unknown : AreOf older names
  pub steady : IsSteady D
  pub context : (J : Types) → IsOwn a.nodes J → IsContext a.nodes J roots a.level
  pub covered : Covers (D.declaration a.nodes roots names) (D.exception a.nodes roots names) roots env
  pub known : Bool
  pub knows : known ≡ true → KnowsNames D a.nodes roots names env
  pub reads : (J V : Types) (ch : Choice) → IsOwn a.nodes J → IsReading a.nodes V → AgreesOutside a G V ch → Stands SchemeReads (D.declaration a.nodes roots names) (D.exception a.nodes roots names) a.nodes J roots V env (E ch)
  pub fits : (J V : Types) (ch : Choice) → IsOwn a.nodes J → Loose a.nodes V → AgreesOutside a G V ch → Stands SchemeFits (D.declaration a.nodes roots names) (D.exception a.nodes roots names) a.nodes J roots V env (E ch)

-- What only an item's own conditions speak of: the letters of its rows, the nodes of the type variables that are written in it, which are among some names, and
-- the types of its declarations.
pub record Left : Type 0 where
  pub letters : Letters
  pub owner : ℕ
  pub names : List Name
  pub written : Name → Option ℕ
  pub fixed : Fixes

-- A choice has them: letters and written type variables have the types of their nodes, and where a name isn't written, which any closed type does for, no bound
-- variable of the store stands in its type; and the types of declarations are the ones that are decided.
pub record IsLeft (nodes : List Node) (l : Left) (V : Types) (ch : Choice) : Type 0 where
  pub letters : AreGiven l.letters V ch
  pub written : (x : Name) (m : ℕ) → l.written x ≡ Some m → ch.written l.owner x ≡ V m
  pub others : (k : ℕ) (x : Name) → slice_get l.names k ≡ Some x → l.written x ≡ None → (v : ℕ) → is_bound nodes v ≡ true → occurs v (ch.written l.owner x) ≡ false
  pub fixed : AreFixed l.fixed ch

-- all letters that items left
abbrev pub letters_left : List Left → Letters
letters_left [] = []
letters_left (l ∷ ls) = l.letters ++ letters_left ls

-- the same of what several items left
abbrev pub AreLeft : List Node → List Left → Types → Choice → Type 0
AreLeft nodes [] V ch = Unit {0}
AreLeft nodes (l ∷ ls) V ch = IsLeft nodes l V ch × AreLeft nodes ls V ch

-- a choice has the types that are decided for the nodes of declarations
abbrev pub AreDecided : List Left → Choice → Type 0
AreDecided [] ch = Unit {0}
AreDecided (l ∷ ls) ch = AreFixed l.fixed ch × AreDecided ls ch

-- types with which a choice enters items
pub record EntersItems (E : Choice → Environment) (a : Sight) (G : Letters) (V : Types) (c : Context) : Type 0 where
  pub env : c.env ≡ E c.chosen
  pub inside : AreInside a G
  pub fits : Fits a.nodes V
  pub agrees : AgreesOutside a G V c.chosen

-- types with which a choice is read off the state after items, under the demands that were kept
pub record ReadsItems (E : Choice → Environment) (b : Sight) (G : Letters) (left : List Left) (judged : List Judgement) (V : Types) (c : Context) : Type 0 where
  pub env : c.env ≡ E c.chosen
  pub reads : IsReading b.nodes V
  pub agrees : AgreesOutside b G V c.chosen
  pub left_too : AreLeft b.nodes left V c.chosen
  pub kept : AreKept c.kept judged

-- the demands are judged as they were, and the types go on, those of the letters that items left too; and the choice has the types that are decided
pub record ContinuesItems (asks : Asks) (a b : Sight) (G : Letters) (left : List Left) (judged : List Judgement) (V : Types) (c : Context) : Type 0 where
  pub same : judgements c.kept (asks c) ≡ judged
  pub types : Types
  pub fits : Fits b.nodes types
  pub before : SameAt a.nodes V types
  pub agrees : AgreesOutside b G types c.chosen
  pub left_too : AreHidden (letters_left left) b types c.chosen
  pub decided : AreDecided left c.chosen

-- what is made and recorded stays, and is read as before
pub record StaysOutside (a : Sight) (G : Letters) (b : Sight) (G' : Letters) : Type 0 where
  pub sound : IsSound a.nodes → IsSound b.nodes
  pub loose : (V : Types) → Loose b.nodes V → Loose a.nodes V
  pub reads : (V : Types) → IsReading b.nodes V → IsReading a.nodes V
  pub refines : (K : Types) → IsOwn b.nodes K → Refines a.nodes b.nodes K
  pub bounds : (v : ℕ) → is_bound a.nodes v ≡ true → is_bound b.nodes v ≡ true
  pub recorded : (i p m : ℕ) → a.types i p ≡ Some m → b.types i p ≡ Some m
  pub keeps : Keeps a b
  pub given : (V : Types) (ch : Choice) → AreGiven G' V ch → AreGiven G V ch
  pub inside : AreInside a G → AreInside b G'
  pub aloud : b.aloud ≡ a.aloud
  pub level : b.level ≡ a.level
  pub fixed : b.fixed ≡ a.fixed

-- Between items the type variables that were written are forgotten, and the next item begins; nodes and what is recorded are as before.
pub record OnlyBetween (a b : Sight) : Type 0 where
  pub nodes : b.nodes ≡ a.nodes
  pub types : (i p : ℕ) → b.types i p ≡ a.types i p
  pub noted : (i p : ℕ) → a.noted i p ≡ true → b.noted i p ≡ true
  pub scopes : AreScopesIn a.scopes b.scopes
  pub reports : b.reports ≡ a.reports
  pub aloud : b.aloud ≡ a.aloud
  pub level : b.level ≡ a.level
  pub fixed : b.fixed ≡ a.fixed

-- What items ask was done, from one state between items to another: letters that are open then were so before or are among those that items left; `settled`, `counted`, `sound`, `follows`, `complete` and `first` are those of `Carried`, with these differences: no frame is needed,
-- since the next item has one of its own, and the type variables that were written in the items are left with their nodes, since the end of an item may generalise them.
pub record ItemsCarried (E : Choice → Environment) (asks : Asks) (a : Sight) (G : Letters) (b : Sight) (G' : Letters) : Type 0 where
  pub stays : StaysOutside a G b G'
  pub left : List Left
  pub opened : (k : ℕ) (x : Key × ℕ) → slice_get G' k ≡ Some x → HasCopy G x ⊎ HasCopy (letters_left left) x
  pub settled : Settles a b (letters_left left)
  pub judged : List Judgement
  pub told : List Report
  pub reports : b.reports ≡ a.reports ++ told
  pub counted : length told ≡ refused judged
  pub sound : (V : Types) (c : Context) → ReadsItems E b G' left judged V c → Meets AnySeen c.kept (asks c) judged told
  pub follows : (V : Types) (c : Context) → ReadsItems E b G' left [] V c → Follows c.kept (asks c) judged
  pub complete : (V : Types) (c : Context) → EntersItems E a G V c → AllHold c.kept (asks c) → ContinuesItems asks a b G' left judged V c ⊎ FallsShort (judgements c.kept (asks c)) judged
  pub first : (k : ℕ) (V : Types) (c : Context) → EntersItems E a G V c → AllHold c.kept (take k (asks c)) →
      StartsWith judged (judgements c.kept (take k (asks c))) ⊎ FallsShort (judgements c.kept (take k (asks c))) judged

-- what is recorded in a state, the names in scope and the types, is recorded in the end
pub record Lasts (b : Sight) (scopes : Scopes) (types : Recorded) : Type 0 where
  pub names : AreScopesIn b.scopes scopes
  pub nodes : AreTypesIn b.types types

-- At each reading of the state after items, for each node that is treated in them the names in scope are recorded, which stand for those of the environment in which it is: in that state, and in
-- whatever is recorded in the end.
abbrev pub SeesItems : (E : Choice → Environment) → Asks → Sight → Letters → List Left → List Judgement → Type 0
SeesItems E asks b G left judged = (V : Types) (c : Context) → ReadsItems E b G left judged V c → (scopes : Scopes) (types : Recorded) → Lasts b scopes types → AllSeen (IsSeen scopes types V) (asks c)
