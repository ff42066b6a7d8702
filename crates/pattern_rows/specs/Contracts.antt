-- What the functions of rows of patterns carry.
use Rattle.std.specs.Prelude.{◌≡◌, ℕ, true, List, [], ◌∷◌, ◌++◌, map}
use Rattle.token_model.specs.Kinds.{Tok}
use Rattle.tree_model.specs.Trees.{Place, Tree}
use Rattle.type_model.specs.Types.{Typ}
use Rattle.signature_model.specs.Declarations.{Name}
use Rattle.typing_model.specs.Demands.{Condition, same, equal}
use Rattle.typing_model.specs.Contexts.{Choice, Context, Bound, ask, type_at}
use Rattle.typing_model.specs.Parts.{Pattern}
use Rattle.typing_model.specs.BuiltIns.{list_type}
use Rattle.typing_model.specs.Patterns.{pattern_row, ask_fresh, ask_all, each_has, first_type, behind_first, matched_all, all_names, all_mentions}
use Rattle.env_table.specs.declared.entries.Entry.{Entry}
use Rattle.typing_state.specs.declared.parts.Parts.{Parts}
use Rattle.row_parts.specs.Numbered.{Numbered}
use Rattle.operand_laws.specs.Formed.{row_of}
use Rattle.operand_laws.specs.Operands.{number_of, parts_of, pattern_of}
use Rattle.typing_conditions.specs.Sights.{Sight, Letters}
use Rattle.typing_conditions.specs.Frames.{Frame}
use Rattle.typing_conditions.specs.Meanings.{Means, AllMean}
use Rattle.typing_conditions.specs.Carrying.{Asks, Scope, Stays, Carried, CarriedTo}
use Rattle.typing_conditions.specs.Hiding.{AreDone, IsAmong}
use Rattle.typing_conditions.specs.Surroundings.{Surrounds}
use Rattle.typing_steps.specs.States.{is_aloud, sight}
use Rattle.typing_steps.specs.Typing.{as_declared, RowCarried}
use Rattle.pattern_rows.specs.Bounds.{Bind, AlwaysKnown, AllBound, Adds}

-- a node of an item, as a pattern at a place, without what is recorded of it
abbrev pub row_pattern : ℕ → ℕ → Place → Tree → Pattern
row_pattern i n at t = pattern_row (row_of t) (number_of i n) at (parts_of i n t)

-- operands of an item as patterns
abbrev pub patterns_of : ℕ → List Numbered → List Pattern
patterns_of i os = map (λ o. pattern_of i o) os

-- the types of patterns' nodes
abbrev pub types_at : List Pattern → List (Choice → Typ)
types_at ps = map (λ p ch. ch.type_at p.node) ps

-- A pattern behind the names seen before: what it asks is carried, with letters that stay open for the types of its names; a node has its type, and these names
-- stand for those that it binds. `done`: the rows of the letters that stay open are done, so that these are without doubt.
pub record MatchedTo (F : Frame) (scope : Scope) (a : Sight) (G : Letters) (b : Sight) (p : Pattern) (seen : List Name) (added : List Bind) (m : ℕ) (opens : Letters) : Type 0 where
  pub typed : CarriedTo F scope (λ c. p.matched c seen) a G b (opens ++ G) (λ ch. ch.type_at p.node) m
  pub done : AreDone b typed.carried.hidden opens
  pub names : AllBound F b (opens ++ G) p.names added

-- the same of a call, where faults are reported; it opens the same letters whatever surrounds it
pub record MatchesTo (a b : Parts) (env : List Entry) (p : Pattern) (seen : List Name) (added : List Bind) (m : ℕ) : Type 0 where
  pub opens : Letters
  pub typed : is_aloud a.telling ≡ true → (F : Frame) (scope : Scope) (G : Letters) → Surrounds as_declared F (sight a) G env scope → MatchedTo F scope (sight a) G (sight b) p seen added m opens

-- What a function of patterns does: the names that it adds to those that are bound, and to those that are seen, and what it carries behind those seen before.
pub record Matches (a b : Parts) (env : List Entry) (p : Pattern) (names names' : List Bind) (seen seen' : List Name) (m : ℕ) : Type 0 where
  pub added : List Bind
  pub adds : Adds names names' added seen seen' p.mentions
  pub typed : MatchesTo a b env p seen added m

-- A row of patterns whose type isn't recorded yet for its node n: some of its letters stay open, with which its names have their types once it is recorded.
pub record RowMatched (F : Frame) (scope : Scope) (a : Sight) (G : Letters) (b : Sight) (p : Pattern) (seen : List Name) (added : List Bind) (n m : ℕ) (opens : Letters) : Type 0 where
  pub row : RowCarried F scope (λ c. p.matched c seen) a G b n m
  pub among : IsAmong opens row.own
  pub done : AreDone b row.typed.carried.hidden opens
  pub names : (d : Sight) → Stays F b (opens ++ G) d (opens ++ G) → Means F d (opens ++ G) (λ ch. ch.type_at n) m → AlwaysKnown F d (opens ++ G) m → AllBound F d (opens ++ G) p.names added

-- the same of a call, where faults are reported; it opens the same letters whatever surrounds it
pub record MatchesRow (a b : Parts) (env : List Entry) (p : Pattern) (seen : List Name) (added : List Bind) (n m : ℕ) : Type 0 where
  pub opens : Letters
  pub typed : is_aloud a.telling ≡ true → (F : Frame) (scope : Scope) (G : Letters) → scope.own n ≡ true → Surrounds as_declared F (sight a) G env scope → RowMatched F scope (sight a) G (sight b) p seen added n m opens

-- the demand that a name is new among those before
abbrev pub AsksFresh : (a b : Parts) → Tok → List Name → Type 0
AsksFresh a b t seen = is_aloud a.telling ≡ true → (F : Frame) (scope : Scope) (G : Letters) (n k : ℕ) → Carried F scope (λ c. ask_fresh n k seen t) (sight a) G (sight b) G

-- patterns one after the other, each behind the names of those before, with the letters that they open
pub record PatternsAll (F : Frame) (scope : Scope) (a : Sight) (G : Letters) (b : Sight) (ps : List Pattern) (seen : List Name) (added : List Bind) (ms : List ℕ) (opens : Letters) : Type 0 where
  pub carried : Carried F scope (λ c. matched_all c seen ps) a G b (opens ++ G)
  pub done : AreDone b carried.hidden opens
  pub means : AllMean F b (opens ++ G) (types_at ps) ms
  pub names : AllBound F b (opens ++ G) (all_names ps) added

-- the same of a call
pub record MatchesAll (a b : Parts) (env : List Entry) (ps : List Pattern) (seen : List Name) (added : List Bind) (ms : List ℕ) : Type 0 where
  pub opens : Letters
  pub typed : is_aloud a.telling ≡ true → (F : Frame) (scope : Scope) (G : Letters) → Surrounds as_declared F (sight a) G env scope → PatternsAll F scope (sight a) G (sight b) ps seen added ms opens

-- the first of some patterns, and some are left; `now` are the names seen so far
pub record PatternsFirst (F : Frame) (scope : Scope) (a : Sight) (G : Letters) (b : Sight) (all left : List Pattern) (seen now : List Name) (added : List Bind) (ms : List ℕ) (opens : Letters) : Type 0 where
  pub done : Asks
  pub types : List (Choice → Typ)
  pub bounds : List Bound
  pub carried : Carried F scope done a G b (opens ++ G)
  pub rows_done : AreDone b carried.hidden opens
  pub means : AllMean F b (opens ++ G) types ms
  pub names : AllBound F b (opens ++ G) bounds added
  pub asks : (c : Context) → matched_all c seen all ≡ done c ++ matched_all c now left
  pub gives : types_at all ≡ types ++ types_at left
  pub binds : all_names all ≡ bounds ++ all_names left

-- the same in a loop
pub record MatchesFirst (a b : Parts) (env : List Entry) (all left : List Pattern) (seen now : List Name) (added : List Bind) (ms : List ℕ) : Type 0 where
  pub opens : Letters
  pub typed : is_aloud a.telling ≡ true → (F : Frame) (scope : Scope) (G : Letters) → Surrounds as_declared F (sight a) G env scope → PatternsFirst F scope (sight a) G (sight b) all left seen now added ms opens

-- the same with the names that are added
pub record MatchesInOrder (a b : Parts) (env : List Entry) (ps : List Pattern) (names names' : List Bind) (seen seen' : List Name) (ms : List ℕ) : Type 0 where
  pub added : List Bind
  pub adds : Adds names names' added seen seen' (all_mentions ps)
  pub typed : MatchesAll a b env ps seen added ms

-- and in a loop
pub record InOrderFirst (a b : Parts) (env : List Entry) (all left : List Pattern) (names names' : List Bind) (seen seen' : List Name) (ms : List ℕ) : Type 0 where
  pub added : List Bind
  pub mentions : List Name
  pub adds : Adds names names' added seen seen' mentions
  pub mentioned : all_mentions all ≡ mentions ++ all_mentions left
  pub typed : MatchesFirst a b env all left seen seen' added ms

-- the end of a row whose patterns are matched: its type, and what is asked besides; it binds no name of its own
abbrev pub EndsPatterns : (a b : Parts) → List Entry → (Context → ℕ → List Condition) → List Pattern → List ℕ → (m : ℕ) → Type 0
EndsPatterns a b env asks ps ms m = is_aloud a.telling ≡ true → (F : Frame) (scope : Scope) (G : Letters) (n : ℕ) → scope.own n ≡ true → Surrounds as_declared F (sight a) G env scope → AllMean F (sight a) G (types_at ps) ms →
    RowCarried F scope (λ c. asks c n) (sight a) G (sight b) n m

-- what [ p; p ] asks once its patterns are matched
abbrev pub list_asks : List Pattern → Context → ℕ → List Condition
list_asks ps c n = ask_all n 0 (each_has c (first_type c n ps) (behind_first ps)) ++ same (type_at c n) (list_type (first_type c n ps)) ∷ []

-- what p :: p asks once its patterns are matched
abbrev pub cons_asks : Pattern → Pattern → Context → ℕ → List Condition
cons_asks p q c n = ask n 0 q.at (equal (type_at c q.node) (list_type (type_at c p.node))) ++ same (type_at c n) (list_type (type_at c p.node)) ∷ []

-- the first of some patterns were asked to have a type, and some are left, whose nodes are these
pub record EqualFirst (F : Frame) (scope : Scope) (a : Sight) (G : Letters) (b : Sight) (n : ℕ) (t : Choice → Typ) (all left : List Pattern) (nodes : List ℕ) : Type 0 where
  pub done : Asks
  pub k : ℕ
  pub carried : Carried F scope done a G b G
  pub asks : (c : Context) → ask_all n 0 (each_has c (t c.chosen) all) ≡ done c ++ ask_all n k (each_has c (t c.chosen) left)
  pub means : AllMean F b G (types_at left) nodes

-- the demand that each of some patterns, whose nodes these are, has a type
abbrev pub AsksEach : (a b : Parts) → List Entry → List Pattern → (nodes : List ℕ) → (wanted : ℕ) → Type 0
AsksEach a b env ps nodes wanted = is_aloud a.telling ≡ true → (F : Frame) (scope : Scope) (G : Letters) (n : ℕ) (t : Choice → Typ) → scope.own n ≡ true → Surrounds as_declared F (sight a) G env scope → AllMean F (sight a) G (types_at ps) nodes → Means F (sight a) G t wanted →
    Carried F scope (λ c. ask_all n 0 (each_has c (t c.chosen) ps)) (sight a) G (sight b) G

-- the same in a loop
abbrev pub AsksEachFirst : (a b : Parts) → List Entry → (all left : List Pattern) → (nodes left_nodes : List ℕ) → (wanted : ℕ) → Type 0
AsksEachFirst a b env all left nodes left_nodes wanted = is_aloud a.telling ≡ true → (F : Frame) (scope : Scope) (G : Letters) (n : ℕ) (t : Choice → Typ) → scope.own n ≡ true → Surrounds as_declared F (sight a) G env scope → AllMean F (sight a) G (types_at all) nodes →
    Means F (sight a) G t wanted → EqualFirst F scope (sight a) G (sight b) n t all left left_nodes
