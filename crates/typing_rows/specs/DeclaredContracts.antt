-- What functions that read type expressions of a declaration settle.
use Rattle.std.specs.Prelude.{◌≡◌, ◌==◌, ℕ, true, List, [], ◌∷◌, ◌++◌, length, Option, Some, None, if◌then◌else◌}
use Rattle.token_model.specs.Kinds.{Tok}
use Rattle.type_model.specs.Types.{Typ, types_of}
use Rattle.signature_model.specs.Declarations.{Name}
use Rattle.signature_model.specs.Changes.{argument}
use Rattle.signature_model.specs.Matching.{used}
use Rattle.typing_model.specs.Demands.{Condition, same, test, arity}
use Rattle.typing_model.specs.Contexts.{Context, type_at, is_kept, ask, unresolved, filled_at}
use Rattle.typing_model.specs.Parts.{TypeExpression, place_of}
use Rattle.typing_model.specs.TypeExpressions.{read_all, nodes_of, types_of_nodes}
use Rattle.env_table.specs.declared.entries.Declaration.{Declaration}
use Rattle.env_table.specs.declared.entries.Entry.{Entry}
use Rattle.typing_state.specs.declared.parts.Parts.{Parts}
use Rattle.typing_conditions.specs.Sights.{Sight}
use Rattle.typing_conditions.specs.Carrying.{Asks}
use Rattle.typing_steps.specs.States.{is_aloud, sight}
use Rattle.typing_rows.specs.Declaring.{declared_in}
use Rattle.typing_rows.specs.Settled.{Before, Around, GivesAll, SettledTo, AllSettled}

-- Where faults are reported, a call settles these conditions of a type expression with the node n, behind whatever stands before it.
abbrev pub SettlesTo : (a b : Parts) → List Entry → List Name → Asks → (n : ℕ) → Type 0
SettlesTo a b env names asks n = is_aloud a.telling ≡ true → (B : Before) → Around env names B → SettledTo B asks (sight a) (sight b) n

-- the same of several type expressions
abbrev pub SettlesAll : (a b : Parts) → List Entry → List Name → Asks → (ns ms : List ℕ) → Type 0
SettlesAll a b env names asks ns ms = is_aloud a.telling ≡ true → (B : Before) → Around env names B → AllSettled B asks (sight a) (sight b) ns ms

-- the first ones are settled, and some are left
pub record FirstSettled (B : Before) (a b : Sight) (all left : List TypeExpression) (ms : List ℕ) : Type 0 where
  pub done : Asks
  pub nodes : List ℕ
  pub read : AllSettled B done a b nodes ms
  pub asks : (c : Context) → read_all c all ≡ done c ++ read_all c left
  pub gives : nodes_of all ≡ nodes ++ nodes_of left

-- the same in a loop
abbrev pub SettlesFirst : (a b : Parts) → List Entry → List Name → (all left : List TypeExpression) → List ℕ → Type 0
SettlesFirst a b env names all left ms = is_aloud a.telling ≡ true → (B : Before) → Around env names B → FirstSettled B (sight a) (sight b) all left ms

-- the end of a type expression with the node n, once the nodes ns of its parts have one type each
abbrev pub SettlesEnd : (a b : Parts) → List Entry → List Name → Asks → (ns ms : List ℕ) → (n : ℕ) → Type 0
SettlesEnd a b env names asks ns ms n = is_aloud a.telling ≡ true → (B : Before) → Around env names B → (types : List Typ) → GivesAll B.fixes ns types → length ns ≡ length ms → SettledTo B asks (sight a) (sight b) n

-- what the definitions ask of the name t of a type over the nodes ns, by the arity and the type of its declaration
abbrev pub declared_by : Context → ℕ → Tok → List ℕ → ℕ → Typ → List Condition
declared_by c n t ns k u =
    ask n 1 (place_of t) (test (arity t.name k (length ns)) (k == length ns)) ++ (if is_kept c n 1 then same (type_at c n) (used (argument (types_of (types_of_nodes c ns))) (filled_at c n) u) ∷ [] else unresolved c n)

-- Where faults are reported, a call settles what the definitions ask of the name t of a type that has this declaration, over arguments; where it has none nothing is reported.
abbrev pub SettlesDeclared : Option Declaration → (a b : Parts) → List Name → Tok → List ℕ → Type 0
SettlesDeclared None a b names t ms = (sight b).reports ≡ (sight a).reports
SettlesDeclared (Some d) a b names t ms = is_aloud a.telling ≡ true → (B : Before) (n : ℕ) (ns : List ℕ) (types : List Typ) (u : Typ) → B.names ≡ names → GivesAll B.fixes ns types → length ns ≡ length ms →
    SettledTo B (λ c. declared_by c n t ns d.arity u) (sight a) (sight b) n

-- the same of what is found
abbrev pub SettlesNamed : Option Entry → (a b : Parts) → List Name → Tok → List ℕ → Type 0
SettlesNamed None a b names t ms = (sight b).reports ≡ (sight a).reports
SettlesNamed (Some x) a b names t ms = SettlesDeclared (declared_in x.what) a b names t ms
