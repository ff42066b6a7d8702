-- What the functions of cases carry.
use Rattle.std.specs.Prelude.{◌≡◌, ℕ, ◌+◌, true, List, [], ◌∷◌, ◌++◌, filter_map, Option, Some, None, option_map}
use Rattle.tree_model.specs.Trees.{Tree}
use Rattle.type_model.specs.Types.{Typ}
use Rattle.typing_model.specs.Demands.{Condition, equal}
use Rattle.typing_model.specs.Contexts.{Choice, Context, ask, type_at, with_names}
use Rattle.typing_model.specs.Parts.{Expression, Pattern, Case}
use Rattle.typing_model.specs.Expressions.{has_type, guard_asks, case_asks, later_cases}
use Rattle.row_parts.specs.Numbered.{Numbered, first_in, filled_in}
use Rattle.type_terms.specs.declared.types.NodeRef.{NodeRef}
use Rattle.env_table.specs.declared.entries.Entry.{Entry}
use Rattle.typing_state.specs.declared.parts.Parts.{Parts}
use Rattle.operand_laws.specs.Operands.{number_of, child_at, expression_of, pattern_of}
use Rattle.typing_conditions.specs.Sights.{Sight, Letters}
use Rattle.typing_conditions.specs.Frames.{Frame}
use Rattle.typing_conditions.specs.Meanings.{Means}
use Rattle.typing_conditions.specs.Carrying.{Asks, Scope, Carried, CarriedTo}
use Rattle.typing_conditions.specs.Hiding.{AreBelow, AreDone, Owns}
use Rattle.typing_conditions.specs.Surroundings.{Surrounds}
use Rattle.typing_steps.specs.States.{is_aloud, sight}
use Rattle.typing_steps.specs.Typing.{as_declared, TypesAny}
use Rattle.pattern_rows.specs.Bounds.{Bind, AllBound}
use Rattle.binding_rows.specs.CaseScopes.{names_added}

-- an operand of an item as a case, where it is one
abbrev pub case_of : ℕ → Numbered → Option Case
case_of i o = (child_at i 4 o).case

-- operands of an item as cases; a missing one is none
abbrev pub cases_of : ℕ → List Numbered → List Case
cases_of i os = filter_map (λ o. case_of i o) os

-- a case of an item, by its number and its operands
abbrev pub case_by : ℕ → ℕ → (pattern : Numbered) → (guard : Option Numbered) → (body : Numbered) → Case
case_by i n pattern guard body = record { node = number_of i n; pattern = pattern_of i pattern; guard = option_map (λ o. expression_of i o) guard; body = expression_of i body }

-- a node of an item as a case
abbrev pub case_over : ℕ → ℕ → Tree → Case
case_over i n t = case_by i n (filled_in n t 0) (first_in n t 2) (filled_in n t 4)

-- a type by the choice, where there is one
abbrev pub type_by : Choice → Option (Choice → Typ) → Option Typ
type_by ch type = option_map (λ (t : Choice → Typ). t ch) type

-- a node has a type, where there is one
abbrev pub MeansIf : Frame → Sight → Letters → Option (Choice → Typ) → Option ℕ → Type 0
MeansIf F a G None None = Unit {0}
MeansIf F a G None (Some m) = ⊥
MeansIf F a G (Some t) None = ⊥
MeansIf F a G (Some t) (Some m) = Means F a G t m

-- a body has the type of the bodies, where that is known
abbrev pub has_if_known : Context → ℕ → ℕ → Expression → Option Typ → List Condition
has_if_known c n k e None = []
has_if_known c n k e (Some t) = has_type c n k e t

-- what a case asks after its own number, by its parts
abbrev pub parts_of_case_ask : Context → ℕ → ℕ → Typ → Option Typ → Pattern → Option Expression → Expression → List Condition
parts_of_case_ask c n k subject result p guard body =
    let inner = with_names c p.names in
    p.matched c [] ++ ask n k p.at (equal (type_at c p.node) subject) ++ guard_asks inner n (k + 1) guard ++ body.typed inner ++ has_if_known c n (k + 2) body result

-- what cases ask, with demands from a number on, where the type of the bodies may be known; else the first body gives it
abbrev pub cases_from : Context → ℕ → ℕ → Typ → Option Typ → List Case → List Condition
cases_from c n k subject (Some t) xs = later_cases c n k subject t xs
cases_from c n k subject None [] = []
cases_from c n k subject None (x ∷ xs) = case_asks c n k subject None x ++ later_cases c n (k + 3) subject (type_at c x.body.node) xs

-- the type of the bodies once a body is typed
abbrev pub body_type : Option (Choice → Typ) → Expression → Choice → Typ
body_type None body = λ ch. ch.type_at body.node
body_type (Some t) body = t

-- the type of the bodies after cases, where there is one
abbrev pub bodies_type : Option (Choice → Typ) → List Case → Option (Choice → Typ)
bodies_type (Some t) xs = Some t
bodies_type None [] = None
bodies_type None (x ∷ xs) = Some (λ ch. ch.type_at x.body.node)

-- the same for the row of a node: where there is no body, any type, which is its letter 1
abbrev pub result_type : ℕ → Option (Choice → Typ) → Choice → Typ
result_type n None = λ ch. ch.letter n 1
result_type n (Some t) = t

-- A pattern with names of its own, which has a type: what both ask is carried, with the letters that it opens, and these names stand for those that it binds.
pub record MatchedAs (F : Frame) (scope : Scope) (a : Sight) (G : Letters) (b : Sight) (p : Pattern) (n k : ℕ) (t : Choice → Typ) (added : List Bind) : Type 0 where
  pub own : Letters
  pub carried : Carried F scope (λ c. p.matched c [] ++ ask n k p.at (equal (type_at c p.node) (t c.chosen))) a G b (own ++ G)
  pub done : AreDone b carried.hidden own
  pub names : AllBound F b (own ++ G) p.names added

-- the same of a call, where faults are reported
abbrev pub MatchesAs : (a b : Parts) → List Entry → Pattern → List Bind → (wanted : ℕ) → Type 0
MatchesAs a b env p added wanted = is_aloud a.telling ≡ true → (F : Frame) (scope : Scope) (G : Letters) (n k : ℕ) (t : Choice → Typ) → scope.own n ≡ true → Surrounds as_declared F (sight a) G env scope → Means F (sight a) G t wanted →
    MatchedAs F scope (sight a) G (sight b) p n k t added

-- the same with the names in scope after it
pub record MatchesWithin (a b : Parts) (env inner : List Entry) (p : Pattern) (wanted : ℕ) : Type 0 where
  pub added : List Bind
  pub scope : inner ≡ names_added added env
  pub typed : MatchesAs a b env p added wanted

-- a guard is a bool, where there is one
abbrev pub TypesGuard : (a b : Parts) → List Entry → Option Expression → Type 0
TypesGuard a b env guard = is_aloud a.telling ≡ true → (F : Frame) (scope : Scope) (G : Letters) (n k : ℕ) → scope.own n ≡ true → Surrounds as_declared F (sight a) G env scope → Carried F scope (λ c. guard_asks c n k guard) (sight a) G (sight b) G

-- a body, which has the type of the bodies, where that is known; a node has the type of the bodies then
pub record BodyCarried (F : Frame) (scope : Scope) (a : Sight) (G : Letters) (b : Sight) (n k : ℕ) (result : Option (Choice → Typ)) (body : Expression) (m : ℕ) : Type 0 where
  pub carried : Carried F scope (λ c. body.typed c ++ has_if_known c n k body (type_by c.chosen result)) a G b G
  pub means : Means F b G (body_type result body) m

-- the same of a call; `bodies` is the node of the type of the bodies, where that is known
abbrev pub TypesBody : (a b : Parts) → List Entry → Expression → (bodies : Option ℕ) → (m : ℕ) → Type 0
TypesBody a b env body bodies m = is_aloud a.telling ≡ true → (F : Frame) (scope : Scope) (G : Letters) (n k : ℕ) (result : Option (Choice → Typ)) → scope.own n ≡ true → Surrounds as_declared F (sight a) G env scope → MeansIf F (sight a) G result bodies →
    BodyCarried F scope (sight a) G (sight b) n k result body m

-- a case by its parts: what they ask is carried, with letters of their own, and then a node has the type of the bodies
pub record PartsCarried (F : Frame) (scope : Scope) (a : Sight) (G : Letters) (b : Sight) (n k : ℕ) (subject : Choice → Typ) (result : Option (Choice → Typ)) (p : Pattern) (guard : Option Expression) (body : Expression) (m : ℕ) : Type 0 where
  pub own : Letters
  pub carried : Carried F scope (λ c. parts_of_case_ask c n k (subject c.chosen) (type_by c.chosen result) p guard body) a G b (own ++ G)
  pub done : AreDone b carried.hidden own
  pub means : Means F b (own ++ G) (body_type result body) m

-- the same of a call; `matched` is the node of the type of what is matched
abbrev pub TypesCaseParts : (a b : Parts) → List Entry → Pattern → Option Expression → Expression → (matched : ℕ) → (bodies : Option ℕ) → (m : ℕ) → Type 0
TypesCaseParts a b env p guard body matched bodies m = is_aloud a.telling ≡ true → (F : Frame) (scope : Scope) (G : Letters) (n k : ℕ) (subject : Choice → Typ) (result : Option (Choice → Typ)) → scope.own n ≡ true → Surrounds as_declared F (sight a) G env scope →
    Means F (sight a) G subject matched → MeansIf F (sight a) G result bodies → PartsCarried F scope (sight a) G (sight b) n k subject result p guard body m

-- the same, where there is a node of the type of the bodies then
abbrev pub TypesCasePartsTo : (a b : Parts) → List Entry → Case → (matched : ℕ) → (bodies now : Option ℕ) → Type 0
TypesCasePartsTo a b env x matched bodies now = (m : ℕ) × (now ≡ Some m) × TypesCaseParts a b env x.pattern x.guard x.body matched bodies m

-- a case: what it asks is carried, with letters of its own, and then a node has the type of the bodies
pub record CaseCarried (F : Frame) (scope : Scope) (a : Sight) (G : Letters) (b : Sight) (n k : ℕ) (subject : Choice → Typ) (result : Option (Choice → Typ)) (x : Case) (m : ℕ) : Type 0 where
  pub own : Letters
  pub carried : Carried F scope (λ c. case_asks c n k (subject c.chosen) (type_by c.chosen result) x) a G b (own ++ G)
  pub done : AreDone b carried.hidden own
  pub means : Means F b (own ++ G) (body_type result x.body) m

-- the same of a call
abbrev pub TypesCase : (a b : Parts) → List Entry → Case → (matched : ℕ) → (bodies : Option ℕ) → (m : ℕ) → Type 0
TypesCase a b env x matched bodies m = is_aloud a.telling ≡ true → (F : Frame) (scope : Scope) (G : Letters) (n k : ℕ) (subject : Choice → Typ) (result : Option (Choice → Typ)) → scope.own n ≡ true → Surrounds as_declared F (sight a) G env scope → Means F (sight a) G subject matched →
    MeansIf F (sight a) G result bodies → CaseCarried F scope (sight a) G (sight b) n k subject result x m

-- the same of an operand that may be no case: then nothing is asked, and the type of the bodies is what it was
abbrev pub TypesCaseIf : (a b : Parts) → List Entry → Option Case → (matched : ℕ) → (bodies now : Option ℕ) → Type 0
TypesCaseIf a b env None matched bodies now = (now ≡ bodies) × ((F : Frame) (scope : Scope) (G : Letters) → Carried F scope (λ c. []) (sight a) G (sight b) G)
TypesCaseIf a b env (Some x) matched bodies now = (m : ℕ) × (now ≡ Some m) × TypesCase a b env x matched bodies m

-- cases in order: what they ask is carried, with letters of their own, and then a node has the type of the bodies, where there is one
pub record CasesCarried (F : Frame) (scope : Scope) (a : Sight) (G : Letters) (b : Sight) (n : ℕ) (subject : Choice → Typ) (result : Option (Choice → Typ)) (xs : List Case) (bodies : Option ℕ) : Type 0 where
  pub own : Letters
  pub carried : Carried F scope (λ c. cases_from c n 0 (subject c.chosen) (type_by c.chosen result) xs) a G b (own ++ G)
  pub done : AreDone b carried.hidden own
  pub means : MeansIf F b (own ++ G) (bodies_type result xs) bodies

-- the same of a call; `known` is the node of the type of the bodies before it
abbrev pub TypesEachCase : (a b : Parts) → List Entry → List Case → (matched : ℕ) → (known bodies : Option ℕ) → Type 0
TypesEachCase a b env xs matched known bodies = is_aloud a.telling ≡ true → (F : Frame) (scope : Scope) (G : Letters) (n : ℕ) (subject : Choice → Typ) (result : Option (Choice → Typ)) → scope.own n ≡ true → Surrounds as_declared F (sight a) G env scope → Means F (sight a) G subject matched →
    MeansIf F (sight a) G result known → CasesCarried F scope (sight a) G (sight b) n subject result xs bodies

-- the first of some cases, and some are left, whose demands have numbers from k on; `now` is the type of the bodies so far
pub record CasesFirst (F : Frame) (scope : Scope) (a : Sight) (G : Letters) (b : Sight) (n : ℕ) (subject : Choice → Typ) (result : Option (Choice → Typ)) (all left : List Case) (bodies : Option ℕ) : Type 0 where
  pub done : Asks
  pub k : ℕ
  pub now : Option (Choice → Typ)
  pub own : Letters
  pub carried : Carried F scope done a G b (own ++ G)
  pub rows_done : AreDone b carried.hidden own
  pub means : MeansIf F b (own ++ G) now bodies
  pub asks : (c : Context) → cases_from c n 0 (subject c.chosen) (type_by c.chosen result) all ≡ done c ++ cases_from c n k (subject c.chosen) (type_by c.chosen now) left
  pub gives : bodies_type result all ≡ bodies_type now left

-- the same in a loop
abbrev pub TypesCasesFirst : (a b : Parts) → List Entry → (all left : List Case) → (matched : ℕ) → (known bodies : Option ℕ) → Type 0
TypesCasesFirst a b env all left matched known bodies = is_aloud a.telling ≡ true → (F : Frame) (scope : Scope) (G : Letters) (n : ℕ) (subject : Choice → Typ) (result : Option (Choice → Typ)) → scope.own n ≡ true → Surrounds as_declared F (sight a) G env scope → Means F (sight a) G subject matched →
    MeansIf F (sight a) G result known → CasesFirst F scope (sight a) G (sight b) n subject result all left bodies

-- The cases of a row, with letters of its own: what they ask is carried, and then a node has the type of the bodies, or any type. `owns`: its letters are of rows that are done, but
-- for letter 1 of the row; with the row's letter 0 besides, too.
pub record CasesTo (F : Frame) (scope : Scope) (a : Sight) (G : Letters) (b : Sight) (n : ℕ) (subject : Choice → Typ) (result : Option (Choice → Typ)) (xs : List Case) (m : ℕ) : Type 0 where
  pub own : Letters
  pub typed : CarriedTo F scope (λ c. cases_from c n 0 (subject c.chosen) (type_by c.chosen result) xs) a G b (own ++ G) (result_type n (bodies_type result xs)) m
  pub owns : (k : ℕ) (before : Letters) → AreBelow n 1 before → Owns n k b typed.carried.hidden (own ++ before)

-- the same of a call
abbrev pub TypesCases : (a b : Parts) → List Entry → List Case → (matched : ℕ) → (known : Option ℕ) → (m : ℕ) → Type 0
TypesCases a b env xs matched known m = is_aloud a.telling ≡ true → (F : Frame) (scope : Scope) (G : Letters) (n : ℕ) (subject : Choice → Typ) (result : Option (Choice → Typ)) → scope.own n ≡ true → Surrounds as_declared F (sight a) G env scope → Means F (sight a) G subject matched →
    MeansIf F (sight a) G result known → CasesTo F scope (sight a) G (sight b) n subject result xs m

-- the type of the bodies where there is one, and else any type
abbrev pub GivenOrAny : Option NodeRef → (a b : Parts) → NodeRef → Type 0
GivenOrAny None a b n = TypesAny a b n.0
GivenOrAny (Some ty) a b n = (n ≡ ty) × (b ≡ a)
