-- The choice that is read off a state, from the nodes that stand for what it chooses.
use Rattle.std.specs.Prelude.{◌≡◌, ℕ, ◌+◌, length, ◌<◌, ◌/◌, ◌%◌, ◌^◌, ◌==◌, Bool, true, false, List, [], ◌∷◌, slice_get, Option, Some, None, if◌then◌else◌}
use Rattle.type_model.specs.Types.{Typ, Var, Tuple, Nil, occurs}
use Rattle.std.specs.Option.{option_or}
use Rattle.signature_model.specs.Declarations.{Name}
use Rattle.typing_model.specs.Contexts.{Choice}
use Rattle.type_nodes.specs.Readings.{Types}
use Rattle.typing_conditions.specs.Sights.{Sight, Key, own, Letters, number_in}
use Rattle.typing_conditions.specs.Hiding.{plain_key, is_own, is_letter, is_filled, is_doubtful, ArePlaced}
use Rattle.typing_rows.specs.Settled.{Fixes}
use Rattle.binding_rows.specs.Outside.{Left}

-- the node of the first letter whose key passes a test
abbrev pub node_for : (Key → Bool) → Letters → Option ℕ
node_for test [] = None
node_for test (x ∷ xs) = if test (plain_key x.0) then Some x.1 else node_for test xs

-- the node that is recorded for a number among those of all items
abbrev pub recorded_at : Sight → ℕ → Option ℕ
recorded_at b n = b.types (n / 2 ^ 32) (n % 2 ^ 32)

-- the node of a type variable that is written in an item
abbrev pub written_at : ℕ → Name → List Left → Option ℕ
written_at i x [] = None
written_at i x (l ∷ ls) = if i == l.owner then l.written x else written_at i x ls

-- the type of a node that may be there, or else another
abbrev pub type_or : Types → Typ → Option ℕ → Typ
type_or V t None = t
type_or V t (Some m) = V m

-- the first of two that is there
abbrev pub first_there : Option ℕ → Option ℕ → Option ℕ
first_there None o = o
first_there (Some m) o = Some m

-- the type that is decided for a node, of two the first one
abbrev pub decided_in : ℕ → Fixes → Option Typ
decided_in n [] = None
decided_in n (f ∷ fs) = if n == f.0 then Some f.1 else decided_in n fs

-- the same among the declarations of all items
abbrev pub decided_at : ℕ → List Left → Option Typ
decided_at n [] = None
decided_at n (l ∷ ls) = option_or (decided_in n l.fixed) (decided_at n ls)

-- a type that may be there, or else another
abbrev pub or_type : Typ → Option Typ → Typ
or_type t None = t
or_type t (Some u) = u

-- The choice that has the types that are decided, those of what is recorded, of letters and of written type variables; every other number has a variable of its own, and a type variable that isn't written a closed type.
abbrev pub read_choice : Types → Sight → Letters → List Left → Choice
read_choice V b keys left = record {
  type_at = λ n. or_type (type_or V (Var (length b.nodes + n)) (first_there (recorded_at b n) (node_for (is_own n) keys))) (decided_at n left);
  letter = λ n k. type_or V (Var n) (node_for (is_letter n k) keys);
  filled = λ n o. type_or V (Var n) (node_for (is_filled n o) keys);
  written = λ i x. type_or V (Tuple Nil) (written_at i x left);
}

-- the items whose type variables were written are different ones
abbrev pub OwnersApart : List Left → Type 0
OwnersApart [] = Unit {0}
OwnersApart (l ∷ ls) = ((k : ℕ) (m : Left) → slice_get ls k ≡ Some m → (m.owner == l.owner) ≡ false) × OwnersApart ls

-- no declaration decided a type
abbrev pub NoneDecided : List Left → Type 0
NoneDecided [] = Unit {0}
NoneDecided (l ∷ ls) = (l.fixed ≡ []) × NoneDecided ls

-- The nodes whose types are decided have no other type: none of them is recorded with a type or has a letter, and each has one.
pub record DecidedAlone (b : Sight) (keys : Letters) (left : List Left) : Type 0 where
  pub recorded : (i p m : ℕ) → b.types i p ≡ Some m → decided_at (number_in i p) left ≡ None
  pub letters : (n k : ℕ) (x : Key × ℕ) → slice_get keys k ≡ Some x → plain_key x.0 ≡ own n → decided_at n left ≡ None
  pub one : (k : ℕ) (l : Left) → slice_get left k ≡ Some l → (j : ℕ) (f : ℕ × Typ) → slice_get l.fixed j ≡ Some f → decided_at f.0 left ≡ Some f.1

-- no variable stands in a type that is decided
abbrev pub AreClosed : List Left → Type 0
AreClosed left = (n : ℕ) (t : Typ) → decided_at n left ≡ Some t → (v : ℕ) → occurs v t ≡ false

-- Nodes that stand for one thing have one type: those of letters with the same key, and the one that is recorded for a node with those of its letters. Numbers in an item are below 2^32.
pub record AreOne (V : Types) (b : Sight) (keys : Letters) : Type 0 where
  pub letters : (j k : ℕ) (x y : Key × ℕ) → slice_get keys j ≡ Some x → slice_get keys k ≡ Some y → plain_key x.0 ≡ plain_key y.0 → V x.1 ≡ V y.1
  pub recorded : (i p m k : ℕ) (x : Key × ℕ) → b.types i p ≡ Some m → slice_get keys k ≡ Some x → plain_key x.0 ≡ own (number_in i p) → V x.1 ≡ V m
  pub places : (i p m : ℕ) → b.types i p ≡ Some m → p < 2 ^ 32

-- What is left of `AreOne` where letters without doubt have one node for one thing: doubtful ones of those that items left have the type of each letter with the same key, and of the node that is recorded.
pub record DoubtfulAreOne (V : Types) (b : Sight) (left : Letters) : Type 0 where
  pub doubted : (j k : ℕ) (x y : Key × ℕ) → slice_get left j ≡ Some x → slice_get left k ≡ Some y → is_doubtful x.0 ≡ true → plain_key x.0 ≡ plain_key y.0 → V x.1 ≡ V y.1
  pub doubted_recorded : (i p m k : ℕ) (x : Key × ℕ) → b.types i p ≡ Some m → slice_get left k ≡ Some x → is_doubtful x.0 ≡ true → plain_key x.0 ≡ own (number_in i p) → V x.1 ≡ V m
  pub places : ArePlaced b
