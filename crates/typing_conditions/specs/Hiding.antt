-- Which of the letters that are hidden are known to belong to one row alone, and what follows for their nodes.
use Rattle.std.specs.Prelude.{◌≡◌, ◌⊎◌, ℕ, ◌^◌, ◌/◌, ◌%◌, ◌<◌, ◌==◌, ◌&&◌, ◌||◌, not, Bool, true, false, List, [], ◌∷◌, ◌++◌, slice_get, Option, Some, None, if◌then◌else◌}
use Rattle.type_model.specs.Types.{Path}
use Rattle.type_model.specs.Origins.{same_path}
use Rattle.typing_model.specs.Contexts.{Choice}
use Rattle.type_nodes.specs.Nodes.{Node}
use Rattle.type_nodes.specs.Readings.{Types}
use Rattle.typing_conditions.specs.Sights.{AreScopesIn, Sight, Key, own, letter, filled, without_unknown, doubtful, Letters, AreGiven, AreNodes, number_in}

-- a key without what it says of unknown types and of doubt
abbrev pub plain_key : Key → Key
plain_key (own n) = own n
plain_key (letter n k) = letter n k
plain_key (filled n o) = filled n o
plain_key (without_unknown key) = plain_key key
plain_key (doubtful key) = plain_key key

-- whether a key is for the type of a node
abbrev pub is_own : ℕ → Key → Bool
is_own n (own m) = n == m
is_own n (letter m j) = false
is_own n (filled m p) = false
is_own n (without_unknown key) = false
is_own n (doubtful key) = false

-- whether it is for a letter of a row
abbrev pub is_letter : ℕ → ℕ → Key → Bool
is_letter n k (own m) = false
is_letter n k (letter m j) = n == m && k == j
is_letter n k (filled m p) = false
is_letter n k (without_unknown key) = false
is_letter n k (doubtful key) = false

-- whether it is for what an unknown type stands for at a node
abbrev pub is_filled : ℕ → Path → Key → Bool
is_filled n o (own m) = false
is_filled n o (letter m j) = false
is_filled n o (filled m p) = n == m && same_path o p
is_filled n o (without_unknown key) = false
is_filled n o (doubtful key) = false

-- whether two plain keys are one
abbrev pub same_key : Key → Key → Bool
same_key (own n) z = is_own n z
same_key (letter n k) z = is_letter n k z
same_key (filled n o) z = is_filled n o z
same_key (without_unknown key) z = false
same_key (doubtful key) z = false

-- whether a key says that its letter may be that of another row too
abbrev pub is_doubtful : Key → Bool
is_doubtful (own n) = false
is_doubtful (letter n k) = false
is_doubtful (filled n o) = false
is_doubtful (without_unknown key) = is_doubtful key
is_doubtful (doubtful key) = true

-- the number of the row of a key
abbrev pub row_of : Key → ℕ
row_of (own n) = n
row_of (letter n k) = n
row_of (filled n o) = n
row_of (without_unknown key) = row_of key
row_of (doubtful key) = row_of key

-- whether something is there, and is this number
abbrev pub is_some_of : ℕ → Option ℕ → Bool
is_some_of m None = false
is_some_of m (Some k) = m == k

-- whether nothing is there, or this number
abbrev pub is_none_or : ℕ → Option ℕ → Bool
is_none_or m None = true
is_none_or m (Some k) = m == k

-- letters with a doubt at those that don't pass a test
abbrev pub marked : (Key × ℕ → Bool) → Letters → Letters
marked test [] = []
marked test (x ∷ xs) = ((if test x then x.0 else doubtful x.0), x.1) ∷ marked test xs

-- the node that is recorded for a number among those of all items
abbrev pub recorded_for : Sight → ℕ → Option ℕ
recorded_for b n = b.types (n / 2 ^ 32) (n % 2 ^ 32)

-- whether anything was noted for it
abbrev pub is_noted_for : Sight → ℕ → Bool
is_noted_for b n = b.noted (n / 2 ^ 32) (n % 2 ^ 32)

-- whether it was noted for the first time from one state to another
abbrev pub is_new : Sight → Sight → ℕ → Bool
is_new a b n = not (is_noted_for a n) && is_noted_for b n

-- whether a letter is for the type of a node, and has the node that is recorded for it
abbrev pub typed_for : Sight → ℕ → Key → Bool
typed_for b m (own n) = is_some_of m (recorded_for b n)
typed_for b m (letter n k) = false
typed_for b m (filled n o) = false
typed_for b m (without_unknown key) = false
typed_for b m (doubtful key) = false

-- whether no other node is recorded for what a letter is for
abbrev pub fits_for : Sight → ℕ → Key → Bool
fits_for b m (own n) = is_none_or m (recorded_for b n)
fits_for b m (letter n k) = true
fits_for b m (filled n o) = true
fits_for b m (without_unknown key) = true
fits_for b m (doubtful key) = true

-- whether the letters with a key, as far as they are without doubt, have this node
abbrev pub have_node : Key → ℕ → Letters → Bool
have_node key m [] = true
have_node key m (x ∷ xs) = (is_doubtful x.0 || not (same_key key (plain_key x.0)) || m == x.1) && have_node key m xs

-- Whether a letter with this key and node is without doubt among others: it is for the type of a node, and has the node that is recorded for it; or its row was noted from
-- one state to another, and all with its key have its node.
abbrev pub sure_for : Sight → Sight → Letters → ℕ → Key → Bool
sure_for a b all m key = typed_for b m key || is_new a b (row_of key) && fits_for b m key && have_node key m all

-- the same of a letter
abbrev pub is_sure : Sight → Sight → Letters → Key × ℕ → Bool
is_sure a b all x = sure_for a b all x.1 (plain_key x.0)

-- what is noted and recorded in one state is so in another, with the same names in scope; and for what is noted the same is recorded
pub record Keeps (a b : Sight) : Type 0 where
  pub noted : (i p : ℕ) → a.noted i p ≡ true → b.noted i p ≡ true
  pub scopes : AreScopesIn a.scopes b.scopes
  pub same : (i p : ℕ) → a.noted i p ≡ true → b.types i p ≡ a.types i p
  pub recorded : (i p m : ℕ) → a.types i p ≡ Some m → b.types i p ≡ Some m

-- a node was noted from one state to another
pub record IsBetween (a b : Sight) (n : ℕ) : Type 0 where
  pub item : ℕ
  pub place : ℕ
  pub number : n ≡ number_in item place
  pub none : a.noted item place ≡ false
  pub now : b.noted item place ≡ true

-- a letter is for the type of a node, and has the node that is recorded for it
pub record HasTyped (b : Sight) (x : Key × ℕ) : Type 0 where
  pub item : ℕ
  pub place : ℕ
  pub key : plain_key x.0 ≡ own (number_in item place)
  pub at : b.types item place ≡ Some x.1

-- a letter for the same key, whatever it says of unknown types and of doubt, and with the same node is among some
pub record HasCopy (xs : Letters) (x : Key × ℕ) : Type 0 where
  pub place : ℕ
  pub entry : Key × ℕ
  pub at : slice_get xs place ≡ Some entry
  pub key : plain_key entry.0 ≡ plain_key x.0
  pub node : entry.1 ≡ x.1

-- numbers in an item are below 2^32, those of what is noted and of what is recorded
pub record ArePlaced (b : Sight) : Type 0 where
  pub noted : (i p : ℕ) → b.noted i p ≡ true → p < 2 ^ 32
  pub recorded : (i p m : ℕ) → b.types i p ≡ Some m → p < 2 ^ 32

-- letters without doubt that have one key have one node, and for the type of a node that of its type
pub record HaveOneNode (b : Sight) (xs : Letters) : Type 0 where
  pub letters : (j k : ℕ) (x y : Key × ℕ) → slice_get xs j ≡ Some x → slice_get xs k ≡ Some y → is_doubtful x.0 ≡ false → is_doubtful y.0 ≡ false → plain_key x.0 ≡ plain_key y.0 → x.1 ≡ y.1
  pub recorded : (i p m k : ℕ) (x : Key × ℕ) → b.types i p ≡ Some m → slice_get xs k ≡ Some x → is_doubtful x.0 ≡ false → plain_key x.0 ≡ own (number_in i p) → x.1 ≡ m

-- Hidden letters without doubt belong to rows that were noted from one state to another, or are for the types of recorded nodes; and those with one key have one node.
pub record Settles (a b : Sight) (xs : Letters) : Type 0 where
  pub belongs : (k : ℕ) (x : Key × ℕ) → slice_get xs k ≡ Some x → is_doubtful x.0 ≡ false → IsBetween a b (row_of x.0) ⊎ HasTyped b x
  pub one : ArePlaced b → HaveOneNode b xs

-- no letter is in doubt
abbrev pub NoneDoubtful : Letters → Type 0
NoneDoubtful xs = (k : ℕ) (x : Key × ℕ) → slice_get xs k ≡ Some x → is_doubtful x.0 ≡ false

-- Letters belong to the row n alone: none of them is in doubt or for the type of a node, and those with one key have one node.
pub record AreOfRow (n : ℕ) (xs : Letters) : Type 0 where
  pub row : (k : ℕ) (x : Key × ℕ) → slice_get xs k ≡ Some x → row_of x.0 ≡ n
  pub sure : NoneDoubtful xs
  pub other : (k : ℕ) (x : Key × ℕ) (h : ℕ) → slice_get xs k ≡ Some x → plain_key x.0 ≡ own h → ⊥
  pub one : (j k : ℕ) (x y : Key × ℕ) → slice_get xs j ≡ Some x → slice_get xs k ≡ Some y → plain_key x.0 ≡ plain_key y.0 → x.1 ≡ y.1

-- the same of a row's letters, whose places are below j
pub record AreBelow (n j : ℕ) (xs : Letters) : Type 0 where
  pub of_row : AreOfRow n xs
  pub below : (k i : ℕ) (x : Key × ℕ) → slice_get xs k ≡ Some x → plain_key x.0 ≡ letter n i → i < j

-- a letter is one of a row that is done: it is for the type of a node, and has the node that is recorded for it; or it is among those that are hidden
abbrev pub IsDone : Sight → Letters → Key × ℕ → Type 0
IsDone b hidden x = HasTyped b x ⊎ HasCopy hidden x

-- the same of each of some letters
pub record AreDone (b : Sight) (hidden ys : Letters) : Type 0 where
  pub sure : NoneDoubtful ys
  pub each : (k : ℕ) (x : Key × ℕ) → slice_get ys k ≡ Some x → IsDone b hidden x

-- Why a letter that is open over the row n, whose node is m, is without doubt once the row is done: it belongs to the row alone; it is for the type of the row's node, and
-- has the node m; or its own row is done.
pub data IsOwned (n m : ℕ) (b : Sight) (hidden mine : Letters) (x : Key × ℕ) : Type 0 where
  of_row : (k : ℕ) → slice_get mine k ≡ Some x → IsOwned n m b hidden mine x
  of_node : plain_key x.0 ≡ own n → x.1 ≡ m → IsOwned n m b hidden mine x
  of_done : IsDone b hidden x → IsOwned n m b hidden mine x

-- each of the letters ys is one of these, where `mine` are those of the row alone
pub record Owns (n m : ℕ) (b : Sight) (hidden ys : Letters) : Type 0 where
  pub sure : NoneDoubtful ys
  pub mine : Letters
  pub of_row : AreOfRow n mine
  pub each : (k : ℕ) (x : Key × ℕ) → slice_get ys k ≡ Some x → IsOwned n m b hidden mine x

-- The node n is noted from the state b to the state d, for the first time: with the type of the node m, or without a type.
pub record NotesRow (b d : Sight) (n m : ℕ) : Type 0 where
  pub place : ℕ
  pub number : n ≡ number_in b.item place
  pub keeps : Keeps b d
  pub none : b.noted b.item place ≡ false
  pub untyped : b.types b.item place ≡ None
  pub now : d.noted b.item place ≡ true
  pub only : (k : ℕ) → d.types b.item place ≡ Some k → k ≡ m

-- Letters that are closed from a state a to a state d, where others are hidden already, pass the test of those without doubt.
pub record AreSure (a d : Sight) (hidden ys : Letters) : Type 0 where
  pub sure : NoneDoubtful ys
  pub pass : (k : ℕ) (x : Key × ℕ) → slice_get ys k ≡ Some x → is_sure a d (hidden ++ ys) x ≡ true

-- Letters that stay open are among others: what is given for the others is given for them, and they are nodes where the others are.
pub record IsAmong (opens own : Letters) : Type 0 where
  pub given : (V : Types) (ch : Choice) → AreGiven own V ch → AreGiven opens V ch
  pub inside : (nodes : List Node) → AreNodes own nodes → AreNodes opens nodes
