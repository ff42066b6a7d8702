-- Instances of a node's type: types, or rigid variables, in place of its bound variables (Damas and Milner 1982).
use Rattle.std.specs.Prelude.{◌≡◌, ◌≢◌, ℕ, ◌<◌, ◌≤◌, ◌==◌, Bool, true, false, List, length, slice_get, Option, Some, None, if◌then◌else◌}
use Rattle.type_model.specs.Types.{Typ, occurs}
use Rattle.type_model.specs.Types.{Typ as type}
use Rattle.type_model.specs.Substitutions.{Subst, apply}
use Rattle.type_model.specs.Schemes.{Scheme, HasInstance}
use Rattle.type_model.specs.Origins.{rigid}
use Rattle.type_model.specs.Limits.{no_scope, IsUnder}
use Rattle.type_nodes.specs.Nodes.{Node, Var, Rigid, Link, Arrow, Tuple, Con, bound_level, IsClosed}
use Rattle.type_nodes.specs.Readings.{Types, IsReading}
use Rattle.level_unify.specs.Walks.{StandsIn}
use Rattle.level_unify.specs.Solutions.{Loose, HaveNoBound}
use Rattle.level_unify.specs.Limits.{FitsUnder}
use Rattle.level_unify.specs.Copies.{Extends}

-- whether a node, if there is one, is a bound variable
abbrev pub is_bound_var : Option Node → Bool
is_bound_var None = false
is_bound_var (Some (Var level scope)) = level == bound_level
is_bound_var (Some Rigid) = false
is_bound_var (Some (Link m)) = false
is_bound_var (Some (Arrow a b)) = false
is_bound_var (Some (Tuple ms)) = false
is_bound_var (Some (Con path name ms)) = false

-- whether a bound variable stands at a number
abbrev pub is_bound : List Node → ℕ → Bool
is_bound nodes n = is_bound_var (slice_get nodes n)

-- r's type as a scheme, whose own variables are the bound ones
abbrev pub scheme_at : List Node → Types → ℕ → Scheme
scheme_at nodes V r = record { body = V r; bound = is_bound nodes }

-- no bound variable occurs in a type
abbrev pub HasNoBoundVar : List Node → Typ → Type 0
HasNoBoundVar nodes x = (b : ℕ) → is_bound nodes b ≡ true → occurs b x ≡ false

-- the same types for the nodes of before
abbrev pub SameTypes : List Node → Types → Types → Type 0
SameTypes nodes V W = (n : ℕ) → n < length nodes → W n ≡ V n

-- U fits where V does, and gives the free variables the types that V gives them: the bound ones may have others
pub record IsVariant (nodes : List Node) (V U : Types) : Type 0 where
  pub loose : Loose nodes U
  pub free : (n level scope : ℕ) → slice_get nodes n ≡ Some (Var level scope) → level ≢ bound_level → U n ≡ V n

-- what U gives the bound variables of r keeps to a level
abbrev pub KeepsLevel : (ℕ → ℕ) → List Node → ℕ → ℕ → Types → Type 0
KeepsLevel L nodes r level U = (b : ℕ) → is_bound nodes b ≡ true → StandsIn nodes b r → IsUnder L level no_scope (U b)

-- Each node that was made is the copy of a node that stands in r and in which a bound variable stands, and no node has two copies.
pub record CopiesOnce (old new : List Node) (r : ℕ) : Type 0 where
  pub source : ℕ → ℕ
  pub stands : (m : ℕ) → length old ≤ m → m < length new → StandsIn old (source m) r
  pub bound : (m : ℕ) → length old ≤ m → m < length new → (b : ℕ) × (is_bound old b ≡ true) × StandsIn old b (source m)
  pub once : (m m' : ℕ) → length old ≤ m → m < length new → length old ≤ m' → m' < length new → source m ≡ source m' → m ≡ m'

-- What stands in r, and all that was made, has the parts of its nodes, and has the copy.
abbrev pub StaysInside : (old new : List Node) → (r m : ℕ) → Type 0
StaysInside old new r m = (F : ℕ → Bool) → IsClosed old F → F r ≡ true → ((n : ℕ) → length old ≤ n → F n ≡ true) → IsClosed new F × (F m ≡ true)

-- m is an instance of r with new variables of this level, and no bound variable stands in it: it has, at each reading, exactly the
-- instances of r's type in which no variable is bound; and where types keep to the levels of variables, those whose new types keep
-- to this one.
pub record Instantiated (old new : List Node) (r level m : ℕ) : Type 0 where
  pub inside : m < length new
  pub extends : Extends old new
  pub copies : CopiesOnce old new r
  pub within : StaysInside old new r m
  pub unbound : HaveNoBound new m m
  pub vars : (n l o : ℕ) → length old ≤ n → slice_get new n ≡ Some (Var l o) → (l ≡ level) × (o ≡ no_scope)
  pub reads : (V : Types) → IsReading new V → IsReading old V × HasInstance (scheme_at old V r) (V m) × HasNoBoundVar old (V m)
  pub read : (V : Types) (x : Typ) → IsReading old V → HasInstance (scheme_at old V r) x → HasNoBoundVar old x → (W : Types) × IsReading new W × SameTypes old V W × (W m ≡ x)
  pub fits : (L : ℕ → ℕ) (V : Types) → FitsUnder L new V → FitsUnder L old V × ((U : Types) × IsVariant old V U × KeepsLevel L old r level U × (V m ≡ U r))
  pub fitted : (L : ℕ → ℕ) (V U : Types) → FitsUnder L old V → IsVariant old V U → KeepsLevel L old r level U → (W : Types) × FitsUnder L new W × SameTypes old V W × (W m ≡ U r)

-- the rigid variables for the bound variables
abbrev pub rigid_for : List Node → (ℕ → ℕ) → Subst
rigid_for nodes image v = if is_bound nodes v then rigid (image v) else type.Var v

-- U gives each bound variable of r its rigid variable
abbrev pub IsRigid : List Node → ℕ → (ℕ → ℕ) → Types → Type 0
IsRigid nodes r image U = (b : ℕ) → is_bound nodes b ≡ true → StandsIn nodes b r → U b ≡ rigid (image b)

-- m is an instance of r with a new rigid variable for each bound variable, and no bound variable stands in it: at each reading it is r's type with these in their places.
pub record Frozen (old new : List Node) (r m : ℕ) : Type 0 where
  pub inside : m < length new
  pub extends : Extends old new
  pub copies : CopiesOnce old new r
  pub within : StaysInside old new r m
  pub unbound : HaveNoBound new m m
  pub image : ℕ → ℕ
  pub made : (b : ℕ) → is_bound old b ≡ true → StandsIn old b r → (length old ≤ image b) × (slice_get new (image b) ≡ Some Rigid)
  pub distinct : (b b' : ℕ) → is_bound old b ≡ true → StandsIn old b r → is_bound old b' ≡ true → StandsIn old b' r → image b ≡ image b' → b ≡ b'
  pub vars : (n l o : ℕ) → length old ≤ n → slice_get new n ≢ Some (Var l o)
  pub reads : (V : Types) → IsReading new V → IsReading old V × (V m ≡ apply (rigid_for old image) (V r))
  pub read : (V : Types) → IsReading old V → (W : Types) × IsReading new W × SameTypes old V W
  pub fits : (L : ℕ → ℕ) (V : Types) → FitsUnder L new V → FitsUnder L old V × ((U : Types) × IsVariant old V U × IsRigid old r image U × (V m ≡ U r))
  pub fitted : (L : ℕ → ℕ) (V : Types) → FitsUnder L old V → (W : Types) × FitsUnder L new W × SameTypes old V W
