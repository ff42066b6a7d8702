-- What single calls do to a state.
use Rattle.std.specs.Prelude.{◌≡◌, ◌⊎◌, ℕ, ◌&&◌, ◌==◌, Bool, true, false, List, [], ◌∷◌, ◌++◌, Some, None, if◌then◌else◌}
use Rattle.tree_model.specs.Trees.{Place}
use Rattle.signature_model.specs.Declarations.{Name}
use Rattle.env_table.specs.declared.faults.FaultKind.{FaultKind}
use Rattle.env_table.specs.declared.entries.Entry.{Entry}
use Rattle.typing_conditions.specs.Sights.{Report, AreScopesIn, Sight}

-- only the nodes change
pub record OnlyNodes (a b : Sight) : Type 0 where
  pub types : (i p : ℕ) → b.types i p ≡ a.types i p
  pub noted : (i p : ℕ) → a.noted i p ≡ true → b.noted i p ≡ true
  pub scopes : AreScopesIn a.scopes b.scopes
  pub written : (x : Name) → b.written x ≡ a.written x
  pub reports : b.reports ≡ a.reports
  pub aloud : b.aloud ≡ a.aloud
  pub item : b.item ≡ a.item
  pub level : b.level ≡ a.level
  pub fixed : b.fixed ≡ a.fixed

-- a demand is reported once, with this kind and message at this place
pub record Tells (a b : Sight) (at : Place) (kind : FaultKind) (message : List ℕ) : Type 0 where
  pub report : Report
  pub reports : b.reports ≡ a.reports ++ report ∷ []
  pub place : report.at ≡ at
  pub is_kind : report.kind ≡ kind
  pub says : report.message ≡ message

-- nodes, and what is recorded, are as before
pub record OnlyReports (a b : Sight) : Type 0 where
  pub nodes : b.nodes ≡ a.nodes
  pub types : (i p : ℕ) → b.types i p ≡ a.types i p
  pub noted : (i p : ℕ) → a.noted i p ≡ true → b.noted i p ≡ true
  pub scopes : AreScopesIn a.scopes b.scopes
  pub written : (x : Name) → b.written x ≡ a.written x
  pub aloud : b.aloud ≡ a.aloud
  pub item : b.item ≡ a.item
  pub level : b.level ≡ a.level
  pub fixed : b.fixed ≡ a.fixed

-- a node is recorded for a number of the item, for which nothing was noted, with the names in scope
pub record Records (a b : Sight) (p m : ℕ) (env : List Entry) : Type 0 where
  pub none : a.types a.item p ≡ None
  pub types : (i q : ℕ) → b.types i q ≡ (if a.item == i && p == q then Some m else a.types i q)
  pub fresh : a.noted a.item p ≡ false
  pub now : b.noted a.item p ≡ true
  pub noted : (i q : ℕ) → a.noted i q ≡ true → b.noted i q ≡ true
  pub scopes : AreScopesIn a.scopes b.scopes
  pub scope : b.scopes a.item p ≡ Some env
  pub written : (x : Name) → b.written x ≡ a.written x
  pub nodes : b.nodes ≡ a.nodes
  pub reports : b.reports ≡ a.reports
  pub aloud : b.aloud ≡ a.aloud
  pub item : b.item ≡ a.item
  pub level : b.level ≡ a.level
  pub fixed : b.fixed ≡ a.fixed

-- a demand that is kept isn't reported, and one that isn't is
abbrev pub IsTold : Sight → Sight → Place → FaultKind → (message : List ℕ) → Bool → Type 0
IsTold a b at kind message true = b.reports ≡ a.reports
IsTold a b at kind message false = Tells a b at kind message

-- a new type variable is written, for which a node stands; only the nodes change besides
pub record Writes (a b : Sight) (x : Name) (m : ℕ) : Type 0 where
  pub none : a.written x ≡ None
  pub now : b.written x ≡ Some m
  pub others : (y : Name) (n : ℕ) → b.written y ≡ Some n → ((y ≡ x) × (n ≡ m)) ⊎ (a.written y ≡ Some n)
  pub before : (y : Name) (n : ℕ) → a.written y ≡ Some n → b.written y ≡ Some n
  pub types : (i p : ℕ) → b.types i p ≡ a.types i p
  pub noted : (i p : ℕ) → a.noted i p ≡ true → b.noted i p ≡ true
  pub scopes : AreScopesIn a.scopes b.scopes
  pub reports : b.reports ≡ a.reports
  pub aloud : b.aloud ≡ a.aloud
  pub item : b.item ≡ a.item
  pub level : b.level ≡ a.level
  pub fixed : b.fixed ≡ a.fixed

-- only the level changes
pub record OnlyLevel (a b : Sight) : Type 0 where
  pub nodes : b.nodes ≡ a.nodes
  pub types : (i p : ℕ) → b.types i p ≡ a.types i p
  pub noted : (i p : ℕ) → a.noted i p ≡ true → b.noted i p ≡ true
  pub scopes : AreScopesIn a.scopes b.scopes
  pub written : (x : Name) → b.written x ≡ a.written x
  pub reports : b.reports ≡ a.reports
  pub aloud : b.aloud ≡ a.aloud
  pub item : b.item ≡ a.item
  pub fixed : b.fixed ≡ a.fixed
