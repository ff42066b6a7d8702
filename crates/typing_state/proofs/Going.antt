-- What was there stays, through one call after another.
use Rattle.std.proofs.Common.{◌≡◌, ◌≢◌, ◌∙◌, ◌++◌, [], ◌∷◌, List, ℕ, refl, sym, ap, subst, append_assoc, append-nil}
use Rattle.std.specs.Prelude.{Some, IfOk, OnOk, OnErr, Result, Ok, Err}
use Rattle.type_terms.specs.declared.types.NodeRef.{NodeRef}
use Rattle.std.specs.declared.alloc.AllocError.{AllocError}
use Rattle.type_nodes.specs.Nodes.{Node}
use Rattle.type_nodes.specs.Changes.{Makes, Quantifies}
use Rattle.level_unify.specs.Generalising.{Generalised}
use Rattle.level_unify.specs.Instances.{Instantiated}
use Rattle.text_terms.specs.declared.Span.{Span}
use Rattle.type_nodes.specs.States.{State, Keeps}
use Rattle.type_nodes.proofs.Trails.{keeps_refl, keeps_same, keeps_trans}
use Rattle.typed_index.specs.Seen.{seen_at}
use Rattle.level_unify.specs.Solutions.{Tightens}
use Rattle.level_unify.proofs.Tightening.{tightens_refl, tightens_same, tightens_trans, makes_tightens, quantifies_tightens, generalised_tightens, extends_tightens}
use Rattle.env_table.specs.declared.faults.Fault.{Fault}
use Rattle.env_table.specs.declared.faults.FaultKind.{FaultKind}
use Rattle.env_table.specs.declared.seen.Seen.{Seen}
use Rattle.typing_state.specs.declared.parts.Parts.{Parts}
use Rattle.typing_state.specs.declared.parts.Telling.{Telling}
use Rattle.typing_state.specs.declared.parts.Telling.TheVariants.{Aloud, Quiet}
use Rattle.typing_state.specs.Goes.{faults_of, Begins, Goes, Told, SameWork, OnlyStore, OnlyFaults, OnlyIndex}

pub begins_same : (old new : List Fault) → new ≡ old → Begins old new
begins_same old new e = ([], e ∙ sym (append-nil old))

pub begins_trans : (a b c : List Fault) → Begins a b → Begins b c → Begins a c
begins_trans a b c (more, p) (others, q) = (more ++ others, q ∙ ap (λ xs. xs ++ others) p ∙ append_assoc a more others)

-- a fault that is told stands behind the others
pub begins_told : (telling : Telling) (old new : List Fault) (span : Span) (kind : FaultKind) (message : List ℕ) → Told telling old new span kind message → Begins old new
begins_told Quiet old new span kind message e = begins_same old new e
begins_told Aloud old new span kind message (text, e, told) = (record { span = span; kind = kind; message = text } ∷ [], told)

pub goes_refl : (at : Parts) → Goes at at
goes_refl at = record {
  store = keeps_refl at.store;
  types = tightens_refl at.store.nodes;
  faults = begins_same (faults_of at) (faults_of at) refl;
  index = λ i p other. refl;
  recorded = λ i p seen is. is;
  item = refl;
  telling = refl;
  constants = refl;
}

-- one call after another
pub goes_trans : (a b c : Parts) → Goes a b → Goes b c → Goes a c
goes_trans a b c p q = record {
  store = keeps_trans a.store b.store c.store p.store q.store;
  types = tightens_trans a.store.nodes b.store.nodes c.store.nodes p.types q.types;
  faults = begins_trans (faults_of a) (faults_of b) (faults_of c) p.faults q.faults;
  index = λ i k other. q.index i k (λ e. other (e ∙ p.item)) ∙ p.index i k other;
  recorded = λ i k seen is. q.recorded i k seen (p.recorded i k seen is);
  item = q.item ∙ p.item;
  telling = q.telling ∙ p.telling;
  constants = q.constants ∙ p.constants;
}

pub goes_same : (old new : Parts) → new ≡ old → Goes old new
goes_same old new e = subst (Goes old) (sym e) (goes_refl old)

-- a call that changes the store alone
pub store_goes : (old new : Parts) → Keeps old.store new.store → Tightens old.store.nodes new.store.nodes → OnlyStore old new → Goes old new
store_goes old new k t s = record {
  store = k;
  types = t;
  faults = begins_same (faults_of old) (faults_of new) (ap (λ f. f.list.items) s.faults);
  index = λ i p other. ap (λ x. seen_at x i p) s.index;
  recorded = λ i p seen is. ap (λ x. seen_at x i p) s.index ∙ is;
  item = s.item;
  telling = s.telling;
  constants = s.constants;
}

-- where nothing changes, nothing but the faults does
pub only_faults_same : (old new : Parts) → new ≡ old → OnlyFaults old new
only_faults_same old new e = record {
  store = ap (λ p. p.store) e;
  index = ap (λ p. p.index) e;
  written = ap (λ p. p.written) e;
  item = ap (λ p. p.item) e;
  level = ap (λ p. p.level) e;
  telling = ap (λ p. p.telling) e;
  constants = ap (λ p. p.constants) e;
}

-- one call that changes the faults alone, and then another
pub only_faults_trans : (a b c : Parts) → OnlyFaults a b → OnlyFaults b c → OnlyFaults a c
only_faults_trans a b c p q = record {
  store = q.store ∙ p.store;
  index = q.index ∙ p.index;
  written = q.written ∙ p.written;
  item = q.item ∙ p.item;
  level = q.level ∙ p.level;
  telling = q.telling ∙ p.telling;
  constants = q.constants ∙ p.constants;
}

-- a call that tells faults
pub faults_goes : (old new : Parts) → Begins (faults_of old) (faults_of new) → OnlyFaults old new → Goes old new
faults_goes old new b s = record {
  store = keeps_same old.store new.store s.store;
  types = tightens_same old.store.nodes new.store.nodes (ap (λ x. x.nodes) s.store);
  faults = b;
  index = λ i p other. ap (λ x. seen_at x i p) s.index;
  recorded = λ i p seen is. ap (λ x. seen_at x i p) s.index ∙ is;
  item = s.item;
  telling = s.telling;
  constants = s.constants;
}

-- a call that records something for a node of the item
pub index_goes : (old new : Parts) → ((i p : ℕ) → i ≢ old.item → seen_at new.index i p ≡ seen_at old.index i p) → ((i p : ℕ) (seen : Seen) → seen_at old.index i p ≡ Some seen → seen_at new.index i p ≡ Some seen) → OnlyIndex old new → Goes old new
index_goes old new n r s = record {
  store = keeps_same old.store new.store s.store;
  types = tightens_same old.store.nodes new.store.nodes (ap (λ x. x.nodes) s.store);
  faults = begins_same (faults_of old) (faults_of new) (ap (λ f. f.list.items) s.faults);
  index = n;
  recorded = r;
  item = s.item;
  telling = s.telling;
  constants = s.constants;
}

-- calls at another level, or quietly
pub inner_goes : (old inner after new : Parts) → SameWork old inner → Goes inner after → SameWork after new → new.telling ≡ old.telling → Goes old new
inner_goes old inner after new p g q t = record {
  store = keeps_trans old.store inner.store new.store (keeps_same old.store inner.store p.store) (keeps_trans inner.store after.store new.store g.store (keeps_same after.store new.store q.store));
  types = tightens_trans old.store.nodes inner.store.nodes new.store.nodes (tightens_same old.store.nodes inner.store.nodes (ap (λ x. x.nodes) p.store))
      (tightens_trans inner.store.nodes after.store.nodes new.store.nodes g.types (tightens_same after.store.nodes new.store.nodes (ap (λ x. x.nodes) q.store)));
  faults = begins_trans (faults_of old) (faults_of inner) (faults_of new) (begins_same (faults_of old) (faults_of inner) (ap (λ f. f.list.items) p.faults))
      (begins_trans (faults_of inner) (faults_of after) (faults_of new) g.faults (begins_same (faults_of after) (faults_of new) (ap (λ f. f.list.items) q.faults)));
  index = λ i k other. ap (λ x. seen_at x i k) q.index ∙ g.index i k (λ e. other (e ∙ p.item)) ∙ ap (λ x. seen_at x i k) p.index;
  recorded = λ i k seen is. ap (λ x. seen_at x i k) q.index ∙ g.recorded i k seen (ap (λ x. seen_at x i k) p.index ∙ is);
  item = q.item ∙ g.item ∙ p.item;
  telling = t;
  constants = q.constants ∙ g.constants ∙ p.constants;
}

-- the same with another store
abbrev pub with_store : Parts → State → Parts
with_store at s = record { alloc = at.alloc; store = s; index = at.index; faults = at.faults; written = at.written; item = at.item; level = at.level; telling = at.telling; constants = at.constants }

pub only_store : (at : Parts) (s : State) → OnlyStore at (with_store at s)
only_store at s = record { index = refl; faults = refl; written = refl; item = refl; level = refl; telling = refl; constants = refl }

-- a call that changes the store
pub put_goes : (at : Parts) (s : State) → Keeps at.store s → Tightens at.store.nodes s.nodes → Goes at (with_store at s)
put_goes at s k t = store_goes at (with_store at s) k t (only_store at s)

-- one that fails
pub failed_tightens : (old new : State) → new ≡ old → Tightens old.nodes new.nodes
failed_tightens old new e = tightens_same old.nodes new.nodes (ap (λ x. x.nodes) e)

-- one that makes a node, or answers want of memory
pub made_goes : (r : Result NodeRef AllocError) (at : Parts) (s : State) (c : Node) → IfOk r (λ n. Makes at.store s n.0 c) → OnErr r (s ≡ at.store) → Keeps at.store s → Goes at (with_store at s)
made_goes (Ok n) at s c made failed k = put_goes at s k (makes_tightens at.store s n.0 c made)
made_goes (Err e) at s c made failed k = put_goes at s k (failed_tightens at.store s failed)

-- one that binds a variable
pub bound_goes : {A : Type 0} (r : Result A AllocError) (at : Parts) (s : State) (v : ℕ) → OnOk r (Quantifies at.store s v) → OnErr r (s ≡ at.store) → Keeps at.store s → Goes at (with_store at s)
bound_goes (Ok a) at s v bound failed k = put_goes at s k (quantifies_tightens at.store s v bound)
bound_goes (Err e) at s v bound failed k = put_goes at s k (failed_tightens at.store s failed)

-- one that binds the variables above a level
pub generalised_goes : {A : Type 0} (r : Result A AllocError) (at : Parts) (s : State) (n level : ℕ) → OnOk r (Generalised at.store.nodes s.nodes n level) → OnErr r (s ≡ at.store) → Keeps at.store s → Goes at (with_store at s)
generalised_goes (Ok a) at s n level bound failed k = put_goes at s k (generalised_tightens at.store.nodes s.nodes n level bound)
generalised_goes (Err e) at s n level bound failed k = put_goes at s k (failed_tightens at.store s failed)

-- one that makes an instance
pub instance_goes : (r : Result NodeRef AllocError) (at : Parts) (s : State) (n level : ℕ) → IfOk r (λ m. Instantiated at.store.nodes s.nodes n level m.0) → OnErr r (s ≡ at.store) → Keeps at.store s → Goes at (with_store at s)
instance_goes (Ok m) at s n level made failed k = put_goes at s k (extends_tightens at.store.nodes s.nodes made.extends)
instance_goes (Err e) at s n level made failed k = put_goes at s k (failed_tightens at.store s failed)
