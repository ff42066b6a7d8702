-- Types that a functor's body leaves open.
use Rattle.std.specs.Prelude.{◌≡◌, ◌⊎◌, ℕ, Bool, true, false, not, ◌&&◌, nat_eq, nat_le, nat_lt, List, [], ◌∷◌, length, Contains, Option, Some, None}
use Rattle.std.specs.declared.rc.Rc.{Rc}
use Rattle.std.specs.declared.alloc.Global.{Global}
use Rattle.text_terms.specs.declared.Span.{Span}
use Rattle.type_terms.specs.declared.types.NodeRef.{NodeRef}
use Rattle.type_nodes.specs.Nodes.{Node, IsNode, Var, Rigid, Link, Arrow, Tuple, Con, bound_level}
use Rattle.type_nodes.specs.Links.{reading}
use Rattle.level_unify.specs.Walks.{StandsIn}
use Rattle.env_table.specs.Views.{inside_sig, names_in}
use Rattle.env_table.specs.declared.entries.What.{What, out-What}
use Rattle.env_table.specs.declared.entries.Entry.{Entry}
use Rattle.env_table.specs.declared.entries.Sig.{Sig, out-Sig}
use Rattle.env_table.specs.declared.entries.Sig.TheOpen.{Sig-F, What-F}
use Rattle.env_table.specs.declared.entries.Template.{Template}
use Rattle.env_table.specs.declared.faults.FaultKind.TheVariants as fault
use Rattle.typing_state.specs.declared.parts.Parts.{Parts}
use Rattle.typing_state.specs.Goes.{faults_of, Told}
use Rattle.sig_template.specs.Ways.{sig_of}
use Rattle.module_steps.specs.Told.{open_text}

-- whether a cell is a variable that isn't bound, and whose scope is a node or behind it
abbrev pub open_cell : (scope : ℕ) → Option Node → Bool
open_cell scope None = false
open_cell scope (Some (Var level own)) = not (nat_eq level bound_level) && nat_le scope own
open_cell scope (Some Rigid) = false
open_cell scope (Some (Link m)) = false
open_cell scope (Some (Arrow a b)) = false
open_cell scope (Some (Tuple ms)) = false
open_cell scope (Some (Con path name ms)) = false

-- whether a node reads as such a variable
abbrev pub is_open : List Node → (scope n : ℕ) → Bool
is_open nodes scope n = nat_lt n (length nodes) && open_cell scope (reading nodes n)

-- where variables are open, exactly one fault tells it; where none is, nothing changes
abbrev pub ToldOpen : List NodeRef → (old new : Parts) → Span → Type 0
ToldOpen [] old new span = new ≡ old
ToldOpen (n ∷ ns) old new span = Told old.telling (faults_of old) (faults_of new) span fault.Closing open_text

-- A value of a signature with this type: a component of a structure, or a value of a module among them, or of a side of a functor.
pub data HasValue : Sig → NodeRef → Type 0 where
  component : {s : Sig} {e : Entry} {n : NodeRef} → Contains (names_in (inside_sig s)) e → out-What e.what ≡ What-F.Scheme n → HasValue s n
  in_module : {s : Sig} {e : Entry} {m : Rc Sig Global} {n : NodeRef} → Contains (names_in (inside_sig s)) e → out-What e.what ≡ What-F.Module m → HasValue m.value n → HasValue s n
  in_parameter : {s : Sig} {p b : Rc Template Global} {n : NodeRef} → out-Sig s ≡ Sig-F.Functor p b → HasValue (sig_of p.value) n → HasValue s n
  in_body : {s : Sig} {p b : Rc Template Global} {n : NodeRef} → out-Sig s ≡ Sig-F.Functor p b → HasValue (sig_of b.value) n → HasValue s n

-- a variable that is open stands in a type; in a number that is no node's none does
abbrev pub HasOpen : List Node → (scope : ℕ) → NodeRef → Type 0
HasOpen nodes scope n = IsNode nodes n.0 × ((v : ℕ) × StandsIn nodes v n.0 × (is_open nodes scope v ≡ true))

-- the same in the type of a value of a signature
abbrev pub HasOpenValue : List Node → (scope : ℕ) → Sig → Type 0
HasOpenValue nodes scope s = (n : NodeRef) × HasValue s n × HasOpen nodes scope n

-- the same in an entry: in a value's type, or in that of a value of a module
abbrev pub HasOpenWhat : {C E T : Type 0} → List Node → (scope : ℕ) → What-F Sig What C E T → Type 0
HasOpenWhat nodes scope (What-F.Scheme n) = HasOpen nodes scope n
HasOpenWhat nodes scope (What-F.Constructor d k) = ⊥
HasOpenWhat nodes scope (What-F.Exception c) = ⊥
HasOpenWhat nodes scope (What-F.Label d k) = ⊥
HasOpenWhat nodes scope (What-F.Type d) = ⊥
HasOpenWhat nodes scope (What-F.Module m) = HasOpenValue nodes scope m.value
HasOpenWhat nodes scope (What-F.ModuleType t) = ⊥

abbrev pub HasOpenEntry : List Node → (scope : ℕ) → Entry → Type 0
HasOpenEntry nodes scope e = HasOpenWhat nodes scope (out-What e.what)

-- the same in one of several entries
abbrev pub HasOpenAmong : List Node → (scope : ℕ) → List Entry → Type 0
HasOpenAmong nodes scope es = (e : Entry) × Contains es e × HasOpenEntry nodes scope e

-- a search where perhaps there is something adds something exactly where there is
pub record Finds (There : Type 0) (old new : List NodeRef) : Type 0 where
  pub none : new ≡ [] → (old ≡ []) × (There → ⊥)
  pub some : (new ≡ [] → ⊥) → old ≡ [] → There

-- no variable is open in a value of the body, and nothing changes; or one is, and exactly one fault tells it
abbrev pub Closes : Sig → (old new : Parts) → Span → (scope : ℕ) → Type 0
Closes body old new span scope = ((HasOpenValue old.store.nodes scope body → ⊥) × (new ≡ old))
    ⊎ (HasOpenValue old.store.nodes scope body × Told old.telling (faults_of old) (faults_of new) span fault.Closing open_text)
