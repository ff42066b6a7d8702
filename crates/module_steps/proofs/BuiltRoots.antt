-- How the built-in types are declared.
use Rattle.std.proofs.Common.{◌≡◌, ◌∙◌, ℕ, ◌<◌, List, [], ◌∷◌, length, refl, sym, ap, subst, arith}
use Rattle.std.specs.Prelude.{All}
use Rattle.type_model.specs.Types.{Path}
use Rattle.type_nodes.specs.Nodes.{Node, Var, Tuple, Con, IsNode, IsSound}
use Rattle.type_nodes.specs.States.{State}
use Rattle.type_nodes.specs.Changes.{Makes}
use Rattle.type_nodes.proofs.Lists.{length-snoc}
use Rattle.level_unify.specs.Generalising.{Generalised}
use Rattle.env_table.specs.declared.entries.Declaration.{Declaration}
use Rattle.env_table.specs.declared.entries.Entry.{Entry}
use Rattle.env_table.specs.declared.entries.Shape.TheVariants as shape
use Rattle.typing_model.specs.BuiltIns.{built_in_origin}
use Rattle.typing_state.specs.declared.built_ins.BuiltIn.{BuiltIn}
use Rattle.typing_state.specs.declared.built_ins.BuiltIn.TheVariants as built
use Rattle.typing_state.specs.BuiltIns.{number_of}
use Rattle.typing_state.specs.Goes.{Goes, OnlyStore}
use Rattle.typing_state.specs.Types.{any_scope, level_for}
use Rattle.typing_state.specs.declared.parts.Parts.{Parts}
use Rattle.first_laws.specs.Built.{arity_of, MakesRoot, alone, over_one, HasPath, DeclaresBuiltIn, EntersAll}
use Rattle.first_laws.proofs.Roots.{all_one, all_two}

made_inside : (old new : State) (n : ℕ) (c : Node) → Makes old new n c → n < length new.nodes
made_inside old new n c made = let a = made.added.number in let b = ap length made.added.nodes ∙ length-snoc old.nodes c in omega (arith, a, b)

-- a type without parameters has one root, its constructor
pub root_alone : {path : Path} {name : List ℕ} {old new : State} {r n : ℕ} (own : Path) → own ≡ path → n ≡ 0 → Makes old new r (Con own name []) → MakesRoot path old new r n
root_alone {path} {name} {old} {new} {r} own is none made =
    subst (λ k. MakesRoot path old new r k) (sym none) (alone name (subst (λ p. Makes old new r (Con p name [])) is made))

-- only lists have a parameter
one_parameter : (w : BuiltIn) → (arity_of w ≡ 0 → ⊥) → arity_of w ≡ 1
one_parameter built.Int none = absurd (none refl)
one_parameter built.Char none = absurd (none refl)
one_parameter built.Str none = absurd (none refl)
one_parameter built.Float none = absurd (none refl)
one_parameter built.Unit none = absurd (none refl)
one_parameter built.Bool none = absurd (none refl)
one_parameter built.Exn none = absurd (none refl)
one_parameter built.List none = refl

-- lists have the root over one parameter
pub root_over_one : (w : BuiltIn) {path : Path} {name : List ℕ} {old first second new : State} {v m r level : ℕ} (own : Path) → own ≡ path → level ≡ 1 → (arity_of w ≡ 0 → ⊥) → Makes old first v (Var (level_for level) any_scope) →
    (All (IsNode first.nodes) (v ∷ []) → Makes first second m (Con own name (v ∷ []))) → (All (IsNode second.nodes) (v ∷ m ∷ []) → Makes second new r (Tuple (v ∷ m ∷ []))) → MakesRoot path old new r (arity_of w)
root_over_one w {path} {name} {old} {first} {second} {new} {v} {m} {r} {level} own is at not var con tuple =
    let one : Makes old first v (Var 1 any_scope) = subst (λ l. Makes old first v (Var (level_for l) any_scope)) at var in
    let two : Makes first second m (Con own name (v ∷ [])) = con (all_one (IsNode first.nodes) v (made_inside old first v (Var 1 any_scope) one)) in
    let v_in = made_inside old first v (Var 1 any_scope) one in
    let m_in = made_inside first second m (Con own name (v ∷ [])) two in
    let a = two.added.number in
    let three = tuple (all_two (IsNode second.nodes) v m (omega (arith, v_in, m_in, a)) m_in) in
    subst (λ k. MakesRoot path old new r k) (sym (one_parameter w not)) (over_one name v m first second one (subst (λ p. Makes first second m (Con p name (v ∷ []))) is two) three)

-- a root that was made is a node
root_inside : {path : Path} {old new : State} {r n : ℕ} → MakesRoot path old new r n → r < length new.nodes
root_inside {path} {old} {new} {r} (alone name made) = made_inside old new r (Con path name []) made
root_inside {path} {old} {new} {r} (over_one name v m first second one two three) = made_inside second new r (Tuple (v ∷ m ∷ [])) three

-- the level in which a call is made isn't among what stays
pub one_level_in : (a b : Parts) (i j : ℕ) → Goes (record a { level = i }) b → Goes a (record b { level = j })
one_level_in a b i j g = record { store = g.store; types = g.types; faults = g.faults; index = g.index; recorded = g.recorded; item = g.item; telling = g.telling; constants = g.constants }

-- the declaration of a built-in type, whose root is made one level further in and then closed
pub built_in_declared : (a b c : Parts) (w : BuiltIn) (d : Declaration) (i j : ℕ) → a.level ≡ 0 → i ≡ 1 → j ≡ 0 → (i ≡ 1 → MakesRoot (built_in_origin (number_of w)) a.store b.store d.root.0 (arity_of w)) → OnlyStore (record a { level = i }) b →
    (IsNode b.store.nodes d.root.0 → Generalised b.store.nodes c.store.nodes d.root.0 j) → IsSound c.store.nodes → OnlyStore (record b { level = j }) c → d.arity ≡ arity_of w → HasPath d.origin (built_in_origin (number_of w)) → HasPath d.defines (built_in_origin (number_of w)) → d.shape ≡ shape.Opaque →
    DeclaresBuiltIn a c w d
built_in_declared a b c w d i j level one zero made inner closed sound rest arity origin defines opaque =
    let root = made one in
    record {
      between = b.store;
      root = root;
      closed = subst (λ l. Generalised b.store.nodes c.store.nodes d.root.0 l) zero (closed (root_inside root));
      sound = sound;
      rest = record {
        index = rest.index ∙ inner.index;
        faults = rest.faults ∙ inner.faults;
        written = rest.written ∙ inner.written;
        item = rest.item ∙ inner.item;
        level = rest.level ∙ zero ∙ sym level;
        telling = rest.telling ∙ inner.telling;
        constants = rest.constants ∙ inner.constants;
      };
      arity = arity;
      origin = origin;
      defines = defines;
      shape = opaque;
    }

-- nothing is recorded where built-in types are declared
pub entered_index : (ws : List BuiltIn) (a b : Parts) (before env : List Entry) → EntersAll ws a before b env → b.index ≡ a.index
entered_index [] a b before env e = ap (λ (p : Parts). p.index) e.0
entered_index (w ∷ ws) a b before env e = entered_index ws e.0 b (e.1 ∷ before) env e.3 ∙ e.2.declared.rest.index

-- and nothing is reported
pub entered_faults : (ws : List BuiltIn) (a b : Parts) (before env : List Entry) → EntersAll ws a before b env → b.faults ≡ a.faults
entered_faults [] a b before env e = ap (λ (p : Parts). p.faults) e.0
entered_faults (w ∷ ws) a b before env e = entered_faults ws e.0 b (e.1 ∷ before) env e.3 ∙ e.2.declared.rest.faults
