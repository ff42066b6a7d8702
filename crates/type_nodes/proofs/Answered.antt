-- What a call's answer says of the store after it, whatever the answer is.
use Rattle.std.proofs.Common.{◌≡◌, ℕ, sym, subst}
use Rattle.std.specs.Prelude.{All, Result, Ok, Err, IfOk, OnOk, OnErr}
use Rattle.std.specs.declared.alloc.AllocError.{AllocError}
use Rattle.type_terms.specs.declared.types.NodeRef.{NodeRef}
use Rattle.type_nodes.specs.Nodes.{Node, Var, Link, IsNode, IsPlainNode, Apart, parts}
use Rattle.type_nodes.specs.Links.{root, IsNoLink, IsVariable, ReadsAsComposite}
use Rattle.type_nodes.specs.Readings.{ReadAlike, SameReadings}
use Rattle.type_nodes.specs.States.{State, IsStore, Keeps}
use Rattle.type_nodes.specs.Changes.{Added, Replaced, Makes, Redirects, Relevels}
use Rattle.type_nodes.proofs.Trails.{sound_now, added_keeps, replaced_keeps, keeps_same}
use Rattle.type_nodes.proofs.Writes.{makes, makes_store, relevels, relevels_store, redirects, redirects_store, redirected_is_sound}
use Rattle.type_nodes.proofs.LinkedReadings.{same_readings, roots_alike}

abbrev pub Made : Type 0
Made = Result NodeRef AllocError

abbrev pub Done : Type 0
Done = Result (Unit {0}) AllocError

pub made_store : (r : Made) (old new : State) (c : Node) → IsStore old → All (IsNode old.nodes) (parts c) → IsPlainNode c →
    IfOk r (λ n. Added old new n.0 c) → OnErr r (new ≡ old) → IsStore new
made_store (Ok n) old new c store inside plain ok err = makes_store old new n.0 c store inside plain ok
made_store (Err e) old new c store inside plain ok err = subst IsStore (sym err) store

pub made_makes : (r : Made) (old new : State) (c : Node) → IsStore old → IsNoLink c →
    IfOk r (λ n. Added old new n.0 c) → IfOk r (λ n. Makes old new n.0 c)
made_makes (Ok n) old new c store is ok = makes old new n.0 c store is ok
made_makes (Err e) old new c store is ok = ok

pub made_keeps : (r : Made) (old new : State) (c : Node) →
    IfOk r (λ n. Added old new n.0 c) → OnErr r (new ≡ old) → Keeps old new
made_keeps (Ok n) old new c ok err = added_keeps old new n.0 c ok
made_keeps (Err e) old new c ok err = keeps_same old new err

pub done_keeps : (r : Done) (old new : State) (n : ℕ) (c : Node) → OnOk r (Replaced old new n c) → OnErr r (new ≡ old) → Keeps old new
done_keeps (Ok u) old new n c ok err = replaced_keeps old new n c ok
done_keeps (Err e) old new n c ok err = keeps_same old new err

pub relevelled_store : (r : Done) (old new : State) (v level scope : ℕ) → IsStore old →
    OnOk r (Replaced old new (root old.nodes v) (Var level scope)) → OnErr r (new ≡ old) → IsStore new
relevelled_store (Ok u) old new v level scope store ok err = relevels_store old new v level scope store ok
relevelled_store (Err e) old new v level scope store ok err = subst IsStore (sym err) store

pub relevelled : (r : Done) (old new : State) (v level scope : ℕ) → IsStore old → IsVariable old.nodes v →
    OnOk r (Replaced old new (root old.nodes v) (Var level scope)) → OnOk r (Relevels old new v level scope)
relevelled (Ok u) old new v level scope store var ok = relevels old new v level scope store var ok
relevelled (Err e) old new v level scope store var ok = ok

pub redirected_store : (r : Done) (old new : State) (a b : ℕ) → IsStore old → IsNode old.nodes b → Apart old.nodes (root old.nodes a) b →
    OnOk r (Replaced old new (root old.nodes a) (Link (root old.nodes b))) → OnErr r (new ≡ old) → IsStore new
redirected_store (Ok u) old new a b store b_in apart ok err = redirects_store old new a b store b_in apart ok
redirected_store (Err e) old new a b store b_in apart ok err = subst IsStore (sym err) store

pub redirected : (r : Done) (old new : State) (a b : ℕ) → IsStore old → IsNode old.nodes a → IsNode old.nodes b → Apart old.nodes (root old.nodes a) b →
    OnOk r (Replaced old new (root old.nodes a) (Link (root old.nodes b))) → OnOk r (Redirects old new a b)
redirected (Ok u) old new a b store a_in b_in apart ok = redirects old new a b store a_in b_in apart ok
redirected (Err e) old new a b store a_in b_in apart ok = ok

-- a link between the nodes that were found to be the roots
pub redirected_roots : (r : Done) (old new : State) (a b r_a r_b : ℕ) → r_a ≡ root old.nodes a → r_b ≡ root old.nodes b →
    OnOk r (Replaced old new r_a (Link r_b)) → OnOk r (Replaced old new (root old.nodes a) (Link (root old.nodes b)))
redirected_roots r old new a b r_a r_b e e' h =
    subst (λ k. OnOk r (Replaced old new k (Link (root old.nodes b)))) e (subst (λ k. OnOk r (Replaced old new r_a (Link k))) e' h)

-- a link of a composite to a node that every reading gives its type leaves the readings
pub redirected_readings : (r : Done) (old new : State) (a b : ℕ) → IsStore old → IsNode old.nodes b → Apart old.nodes (root old.nodes a) b →
    OnOk r (Replaced old new (root old.nodes a) (Link (root old.nodes b))) →
    OnOk r (ReadsAsComposite old.nodes a → ReadAlike old.nodes a b → SameReadings old.nodes new.nodes)
redirected_readings (Ok u) old new a b store b_in apart ok = λ whole alike.
    subst (SameReadings old.nodes) (sym ok.nodes)
    (same_readings old.nodes (root old.nodes a) (root old.nodes b) whole.node (sound_now old store) (redirected_is_sound old new a b store b_in apart ok)
    whole.reads whole.composite (roots_alike old.nodes a b alike))
redirected_readings (Err e) old new a b store b_in apart ok = ok
