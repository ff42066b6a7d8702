-- Steps in a frame: the states that they reach, and the nodes that are open then.
use Rattle.std.proofs.Common.{◌≡◌, ◌∙◌, ℕ, zero, suc, ◌<◌, List, [], ◌∷◌, length, Some, refl, sym, subst, arith, inl, inr, ◌≤◌, ap}
use Rattle.std.specs.Prelude.{slice_get, All}
use Rattle.std.proofs.lemmas.Option.{slice_get_within}
use Rattle.type_model.specs.Types.{occurs}
use Rattle.type_model.specs.Limits.{no_scope}
use Rattle.type_model.proofs.Applying.{or_left, or_cases}
use Rattle.signature_model.specs.Declarations.{Name}
use Rattle.typing_laws.proofs.Bools.{no_yes}
use Rattle.type_nodes.specs.Nodes.{Node, Var, parts, IsSound, IsClosed, IsNode}
use Rattle.type_nodes.specs.Readings.{Types}
use Rattle.type_nodes.specs.States.{Change, state}
use Rattle.type_nodes.specs.Changes.{Makes}
use Rattle.type_nodes.proofs.Ranks.{added_sound}
use Rattle.level_unify.specs.Solutions.{HaveNoBound, Tightens}
use Rattle.level_unify.specs.Unification.{Unified}
use Rattle.level_unify.specs.Instances.{Instantiated}
use Rattle.typing_conditions.specs.Locals.{IsOwn, IsFreeVar, IsLow, Refines, Local, IsResult, IsContext}
use Rattle.typing_conditions.specs.Rows.{Row}
use Rattle.typing_conditions.proofs.Own.{own_of}
use Rattle.typing_conditions.proofs.Steps.{local_made}
use Rattle.typing_conditions.proofs.Later.{context_after, result_after}
use Rattle.typing_conditions.proofs.Instances.{open_nodes}
use Rattle.typing_conditions.proofs.Rows.{row_unify, row_instance, row_var, row_node}
use Rattle.typing_conditions.specs.Sights.{Sight, Letters}
use Rattle.typing_conditions.specs.Frames.{Frame, IsFrame, Reaches, IsOpenAt, IsOpen, AreOpen, IsRoot}
use Rattle.typing_conditions.specs.Meanings.{KnowsWritten}
use Rattle.typing_conditions.specs.Carrying.{Stays}
use Rattle.typing_conditions.specs.Steps.{OnlyNodes}

-- the steps of a row in the frame, with these open nodes
pub row_of : {F : Frame} {a : Sight} (r : Reaches F a) (J : Types) → IsOwn a.nodes J → (ms : List ℕ) → AreOpen F a ms → Row F.start a.nodes F.types J F.roots r.held F.level ms
row_of {F} {a} r J own ms opens = record {
  before = r.frame.own;
  own = own;
  context = r.frame.context;
  local = r.local J own;
  open_nodes = λ k m e. let o = opens k m e in record { inside = o.inside; within = o.within; free = o.free J own };
}

-- the state at which a frame starts is reached
pub reached_start : {F : Frame} (a : Sight) → IsFrame F → a.nodes ≡ F.start → a.level ≡ F.level → IsSound F.start → Reaches F a
reached_start {F} a frame nodes level sound = record {
  frame = frame;
  sound = subst IsSound (sym nodes) sound;
  level = level;
  held = F.held;
  only_held = λ k n lt i. inl i;
  local = λ J own. local_made F.start a.nodes F.types J F.roots F.held F.level frame.own own
      (record { longer = let e = len in omega arith; node = λ n lt. ap (λ ns. slice_get ns n) nodes })
      (λ S reg. subst (λ ns. IsClosed ns S) (sym nodes) reg.closed)
      (λ k u l o lt old e free le. absurd (let p = slice_get_within a.nodes u (Var l o) e in let q = len in omega arith));
}
  where
    len : length a.nodes ≡ length F.start
    len = ap length nodes

-- what a further step reaches, where nothing that is written is lost
pub reaches_step : {F : Frame} {a b : Sight} (r : Reaches F a) → IsSound b.nodes → b.level ≡ a.level → ((x : Name) (n : ℕ) → a.written x ≡ Some n → b.written x ≡ Some n) →
    ((J K : Types) → IsOwn a.nodes J → IsOwn b.nodes K → Local F.start b.nodes F.types K F.roots r.held F.level) → Reaches F b
reaches_step {F} {a} {b} r sound level written local = record {
  frame = r.frame;
  sound = sound;
  level = level ∙ r.level;
  held = r.held;
  only_held = λ k n lt i. elim (r.only_held k n lt i) [ inl h ↦ inl h | inr (le, (x, e)) ↦ inr (le, (x, written x n e)) ];
  local = λ K own. let before = own_of a.nodes r.sound in local before.0 K before.1 own;
}

-- a node that is a result in each of the nodes' own types is open
pub open_from : {F : Frame} {b : Sight} {level n : ℕ} → Reaches F b → ((K : Types) → IsOwn b.nodes K → IsResult F.start b.nodes K F.roots level n) → IsOpenAt F b level n
open_from {F} {b} {level} {n} reached result =
    let own = own_of b.nodes reached.sound in
    let here = result own.0 own.1 in
    record { reached = reached; inside = here.inside; within = here.within; free = λ K o. (result K o).free }

free_of : {nodes : List Node} {level v : ℕ} → IsLow nodes level v → IsFreeVar nodes v
free_of low = record { level = low.level; scope = low.scope; at = low.at; free = low.free }

-- no bound variable stands in open nodes
pub no_bound : {F : Frame} {a : Sight} {m n : ℕ} → IsOpen F a m → IsOpen F a n → HaveNoBound a.nodes m n
no_bound {F} {a} {m} {n} p q =
    let own = own_of a.nodes p.reached.sound in
    open_nodes a.nodes own.0 m n own.1 (λ v o. free_of (p.free own.0 own.1 v o)) (λ v o. free_of (q.free own.0 own.1 v o))

-- open nodes are open in a further state that typing reaches
pub open_next : {F : Frame} {a b : Sight} {level n : ℕ} → (Reaches F a → Reaches F b) → (Reaches F a → (K : Types) → IsOwn b.nodes K → Refines a.nodes b.nodes K) → IsOpenAt F a level n → IsOpenAt F b level n
open_next {F} {a} {b} {level} {n} reaches refines o = open_from (reaches o.reached) (λ K own.
    let before = own_of a.nodes o.reached.sound in
    result_after F.start a.nodes b.nodes before.0 K F.roots level n before.1 own (refines o.reached K own) (record { inside = o.inside; within = o.within; free = o.free before.0 before.1 }))

-- a node whose variables are of at most a lower level is open
pub open_lower : {F : Frame} {a : Sight} {low level n : ℕ} → low ≤ level → IsOpenAt F a low n → IsOpenAt F a level n
open_lower le o = record {
  reached = o.reached;
  inside = o.inside;
  within = o.within;
  free = λ J own v h. let f = o.free J own v h in record { level = f.level; scope = f.scope; at = f.at; free = f.free; low = let l = f.low in omega arith };
}

-- open nodes stay open
pub open_on : {F : Frame} {a b : Sight} {G H : Letters} {level n : ℕ} → Stays F a G b H → IsOpenAt F a level n → IsOpenAt F b level n
open_on s o = open_next s.reaches s.refines o

-- the nodes of written type variables stay open where the same are written
pub written_next : {F : Frame} {a b : Sight} → ((x : Name) → b.written x ≡ a.written x) → (Reaches F a → Reaches F b) → (Reaches F a → (K : Types) → IsOwn b.nodes K → Refines a.nodes b.nodes K) → KnowsWritten F a → KnowsWritten F b
written_next written reaches refines k = record { each = λ x m e. open_next reaches refines (k.each x m (sym (written x) ∙ e)); names = k.names; listed = λ x m e. k.listed x m (sym (written x) ∙ e) }

-- roots stay roots
pub root_on : {F : Frame} {a b : Sight} {G H : Letters} {n : ℕ} → Stays F a G b H → Reaches F a → IsRoot F a n → IsRoot F b n
root_on {F} {a} {b} {n = n} s r root = record {
  inside = let p = root.inside in let q = s.longer in omega arith;
  within = root.within;
  low = λ K own v l o h e free. (context K own).low v l o (or_left (occurs v (K n)) _ h) e free;
}
  where
    alone : (J : Types) → IsOwn a.nodes J → IsContext a.nodes J (n ∷ []) F.level
    alone J own = record { inside = inside; low = λ v l o h e free. elim (or_cases (occurs v (J n)) _ h) [ inl i ↦ root.low J own v l o i e free | inr i ↦ absurd (no_yes i) ] }
      where
        inside : (k c : ℕ) → slice_get (n ∷ []) k ≡ Some c → c < length a.nodes
        inside zero c e = let f : n ≡ c = cc in subst (λ i. i < length a.nodes) f root.inside
        inside (suc k) c e = absurd (cc)

    context : (K : Types) → IsOwn b.nodes K → IsContext b.nodes K (n ∷ []) F.level
    context K own = let before = own_of a.nodes r.sound in context_after a.nodes b.nodes before.0 K (n ∷ []) F.level before.1 own (s.refines r K own) (alone before.0 before.1)

-- a new store is sound where the new node's parts are nodes
pub sound_made : (a b : Sight) {s t : List Change} {n : ℕ} {c : Node} → IsSound a.nodes → Makes (state a.nodes s) (state b.nodes t) n c → All (IsNode a.nodes) (parts c) → IsSound b.nodes
sound_made a b {s} {t} {n} {c} sound made inside = subst IsSound (sym made.added.nodes) (added_sound a.nodes c inside sound)

-- a new variable of the frame's level is open
pub open_var : {F : Frame} {a b : Sight} {s t : List Change} {n : ℕ} → Reaches F a → Makes (state a.nodes s) (state b.nodes t) n (Var F.level no_scope) → OnlyNodes a b → IsOpen F b n
open_var {F} {a} {b} {s} {t} {n} r made rest = open_from reached (λ K own. let before = own_of a.nodes r.sound in (row before.0 K before.1 own).open_nodes zero n refl)
  where
    none_open : AreOpen F a []
    none_open k m e = absurd (cc)

    row : (J K : Types) → IsOwn a.nodes J → IsOwn b.nodes K → Row F.start b.nodes F.types K F.roots r.held F.level (n ∷ [])
    row J K own own' = row_var (row_of r J own [] none_open) K own' n (Var F.level no_scope) made no_scope refl (λ e. let lt = r.frame.free in absurd (omega arith))

    reached : Reaches F b
    reached = reaches_step r (sound_made a b r.sound made (λ k d lt. absurd (omega arith))) rest.level (λ x m e. rest.written x ∙ e) (λ J K own own'. (row J K own own').local)

-- a new node over open ones is open
pub open_made : {F : Frame} {a b : Sight} {s t : List Change} {n : ℕ} {c : Node} → Reaches F a → ((l o : ℕ) → c ≡ Var l o → ⊥) → AreOpen F a (parts c) → Makes (state a.nodes s) (state b.nodes t) n c → OnlyNodes a b → IsOpen F b n
open_made {F} {a} {b} {s} {t} {n} {c} r isnt opens made rest = open_from reached (λ K own. let before = own_of a.nodes r.sound in (row before.0 K before.1 own).open_nodes zero n refl)
  where
    all_inside : (ms : List ℕ) → AreOpen F a ms → All (IsNode a.nodes) ms
    all_inside [] h k d lt = absurd (omega arith)
    all_inside (m ∷ ms) h zero d lt = (h zero m refl).inside
    all_inside (m ∷ ms) h (suc k) d lt = all_inside ms (λ j x e. h (suc j) x e) k d (omega arith)

    row : (J K : Types) → IsOwn a.nodes J → IsOwn b.nodes K → Row F.start b.nodes F.types K F.roots r.held F.level (n ∷ parts c)
    row J K own own' = row_node (row_of r J own (parts c) opens) K own' n c made isnt (λ k d e. (k, e))

    reached : Reaches F b
    reached = reaches_step r (sound_made a b r.sound made (all_inside (parts c) opens)) rest.level (λ x m e. rest.written x ∙ e) (λ J K own own'. (row J K own own').local)

-- open nodes that are made one
pub reaches_unified : {F : Frame} {a b : Sight} {m n : ℕ} → IsSound b.nodes → OnlyNodes a b → Tightens a.nodes b.nodes → Unified a.nodes b.nodes m n → IsOpen F a m → IsOpen F a n → Reaches F b
reaches_unified {F} {a} {b} {m} {n} sound rest tight one p q =
    reaches_step p.reached sound rest.level (λ x k e. rest.written x ∙ e)
    (λ J K own own'. (row_unify (row_of p.reached J own (m ∷ n ∷ []) both) b.nodes K zero 1 m n refl refl own' (λ none. one) tight.types).local)
  where
    both : AreOpen F a (m ∷ n ∷ [])
    both zero k e = let s : m ≡ k = cc in subst (IsOpen F a) s p
    both (suc zero) k e = let s : n ≡ k = cc in subst (IsOpen F a) s q
    both (suc (suc i)) k e = absurd (cc)

-- an instance of a root at the frame's level is open
pub open_instance : {F : Frame} {a b : Sight} {root m : ℕ} → IsSound b.nodes → OnlyNodes a b → Instantiated a.nodes b.nodes root F.level m → Reaches F a → IsRoot F a root → IsOpen F b m
open_instance {F} {a} {b} {root} {m} sound rest inst r is = open_from reached (λ K own. let before = own_of a.nodes r.sound in (row before.0 K before.1 own).open_nodes zero m refl)
  where
    none_open : AreOpen F a []
    none_open k m e = absurd (cc)

    row : (J K : Types) → IsOwn a.nodes J → IsOwn b.nodes K → Row F.start b.nodes F.types K F.roots r.held F.level (m ∷ [])
    row J K own own' = row_instance (row_of r J own [] none_open) b.nodes K root m (is.within, is.inside) (is.low J own) own' inst

    reached : Reaches F b
    reached = reaches_step r sound rest.level (λ x k e. rest.written x ∙ e) (λ J K own own'. (row J K own own').local)

-- a state with the same nodes, at the same level, where nothing that is written is lost
pub reaches_same : {F : Frame} {a b : Sight} → b.nodes ≡ a.nodes → b.level ≡ a.level → ((x : Name) (n : ℕ) → a.written x ≡ Some n → b.written x ≡ Some n) → Reaches F a → Reaches F b
reaches_same {F} {a} {b} nodes level written r = reaches_step r (subst IsSound (sym nodes) r.sound) level written
    (λ J K own own'. subst (λ ns. Local F.start ns F.types K F.roots r.held F.level) (sym nodes) (r.local K (subst (λ ns. IsOwn ns K) nodes own')))
