-- The start of an item's `let`: the frame in which its group is typed, one level above the lowest, and what surrounds the group there.
use Rattle.std.proofs.Common.{◌-◌, ◌^◌, ◌≡◌, ◌∙◌, ◌⊎◌, inl, inr, ℕ, zero, suc, ◌<◌, ◌≤◌, false, List, [], ◌∷◌, ◌++◌, None, Some, refl, sym, ap, subst, arith}
use Rattle.std.specs.Prelude.{slice_get}
use Rattle.type_model.specs.Types.{Typ, occurs}
use Rattle.signature_model.specs.Declarations.{Name}
use Rattle.typing_laws.proofs.Bools.{no_yes}
use Rattle.type_terms.specs.declared.types.NodeRef.{NodeRef}
use Rattle.type_nodes.specs.Nodes.{Node, IsNode}
use Rattle.type_nodes.specs.Readings.{Types, IsReading}
use Rattle.level_unify.specs.Solutions.{Loose}
use Rattle.env_table.specs.declared.entries.Entry.{Entry}
use Rattle.typing_model.specs.Contexts.{Choice}
use Rattle.typing_model.specs.Parts.{Binding}
use Rattle.token_model.specs.Kinds.{Tok}
use Rattle.signature_model.specs.Entries.{Environment}
use Rattle.typing_state.specs.declared.parts.Parts.{Parts}
use Rattle.typing_conditions.specs.Locals.{IsOwn, IsContext}
use Rattle.typing_conditions.specs.Assumptions.{SchemeFits, SchemeReads}
use Rattle.typing_conditions.specs.Standing.{IsIn, Covers, Stands}
use Rattle.typing_conditions.proofs.Own.{own_of}
use Rattle.typing_conditions.proofs.Regions.{any_in, in_any}
use Rattle.typing_conditions.proofs.Instances.{root_within}
use Rattle.typing_conditions.specs.Sights.{Sight, Letters, Agrees}
use Rattle.typing_conditions.specs.Frames.{Frame, Reaches, IsRoot, inner_frame, GoesIn}
use Rattle.typing_conditions.specs.Meanings.{KnowsFixed, KnowsWritten}
use Rattle.typing_conditions.specs.Carrying.{Asks}
use Rattle.typing_conditions.specs.Surroundings.{Declared, KnowsNames, Surrounds}
use Rattle.typing_conditions.proofs.Framing.{reached_start}
use Rattle.typing_conditions.proofs.Inward.{fixed_nodes, reached_inward, root_inward, written_inward, fixed_inward}
use Rattle.typing_steps.specs.States.{sight}
use Rattle.typing_steps.specs.Constants.{HasType, HasConstants}
use Rattle.typing_steps.proofs.Starting.{constants_known}
use Rattle.binding_rows.specs.Closing.{Limit, limit_variables}
use Rattle.binding_rows.specs.Lets.{ToClose, held_from}
use Rattle.binding_rows.specs.Outside.{AgreesOutside}
use Rattle.binding_rows.specs.ItemGroups.{item_scope, ItemGroup}

-- a node of two lists is one of the first or of the second
pub in_either : (ms ns : List ℕ) (n : ℕ) → IsIn (ms ++ ns) n → IsIn ms n ⊎ IsIn ns n
in_either [] ns n h = inr h
in_either (m ∷ ms) ns n (zero, e) = inl (zero, e)
in_either (m ∷ ms) ns n (suc k, e) = elim (in_either ms ns n (k, e)) [ inl h ↦ inl (suc h.0, h.1) | inr h ↦ inr h ]

-- and a node of one of them is one of both
pub in_first : (ms ns : List ℕ) (n : ℕ) → IsIn ms n → IsIn (ms ++ ns) n
in_first [] ns n (k, e) = absurd (cc)
in_first (m ∷ ms) ns n (zero, e) = (zero, e)
in_first (m ∷ ms) ns n (suc k, e) = let h = in_first ms ns n (k, e) in (suc h.0, h.1)

pub in_second : (ms ns : List ℕ) (n : ℕ) → IsIn ns n → IsIn (ms ++ ns) n
in_second [] ns n h = h
in_second (m ∷ ms) ns n h = let i = in_second ms ns n h in (suc i.0, i.1)

-- a node that has one type, in which no variable stands
pub record HasNone (nodes : List Node) (n : ℕ) : Type 0 where
  pub inside : IsNode nodes n
  pub none : (V : Types) → Loose nodes V → (v : ℕ) → occurs v (V n) ≡ false

none_in : (nodes : List Node) (n : NodeRef) (t : Typ) → HasType nodes n t → ((v : ℕ) → occurs v t ≡ false) → HasNone nodes n.0
none_in nodes n t h none = record { inside = h.inside; none = λ V loose v. ap (occurs v) (h.is V loose) ∙ none v }

-- the nodes of the built-in types have no variables
pub fixed_none : (a : Parts) → HasConstants a → (k n : ℕ) → slice_get (fixed_nodes (sight a).fixed) k ≡ Some n → HasNone a.store.nodes n
fixed_none a h zero n e = let s : a.constants.int.0 ≡ n = cc in subst (HasNone a.store.nodes) s (none_in a.store.nodes a.constants.int _ h.int (λ v. refl))
fixed_none a h (suc zero) n e = let s : a.constants.char.0 ≡ n = cc in subst (HasNone a.store.nodes) s (none_in a.store.nodes a.constants.char _ h.char (λ v. refl))
fixed_none a h (suc (suc zero)) n e = let s : a.constants.string.0 ≡ n = cc in subst (HasNone a.store.nodes) s (none_in a.store.nodes a.constants.string _ h.string (λ v. refl))
fixed_none a h (suc (suc (suc zero))) n e = let s : a.constants.float.0 ≡ n = cc in subst (HasNone a.store.nodes) s (none_in a.store.nodes a.constants.float _ h.float (λ v. refl))
fixed_none a h (suc (suc (suc (suc zero)))) n e = let s : a.constants.unit.0 ≡ n = cc in subst (HasNone a.store.nodes) s (none_in a.store.nodes a.constants.unit _ h.unit (λ v. refl))
fixed_none a h (suc (suc (suc (suc (suc zero))))) n e = let s : a.constants.bool.0 ≡ n = cc in subst (HasNone a.store.nodes) s (none_in a.store.nodes a.constants.bool _ h.bool (λ v. refl))
fixed_none a h (suc (suc (suc (suc (suc (suc zero)))))) n e = let s : a.constants.exn.0 ≡ n = cc in subst (HasNone a.store.nodes) s (none_in a.store.nodes a.constants.exn _ h.exn (λ v. refl))
fixed_none a h (suc (suc (suc (suc (suc (suc (suc k))))))) n e = absurd (cc)

module _ {D : Declared} {n : ℕ} {ts : List Tok} {E : Choice → Environment} {asks : Asks} {x : Parts} {y : Sight} {G : Letters} {s d : Parts} {env : List Entry} {xs : List Binding} {ys : List ToClose} {limits : List Limit} (l : ItemGroup D n ts E asks x y G s d env xs ys limits) where
  -- the types with which the item starts
  pub own_start : (J : Types) × IsOwn x.store.nodes J
  own_start = own_of x.store.nodes l.at.sound

  -- the roots that the item may change: those of the environment and the nodes of the built-in types
  abbrev pub item_roots : List ℕ
  item_roots = l.at.roots ++ fixed_nodes (sight x).fixed

  -- what is held at the lowest level: the variables of the limits
  abbrev pub item_held : ℕ → List ℕ
  item_held = held_from x.level (limit_variables limits) (λ k. [])

  -- the item's own frame, at the lowest level; the type variables in it are those of the item's node
  abbrev pub item_frame : Frame
  item_frame = record { start = x.store.nodes; types = own_start.0; roots = item_roots; held = λ k. []; level = x.level; owner = n; known = l.at.known }

  -- and that of its group
  abbrev pub group_frame : Frame
  group_frame = inner_frame item_frame (sight x) own_start.0 item_roots item_held

  pub lowest : x.level ≡ 0
  lowest = l.at.level

  -- the roots' free variables are of the lowest level
  pub item_context : (J : Types) → IsOwn x.store.nodes J → IsContext x.store.nodes J item_roots x.level
  item_context J own = record {
    inside = λ k r e. elim (in_either l.at.roots (fixed_nodes (sight x).fixed) r (k, e)) [ inl i ↦ (l.at.context J own).inside i.0 r i.1 | inr i ↦ (fixed_none x l.constants i.0 r i.1).inside ];
    low = λ v k o h e free.
        let i = in_any v J item_roots h in
        elim (in_either l.at.roots (fixed_nodes (sight x).fixed) i.node (i.place, i.at)) [
          | inl j ↦ (l.at.context J own).low v k o (any_in v J l.at.roots j.0 i.node j.1 i.occurs) e free
          | inr j ↦ absurd (no_yes (sym ((fixed_none x l.constants j.0 i.node j.1).none J own.loose v) ∙ i.occurs))
        ];
  }

  pub item_reached : Reaches item_frame (sight x)
  item_reached = reached_start (sight x) (record { own = own_start.1; context = item_context own_start.0 own_start.1; free = below x.level lowest }) refl refl l.at.sound
    where
      below : (k : ℕ) → k ≡ 0 → k < 2 ^ 32 - 1
      below k e = omega arith

  pub item_root : (r : ℕ) → IsIn item_roots r → IsRoot item_frame (sight x) r
  item_root r (k, e) = record {
    inside = (item_context own_start.0 own_start.1).inside k r e;
    within = root_within x.store.nodes item_roots k r e;
    low = λ M own v j o h at free. (item_context M own).low v j o (any_in v M item_roots k r e h) at free;
  }

  none_there : (z : Name) (m : ℕ) → (sight x).written z ≡ Some m → ⊥
  none_there z m e = let f : Some m ≡ None = sym e ∙ l.cleared z in cc

  pub goes_in : GoesIn item_frame (sight x) own_start.0 item_roots item_held
  goes_in = record {
    reached = item_reached;
    own = own_start.1;
    are_roots = λ k r e. item_root r (k, e);
    written_in = λ z m e. absurd (none_there z m e);
    keeps_held = λ k m lt i. absurd (let e = lowest in omega arith);
    free = one_level x.level lowest;
  }
    where
      one_level : (k : ℕ) → k ≡ 0 → suc k < 2 ^ 32 - 1
      one_level k e = omega arith

  known_fixed : KnowsFixed item_frame (sight x)
  known_fixed = constants_known x item_reached (λ k m e. in_second l.at.roots (fixed_nodes (sight x).fixed) m (k, e)) l.constants

  pub known_written : KnowsWritten item_frame (sight x)
  known_written = record { each = λ z m e. absurd (none_there z m e); names = []; listed = λ z m e. absurd (none_there z m e) }

  -- the same is recorded and given, and nothing is written
  agrees_before_item : {V : Types} {ch : Choice} → Agrees n y G V ch → AgreesOutside (sight x) G V ch
  agrees_before_item g = record { recorded = λ i p m e. g.recorded i p m (l.only.types i p ∙ e); known = λ i p m e. g.known i p m (l.only.types i p ∙ e); given = g.given }

  -- what surrounds the group
  pub surrounds_item : Surrounds D group_frame y G env (item_scope n ts E)
  surrounds_item = record {
    reached = reached_inward goes_in l.only l.raised;
    inside = below x.level;
    fixed = fixed_inward goes_in l.only l.raised (λ k m e. in_second l.at.roots (fixed_nodes (sight x).fixed) m (k, e)) known_fixed;
    written = written_inward goes_in l.only l.raised known_written;
    item = refl;
    roots = l.at.roots;
    names = l.at.names;
    apart = l.at.apart;
    steady = l.at.steady;
    are_roots = λ k r e. let i = in_first l.at.roots (fixed_nodes (sight x).fixed) r (k, e) in root_inward goes_in l.only l.raised r i (item_root r i);
    covered = subst (λ ns. Covers (D.declaration ns l.at.roots l.at.names) (D.exception ns l.at.roots l.at.names) l.at.roots env) (sym l.only.nodes) l.at.covered;
    known = λ known. subst (λ ns. KnowsNames D ns l.at.roots l.at.names env) (sym l.only.nodes) (l.at.knows known);
    reads = λ M V ch own reads g named unbound.
        subst (λ ns. Stands SchemeReads (D.declaration ns l.at.roots l.at.names) (D.exception ns l.at.roots l.at.names) ns M l.at.roots V env (E ch)) (sym l.only.nodes)
        (l.at.reads M V ch (subst (λ ns. IsOwn ns M) l.only.nodes own) (subst (λ ns. IsReading ns V) l.only.nodes reads) (agrees_before_item g));
    fits = λ M V ch own loose g named.
        subst (λ ns. Stands SchemeFits (D.declaration ns l.at.roots l.at.names) (D.exception ns l.at.roots l.at.names) ns M l.at.roots V env (E ch)) (sym l.only.nodes)
        (l.at.fits M V ch (subst (λ ns. IsOwn ns M) l.only.nodes own) (subst (λ ns. Loose ns V) l.only.nodes loose) (agrees_before_item g));
  }
    where
      below : (k : ℕ) → 1 ≤ suc k
      below k = omega arith
