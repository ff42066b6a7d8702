-- The state at an item's start, and the nodes of the built-in types.
use Rattle.std.proofs.Common.{◌≡◌, ◌≤◌, ◌∙◌, ℕ, ◌<◌, Bool, true, false, List, [], Some, None, refl, sym, ap, subst, arith}
use Rattle.std.specs.Prelude.{slice_get, option_map, string_bytes}
use Rattle.std.specs.Map.{lookup}
use Rattle.std.specs.Str.{bytes_eq}
use Rattle.std.proofs.lemmas.Option.{slice_get_within}
use Rattle.type_model.specs.Types.{Path, Typ, occurs}
use Rattle.type_model.specs.Types.{Typ as type, Typs as types}
use Rattle.signature_model.specs.Declarations.{Name}
use Rattle.typing_laws.proofs.Bools.{no_yes}
use Rattle.typing_model.specs.Contexts.{Choice, in_item}
use Rattle.type_terms.specs.declared.types.NodeRef.{NodeRef}
use Rattle.type_nodes.specs.Nodes.{Node, Var, Con, bound_level, IsSound}
use Rattle.type_nodes.specs.Readings.{Types, IsReading}
use Rattle.type_nodes.specs.States.{State}
use Rattle.type_nodes.specs.Changes.{Makes}
use Rattle.level_unify.specs.Solutions.{Loose, Tightens}
use Rattle.env_table.specs.declared.entries.Entry.{Entry}
use Rattle.typing_state.specs.declared.parts.Parts.{Parts}
use Rattle.typing_state.specs.Goes.{Goes}
use Rattle.typing_conditions.specs.Locals.{IsOwn, IsContext}
use Rattle.typing_conditions.specs.Assumptions.{SchemeFits, SchemeReads}
use Rattle.typing_conditions.specs.Standing.{IsIn, Covers, Stands}
use Rattle.typing_conditions.specs.Declared.{UnknownApart}
use Rattle.typing_conditions.proofs.Regions.{any_in}
use Rattle.typing_conditions.proofs.Steps.{refines_none, local_made}
use Rattle.typing_conditions.proofs.Instances.{root_within}
use Rattle.typing_conditions.proofs.Later.{context_after}
use Rattle.typing_conditions.specs.Sights.{Sight, Letters, Agrees}
use Rattle.typing_conditions.specs.Frames.{Frame, Reaches, IsRoot}
use Rattle.typing_conditions.specs.Meanings.{Means, KnowsFixed, KnowsWritten}
use Rattle.typing_conditions.specs.Carrying.{Scope, HoldsWritten, HoldsUnbound}
use Rattle.typing_conditions.proofs.DeclaredLater.{declared_after, exception_after}
use Rattle.typing_conditions.specs.Surroundings.{Declared, IsSteady, KnowsNames, Surrounds}
use Rattle.typing_steps.specs.Typing.{as_declared}
use Rattle.typing_conditions.proofs.Inward.{fixed_nodes}
use Rattle.typing_conditions.proofs.Making.{makes_extends, made_here, loose_before}
use Rattle.typing_state.specs.Fresh.{IsNew}
use Rattle.typing_steps.specs.States.{sight}
use Rattle.typing_steps.specs.Constants.{HasType, HasConstants}
use Rattle.typing_steps.specs.Starts.{frame_at}

-- a new constructor without arguments has its type, whatever else there is
pub constant_made : (old new : State) (n : NodeRef) (path : Path) (name : List ℕ) → Makes old new n.0 (Con path name []) → HasType new.nodes n (type.Con path types.Nil)
constant_made old new n path name made =
    let there = made_here old new n.0 (Con path name []) made in
    record { inside = slice_get_within new.nodes n.0 (Con path name []) there; is = λ V loose. loose.each n.0 (Con path name []) there }

-- a type that a node has it keeps
pub type_kept : (old new : List Node) (n : NodeRef) (t : Typ) → Tightens old new → HasType old n t → HasType new n t
type_kept old new n t tight h = record { inside = (let i = h.inside in let l = tight.nodes in omega arith); is = λ V loose. h.is V (tight.types V loose) }

-- so the constants keep the built-in types
pub constants_kept : (a b : Parts) → Goes a b → HasConstants a → HasConstants b
constants_kept a b goes h = subst (λ k. HasConstants (record b { constants = k })) (sym goes.constants) (record {
  int = type_kept a.store.nodes b.store.nodes _ _ goes.types h.int;
  char = type_kept a.store.nodes b.store.nodes _ _ goes.types h.char;
  string = type_kept a.store.nodes b.store.nodes _ _ goes.types h.string;
  float = type_kept a.store.nodes b.store.nodes _ _ goes.types h.float;
  unit = type_kept a.store.nodes b.store.nodes _ _ goes.types h.unit;
  bool = type_kept a.store.nodes b.store.nodes _ _ goes.types h.bool;
  exn = type_kept a.store.nodes b.store.nodes _ _ goes.types h.exn;
})

-- what has a type has it still where one node more is made
type_after : {old new : State} {k : ℕ} {c : Node} (n : NodeRef) (t : Typ) → Makes old new k c → HasType old.nodes n t → HasType new.nodes n t
type_after {old} {new} {k} {c} n t made h =
    let extends = makes_extends old new k c made in
    record { inside = (let i = h.inside in let l = extends.longer in omega arith); is = λ V loose. h.is V (loose_before old.nodes new.nodes V extends loose) }

-- So a new state has the built-in types.
pub new_constants : (at : Parts) → IsNew at → HasConstants at
new_constants at new =
    let k = new.constants in
    let c = at.constants in
    record {
      int = type_after c.int _ k.exn (type_after c.int _ k.bool (type_after c.int _ k.unit (type_after c.int _ k.float (type_after c.int _ k.string (type_after c.int _ k.char (constant_made _ _ c.int _ _ k.int))))));
      char = type_after c.char _ k.exn (type_after c.char _ k.bool (type_after c.char _ k.unit (type_after c.char _ k.float (type_after c.char _ k.string (constant_made _ _ c.char _ _ k.char)))));
      string = type_after c.string _ k.exn (type_after c.string _ k.bool (type_after c.string _ k.unit (type_after c.string _ k.float (constant_made _ _ c.string _ _ k.string))));
      float = type_after c.float _ k.exn (type_after c.float _ k.bool (type_after c.float _ k.unit (constant_made _ _ c.float _ _ k.float)));
      unit = type_after c.unit _ k.exn (type_after c.unit _ k.bool (constant_made _ _ c.unit _ _ k.unit));
      bool = type_after c.bool _ k.exn (constant_made _ _ c.bool _ _ k.bool);
      exn = constant_made _ _ c.exn _ _ k.exn;
    }

-- a root that has a type without variables means it
pub type_means : (a : Parts) {F : Frame} (n : NodeRef) (t : Typ) → Reaches F (sight a) → IsIn F.roots n.0 → ((v : ℕ) → occurs v t ≡ false) → HasType a.store.nodes n t → Means F (sight a) [] (λ ch. t) n.0
type_means a {F} n t reached (k, e) none h = record {
  open_node = record {
    reached = reached;
    inside = h.inside;
    within = root_within F.start F.roots k n.0 e;
    free = λ J own v o. absurd (no_yes (sym (none v) ∙ ap (occurs v) (sym (h.is J own.loose)) ∙ o));
  };
  is = λ V ch loose g. sym (h.is V loose);
}

-- The built-in types have nodes in a frame whose roots have the constants.
pub constants_known : (a : Parts) {F : Frame} → Reaches F (sight a) → ((k m : ℕ) → slice_get (fixed_nodes (sight a).fixed) k ≡ Some m → IsIn F.roots m) → HasConstants a → KnowsFixed F (sight a)
constants_known a reached roots h = record {
  int = type_means a a.constants.int _ reached (roots 0 a.constants.int.0 refl) (λ v. refl) h.int;
  char = type_means a a.constants.char _ reached (roots 1 a.constants.char.0 refl) (λ v. refl) h.char;
  string = type_means a a.constants.string _ reached (roots 2 a.constants.string.0 refl) (λ v. refl) h.string;
  float = type_means a a.constants.float _ reached (roots 3 a.constants.float.0 refl) (λ v. refl) h.float;
  unit = type_means a a.constants.unit _ reached (roots 4 a.constants.unit.0 refl) (λ v. refl) h.unit;
  bool = type_means a a.constants.bool _ reached (roots 5 a.constants.bool.0 refl) (λ v. refl) h.bool;
  exn = type_means a a.constants.exn _ reached (roots 6 a.constants.exn.0 refl) (λ v. refl) h.exn;
}

-- What stands for a declaration or an exception does so later on, and among more roots.
pub declared_steady : IsSteady as_declared
declared_steady = record { declaration = λ before step more h. declared_after before step more h; exception = λ before step more h. exception_after before step more h; declared = λ h. h; excepted = λ h. h }

-- The start of an item, where the free variables of the roots are of at most its level.
module _ (a : Sight) (J : Types) (roots : List ℕ) (sound : IsSound a.nodes) (own : IsOwn a.nodes J) (context : IsContext a.nodes J roots a.level) (free : a.level < bound_level) (known : Bool) where
  none_in : (k n : ℕ) → slice_get [] k ≡ Some n → ⊥
  none_in k n e = cc

  -- the item's frame reaches it
  pub start_reached : Reaches (frame_at a J roots known) a
  start_reached = record {
    frame = record { own = own; context = context; free = free };
    sound = sound;
    level = refl;
    held = λ k. [];
    only_held = λ k n lt (i, e). absurd (none_in i n e);
    local = λ M own'. local_made a.nodes a.nodes J M roots (λ k. []) a.level own own' (record { longer = omega arith; node = λ n lt. refl }) (λ S reg. reg.closed)
        (λ k u l o lt old e free le. absurd (let p = slice_get_within a.nodes u (Var l o) e in omega arith));
  }

  -- its roots are roots
  pub start_roots : (k r : ℕ) → slice_get roots k ≡ Some r → IsRoot (frame_at a J roots known) a r
  start_roots k r e = record {
    inside = context.inside k r e;
    within = root_within a.nodes roots k r e;
    low = λ M own' v l o h at free. (context_after a.nodes a.nodes J M roots a.level own own' (refines_none a.nodes M own') context).low v l o (any_in v M roots k r e h) at free;
  }

  -- no type variable is written yet
  pub start_written : ((x : Name) → a.written x ≡ None) → KnowsWritten (frame_at a J roots known) a
  start_written none = record { each = λ x m e. absurd (none_there x m e); names = []; listed = λ x m e. absurd (none_there x m e) }
    where
      none_there : (x : Name) (m : ℕ) → a.written x ≡ Some m → ⊥
      none_there x m e = let f : Some m ≡ None = sym e ∙ none x in cc

  -- the names of an environment whose roots are among the item's are those of the scope
  pub start_surrounds : {D : Declared} {G : Letters} {env : List Entry} {scope : Scope} (names : List ℕ) (N : Types) → UnknownApart N → IsSteady D → 1 ≤ a.level → KnowsFixed (frame_at a J roots known) a → ((x : Name) → a.written x ≡ None) → ((k r : ℕ) → slice_get names k ≡ Some r → IsIn roots r) →
      Covers (D.declaration a.nodes names N) (D.exception a.nodes names N) names env → (known ≡ true → KnowsNames D a.nodes names N env) →
      ((M V : Types) (ch : Choice) → IsOwn a.nodes M → IsReading a.nodes V → Agrees a.item a G V ch → HoldsWritten scope a → HoldsUnbound (frame_at a J roots known) scope a ch → Stands SchemeReads (D.declaration a.nodes names N) (D.exception a.nodes names N) a.nodes M names V env (scope.env ch)) →
      ((M V : Types) (ch : Choice) → IsOwn a.nodes M → Loose a.nodes V → Agrees a.item a G V ch → HoldsWritten scope a → Stands SchemeFits (D.declaration a.nodes names N) (D.exception a.nodes names N) a.nodes M names V env (scope.env ch)) → scope.variables ≡ in_item a.item → Surrounds D (frame_at a J roots known) a G env scope
  start_surrounds names N apart steady inside fixed none among covered knows reads fits item = record {
    reached = start_reached;
    inside = inside;
    fixed = fixed;
    written = start_written none;
    item = item;
    roots = names;
    names = N;
    apart = apart;
    steady = steady;
    are_roots = λ k r e. let (i, f) = among k r e in start_roots i r f;
    covered = covered;
    known = knows;
    reads = reads;
    fits = fits;
  }

-- where the written type variables were cleared, none is written
pub cleared_written : (a : Parts) → a.written.variables.entries ≡ [] → (x : Name) → (sight a).written x ≡ None
cleared_written a e x = ap (λ es. option_map (λ (m : NodeRef). m.0) (lookup (λ k. bytes_eq x (string_bytes k)) es)) e
