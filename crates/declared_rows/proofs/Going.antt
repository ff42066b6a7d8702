-- An assignment goes on over several steps, and nodes that denote types still do.
use Rattle.std.proofs.Common.{◌≡◌, ◌∙◌, ℕ, List, [], ◌∷◌, ◌++◌, length, Some, refl, sym, ap, subst, arith}
use Rattle.std.specs.Prelude.{slice_get}
use Rattle.type_model.specs.Types.{Typ}
use Rattle.signature_model.specs.Declarations.{Name}
use Rattle.type_nodes.specs.Nodes.{Var}
use Rattle.type_nodes.specs.Readings.{IsReading}
use Rattle.level_unify.specs.Solutions.{Loose}
use Rattle.typing_conditions.specs.Locals.{IsOwn, Refines}
use Rattle.typing_conditions.specs.Sights.{Sight}
use Rattle.typing_conditions.specs.Frames.{Frame, Reaches}
use Rattle.typing_conditions.proofs.Steps.{refines_none}
use Rattle.typing_conditions.proofs.Framing.{open_next, reaches_same}
use Rattle.declared_rows.specs.Assignments.{Assignment, Assigns, Denotes, AllDenote, none_denote, one_denotes, Assigned, AssignedTo, AllAssigned}

-- nothing is done
abbrev pub assigned_refl : {F : Frame} {arity : ℕ} {U : List ℕ} {a : Sight} {A : Assignment} → Assigns F arity U a A → Assigned F arity U a a A
assigned_refl {A = A} at = record { after = A; assigns = at; same = λ n lt. refl; keeps = λ m i. i; older = refl; longer = omega arith; reads = λ V h. h }

-- one step after another
abbrev pub assigned_then : {F : Frame} {arity arity' : ℕ} {U U' : List ℕ} {a b d : Sight} {A : Assignment} (x : Assigned F arity U a b A) → Assigned F arity' U' b d x.after → Assigned F arity' U' a d A
assigned_then x y = record {
  after = y.after;
  assigns = y.assigns;
  same = λ n lt. y.same n (let l = x.longer in omega arith) ∙ x.same n lt;
  keeps = λ m i. y.keeps m (x.keeps m i);
  older = y.older ∙ x.older;
  longer = let l = x.longer in let m = y.longer in omega arith;
  reads = λ V h. x.reads V (y.reads V h);
}

-- nodes that denote types do so later on
pub denotes_on : {F : Frame} {arity arity' : ℕ} {U U' : List ℕ} {a b : Sight} {A : Assignment} {m : ℕ} {t : Typ} → Assigns F arity' U' a A → (x : Assigned F arity U a b A) → Denotes A m t → Denotes x.after m t
denotes_on {m = m} at x d = record { known = x.keeps m d.known; is = x.same m (at.opens m d.known).inside ∙ d.is }

pub all_denote_on : {F : Frame} {arity arity' : ℕ} {U U' : List ℕ} {a b : Sight} {A : Assignment} {ms : List ℕ} {ts : List Typ} → Assigns F arity' U' a A → (x : Assigned F arity U a b A) → AllDenote A ms ts → AllDenote x.after ms ts
all_denote_on at x none_denote = none_denote
all_denote_on at x (one_denotes d ds) = one_denotes (denotes_on at x d) (all_denote_on at x ds)

-- one more
pub all_denote_more : {A : Assignment} {ms : List ℕ} {ts : List Typ} {m : ℕ} {t : Typ} → AllDenote A ms ts → Denotes A m t → AllDenote A (ms ++ m ∷ []) (ts ++ t ∷ [])
all_denote_more none_denote d = one_denotes d none_denote
all_denote_more (one_denotes e es) d = one_denotes e (all_denote_more es d)

-- A step that makes no node and changes none leaves an assignment.
module _ {F : Frame} {a b : Sight} (nodes : b.nodes ≡ a.nodes) (level : b.level ≡ a.level) (written : (x : Name) (n : ℕ) → a.written x ≡ Some n → b.written x ≡ Some n) where
  reached_still : Reaches F a → Reaches F b
  reached_still r = reaches_same nodes level written r

  pub assigns_still : {arity : ℕ} {U : List ℕ} {A : Assignment} → Assigns F arity U a A → Assigns F arity U b A
  assigns_still {A = A} at = record {
    reached = reached_still at.reached;
    loose = subst (λ ns. Loose ns A.types) (sym nodes) at.loose;
    opens = λ m i. open_next reached_still (λ r K own. subst (λ ns. Refines a.nodes ns K) (sym nodes) (refines_none a.nodes K (subst (λ ns. IsOwn ns K) nodes own))) (at.opens m i);
    each = λ J own v l o h e. at.each J (subst (λ ns. IsOwn ns J) nodes own) v l o h (subst (λ ns. slice_get ns v ≡ Some (Var l o)) nodes e);
    taken = at.taken;
    apart = λ J own v w h i e. at.apart J (subst (λ ns. IsOwn ns J) nodes own) v w h i e;
  }

  abbrev pub assigned_still : {arity : ℕ} {U : List ℕ} {A : Assignment} → Assigns F arity U a A → Assigned F arity U a b A
  assigned_still {A = A} at = record { after = A; assigns = assigns_still at; same = λ n lt. refl; keeps = λ m i. i; older = refl; longer = let e = ap length nodes in omega arith; reads = λ V h. subst (λ ns. IsReading ns V) nodes h }

-- a type after a step before it
abbrev pub to_after : {F : Frame} {arity arity' : ℕ} {U U' : List ℕ} {a b d : Sight} {A : Assignment} {m : ℕ} {t : Typ} (x : Assigned F arity U a b A) → AssignedTo F arity' U' b d x.after m t → AssignedTo F arity' U' a d A m t
to_after x y = record { on = assigned_then x y.on; denotes = y.denotes }

-- and before a step after it
abbrev pub to_before : {F : Frame} {arity arity' : ℕ} {U U' : List ℕ} {a b d : Sight} {A : Assignment} {m : ℕ} {t : Typ} (x : AssignedTo F arity U a b A m t) → Assigned F arity' U' b d x.on.after → AssignedTo F arity' U' a d A m t
to_before x y = record { on = assigned_then x.on y; denotes = denotes_on x.on.assigns y x.denotes }

-- no type, and one more
abbrev pub none_assigned : {F : Frame} {arity : ℕ} {U : List ℕ} {a : Sight} {A : Assignment} → Assigns F arity U a A → AllAssigned F arity U a a A [] []
none_assigned at = record { on = assigned_refl at; denote = none_denote }

abbrev pub more_assigned : {F : Frame} {arity arity' : ℕ} {U U' : List ℕ} {a b d : Sight} {A : Assignment} {ms : List ℕ} {ts : List Typ} {m : ℕ} {t : Typ} (x : AllAssigned F arity U a b A ms ts) → AssignedTo F arity' U' b d x.on.after m t →
    AllAssigned F arity' U' a d A (ms ++ m ∷ []) (ts ++ t ∷ [])
more_assigned x y = record { on = assigned_then x.on y.on; denote = all_denote_more (all_denote_on x.on.assigns y.on x.denote) y.denotes }
