-- What is settled of a node, with the type that it denotes: conditions one after the other, and a type expression with its parts.
use Rattle.std.proofs.Common.{◌≡◌, ◌∙◌, ◌++◌, ℕ, suc, arith, Bool, List, [], ◌∷◌, refl, sym, ap, subst, append_assoc, append-nil}
use Rattle.type_model.specs.Types.{Typ}
use Rattle.signature_model.specs.Declarations.{Name, unknown}
use Rattle.typing_model.specs.Demands.{Site, same}
use Rattle.typing_model.specs.Contexts.{Context, type_at, unresolved, unresolved_in}
use Rattle.typing_state.specs.declared.parts.Parts.{Parts}
use Rattle.typing_state.specs.Goes.{OnlyFaults}
use Rattle.type_nodes.specs.Nodes.{Var}
use Rattle.type_nodes.specs.Changes.{Makes}
use Rattle.typing_conditions.specs.Sights.{Sight}
use Rattle.typing_conditions.specs.Frames.{Frame}
use Rattle.typing_conditions.specs.Carrying.{Asks}
use Rattle.typing_conditions.proofs.Equals.{judged_as}
use Rattle.typing_steps.specs.States.{sight}
use Rattle.typing_steps.proofs.Seeing.{only_nodes, only_reports, level_here}
use Rattle.typing_rows.specs.Settled.{Before, IsBehind, behind, SettledTo}
use Rattle.typing_rows.proofs.Judging.{Judges}
use Rattle.typing_rows.proofs.Settling.{settled_trans, settled_here, settled_same}
use Rattle.typing_rows.proofs.DeclaredOrdered.{store_reports}
use Rattle.declared_rows.specs.Assignments.{Assignment, Assigns, Assigned, AssignedTo}
use Rattle.declared_rows.specs.Contracts.{EndDenoted, MakesUnknown}
use Rattle.declared_rows.proofs.Going.{assigns_still, assigned_still, to_after}
use Rattle.declared_rows.proofs.Made.{assigned_same, unknown_made}

-- more type expressions may have unknown types
pub assigns_more : {F : Frame} {arity : ℕ} {U : List ℕ} {a : Sight} {A : Assignment} (n : ℕ) → Assigns F arity U a A → Assigns F arity (n ∷ U) a A
assigns_more n at = record {
  reached = at.reached;
  loose = at.loose;
  opens = at.opens;
  each = λ J own v l o h e. assigned_same refl (λ k (i, e). (suc i, e)) (omega arith) (at.each J own v l o h e);
  taken = λ k i. let (j, e) = at.taken k i in (suc j, e);
  apart = at.apart;
}

abbrev pub to_more : {F : Frame} {arity : ℕ} {U : List ℕ} {a b : Sight} {A : Assignment} {m : ℕ} {t : Typ} (n : ℕ) → AssignedTo F arity U a b A m t → AssignedTo F arity (n ∷ U) a b A m t
to_more n x = record { on = record { after = x.on.after; assigns = assigns_more n x.on.assigns; same = x.on.same; keeps = x.on.keeps; older = x.on.older; longer = x.on.longer; reads = x.on.reads }; denotes = x.denotes }

-- conditions with one type for a node, which may be written in another way
abbrev pub settled_as : {B : Before} {others : Asks} {a b : Sight} {n : ℕ} (t : Typ) (u : Context → Typ) → ((c : Context) → IsBehind B c → u c ≡ t) → ((c : Context) → IsBehind B c → same (type_at c n) (u c) ∷ [] ≡ others c) → b.reports ≡ a.reports → SettledTo B others a b n
settled_as {a = a} {n = n} t u e f kept = record { judged = []; told = []; fixes = (n, t) ∷ []; type = t; reports = kept ∙ sym (append-nil a.reports); settled = settled_here f (settled_same n t u e); gives = λ ch h. h.0 }

-- an unknown type
pub unknown_denoted : {B : Before} {F : Frame} {arity : ℕ} {U : List ℕ} {A : Assignment} (a b : Parts) (others : Asks) (n m : ℕ) → ((c : Context) → IsBehind B c → unresolved c n ≡ others c) → (names : List Name) → B.names ≡ names → Assigns F arity U (sight a) A → MakesUnknown a b m → EndDenoted B others F arity U a b A n m
unknown_denoted {B} {F} {arity} {U} {A} a b others n m asked names are at (made, rest) = record {
  settled = settled_as (unknown (n ∷ [])) (λ c. unknown (n ∷ [])) (λ c h. refl) (λ c h. sym (ap (unresolved_in c n) h.variables) ∙ asked c h) (store_reports a b rest);
  to = λ new. unknown_made {s = a.store.trail} {u = b.store.trail} n at new (subst (λ l. Makes a.store b.store m (Var l 0)) (level_here a at.reached) made) (only_nodes a b rest);
}

-- what is asked may be written in another way, where it is the same in each context that stands there
pub end_here : {B : Before} {asks others : Asks} {F : Frame} {arity : ℕ} {U : List ℕ} {a b : Parts} {A : Assignment} {n m : ℕ} → ((c : Context) → IsBehind B c → asks c ≡ others c) → EndDenoted B asks F arity U a b A n m → EndDenoted B others F arity U a b A n m
end_here e x = record {
  settled = record { judged = x.settled.judged; told = x.settled.told; fixes = x.settled.fixes; type = x.settled.type; reports = x.settled.reports; settled = settled_here e x.settled.settled; gives = x.settled.gives };
  to = x.to;
}

-- where all is as before at most the faults change
pub same_faults : (a b : Parts) → b ≡ a → OnlyFaults a b
same_faults a b e = record {
  store = ap (λ p. p.store) e;
  index = ap (λ p. p.index) e;
  written = ap (λ p. p.written) e;
  item = ap (λ p. p.item) e;
  level = ap (λ p. p.level) e;
  telling = ap (λ p. p.telling) e;
  constants = ap (λ p. p.constants) e;
}

-- a call that changes the faults alone leaves an assignment
abbrev pub faults_only : {F : Frame} {arity : ℕ} {U : List ℕ} {A : Assignment} (a b : Parts) → OnlyFaults a b → Assigns F arity U (sight a) A → Assigned F arity U (sight a) (sight b) A
faults_only a b rest at = let r = only_reports a b rest in assigned_still r.nodes r.level (λ x m e. r.written x ∙ e) at

pub faults_assigns : {F : Frame} {arity : ℕ} {U : List ℕ} {A : Assignment} (a b : Parts) → OnlyFaults a b → Assigns F arity U (sight a) A → Assigns F arity U (sight b) A
faults_assigns a b rest at = let r = only_reports a b rest in assigns_still r.nodes r.level (λ x m e. r.written x ∙ e) at

-- a demand, and then the end of a type expression behind it
pub judged_denoted : {B : Before} {asks further : Asks} {F : Frame} {arity : ℕ} {U : List ℕ} {A : Assignment} {s : Site} {v : Bool} {n m : ℕ} (a b d : Parts) → Judges B asks (sight a) (sight b) s v → OnlyFaults a b → Assigns F arity U (sight a) A →
    EndDenoted (behind B (judged_as s v) []) further F arity U b d A n m → EndDenoted B (λ c. asks c ++ further c) F arity U a d A n m
judged_denoted {s = s} {v = v} a b d x rest at y = record {
  settled = record {
    judged = judged_as s v ++ y.settled.judged;
    told = x.told ++ y.settled.told;
    fixes = y.settled.fixes;
    type = y.settled.type;
    reports = y.settled.reports ∙ ap (λ rs. rs ++ y.settled.told) x.reports ∙ append_assoc (sight a).reports x.told y.settled.told;
    settled = settled_trans x.settled y.settled.settled;
    gives = y.settled.gives;
  };
  to = λ new. to_after (faults_only a b rest at) (y.to new);
}
