-- Which demands are kept, in order, and what is reported of the others.
use Rattle.std.specs.Prelude.{◌≡◌, ◌≢◌, ◌⊎◌, ℕ, ◌+◌, Bool, true, false, if◌then◌else◌, List, [], ◌∷◌, ◌++◌}
use Rattle.tree_model.specs.Trees.{Place}
use Rattle.signature_model.specs.Entries.{Environment}
use Rattle.typing_model.specs.Demands.{Site, Demand, equal, test, agrees, matches, closes, Complaint, Condition, same, instance, made, known, demand, treated, AllHold}
use Rattle.typing_model.specs.Demands as complaint
use Rattle.typing_model.specs.Messages.{complaint_text}
use Rattle.env_table.specs.declared.faults.FaultKind.{FaultKind}
use Rattle.env_table.specs.declared.faults.FaultKind.TheVariants as fault
use Rattle.typing_conditions.specs.Sights.{Report}

-- how a demand is judged: its site, whether it is kept, and whether it is that a body closes
pub record Judgement : Type 0 where
  pub site : Site
  pub kept : Bool
  pub closing : Bool

-- the same, by its parts
abbrev pub judged_at : Site → Bool → Bool → Judgement
judged_at s k c = record { site = s; kept = k; closing = c }

-- whether a demand is that a body closes, which asks nothing of the types
abbrev pub is_closing : Demand → Bool
is_closing (equal t u) = false
is_closing (test c b) = false
is_closing (agrees c n s t) = false
is_closing (matches A t) = false
is_closing (closes env s) = true

-- what is kept of conditions, in order
abbrev pub judgements : (Site → Bool) → List Condition → List Judgement
judgements kept [] = []
judgements kept (same t u ∷ cs) = judgements kept cs
judgements kept (instance s t ∷ cs) = judgements kept cs
judgements kept (made n t ∷ cs) = judgements kept cs
judgements kept (known t ∷ cs) = judgements kept cs
judgements kept (demand s at d ∷ cs) = judged_at s (kept s) (is_closing d) ∷ judgements kept cs
judgements kept (treated n env ∷ cs) = judgements kept cs

-- how many demands aren't kept
abbrev pub refused : List Judgement → ℕ
refused [] = 0
refused (j ∷ js) = (if j.kept then 0 else 1) + refused js

-- a set of kept demands has these judgements
abbrev pub AreKept : (Site → Bool) → List Judgement → Type 0
AreKept kept [] = Unit {0}
AreKept kept (j ∷ js) = (kept j.site ≡ j.kept) × AreKept kept js

-- the first difference of two lists of judgements: the second list keeps a demand that the first doesn't, or they judge a closing differently
pub record FallsShort (xs ys : List Judgement) : Type 0 where
  pub before : List Judgement
  pub site : Site
  pub mine : Bool
  pub theirs : Bool
  pub closing : Bool
  pub left : List Judgement
  pub right : List Judgement
  pub short : xs ≡ before ++ judged_at site mine closing ∷ left
  pub full : ys ≡ before ++ judged_at site theirs closing ∷ right
  pub why : ((mine ≡ false) × (theirs ≡ true)) ⊎ ((closing ≡ true) × (mine ≢ theirs))

-- a demand was judged first; `Rest` is for the judgements after it, where it is kept as it was judged
abbrev pub JudgedBy : (Site → Bool) → Site → (List Judgement → Type 0) → List Judgement → Type 0
JudgedBy kept s Rest [] = ⊥
JudgedBy kept s Rest (j ∷ js) = (j.site ≡ s) × (kept j.site ≡ j.kept → Rest js)

-- the judgements are those of the demands of conditions, in order, as long as the demands are kept as they were judged
abbrev pub Follows : (Site → Bool) → List Condition → List Judgement → Type 0
Follows kept [] js = js ≡ []
Follows kept (same t u ∷ cs) js = Follows kept cs js
Follows kept (instance s t ∷ cs) js = Follows kept cs js
Follows kept (made n t ∷ cs) js = Follows kept cs js
Follows kept (known t ∷ cs) js = Follows kept cs js
Follows kept (demand s at d ∷ cs) js = JudgedBy kept s (λ later. Follows kept cs later) js
Follows kept (treated n env ∷ cs) js = Follows kept cs js

-- a list of judgements begins with others
pub record StartsWith (js first : List Judgement) : Type 0 where
  pub rest : List Judgement
  pub split : js ≡ first ++ rest

-- the kind of fault that a complaint is
abbrev pub kind_of : Complaint → FaultKind
kind_of (complaint.unbound w x) = fault.Bound
kind_of (complaint.arity x n m) = fault.Arity
kind_of complaint.no_label = fault.Label
kind_of (complaint.not_mutable x) = fault.Mutable
kind_of (complaint.incomplete x) = fault.Complete
kind_of (complaint.twice x) = fault.Unique
kind_of (complaint.one_side x) = fault.Sides
kind_of complaint.too_large = fault.Range
kind_of (complaint.cyclic x) = fault.Cycle
kind_of (complaint.differs x) = fault.Reexport
kind_of complaint.no_functor = fault.Functor
kind_of (complaint.no_abstract_type x n) = fault.With

-- the kind of fault of a demand
abbrev pub kind_of_demand : Demand → FaultKind
kind_of_demand (equal t u) = fault.Equal
kind_of_demand (test c b) = kind_of c
kind_of_demand (agrees c n s t) = kind_of c
kind_of_demand (matches A t) = fault.Match
kind_of_demand (closes env s) = fault.Closing

-- a message is that of a demand, where the demand is on names or that declarations tell the same; the messages of the others name types, and stay open
abbrev pub Says : Demand → List ℕ → Type 0
Says (equal t u) message = Unit {0}
Says (test c b) message = message ≡ complaint_text c
Says (agrees c n s t) message = message ≡ complaint_text c
Says (matches A t) message = Unit {0}
Says (closes env s) message = Unit {0}

-- a report is that of a demand at a place
pub record IsOf (at : Place) (d : Demand) (r : Report) : Type 0 where
  pub place : r.at ≡ at
  pub kind : r.kind ≡ kind_of_demand d
  pub message : Says d r.message

-- a demand that is kept isn't reported, and one that isn't is reported first; `Rest` is for the reports after it
abbrev pub TellBy : Bool → Place → Demand → (List Report → Type 0) → List Report → Type 0
TellBy true at d Rest rs = Rest rs
TellBy false at d Rest rs = (r : Report) × (later : List Report) × (rs ≡ r ∷ later) × IsOf at d r × Rest later

-- the reports are those of the demands that aren't kept, in order
abbrev pub TellAll : (Site → Bool) → List Condition → List Report → Type 0
TellAll kept [] rs = rs ≡ []
TellAll kept (same t u ∷ cs) rs = TellAll kept cs rs
TellAll kept (instance s t ∷ cs) rs = TellAll kept cs rs
TellAll kept (made n t ∷ cs) rs = TellAll kept cs rs
TellAll kept (known t ∷ cs) rs = TellAll kept cs rs
TellAll kept (demand s at d ∷ cs) rs = TellBy (kept s) at d (λ later. TellAll kept cs later) rs
TellAll kept (treated n env ∷ cs) rs = TellAll kept cs rs

-- whether the first of conditions is that a type is known
abbrev pub starts_known : List Condition → Bool
starts_known (known t ∷ cs) = true
starts_known _ = false

-- of each node that conditions say to be treated, of the environment in which it is, and of whether a type is told to be known directly after it, S holds
abbrev pub AllSeen : (S : ℕ → Environment → Bool → Type 0) → List Condition → Type 0
AllSeen S [] = Unit {0}
AllSeen S (same t u ∷ cs) = AllSeen S cs
AllSeen S (instance s t ∷ cs) = AllSeen S cs
AllSeen S (made n t ∷ cs) = AllSeen S cs
AllSeen S (known t ∷ cs) = AllSeen S cs
AllSeen S (demand s at d ∷ cs) = AllSeen S cs
AllSeen S (treated n env ∷ cs) = S n env (starts_known cs) × AllSeen S cs

-- what holds of any node and environment
abbrev pub AnySeen : ℕ → Environment → Bool → Type 0
AnySeen n env is_typed = Unit {0}

-- whether conditions say of no node that it is treated, and of no type that it is known
abbrev pub treats_none : List Condition → Bool
treats_none [] = true
treats_none (same t u ∷ cs) = treats_none cs
treats_none (instance s t ∷ cs) = treats_none cs
treats_none (made n t ∷ cs) = treats_none cs
treats_none (known t ∷ cs) = false
treats_none (demand s at d ∷ cs) = treats_none cs
treats_none (treated n env ∷ cs) = false

-- Conditions are met under a set of kept demands: these are the judgements of their demands, they hold, exactly the demands that aren't kept are reported, and S holds of the nodes that are treated.
-- `starts`: they don't start with that a type is known, which is only said of a node that is treated before, and of a name after a demand.
pub record Meets (S : ℕ → Environment → Bool → Type 0) (kept : Site → Bool) (cs : List Condition) (judged : List Judgement) (told : List Report) : Type 0 where
  pub same : judgements kept cs ≡ judged
  pub holds : AllHold kept cs
  pub tells : TellAll kept cs told
  pub sees : AllSeen S cs
  pub starts : starts_known cs ≡ false
