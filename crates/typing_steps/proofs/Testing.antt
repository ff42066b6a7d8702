-- Tests of names: each is judged, kept or reported.
use Rattle.std.proofs.Common.{◌≡◌, ◌∙◌, inl, inr, ℕ, ◌==◌, Bool, true, false, List, [], ◌∷◌, take, refl, sym, ap, subst}
use Rattle.std.specs.Prelude.{not, if◌then◌else◌, ◌++◌}
use Rattle.std.proofs.lemmas.Bool.{ne_eqb}
use Rattle.type_model.proofs.Applying.{eqb_same}
use Rattle.text_terms.specs.declared.Span.{Span}
use Rattle.tree_model.specs.Trees.{Place}
use Rattle.syntax_tree.specs.View.{place_of}
use Rattle.signature_model.specs.Declarations.{Name}
use Rattle.typing_model.specs.Demands.{Site, test, Complaint, demand, AllHold}
use Rattle.typing_model.specs.Demands as complaint
use Rattle.typing_model.specs.Messages.{complaint_text}
use Rattle.typing_model.specs.Contexts.{Context}
use Rattle.typing_model.specs.Records.{is_among}
use Rattle.type_nodes.specs.Readings.{Types}
use Rattle.level_unify.specs.Solutions.{Loose}
use Rattle.level_unify.proofs.Unified.{fits_loosely}
use Rattle.env_table.specs.declared.faults.FaultKind.TheVariants as fault
use Rattle.typing_state.specs.declared.parts.Parts.{Parts}
use Rattle.typing_state.specs.declared.demands.Verdict.{Verdict}
use Rattle.typing_state.specs.declared.demands.Verdict.TheVariants.{Kept, Reported}
use Rattle.typing_state.specs.Goes.{faults_of, OnlyFaults, Told}
use Rattle.typing_state.specs.Messages.{twice_text}
use Rattle.typing_state.specs.Demands.{ArityIs}
use Rattle.typing_conditions.specs.Sights.{Sight, Letters, Agrees}
use Rattle.typing_conditions.specs.Frames.{Frame}
use Rattle.typing_conditions.specs.Seeing.{IsSeen}
use Rattle.typing_conditions.specs.Judging.{Judgement, judgements, Follows, FallsShort, Meets, kind_of}
use Rattle.typing_conditions.specs.Steps.{OnlyReports, Tells}
use Rattle.typing_conditions.specs.Carrying.{Asks, Scope, HoldsWritten, IsUnder, Enters, ReadsOff, Carried}
use Rattle.typing_conditions.proofs.Stays.{agrees_before, named_before}
use Rattle.typing_conditions.proofs.Carried.{Decides}
use Rattle.typing_conditions.proofs.Branching.{carried_if}
use Rattle.typing_conditions.proofs.Stops.{stop_here}
use Rattle.typing_conditions.proofs.Tests.{TestIs, test_judged}
use Rattle.typing_steps.specs.States.{is_warning, is_aloud, sight}
use Rattle.typing_steps.specs.Demands.{JudgedAs, is_kept, TestedAs}
use Rattle.typing_steps.proofs.Seeing.{only_reports, same_state, tells_one}

-- conditions are the same in each context that a state allows
abbrev pub AreSameHere : Frame → Scope → Sight → Letters → Asks → Asks → Type 0
AreSameHere F scope a G asks others = (V : Types) (c : Context) → Loose a.nodes V → IsUnder scope c → Agrees F.owner a G V c.chosen → HoldsWritten scope a → asks c ≡ others c

-- Conditions may be written in another way, where they are the same in each context that the state before allows.
unfoldable pub carried_here : {F : Frame} {scope : Scope} {asks others : Asks} {a b : Sight} {G H : Letters} → AreSameHere F scope a G asks others → Carried F scope asks a G b H → Carried F scope others a G b H
carried_here {F} {scope} {asks} {others} {a} {b} {G} {H} e p = record {
  stays = p.stays;
  hidden = p.hidden;
  settled = p.settled;
  clear = p.clear;
  judged = p.judged;
  told = p.told;
  reports = p.reports;
  counted = p.counted;
  sound = λ r V c l. subst (λ cs. Meets (IsSeen l.scopes l.types V) c.kept cs p.judged p.told) (at_end p.judged V c l) (p.sound r V c l);
  follows = λ r V c l. subst (λ cs. Follows c.kept cs p.judged) (at_end [] V c l) (p.follows r V c l);
  complete = λ named V c en h. elim (p.complete named V c en (subst (AllHold c.kept) (sym (at_start named V c en)) h)) [
    | inl goes ↦ inl (record { same = ap (judgements c.kept) (sym (at_start named V c en)) ∙ goes.same; types = goes.types; on = goes.on; hidden_too = goes.hidden_too })
    | inr short ↦ inr (subst (λ cs. FallsShort (judgements c.kept cs) p.judged) (at_start named V c en) short)
  ];
  first = λ named k V c en h. subst (λ cs. Decides c p.judged (take k cs)) (at_start named V c en) (p.first named k V c en (subst (λ cs. AllHold c.kept (take k cs)) (sym (at_start named V c en)) h));
  stops = λ k r f kind. stop_here e (p.stops k r f kind);
}
  where
    at_start : HoldsWritten scope b → (V : Types) (c : Context) → Enters F scope a G V c → asks c ≡ others c
    at_start named V c en = e V c (fits_loosely a.nodes V en.fits) en.under en.agrees (named_before scope p.stays named)

    at_end : (js : List Judgement) (V : Types) (c : Context) → ReadsOff F scope b H p.hidden js V c → asks c ≡ others c
    at_end js V c l = e V c (p.stays.loose V (fits_loosely b.nodes V l.reads.fits)) l.under (agrees_before p.stays l.agrees) (named_before scope p.stays l.named)

-- they hide the same then
pub here_hides : {F : Frame} {scope : Scope} {asks others : Asks} {a b : Sight} {G H : Letters} (e : AreSameHere F scope a G asks others) (p : Carried F scope asks a G b H) → (carried_here e p).hidden ≡ p.hidden
unfolding carried_here
here_hides e p = refl

-- and their demand is judged so
pub judged_here : {F : Frame} {scope : Scope} {asks others : Asks} {a b : Sight} {G H : Letters} {s : Site} {v : Bool} → AreSameHere F scope a G asks others → JudgedAs F scope asks a G b H s v → JudgedAs F scope others a G b H s v
unfolding carried_here
judged_here e p = record { carried = carried_here e p.carried; verdict = p.verdict }

-- after one demand: what is asked where it is kept, or what is asked where it isn't
pub judged_if : {F : Frame} {scope : Scope} {asks : Asks} {a b d : Sight} {G H K : Letters} {s : Site} {v : Bool} (kept_so other : Asks) → JudgedAs F scope asks a G b H s v →
    Carried F scope (λ c. if v then kept_so c else other c) b H d K → Carried F scope (λ c. asks c ++ (if c.kept s then kept_so c else other c)) a G d K
judged_if {s = s} {v = v} kept_so other p q = carried_if kept_so other s v p.carried p.verdict q

-- a test that is one in every context
always_is : {scope : Scope} (x : Complaint) (v : Bool) (place : Place) → TestIs scope (λ c. x) (λ c. v) (λ c. place) v place (kind_of x) (complaint_text x)
always_is x v place = record { truth = λ c u. refl; here = λ c u. refl; is_kind = λ c u. refl; says = λ c u. refl }

-- a test that holds, where nothing is reported
pub test_held : {F : Frame} {scope : Scope} {G : Letters} {place : Place} {a b : Sight} (x : Complaint) (s : Site) → OnlyReports a b → b.reports ≡ a.reports → JudgedAs F scope (λ c. demand s place (test x true) ∷ []) a G b G s true
unfolding test_judged
test_held {scope = scope} {place = place} x s rest same = record { carried = test_judged s true (always_is {scope = scope} x true place) rest same; verdict = refl }

-- a test that doesn't hold, and is reported
pub test_reported : {F : Frame} {scope : Scope} {G : Letters} {place : Place} {a b : Sight} (x : Complaint) (s : Site) → OnlyReports a b → Tells a b place (kind_of x) (complaint_text x) → JudgedAs F scope (λ c. demand s place (test x false) ∷ []) a G b G s false
unfolding test_judged
test_reported {scope = scope} {place = place} x s rest tells = record { carried = test_judged s false (always_is {scope = scope} x false place) rest tells; verdict = refl }

-- no complaint is a warning
pub complains_really : (x : Complaint) → is_warning (kind_of x) ≡ false
complains_really (complaint.unbound w x) = refl
complains_really (complaint.arity x n m) = refl
complains_really complaint.no_label = refl
complains_really (complaint.not_mutable x) = refl
complains_really (complaint.incomplete x) = refl
complains_really (complaint.twice x) = refl
complains_really (complaint.one_side x) = refl
complains_really complaint.too_large = refl
complains_really (complaint.cyclic x) = refl
complains_really (complaint.differs x) = refl
complains_really complaint.no_functor = refl
complains_really (complaint.no_abstract_type x n) = refl

-- A test that leaves all as it was where it holds, and is reported by one fault, with the message of its complaint, where it doesn't. It fits each call of the state that reports a complaint:
-- `unbound`, `twice`, `one_side`, `incomplete`, `not_mutable`, `cyclic`, `differs_from`, `no_label` and `too_large`.
pub test_asked : (a b : Parts) {F : Frame} {scope : Scope} {G : Letters} {at : Span} (x : Complaint) (s : Site) (v : Bool) → is_aloud a.telling ≡ true → TestedAs v a b at (kind_of x) (complaint_text x) →
    JudgedAs F scope (λ c. demand s (place_of at) (test x v) ∷ []) (sight a) G (sight b) G s v
test_asked a b x s true aloud same = test_held x s (same_state a b same) (ap (λ p. (sight p).reports) same)
test_asked a b {at = at} x s false aloud (told, rest) = test_reported x s (only_reports a b rest) (tells_one a b at (kind_of x) (complaint_text x) (complains_really x) aloud told)

-- a call that reports a complaint, by its own clauses
pub complaint_told : (a b : Parts) {F : Frame} {scope : Scope} {G : Letters} {at : Span} (x : Complaint) (s : Site) → is_aloud a.telling ≡ true → Told a.telling (faults_of a) (faults_of b) at (kind_of x) (complaint_text x) → OnlyFaults a b →
    JudgedAs F scope (λ c. demand s (place_of at) (test x false) ∷ []) (sight a) G (sight b) G s false
complaint_told a b x s aloud told rest = test_asked a b x s false aloud (told, rest)

-- `is_new`, once its contract says that a name which is among those before is reported, and that all is as before otherwise
pub new_asked : (a b : Parts) {F : Frame} {scope : Scope} {G : Letters} {at : Span} (x : Name) (seen : List Name) (s : Site) → is_aloud a.telling ≡ true → TestedAs (not (is_among x seen)) a b at fault.Unique (twice_text x) →
    JudgedAs F scope (λ c. demand s (place_of at) (test (complaint.twice x) (not (is_among x seen))) ∷ []) (sight a) G (sight b) G s (not (is_among x seen))
new_asked a b x seen s aloud tested = test_asked a b (complaint.twice x) s (not (is_among x seen)) aloud tested

-- `arity`: as many arguments are given as are taken, or that is reported
pub arity_asked : (a b : Parts) {F : Frame} {scope : Scope} {G : Letters} {at : Span} {name : List ℕ} {taken given : ℕ} (s : Site) (v : Verdict) → is_aloud a.telling ≡ true → ArityIs v a b at name taken given → OnlyFaults a b →
    JudgedAs F scope (λ c. demand s (place_of at) (test (complaint.arity name taken given) (taken == given)) ∷ []) (sight a) G (sight b) G s (is_kept v)
arity_asked a b {F} {scope} {G} {at} {name} {taken} {given} s Kept aloud (e, same) rest =
    let holds : true ≡ (taken == given) = sym (ap (λ n. taken == n) (sym e) ∙ eqb_same taken) in
    subst (λ t. JudgedAs F scope (λ c. demand s (place_of at) (test (complaint.arity name taken given) t) ∷ []) (sight a) G (sight b) G s true) holds
    (test_held (complaint.arity name taken given) s (only_reports a b rest) (ap (λ p. (sight p).reports) same))
arity_asked a b {F} {scope} {G} {at} {name} {taken} {given} s Reported aloud (other, told) rest =
    subst (λ t. JudgedAs F scope (λ c. demand s (place_of at) (test (complaint.arity name taken given) t) ∷ []) (sight a) G (sight b) G s false) (sym (ne_eqb taken given other))
    (test_reported (complaint.arity name taken given) s (only_reports a b rest) (tells_one a b at (kind_of (complaint.arity name taken given)) _ refl aloud told))
