-- What calls leave as it was, and what they report, as the definitions see it.
use Rattle.std.proofs.Common.{◌≡◌, ◌∙◌, ◌++◌, ℕ, ◌-◌, ◌^◌, ◌<◌, ◌≤◌, min, Bool, true, false, List, [], ◌∷◌, refl, ap, arith, if◌then◌else◌}
use Rattle.text_terms.specs.declared.Span.{Span}
use Rattle.syntax_tree.specs.View.{place_of}
use Rattle.type_nodes.specs.Nodes.{bound_level}
use Rattle.type_nodes.specs.States.{State}
use Rattle.env_table.specs.declared.faults.Fault.{Fault}
use Rattle.env_table.specs.declared.faults.FaultKind.{FaultKind}
use Rattle.typing_state.specs.declared.parts.Telling.{Telling}
use Rattle.typing_state.specs.declared.parts.Telling.TheVariants.{Aloud, Quiet}
use Rattle.typing_state.specs.declared.parts.Parts.{Parts}
use Rattle.typing_state.specs.Goes.{faults_of, OnlyStore, OnlyFaults, OnlyStoreAndFaults, Told}
use Rattle.typing_state.specs.Types.{level_for}
use Rattle.typing_conditions.specs.Frames.{Frame, Reaches}
use Rattle.typing_conditions.specs.Steps.{OnlyNodes, OnlyReports, Tells}
use Rattle.typing_steps.specs.States.{is_warning, report_of, reports_of, is_aloud, written_in, fixed_of, sight}

-- the reports of faults one after the other
pub reports_both : (xs ys : List Fault) → reports_of (xs ++ ys) ≡ reports_of xs ++ reports_of ys
reports_both [] ys = refl
reports_both (x ∷ xs) ys = at (is_warning x.kind) (reports_both xs ys)
  where
    at : (b : Bool) → reports_of (xs ++ ys) ≡ reports_of xs ++ reports_of ys → (if b then reports_of (xs ++ ys) else report_of x ∷ reports_of (xs ++ ys)) ≡ (if b then reports_of xs else report_of x ∷ reports_of xs) ++ reports_of ys
    at true e = e
    at false e = ap (λ rs. report_of x ∷ rs) e

-- a call that changes the store alone changes the nodes alone
pub only_nodes : (a b : Parts) → OnlyStore a b → OnlyNodes (sight a) (sight b)
only_nodes a b s = record {
  types = λ i p. ap (λ x. (sight (record a { index = x })).types i p) s.index;
  noted = λ i p h. ap (λ x. (sight (record a { index = x })).noted i p) s.index ∙ h;
  scopes = λ i p env h. ap (λ x. (sight (record a { index = x })).scopes i p) s.index ∙ h;
  written = λ x. ap (λ w. written_in w x) s.written;
  reports = ap (λ f. (sight (record a { faults = f })).reports) s.faults;
  aloud = ap is_aloud s.telling;
  item = s.item;
  level = s.level;
  fixed = ap fixed_of s.constants;
}

-- a call that changes the faults alone changes the reports alone
pub only_reports : (a b : Parts) → OnlyFaults a b → OnlyReports (sight a) (sight b)
only_reports a b s = record {
  nodes = ap (λ (x : State). x.nodes) s.store;
  types = λ i p. ap (λ x. (sight (record a { index = x })).types i p) s.index;
  noted = λ i p h. ap (λ x. (sight (record a { index = x })).noted i p) s.index ∙ h;
  scopes = λ i p env h. ap (λ x. (sight (record a { index = x })).scopes i p) s.index ∙ h;
  written = λ x. ap (λ w. written_in w x) s.written;
  aloud = ap is_aloud s.telling;
  item = s.item;
  level = s.level;
  fixed = ap fixed_of s.constants;
}

-- where all is as before nothing changes
pub same_state : (a b : Parts) → b ≡ a → OnlyReports (sight a) (sight b)
same_state a b e = only_reports a b (record {
  store = ap (λ p. p.store) e;
  index = ap (λ p. p.index) e;
  written = ap (λ p. p.written) e;
  item = ap (λ p. p.item) e;
  level = ap (λ p. p.level) e;
  telling = ap (λ p. p.telling) e;
  constants = ap (λ p. p.constants) e;
})

-- where a call that may change both leaves the faults, it changes the nodes alone
pub nodes_of_both : (a b : Parts) → OnlyStoreAndFaults a b → b.faults ≡ a.faults → OnlyNodes (sight a) (sight b)
nodes_of_both a b s same = only_nodes a b (record { index = s.index; faults = same; written = s.written; item = s.item; level = s.level; telling = s.telling; constants = s.constants })

-- where it leaves the store, it changes the reports alone
pub reports_of_both : (a b : Parts) → OnlyStoreAndFaults a b → b.store ≡ a.store → OnlyReports (sight a) (sight b)
reports_of_both a b s same = only_reports a b (record { store = same; index = s.index; written = s.written; item = s.item; level = s.level; telling = s.telling; constants = s.constants })

-- where faults are reported, a fault of a kind that is no warning is one report, with its message
pub tells_one : (a b : Parts) (at : Span) (kind : FaultKind) (message : List ℕ) → is_warning kind ≡ false → is_aloud a.telling ≡ true → Told a.telling (faults_of a) (faults_of b) at kind message →
    Tells (sight a) (sight b) (place_of at) kind message
tells_one a b at kind message real aloud told = by a.telling aloud told
  where
    by : (t : Telling) → is_aloud t ≡ true → Told t (faults_of a) (faults_of b) at kind message → Tells (sight a) (sight b) (place_of at) kind message
    by Quiet e h = absurd (cc)
    by Aloud e (text, is, more) =
        let f : Fault = record { span = at; kind = kind; message = text } in
        record {
          report = report_of f;
          reports = ap reports_of more ∙ reports_both (faults_of a) (f ∷ []) ∙ ap (λ (w : Bool). reports_of (faults_of a) ++ (if w then [] else report_of f ∷ [])) real;
          place = refl;
          is_kind = refl;
          says = is;
        }

level_as : (l m : ℕ) → l < m → m ≡ 2 ^ 32 - 1 → min l (2 ^ 32 - 2) ≡ l
level_as l m lt e = min_left l (2 ^ 32 - 2) (omega arith)
  where
    min_left : (l m : ℕ) → l ≤ m → min l m ≡ l
    min_left l m le = grind arith

-- in a state that a frame reaches, new variables have the frame's level
pub level_here : {F : Frame} (a : Parts) → Reaches F (sight a) → level_for a.level ≡ F.level
level_here {F} a r = ap level_for r.level ∙ level_as F.level bound_level r.frame.free refl
