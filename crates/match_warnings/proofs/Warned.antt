-- Calls that only warn, and which warnings they may report.
use Rattle.std.proofs.Common.{◌∙◌, ◌++◌, ◌≡◌, Bool, true, ℕ, List, [], ◌∷◌, inl, inr, refl, sym, ap, subst, append_assoc, append-nil, if◌then◌else◌}
use Rattle.std.specs.Prelude.{OnOk, Result, Ok, Err}
use Rattle.text_terms.specs.declared.Span.{Span}
use Rattle.env_table.specs.declared.faults.Fault.{Fault}
use Rattle.env_table.specs.declared.faults.FaultKind.{FaultKind}
use Rattle.typing_state.specs.declared.parts.Parts.{Parts}
use Rattle.typing_state.specs.declared.parts.Telling.{Telling}
use Rattle.typing_state.specs.declared.parts.Telling.TheVariants.{Aloud, Quiet}
use Rattle.syntax_tree.specs.View.{place_of}
use Rattle.typing_state.specs.Goes.{faults_of, OnlyFaults, Told, Silent}
use Rattle.typing_state.proofs.Going.{only_faults_same, only_faults_trans}
use Rattle.typing_steps.specs.States.{is_warning, report_of, reports_of}
use Rattle.typing_steps.specs.Warning.{OnlyWarnings}
use Rattle.typing_steps.proofs.Seeing.{reports_both}
use Rattle.match_warnings.specs.Warnings.{Warning, AreSomeOf, WarnsOf}

-- nothing is reported
pub warns_none : (at : Parts) → OnlyWarnings at at
warns_none at = record { rest = only_faults_same at at refl; told = refl }

-- one call after another
pub warns_both : (a b c : Parts) → OnlyWarnings a b → OnlyWarnings b c → OnlyWarnings a c
warns_both a b c p q = record { rest = only_faults_trans a b c p.rest q.rest; told = q.told ∙ p.told }

-- the same, where the last call's result is the result
pub ends_warned : {A E : Type 0} (r : Result A E) (a b c : Parts) → OnlyWarnings a b → OnOk r (OnlyWarnings b c) → OnOk r (OnlyWarnings a c)
ends_warned (Ok x) a b c p q = warns_both a b c p q
ends_warned (Err e) a b c p q = tt

-- one warning
pub warned : (t : Telling) (a b : Parts) (at : Span) (kind : FaultKind) (message : List ℕ) → is_warning kind ≡ true → OnlyFaults a b → Told t (faults_of a) (faults_of b) at kind message → OnlyWarnings a b
warned Quiet a b at kind message warning rest told = record { rest = rest; told = ap reports_of told }
warned Aloud a b at kind message warning rest (text, is, told) =
    let f : Fault = record { span = at; kind = kind; message = text } in
    record {
      rest = rest;
      told = ap reports_of told ∙ reports_both (faults_of a) (f ∷ []) ∙ ap (λ (w : Bool). reports_of (faults_of a) ++ (if w then [] else report_of f ∷ [])) warning ∙ append-nil (reports_of (faults_of a));
    }

-- the same of the call that reports it
pub report_warns : {A E : Type 0} (r : Result A E) (t : Telling) (a b : Parts) (at : Span) (kind : FaultKind) (message : List ℕ) → is_warning kind ≡ true → OnlyFaults a b →
    OnOk r (Told t (faults_of a) (faults_of b) at kind message) → OnOk r (OnlyWarnings a b)
report_warns (Ok x) t a b at kind message warning rest told = warned t a b at kind message warning rest told
report_warns (Err e) t a b at kind message warning rest told = tt

-- none of some warnings
none_of : (ws : List Warning) → AreSomeOf ws []
none_of [] = refl
none_of (w ∷ ws) = inl (none_of ws)

-- some of these, and then some of those
some_both : (ws vs : List Warning) (xs ys : List Fault) → AreSomeOf ws xs → AreSomeOf vs ys → AreSomeOf (ws ++ vs) (xs ++ ys)
some_both [] vs xs ys p q = subst (λ zs. AreSomeOf vs (zs ++ ys)) (sym p) q
some_both (w ∷ ws) vs xs ys (inl p) q = inl (some_both ws vs xs ys p q)
some_both (w ∷ ws) vs xs ys (inr (f, later, e, kind, at, p)) q = inr (f, later ++ ys, ap (λ zs. zs ++ ys) e, kind, at, some_both ws vs later ys p q)

-- where nothing is reported it is none of the warnings
pub silent_of : (ws : List Warning) (a b : Parts) → Silent a b → WarnsOf ws a b
silent_of ws a b h = record { more = []; faults = h ∙ sym (append-nil (faults_of a)); some = none_of ws }

-- where nothing happens
pub none_at : (ws : List Warning) (a : Parts) → WarnsOf ws a a
none_at ws a = silent_of ws a a refl

-- some warnings, and then others
pub of_both : (ws vs : List Warning) (a b c : Parts) → WarnsOf ws a b → WarnsOf vs b c → WarnsOf (ws ++ vs) a c
of_both ws vs a b c p q = record {
  more = p.more ++ q.more;
  faults = q.faults ∙ ap (λ fs. fs ++ q.more) p.faults ∙ append_assoc (faults_of a) p.more q.more;
  some = some_both ws vs p.more q.more p.some q.some;
}

-- the same, where the last call's result is the result
pub ends_both : {A E : Type 0} (r : Result A E) (ws vs : List Warning) (a b c : Parts) → WarnsOf ws a b → OnOk r (WarnsOf vs b c) → OnOk r (WarnsOf (ws ++ vs) a c)
ends_both (Ok x) ws vs a b c p q = of_both ws vs a b c p q
ends_both (Err e) ws vs a b c p q = tt

-- the one warning that is reported
told_of : (t : Telling) (a b : Parts) (at : Span) (kind : FaultKind) (message : List ℕ) → Told t (faults_of a) (faults_of b) at kind message → WarnsOf (record { kind = kind; at = place_of at } ∷ []) a b
told_of Quiet a b at kind message told = silent_of (record { kind = kind; at = place_of at } ∷ []) a b told
told_of Aloud a b at kind message (text, is, told) =
    let f : Fault = record { span = at; kind = kind; message = text } in
    record { more = f ∷ []; faults = told; some = inr (f, [], refl, refl, refl, refl) }

-- the same of the call that reports it
pub report_of_one : {A E : Type 0} (r : Result A E) (t : Telling) (a b : Parts) (at : Span) (kind : FaultKind) (message : List ℕ) →
    OnOk r (Told t (faults_of a) (faults_of b) at kind message) → OnOk r (WarnsOf (record { kind = kind; at = place_of at } ∷ []) a b)
report_of_one (Ok x) t a b at kind message told = told_of t a b at kind message told
report_of_one (Err e) t a b at kind message told = tt

-- a silent call after warnings
pub of_silent : (ws : List Warning) (a b c : Parts) → WarnsOf ws a b → Silent b c → WarnsOf ws a c
of_silent ws a b c p h = record { more = p.more; faults = h ∙ p.faults; some = p.some }
