-- Signatures with types or numbers put in, through the calls that do so.
use Rattle.std.proofs.Common.{◌≡◌, ◌≢◌, ℕ, List, [], ◌∷◌, refl, sym, ap, ◌∙◌, subst, arith}
use Rattle.std.specs.Prelude.{if◌then◌else◌}
use Rattle.type_model.specs.Types.{Path}
use Rattle.type_nodes.specs.Nodes.{Node}
use Rattle.type_nodes.specs.Readings.{Types}
use Rattle.signature_model.specs.Changes.{Change, among, in_front}
use Rattle.level_unify.specs.Copies.{Extends}
use Rattle.env_table.specs.declared.entries.Components.{Components}
use Rattle.env_table.specs.declared.entries.Entry.{Entry}
use Rattle.env_table.specs.declared.entries.Sig.{Sig}
use Rattle.env_table.specs.declared.entries.Sig.TheOpen.{Template-F}
use Rattle.env_table.specs.declared.entries.Template.{Template, out-Template, roll-Template, out-roll-Template}
use Rattle.env_table.specs.declared.entries.What.{What}
use Rattle.type_reading.specs.declared.changes.Changes.{Changes}
use Rattle.type_reading.specs.declared.changes.Real.{Real}
use Rattle.type_reading.specs.Copying.{paths_of, change_by, real_at, AreDeclared}
use Rattle.sig_template.specs.declared.realising.Realised.{Realised}
use Rattle.sig_template.specs.Ways.{sig_of}
use Rattle.sig_template.specs.Live.{AreLive}
use Rattle.sig_template.specs.Changed.{made_of, IsChangedSig}
use Rattle.sig_template.specs.Realising.{Realises}
use Rattle.sig_template.proofs.Later.{live_later}
use Rattle.signature_match.specs.Wanting.{IsRealisedIn, IsWanted, IsRenewed, IsRenewedBody}

-- types are found, put in and closed
pub put_into : (old mid after new : List Node) (A : Sig) (t : Template) (r : Realised) (before changed : Sig) → Realises old A t r → Extends old mid →
    (AreDeclared old r.changes.real.items → AreDeclared mid r.changes.real.items) →
    (AreDeclared mid r.changes.real.items → AreLive mid before → IsChangedSig after (change_by r.changes) before changed) → (r.opened.items ≡ [] → new ≡ after) → IsRealisedIn old new A t before changed
put_into old mid after new A t r before changed realises extends later put closes = record {
  realised = r;
  realises = realises;
  put = record {
    changed = λ none declared live.
        subst (λ nodes. IsChangedSig nodes (change_by r.changes) before changed) (sym (closes none)) (put (later declared) (live_later old mid extends.longer before live));
  };
}

-- a template that makes no origin
pub wants_own : (nodes : List Node) (A : Sig) (t : Template) (s : Sig) → (out-Template t).made.items ≡ [] → s ≡ sig_of t → IsWanted nodes nodes A t s
wants_own nodes A t s none is = record { same = λ _. (is, refl); realised = λ some. absurd (some none) }

-- one whose origins are realised
pub wants_realised : (old new : List Node) (A : Sig) (t : Template) (s : Sig) → (out-Template t).made.items ≢ [] → IsRealisedIn old new A t (sig_of t) s → IsWanted old new A t s
wants_realised old new A t s some in_it = record {
  same = λ none. absurd (some none);
  realised = λ _. record { realised = in_it.realised; realises = in_it.realises; put = in_it.put };
}

-- a change by these paths, this number and these types
abbrev put_by : List Path → ℕ → List Real → Types → Change
put_by made number real V = record { path = λ o. if among o made then number ∷ o else o; real = λ o. real_at V o real }

-- a change without types puts a number in front
pub renews : (old new : List Node) (changes : Changes) (made : List Path) (number : ℕ) (from before after : Sig) → changes.real.items ≡ [] → changes.number ≡ number → paths_of changes.made.items ≡ made → from ≡ before →
    (AreDeclared old changes.real.items → AreLive old from → IsChangedSig new (change_by changes) from after) → IsRenewed old new made number before after
renews old new changes made number from before after none is same own put live =
    at changes.real.items changes.number (paths_of changes.made.items) none is same
    (subst (λ b. IsChangedSig new (change_by changes) b after) own (put (subst (AreDeclared old) (sym none) (λ k d lt. absurd (omega arith))) (subst (AreLive old) (sym own) live)))
  where
    at : (real : List Real) (u : ℕ) (paths : List Path) → real ≡ [] → u ≡ number → paths ≡ made → IsChangedSig new (put_by paths u real) before after → IsChangedSig new (λ _. in_front made number) before after
    at real u paths e f g changed =
        subst (λ rs. IsChangedSig new (put_by made number rs) before after) e
        (subst (λ n. IsChangedSig new (put_by made n real) before after) f (subst (λ ps. IsChangedSig new (put_by ps u real) before after) g changed))

-- the template that is made of a renewed body
pub renewed_template : (old new : List Node) (number : ℕ) (parameter body : Template) (f : Template-F Sig What Components Entry Template) → paths_of f.made.items ≡ made_of body →
    IsRenewed old new (made_of parameter) number (sig_of body) f.sig.value → IsRenewedBody old new number parameter body (roll-Template f)
renewed_template old new number parameter body f made sig = record {
  made = ap (λ (x : Template-F Sig What Components Entry Template). paths_of x.made.items) (out-roll-Template f) ∙ made;
  sig = subst (λ (x : Template-F Sig What Components Entry Template). IsRenewed old new (made_of parameter) number (sig_of body) x.sig.value) (sym (out-roll-Template f)) sig;
}
