-- What the application of a functor gives, from what its parts give.
use Rattle.std.proofs.Common.{◌≡◌, ℕ, List, [], sym, subst}
use Rattle.type_model.specs.Types.{Path}
use Rattle.type_nodes.specs.Nodes.{Node}
use Rattle.level_unify.specs.Copies.{Extends}
use Rattle.env_table.specs.declared.entries.Sig.{Sig}
use Rattle.env_table.specs.declared.entries.Template.{Template}
use Rattle.type_reading.specs.Copying.{AreDeclared}
use Rattle.sig_template.specs.declared.realising.Realised.{Realised}
use Rattle.sig_template.specs.Ways.{sig_of}
use Rattle.sig_template.specs.Changed.{made_of, IsChangedSig}
use Rattle.sig_template.specs.Live.{AreLive}
use Rattle.sig_template.specs.Realising.{Realises, IsApplied}
use Rattle.sig_template.proofs.Same.{anew}
use Rattle.sig_template.proofs.Later.{live_later}

-- the store gets new nodes, the signature is changed, and where nothing is opened the store stays then
pub applied_by : (old mid late new : List Node) (node : ℕ) (A : Sig) (P B T : Template) (ps : List Path) (r : Realised) (before after : Sig) → Realises old A P r →
    (AreDeclared old r.changes.real.items → AreDeclared mid r.changes.real.items) → Extends old mid → ps ≡ made_of B → before ≡ sig_of B → sig_of T ≡ after →
    (AreDeclared mid r.changes.real.items → AreLive mid before → IsChangedSig late (anew ps node r.changes.real.items) before after) → (r.opened.items ≡ [] → new ≡ late) →
    IsApplied old new node A P B T
applied_by old mid late new node A P B T ps r before after realises stays extends same whole is changed closed = record {
  realised = r;
  realises = realises;
  put = record {
    changed = λ none reals live.
        let first : IsChangedSig late (anew ps node r.changes.real.items) before after = changed (stays reals) (subst (AreLive mid) (sym whole) (live_later old mid extends.longer (sig_of B) live)) in
        let from : IsChangedSig late (anew ps node r.changes.real.items) (sig_of B) after = subst (λ s. IsChangedSig late (anew ps node r.changes.real.items) s after) whole first in
        let to : IsChangedSig late (anew ps node r.changes.real.items) (sig_of B) (sig_of T) = subst (IsChangedSig late (anew ps node r.changes.real.items) (sig_of B)) (sym is) from in
        let by : IsChangedSig late (anew (made_of B) node r.changes.real.items) (sig_of B) (sig_of T) = subst (λ qs. IsChangedSig late (anew qs node r.changes.real.items) (sig_of B) (sig_of T)) same to in
        subst (λ ns. IsChangedSig ns (anew (made_of B) node r.changes.real.items) (sig_of B) (sig_of T)) (sym (closed none)) by;
  };
}
