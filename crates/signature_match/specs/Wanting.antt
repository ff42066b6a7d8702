-- What a wanted template asks of an actual signature, and what stands for the two sides of functors.
use Rattle.std.specs.Prelude.{◌≡◌, ◌≢◌, ℕ, List, []}
use Rattle.type_nodes.specs.Nodes.{Node}
use Rattle.signature_model.specs.Changes.{in_front}
use Rattle.env_table.specs.declared.entries.Sig.{Sig}
use Rattle.env_table.specs.declared.entries.Template.{Template, out-Template}
use Rattle.type_reading.specs.Copying.{change_by}
use Rattle.sig_template.specs.declared.realising.Realised.{Realised}
use Rattle.sig_template.specs.Ways.{sig_of}
use Rattle.sig_template.specs.Live.{AreLive}
use Rattle.sig_template.specs.Changed.{made_of, IsChangedSig}
use Rattle.sig_template.specs.Realising.{Realises, IsPutInto, IsRealisedSig}

-- a signature in which the origins of a template are realised by an actual signature
pub record IsRealisedIn (old new : List Node) (A : Sig) (t : Template) (before after : Sig) : Type 0 where
  pub realised : Realised
  pub realises : Realises old A t realised
  pub put : IsPutInto old new realised (change_by realised.changes) before after

-- the signature that is asked for: a template's own in the same store, where it makes no origin, and else that with its origins realised
pub record IsWanted (old new : List Node) (A : Sig) (t : Template) (s : Sig) : Type 0 where
  pub same : (out-Template t).made.items ≡ [] → (s ≡ sig_of t) × (new ≡ old)
  pub realised : (out-Template t).made.items ≢ [] → IsRealisedSig old new A t s

-- a signature with a number in front of origins, where its types were nodes
abbrev pub IsRenewed : (old new : List Node) → (made : List (List ℕ)) → (number : ℕ) → (before after : Sig) → Type 0
IsRenewed old new made number before after = AreLive old before → IsChangedSig new (λ _. in_front made number) before after

-- a wanted body for the parameter with a number in front of its origins; it makes the origins that it made
pub record IsRenewedBody (old new : List Node) (number : ℕ) (parameter body renewed : Template) : Type 0 where
  pub made : made_of renewed ≡ made_of body
  pub sig : IsRenewed old new (made_of parameter) number (sig_of body) (sig_of renewed)

-- the actual body for an argument, and the wanted one for the wanted parameter with new origins, which is made first
pub record AreBodies (old new : List Node) (number : ℕ) (argument : Sig) (actual_parameter actual_body parameter body : Template) (applied : Sig) (renewed : Template) : Type 0 where
  pub between : List Node
  pub renews : IsRenewedBody old between number parameter body renewed
  pub applies : IsRealisedIn between new argument actual_parameter (sig_of actual_body) applied
