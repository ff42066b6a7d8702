-- A wanted parameter with new origins.
use Rattle.std.specs.Prelude.{ℕ, List}
use Rattle.type_nodes.specs.Nodes.{Node}
use Rattle.signature_model.specs.Changes.{in_front}
use Rattle.env_table.specs.declared.entries.Template.{Template}
use Rattle.sig_template.specs.Changed.{made_of, IsChangedSig}
use Rattle.sig_template.specs.Ways.{sig_of}
use Rattle.sig_template.specs.Live.{AreLive}

-- a template whose signature is another's with a number in front of its origins, where its types were nodes
abbrev pub IsMadeAnew : List Node → (number : ℕ) → (wanted anew : Template) → Type 0
IsMadeAnew nodes number wanted anew = AreLive nodes (sig_of wanted) → (later : List Node) × IsChangedSig later (λ _. in_front (made_of wanted) number) (sig_of wanted) (sig_of anew)
