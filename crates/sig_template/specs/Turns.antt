-- What a change does to a part of a signature: nodes are only added, so that what was changed stays so.
use Rattle.std.specs.Prelude.{◌≡◌, List, map}
use Rattle.type_nodes.specs.Nodes.{Node}
use Rattle.signature_model.specs.Changes.{Change}
use Rattle.type_nodes.specs.Readings.{Types}
use Rattle.type_reading.specs.declared.changes.Changes.{Changes}
use Rattle.level_unify.specs.Copies.{Extends}
use Rattle.type_reading.specs.declared.copies.Copies.{Copies}
use Rattle.type_reading.specs.Copying.{KeepsCopies}
use Rattle.env_table.specs.declared.entries.What.{What, out-What}
use Rattle.env_table.specs.declared.entries.Entry.{Entry}
use Rattle.env_table.specs.declared.entries.Template.{Template}
use Rattle.sig_template.specs.Ways.{sig_of, within_opened}
use Rattle.sig_template.specs.Changed.{made_of, IsChangedWhat, IsChangedEntry, IsChangedIn, IsChangedSig}
use Rattle.sig_template.specs.Live.{IsLiveWhat, AreLiveIn, AreLive}

-- a fact holds of a store, and of each store that has more nodes behind
abbrev pub Stays : (List Node → Type 0) → List Node → Type 0
Stays P nodes = (later : List Node) → Extends nodes later → P later

-- a fact holds of a store that had no more nodes
pub record Held (L : List Node → Type 0) (nodes : List Node) : Type 0 where
  pub earlier : List Node
  pub extends : Extends earlier nodes
  pub held : L earlier

-- Nodes are added, the copies are kept, and a fact holds from then on; where the types of a part were nodes.
pub record Turns (changes : Changes) (L P : List Node → Type 0) (old new : List Node) (before after : Copies) : Type 0 where
  pub extends : Extends old new
  pub done : KeepsCopies old changes before → Held L old → KeepsCopies new changes after × Stays P new

-- what a name stands for, with the signature in it
pub record IsTurnedWhat (nodes : List Node) (c : Types → Change) (old new : What) : Type 0 where
  pub what : IsChangedWhat nodes c (out-What old) (out-What new)
  pub within : IsChangedIn nodes c (within_opened (out-What old)) (within_opened (out-What new))

-- a component, with the signature in it
pub record IsTurnedEntry (nodes : List Node) (c : Types → Change) (old new : Entry) : Type 0 where
  pub entry : IsChangedEntry nodes c old new
  pub within : IsChangedIn nodes c (within_opened (out-What old.what)) (within_opened (out-What new.what))

-- a template: its paths and its signature
pub record IsTurnedTemplate (nodes : List Node) (c : Types → Change) (old new : Template) : Type 0 where
  pub made : (V : Types) → made_of new ≡ map (c V).path (made_of old)
  pub sig : IsChangedSig nodes c (sig_of old) (sig_of new)

-- the types of what a name stands for, and those in the signature in it
pub record IsLiveWithin (nodes : List Node) (w : What) : Type 0 where
  pub what : IsLiveWhat nodes (out-What w)
  pub within : AreLiveIn nodes (within_opened (out-What w))

-- the types of a component, and those in the signature in it
abbrev pub IsLiveThrough : List Node → Entry → Type 0
IsLiveThrough nodes e = IsLiveWithin nodes e.what

-- the types of a template
abbrev pub IsLiveTemplate : List Node → Template → Type 0
IsLiveTemplate nodes t = AreLive nodes (sig_of t)
