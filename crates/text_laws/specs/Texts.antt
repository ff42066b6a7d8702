-- A whole text whose items were typed, and what the definitions have to say of it.
use Rattle.std.specs.Prelude.{◌≡◌, ℕ, Bool, true, false, List, [], ◌∷◌, Some, None}
use Rattle.tree_model.specs.Trees.{Tree}
use Rattle.type_model.specs.Types.{Typ}
use Rattle.type_model.specs.Substitutions.{Subst, apply}
use Rattle.signature_model.specs.Entries.{Environment}
use Rattle.typing_model.specs.Demands.{Site, Condition}
use Rattle.typing_model.specs.Contexts.{Choice}
use Rattle.typing_model.specs.Parts.{no_names}
use Rattle.typing_model.specs.Items.{items_ask}
use Rattle.typing_model.specs.Meanings.{items_of}
use Rattle.typing_model.specs.Typings.{outermost, conditions_of, demands_of, is_site_among, sites_before, conditions_up_to}
use Rattle.typing_model.specs.Typings as typings
use Rattle.type_nodes.specs.Nodes.{IsSound}
use Rattle.type_nodes.specs.Readings.{Types}
use Rattle.typing_conditions.specs.Sights.{Sight, Letters, number_in}
use Rattle.typing_conditions.specs.Judging.{Judgement, judgements}
use Rattle.typing_conditions.specs.Carrying.{Asks}
use Rattle.binding_rows.specs.Outside.{ReadsItems, ItemsCarried}

-- the sites that are judged, in order
abbrev pub sites_judged : List Judgement → List Site
sites_judged [] = []
sites_judged (j ∷ js) = j.site ∷ sites_judged js

-- each site is judged once
abbrev pub AreApart : List Judgement → Type 0
AreApart [] = Unit {0}
AreApart (j ∷ js) = (is_site_among j.site (sites_judged js) ≡ false) × AreApart js

-- none of the demands is that a body closes
abbrev pub NoneCloses : List Judgement → Type 0
NoneCloses [] = Unit {0}
NoneCloses (j ∷ js) = (j.closing ≡ false) × NoneCloses js

-- what the items of a text ask, by the context of the first
abbrev pub text_asks : List Tree → Asks
text_asks text c = items_ask c no_names (items_of text)

-- which demands a text makes doesn't depend on the types that are chosen
abbrev pub AsksAlike : Environment → List Tree → Type 0
AsksAlike env text = (kept : Site → Bool) (ch other : Choice) → judgements kept (conditions_of env text kept ch) ≡ judgements kept (conditions_of env text kept other)

-- A fact of the definitions alone: that, and that what a text asks up to a demand depends only on what is kept up to it.
pub record IsOrderly (env : Environment) (text : List Tree) : Type 0 where
  pub alike : AsksAlike env text
  pub settled : (kept others : Site → Bool) (ch : Choice) (s : Site) → ((x : Site) → is_site_among x (s ∷ sites_before s (demands_of env text kept)) ≡ true → others x ≡ kept x) →
      conditions_up_to s (conditions_of env text others ch) ≡ conditions_up_to s (conditions_of env text kept ch)

-- a text makes each demand once, whatever is kept and chosen
abbrev pub AsksOnce : Environment → List Tree → Type 0
AsksOnce env text = (kept : Site → Bool) (ch : Choice) → AreApart (judgements kept (conditions_of env text kept ch))

-- The items of a text were typed from a state in which nothing is recorded, these demands were kept, of which none is that a body closes, and some choice is read off the state after them.
pub record IsTyped (env : Environment) (text : List Tree) (kept : Site → Bool) (a b : Sight) (G : Letters) : Type 0 where
  pub none_recorded : (i p : ℕ) → a.types i p ≡ None
  pub sound : IsSound a.nodes
  pub carried : ItemsCarried (λ ch. env) (text_asks text) a [] b G
  pub none_closes : NoneCloses carried.judged
  pub only : (s : Site) → kept s ≡ true → is_site_among s (sites_judged carried.judged) ≡ true
  pub types : Types
  pub choice : Choice
  pub reads : ReadsItems (λ ch. env) b G carried.left carried.judged types (outermost env kept choice)

-- a number that is that of a node whose type is recorded
pub record IsRecorded (b : Sight) (n : ℕ) : Type 0 where
  pub item : ℕ
  pub place : ℕ
  pub node : ℕ
  pub number : n ≡ number_in item place
  pub at : b.types item place ≡ Some node

-- The most general types at some numbers: they fit, and all others that fit are instances of them there, by one substitution. (`IsMostGeneral` says it of all numbers.)
pub record IsMostGeneralAt (at : ℕ → Type 0) (kept : Site → Bool) (asked : Choice → List Condition) (types : ℕ → Typ) : Type 0 where
  pub fits : typings.Fits kept asked types
  pub general : (others : ℕ → Typ) → typings.Fits kept asked others → (s : Subst) × ((n : ℕ) → at n → others n ≡ apply s (types n))
