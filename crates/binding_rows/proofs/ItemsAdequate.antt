-- What is carried of items says that the types are most general.
use Rattle.std.proofs.Common.{◌≡◌, ◌∙◌, ℕ, inl, inr, Some}
use Rattle.type_model.specs.Substitutions.{apply}
use Rattle.signature_model.specs.Entries.{Environment}
use Rattle.typing_model.specs.Demands.{AllHold}
use Rattle.typing_model.specs.Contexts.{Choice, Context}
use Rattle.type_nodes.specs.Nodes.{IsRanked}
use Rattle.type_nodes.specs.Readings.{Types}
use Rattle.type_nodes.proofs.Identity.{identity, identity_determines}
use Rattle.typing_conditions.specs.Sights.{Sight, Letters, number_in}
use Rattle.typing_conditions.specs.Judging.{AreKept}
use Rattle.typing_conditions.specs.Carrying.{Asks}
use Rattle.typing_conditions.proofs.Adequate.{never_short}
use Rattle.binding_rows.specs.Outside.{EntersItems, ItemsCarried}

-- The most general types: each choice that meets what items ask and keeps the same demands has, at what is recorded, types that come from them by one substitution.
pub items_general : {E : Choice → Environment} {asks : Asks} {a b : Sight} {G H : Letters} (p : ItemsCarried E asks a G b H) (rank : ℕ → ℕ) → IsRanked b.nodes rank → (V : Types) (c : Context) → AreKept c.kept p.judged → EntersItems E a G V c → AllHold c.kept (asks c) →
    (W : Types) × ((i k m : ℕ) → b.types i k ≡ Some m → c.chosen.type_at (number_in i k) ≡ apply W (identity rank b.nodes m))
items_general {asks = asks} {b = b} p rank ranked V c kept e h = elim (p.complete V c e h) [
  | inl goes ↦ (goes.types, λ j k m there. goes.agrees.recorded j k m there ∙ identity_determines b.nodes rank goes.types goes.fits m)
  | inr short ↦ absurd (never_short c.kept (asks c) p.judged kept short)
]
