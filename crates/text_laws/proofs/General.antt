-- The types that were found are most general where they are recorded.
use Rattle.std.proofs.Common.{◌≡◌, ◌∙◌, ℕ, Bool, List, sym, ap, refl}
use Rattle.type_model.specs.Substitutions.{apply}
use Rattle.tree_model.specs.Trees.{Tree}
use Rattle.signature_model.specs.Entries.{Environment}
use Rattle.typing_model.specs.Demands.{Site}
use Rattle.typing_model.specs.Typings.{outermost, conditions_of}
use Rattle.type_nodes.specs.Nodes.{IsRanked}
use Rattle.type_nodes.proofs.Identity.{identity}
use Rattle.typing_conditions.specs.Sights.{Sight, Letters}
use Rattle.binding_rows.proofs.ItemsAdequate.{items_general}
use Rattle.text_laws.specs.Texts.{IsTyped, IsRecorded, IsMostGeneralAt}
use Rattle.text_laws.proofs.Kept.{enters, met}

-- Where a choice is read off at the nodes' own types, these are most general at what is recorded.
pub text_general : {env : Environment} {text : List Tree} {kept : Site → Bool} {a b : Sight} {G : Letters} (h : IsTyped env text kept a b G) (rank : ℕ → ℕ) → IsRanked b.nodes rank → h.types ≡ identity rank b.nodes →
    IsMostGeneralAt (IsRecorded b) kept (conditions_of env text kept) h.choice.type_at
text_general {env} {text} {kept} {b = b} h rank ranked own = record {
  fits = record { choice = h.choice; chosen = λ n. refl; holds = (met h).holds };
  general = λ others fits.
      let found = items_general h.carried rank ranked (identity h.sound.0 _) (outermost env kept fits.choice) h.reads.kept (enters h kept fits.choice) fits.holds in (
        found.0,
        λ n at.
            sym (fits.chosen n) ∙ ap fits.choice.type_at at.number ∙ found.1 at.item at.place at.node at.at
            ∙ ap (λ V. apply found.0 (V at.node)) (sym own) ∙ ap (apply found.0) (sym (h.reads.agrees.recorded at.item at.place at.node at.at) ∙ ap h.choice.type_at (sym at.number)),
      );
}
