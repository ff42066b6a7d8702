-- Texts of `let`, exceptions and `;;` are orderly, and in texts without modules no demand is that a body closes.
use Rattle.std.proofs.Common.{◌≡◌, ◌∙◌, Bool, true, false, List, refl, sym, ap}
use Rattle.type_model.proofs.Applying.{or_right}
use Rattle.tree_model.specs.Trees.{Tree}
use Rattle.signature_model.specs.Entries.{Environment}
use Rattle.typing_model.specs.Demands.{Site, same_site, Demand, equal, test, agrees, matches, closes, Condition, sites_of}
use Rattle.typing_model.specs.Contexts.{Choice}
use Rattle.typing_model.specs.Typings.{conditions_of, no_choice, demands_of, is_site_among, sites_before}
use Rattle.typing_model.specs.Plain.{has_no_modules, has_values_alone}
use Rattle.typing_laws.proofs.Together.{is_end, on_signatures}
use Rattle.typing_laws.proofs.Settled.{values_settled}
use Rattle.typing_laws.proofs.Quiet.{Quiet, silence, q_demand, q_same, q_instance, q_made, q_known, q_treated}
use Rattle.typing_laws.proofs.QuietTexts.{text_quiet}
use Rattle.typing_conditions.specs.Judging.{is_closing, judgements}
use Rattle.demand_laws.proofs.Texts.{values_ask_alike}
use Rattle.text_laws.specs.Texts.{sites_judged, NoneCloses, AsksAlike, IsOrderly}
use Rattle.text_laws.proofs.Sites.{sites_of_judged}

-- A text of `let`, exceptions and `;;` is orderly.
pub values_orderly : {env : Environment} {text : List Tree} → has_values_alone text ≡ true → IsOrderly env text
values_orderly {env} {text} values = record {
  alike = alike;
  settled = λ kept others ch s agree.
      values_settled env text kept others ch s values (λ x i. agree x (or_right (same_site x s) (is_site_among x (sites_before s (demands_of env text kept))) (ap (λ sites. is_site_among x (sites_before s sites)) (sites_here kept ch) ∙ i)));
}
  where
    alike : AsksAlike env text
    alike = values_ask_alike env text values

    sites_here : (kept : Site → Bool) (ch : Choice) → demands_of env text kept ≡ sites_of (conditions_of env text kept ch)
    sites_here kept ch =
        sym (sites_of_judged kept (conditions_of env text kept no_choice)) ∙ ap sites_judged (alike kept no_choice ch) ∙ sites_of_judged kept (conditions_of env text kept ch)

ends_close : (d : Demand) → is_closing d ≡ is_end d
ends_close (equal t u) = refl
ends_close (test c b) = refl
ends_close (agrees c n s t) = refl
ends_close (matches a t) = refl
ends_close (closes e s) = refl

ends_are_on_signatures : (d : Demand) → on_signatures d ≡ false → is_end d ≡ false
ends_are_on_signatures (equal t u) e = refl
ends_are_on_signatures (test c b) e = refl
ends_are_on_signatures (agrees c n s t) e = refl
ends_are_on_signatures (matches a t) e = refl
ends_are_on_signatures (closes x s) e = e

none_of_quiet : (kept : Site → Bool) {cs : List Condition} → Quiet cs → NoneCloses (judgements kept cs)
none_of_quiet kept silence = tt
none_of_quiet kept (q_demand {d = d} e h) = (ends_close d ∙ ends_are_on_signatures d e, none_of_quiet kept h)
none_of_quiet kept (q_same h) = none_of_quiet kept h
none_of_quiet kept (q_instance h) = none_of_quiet kept h
none_of_quiet kept (q_made h) = none_of_quiet kept h
none_of_quiet kept (q_known h) = none_of_quiet kept h
none_of_quiet kept (q_treated h) = none_of_quiet kept h

-- no demand of a text without modules is that a body closes
pub none_closing : (env : Environment) (text : List Tree) (kept : Site → Bool) (ch : Choice) → has_no_modules text ≡ true → NoneCloses (judgements kept (conditions_of env text kept ch))
none_closing env text kept ch plain = none_of_quiet kept (text_quiet env text kept ch plain)
