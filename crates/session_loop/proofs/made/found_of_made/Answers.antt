use Rattle.std.proofs.Common.{◌≡◌, ◌∙◌, ◌++◌, List, ℕ, length, ap, subst}
use Rattle.text_terms.specs.Bytes.{str_bytes}
use Rattle.service_model.specs.Made.{made_text, last_text, SizesAre}
use Rattle.session_loop.proofs.made.found_of_made.Goals as goal

pub returns-clause-found : goal.returns-clause-found
returns-clause-found g c =
    let first = c.in_ok-append.ensures ∙ ap (λ (t : List ℕ). t ++ str_bytes c.in_ok-made_text.field-0) c.new-session.ensures.text ∙ c.in_ok-made_text.ensures in
    let last : c.append-2.new.self.text ≡ last_text c.args.items = c.in_ok-append-2.ensures ∙ ap (λ (t : List ℕ). t ++ str_bytes c.in_ok-from_str.field-0) (c.in_ok-asked.ensures.text ∙ first) ∙ ap (λ (t : List ℕ). made_text c.args.items ++ t) c.in_ok-from_str.ensures in
    record {
      bytes = c.len.ensures ∙ ap length (c.in_ok-sizes.ensures.text ∙ last);
      sizes = subst (λ (t : List ℕ). SizesAre t c.in_ok-sizes.sizes.items c.in_ok-sizes.sizes.faults) last c.in_ok-sizes.ensures.sizes;
    }
