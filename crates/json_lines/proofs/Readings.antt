-- How a line reads, by the outcomes of its length and of reading it as JSON.
use Rattle.std.proofs.Common.{◌≡◌, true, false, List, ℕ, Some, None, refl, ◌∙◌, ap}
use Rattle.std.specs.Prelude.{if◌then◌else◌}
use Rattle.std.specs.Str.{IsUtf8, is_utf8}
use Rattle.std.proofs.lemmas.Str.{IsUtf8-from_is_utf8, is_utf8-from_IsUtf8}
use Rattle.serde_json.specs.Data.{Data}
use Rattle.serde_json.specs.Read.{read}
use Rattle.service_model.specs.Requests.{refused, not_json, reading_of_json, reading_of_value}

pub reading_json : (line : List ℕ) (d : Data) → IsUtf8 line → read line ≡ Some d → reading_of_json line ≡ reading_of_value (Some d)
unfolding reading_of_json
reading_json line d utf8 is =
    ap (λ b. if b then reading_of_value (read line) else refused not_json) (is_utf8-from_IsUtf8 line utf8) ∙ ap reading_of_value is

pub reading_other : (line : List ℕ) → (IsUtf8 line → read line ≡ None) → reading_of_json line ≡ refused not_json
unfolding reading_of_json
reading_other line none =
    elim (is_utf8 line) as (λ b. is_utf8 line ≡ b → (if b then reading_of_value (read line) else refused not_json) ≡ refused not_json) [
      | true ↦ λ e. ap reading_of_value (none (IsUtf8-from_is_utf8 line e))
      | false ↦ λ e. refl
    ] refl
