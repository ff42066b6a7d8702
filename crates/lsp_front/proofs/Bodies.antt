-- What a body says, by the outcome of reading it as JSON.
use Rattle.std.proofs.Common.{◌≡◌, true, false, List, ℕ, Some, None, refl, ◌∙◌, ap}
use Rattle.std.specs.Prelude.{if◌then◌else◌}
use Rattle.std.specs.Str.{IsUtf8, is_utf8}
use Rattle.std.proofs.lemmas.Str.{IsUtf8-from_is_utf8, is_utf8-from_IsUtf8}
use Rattle.serde_json.specs.Data.{Data}
use Rattle.serde_json.specs.Read.{read}
use Rattle.lsp_model.specs.Messages.{message, message_in, message_of, refused, parse}

-- a body that is a value says what the value says
pub message_read : (body : List ℕ) (d : Data) → IsUtf8 body → read body ≡ Some d → message body ≡ message_of d
unfolding message
message_read body d utf8 is = ap (λ b. if b then message_in (read body) else refused parse) (is_utf8-from_IsUtf8 body utf8) ∙ ap message_in is

-- any other is none
pub message_not_read : (body : List ℕ) → (IsUtf8 body → read body ≡ None) → message body ≡ refused parse
unfolding message
message_not_read body none =
    elim (is_utf8 body) as (λ b. is_utf8 body ≡ b → (if b then message_in (read body) else refused parse) ≡ refused parse) [
      | true ↦ λ e. ap message_in (none (IsUtf8-from_is_utf8 body e))
      | false ↦ λ e. refl
    ] refl
