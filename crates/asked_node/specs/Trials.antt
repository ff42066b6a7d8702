-- The texts that are tried.
use Rattle.std.specs.Prelude.{◌≡◌, ◌≤◌, All, ℕ, List, length}
use Rattle.std.specs.List.{Contains}
use Rattle.text_terms.specs.Bytes.{str_bytes}
use Rattle.text_model.specs.Edits.{apply, text_limit}
use Rattle.query_engine.specs.declared.trials.Replacement.{Replacement}

-- a text with what goes in place of a span there
abbrev pub replaced : List ℕ → Replacement → List ℕ
replaced text r = apply text r.span.start r.span.end (str_bytes r.text)

-- this is the text with one of these replacements made, and no longer than a text may be
abbrev pub IsReplaced : List ℕ → List Replacement → List ℕ → Type 0
IsReplaced text rs tried = (r : Replacement) × Contains rs r × (tried ≡ replaced text r) × (length tried ≤ text_limit)

-- each of these is the text with one of these replacements made, and there are no more of them than replacements
pub record AreReplaced (text : List ℕ) (rs : List Replacement) (tried : List (List ℕ)) : Type 0 where
  pub each : All (IsReplaced text rs) tried
  pub few : length tried ≤ length rs
