-- The source text of a span.
use Rattle.std.proofs.Common.{◌≡◌, ℕ, ◌-◌, ◌≤◌, Bool, true, false, List, length, take, drop, Some, None, IsUtf8, refl, ◌∙◌}
use Rattle.std.specs.Str.{is_utf8}
use Rattle.std.proofs.lemmas.Bool.{le-leb}
use Rattle.std.proofs.lemmas.Str.{IsUtf8-from_is_utf8, is_utf8-from_IsUtf8}
use Rattle.tree_model.specs.Trees.{place}
use Rattle.case_analysis.specs.Splits.{whole, source_at}

-- a span of the text has its bytes where these are whole characters
in_text : (text : List ℕ) (s e : ℕ) → s ≤ e → e ≤ length text → source_at text (place s e) ≡ whole (take (e - s) (drop s text))
in_text text s e h i = let a = le-leb s e h in let b = le-leb e (length text) i in rw (a, b) refl

pub source_is : (text : List ℕ) (s e : ℕ) → s ≤ e → e ≤ length text → IsUtf8 (take (e - s) (drop s text)) → source_at text (place s e) ≡ Some (take (e - s) (drop s text))
source_is text s e h i is = in_text text s e h i ∙ (let t = is_utf8-from_IsUtf8 (take (e - s) (drop s text)) is in rw t refl)

not_whole : (bytes : List ℕ) (b : Bool) → is_utf8 bytes ≡ b → (IsUtf8 bytes → ⊥) → whole bytes ≡ None
not_whole bytes true e never = absurd (never (IsUtf8-from_is_utf8 bytes e))
not_whole bytes false e never = rw e refl

-- and otherwise none
pub source_none : (text : List ℕ) (s e : ℕ) → s ≤ e → e ≤ length text → (IsUtf8 (take (e - s) (drop s text)) → ⊥) → source_at text (place s e) ≡ None
source_none text s e h i never = in_text text s e h i ∙ not_whole (take (e - s) (drop s text)) (is_utf8 (take (e - s) (drop s text))) refl never
