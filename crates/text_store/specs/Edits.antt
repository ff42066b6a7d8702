-- An edit of the code as the model's, and what its refusals say.
use Rattle.std.specs.Prelude.{◌≡◌, ℕ, ◌≤◌, List, length, false}
use Rattle.text_terms.specs.Bytes.{str_bytes}
use Rattle.text_model.specs.Edits as model
use Rattle.text_store.specs.declared.edits.Edit.{Edit}
use Rattle.text_store.specs.declared.edits.TextRefusal.{TextRefusal}
use Rattle.text_store.specs.declared.edits.TextRefusal.TheVariants.{BadPosition, BadRange, SplitsChar, TextTooLong, NoMemory}

-- the edit as the model has it
abbrev pub edit_of : Edit → model.Edit
edit_of e = record { start = (e.start.line, e.start.col); end = (e.end.line, e.end.col); bytes = str_bytes e.text }

-- that a refusal is what comes of an edit; want of memory may come of any
abbrev pub IsRefusal : model.Outcome → TextRefusal → Type 0
IsRefusal outcome (BadPosition end) = outcome ≡ model.refused (model.bad_position end)
IsRefusal outcome BadRange = outcome ≡ model.refused model.bad_range
IsRefusal outcome (SplitsChar end) = outcome ≡ model.refused (model.splits_char end)
IsRefusal outcome (TextTooLong bytes) = outcome ≡ model.refused (model.text_too_long bytes)
IsRefusal outcome NoMemory = Unit {0}

-- that an edit is made between two places, which part no character, and leaves no text that is too long
pub record IsMade (text : List ℕ) (e : model.Edit) (start end : ℕ) : Type 0 where
  pub outcome : model.outcome_of text e ≡ model.changed start (model.apply text start end e.bytes)
  pub order : start ≤ end
  pub within : end ≤ length text
  pub start_whole : model.is_inside_char text start ≡ false
  pub end_whole : model.is_inside_char text end ≡ false
  pub short : length (model.apply text start end e.bytes) ≤ model.text_limit
