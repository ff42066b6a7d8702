use Rattle.std.proofs.Common.{◌≡◌, string_bytes}
use Rattle.service_model.specs.Made.{made_text}
use Rattle.session_loop.proofs.made.made_text.Given as goal

-- the text so far is that of the items before this one
abbrev pub invariant-loop-item : goal.invariant-loop-item
invariant-loop-item l = string_bytes l.text ≡ made_text l.item
