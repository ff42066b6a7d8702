-- What the code keeps, as the definitions have it.
use Rattle.std.specs.Prelude.{ℕ, List, Bool, true, false, Option, Some, None}
use Rattle.lsp_documents.specs.States as state
use Rattle.lsp_documents.specs.declared.document.Room.{Room}
use Rattle.lsp_documents.specs.declared.document.Room.TheVariants.{Free, Full}
use Rattle.lsp_documents.specs.declared.document.Unread.{Unread}
use Rattle.lsp_documents.specs.declared.document.Unread.TheVariants.{TooLarge, TooMany, PassedOver}

-- why a document has no text
abbrev pub unread_of : Unread → state.Unread
unread_of TooLarge = state.too_large
unread_of TooMany = state.too_many
unread_of PassedOver = state.passed_over

-- the content of a document by why it has no text, or by its text
abbrev pub content_of : Option Unread → List ℕ → state.Content
content_of None text = state.read text
content_of (Some why) text = state.unread (unread_of why)

-- whether there is room
abbrev pub is_free : Room → Bool
is_free Free = true
is_free Full = false
