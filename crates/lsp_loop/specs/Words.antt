-- The word of the command line that asks for a language server.
use Rattle.std.specs.Prelude.{ℕ, List, map, length, slice_index_or, string_bytes, String, Bool, ◌==◌, ◌&&◌, codes, []}
use Rattle.std.specs.Str.{bytes_eq}
use Rattle.std.specs.declared.alloc.Global.{Global}

-- the words as texts
abbrev pub texts : List (String Global) → List (List ℕ)
texts words = map string_bytes words

-- they are the one word that asks for it
abbrev pub asks_editor : List (List ℕ) → Bool
asks_editor words = length words == 1 && bytes_eq (slice_index_or words 0 []) (codes "--lsp")
