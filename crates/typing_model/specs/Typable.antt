-- Texts that can be typed.
use Rattle.std.specs.Prelude.{◌≡◌, ℕ, ◌<◌, ◌^◌, true, List, All}
use Rattle.token_model.specs.Kinds.{Tok}
use Rattle.token_model.specs.Tokens.{Lex}
use Rattle.tree_model.specs.Trees.{Tree, size_of}
use Rattle.signature_model.specs.Entries.{Environment}
use Rattle.typing_model.specs.Typings.{HasTyping}
use Rattle.typing_model.specs.First.{every_site, program_items, IsFirst}
use Rattle.typing_model.specs.Plain.{has_lets_alone}

-- Items of a text that are `let` and `;;` alone, each of fewer than 2^32 nodes, for whose nodes there are types in the first environment that meet all that they ask, with each demand kept: nothing is wrong with them.
pub record AreTypable (items : List Tree) : Type 0 where
  pub tokens : List Tok
  pub parsed : items ≡ program_items tokens
  pub few : All (λ t. size_of t < 2 ^ 32) items
  pub lets : has_lets_alone items ≡ true
  pub env : Environment
  pub first : IsFirst env
  pub typing : HasTyping env items every_site

-- the same of the items of a text
pub record IsTypable (text : List ℕ) : Type 0 where
  pub tokens : List Tok
  pub lexed : Lex text tokens
  pub items : AreTypable (program_items tokens)
