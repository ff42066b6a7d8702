-- What is seen of a text that is tried, and what it takes to try texts.
use Rattle.std.specs.Prelude.{◌≡◌, ◌⊎◌, ℕ, ◌+◌, ◌*◌, ◌≤◌, List, [], ◌∷◌, length, Bool, true, Option, IfSome, refl}
use Rattle.std.specs.Coded.{Coded, code_by, coded×, coded_bool, coded_list, coded_ℕ}
use Rattle.token_model.specs.Kinds.{Tok}
use Rattle.token_model.specs.Tokens.{Lex}
use Rattle.tree_model.specs.Trees.{Tree}
use Rattle.syntax_tree.specs.Tallies.{Tallies}
use Rattle.analysis_api.specs.Typed.{GoesOn, SameFront}
use Rattle.text_reading.specs.Structures.{AreItemsOf}

-- The bytes of the text that is tried, whether a typer has begun, whether its tree and its types are known, and the items that the typer holds.
pub record Tried : Type 0 where
  pub text : List ℕ
  pub begun : Bool
  pub ready : Bool
  pub holds : List Tree

-- by which two of these are told apart, by the code of a tree
abbrev pub tried_code : Coded Tree → Coded Tried
tried_code tree =
    code_by (List ℕ × (Bool × (Bool × List Tree))) (coded× (coded_list coded_ℕ) (coded× coded_bool (coded× coded_bool (coded_list tree)))) (λ t. (t.text, (t.begun, (t.ready, t.holds)))) (λ p. record { text = p.0; begun = p.1.0; ready = p.1.1.0; holds = p.1.1.1 }) (λ _. refl)

-- the items that are known are those of the tree that is kept, and so many of the first ones that the typer holds are
pub record IsBound (tree : List Tree) (known : Option (List Tree)) (holds : List Tree) (front : ℕ) : Type 0 where
  pub are : IfSome known (λ items. items ≡ tree)
  pub shares : SameFront holds tree front

-- Nothing was typed, or the typer holds some of a text's items now: those at its front that it held before, and some after them, which were typed.
abbrev pub TypesSome : List ℕ → List Tree → List Tree → ℕ → ℕ → Type 0
TypesSome text olds news before after = ((news ≡ olds) × (after ≡ before)) ⊎ ((items : List Tree) × AreItemsOf text items × GoesOn olds items news before after)

-- at most 32 tokens more are read than a text has, and the parser takes each twice at most
abbrev pub ReadsWhole : List ℕ → Tallies → Tallies → Type 0
ReadsWhole text before after = (ts : List Tok) → Lex text ts → (after.lexed ≤ before.lexed + (32 + length ts)) × (after.shifted ≤ before.shifted + 2 * (32 + length ts))

-- What it takes to try a text: some of its items are typed, and it is read, some of its tokens twice. Where a typer has begun, it has begun still, and the prelude isn't read, whose bytes are the first ones.
pub record Tries (opens text : List ℕ) (old new : Tried) (before after : Tallies) : Type 0 where
  pub types : TypesSome text old.holds new.holds before.typed after.typed
  pub begun : old.begun ≡ true → new.begun ≡ true
  pub reads : old.begun ≡ true → (ps : List Tok) → Lex opens ps → ReadsWhole text before after

-- the same of texts that are tried one after the other, the last one first
abbrev pub TriesAll : List ℕ → List (List ℕ) → Tried → Tried → Tallies → Tallies → Type 0
TriesAll opens [] old new before after = (new ≡ old) × (after ≡ before)
TriesAll opens (text ∷ texts) old new before after = (mid : Tried) × (between : Tallies) × TriesAll opens texts old mid before between × Tries opens text mid new between after
