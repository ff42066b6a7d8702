-- What is asked of the parameters of a declaration: that each is new.
use Rattle.std.specs.Prelude.{◌≡◌, ℕ, true, List, [], ◌++◌, map}
use denote.Ref.{Bor}
use Rattle.token_model.specs.Kinds.{Tok}
use Rattle.syntax_tree.specs.View.{tok_of}
use Rattle.syntax_tree.specs.declared.tree.Token.{Token}
use Rattle.signature_model.specs.Declarations.{Name}
use Rattle.typing_model.specs.Demands.{Condition}
use Rattle.typing_model.specs.Patterns.{ask_all}
use Rattle.typing_model.specs.Declarations.{new_tokens}
use Rattle.typing_state.specs.declared.parts.Parts.{Parts}
use Rattle.typing_conditions.specs.Sights.{Report, Sight}
use Rattle.typing_conditions.specs.Judging.{Judgement}
use Rattle.typing_steps.specs.States.{is_aloud, sight}
use Rattle.typing_rows.specs.Settled.{Before, Settled}

-- tokens of the code, as the definitions take them
abbrev pub tokens_as : List (Bor Token) → List Tok
tokens_as ts = map (λ (t : Bor Token). tok_of t.now) ts

-- that the first of some names are new is judged, and some are left, whose demands have the numbers from k on
pub record FirstTokens (B : Before) (n : ℕ) (all left : List Tok) (seen : List Name) (k : ℕ) (a b : Sight) : Type 0 where
  pub done : List Condition
  pub judged : List Judgement
  pub told : List Report
  pub reports : b.reports ≡ a.reports ++ told
  pub settled : Settled B (λ c. done) judged told []
  pub split : ask_all n 1 (new_tokens [] all) ≡ done ++ ask_all n k (new_tokens seen left)

-- the names of parameters are new, or that is reported
pub record TokensSettled (B : Before) (n : ℕ) (ts : List Tok) (a b : Sight) : Type 0 where
  pub judged : List Judgement
  pub told : List Report
  pub reports : b.reports ≡ a.reports ++ told
  pub settled : Settled B (λ c. ask_all n 1 (new_tokens [] ts)) judged told []

-- Where faults are reported, a call judges the names of the parameters of a declaration, whatever its node n.
abbrev pub SettlesTokens : (a b : Parts) → List Tok → Type 0
SettlesTokens a b ts = is_aloud a.telling ≡ true → (B : Before) (n : ℕ) → TokensSettled B n ts (sight a) (sight b)
