-- What a session keeps, and how many tokens its answers lex and parse and items they type.
use Rattle.std.specs.Prelude.{◌≡◌, ◌⊎◌, All, ℕ, ◌+◌, ◌-◌, ◌≤◌, List, [], length, Bool, true, false, Option, Some, None, IfSome, if◌then◌else◌, refl}
use Rattle.std.specs.Coded.{Coded, code_by, coded×, coded_bool, coded_list, coded_option, coded_ℕ}
use Rattle.token_model.specs.Kinds.{Tok}
use Rattle.token_model.specs.Tokens.{Lex}
use Rattle.tree_model.specs.Trees.{Tree}
use Rattle.service_model.specs.Requests.{Asked, asks}
use Rattle.work_model.specs.Work.{more, Amount, Owed, AreLast, IsAnew, IsTried, RetypedOver, WorksAt}
use Rattle.syntax_tree.specs.Tallies.{Tallies}
use Rattle.analysis_api.specs.Typed.{more_typed, LongestFront, SameFront}
use Rattle.text_reading.specs.Structures.{AreItemsOf}
use Rattle.text_reading.specs.Trials as trials
use Rattle.text_reading.specs.Trials.{Tried, TriesAll}
use Rattle.text_reading.specs.Types.{opening}
use Rattle.session.specs.Lines.{line_bytes}
use Rattle.session.specs.declared.session.Line.{Line}
use Rattle.session.specs.declared.session.Line.TheVariants.{Written, Memory}
use Rattle.session.specs.declared.queries.Query.{Query}
use Rattle.session.specs.declared.queries.Query.TheVariants.{Cases, Terms}

-- The text, the first byte that may have changed since its tokens were read, or none, whether a typer has begun, whether the types of the text are known, and the items that the typer holds.
pub record Held : Type 0 where
  pub text : List ℕ
  pub changed : Option ℕ
  pub begun : Bool
  pub known : Bool
  pub holds : List Tree

-- by which two of these are told apart, by the code of a tree
abbrev pub held_code : Coded Tree → Coded Held
held_code tree =
    code_by (List ℕ × (Option ℕ × (Bool × (Bool × List Tree)))) (coded× (coded_list coded_ℕ) (coded× (coded_option coded_ℕ) (coded× coded_bool (coded× coded_bool (coded_list tree)))))
    (λ h. (h.text, (h.changed, (h.begun, (h.known, h.holds))))) (λ p. record { text = p.0; changed = p.1.0; begun = p.1.1.0; known = p.1.1.1.0; holds = p.1.1.1.1 }) (λ _. refl)

-- The typer's items, where they are known as those of the text, are, and so many of the first ones that it holds are those of the tree that is kept.
pub record IsTied (text : List ℕ) (tree : List Tree) (known : Option (List Tree)) (holds : List Tree) (front : ℕ) : Type 0 where
  pub of_text : IfSome known (AreItemsOf text)
  pub of_tree : SameFront holds tree front

-- what is owed is of the text, and from no later byte on than what was noted
pub record Owes (w : Owed) (s : Held) : Type 0 where
  pub text : w.text ≡ s.text
  pub noted : (n : ℕ) → s.changed ≡ Some n → (m : ℕ) × (w.since ≡ Some m) × (m ≤ n)

-- so many tokens are lexed, and as many taken by the parser
abbrev pub alike : ℕ → Amount
alike k = record { lexed = k; shifted = k }

-- No more tokens were lexed and taken by the parser than this, and those of the prelude, of which there are p, until a typer has begun.
abbrev pub Takes : ℕ → Amount → Held → Held → Tallies → Tallies → Type 0
Takes p n old new before after = (after.lexed + opening p new.begun ≤ before.lexed + opening p old.begun + n.lexed) × (after.shifted + opening p new.begun ≤ before.shifted + opening p old.begun + n.shifted)

-- the prelude's tokens, where they were read in vain
abbrev pub in_vain : Bool → ℕ → ℕ
in_vain failed p = if failed then p else 0

-- What is owed was read and no more, and a typer has begun, or failed to.
abbrev pub Reads : List ℕ → Bool → Held → Held → Tallies → Tallies → Type 0
Reads opens failed old new before after = (w : Owed) (ps : List Tok) → Owes w old → Lex opens ps → (n : Amount) × IsAnew w.text w.since n × Takes (length ps) (more n (in_vain failed (length ps))) old new before after

-- nothing is known to have changed, or what was
abbrev pub Settles : Held → Held → Type 0
Settles old new = (new.changed ≡ None) ⊎ (new.changed ≡ old.changed)

-- the line is one for want of memory
abbrev pub is_memory : Line → Bool
is_memory (Written v) = false
is_memory Memory = true

-- Nothing was typed, or the typer holds the text's items now, of which those were typed that are behind the longest front of what it held before.
abbrev pub Types : Held → Held → Tallies → Tallies → Type 0
Types old new before after = ((new.holds ≡ old.holds) × (after.typed ≡ before.typed))
    ⊎ ((n : ℕ) × AreItemsOf old.text new.holds × LongestFront old.holds new.holds n × (after.typed ≡ more_typed (length new.holds - n) before.typed))

-- what `text_reading` says of some items that are typed, of this text
abbrev pub TypesSome : Held → Held → Tallies → Tallies → Type 0
TypesSome old new before after = trials.TypesSome old.text old.holds new.holds before.typed after.typed

-- What a typer holds against the text at the last query: the count of typed items is at most so many, and still is where those of this text are added that aren't at the front of what it holds.
pub record Covers (asked : List (List ℕ)) (holds : List Tree) (typed most : ℕ) : Type 0 where
  pub within : typed ≤ most
  pub front : (items : List Tree) → AreLast asked items → (n : ℕ) × SameFront holds items n × (typed + length items ≤ most + n)

-- the count is within what the queries so far may type, from this count on
abbrev pub Within : ℕ → Owed → Held → Tallies → Type 0
Within start w s counts = (n : ℕ) → RetypedOver w.asked n → Covers w.asked s.holds counts.typed (start + n)

-- and stays so
abbrev pub Carries : Owed → Owed → Held → Held → Tallies → Tallies → Type 0
Carries w v old new before after = (start : ℕ) → Within start w old before → Within start v new after

-- nothing was read or typed, and no change is noted or forgotten
pub record Rests (old new : Held) (before after : Tallies) : Type 0 where
  pub changed : new.changed ≡ old.changed
  pub begun : new.begun ≡ old.begun
  pub holds : new.holds ≡ old.holds
  pub counted : after ≡ before

-- these texts were tried by the session's typer, which has begun, or none was
pub record TriesTexts (opens : List ℕ) (texts : List (List ℕ)) (old new : Held) (before after : Tallies) : Type 0 where
  pub first : Tried
  pub last : Tried
  pub tries : TriesAll opens texts first last before after
  pub begun : first.begun ≡ old.begun
  pub holds : first.holds ≡ old.holds
  pub still_begun : new.begun ≡ last.begun
  pub now_holds : new.holds ≡ last.holds
  pub ready : (texts ≡ []) ⊎ (old.begun ≡ true)

-- What was owed was read, the text was typed where that was wanted, and then these texts were tried.
pub record QuerySpends (opens : List ℕ) (failed : Bool) (texts : List (List ℕ)) (old new : Held) (before after : Tallies) : Type 0 where
  pub mid : Held
  pub between : Tallies
  pub reads : Reads opens failed old mid before between
  pub types : TypesSome old mid before between
  pub tries : TriesTexts opens texts mid new between after

-- What a query has done that is answered with a line, by whether it has a place in the text, and which texts it may try.
abbrev pub QueryWorks : List ℕ → Bool → (List (List ℕ) → Type 0) → Line → Held → Held → Tallies → Tallies → Type 0
QueryWorks opens false May l old new before after = Rests old new before after
QueryWorks opens true May l old new before after = (is_memory l ≡ false → new.changed ≡ None) × Settles old new × (texts : List (List ℕ)) × May texts × QuerySpends opens (is_memory l) texts old new before after

-- no text is tried
abbrev pub TriesNone : List (List ℕ) → Type 0
TriesNone texts = texts ≡ []

-- which texts a query at an offset may try
abbrev pub TriesBy : Query → List ℕ → Option ℕ → List (List ℕ) → Type 0
TriesBy Cases text place texts = All (IsTried text place) texts × (length texts ≤ 1)
TriesBy Terms text place texts = All (IsTried text place) texts
TriesBy _ text place texts = texts ≡ []

-- whether a query may try other texts
abbrev pub tries_texts : Query → Bool
tries_texts Cases = true
tries_texts Terms = true
tries_texts _ = false

-- a request is answered with a line and does the work that is owed
abbrev pub RequestWorks : List ℕ → Asked → Line → Held → Held → Tallies → Tallies → Type 0
RequestWorks opens a l old new before after = (w : Owed) (ps : List Tok) → Owes w old → Lex opens ps
    → (v : Owed) × (n : Amount) × WorksAt (length ps) w (asks a) (line_bytes l) v n × Owes v new × Takes (length ps) n old new before after
    × Carries w v old new before after
