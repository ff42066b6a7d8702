-- What is said to queries of a position.
use Rattle.std.specs.Prelude.{◌≡◌, ◌⊎◌, ◌≤◌, All, ℕ, List, [], length, map, reverse, Option, None, false, codes}
use Rattle.std.specs.List.{AllZip}
use Rattle.text_terms.specs.Bytes.{str_bytes}
use Rattle.text_model.specs.Positions.{position_of}
use Rattle.token_model.specs.Kinds.{Tok}
use Rattle.token_model.specs.Tokens.{Lex}
use Rattle.tree_model.specs.Trees.{Tree}
use Rattle.plain_model.specs.Plain.{plain_text}
use Rattle.query_model.specs.Prefixes.{is_name_prefix}
use Rattle.query_model.specs.TypedNodes.{Typed, innermost_at, typed_at}
use Rattle.service_model.specs.Replies as said
use Rattle.service_model.specs.Completions.{CompletedBy}
use Rattle.service_model.specs.Answers.{shown_place, start_and_end, typed_round, types_or_none, CasesBy, ItemsAre, LocatedBy, TermsBy, TypesAre, UsedBy}
use Rattle.service_model.specs.Structure.{faults_in, items_in, FaultsAre}
use Rattle.service_model.specs.WellTyped.{is_well_typed}
use Rattle.syntax_tree.specs.View.{trees_of}
use Rattle.query_engine.specs.declared.asked.Asked.{Asked}
use Rattle.query_engine.specs.Texts.{IsTypeText}
use Rattle.name_queries.specs.declared.shown_entries.Completion.{Completion}
use Rattle.name_queries.specs.NewestNames.{printed}
use Rattle.text_changes.specs.Changes.{changes_in, IsPlaced}
use Rattle.text_changes.specs.declared.changes.Proposal.{Proposal}
use Rattle.session.specs.declared.queries.Query.{Query}
use Rattle.session.specs.declared.queries.Query.TheVariants.{Locate, Occurrences, Complete, Cases, Terms}

-- what is said of the items of a text
abbrev pub AnswersQuery : Query → List ℕ → ℕ → List Tree → said.Said → Type 0
AnswersQuery Locate text o items s = LocatedBy text o items s
AnswersQuery Occurrences text o items s = UsedBy text o items s
AnswersQuery (Complete prefix) text o items s = CompletedBy (is_name_prefix (str_bytes prefix)) (str_bytes prefix) s
AnswersQuery Cases text o items s = CasesBy text (innermost_at o items) s
AnswersQuery Terms text o items s = TermsBy text (innermost_at o items) s

-- a text that is not well typed as a plain one
abbrev pub MayBeIllTyped : List ℕ → Type 0
MayBeIllTyped text = (tokens : List Tok) × Lex text tokens × (is_well_typed tokens ≡ false)

-- the faults of the text's tokens, those of the typer among them
abbrev pub AreFaultsOf : List ℕ → said.Said → Type 0
AreFaultsOf text s = (tokens : List Tok) × Lex text tokens × FaultsAre text (faults_in tokens) s

-- a text that is not plain
abbrev pub IsNotPlain : List ℕ → Type 0
IsNotPlain text = (tokens : List Tok) × Lex text tokens × (plain_text tokens ≡ None)

-- the types of the items' nodes that hold an offset
abbrev pub AreTypesRound : List ℕ → ℕ → said.Said → Type 0
AreTypesRound text o s = (tokens : List Tok) × Lex text tokens × TypesAre text o (items_in tokens) s

-- What is said of the typed nodes that hold an offset, by what is asked: the place of each, and the text of its type.
pub record AreTypesBy (text : List ℕ) (o : ℕ) (a : Asked) (s : said.Said) : Type 0 where
  pub types : List said.Typed
  pub places : map start_and_end types ≡ map (shown_place text) (typed_round o (trees_of a.tree.now))
  pub texts : AllZip (λ n t. IsTypeText a n.id t) (reverse (typed_at o (trees_of a.tree.now))) (map (λ t. t.type_text) types)
  pub is : s ≡ types_or_none types

-- what is said to a query at an offset of a text
abbrev pub IsAnswered : Query → List ℕ → ℕ → said.Said → Type 0
IsAnswered q text o s = ItemsAre text (AnswersQuery q text o) s

-- a place of the text, or one before it
abbrev pub IsSaidOfPlace : List ℕ → said.Said → Type 0
IsSaidOfPlace text s = ((o : ℕ) × (s ≡ said.place (codes "buffer") (position_of text o))) ⊎ ((pos : ℕ × ℕ) × (s ≡ said.place (codes "prelude") pos))

-- a name that is told, as it is said
abbrev pub said_entry : Completion → said.Entry
said_entry c = record { desc = str_bytes c.desc; kind = printed c.kind; name = str_bytes c.name }

-- the changes that a query proposes go in place of a typed node, and cases are one change
abbrev pub ProposesAt : Query → Option Typed → Proposal → Type 0
ProposesAt Cases n p = All (IsPlaced n) (changes_in p) × (length (changes_in p) ≤ 1)
ProposesAt Terms n p = All (IsPlaced n) (changes_in p)
ProposesAt _ n p = changes_in p ≡ []
