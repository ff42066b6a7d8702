-- Rows by their contracts: the record of a row's type, and calls that carry one demand or none.
use Rattle.std.proofs.Common.{◌≡◌, ◌∙◌, ◌++◌, ℕ, List, [], ◌∷◌, refl, ap, append-nil}
use Rattle.text_terms.specs.declared.Span.{Span}
use Rattle.syntax_tree.specs.View.{place_of}
use Rattle.typing_model.specs.Contexts.{Context, tell_typed}
use Rattle.typing_model.specs.Demands.{Condition}
use Rattle.type_model.specs.Types.{Typ}
use Rattle.type_terms.specs.declared.types.NodeRef.{NodeRef}
use Rattle.env_table.specs.declared.entries.Entry.{Entry}
use Rattle.typing_state.specs.declared.parts.Parts.{Parts}
use Rattle.typing_state.specs.declared.demands.Verdict.{Verdict}
use Rattle.typing_state.specs.Demands.{EqualIs}
use Rattle.typing_state.specs.Goes.{OnlyStore, OnlyStoreAndFaults, Goes}
use Rattle.typing_state.specs.Types.{MakesVar, any_scope}
use Rattle.typing_conditions.specs.Sights.{Sight, own, Letters, number_in}
use Rattle.typing_conditions.specs.Frames.{Frame}
use Rattle.typing_conditions.specs.Steps.{Records}
use Rattle.typing_conditions.specs.Carrying.{Asks, Scope, at_node, SeesScope, CarriedTo}
use Rattle.typing_conditions.proofs.Recording.{ends_own, row_recorded}
use Rattle.typing_conditions.proofs.Carried.{carried_row}
use Rattle.typing_conditions.proofs.Hiding.{owns_node}
use Rattle.typing_conditions.proofs.Answering.{to_as}
use Rattle.typing_steps.specs.Typing.{TypesOwn, TypesAny, RowCarried, TypesRow, AsksEqual}
use Rattle.typing_steps.proofs.Making.{var_made}
use Rattle.typing_steps.proofs.Comparing.{equal_asked}

-- A row whose type is recorded then carries what its node asks in all, and its node has its type.
pub row_carried : {F : Frame} {scope : Scope} {asks : Asks} {a b d : Sight} {G : Letters} {n number m : ℕ} {env : List Entry} → number_in b.item number ≡ n → RowCarried F (at_node n scope) asks a G b n m → Records b d number m env → SeesScope F scope a G env →
    CarriedTo F scope (λ c. tell_typed n c ++ asks c) a G d G (λ ch. ch.type_at n) m
row_carried {n = n} number row r sees =
    let whole = to_as (λ c. ap (λ cs. tell_typed n c ++ cs) (row.all c)) (λ ch. refl) (row_recorded row.own n number row.typed row.end r sees row.owns) in
    record { carried = carried_row n whole.carried; means = whole.means }

-- what a row asks may be written in another way
pub row_asks : (a b : Parts) {env : List Entry} {asks others : Asks} {n m : ℕ} → ((c : Context) → asks c ≡ others c) → TypesRow a b env asks n m → TypesRow a b env others n m
row_asks a b e row aloud F scope G its at =
    let r = row aloud F scope G its at in
    record { own = r.own; type = r.type; first = r.first; ends = r.ends; all = λ c. r.all c ∙ e c; typed = r.typed; owns = r.owns; end = r.end }

-- a row whose type is its own, as that of a name
pub row_own : (a b : Parts) {env : List Entry} {m : ℕ} (asks : Context → Typ → List Condition) (n : ℕ) → TypesOwn a b env asks m → TypesRow a b env (λ c. asks c (c.chosen.type_at n)) n m
row_own a b {m = m} asks n typed aloud F scope G here at = record {
  own = (own n, m) ∷ [];
  type = λ ch. ch.type_at n;
  first = λ c. asks c (c.chosen.type_at n);
  ends = λ c. [];
  all = λ c. append-nil (asks c (c.chosen.type_at n));
  typed = typed aloud F scope G (own n) (λ t. tt) at;
  owns = λ known. owns_node (own n) refl refl;
  end = ends_own n;
}

-- a row of which nothing is asked
pub row_any : (a b : Parts) {env : List Entry} {m : ℕ} (n : ℕ) → TypesAny a b m → TypesRow a b env (λ c. []) n m
row_any a b {env} {m} n typed = row_own a b {env = env} (λ c t. []) n (λ aloud F scope G key free at. typed F scope G key free at.reached)

-- `var`: a new variable stands for whatever a choice chooses
pub var_any : (a b : Parts) {m : ℕ} → MakesVar a b m any_scope → OnlyStore a b → TypesAny a b m
var_any a b made rest F scope G key free reached = var_made a b {scope = scope} key free reached made rest

-- `equal`: the demand, at a place and of any site
pub equal_asks : (a b : Parts) {at : Span} {found wanted : NodeRef} (env : List Entry) (v : Verdict) → EqualIs v a b at found wanted env → OnlyStoreAndFaults a b → Goes a b → AsksEqual a b env (place_of at) found.0 wanted.0
equal_asks a b env v is rest goes aloud F scope G s of want its sees p q = (equal_asked a b {scope = scope} env s v its sees aloud p q is rest goes).carried
