-- The items of the prelude, typed one after the other.
use Rattle.std.proofs.Common.{◌≡◌, ◌∙◌, ℕ, false, List, [], ◌∷◌, sym, ap, subst}
use Rattle.token_model.specs.Kinds.{Tok}
use Rattle.token_model.specs.Tokens.{Lex}
use Rattle.tree_model.specs.Extents.{extent_of}
use Rattle.tree_model.specs.Trees.{Tree}
use Rattle.signature_model.specs.Declarations.{Name}
use Rattle.signature_model.specs.Entries.{Environment}
use Rattle.typing_model.specs.BuiltIns.{built_in_names}
use Rattle.typing_model.specs.First.{IsFirst}
use Rattle.typing_model.specs.PreludeText.{prelude_text}
use Rattle.row_parts.specs.Numbered.{Numbered, behind, node_with}
use Rattle.env_table.specs.declared.entries.Entry.{Entry}
use Rattle.env_table.specs.declared.entries.Kind.{Kind}
use Rattle.typed_index.specs.Seen.{seen_at}
use Rattle.typing_state.specs.declared.parts.Parts.{Parts}
use Rattle.typing_state.specs.Fresh.{IsNew}
use Rattle.typing_state.specs.Goes.{Goes}
use Rattle.typing_state.proofs.Going.{goes_refl, goes_trans}
use Rattle.typing_steps.specs.Constants.{HasConstants}
use Rattle.typing_steps.specs.States.{is_aloud, sight, type_in, reports_of}
use Rattle.typing_steps.proofs.Starting.{new_constants}
use Rattle.first_laws.specs.Declaring.{StartsAmong}
use Rattle.module_steps.specs.declared.scenes.Scene.{Scene}
use Rattle.module_steps.specs.Scenes.{has_name}
use Rattle.signature_typing.specs.Specifications.{GivesSpecification, SpecifiesItemsFirst, specified_from}
use Rattle.signature_typing.proofs.SpecificationSteps.{specifications_start, specified_next}
use Rattle.prelude_checks.specs.Known.{StartsFirst, IsFresh, prelude_operands}
use Rattle.prelude_places.specs.There.{AreThere}
use Rattle.prelude_checks.proofs.Behind.{prelude_starts}

-- The first items of the prelude were typed after the built-in types were declared, and these items are left, of which the first has this number.
pub record TypesPrelude (old now : Parts) (scene : Scene) (number : ℕ) (left : List Tree) : Type 0 where
  pub begun : Parts
  pub env : List Entry
  pub starts : old.level ≡ 0 → StartsAmong (sight begun) [] env (λ ch. built_in_names) []
  pub constants : HasConstants old → HasConstants begun
  pub index : old.level ≡ 0 → begun.index ≡ old.index
  pub faults : old.level ≡ 0 → begun.faults ≡ old.faults
  pub before : Goes old begun
  pub goes : Goes begun now
  pub first : (ts : List Tok) → Lex prelude_text ts → SpecifiesItemsFirst begun now env scene (prelude_operands ts) (specified_from number left)

-- the operands of trees that are the items of a prelude
pub prelude_numbered : {items trees : List Tree} → items ≡ trees → specified_from 0 items ≡ specified_from 0 trees
prelude_numbered same = ap (specified_from 0) same

-- before the first item
pub prelude_begins : (old begun : Parts) (env : List Entry) (s : Scene) (all : List Tree) → (old.level ≡ 0 → StartsAmong (sight begun) [] env (λ ch. built_in_names) []) → (HasConstants old → HasConstants begun) → (old.level ≡ 0 → begun.index ≡ old.index) → (old.level ≡ 0 → begun.faults ≡ old.faults) → Goes old begun → s.env ≡ env →
    ((k : Kind) (n : Name) → has_name s k n ≡ false) → ((ts : List Tok) → Lex prelude_text ts → prelude_operands ts ≡ specified_from 0 all) → TypesPrelude old begun s 0 all
prelude_begins old begun env s all starts constants index faults goes same none are = record {
  begun = begun;
  env = env;
  starts = starts;
  constants = constants;
  index = index;
  faults = faults;
  before = goes;
  goes = goes_refl begun;
  first = λ ts lex. subst (SpecifiesItemsFirst begun begun env s (prelude_operands ts)) (are ts lex) (specifications_start begun env s (prelude_operands ts) same none);
}

-- one item more
pub prelude_next : {old now next : Parts} {s s' : Scene} {number : ℕ} {left later : List Tree} (t : Tree) (after : ℕ) → TypesPrelude old now s number left → left ≡ t ∷ later → after ≡ behind number (extent_of t).size → Goes now next → {o : Numbered} → o ≡ node_with number t → GivesSpecification now next s s' o → TypesPrelude old next s' after later
prelude_next {old} {now} {next} {s} {s'} {number} {left} {later} t after p cut is goes same gives = record {
  begun = p.begun;
  env = p.env;
  starts = p.starts;
  constants = p.constants;
  index = p.index;
  faults = p.faults;
  before = p.before;
  goes = goes_trans p.begun now next p.goes goes;
  first = λ ts lex. subst (λ n. SpecifiesItemsFirst p.begun next p.env s' (prelude_operands ts) (specified_from n later)) (sym is)
      (specified_next p.begun now next p.env s s' (prelude_operands ts) (specified_from (behind number (extent_of t).size) later) (node_with number t) p.goes
      (subst (λ us. SpecifiesItemsFirst p.begun now p.env s (prelude_operands ts) (specified_from number us)) cut (p.first ts lex)) (subst (GivesSpecification now next s s') same gives));
}

-- in a new state nothing has been typed yet
pub fresh_new : (a : Parts) → IsNew a → IsFresh a
fresh_new a new = record {
  level = new.level;
  item = new.item;
  aloud = ap is_aloud new.aloud;
  untyped = λ i p. ap type_in (new.unrecorded i p);
  quiet = ap reports_of new.unreported;
  constants = new_constants a new;
}

-- behind the last item
pub prelude_ends : {old now : Parts} {s : Scene} {number : ℕ} {left : List Tree} → TypesPrelude old now s number left → left ≡ [] → (names : List Entry) → AreThere s.env names → IsFresh old → (first : Environment) → IsFirst first → StartsFirst now names first
prelude_ends {old} {now} {s} {number} p none names there fresh first is =
    prelude_starts p.begun now p.env s names there is.tokens is.lexed (p.before.item ∙ fresh.item) (subst (λ us. SpecifiesItemsFirst p.begun now p.env s (prelude_operands is.tokens) (specified_from number us)) none (p.first is.tokens is.lexed)) (ap is_aloud p.before.telling ∙ fresh.aloud)
    (p.starts fresh.level) (p.constants fresh.constants) (λ i q. ap (λ x. type_in (seen_at x i q)) (p.index fresh.level) ∙ fresh.untyped i q)
    (ap (λ f. (sight (record old { faults = f })).reports) (p.faults fresh.level) ∙ fresh.quiet) first is
