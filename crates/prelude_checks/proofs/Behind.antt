-- Behind the prelude the next item starts among the names of the first environment.
use Rattle.std.proofs.Common.{◌≡◌, ◌∙◌, ℕ, true, List, [], map, Some, None, refl, sym, ap, subst, append-nil}
use Rattle.std.specs.Prelude.{All}
use Rattle.token_model.specs.Kinds.{Tok}
use Rattle.token_model.specs.Tokens.{Lex}
use Rattle.tree_model.specs.Trees.{Tree, node, IsSized}
use Rattle.grammar_model.specs.Named.{named, items_of}
use Rattle.grammar_model.specs.Ocaml.{interface_text, grammar, row_name}
use Rattle.recovery_model.specs.Recovery.{recover}
use Rattle.recovery_laws.proofs.Promises.{well_formed}
use Rattle.token_laws.proofs.Ones.{lex_one}
use Rattle.signature_model.specs.Entries.{Environment}
use Rattle.typing_model.specs.BuiltIns.{built_in_names}
use Rattle.typing_model.specs.Contexts.{Choice, Context}
use Rattle.typing_model.specs.Demands.{AllHold}
use Rattle.typing_model.specs.First.{every_site, entry_there, prelude_items, specifications_of, IsFirst}
use Rattle.typing_model.specs.Items.{items_ask, behind_items}
use Rattle.typing_model.specs.Parts.{Item, no_names}
use Rattle.typing_model.specs.PreludeText.{prelude_text}
use Rattle.type_nodes.specs.Readings.{Types}
use Rattle.env_table.specs.declared.entries.Entry.{Entry}
use Rattle.typing_state.specs.declared.parts.Parts.{Parts}
use Rattle.operand_laws.specs.Formed.{IsFormed}
use Rattle.operand_laws.proofs.Parsed.{items_formed}
use Rattle.typing_conditions.specs.Judging.{judgements}
use Rattle.typing_steps.specs.Constants.{HasConstants}
use Rattle.typing_steps.specs.States.{is_aloud, sight}
use Rattle.typing_rows.specs.Noted.{AreNoted}
use Rattle.first_laws.specs.Declaring.{StartsAmong}
use Rattle.module_steps.specs.declared.scenes.Scene.{Scene}
use Rattle.parsed_rows.specs.Items.{IsSmall}
use Rattle.parsed_rows.proofs.Sized.{tree_sized, items_sized}
use Rattle.signature_typing.specs.Specifications.{specifications_at, specified_from, AreCarriedSpecifications, AreKnownAt, AreSure, AllMet, IsSpecified, SpecifiesItemsFirst}
use Rattle.signature_typing.proofs.Specifications.{first_met, met_after, met_silent}
use Rattle.prelude_checks.specs.Known.{prelude_operands, prelude_context, IsPreludeTyped, StartsFirst}
use Rattle.prelude_checks.proofs.Checked.{holding}
use Rattle.prelude_checks.proofs.Chosen.{choice}
use Rattle.prelude_checks.proofs.Fitting.{fitting}
use Rattle.prelude_checks.proofs.Items.{tree_fits, items_small, items_numbered, items_carried, items_known}
use Rattle.prelude_checks.proofs.Known.{choice_known, sure}
use Rattle.prelude_checks.proofs.ModuleRows.{modules_carried}
use Rattle.prelude_checks.proofs.Ones.{first_one}
use Rattle.prelude_checks.proofs.Places.{starts_there}
use Rattle.prelude_checks.proofs.FirstNames.{first_known}
use Rattle.prelude_checks.proofs.Plain.{knows_names}
use Rattle.prelude_checks.proofs.Prelude.{lexed}
use Rattle.prelude_places.specs.There.{AreThere}
use Rattle.prelude_checks.proofs.Starts.{StartsKnown, starts_known}
use Rattle.prelude_checks.proofs.Tokens.{tokens}
use Rattle.prelude_checks.proofs.TypeRows.{types_carried}
use Rattle.prelude_checks.proofs.Typed.{typed}

-- the operands of a tree whose root fits are its items
numbered_tree : (t : Tree) → IsSized t → tree_fits t ≡ true → specifications_at 0 (specified_from 0 (items_of t)) ≡ specifications_of t
numbered_tree (node r x ps) sized fits = items_numbered r 0 ps sized.1 fits

-- and each is carried, where they are well formed
carried_tree : (t : Tree) → IsSized t → tree_fits t ≡ true → All (IsFormed 0) (items_of t) → AreCarriedSpecifications (specified_from 0 (items_of t))
carried_tree (node r x ps) sized fits formed = items_carried types_carried modules_carried 0 ps formed sized.1 fits

small_tree : (t : Tree) → IsSized t → tree_fits t ≡ true → All IsSmall (items_of t)
small_tree (node r x ps) sized fits = items_small 0 ps sized.1 fits

-- Each item of the prelude is one that is carried: the items of the parser are well formed.
carried_here : AreCarriedSpecifications (prelude_operands tokens)
carried_here =
    let T = (recover (grammar interface_text) tokens).0 in
    let sized = tree_sized row_name T in
    carried_tree (named row_name T) sized fitting (items_formed interface_text T (well_formed interface_text tokens).formed (items_sized row_name T (small_tree (named row_name T) sized fitting)))

-- The prelude is typed with the choice that is there.
prelude_here : IsPreludeTyped tokens choice
prelude_here = record {
  items = numbered_tree (named row_name (recover (grammar interface_text) tokens).0) (tree_sized row_name (recover (grammar interface_text) tokens).0) fitting;
  carried = carried_here;
  known = items_known choice choice_known 0 0 (items_of (named row_name (recover (grammar interface_text) tokens).0));
  holds = holding (items_ask (prelude_context choice) no_names (prelude_items tokens)) typed;
  sure = sure (items_ask (prelude_context choice) no_names (prelude_items tokens)) typed;
  stands = first_one;
}

-- The prelude's text has tokens of one list, with which it is typed.
pub prelude_known : (ts : List Tok) → Lex prelude_text ts → (ch : Choice) × IsPreludeTyped ts ch
prelude_known ts lex = subst (λ us. (ch : Choice) × IsPreludeTyped us ch) (lex_one prelude_text tokens ts lexed lex) (choice, prelude_here)

-- All that is to be known of the first environment's names is.
names_known : (env : Environment) → IsFirst env → knows_names env ≡ true
names_known env is = ap knows_names (first_one env is) ∙ first_known

-- Items that add the same names whatever is chosen, where one typing of the definitions is known: the next item starts among the names behind them, as names of the prelude.
starts_behind : (a b : Parts) (now : Scene) (names : List Entry) → AreThere now.env names → (ms : List Item) (g : IsSpecified (λ ch. built_in_names) ms no_names a b [] now) (V : Types) (c : Context) → AllMet (λ ch. built_in_names) (sight a) [] (λ x. items_ask x no_names ms) V c →
    StartsAmong (sight b) [] names (λ ch. map entry_there (behind_items c ms)) g.added.done.outside.older
starts_behind a b now names all ms g V c met =
    let one = met_after g.added.done [] V c (subst (λ ns. AllMet (λ ch. built_in_names) (sight a) [] (λ x. items_ask x no_names ns) V c) (sym (append-nil ms)) met) in
    let same : (ch : Choice) → g.added.done.env ch ≡ behind_items c ms = λ ch. g.added.alike.names ch ∙ sym (g.added.alike.names c.chosen) ∙ sym one.met.enters.env in
    starts_there all (λ V ch given. g.added.alike.letters V ch tt) (λ ch. ap (map entry_there) (same ch)) g.added.done.outside

-- Where the items of the prelude were typed after the built-in types, from a state in which no type is recorded, the next item starts among the names of the first environment, once they are names of the prelude.
pub prelude_starts : (a b : Parts) (env : List Entry) (now : Scene) (names : List Entry) → AreThere now.env names → (ts : List Tok) → Lex prelude_text ts → a.item ≡ 0 → SpecifiesItemsFirst a b env now (prelude_operands ts) [] → is_aloud a.telling ≡ true → StartsAmong (sight a) [] env (λ ch. built_in_names) [] → HasConstants a →
    ((i p : ℕ) → (sight a).types i p ≡ None) → (sight a).reports ≡ [] → (first : Environment) → IsFirst first → StartsFirst b names first
prelude_starts a b env now names there ts lex zero gives aloud at constants none quiet first is =
    let (ch, k) = prelude_known ts lex in
    let os = prelude_operands ts in
    let E : Choice → Environment = λ ch. built_in_names in
    let c = prelude_context ch in
    let here : specifications_at a.item os ≡ prelude_items ts = ap (λ i. specifications_at i os) zero ∙ k.items in
    let (V, met) = first_met a E (λ x. items_ask x no_names (specifications_at a.item os)) c at.outside.sound none refl (subst (λ ms. AllHold every_site (items_ask c no_names ms)) (sym here) k.holds) (subst (λ ms. AreSure (judgements every_site (items_ask c no_names ms))) (sym here) k.sure) in
    let f = gives [] E k.carried aloud at.outside constants (subst (λ U. AreNoted U a) (sym at.older) (none_noted a)) V c met (subst (λ i. AreKnownAt ch i os) (sym zero) k.known) in
    let all : f.items ≡ specifications_at a.item os = sym (append-nil f.items) ∙ f.splits in
    let all_met = subst (λ ms. AllMet E (sight a) [] (λ x. items_ask x no_names ms) V c) (sym all) met in
    let starts = starts_behind a b now names there f.items f.given V c all_met in
    let stands : map entry_there (behind_items c f.items) ≡ first = ap (λ ms. map entry_there (behind_items c ms)) (all ∙ here) ∙ sym (k.stands first is) in
    let none_typed : (i p : ℕ) → (sight b).types i p ≡ None = λ i p. f.given.added.untyped.types i p ∙ none i p in
    let k : StartsKnown (sight b) names first f.given.added.done.outside.older =
    starts_known (sight b) names first (names_known first is) none_typed (subst (λ F. StartsAmong (sight b) [] names (λ ch. F) f.given.added.done.outside.older) stands starts) in
    record {
      older = f.given.added.done.outside.older;
      starts = k.starts;
      known = k.known;
      noted = f.given.added.done.noted;
      constants = f.given.added.done.constants;
      untyped = none_typed;
      quiet = met_silent f.given.added.done.carried V c all_met ∙ quiet;
    }
  where
    none_noted : (a : Parts) → AreNoted [] a
    none_noted a k listed = absurd (let h : None ≡ Some k = listed.1 in cc)
