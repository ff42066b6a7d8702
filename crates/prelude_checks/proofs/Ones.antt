-- There is one first environment, and one setting of a text.
use Rattle.std.proofs.Common.{◌≡◌, ℕ, true, List, map, refl, sym, ◌∙◌, ap, subst}
use Rattle.tree_model.specs.Slots.{is_operand}
use Rattle.tree_model.specs.Trees.{Tree}
use Rattle.grammar_model.specs.Rows.{chain_of, grower_of}
use Rattle.grammar_model.specs.Ocaml.{interface_text, grammar, row_name, rows}
use Rattle.grammar_model.specs.Tables.{first_place}
use Rattle.grammar_model.specs.Keys.{kind_key, key_of}
use Rattle.grammar_model.specs.Named.{named}
use Rattle.recovery_model.specs.Steps as rules
use Rattle.recovery_model.specs.Recovery.{step, close, recover}
use Rattle.token_laws.proofs.Ones.{lex_one}
use Rattle.signature_model.specs.Entries.{Environment}
use Rattle.typing_model.specs.PreludeText.{prelude_text}
use Rattle.typing_model.specs.BuiltIns.{built_in_names}
use Rattle.typing_model.specs.Contexts.{in_item}
use Rattle.typing_model.specs.Demands.{AllHold}
use Rattle.typing_model.specs.Parts.{no_names}
use Rattle.typing_model.specs.Items.{items_ask}
use Rattle.typing_model.specs.Typings.{outermost}
use Rattle.typing_model.specs.First.{every_site, entry_there, prelude_items, behind_prelude, IsFirst, program_items, IsSetting}
use Rattle.typing_laws.proofs.Determined.{is_simple, behind_one, specifications_determined}
use Rattle.prelude_checks.proofs.Checked.{holding}
use Rattle.prelude_checks.proofs.Chosen.{choice}
use Rattle.prelude_checks.proofs.Prelude.{first_names, lexed}
use Rattle.prelude_checks.proofs.Tokens.{tokens}
use Rattle.prelude_checks.proofs.Typed.{typed}

-- no declaration of the prelude is another name for a type
simple : is_simple (named row_name (recover (grammar interface_text) tokens).0) ≡ true
unfolding recover step close rules.step rows chain_of grower_of first_place kind_key key_of is_operand
simple = refl

pub first_one : (env : Environment) → IsFirst env → env ≡ first_names
first_one env f =
    let same : f.tokens ≡ tokens = lex_one prelude_text f.tokens tokens f.lexed lexed in
    let holds : AllHold every_site (items_ask (outermost built_in_names every_site f.choice) no_names (prelude_items tokens)) =
    subst (λ ts. AllHold every_site (items_ask (outermost built_in_names every_site f.choice) no_names (prelude_items ts))) same f.holds in
    f.stands ∙ ap (λ ts. behind_prelude ts f.choice) same ∙
    ap (map entry_there) (behind_one every_site f.choice choice (in_item 0) built_in_names no_names (prelude_items tokens)
    (specifications_determined every_site f.choice choice (named row_name (recover (grammar interface_text) tokens).0) simple) holds
    (holding (items_ask (outermost built_in_names every_site choice) no_names (prelude_items tokens)) typed))

pub firsts_one : (env other : Environment) → IsFirst env → IsFirst other → env ≡ other
firsts_one env other f g = first_one env f ∙ sym (first_one other g)

pub settings_one : (text : List ℕ) (env other : Environment) (items others : List Tree) → IsSetting text env items → IsSetting text other others → (env ≡ other) × (items ≡ others)
settings_one text env other items others s z =
    (firsts_one env other s.first z.first, s.parsed ∙ ap program_items (lex_one text s.tokens z.tokens s.lexed z.lexed) ∙ sym z.parsed)
