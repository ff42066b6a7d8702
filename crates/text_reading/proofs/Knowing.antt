-- Whose items those are whose types are known.
use Rattle.std.proofs.Common.{◌≡◌, ◌∙◌, ℕ, List, ap, sym, subst, Bool, true, false, Option, Some, None, IfSome, Result, Ok, Err, OnOk}
use Rattle.std.specs.Prelude.{OnErr, option_map, if◌then◌else◌}
use Rattle.std.specs.declared.alloc.AllocError.{AllocError}
use Rattle.tree_model.specs.Trees.{Tree}
use Rattle.token_laws.proofs.Ones.{lex_one}
use Rattle.service_model.specs.Structure.{items_in}
use Rattle.syntax_tree.specs.View.{trees_of}
use Rattle.frame_parser.specs.declared.whole.Parsed.{Parsed}
use Rattle.text_reading.specs.PlainTexts.{IsReadAs}
use Rattle.text_reading.specs.Structures.{parsed_in, AreItemsOf, IsParsedAs}
use Rattle.text_reading.specs.Types.{held, items_or_none, known}
use Rattle.text_reading.specs.declared.reading.ReadText.{ReadText}
use Rattle.analysis_api.specs.declared.Analyser.{Ghosts}
use Rattle.text_reading.specs.declared.types.KeptTypes.{KeptTypes}

-- the items of a text are one list
pub items_are_one : (text : List ℕ) (xs ys : List Tree) → AreItemsOf text xs → AreItemsOf text ys → xs ≡ ys
items_are_one text xs ys x y = x.are ∙ ap items_in (lex_one text x.tokens y.tokens x.lexed y.lexed) ∙ sym y.are

-- what a text was parsed as has its items
pub items_parsed : (text : List ℕ) (p : Parsed) → IsParsedAs text p → AreItemsOf text (trees_of p.tree)
items_parsed text p h = record { tokens = h.tokens; lexed = h.lexed; are = h.items }

-- what a text was read as has its items
pub items_read : (text : List ℕ) (r : ReadText) → IsReadAs text r → AreItemsOf text (trees_of (parsed_in r.parsed).tree)
items_read text r h = record { tokens = h.tokens; lexed = h.lexed; are = h.items }

-- where nothing is known, nothing is wrong
pub unknown : (text : List ℕ) (k : Option (List Tree)) → k ≡ None → IfSome k (AreItemsOf text)
unknown text k is = subst (λ o. IfSome o (AreItemsOf text)) (sym is) tt

-- what is known is still known of the text, where both are as they were
pub still_known : (before now : List ℕ) (j k : Option (List Tree)) → now ≡ before → k ≡ j → IfSome j (AreItemsOf before) → IfSome k (AreItemsOf now)
still_known before now j k same is known = subst (λ t. IfSome k (AreItemsOf t)) (sym same) (subst (λ o. IfSome o (AreItemsOf before)) (sym is) known)

-- after a typer was given the items of a text, these are known, or nothing is
pub known_again : (text : List ℕ) (items : List Tree) (k : Option (List Tree)) (r : Result (Unit {0}) AllocError) → AreItemsOf text items → OnOk r (k ≡ Some items) → OnErr r (k ≡ None) → IfSome k (AreItemsOf text)
known_again text items k (Ok u) are done failed = subst (λ o. IfSome o (AreItemsOf text)) (sym done) are
known_again text items k (Err e) are done failed = unknown text k failed

-- a typer that is known holds the items of the text, and so those of each tree of the text
pub holds_items : {R : Type 0} (items : R → List Tree) (o : Option R) (k : Option (List Tree)) (text : List ℕ) (trees : List Tree) → option_map items o ≡ k → IfSome k (AreItemsOf text) → AreItemsOf text trees → IfSome o (λ a. items a ≡ trees)
holds_items items None k text trees is known are = tt
holds_items items (Some a) k text trees is known are = items_are_one text (items a) trees (subst (λ j. IfSome j (AreItemsOf text)) (sym is) known) are

-- what is known is one list
pub same_known : (xs ys : List Tree) (k : Option (List Tree)) → Some xs ≡ k → k ≡ Some ys → xs ≡ ys
same_known xs ys k is known = cc

-- the items that are known are those that are held
pub known_held : {A : Type 0} {g : Ghosts A} (items : A → List Tree) (k : KeptTypes A g) (ts : List Tree) → known items k ≡ Some ts → held items k ≡ ts
known_held items k ts is = by k.is_current (option_map items k.typer) is
  where
    by : (c : Bool) (o : Option (List Tree)) → (if c then o else None) ≡ Some ts → items_or_none o ≡ ts
    by true (Some xs) is = cc
    by true None is = cc
    by false o is = cc
