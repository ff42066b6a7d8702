-- The faults that a typer found of a text's items are those of the text.
use Rattle.std.proofs.Common.{◌≡◌, List, map, sym, ◌∙◌, ap, subst}
use Rattle.std.specs.Prelude.{ℕ}
use Rattle.tree_model.specs.Trees.{Tree}
use Rattle.fault_model.specs.Refused.{AreOfValues, IsOfValues, AreRefused}
use Rattle.service_model.specs.Structure.{items_in, TyperFaults}
use Rattle.token_laws.proofs.Ones.{lex_one}
use Rattle.syntax_tree.specs.View.{trees_of}
use Rattle.frame_parser.specs.declared.whole.Parsed.{Parsed}
use Rattle.text_queries.specs.Faults.{typer_fault_of}
use Rattle.env_table.specs.declared.faults.Fault as typer
use Rattle.text_reading.specs.Structures.{IsParsedAs}

-- the items of a text of `let`, `;;` and exceptions without an argument are its
pub items_here : (text : List ℕ) (p : Parsed) → IsParsedAs text p → (t : IsOfValues text) → items_in t.tokens ≡ trees_of p.tree
items_here text p h t = ap items_in (lex_one text t.tokens h.tokens t.lexed h.lexed) ∙ sym h.items

values_here : (text : List ℕ) (p : Parsed) → IsParsedAs text p → IsOfValues text → AreOfValues (trees_of p.tree)
unfolding items_in
values_here text p h t = subst AreOfValues (items_here text p h t) t.items

-- So the faults that a typer found of the items are those of the text: of such items those of the demands that aren't kept.
pub typer_found : (text : List ℕ) (p : Parsed) (items : List Tree) (found : List typer.Fault) → IsParsedAs text p → items ≡ trees_of p.tree → (AreOfValues items → ∥ AreRefused items (map typer_fault_of found) ∥₁) → TyperFaults text (map typer_fault_of found)
typer_found text p items found h are refused = λ t. subst (λ ts. ∥ AreRefused ts (map typer_fault_of found) ∥₁) (are ∙ sym (items_here text p h t)) (refused (subst AreOfValues (sym are) (values_here text p h t)))
