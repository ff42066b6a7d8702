-- What the engine's faults are in the definitions.
use Rattle.std.specs.Prelude.{◌≡◌, ℕ, List, codes, take}
use Rattle.text_terms.specs.Bytes.{str_bytes}
use Rattle.tree_model.specs.Trees.{Place}
use Rattle.syntax_tree.specs.View.{place_of}
use Rattle.query_model.specs.Faults as model
use Rattle.query_model.specs.Faults.{Fault, Source, by_typer, page_limit, parts_missing, placed_among, token_skipped, token_too_deep, item_cut, InOrder}
use Rattle.frame_steps.specs.Told.{Told, added, skipped, too_deep, cut}
use Rattle.frame_steps.specs.View as parser
use Rattle.frame_steps.specs.declared.stack.SyntaxFault.{SyntaxFault}
pub use Rattle.analysis_api.specs.Faults.{kind_of, typer_fault_of}
use Rattle.text_queries.specs.declared.faults.Listed.{Listed}
use Rattle.text_queries.specs.declared.tellers.Teller.{Teller}
use Rattle.text_queries.specs.declared.tellers.Teller.TheVariants as teller
use Rattle.text_queries.specs.declared.tellers.Told as code
use Rattle.text_queries.specs.declared.tellers.Told.TheVariants.{Parser, Typer}

-- what the parser tells, as it is listed
abbrev pub told_as : Told → Fault
told_as (added p n) = parts_missing p n
told_as (skipped p) = token_skipped p
told_as (too_deep p) = token_too_deep p
told_as (cut at) = item_cut at

-- a fault of the parser as it is listed
abbrev pub fault_of : SyntaxFault → Fault
fault_of f = told_as (parser.fault_of f)

-- a fault as it is told
abbrev pub told_of : code.Told → Fault
told_of (Parser f) = fault_of f
told_of (Typer f) = by_typer (typer_fault_of f.now)

-- what tells a fault
abbrev pub source_of_teller : Teller → Source
source_of_teller teller.Parser = model.parser
source_of_teller teller.Typer = model.typer
source_of_teller teller.Warning = model.warning

-- the first faults of a page and of others that come, in order
pub record FillsPage (page faults full : List Fault) : Type 0 where
  pub order : InOrder full
  pub first : full ≡ take page_limit (placed_among page faults)

-- a listed fault
abbrev pub listed_of : Listed → model.Listed
listed_of l = record { span = place_of l.span; kind = str_bytes l.kind; message = str_bytes l.message; source = str_bytes l.ty }

-- a listed fault of the parser
abbrev pub told_by_parser : Place → List ℕ → List ℕ → model.Listed
told_by_parser p kind message = record { span = p; kind = kind; message = message; source = codes "parser" }
