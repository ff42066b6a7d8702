-- The texts of types.
use Rattle.std.specs.Prelude.{◌≡◌, ℕ, Bool, List, [], length, nat_lt, codes, MatchBool, MatchOption, Option, option_and_then, option_map, if◌then◌else◌}
use Rattle.std.specs.List.{list_all}
use Rattle.text_terms.specs.Bytes.{str_bytes}
use Rattle.tree_model.specs.Nodes.{Id}
use Rattle.query_model.specs.TypedNodes.{Typed}
use Rattle.syntax_tree.specs.View.{place_of}
use Rattle.typed_index.specs.Seen.{seen_at}
use Rattle.type_nodes.specs.Views.{numbers}
use Rattle.type_print_model.specs.Variables.{variable_name, variables_of}
use Rattle.env_table.specs.declared.entries.Entry.{Entry}
use Rattle.type_print.specs.Meeting.{roots_of}
use Rattle.type_print.specs.Shown.{shown}
use Rattle.type_print.specs.Texts.{PrintsWith, PrintsBy, PrintsIn}
use Rattle.query_engine.specs.declared.asked.Asked.{Asked}
use Rattle.query_engine.specs.declared.types.Typed as code

-- a number is that of a node of the types
abbrev pub is_node : Asked → ℕ → Bool
is_node a n = nat_lt n (length a.store.now.nodes)

-- the weak variables, if they are all nodes
abbrev pub weak_nodes : Asked → List ℕ
weak_nodes a = if list_all (is_node a) (numbers a.weak.now) then numbers a.weak.now else []

-- the text of a node's type with the names of an environment; only the weak variables of all have names of their own
pub record PrintsNode (a : Asked) (env : List Entry) (n : ℕ) (text : List ℕ) : Type 0 where
  pub found : PrintsWith a.store.now.nodes env (variable_name (roots_of a.store.now.nodes (weak_nodes a)) (variables_of (shown a.store.now.nodes n))) (shown a.store.now.nodes n) text
  pub defined : PrintsBy a.store.now.nodes env (roots_of a.store.now.nodes (weak_nodes a)) (variables_of (shown a.store.now.nodes n)) (shown a.store.now.nodes n) text
  pub inside : PrintsIn a.store.now.nodes env (roots_of a.store.now.nodes (weak_nodes a)) (variables_of (shown a.store.now.nodes n)) (shown a.store.now.nodes n) text

-- the text of a type: any type where it is no node
abbrev pub IsTextOf : Asked → List Entry → ℕ → List ℕ → Type 0
IsTextOf a env n text = MatchBool (is_node a n) (PrintsNode a env n text) (text ≡ codes "'a")

-- the names in scope and the type that are recorded for a node
abbrev pub type_at : Asked → Id → Option (List Entry × ℕ)
type_at a i = option_and_then (λ s. option_map (λ n. (s.env, n.0)) s.ty) (seen_at a.index.now i.item i.pre)

-- the text of a node's type with the names in scope there; any type where none is recorded
abbrev pub IsTypeText : Asked → Id → List ℕ → Type 0
IsTypeText a i text = MatchOption (type_at a i) (text ≡ codes "'a") (λ p. IsTextOf a p.0 p.1 text)

-- a typed node as it is shown: where it stands, and the text of its type
pub record IsShown (a : Asked) (n : Typed) (t : code.Typed) : Type 0 where
  pub place : place_of t.span ≡ n.span
  pub text : IsTypeText a n.id (str_bytes t.ty)
