-- The text of a type, as it is printed.
use Rattle.std.proofs.Common.{◌≡◌, ℕ, true, List, refl, sym, subst}
use Rattle.std.specs.Prelude.{IfOk, MatchBool, Result, Ok, Err, codes}
use Rattle.text_terms.specs.Bytes.{str_bytes}
use Rattle.text_terms.specs.declared.RcStr.{RcStr}
use Rattle.env_table.specs.declared.entries.Entry.{Entry}
use Rattle.type_print_model.specs.Variables.{variable_name, variables_of}
use Rattle.type_print.specs.Meeting.{roots_of}
use Rattle.type_print.specs.Shown.{shown}
use Rattle.type_print.specs.Texts.{PrintsWith, PrintsBy, PrintsIn}
use Rattle.query_engine.specs.declared.asked.Asked.{Asked}
use Rattle.query_engine.specs.Texts.{is_node, weak_nodes, PrintsNode, IsTextOf}

-- a node's type is printed with the weak variables
pub printed : {E : Type 0} (r : Result RcStr E) (a : Asked) (env : List Entry) (n : ℕ) (weak : List ℕ) → weak ≡ weak_nodes a → is_node a n ≡ true →
    IfOk r (λ x. PrintsWith a.store.now.nodes env (variable_name (roots_of a.store.now.nodes weak) (variables_of (shown a.store.now.nodes n))) (shown a.store.now.nodes n) (str_bytes x)) →
    IfOk r (λ x. PrintsBy a.store.now.nodes env (roots_of a.store.now.nodes weak) (variables_of (shown a.store.now.nodes n)) (shown a.store.now.nodes n) (str_bytes x)) →
    IfOk r (λ x. PrintsIn a.store.now.nodes env (roots_of a.store.now.nodes weak) (variables_of (shown a.store.now.nodes n)) (shown a.store.now.nodes n) (str_bytes x)) →
    IfOk r (λ x. IsTextOf a env n (str_bytes x))
printed (Err e) a env n weak w there found defined inside = tt
printed (Ok x) a env n weak w there found defined inside =
    let nodes = a.store.now.nodes in
    let node : PrintsNode a env n (str_bytes x) = record {
      found = subst (λ ws. PrintsWith nodes env (variable_name (roots_of nodes ws) (variables_of (shown nodes n))) (shown nodes n) (str_bytes x)) w found;
      defined = subst (λ ws. PrintsBy nodes env (roots_of nodes ws) (variables_of (shown nodes n)) (shown nodes n) (str_bytes x)) w defined;
      inside = subst (λ ws. PrintsIn nodes env (roots_of nodes ws) (variables_of (shown nodes n)) (shown nodes n) (str_bytes x)) w inside;
    } in
    subst (λ b. MatchBool b (PrintsNode a env n (str_bytes x)) (str_bytes x ≡ codes "'a")) (sym there) node
