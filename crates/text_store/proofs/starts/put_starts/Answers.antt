use Rattle.std.proofs.Common.{◌≡◌, ◌++◌, take, drop, List, MatchResult, sym, ◌∙◌, ap, subst}
use Rattle.std.proofs.lemmas.List.{map-id}
use Rattle.std.proofs.lemmas.Iterator.{items_from_drains}
use Rattle.std.proofs.lemmas.Iterator.Adapters.{YieldsList-from_vec}
use Rattle.text_store.proofs.starts.put_starts.Goals as goal
use Rattle.text_store.proofs.starts.put_starts.Goals.{in-Ok, in-Err}

pub returns : goal.returns
returns c =
    let P = λ (now : List _). now ≡ take c.args.from c.args.starts.now.items ++ (c.args.fresh.items ++ drop c.args.to c.args.starts.now.items) in
    let Q = λ (now : List _). now ≡ c.args.starts.now.items in
    elim c.match-splice.branch [
      | in-Ok w ↦ (
          let put = w.in-Ok.ensures.items in
          let gives = put.2 in
          let drains = put.3 in
          let all = YieldsList-from_vec {s = put.0} c.args.fresh.items gives.0 (gives.1 ∙ c.args.fresh.ok.0) in
          let items = items_from_drains put.1 (drains.1.0, drains.1.1, λ _. (drains.0, drains.1.2)) all in
          subst (λ r. MatchResult r (λ _. P c.splice.new.self.items) (λ _. Q c.splice.new.self.items)) (sym w.result-is)
          (put.4 ∙ ap (λ xs. take c.args.from c.args.starts.now.items ++ (xs ++ drop c.args.to c.args.starts.now.items)) (sym (map-id put.1) ∙ items)))
      | in-Err w ↦ (
          subst (λ r. MatchResult r (λ _. P c.splice.new.self.items) (λ _. Q c.splice.new.self.items)) (sym w.result-is) w.in-Err.ensures.err.0)
    ]
