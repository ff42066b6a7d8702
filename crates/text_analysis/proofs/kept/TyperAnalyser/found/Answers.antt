use Rattle.std.proofs.Common.{refl, sym, subst, arith}
use Rattle.std.proofs.Math.Logic.{∥∥₁_map}
use Rattle.text_analysis.specs.Items.{views_of}
use Rattle.text_analysis.proofs.PointLaws.{points_fronts}
use Rattle.text_analysis.proofs.Refused.{items_refused}
use Rattle.type_nodes.specs.Views.{numbers}
use Rattle.weak_variables.specs.Free.{FreeOf, IsFound}
use Rattle.weak_variables.specs.Search.{lists_of}
use Rattle.text_analysis.proofs.TypedNodes.{items_typed, items_settled}
use Rattle.prelude_checks.proofs.Prelude.{first_names, is_first}
use Rattle.text_analysis.proofs.kept.TyperAnalyser.found.Goals as goal

pub returns-clause-found : goal.returns-clause-found
returns-clause-found c =
    let t = c.args.self.now in
    record {
      store = refl;
      index = refl;
      faults = refl;
      end = refl;
      weak = c.deref.ensures.value;
      given = ∥∥₁_map t.known (λ k. record {
        first = k.0;
        env = k.1;
        opens = k.2;
        at = t.typed.parts;
        now = t.typed.scene;
        given = k.3.ends.given;
        fronts = λ n lt. points_fronts (views_of t.typed.items.items) k.3.points n (let e = k.3.counted in omega arith);
        store = refl;
        index = refl;
        faults = refl;
        end = refl;
      });
    }

pub returns-clause-refused : goal.returns-clause-refused
returns-clause-refused c = λ lets. ∥∥₁_map c.args.self.now.known (λ k. items_refused k.3.ends.given k.2 c.len-nodes.ensures.plain first_names is_first lets)

pub returns-clause-typed : goal.returns-clause-typed
returns-clause-typed c = λ lets. ∥∥₁_map c.args.self.now.known (λ k. (items_typed k.3.ends.given k.2 c.len-nodes.ensures.plain first_names is_first lets _ refl refl).typed)

pub returns-clause-settled : goal.returns-clause-settled
returns-clause-settled c = λ settled lets.
    let t = c.args.self.now in
    ∥∥₁_map t.known (λ k. items_settled _ (items_typed k.3.ends.given k.2 c.len-nodes.ensures.plain first_names is_first lets _ refl refl) (lists_of t.typed.free.items) k.3.has_free refl
    (subst (λ ns. FreeOf t.typed.parts.store.nodes (IsFound (lists_of t.typed.free.items)) (numbers ns)) (sym c.deref.ensures.value) settled))
