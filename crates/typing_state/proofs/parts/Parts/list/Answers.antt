use Rattle.typing_state.proofs.Going.{goes_refl}
use Rattle.std.proofs.Common.{ℕ, zero, suc, [], ◌∷◌, subst, arith}
use Rattle.std.specs.Prelude.{All, codes}
use Rattle.std.proofs.lemmas.Result.{IfOk-weaker}
use Rattle.type_nodes.specs.Nodes.{Con, IsNode}
use Rattle.type_nodes.specs.Changes.{Makes}
use Rattle.typing_state.proofs.parts.Parts.list.Goals as goal

-- what holds for the one element of a list holds for all of them
all_one : (P : ℕ → Type 0) (x : ℕ) → P x → All P (x ∷ [])
all_one P x p zero d lt = p
all_one P x p (suc k) d lt = absurd (omega (arith, lt))

pub returns-clause-made : goal.returns-clause-made
returns-clause-made c =
    let old = c.args.self.now.store in
    let new = c.con.new.self.store in
    let args = c.args.element.0 ∷ [] in
    IfOk-weaker c.con.result _ _ (λ n made inside. subst (λ path. Makes old new n.0 (Con path (codes "list") args)) c.in_ok-origin.ensures.path
    (subst (λ name. Makes old new n.0 (Con c.in_ok-origin.origin.path.items name args)) c.in_ok-origin.ensures.name (made (all_one (IsNode old.nodes) c.args.element.0 inside)))) c.con.ensures.made

pub returns-clause-otherwise : goal.returns-clause-otherwise
returns-clause-otherwise c = IfOk-weaker c.con.result _ _ (λ n made outside. made (λ all. outside (all 0 0 (omega arith)))) c.con.ensures.otherwise

pub returns-clause-goes : goal.returns-clause-goes
returns-clause-goes c = c.con.ensures.goes

pub returns-in_err-origin-clause-goes : goal.returns-in_err-origin-clause-goes
returns-in_err-origin-clause-goes c = goes_refl c.args.self.now
