use Rattle.typing_state.proofs.Going.{goes_refl}
use Rattle.std.proofs.Common.{◌≡◌, ◌∙◌, ℕ, List, ◌++◌, ap, subst, append_assoc}
use Rattle.std.specs.Prelude.{OnOk, codes, string_bytes}
use Rattle.env_table.specs.declared.faults.FaultKind.TheVariants as fault
use Rattle.typing_state.specs.Goes.{faults_of, Told}
use Rattle.typing_state.proofs.Faulting.{told_with}
use Rattle.typing_state.proofs.parts.Parts.tell_two.Goals as goal

-- the pieces of a message may be put together from either end
pieces : (a f b w c e : List ℕ) → a ++ (f ++ (b ++ (w ++ (c ++ e)))) ≡ a ++ f ++ b ++ w ++ c ++ e
pieces a f b w c e = simp append_assoc

pub returns-clause-told : goal.returns-clause-told
returns-clause-told c =
    let whole : List ℕ → List ℕ = λ end. codes "This has type " ++ c.args.found.now ++ codes " but type " ++ c.args.wanted.now ++ codes " is wanted" ++ end in
    let text : List ℕ = codes "This has type " ++ (c.args.found.now ++ (codes " but type " ++ (c.args.wanted.now ++ (codes " is wanted" ++ c.ending-end.result.now)))) in
    subst (λ (bytes : List ℕ). OnOk c.report.result (Told c.args.self.now.telling (faults_of c.args.self.now) (faults_of c.report.new.self) c.args.at fault.Equal bytes))
    (pieces (codes "This has type ") c.args.found.now (codes " but type ") c.args.wanted.now (codes " is wanted") c.ending-end.result.now ∙ ap whole c.ending-end.ensures)
    (told_with c.report.result string_bytes c.format-text.result c.in_ok-text.text c.args.self.now.telling _ _ c.args.at _ text c.in_ok-text.ensures c.format-text.ensures.ok c.report.ensures.told)

pub returns-clause-goes : goal.returns-clause-goes
returns-clause-goes c = c.report.ensures.goes

pub returns-in_err-text-clause-goes : goal.returns-in_err-text-clause-goes
returns-in_err-text-clause-goes c = goes_refl c.args.self.now
