use Rattle.typing_state.proofs.Going.{goes_refl}
use Rattle.std.proofs.Common.{◌∙◌, List, ℕ, ◌++◌, ap, sym, subst, append_assoc}
use Rattle.std.specs.Prelude.{OnOk, codes, string_bytes}
use Rattle.env_table.specs.declared.faults.FaultKind.TheVariants as fault
use Rattle.typing_state.specs.Goes.{faults_of, Told}
use Rattle.typing_state.proofs.Faulting.{told_with}
use Rattle.typing_state.proofs.parts.Parts.unbound.Goals as goal

pub returns-clause-told : goal.returns-clause-told
returns-clause-told c =
    let word = c.text-word.result.now in
    let text : List ℕ = codes "Unbound " ++ (word ++ (codes " " ++ c.args.name.now)) in
    subst (λ (bytes : List ℕ). OnOk c.report.result (Told c.args.self.now.telling (faults_of c.args.self.now) (faults_of c.report.new.self) c.args.at fault.Bound bytes))
    (ap (λ (rest : List ℕ). codes "Unbound " ++ rest) (sym (append_assoc word (codes " ") c.args.name.now)) ∙ ap (λ (kind : List ℕ). codes "Unbound " ++ kind ++ codes " " ++ c.args.name.now) c.text-word.ensures)
    (told_with c.report.result string_bytes c.format.result c.in_ok-text.text c.args.self.now.telling _ _ c.args.at _ text c.in_ok-text.ensures c.format.ensures.ok c.report.ensures.told)

pub returns-clause-goes : goal.returns-clause-goes
returns-clause-goes c = c.report.ensures.goes

pub returns-in_err-text-clause-goes : goal.returns-in_err-text-clause-goes
returns-in_err-text-clause-goes c = goes_refl c.args.self.now
