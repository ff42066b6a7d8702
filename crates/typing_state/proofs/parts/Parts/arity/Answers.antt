use Rattle.typing_state.proofs.Going.{goes_refl}
use Rattle.std.proofs.Common.{◌≡◌, ◌∙◌, List, ℕ, ◌++◌, false, refl, subst, append_assoc, Result, Ok, Err}
use Rattle.std.specs.Prelude.{IfOk, IsOk, codes, string_bytes}
use Rattle.std.specs.Fmt.{decimal}
use Rattle.env_table.specs.declared.faults.FaultKind.TheVariants as fault
use Rattle.typing_state.specs.Goes.{faults_of, Told}
use Rattle.text_terms.specs.Bytes.{str_bytes}
use Rattle.text_terms.specs.declared.RcStr.{RcStr}
use Rattle.typing_state.proofs.Listed.{untrue}
use Rattle.typing_state.proofs.parts.Parts.arity.Goals as goal

-- a message has the bytes of the text that was written for it
written : {X F : Type 0} (f : Result X F) (g : X → List ℕ) (m : RcStr) (bytes : List ℕ) → IsOk f × IfOk f (λ s. str_bytes m ≡ g s) → IfOk f (λ s. g s ≡ bytes) → str_bytes m ≡ bytes
written (Ok s) g m bytes p e = p.1 ∙ e
written (Err x) g m bytes p e = absurd (untrue false refl p.0)

-- the pieces of a message may be put together from either end
pieces : (n a t b g c : List ℕ) → n ++ (a ++ (t ++ (b ++ (g ++ c)))) ≡ n ++ a ++ t ++ b ++ g ++ c
pieces n a t b g c = simp append_assoc

pub returns-clause-verdict : goal.returns-clause-verdict
returns-clause-verdict c =
    let name = c.args.name.now in
    let text : List ℕ = name ++ (codes " takes " ++ (decimal c.args.taken ++ (codes " arguments but " ++ (decimal c.args.given ++ codes " are given")))) in
    (c.if-taken-given.false, subst (λ (bytes : List ℕ). Told c.args.self.now.telling (faults_of c.args.self.now) (faults_of c.report.new.self) c.args.at fault.Arity bytes) (written c.format-text.result string_bytes c.in_ok-text.text text c.in_ok-text.ensures c.format-text.ensures.ok ∙ pieces name (codes " takes ") (decimal c.args.taken) (codes " arguments but ") (decimal c.args.given) (codes " are given")) c.in_ok-report.ensures.told)

pub returns-clause-goes : goal.returns-clause-goes
returns-clause-goes c = c.report.ensures.goes

pub returns-in_err-report-clause-goes : goal.returns-in_err-report-clause-goes
returns-in_err-report-clause-goes c = c.report.ensures.goes

pub returns-in_err-text-clause-goes : goal.returns-in_err-text-clause-goes
returns-in_err-text-clause-goes c = goes_refl c.args.self.now

pub returns-then-taken-given-clause-goes : goal.returns-then-taken-given-clause-goes
returns-then-taken-given-clause-goes c = goes_refl c.args.self.now
