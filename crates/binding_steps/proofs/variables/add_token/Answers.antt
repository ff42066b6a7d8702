use Rattle.std.proofs.Common.{◌≡◌, ◌∙◌, ◌||◌, [], ◌∷◌, sym, ap, subst}
use Rattle.std.specs.Prelude.{OnOk}
use Rattle.text_terms.specs.Bytes.{str_bytes}
use Rattle.signature_model.specs.Declarations.{Name}
use Rattle.typing_model.specs.Records.{is_among}
use Rattle.binding_steps.specs.Variables.{has}
use Rattle.operand_laws.proofs.Variables.{variable_there, variable_lost, or_none}
use Rattle.binding_steps.proofs.variables.add_token.Goals as goal

pub returns-in-TyVar : goal.returns-in-TyVar
returns-in-TyVar c =
    subst (λ ns. OnOk c.put.result ((q : Name) → has c.put.new.names q ≡ (has c.args.names.now q || is_among q ns)))
    (ap (λ n. n ∷ []) c.as_str.ensures ∙ sym (variable_there c.args.token.now.kind (str_bytes c.args.token.now.name) c.in-TyVar.is)) c.put.ensures

pub returns-in_default : goal.returns-in_default
returns-in_default c = λ q.
    sym (ap (λ ns. has c.args.names.now q || is_among q ns) (variable_lost c.args.token.now.kind (str_bytes c.args.token.now.name) c.in_default.not-TyVar) ∙ or_none (has c.args.names.now q))
