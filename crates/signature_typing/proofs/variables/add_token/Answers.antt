use Rattle.std.proofs.Common.{◌≡◌, ◌∙◌, ◌++◌, sym, ap, subst, append-nil}
use Rattle.std.specs.Prelude.{OnOk}
use Rattle.text_terms.specs.Bytes.{str_bytes}
use Rattle.typing_model.specs.Modules.{once_each}
use Rattle.decl_typing.specs.Parameters.{token_names}
use Rattle.operand_laws.proofs.Variables.{variable_there, variable_lost}
use Rattle.signature_typing.proofs.variables.add_token.Goals as goal

pub returns-in-TyVar : goal.returns-in-TyVar
returns-in-TyVar c =
    let names = token_names c.args.found.now.items in
    subst (λ ns. OnOk c.push_once.result (token_names c.push_once.new.found.items ≡ names ++ once_each names ns)) (sym (variable_there c.args.token.now.kind (str_bytes c.args.token.now.name) c.in-TyVar.is)) c.push_once.ensures

pub returns-in_default : goal.returns-in_default
returns-in_default c =
    let names = token_names c.args.found.now.items in
    sym (ap (λ ns. names ++ once_each names ns) (variable_lost c.args.token.now.kind (str_bytes c.args.token.now.name) c.in_default.not-TyVar) ∙ append-nil names)
