use Rattle.std.proofs.Common.{◌∙◌, [], ◌∷◌, ◌++◌, sym, ap, append-nil, if◌then◌else◌}
use Rattle.text_terms.specs.Bytes.{str_bytes}
use Rattle.typing_model.specs.Records.{is_among}
use Rattle.decl_typing.specs.Parameters.{token_names}
use Rattle.signature_typing.proofs.variables.push_once.Goals as goal

pub returns-then-is_found : goal.returns-then-is_found
returns-then-is_found c =
    let names = token_names c.args.found.now.items in
    sym (ap (λ b. names ++ (if b then [] else str_bytes c.args.token.now.name ∷ [])) (sym (c.is_found.ensures ∙ ap (λ ts. is_among (str_bytes c.args.token.now.name) (token_names ts)) c.deref.ensures.value) ∙ c.if-is_found.true) ∙ append-nil names)
