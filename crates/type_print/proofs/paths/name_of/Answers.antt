use Rattle.std.proofs.Common.{sym, subst}
use Rattle.text_terms.specs.Bytes.{str_bytes}
use Rattle.type_terms.specs.Views.{path_of}
use Rattle.type_print_model.specs.Paths.{IsNameOf}
use Rattle.type_print.specs.Paths.{naming}
use Rattle.type_print.proofs.Levels.{named_right}
use Rattle.type_print.proofs.paths.name_of.Goals as goal

pub returns-clause-named : goal.returns-clause-named
returns-clause-named c declared e =
    subst (IsNameOf naming c.args.env.now declared (path_of c.args.origin.now)) (sym c.in_ok-name.ensures) (named_right c.args.env.now (path_of c.args.origin.now) (str_bytes c.args.origin.now.name) declared e)
