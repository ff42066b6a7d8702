use Rattle.std.proofs.Common.{◌∙◌, sym}
use Rattle.name_queries.proofs.PrefixParts.{of_modules, of_beginning}
use Rattle.name_queries.proofs.prefixes.split_prefix.Goals as goal

pub returns-clause-modules : goal.returns-clause-modules
returns-clause-modules c =
    let is = sym c.deref.ensures.value ∙ c.in-Some.ensures.cases.0 in
    c.in_ok-owned-in-Some.ensures ∙ of_modules c.args.prefix.now c.in-Ok.parts.items c.in-Some.modules.now c.in-Some.beginning.now c.in-Ok.ensures is

pub returns-clause-beginning : goal.returns-clause-beginning
returns-clause-beginning c =
    let is = sym c.deref.ensures.value ∙ c.in-Some.ensures.cases.0 in
    of_beginning c.args.prefix.now c.in-Ok.parts.items c.in-Some.modules.now c.in-Some.beginning.now c.in-Ok.ensures is
