use Rattle.std.proofs.Common.{◌∙◌, refl, sym, ap, subst}
use Rattle.std.proofs.lemmas.Result.{IfOk-weaker}
use Rattle.env_table.specs.declared.entries.Place.TheVariants as place
use Rattle.first_laws.specs.Built.{DeclaresBuiltIn, EntersBuiltIn}
use Rattle.module_steps.proofs.first.built_in_entry.Goals as goal

pub returns-clause-goes : goal.returns-clause-goes
returns-clause-goes c = c.built_in_declaration.ensures.goes

pub returns-in_err-declaration-clause-goes : goal.returns-in_err-declaration-clause-goes
returns-in_err-declaration-clause-goes c = c.built_in_declaration.ensures.goes

pub returns-in_err-from_str-clause-goes : goal.returns-in_err-from_str-clause-goes
returns-in_err-from_str-clause-goes c = c.built_in_declaration.ensures.goes

pub returns-in_err-owned-clause-goes : goal.returns-in_err-owned-clause-goes
returns-in_err-owned-clause-goes c = c.built_in_declaration.ensures.goes

pub returns-clause-declares : goal.returns-clause-declares
returns-clause-declares c =
    IfOk-weaker c.owned-2.result _ _ (λ r same level. subst (λ e. EntersBuiltIn c.args.at.now c.built_in_declaration.new.at c.args.which e) (sym same) (record {
      name = c.in_ok-from_str.ensures ∙ c.name.ensures;
      kind = refl;
      place = ap place.BuiltIn c.number.ensures;
      declaration = c.in_ok-owned.field-0;
      is = refl;
      declared = subst (λ d. DeclaresBuiltIn c.args.at.now c.built_in_declaration.new.at c.args.which d) (sym c.in_ok-owned.ensures) (c.in_ok-declaration.ensures.declares level);
    })) c.owned-2.ensures
