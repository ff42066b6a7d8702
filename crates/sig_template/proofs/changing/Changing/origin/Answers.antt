use Rattle.std.proofs.Common.{◌∙◌, sym, subst}
use Rattle.sig_template.proofs.Putting.{IsOther, type_put, other_put}
use Rattle.sig_template.proofs.changing.Changing.origin.Goals as goal

pub returns-in-Type : goal.returns-in-Type
returns-in-Type c = type_put c.args.self.changes.now c.args.old.now.origin c.in-Some.origin c.in-Type.root c.in-Type.arity c.in-Some.is (sym c.put.ensures ∙ c.in-Type.is)

pub returns-in_ok-moved-in-Path : goal.returns-in_ok-moved-in-Path
returns-in_ok-moved-in-Path c =
    other_put c.args.self.changes.now c.args.old.now.origin c.in-Some.origin c.in_ok-moved-in-Path.field-0 c.in-Some.is (subst IsOther (sym c.in-Path.is ∙ c.put.ensures) tt) c.in_ok-moved-in-Path.ensures

pub returns-in_ok-moved-in-Itself : goal.returns-in_ok-moved-in-Itself
returns-in_ok-moved-in-Itself c =
    other_put c.args.self.changes.now c.args.old.now.origin c.in-Some.origin c.in_ok-moved-in-Itself.field-0 c.in-Some.is (subst IsOther (sym c.in-Itself.is ∙ c.put.ensures) tt) c.in_ok-moved-in-Itself.ensures
