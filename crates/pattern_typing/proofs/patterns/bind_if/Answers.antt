use Rattle.std.proofs.Common.{sym, subst, option_map}
use Rattle.std.specs.Prelude.{OnOk, None}
use Rattle.syntax_tree.specs.View.{tok_of}
use Rattle.pattern_rows.specs.Named.{BindsNameIf}
use Rattle.pattern_rows.proofs.Naming.{adds_none}
use Rattle.pattern_typing.specs.Matching.{binds_of, names_seen}
use Rattle.pattern_typing.proofs.Carrying.{on_ok}
use Rattle.pattern_typing.proofs.patterns.bind_if.Goals as goal

pub returns-in-Some-clause-binds : goal.returns-in-Some-clause-binds
returns-in-Some-clause-binds c =
    subst (λ o. OnOk c.bind.result (BindsNameIf (option_map (λ t. tok_of t.now) o) c.args.at.now c.bind.new.at c.args.env.now c.args.number c.args.ty (binds_of c.args.names.now.items) (binds_of c.bind.new.names.items) (names_seen c.args.seen.now.items) (names_seen c.bind.new.seen.items))) (sym c.in-Some.is) c.bind.ensures.binds

pub returns-in-None-clause-binds : goal.returns-in-None-clause-binds
returns-in-None-clause-binds c =
    let xs = binds_of c.args.names.now.items in
    let seen = names_seen c.args.seen.now.items in
    subst (λ o. OnOk c.note_type.result (BindsNameIf (option_map (λ t. tok_of t.now) o) c.args.at.now c.note_type.new.self c.args.env.now c.args.number c.args.ty xs xs seen seen)) (sym c.in-None.is)
    (on_ok c.note_type.result _ (BindsNameIf None c.args.at.now c.note_type.new.self c.args.env.now c.args.number c.args.ty xs xs seen seen) (λ noted. record { adds = adds_none xs seen; noted = noted; rest = c.note_type.ensures.rest }) c.note_type.ensures.noted)

pub returns-in-None-clause-goes : goal.returns-in-None-clause-goes
returns-in-None-clause-goes c = c.note_type.ensures.goes

pub returns-in-Some-clause-goes : goal.returns-in-Some-clause-goes
returns-in-Some-clause-goes c = c.bind.ensures.goes
