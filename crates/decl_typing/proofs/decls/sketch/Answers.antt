use Rattle.std.proofs.Common.{refl, subst}
use Rattle.decl_typing.specs.Owned.{IsOwnRight}
use Rattle.decl_typing.proofs.Owned.{own_there}
use Rattle.decl_typing.proofs.decls.sketch.Goals.{in-Abbreviation, in-Reexport}
use Rattle.typing_state.proofs.Going.{goes_refl}
use Rattle.type_expressions.proofs.Untyped.{untyped_same, ok_any}
use Rattle.decl_typing.proofs.decls.sketch.Goals as goal

pub returns-in-None-clause-goes : goal.returns-in-None-clause-goes
returns-in-None-clause-goes c = c.another.ensures.goes

pub returns-in-Some-entry-clause-goes : goal.returns-in-Some-entry-clause-goes
returns-in-Some-entry-clause-goes c = c.another.ensures.goes

pub returns-in_default-clause-goes : goal.returns-in_default-clause-goes
returns-in_default-clause-goes c = goes_refl c.args.at.now

pub returns-in_default-right-clause-goes : goal.returns-in_default-right-clause-goes
returns-in_default-right-clause-goes c = goes_refl c.args.at.now

pub returns-in_err-declaration-clause-goes : goal.returns-in_err-declaration-clause-goes
returns-in_err-declaration-clause-goes c = c.another.ensures.goes

pub returns-in_err-entry-clause-goes : goal.returns-in_err-entry-clause-goes
returns-in_err-entry-clause-goes c = c.another.ensures.goes

pub returns-in-None-clause-untyped : goal.returns-in-None-clause-untyped
returns-in-None-clause-untyped c = c.in_ok-declaration.ensures.untyped

pub returns-in-Some-entry-clause-untyped : goal.returns-in-Some-entry-clause-untyped
returns-in-Some-entry-clause-untyped c = ok_any c.add.result _ c.in_ok-declaration.ensures.untyped

pub returns-in_default-clause-untyped : goal.returns-in_default-clause-untyped
returns-in_default-clause-untyped c = untyped_same c.args.at.now

pub returns-in_default-right-clause-untyped : goal.returns-in_default-right-clause-untyped
returns-in_default-right-clause-untyped c = untyped_same c.args.at.now

pub returns-in_default-clause-own : goal.returns-in_default-clause-own
returns-in_default-clause-own c = λ own. (refl, refl)

pub returns-in_default-right-clause-own : goal.returns-in_default-right-clause-own
returns-in_default-right-clause-own c = λ own. (refl, refl)

pub returns-in-None-clause-own : goal.returns-in-None-clause-own
returns-in-None-clause-own c = λ own.
    let (some, there, both, at, last) = c.in-Some.ensures.lookup in
    let mine = own_there c.args.parts.now c.args.place c.in-Some.part.now at.0 there own in
    absurd (elim c.match-part.branch [ in-Abbreviation w ↦ subst IsOwnRight w.in-Abbreviation.is mine | in-Reexport w ↦ subst IsOwnRight w.in-Reexport.is mine ])

pub returns-in-Some-entry-clause-own : goal.returns-in-Some-entry-clause-own
returns-in-Some-entry-clause-own c = λ own.
    let (some, there, both, at, last) = c.in-Some.ensures.lookup in
    let mine = own_there c.args.parts.now c.args.place c.in-Some.part.now at.0 there own in
    absurd (elim c.match-part.branch [ in-Abbreviation w ↦ subst IsOwnRight w.in-Abbreviation.is mine | in-Reexport w ↦ subst IsOwnRight w.in-Reexport.is mine ])

pub returns-in_err-declaration-clause-own : goal.returns-in_err-declaration-clause-own
returns-in_err-declaration-clause-own c = λ own.
    let (some, there, both, at, last) = c.in-Some.ensures.lookup in
    let mine = own_there c.args.parts.now c.args.place c.in-Some.part.now at.0 there own in
    absurd (elim c.match-part.branch [ in-Abbreviation w ↦ subst IsOwnRight w.in-Abbreviation.is mine | in-Reexport w ↦ subst IsOwnRight w.in-Reexport.is mine ])

pub returns-in_err-entry-clause-own : goal.returns-in_err-entry-clause-own
returns-in_err-entry-clause-own c = λ own.
    let (some, there, both, at, last) = c.in-Some.ensures.lookup in
    let mine = own_there c.args.parts.now c.args.place c.in-Some.part.now at.0 there own in
    absurd (elim c.match-part.branch [ in-Abbreviation w ↦ subst IsOwnRight w.in-Abbreviation.is mine | in-Reexport w ↦ subst IsOwnRight w.in-Reexport.is mine ])
