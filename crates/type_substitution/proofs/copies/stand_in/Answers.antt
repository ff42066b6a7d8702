use Rattle.std.proofs.Common.{[], subst, arith}
use Rattle.std.proofs.lemmas.Option.{slice_get_past}
use Rattle.type_nodes.specs.Nodes.{Tuple}
use Rattle.type_nodes.specs.Views.{numbers}
use Rattle.level_unify.proofs.Numbers.{number_read, numbers_length}
use Rattle.type_substitution.specs.Copying.{IsPlace}
use Rattle.type_substitution.proofs.Standing.{stands_itself, stands_type}
use Rattle.type_substitution.proofs.Made.{extends_refl, call_extends, empty_stands}
use Rattle.type_substitution.proofs.copies.stand_in.Goals as goal

pub returns-in_default-clause-stands : goal.returns-in_default-clause-stands
returns-in_default-clause-stands c =
    let nodes = c.args.store.now.nodes in
    stands_itself nodes nodes (numbers c.args.variables.now) (numbers c.args.types.now) c.args.root.0 (extends_refl nodes) c.requires.root
    (subst (IsPlace nodes (numbers c.args.variables.now) c.args.root.0) c.in_default.is c.place_of.ensures)

pub returns-in-Some-get-clause-stands : goal.returns-in-Some-get-clause-stands
returns-in-Some-get-clause-stands c =
    let nodes = c.args.store.now.nodes in
    let h = c.in-Some-get.ensures.lookup in
    stands_type nodes nodes (numbers c.args.variables.now) (numbers c.args.types.now) c.args.root.0 (extends_refl nodes) c.in-Some.place c.in-Some-get.ty.now.0 c.requires.types
    (number_read c.args.types.now c.in-Some.place c.in-Some-get.ty.now h.3.0 h.1)
    (subst (IsPlace nodes (numbers c.args.variables.now) c.args.root.0) c.in-Some.is c.place_of.ensures)

pub returns-in-None-clause-stands : goal.returns-in-None-clause-stands
returns-in-None-clause-stands c =
    let over = c.in-None.ensures.lookup.3 in
    let l = numbers_length c.args.types.now in
    empty_stands c.tuple.result c.args.store.now c.tuple.new.self (numbers c.args.variables.now) (numbers c.args.types.now) c.args.root.0 c.in-Some.place
    (call_extends c.tuple.result c.args.store.now c.tuple.new.self (Tuple []) c.tuple.ensures.made c.tuple.ensures.failed)
    (slice_get_past (numbers c.args.types.now) c.in-Some.place (omega arith))
    (subst (IsPlace c.args.store.now.nodes (numbers c.args.variables.now) c.args.root.0) c.in-Some.is c.place_of.ensures) c.tuple.ensures.made

pub returns-in-None-clause-extends : goal.returns-in-None-clause-extends
returns-in-None-clause-extends c = call_extends c.tuple.result c.args.store.now c.tuple.new.self (Tuple []) c.tuple.ensures.made c.tuple.ensures.failed
