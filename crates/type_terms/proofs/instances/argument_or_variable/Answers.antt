use Rattle.std.proofs.Common.{◌≡◌, None, length, sym}
use Rattle.std.specs.Prelude.{slice_get}
use Rattle.std.proofs.lemmas.Bool.{ltb-false}
use Rattle.std.proofs.lemmas.Option.{slice_get_past}
use Rattle.type_terms.specs.Views.{path_of, spelling_of}
use Rattle.type_terms.proofs.Listing.{no_argument}
use Rattle.type_terms.proofs.instances.argument_or_variable.Goals as goal

pub returns-in-None : goal.returns-in-None
returns-in-None c =
    let none : slice_get c.args.args.now c.args.v ≡ None =
    slice_get_past c.args.args.now c.args.v (ltb-false c.args.v (length c.args.args.now) (sym c.in-None.ensures.lookup.0)) in
    record { meaning = no_argument path_of c.args.args.now c.args.v none; names = no_argument spelling_of c.args.args.now c.args.v none }
