use Rattle.std.proofs.Common.{◌≡◌, drop}
use Rattle.std.specs.Prelude.{if◌then◌else◌}
use Rattle.signature_model.specs.Changes.{among}
use Rattle.type_reading.specs.declared.changes.Put.TheVariants as put
use Rattle.type_reading.specs.Copying.{paths_of, real_or, put_of}
use Rattle.type_reading.proofs.changes.Changes.put.Given as goal

abbrev pub invariant-loop-real : goal.invariant-loop-real
invariant-loop-real l =
    real_or (if among l.origin.path.items (paths_of l.self.made.items) then put.Path l.self.number else put.Itself) l.origin.path.items (drop l.real-index l.self.real.items)
    ≡ put_of l.self l.origin.path.items
