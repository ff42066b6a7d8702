use Rattle.std.proofs.Common.{◌≡◌, drop}
use Rattle.type_terms.specs.Views.{path_of}
use Rattle.env_table.specs.Views.{kind_of}
use Rattle.type_alternatives.specs.Levels.{level_of, finds, first_path}
use Rattle.type_alternatives.proofs.reached.first_path.Given as goal

abbrev pub invariant-loop-inside : goal.invariant-loop-inside
invariant-loop-inside l =
    first_path (finds (kind_of l.wanted.kind) l.wanted.name.now l.wanted.place (path_of l.wanted.origin.now)) (level_of (drop l.inside-index l.level))
    ≡ first_path (finds (kind_of l.fn.wanted.kind) l.fn.wanted.name.now l.fn.wanted.place (path_of l.fn.wanted.origin.now)) (level_of l.fn.level)
