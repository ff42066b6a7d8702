use Rattle.std.proofs.Common.{◌++◌, length, map, drop, ℕ}
use Rattle.std.specs.Prelude.{Option}
use Rattle.std.specs.HashSet.{keys}
use Rattle.std.specs.Option.{option_to_list}
use Rattle.text_terms.specs.Bytes.{str_bytes}
use Rattle.service_model.specs.Trials.{IsLeast, moved_mark, new_starts}
use Rattle.syntax_tree.specs.View.{place_of}
use Rattle.text_changes.specs.Trials.{mark_in}
use Rattle.text_changes.proofs.trials.MarkedText.first_new.Given as goal

abbrev pub invariant-loop-mark : goal.invariant-loop-mark
invariant-loop-mark l =
    let known = map mark_in (keys l.self.known) in
    let moved = moved_mark (place_of l.replacement.span) (length (str_bytes l.replacement.text)) in
    (r : Option ℕ) → IsLeast r (option_to_list l.first ++ new_starts known (map moved (map mark_in (drop l.mark-index l.marks)))) → IsLeast r (new_starts known (map moved (map mark_in l.marks)))
