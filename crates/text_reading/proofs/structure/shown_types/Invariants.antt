use Rattle.std.proofs.Common.{◌≡◌, ◌++◌, map, drop}
use Rattle.service_model.specs.Replies as said
use Rattle.service_model.specs.Answers.{shown_place, start_and_end}
use Rattle.query_engine.specs.Typed.{span_of}
use Rattle.json_lines.specs.Means.{typed_of}
use Rattle.text_reading.specs.Structures.{type_text_of}
use Rattle.text_reading.proofs.structure.shown_types.Given as goal

abbrev pub invariant-loop-typed : goal.invariant-loop-typed
invariant-loop-typed l = (map start_and_end (map typed_of l.shown.items) ++ map (shown_place l.store) (map span_of (drop l.typed-index l.types)) ≡ map (shown_place l.store) (map span_of l.types)) ×
    (map (λ (t : said.Typed). t.type_text) (map typed_of l.shown.items) ++ map type_text_of (drop l.typed-index l.types) ≡ map type_text_of l.types)
