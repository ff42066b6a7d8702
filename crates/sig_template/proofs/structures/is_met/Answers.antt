use Rattle.std.proofs.Common.{◌≡◌, Bool, true, false, ◌||◌, refl, ap, ◌∙◌}
use Rattle.std.specs.Prelude.{if◌then◌else◌}
use Rattle.std.specs.Str.{bytes_eq}
use Rattle.std.specs.HashSet.{contains_text}
use Rattle.std.specs.String.{string_bytes}
use Rattle.std.proofs.lemmas.Map.Text.{hash_set_updates_text}
use Rattle.sig_template.proofs.structures.is_met.Goals as goal

either : (a b : Bool) → (if a then true else b) ≡ a || b
either true b = refl
either false b = refl

pub returns-clause-after : goal.returns-clause-after
returns-clause-after c = λ n.
    let u = c.in-Ok-insert.ensures.updates in
    let e = hash_set_updates_text (string_bytes c.in-Ok.key) c.args.names.now c.insert.new.self true u n in
    let k = c.in-Ok.ensures.ok in
    e ∙ either (bytes_eq (string_bytes c.in-Ok.key) n) (contains_text c.args.names.now n) ∙ ap (λ bs. bytes_eq bs n || contains_text c.args.names.now n) (k ∙ c.as_str.ensures)
