use Rattle.std.proofs.Common.{rules, arith, ◌≡◌, ◌++◌, ◌∷◌, ◌∙◌, [], ◌<◌, string_bytes, length, get_or, ap}
use Rattle.text_terms.specs.Bytes.{str_bytes}
use Rattle.signature_match.proofs.Texts.{text_first, text_more}
use Rattle.signature_match.proofs.causes.Mismatch.text.Goals as goal
use Rattle.signature_match.proofs.causes.Mismatch.text.Goals.{then-place-gt0+in_ok-map_err, else-place-gt0}

pub loop-place-preserved : goal.loop-place-preserved
loop-place-preserved c =
    let items = c.args.self.now.path.items in
    let r = c.name-item.result in
    let h : c.loop-place.place < length items = search rules in
    let is : r ≡ get_or items c.loop-place.place r = search rules in
    let added : string_bytes c.push_str-in-loop-place.new.self ≡ string_bytes c.if-place-gt0.text ++ str_bytes r = search rules in
    elim c.if-place-gt0.branch [
      | then-place-gt0+in_ok-map_err w ↦
          let point : string_bytes c.if-place-gt0.text ≡ string_bytes c.loop-place.text ++ 46 ∷ [] = search rules in
          added ∙ ap (λ t. t ++ str_bytes r) point ∙ text_more items c.loop-place.place r (string_bytes c.loop-place.text) h is (omega arith) c.loop-place.invariant
      | else-place-gt0 w ↦
          let same : string_bytes c.if-place-gt0.text ≡ string_bytes c.loop-place.text = search rules in
          added ∙ ap (λ t. t ++ str_bytes r) same ∙ text_first items c.loop-place.place r (string_bytes c.loop-place.text) h is (omega arith) c.loop-place.invariant
    ]
