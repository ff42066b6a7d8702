use Rattle.std.proofs.Common.{◌∙◌, ap, map, take}
use Rattle.std.specs.Prelude.{codes}
use Rattle.std.specs.Char.{to_ascii_lowercase}
use Rattle.std.specs.Str.{bytes_eq}
use Rattle.std.proofs.lemmas.List.{take_min}
use Rattle.std.proofs.lemmas.Slice.Eq.{bytes_eq-Decides}
use Rattle.lsp_front.proofs.Headers.{same_answer}
use Rattle.lsp_front.proofs.frames.has_length.Goals as goal

pub returns : goal.returns
returns c =
    let line = c.args.line.now in
    let front = map to_ascii_lowercase (take c.min.result line) in
    let decides = bytes_eq-Decides front (codes "content-length:") in
    let test = c.eq_ignore_ascii_case.ensures.test in
    same_answer c.eq_ignore_ascii_case.result (bytes_eq front (codes "content-length:")) (λ is. decides.1 (test.0 is)) (λ is. test.1 (decides.0 is))
    ∙ ap (λ n. bytes_eq (map to_ascii_lowercase (take n line)) (codes "content-length:")) c.min.ensures
    ∙ ap (λ l. bytes_eq (map to_ascii_lowercase l) (codes "content-length:")) (take_min 15 line)
