use Rattle.std.proofs.Common.{◌≡◌, ◌∙◌, sym, ap, arith, take, length, true, false, nat_lt, []}
use Rattle.std.specs.Prelude.{if◌then◌else◌}
use Rattle.std.proofs.lemmas.List.{take_min}
use Rattle.lsp_model.specs.Frames.{block_from, frame, frame_by, nothing, more, bad}
use Rattle.lsp_front.proofs.frames.frame_of.Goals as goal

pub returns-in-Some-clause-value : goal.returns-in-Some-clause-value
unfolding frame
returns-in-Some-clause-value c =
    let bytes = c.args.bytes.now in
    c.framed_by.ensures.value ∙ ap (frame_by (length bytes)) (c.in-Some.ensures.value ∙ ap (λ n. block_from 0 nothing [] (take n bytes)) c.min.ensures ∙ ap (block_from 0 nothing []) (take_min 4096 bytes))

pub returns-in-None-clause-value : goal.returns-in-None-clause-value
unfolding frame
returns-in-None-clause-value c =
    let bytes = c.args.bytes.now in
    let short : nat_lt (length bytes) 4096 ≡ true = grind (arith, c.if-bytes-lt-HEAD_LIMIT.true) in
    sym (ap (λ b. if b then more else bad) short) ∙ ap (frame_by (length bytes)) (c.in-None.ensures.value ∙ ap (λ n. block_from 0 nothing [] (take n bytes)) c.min.ensures ∙ ap (block_from 0 nothing []) (take_min 4096 bytes))

pub returns-in-None-2-clause-value : goal.returns-in-None-2-clause-value
unfolding frame
returns-in-None-2-clause-value c =
    let bytes = c.args.bytes.now in
    let long : nat_lt (length bytes) 4096 ≡ false = grind (arith, c.if-bytes-lt-HEAD_LIMIT.false) in
    sym (ap (λ b. if b then more else bad) long) ∙ ap (frame_by (length bytes)) (c.in-None-2.ensures.value ∙ ap (λ n. block_from 0 nothing [] (take n bytes)) c.min.ensures ∙ ap (block_from 0 nothing []) (take_min 4096 bytes))
