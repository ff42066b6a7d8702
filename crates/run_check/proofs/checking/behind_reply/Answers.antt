use Rattle.std.proofs.Common.{◌≡◌, ◌≢◌, ◌++◌, List, ℕ, None, Some, false, true, sym, subst, ap, ◌∙◌}
use Rattle.std.specs.Str.{bytes_eq}
use Rattle.std.proofs.lemmas.Slice.Eq.{bytes_eq-Decides, strip_prefix_is}
use Rattle.service_model.specs.Answers.{Answers}
use Rattle.service_model.specs.Replies.{memory_line}
use Rattle.run_check.proofs.Replying.{answer_complete, answer_sound, eq_decides, memory_complete, memory_sound}
use Rattle.run_check.proofs.checking.behind_reply.Goals as goal

pub returns-in-Some-clause-sound : goal.returns-in-Some-clause-sound
returns-in-Some-clause-sound g c =
    let front = strip_prefix_is eq_decides c.args.left.now c.memory_line.result.now (Some c.in-Some.rest) c.in-Some.ensures.cases in
    let at : c.args.left.now ≡ memory_line ++ c.in-Some.rest.now = subst (λ (m : List ℕ). c.args.left.now ≡ m ++ c.in-Some.rest.now) c.memory_line.ensures front in
    memory_sound c.args.session.now.text c.args.line.now c.args.left.now c.in-Some.rest.now (sym c.is_blank_line.ensures ∙ c.if-is_blank_line.false) at

pub returns-in-Some-clause-complete : goal.returns-in-Some-clause-complete
returns-in-Some-clause-complete g c = λ mid rest goes.
    let front = strip_prefix_is eq_decides c.args.left.now c.memory_line.result.now (Some c.in-Some.rest) c.in-Some.ensures.cases in
    let at : c.args.left.now ≡ memory_line ++ c.in-Some.rest.now = subst (λ (m : List ℕ). c.args.left.now ≡ m ++ c.in-Some.rest.now) c.memory_line.ensures front in
    memory_complete c.args.session.now.text c.args.line.now c.args.left.now c.in-Some.rest.now mid rest (sym c.is_blank_line.ensures ∙ c.if-is_blank_line.false) at goes

pub returns-clause-sound : goal.returns-clause-sound
returns-clause-sound g c =
    let front = strip_prefix_is eq_decides c.args.left.now c.bytes-2.result.now c.strip_prefix-2.result c.strip_prefix-2.ensures.cases in
    answer_sound c.args.session.now.text c.args.line.now c.args.left.now c.bytes-2.result.now c.answer-reply.new.self.text c.strip_prefix-2.result (sym c.is_blank_line.ensures ∙ c.if-is_blank_line.false)
    (subst (λ (p : List ℕ). Answers c.args.session.now.text c.args.line.now p c.answer-reply.new.self.text) (sym c.bytes-2.ensures) c.answer-reply.ensures.answers) front

pub returns-clause-complete : goal.returns-clause-complete
returns-clause-complete g c =
    let front = strip_prefix_is eq_decides c.args.left.now c.bytes-2.result.now c.strip_prefix-2.result c.strip_prefix-2.ensures.cases in
    let none = strip_prefix_is eq_decides c.args.left.now c.memory_line.result.now None c.in_default.ensures.cases in
    let written : c.bytes-2.result.now ≢ memory_line = λ same.
    let equal : bytes_eq c.bytes.result.now c.memory_line-2.result.now ≡ true = (bytes_eq-Decides c.bytes.result.now c.memory_line-2.result.now).1 (c.bytes.ensures ∙ sym c.bytes-2.ensures ∙ same ∙ sym c.memory_line-2.ensures) in
    let unequal : false ≡ bytes_eq c.bytes.result.now c.memory_line-2.result.now = c.if-eq.ensures in
    let never : ⊥ = cc in absurd never in
    answer_complete c.args.session.now.text c.args.line.now c.args.left.now c.bytes-2.result.now c.answer-reply.new.self.text c.strip_prefix-2.result (sym c.is_blank_line.ensures ∙ c.if-is_blank_line.false)
    (λ xs same. none xs (same ∙ ap (λ (m : List ℕ). m ++ xs) (sym c.memory_line.ensures))) (subst (λ (p : List ℕ). Answers c.args.session.now.text c.args.line.now p c.answer-reply.new.self.text) (sym c.bytes-2.ensures) c.answer-reply.ensures.answers) written front
