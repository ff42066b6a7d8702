use Rattle.std.proofs.Common.{option_map, refl, sym, ◌∙◌, ap}
use Rattle.std.proofs.lemmas.Result.{IfOk-weaker}
use Rattle.syntax_rows.specs.Numbers.{key_number}
use Rattle.syntax_tree.specs.View.{tok_of}
use Rattle.parse_frames.specs.Stacks.{stack_view}
use Rattle.frame_steps.specs.View.{course_view}
use Rattle.frame_steps.proofs.Putting.{refused_by, out_refused, fit_course, out_course, fit_deep, out_deep, out_none, fit_taken, out_taken}
use Rattle.frame_steps.proofs.steps.put.Goals as goal

pub take_by-requires : goal.take_by-requires
take_by-requires c = record {
  course = fit_course c.args.stack.now.text (stack_view c.args.stack.now.frames) (tok_of c.args.token.now) (course_view c.in-Some.course) c.requires.standing c.in-Some.ensures.enough
      (λ f S at st. ap (option_map course_view) (sym c.in-Some.is) ∙ c.fitting_course.ensures.course f S at (tok_of c.args.token.now) st c.of-key.ensures);
}

pub returns-in-Some-2 : goal.returns-in-Some-2
returns-in-Some-2 c f S at st =
    fit_taken c.args.stack.now f S at (tok_of c.args.token.now) (course_view c.in-Some.course) c.in_ok-take_by-in-Some.field-0 c.in-Some-2.taken c.moved.result st
    (ap (option_map course_view) (sym c.in-Some.is) ∙ c.fitting_course.ensures.course f S at (tok_of c.args.token.now) st c.of-key.ensures)
    c.in-Some-2.is (c.in_ok-take_by-in-Some.ensures f S at st) c.moved.ensures.text c.moved.ensures.frames c.moved.ensures.fault

pub returns-in-None-2 : goal.returns-in-None-2
returns-in-None-2 c =
    IfOk-weaker c.left_out-in-None-2.result _ _ (λ r left f S at st.
    fit_deep c.args.stack.now f S at (tok_of c.args.token.now) (course_view c.in-Some.course) c.in_ok-take_by-in-Some.field-0 r _ st
    (ap (option_map course_view) (sym c.in-Some.is) ∙ c.fitting_course.ensures.course f S at (tok_of c.args.token.now) st c.of-key.ensures)
    c.in-None-2.is (c.in_ok-take_by-in-Some.ensures f S at st) left refl) c.left_out-in-None-2.ensures

pub take_by-requires-in-Some-reaching_course : goal.take_by-requires-in-Some-reaching_course
take_by-requires-in-Some-reaching_course c = record {
  course = out_course c.args.stack.now.text (stack_view c.args.stack.now.frames) (tok_of c.args.token.now) (course_view c.in-Some-reaching_course.course) c.requires.standing c.in-Some-reaching_course.ensures.enough
      (λ f S at st. ap (option_map course_view) (sym c.in-None.is) ∙ c.fitting_course.ensures.course f S at (tok_of c.args.token.now) st c.of-key.ensures)
      (λ f S at st. ap (option_map course_view) (sym c.in-Some-reaching_course.is) ∙ c.reaching_course.ensures.course f S at (tok_of c.args.token.now) st c.of-key.ensures);
}

pub returns-in-None-reaching_course : goal.returns-in-None-reaching_course
returns-in-None-reaching_course c =
    IfOk-weaker c.refused.result _ _ (λ r left f S at st.
    out_none c.args.stack.now f S at (tok_of c.args.token.now) r _ st
    (ap (option_map course_view) (sym c.in-None.is) ∙ c.fitting_course.ensures.course f S at (tok_of c.args.token.now) st c.of-key.ensures)
    (ap (option_map course_view) (sym c.in-None-reaching_course.is) ∙ c.reaching_course.ensures.course f S at (tok_of c.args.token.now) st c.of-key.ensures) left refl) c.refused.ensures

pub returns-in-None-3 : goal.returns-in-None-3
returns-in-None-3 c =
    IfOk-weaker c.left_out-in-None-3.result _ _ (λ r left f S at st.
    out_deep c.args.stack.now f S at (tok_of c.args.token.now) (course_view c.in-Some-reaching_course.course) c.in_ok-take_by-in-Some-reaching_course.field-0 r _ st
    (ap (option_map course_view) (sym c.in-None.is) ∙ c.fitting_course.ensures.course f S at (tok_of c.args.token.now) st c.of-key.ensures)
    (ap (option_map course_view) (sym c.in-Some-reaching_course.is) ∙ c.reaching_course.ensures.course f S at (tok_of c.args.token.now) st c.of-key.ensures)
    c.in-None-3.is (c.in_ok-take_by-in-Some-reaching_course.ensures f S at st) left refl) c.left_out-in-None-3.ensures

pub returns-in-Some-3 : goal.returns-in-Some-3
returns-in-Some-3 c f S at st =
    out_taken c.args.stack.now f S at (tok_of c.args.token.now) (course_view c.in-Some-reaching_course.course) c.in_ok-take_by-in-Some-reaching_course.field-0 c.in-Some-3.taken c.moved-in-Some-3.result _ c.place.result st
    (ap (option_map course_view) (sym c.in-None.is) ∙ c.fitting_course.ensures.course f S at (tok_of c.args.token.now) st c.of-key.ensures)
    (ap (option_map course_view) (sym c.in-Some-reaching_course.is) ∙ c.reaching_course.ensures.course f S at (tok_of c.args.token.now) st c.of-key.ensures)
    c.in-Some-3.is (c.in_ok-take_by-in-Some-reaching_course.ensures f S at st) c.moved-in-Some-3.ensures.text c.moved-in-Some-3.ensures.frames c.moved-in-Some-3.ensures.fault refl c.place.ensures

pub refused-requires : goal.refused-requires
refused-requires c = record {
  refused = refused_by c.args.stack.now.text (stack_view c.args.stack.now.frames) (tok_of c.args.token.now) (key_number c.of-key.result) c.requires.standing c.of-key.ensures
      (λ f S at st. ap (option_map course_view) (sym c.in-None.is) ∙ c.fitting_course.ensures.course f S at (tok_of c.args.token.now) st c.of-key.ensures)
      (λ f S at st. ap (option_map course_view) (sym c.in-None-reaching_course.is) ∙ c.reaching_course.ensures.course f S at (tok_of c.args.token.now) st c.of-key.ensures);
}

pub returns-then-is_refused : goal.returns-then-is_refused
returns-then-is_refused c =
    IfOk-weaker c.left_out.result _ _ (λ r left f S at st.
    out_refused c.args.stack.now f S at (key_number c.of-key.result) (tok_of c.args.token.now) r _ st c.of-key.ensures (c.is_refused.ensures c.if-is_refused.true) left refl) c.left_out.ensures
