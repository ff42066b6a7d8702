-- One token: it is taken by its course, or it is left out.
use Rattle.std.proofs.Common.{◌≡◌, ℕ, ◌≤◌, ◌<◌, ◌∷◌, Option, Some, None, refl, sym, ◌∙◌, ap, subst}
use Rattle.token_model.specs.Kinds.{Tok}
use Rattle.grammar_model.specs.Keys.{key_of}
use Rattle.grammar_model.specs.Tables.{Table, Place}
use Rattle.recovery_model.specs.Numbers.{Found, none, found, Way, way}
use Rattle.grammar_model.specs.Machine.{Frame, Stack}
use Rattle.recovery_model.specs.Steps.{Fault, reached, skipped, too_deep, added, stepped, after_reach, after_fit, step}
use Rattle.grammar_laws.proofs.Laws.{Found as Laws}
use Rattle.grammar_laws.proofs.Faultless.{step_is}
use Rattle.frame_steps.specs.Course.{fit_of, out_of, course_of, out, depth_of, taken_to, IsPlaced, course_frames, course_holes}
use Rattle.frame_steps.proofs.Courses.{fits_taken, fits_not, reach_taken, reach_not}
use Rattle.frame_steps.proofs.Takes.{place_takes}

-- a token that no frame takes
pub step_skips : (G : Table) (f : Frame) (S : Stack) (at : ℕ) (t : Tok) → fit_of G f S t ≡ none → out_of G f S t ≡ None → step G (f ∷ S) at t ≡ stepped (f ∷ S) at (Some (skipped t))
step_skips G f S at t a b = step_is G (f ∷ S) at t ∙ ap (after_fit G (f ∷ S) at t) (fits_not G t S f a) ∙ ap (after_reach (f ∷ S) at t) (reach_not G t at S f b)

-- a token that is taken by a course, with this fault, or is too deep
pub record Steps (G : Table) (c : ℕ × Way) (f : Frame) (S : Stack) (at : ℕ) (t : Tok) (o : Option Fault) : Type 0 where
  pub placed : IsPlaced G (course_frames G c f S at).0 t c.1.place
  pub taken : depth_of G c f S at (key_of t) ≤ 512 → step G (f ∷ S) at t ≡ stepped (taken_to G c.1.place (course_frames G c f S at).0 (course_frames G c f S at).1 t) t.end o
  pub too_deep : 512 < depth_of G c f S at (key_of t) → step G (f ∷ S) at t ≡ stepped (f ∷ S) at (Some (too_deep t))

-- a token that fits
pub step_fits : (G : Table) → Laws G → (f : Frame) (S : Stack) (at : ℕ) (t : Tok) (n : ℕ) (p : Place) → fit_of G f S t ≡ found n p → Steps G (n, way 0 None p) f S at t None
step_fits G L f S at t n p h =
    let (fits, placed) = fits_taken G t at S f n p h in
    let o = out n G f S at in
    let k = place_takes G L p o.0 o.1 t placed in
    let s = step_is G (f ∷ S) at t in
    record {
      placed = placed;
      taken = λ d. s ∙ ap (after_fit G (f ∷ S) at t) (fits ∙ k.taken d);
      too_deep = λ d. s ∙ ap (after_fit G (f ∷ S) at t) (fits ∙ k.too_deep d);
    }

-- a token that is reached
pub step_reaches : (G : Table) → Laws G → (f : Frame) (S : Stack) (at : ℕ) (t : Tok) (n : ℕ) (w : Way) → fit_of G f S t ≡ none → out_of G f S t ≡ Some (n, w) → Steps G (n, w) f S at t (Some (added at (course_holes G (n, w) f S at)))
step_reaches G L f S at t n w a h =
    let (reach, placed) = reach_taken G t at S f n w h in
    let o = course_frames G (n, w) f S at in
    let k = place_takes G L w.place o.0 o.1 t placed in
    let s = step_is G (f ∷ S) at t ∙ ap (after_fit G (f ∷ S) at t) (fits_not G t S f a) in
    record {
      placed = placed;
      taken = λ d. s ∙ ap (after_reach (f ∷ S) at t) (reach ∙ ap (λ x. reached x (course_holes G (n, w) f S at)) (k.taken d));
      too_deep = λ d. s ∙ ap (after_reach (f ∷ S) at t) (reach ∙ ap (λ x. reached x (course_holes G (n, w) f S at)) (k.too_deep d));
    }

abbrev or_course : ℕ × Way → Option (ℕ × Way) → ℕ × Way
or_course d None = d
or_course d (Some c) = c

-- a token that fits, by the course of the code
pub fit_steps : (G : Table) → Laws G → (f : Frame) (S : Stack) (at : ℕ) (t : Tok) (c : ℕ × Way) → Some c ≡ course_of (fit_of G f S t) → Steps G c f S at t None
fit_steps G L f S at t c h = by (fit_of G f S t) refl h
  where
    by : (x : Found) → fit_of G f S t ≡ x → Some c ≡ course_of x → Steps G c f S at t None
    by none e h = absurd (cc)
    by (found n p) e h = let same : c ≡ (n, way 0 None p) = ap (or_course c) h in subst (λ c. Steps G c f S at t None) (sym same) (step_fits G L f S at t n p e)

-- a course that isn't found
pub fit_none : (x : Found) → None ≡ course_of x → x ≡ none
fit_none none h = refl
fit_none (found n p) h = absurd (cc)

-- a token that is reached, by the course of the code
pub out_steps : (G : Table) → Laws G → (f : Frame) (S : Stack) (at : ℕ) (t : Tok) (c : ℕ × Way) → None ≡ course_of (fit_of G f S t) → Some c ≡ out_of G f S t → Steps G c f S at t (Some (added at (course_holes G c f S at)))
out_steps G L f S at t c a h = step_reaches G L f S at t c.0 c.1 (fit_none (fit_of G f S t) a) (sym h)

-- a token that is skipped
pub no_steps : (G : Table) (f : Frame) (S : Stack) (at : ℕ) (t : Tok) → None ≡ course_of (fit_of G f S t) → None ≡ out_of G f S t → step G (f ∷ S) at t ≡ stepped (f ∷ S) at (Some (skipped t))
no_steps G f S at t a b = step_skips G f S at t (fit_none (fit_of G f S t) a) (sym b)
