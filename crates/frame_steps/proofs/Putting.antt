-- A step of the code is a step of the machine.
use Rattle.std.proofs.Common.{◌≡◌, ℕ, ◌+◌, ◌≤◌, List, ◌∷◌, length, Option, Some, None, option_map, refl, sym, ◌∙◌, ap, subst, arith}
use Rattle.token_model.specs.Kinds.{Tok}
use Rattle.grammar_model.specs.Keys.{key_of}
use Rattle.grammar_model.specs.Tables.{Table, Last, first_place}
use Rattle.recovery_model.specs.Numbers.{find_fit, Way, find_out}
use Rattle.grammar_model.specs.Machine.{Frame, Stack}
use Rattle.recovery_model.specs.Steps as recovery
use Rattle.recovery_model.specs.Steps.{Fault, skipped, too_deep, added, stepped, step}
use Rattle.grammar_model.specs.Ocaml.{row_name}
use Rattle.syntax_rows.specs.View.{text_of}
use Rattle.syntax_rows.specs.declared.ocaml.Text.{Text}
use Rattle.parse_frames.specs.Frames as frames
use Rattle.parse_frames.specs.Named.{IsNamed}
use Rattle.parse_frames.specs.Stacks.{stack_view}
use Rattle.parse_frames.specs.declared.stack.Stack.{Stack as FrameStack}
use Rattle.frame_steps.specs.Told.{told}
use Rattle.parse_frames.proofs.Named.{waiting_named}
use Rattle.frame_steps.specs.Course.{bare, fit_of, out_of, course_of, out, out_holes, past_way, past_holes, depth_of, taken_to, IsPlaced, IsRefused, course_frames, course_holes}
use Rattle.frame_steps.specs.View.{fault_of, text_table, Stands, Standing, HasCourse, IsTakenBy, IsLeftOut, StepsTo}
use Rattle.frame_steps.specs.declared.build.Filled.{Filled}
use Rattle.frame_steps.specs.declared.stack.Stack.{Stack as CodeStack}
use Rattle.frame_steps.specs.declared.stack.Stepped.{Stepped}
use Rattle.frame_steps.specs.declared.stack.SyntaxFault.{SyntaxFault}
use Rattle.frame_steps.proofs.Chains.{laws}
use Rattle.frame_steps.proofs.Courses.{fit_bare, out_bare}
use Rattle.frame_steps.proofs.Named.{stood, below_named}
use Rattle.frame_steps.proofs.OneStep.{fit_steps, out_steps, no_steps, fit_none}

-- where a token fits is told by the stack that stands for the frames
pub fit_named : (text : Text) (f : Frame) (S : Stack) (at : ℕ) (t : Tok) (v : frames.Stack) (G : Table) (r p k : ℕ) (l : Last) (fs : List frames.Frame) → Stands text (f ∷ S) at v
    → G ≡ text_table text → r ≡ v.top.number → p ≡ v.top.spot → l ≡ v.last → fs ≡ v.below → k ≡ key_of t → find_fit G r p l (bare fs) k ≡ fit_of (text_table text) f S t
fit_named text f S at t v G r p k l fs s g a b c d e =
    ap (λ G. find_fit G r p l (bare fs) k) g ∙ ap (λ r. find_fit (text_table text) r p l (bare fs) k) a ∙ ap (λ p. find_fit (text_table text) v.top.number p l (bare fs) k) b
    ∙ ap (λ l. find_fit (text_table text) v.top.number v.top.spot l (bare fs) k) c ∙ ap (λ fs. find_fit (text_table text) v.top.number v.top.spot v.last (bare fs) k) d
    ∙ ap (λ k. find_fit (text_table text) v.top.number v.top.spot v.last (bare v.below) k) e
    ∙ ap (λ v. find_fit (text_table text) v.top.number v.top.spot v.last (bare v.below) (key_of t)) (sym s.named) ∙ fit_bare (text_table text) row_name S f.number f.at _ (key_of t)

-- where it is reached too
pub out_named : (text : Text) (f : Frame) (S : Stack) (at : ℕ) (t : Tok) (v : frames.Stack) (G : Table) (r p k : ℕ) (l : Last) (fs : List frames.Frame) → Stands text (f ∷ S) at v
    → G ≡ text_table text → r ≡ v.top.number → p ≡ v.top.spot → l ≡ v.last → fs ≡ v.below → k ≡ key_of t → find_out G r p l (bare fs) k ≡ out_of (text_table text) f S t
out_named text f S at t v G r p k l fs s g a b c d e =
    ap (λ G. find_out G r p l (bare fs) k) g ∙ ap (λ r. find_out (text_table text) r p l (bare fs) k) a ∙ ap (λ p. find_out (text_table text) v.top.number p l (bare fs) k) b
    ∙ ap (λ l. find_out (text_table text) v.top.number v.top.spot l (bare fs) k) c ∙ ap (λ fs. find_out (text_table text) v.top.number v.top.spot v.last (bare fs) k) d
    ∙ ap (λ k. find_out (text_table text) v.top.number v.top.spot v.last (bare v.below) k) e
    ∙ ap (λ v. find_out (text_table text) v.top.number v.top.spot v.last (bare v.below) (key_of t)) (sym s.named) ∙ out_bare (text_table text) row_name S f.number f.at _ (key_of t)

-- a course that is found leads to the token's place
pub has_course : (text : Text) (v : frames.Stack) (t : Tok) (c : ℕ × Way) → Standing text v → c.0 ≤ length v.below
    → ((f : Frame) (S : Stack) (at : ℕ) → Stands text (f ∷ S) at v → IsPlaced (text_table text) (course_frames (text_table text) c f S at).0 t c.1.place) → HasCourse text c t v
has_course text v t c s le h =
    let q = stood text v s in
    let e = below_named text q.top q.below q.at v q.stands in
    record { top = q.top; below = q.below; at = q.at; stands = q.stands; placed = h q.top q.below q.at q.stands; enough = omega arith }

pub fit_course : (text : Text) (v : frames.Stack) (t : Tok) (c : ℕ × Way) → Standing text v → c.0 ≤ length v.below
    → ((f : Frame) (S : Stack) (at : ℕ) → Stands text (f ∷ S) at v → Some c ≡ course_of (fit_of (text_table text) f S t)) → HasCourse text c t v
fit_course text v t c s le h = has_course text v t c s le (λ f S at st. (fit_steps (text_table text) (laws (text_of text)) f S at t c (h f S at st)).placed)

pub out_course : (text : Text) (v : frames.Stack) (t : Tok) (c : ℕ × Way) → Standing text v → c.0 ≤ length v.below
    → ((f : Frame) (S : Stack) (at : ℕ) → Stands text (f ∷ S) at v → None ≡ course_of (fit_of (text_table text) f S t))
    → ((f : Frame) (S : Stack) (at : ℕ) → Stands text (f ∷ S) at v → Some c ≡ out_of (text_table text) f S t) → HasCourse text c t v
out_course text v t c s le g h = has_course text v t c s le (λ f S at st. (out_steps (text_table text) (laws (text_of text)) f S at t c (g f S at st) (h f S at st)).placed)

-- a token that is left out
left_steps : (text : Text) (x : recovery.Stepped) (f : Frame) (S : Stack) (at : ℕ) (s : CodeStack) (r : Stepped) (e : SyntaxFault) (g : Fault) → s.text ≡ text → Stands text (f ∷ S) at (stack_view s.frames) → x ≡ stepped (f ∷ S) at (Some g)
    → IsLeftOut s e r → fault_of e ≡ told g → StepsTo text x r
left_steps text x f S at s r e g same st is left d =
    subst (λ x. StepsTo text x r) (sym is) (record { same = left.same ∙ same; named = st.named ∙ sym left.frames; fault = ap (option_map fault_of) left.told ∙ ap (λ g. Some g) d })

-- a token that is too deep where it fits
pub fit_deep : (s : CodeStack) (f : Frame) (S : Stack) (at : ℕ) (t : Tok) (c : ℕ × Way) (o : Option Filled) (r : Stepped) (e : SyntaxFault) → Stands s.text (f ∷ S) at (stack_view s.frames) → Some c ≡ course_of (fit_of (text_table s.text) f S t)
    → o ≡ None → IsTakenBy s.text c f S at t o → IsLeftOut s e r → fault_of e ≡ told (too_deep t) → StepsTo s.text (step (text_table s.text) (f ∷ S) at t) r
fit_deep s f S at t c o r e st h n by left d =
    let q = fit_steps (text_table s.text) (laws (text_of s.text)) f S at t c h in
    left_steps s.text _ f S at s r e (too_deep t) refl st (q.too_deep (subst (λ o. IsTakenBy s.text c f S at t o) n by)) left d

-- a token that is too deep where it is reached
pub out_deep : (s : CodeStack) (f : Frame) (S : Stack) (at : ℕ) (t : Tok) (c : ℕ × Way) (o : Option Filled) (r : Stepped) (e : SyntaxFault) → Stands s.text (f ∷ S) at (stack_view s.frames) → None ≡ course_of (fit_of (text_table s.text) f S t)
    → Some c ≡ out_of (text_table s.text) f S t → o ≡ None → IsTakenBy s.text c f S at t o → IsLeftOut s e r → fault_of e ≡ told (too_deep t) → StepsTo s.text (step (text_table s.text) (f ∷ S) at t) r
out_deep s f S at t c o r e st g h n by left d =
    let q = out_steps (text_table s.text) (laws (text_of s.text)) f S at t c g h in
    left_steps s.text _ f S at s r e (too_deep t) refl st (q.too_deep (subst (λ o. IsTakenBy s.text c f S at t o) n by)) left d

-- a token that no frame takes
pub out_none : (s : CodeStack) (f : Frame) (S : Stack) (at : ℕ) (t : Tok) (r : Stepped) (e : SyntaxFault) → Stands s.text (f ∷ S) at (stack_view s.frames) → None ≡ course_of (fit_of (text_table s.text) f S t)
    → None ≡ out_of (text_table s.text) f S t → IsLeftOut s e r → fault_of e ≡ told (skipped t) → StepsTo s.text (step (text_table s.text) (f ∷ S) at t) r
out_none s f S at t r e st g h left d = left_steps s.text _ f S at s r e (skipped t) refl st (no_steps (text_table s.text) f S at t g h) left d

-- a token that is taken
taken_steps : (text : Text) (x : recovery.Stepped) (U : Stack) (at : ℕ) (o : Option Fault) (r : Stepped) (fs : FrameStack) (q : Option SyntaxFault) → x ≡ stepped U at o → IsNamed (text_table text) row_name U at (stack_view fs)
    → r.stack.text ≡ text → r.stack.frames ≡ fs → r.fault ≡ q → option_map fault_of q ≡ option_map told o → StepsTo text x r
taken_steps text x U at o r fs q is named e g h d =
    subst (λ x. StepsTo text x r) (sym is)
    (record { same = e; named = subst (λ fs. IsNamed (text_table text) row_name U at (stack_view fs)) (sym g) named; fault = ap (option_map fault_of) h ∙ d })

pub fit_taken : (s : CodeStack) (f : Frame) (S : Stack) (at : ℕ) (t : Tok) (c : ℕ × Way) (o : Option Filled) (x : Filled) (r : Stepped) → Stands s.text (f ∷ S) at (stack_view s.frames) → Some c ≡ course_of (fit_of (text_table s.text) f S t)
    → o ≡ Some x → IsTakenBy s.text c f S at t o → r.stack.text ≡ s.text → r.stack.frames ≡ x.frames → r.fault ≡ None → StepsTo s.text (step (text_table s.text) (f ∷ S) at t) r
fit_taken s f S at t c o x r st h n by a b d =
    let q = fit_steps (text_table s.text) (laws (text_of s.text)) f S at t c h in
    let (le, named, holes) = subst (λ o. IsTakenBy s.text c f S at t o) n by in
    taken_steps s.text _ _ t.end None r x.frames None (q.taken le) named a b d refl

pub out_taken : (s : CodeStack) (f : Frame) (S : Stack) (at : ℕ) (t : Tok) (c : ℕ × Way) (o : Option Filled) (x : Filled) (r : Stepped) (e : SyntaxFault) (place : ℕ) → Stands s.text (f ∷ S) at (stack_view s.frames)
    → None ≡ course_of (fit_of (text_table s.text) f S t) → Some c ≡ out_of (text_table s.text) f S t → o ≡ Some x → IsTakenBy s.text c f S at t o
    → r.stack.text ≡ s.text → r.stack.frames ≡ x.frames → r.fault ≡ Some e → fault_of e ≡ told (added place x.holes) → place ≡ (stack_view s.frames).place → StepsTo s.text (step (text_table s.text) (f ∷ S) at t) r
out_taken s f S at t c o x r e place st g h n by a b d k p =
    let q = out_steps (text_table s.text) (laws (text_of s.text)) f S at t c g h in
    let (le, named, holes) = subst (λ o. IsTakenBy s.text c f S at t o) n by in
    let same : place ≡ at = p ∙ ap (λ v. v.place) (sym st.named) in
    taken_steps s.text _ _ t.end (Some (added at (course_holes (text_table s.text) c f S at))) r x.frames (Some e) (q.taken le) named a b d
    (ap (λ g. Some g) (k ∙ ap (λ a. told (added a x.holes)) same ∙ ap (λ n. told (added at n)) holes))

-- a key that no frame takes, as it is found
pub refused_by : (text : Text) (v : frames.Stack) (t : Tok) (k : ℕ) → Standing text v → k ≡ key_of t
    → ((f : Frame) (S : Stack) (at : ℕ) → Stands text (f ∷ S) at v → None ≡ course_of (fit_of (text_table text) f S t))
    → ((f : Frame) (S : Stack) (at : ℕ) → Stands text (f ∷ S) at v → None ≡ out_of (text_table text) f S t) → IsRefused (text_table text) v k
refused_by text v t k s e a b =
    let q = stood text v s in
    record {
      fit = fit_named text q.top q.below q.at t v (text_table text) v.top.number v.top.spot k v.last v.below q.stands refl refl refl refl refl e ∙ fit_none (fit_of (text_table text) q.top q.below t) (a q.top q.below q.at q.stands);
      out = out_named text q.top q.below q.at t v (text_table text) v.top.number v.top.spot k v.last v.below q.stands refl refl refl refl refl e ∙ sym (b q.top q.below q.at q.stands);
    }

-- a token of a key that is known to be refused
pub out_refused : (s : CodeStack) (f : Frame) (S : Stack) (at k : ℕ) (t : Tok) (r : Stepped) (e : SyntaxFault) → Stands s.text (f ∷ S) at (stack_view s.frames) → k ≡ key_of t → IsRefused (text_table s.text) (stack_view s.frames) k
    → IsLeftOut s e r → fault_of e ≡ told (skipped t) → StepsTo s.text (step (text_table s.text) (f ∷ S) at t) r
out_refused s f S at k t r e st same x left d =
    let v = stack_view s.frames in
    let a = fit_named s.text f S at t v (text_table s.text) v.top.number v.top.spot k v.last v.below st refl refl refl refl refl same in
    let b = out_named s.text f S at t v (text_table s.text) v.top.number v.top.spot k v.last v.below st refl refl refl refl refl same in
    out_none s f S at t r e st (ap course_of (sym x.fit) ∙ ap course_of a) (sym x.out ∙ b) left d

-- the place of a token in the frames behind a course
pub course_placed : (text : Text) (v w x : frames.Stack) (t : Tok) (c : ℕ × Way) → HasCourse text c t v
    → ((f : Frame) (S : Stack) (at : ℕ) → Stands text (f ∷ S) at v → Stands text ((out c.0 (text_table text) f S at).0 ∷ (out c.0 (text_table text) f S at).1) at w)
    → ((f : Frame) (S : Stack) (at : ℕ) → IsNamed (text_table text) row_name (f ∷ S) at w → IsNamed (text_table text) row_name (past_way c.1 (text_table text) f at ∷ S) at x)
    → (first_place (text_table text) x.top.number x.top.spot x.last (key_of t) ≡ c.1.place) × (length x.below + 1 ≤ 512)
course_placed text v w x t c h a b =
    let o = out c.0 (text_table text) h.top h.below h.at in
    let q = a h.top h.below h.at h.stands in
    let n = b o.0 o.1 h.at q.named in
    let l = q.order.low.0 in (
      subst (λ x. first_place (text_table text) x.top.number x.top.spot x.last (key_of t) ≡ c.1.place) n h.placed.placed,
      let e : length x.below ≡ length o.1 = ap (λ x. length x.below) (sym n) ∙ waiting_named row_name o.1 in omega arith,
    )

-- a token that is taken by its course
pub is_taken : (text : Text) (v w x y : frames.Stack) (t : Tok) (c : ℕ × Way) (f : Frame) (S : Stack) (at n m d k : ℕ) → Stands text (f ∷ S) at v
    → ((f : Frame) (S : Stack) (at : ℕ) → Stands text (f ∷ S) at v → Stands text ((out c.0 (text_table text) f S at).0 ∷ (out c.0 (text_table text) f S at).1) at w × (n ≡ out_holes c.0 (text_table text) f S at))
    → ((f : Frame) (S : Stack) (at : ℕ) → IsNamed (text_table text) row_name (f ∷ S) at w → IsNamed (text_table text) row_name (past_way c.1 (text_table text) f at ∷ S) at x)
    → ((f : Frame) (S : Stack) (at : ℕ) → IsNamed (text_table text) row_name (f ∷ S) at x → IsNamed (text_table text) row_name (taken_to (text_table text) c.1.place f S t) t.end y)
    → m ≡ c.1.musts + past_holes c.1.past → k ≡ key_of t → d ≡ depth_of (text_table text) c f S at k → d ≤ 512
    → (depth_of (text_table text) c f S at (key_of t) ≤ 512) × IsNamed (text_table text) row_name (taken_to (text_table text) c.1.place (course_frames (text_table text) c f S at).0 (course_frames (text_table text) c f S at).1 t) t.end y
    × (n + m ≡ course_holes (text_table text) c f S at)
is_taken text v w x y t c f S at n m d k st a b e holes same deep le =
    let o = out c.0 (text_table text) f S at in
    let (q, h) = a f S at st in
    let p = b o.0 o.1 at q.named in
    let z : d ≡ depth_of (text_table text) c f S at (key_of t) = deep ∙ ap (depth_of (text_table text) c f S at) same in
    (omega arith, e (past_way c.1 (text_table text) o.0 at) o.1 at p, omega arith)
