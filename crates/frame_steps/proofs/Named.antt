-- What the code does with its frames is the named form of what the machine does with its own.
use Rattle.std.proofs.Common.{◌≡◌, ℕ, zero, suc, ◌+◌, ◌-◌, ◌^◌, ◌≤◌, ◌<◌, [], ◌∷◌, length, Option, Some, None, option_map, refl, sym, ◌∙◌, ap, subst, arith}
use Rattle.tree_model.specs.Rows as names
use Rattle.grammar_model.specs.Tables.{Table, Edge}
use Rattle.recovery_model.specs.Numbers.{hole_in, must_at}
use Rattle.grammar_model.specs.Machine.{Frame, Stack, put}
use Rattle.recovery_model.specs.Steps.{missing_at, must_of, on_edge, one_more, filled, most_parts}
use Rattle.grammar_model.specs.Ocaml.{row_name}
use Rattle.syntax_rows.specs.declared.ocaml.Text.{Text}
use Rattle.parse_frames.specs.Frames as frames
use Rattle.parse_frames.specs.Frames.{with_missing, closed, sizes_in, heights_in}
use Rattle.parse_frames.specs.Named.{named_stack, IsNamed}
use Rattle.parse_frames.proofs.Named.{put_named, waiting_named}
use Rattle.frame_steps.specs.Course.{out, out_holes, past_musts}
use Rattle.frame_steps.specs.View.{text_table, Stands, Standing}
use Rattle.frame_steps.proofs.Orders.{filled_nodes, filled_highest, done_size_named, done_height_named, put_order}
use Rattle.frame_steps.proofs.Courses.{last_missing}

-- a missing part
pub missing_named : (G : Table) (name : ℕ → names.Row) (f : Frame) (S : Stack) (at p : ℕ) (s : frames.Stack) → IsNamed G name (f ∷ S) at s
    → IsNamed G name (missing_at f p at ∷ S) at (with_missing p (hole_in (G.what s.top.number p)) s)
missing_named G name f S at p s h = subst (λ s. IsNamed G name (missing_at f p at ∷ S) at (with_missing p (hole_in (G.what s.top.number p)) s)) h (rw (last_missing (G.what f.number p) p at f.done) refl)

-- the spot that must come next
pub must_is : (o : Option Edge) (s : ℕ) → Some s ≡ option_map (λ e. e.spot) o → (e : Edge) × (o ≡ Some e) × (e.spot ≡ s)
must_is None s h = absurd (cc)
must_is (Some e) s h = (e, refl, cc)

pub must_not : (o : Option Edge) → None ≡ option_map (λ e. e.spot) o → o ≡ None
must_not None h = refl
must_not (Some e) h = absurd (cc)

-- the spot that must come next in the frame that a stack stands for
must_named : (G : Table) (name : ℕ → names.Row) (f : Frame) (S : Stack) (at s : ℕ) (v : frames.Stack) → IsNamed G name (f ∷ S) at v → Some s ≡ option_map (λ e. e.spot) (must_at G v.top.number v.top.spot)
    → (e : Edge) × (must_of G f ≡ Some e) × (e.spot ≡ s)
must_named G name f S at s v h m = must_is (must_of G f) s (subst (λ v. Some s ≡ option_map (λ e. e.spot) (must_at G v.top.number v.top.spot)) (sym h) m)

must_none : (G : Table) (name : ℕ → names.Row) (f : Frame) (S : Stack) (at : ℕ) (v : frames.Stack) → IsNamed G name (f ∷ S) at v → None ≡ option_map (λ e. e.spot) (must_at G v.top.number v.top.spot) → must_of G f ≡ None
must_none G name f S at v h m = must_not (must_of G f) (subst (λ v. None ≡ option_map (λ e. e.spot) (must_at G v.top.number v.top.spot)) (sym h) m)

-- a frame with no part that must come is filled
pub fill_none : (G : Table) (name : ℕ → names.Row) (m : ℕ) (f : Frame) (S : Stack) (at : ℕ) (v : frames.Stack) → None ≡ option_map (λ e. e.spot) (must_at G v.top.number v.top.spot) → IsNamed G name (f ∷ S) at v
    → IsNamed G name ((filled m G f at).0 ∷ S) at v × (0 ≡ (filled m G f at).1)
fill_none G name zero f S at v m h = (h, refl)
fill_none G name (suc n) f S at v m h = rw (must_none G name f S at v h m) (h, refl)

-- a frame with a part that must come is filled behind it
pub fill_some : (G : Table) (name : ℕ → names.Row) (m : ℕ) (f : Frame) (S : Stack) (at s : ℕ) (v w : frames.Stack) (n : ℕ) → (m ≡ 0 → ⊥) → Some s ≡ option_map (λ e. e.spot) (must_at G v.top.number v.top.spot) → IsNamed G name (f ∷ S) at v
    → IsNamed G name ((filled (m - 1) G (missing_at f s at) at).0 ∷ S) at w × (n ≡ (filled (m - 1) G (missing_at f s at) at).1)
    → IsNamed G name ((filled m G f at).0 ∷ S) at w × (n + 1 ≡ (filled m G f at).1)
fill_some G name zero f S at s v w n some m h r = absurd (some refl)
fill_some G name (suc k) f S at s v w n some m h r =
    let (e, is, same) = must_named G name f S at s v h m in
    let less : suc k - 1 ≡ k = omega arith in
    let q : IsNamed G name ((filled k G (missing_at f e.spot at) at).0 ∷ S) at w × (n ≡ (filled k G (missing_at f e.spot at) at).1)
    = subst (λ j. IsNamed G name ((filled j G (missing_at f e.spot at) at).0 ∷ S) at w × (n ≡ (filled j G (missing_at f e.spot at) at).1)) less
    (subst (λ p. IsNamed G name ((filled (suc k - 1) G (missing_at f p at) at).0 ∷ S) at w × (n ≡ (filled (suc k - 1) G (missing_at f p at) at).1)) (sym same) r) in
    subst (λ o. IsNamed G name ((on_edge o (f, 0) (λ e. one_more (filled k G (missing_at f e.spot at) at))).0 ∷ S) at w × (n + 1 ≡ (on_edge o (f, 0) (λ e. one_more (filled k G (missing_at f e.spot at) at))).1)) (sym is)
    (q.0, ap (λ n. n + 1) q.1)

-- a frame with no part that must come misses none
pub musts_none : (G : Table) (name : ℕ → names.Row) (m : ℕ) (f : Frame) (S : Stack) (at : ℕ) (v : frames.Stack) → None ≡ option_map (λ e. e.spot) (must_at G v.top.number v.top.spot) → IsNamed G name (f ∷ S) at v
    → IsNamed G name (past_musts m G f at ∷ S) at v
musts_none G name zero f S at v m h = h
musts_none G name (suc n) f S at v m h = rw (must_none G name f S at v h m) h

-- a frame with a part that must come misses it, and then others
pub musts_some : (G : Table) (name : ℕ → names.Row) (m : ℕ) (f : Frame) (S : Stack) (at s : ℕ) (v w : frames.Stack) → (m ≡ 0 → ⊥) → Some s ≡ option_map (λ e. e.spot) (must_at G v.top.number v.top.spot) → IsNamed G name (f ∷ S) at v
    → IsNamed G name (past_musts (m - 1) G (missing_at f s at) at ∷ S) at w → IsNamed G name (past_musts m G f at ∷ S) at w
musts_some G name zero f S at s v w some m h r = absurd (some refl)
musts_some G name (suc k) f S at s v w some m h r =
    let (e, is, same) = must_named G name f S at s v h m in
    let less : suc k - 1 ≡ k = omega arith in
    let q : IsNamed G name (past_musts k G (missing_at f e.spot at) at ∷ S) at w
    = subst (λ j. IsNamed G name (past_musts j G (missing_at f e.spot at) at ∷ S) at w) less (subst (λ p. IsNamed G name (past_musts (suc k - 1) G (missing_at f p at) at ∷ S) at w) (sym same) r) in
    subst (λ o. IsNamed G name (on_edge o f (λ e. past_musts k G (missing_at f e.spot at) at) ∷ S) at w) (sym is) q

-- the innermost frame that a stack stands for, and those below it
pub record Stood (text : Text) (v : frames.Stack) : Type 0 where
  pub top : Frame
  pub below : Stack
  pub at : ℕ
  pub stands : Stands text (top ∷ below) at v

pub stood : (text : Text) (v : frames.Stack) → Standing text v → Stood text v
stood text v ([], at, s) = absurd s.named
stood text v (f ∷ S, at, s) = record { top = f; below = S; at = at; stands = s }

-- as many frames wait
pub below_named : (text : Text) (f : Frame) (S : Stack) (at : ℕ) (v : frames.Stack) → Stands text (f ∷ S) at v → length v.below ≡ length S
below_named text f S at v s = subst (λ v. length v.below ≡ length S) s.named (waiting_named row_name S)

-- there are at most 512 frames
pub standing_few : (text : Text) (v : frames.Stack) → Standing text v → length v.below + 1 ≤ 512
standing_few text v s =
    let q = stood text v s in
    let e = below_named text q.top q.below q.at v q.stands in
    let l = q.stands.order.low.0 in omega arith

-- the node of a frame with its missing parts has room
named_room : (text : Text) (r : names.Row) (m : ℕ) → m ≤ 16 → (f : Frame) (S : Stack) (at : ℕ) (v w : frames.Stack) → Stands text (f ∷ S) at v → IsNamed (text_table text) row_name ((filled m (text_table text) f at).0 ∷ S) at w
    → (sizes_in r w.top.done < 2 ^ 32 - 1) × (heights_in w.top.done < 2 ^ 16 - 1)
named_room text r m le f S at v w s h =
    let F = (filled m (text_table text) f at).0 in
    let a = done_size_named row_name r F.done in
    let b = done_height_named row_name F.done in
    let c = filled_nodes m (text_table text) f at in
    let d = filled_highest m (text_table text) f at in
    let l = s.order.low.0 in
    let q = s.order.light in
    subst (λ w. (sizes_in r w.top.done < 2 ^ 32 - 1) × (heights_in w.top.done < 2 ^ 16 - 1)) h (omega arith, omega arith)

-- the same of a stack that stands for frames in order
pub filled_room : (text : Text) (r : names.Row) (v w : frames.Stack) (n : ℕ) → Standing text v → ((f : Frame) (S : Stack) (at : ℕ) → IsNamed (text_table text) row_name (f ∷ S) at v → IsNamed (text_table text) row_name ((filled most_parts (text_table text) f at).0 ∷ S) at w × (n ≡ (filled most_parts (text_table text) f at).1))
    → (sizes_in r w.top.done < 2 ^ 32 - 1) × (heights_in w.top.done < 2 ^ 16 - 1)
filled_room text r v w n s h =
    let q = stood text v s in
    named_room text r most_parts (omega arith) q.top q.below q.at v w q.stands (h q.top q.below q.at q.stands.named).0

-- a frame that is closed with its missing parts
pub closed_named : (text : Text) (f g : Frame) (S : Stack) (at n : ℕ) (v w x : frames.Stack) (r : names.Row) → Stands text (f ∷ g ∷ S) at v
    → ((f : Frame) (S : Stack) (at : ℕ) → IsNamed (text_table text) row_name (f ∷ S) at v → IsNamed (text_table text) row_name ((filled most_parts (text_table text) f at).0 ∷ S) at w × (n ≡ (filled most_parts (text_table text) f at).1))
    → r ≡ row_name w.top.number → Some x ≡ closed r w
    → Stands text (put (filled most_parts (text_table text) f at).0 g ∷ S) at x × (n ≡ (filled most_parts (text_table text) f at).1)
closed_named text f g S at n v w x r s h e is =
    let (a, b) = h f (g ∷ S) at s.named in
    let (sort, level, what, rest) = s.order.wait in
    let F = (filled most_parts (text_table text) f at).0 in
    let c : closed (row_name F.number) w ≡ Some (named_stack (text_table text) row_name (put F g) S at) = put_named (text_table text) row_name F g S at sort level w what a in
    let d : r ≡ row_name F.number = e ∙ ap (λ w. row_name w.top.number) (sym a) in
    let k : Some x ≡ Some (named_stack (text_table text) row_name (put F g) S at) = is ∙ ap (λ r. closed r w) d ∙ c in
    (record { named = cc; order = put_order (text_table text) f g S at s.order }, b)

pub closed_none : (text : Text) (f g : Frame) (S : Stack) (at n : ℕ) (v w : frames.Stack) (r : names.Row) → Stands text (f ∷ g ∷ S) at v
    → ((f : Frame) (S : Stack) (at : ℕ) → IsNamed (text_table text) row_name (f ∷ S) at v → IsNamed (text_table text) row_name ((filled most_parts (text_table text) f at).0 ∷ S) at w × (n ≡ (filled most_parts (text_table text) f at).1))
    → r ≡ row_name w.top.number → None ≡ closed r w → ⊥
closed_none text f g S at n v w r s h e is =
    let (a, b) = h f (g ∷ S) at s.named in
    let (sort, level, what, rest) = s.order.wait in
    let F = (filled most_parts (text_table text) f at).0 in
    let c : closed (row_name F.number) w ≡ Some (named_stack (text_table text) row_name (put F g) S at) = put_named (text_table text) row_name F g S at sort level w what a in
    let d : r ≡ row_name F.number = e ∙ ap (λ w. row_name w.top.number) (sym a) in
    let k : None ≡ Some (named_stack (text_table text) row_name (put F g) S at) = is ∙ ap (λ r. closed r w) d ∙ c in cc

-- behind a frame that is closed the stack stands for frames in order, one less
pub close_next : (text : Text) (v w : frames.Stack) (n : ℕ) → Standing text v → 1 ≤ length v.below
    → ((f g : Frame) (S : Stack) (at : ℕ) → Stands text (f ∷ g ∷ S) at v → Stands text (put (filled most_parts (text_table text) f at).0 g ∷ S) at w × (n ≡ (filled most_parts (text_table text) f at).1))
    → Standing text w × (length w.below + 1 ≡ length v.below)
close_next text v w n s le h =
    let q = stood text v s in by q.below q.at q.stands
  where
    by : {f : Frame} → (S : Stack) (at : ℕ) → Stands text (f ∷ S) at v → Standing text w × (length w.below + 1 ≡ length v.below)
    by {f} [] at st = let e = below_named text f [] at v st in absurd (omega arith)
    by {f} (g ∷ S) at st =
        let (a, b) = h f g S at st in
        let e = below_named text f (g ∷ S) at v st in
        let d = below_named text (put (filled most_parts (text_table text) f at).0 g) S at w a in
        ((put (filled most_parts (text_table text) f at).0 g ∷ S, at, a), omega arith)

-- a frame is closed, and then others
pub close_more : (text : Text) (m : ℕ) (f : Frame) (S : Stack) (at : ℕ) (v w x : frames.Stack) (n k : ℕ) → (m ≡ 0 → ⊥) → m ≤ length v.below → Stands text (f ∷ S) at v
    → ((f g : Frame) (S : Stack) (at : ℕ) → Stands text (f ∷ g ∷ S) at v → Stands text (put (filled most_parts (text_table text) f at).0 g ∷ S) at w × (n ≡ (filled most_parts (text_table text) f at).1))
    → ((f : Frame) (S : Stack) (at : ℕ) → Stands text (f ∷ S) at w → Stands text ((out (m - 1) (text_table text) f S at).0 ∷ (out (m - 1) (text_table text) f S at).1) at x × (k ≡ out_holes (m - 1) (text_table text) f S at))
    → Stands text ((out m (text_table text) f S at).0 ∷ (out m (text_table text) f S at).1) at x × (n + k ≡ out_holes m (text_table text) f S at)
close_more text zero f S at v w x n k some le st h go = absurd (some refl)
close_more text (suc m) f [] at v w x n k some le st h go = let e = below_named text f [] at v st in absurd (omega arith)
close_more text (suc m) f (g ∷ S) at v w x n k some le st h go =
    let (a, b) = h f g S at st in
    let less : suc m - 1 ≡ m = omega arith in
    let F = put (filled most_parts (text_table text) f at).0 g in
    let (c, d) = subst (λ j. Stands text ((out j (text_table text) F S at).0 ∷ (out j (text_table text) F S at).1) at x × (k ≡ out_holes j (text_table text) F S at)) less (go F S at a) in
    (c, ap (λ n. n + k) b ∙ ap (λ k. (filled most_parts (text_table text) f at).1 + k) d)
