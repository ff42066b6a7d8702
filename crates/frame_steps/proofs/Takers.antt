-- The numbers of the frame that takes a token.
use Rattle.std.proofs.Common.{◌≡◌, ℕ, zero, suc, ◌+◌, ◌-◌, ◌^◌, ◌≤◌, ◌<◌, max, min, List, [], ◌∷◌, length, map, Option, Some, None, option_map, refl, sym, ◌∙◌, ap, subst, arith}
use Rattle.std.specs.declared.rc.Rc.{Rc}
use Rattle.std.specs.declared.alloc.Global.{Global}
use Rattle.grammar_model.specs.Trees.{Part}
use Rattle.grammar_model.specs.Tables.{Table}
use Rattle.recovery_model.specs.Numbers.{must_at}
use Rattle.grammar_model.specs.Machine.{Frame, Stack, put}
use Rattle.recovery_model.specs.Steps.{missing_at, must_of, on_edge, filled, most_parts}
use Rattle.grammar_model.specs.Ocaml.{row_name}
use Rattle.syntax_rows.specs.declared.ocaml.Text.{Text}
use Rattle.parse_frames.specs.Frames as frames
use Rattle.parse_frames.specs.Frames.{heights_in}
use Rattle.parse_frames.specs.Named.{named_frame, named_done}
use Rattle.parse_frames.specs.View.{frames_view, level_view, parts_view}
use Rattle.parse_frames.specs.declared.frames.Level.{Level, out-Level}
use Rattle.parse_frames.proofs.Heights.{level_view_parts}
use Rattle.parse_frames.proofs.Named.{part_height_named, waiting_named}
use Rattle.frame_steps.specs.Course.{out, newest_height, past_musts}
use Rattle.frame_steps.specs.Order.{AllLow, highest}
use Rattle.frame_steps.specs.View.{text_table, IsTaker, Stands}
use Rattle.frame_steps.specs.declared.deep.Taker.{Taker}
use Rattle.frame_steps.proofs.Orders.{node_height, filled_highest, put_low, done_height_named}
use Rattle.frame_steps.proofs.Named.{must_is, must_not}

-- the first of the frames that wait, and the others
pub record First (level : Level) (S : Stack) : Type 0 where
  pub first : Frame
  pub others : Stack
  pub is : S ≡ first ∷ others
  pub number : first.number ≡ (out-Level level).number
  pub spot : first.at ≡ (out-Level level).spot
  pub done : named_done row_name first.done ≡ parts_view (out-Level level).parts
  pub below : map (named_frame row_name) others ≡ frames_view (out-Level level).below

first_of_level : (level : Level) (S : Stack) → map (named_frame row_name) S ≡ level_view level → First level S
first_of_level level [] h = let e : [] ≡ frames.frame (out-Level level).number (out-Level level).spot (parts_view (out-Level level).parts) ∷ frames_view (out-Level level).below = h ∙ level_view_parts level in absurd (cc)
first_of_level level (g ∷ S) h =
    let e : named_frame row_name g ∷ map (named_frame row_name) S ≡ frames.frame (out-Level level).number (out-Level level).spot (parts_view (out-Level level).parts) ∷ frames_view (out-Level level).below = h ∙ level_view_parts level in
    let d : named_frame row_name g ≡ frames.frame (out-Level level).number (out-Level level).spot (parts_view (out-Level level).parts) = cc in
    record { first = g; others = S; is = refl; number = ap (λ f. f.number) d; spot = ap (λ f. f.spot) d; done = ap (λ f. f.done) d; below = cc }

-- the same of frames that wait
pub first_waiting : (fs : Option (Rc Level Global)) (r : Rc Level Global) (level : Level) (S : Stack) → fs ≡ Some r → level ≡ r.value → map (named_frame row_name) S ≡ frames_view fs → First level S
first_waiting fs r level S e d h = first_of_level level S (h ∙ ap frames_view e ∙ ap level_view (sym d))

-- no frame waits
pub none_waiting : (fs : Option (Rc Level Global)) (S : Stack) (a b : ℕ) → fs ≡ None → map (named_frame row_name) S ≡ frames_view fs → a + b + 1 ≡ length S → ⊥
none_waiting fs [] a b e h l = absurd (omega arith)
none_waiting fs (g ∷ S) a b e h l = let k : named_frame row_name g ∷ map (named_frame row_name) S ≡ [] = h ∙ ap frames_view e in cc

-- the node of a closed frame is as high as its parts tell
closed_height : (G : Table) (f g : Frame) (at : ℕ) → newest_height (put (filled most_parts G f at).0 g).done ≡ highest f.done + 1
closed_height G f g at = node_height (filled most_parts G f at).0 ∙ ap (λ n. n + 1) (filled_highest most_parts G f at)

heads : (x y : Frame) (xs ys : Stack) → x ∷ xs ≡ y ∷ ys → x ≡ y
heads x y xs ys e = cc

-- the first of the frames that wait takes the token
pub first_takes : (text : Text) (f : Frame) (S : Stack) (at c : ℕ) (t : Taker) (l m : Level) → First l S → First m S → c ≡ 0 → t.number ≡ (out-Level l).number → t.spot ≡ (out-Level m).spot
    → t.height ≡ highest f.done + 1 → t.below + c + 1 ≡ length S → IsTaker t (out (suc c) (text_table text) f S at)
first_takes text f S at c t l m q r z n s h b =
    subst (λ S. IsTaker t (out (suc c) (text_table text) f S at)) (sym q.is) (subst (λ c. IsTaker t (out (suc c) (text_table text) f (q.first ∷ q.others) at)) (sym z) (record {
      number = n ∙ sym q.number;
      spot = s ∙ sym r.spot ∙ ap (λ g. g.at) (heads r.first q.first r.others q.others (sym r.is ∙ q.is));
      height = h ∙ sym (closed_height (text_table text) f q.first at);
      below = let e = ap length q.is in omega arith;
    }))

-- a frame further below takes the token
pub next_takes : (text : Text) (f : Frame) (S : Stack) (at c n b h k : ℕ) (t : Taker) (l m : Level) → First l S → First m S → (c ≡ 0 → ⊥) → AllLow (f ∷ S) → n ≡ highest f.done + 1 → b + c + 1 ≡ length S
    → h ≡ heights_in (parts_view (out-Level l).parts) → k ≡ min (max n h + 1) 65535
    → ((f : Frame) (S : Stack) (at : ℕ) → map (named_frame row_name) S ≡ frames_view (out-Level m).below → AllLow (f ∷ S) → k ≡ highest f.done + 1 → b + (c - 1) + 1 ≡ length S → IsTaker t (out (suc (c - 1)) (text_table text) f S at))
    → IsTaker t (out (suc c) (text_table text) f S at)
next_takes text f S at c n b h k t l m q r some low e u hh kk go =
    let G = text_table text in
    let g = r.first in
    let len = ap length r.is in
    let d : suc (c - 1) ≡ c = omega arith in
    let low' = subst (λ S. AllLow (f ∷ S)) r.is low in
    let next = put_low most_parts G f g r.others at low' in
    let a = closed_height G f g at in
    let hd = heads q.first g q.others r.others (sym q.is ∙ r.is) in
    let p : h ≡ highest g.done = hh ∙ ap heights_in (sym q.done) ∙ done_height_named row_name q.first.done ∙ ap (λ f. highest f.done) hd in
    let own = low'.0 in
    let under = low'.1.0 in
    let high : k ≡ highest (put (filled most_parts G f at).0 g).done + 1 = by_height k n h (highest f.done) (highest g.done) (newest_height (put (filled most_parts G f at).0 g).done) (length r.others) kk e p a own under in
    subst (λ S. IsTaker t (out (suc c) G f S at)) (sym r.is)
    (subst (λ c. IsTaker t (out c G (put (filled most_parts G f at).0 g) r.others at)) d
    (go (put (filled most_parts G f at).0 g) r.others at r.below next high (omega arith)))
  where
    by_height : (k n h x y z len : ℕ) → k ≡ min (max n h + 1) 65535 → n ≡ x + 1 → h ≡ y → z ≡ x + 1 → x + suc len + 1 ≤ 512 → y + len + 1 ≤ 512 → k ≡ max z y + 1
    by_height k n h x y z len a b c d e f = omega arith

-- the innermost frame takes the token
pub top_takes : (text : Text) (f : Frame) (S : Stack) (at c : ℕ) (v : frames.Stack) (t : Taker) → Stands text (f ∷ S) at v → c ≡ 0 → t.number ≡ v.top.number → t.spot ≡ v.top.spot → t.height ≡ frames.newest_height v.top.done
    → t.below ≡ length v.below - c → IsTaker t (out c (text_table text) f S at)
top_takes text f S at c v t s z n p h b =
    let e = s.named in
    subst (λ c. IsTaker t (out c (text_table text) f S at)) (sym z) (record {
      number = n ∙ ap (λ v. v.top.number) (sym e);
      spot = p ∙ ap (λ v. v.top.spot) (sym e);
      height = h ∙ ap (λ v. frames.newest_height v.top.done) (sym e) ∙ newest f.done;
      below = let x : length v.below ≡ length S = ap (λ v. length v.below) (sym e) ∙ waiting_named row_name S in omega arith;
    })
  where
    newest : (ds : List (ℕ × Part)) → frames.newest_height (named_done row_name ds) ≡ newest_height ds
    newest [] = refl
    newest (d ∷ ds) = part_height_named row_name d.1

-- a frame below takes the token
pub below_takes : (text : Text) (f : Frame) (S : Stack) (at c b k : ℕ) (v : frames.Stack) (fs : List frames.Frame) (t : Taker) → Stands text (f ∷ S) at v → (c ≡ 0 → ⊥) → c ≤ length v.below → b ≡ length v.below - c → k ≡ min (heights_in v.top.done + 1) 65535
    → fs ≡ v.below
    → ((f : Frame) (S : Stack) (at : ℕ) → map (named_frame row_name) S ≡ fs → AllLow (f ∷ S) → k ≡ highest f.done + 1 → b + (c - 1) + 1 ≡ length S → IsTaker t (out (suc (c - 1)) (text_table text) f S at))
    → IsTaker t (out c (text_table text) f S at)
below_takes text f S at c b k v fs t s some le bb kk ff go =
    let e = s.named in
    let x : length v.below ≡ length S = ap (λ v. length v.below) (sym e) ∙ waiting_named row_name S in
    let d : suc (c - 1) ≡ c = omega arith in
    let h : heights_in v.top.done ≡ highest f.done = ap (λ v. heights_in v.top.done) (sym e) ∙ done_height_named row_name f.done in
    let l = s.order.low.0 in
    subst (λ c. IsTaker t (out c (text_table text) f S at)) d (go f S at (ap (λ v. v.below) e ∙ sym ff) s.order.low (omega arith) (omega arith))

-- a frame that misses no part that must come
pub past_none : (text : Text) (m : ℕ) (f : Frame) (S : Stack) (at : ℕ) (t : Taker) → None ≡ option_map (λ e. e.spot) (must_at (text_table text) t.number t.spot) → IsTaker t (f, S) → IsTaker t (past_musts m (text_table text) f at, S)
past_none text zero f S at t h i = i
past_none text (suc m) f S at t h i =
    let o : must_of (text_table text) f ≡ None = must_not (must_of (text_table text) f) (subst (λ r. None ≡ option_map (λ e. e.spot) (must_at (text_table text) r f.at)) i.number (subst (λ p. None ≡ option_map (λ e. e.spot) (must_at (text_table text) t.number p)) i.spot h)) in
    subst (λ o. IsTaker t (on_edge o f (λ e. past_musts m (text_table text) (missing_at f e.spot at) at), S)) (sym o) i

-- a frame with a missing part
pub missing_taker : (f : Frame) (S : Stack) (at s : ℕ) (t u : Taker) → u ≡ record { number = t.number; spot = s; height = 0; below = t.below } → IsTaker t (f, S) → IsTaker u (missing_at f s at, S)
missing_taker f S at s t u e i = record { number = ap (λ u. u.number) e ∙ i.number; spot = ap (λ u. u.spot) e; height = ap (λ u. u.height) e; below = ap (λ u. u.below) e ∙ i.below }

-- a frame that misses a part that must come, and then others
pub past_some : (text : Text) (m : ℕ) (f : Frame) (S : Stack) (at s : ℕ) (t u w : Taker) → (m ≡ 0 → ⊥) → Some s ≡ option_map (λ e. e.spot) (must_at (text_table text) t.number t.spot) → IsTaker t (f, S)
    → u ≡ record { number = t.number; spot = s; height = 0; below = t.below } → ((f : Frame) (S : Stack) (at : ℕ) → IsTaker u (f, S) → IsTaker w (past_musts (m - 1) (text_table text) f at, S)) → IsTaker w (past_musts m (text_table text) f at, S)
past_some text zero f S at s t u w some h i e go = absurd (some refl)
past_some text (suc m) f S at s t u w some h i e go =
    let (d, o, same) = must_is (must_of (text_table text) f) s (subst (λ r. Some s ≡ option_map (λ e. e.spot) (must_at (text_table text) r f.at)) i.number (subst (λ p. Some s ≡ option_map (λ e. e.spot) (must_at (text_table text) t.number p)) i.spot h)) in
    let less : suc m - 1 ≡ m = omega arith in
    let q : IsTaker w (past_musts m (text_table text) (missing_at f d.spot at) at, S) =
    subst (λ p. IsTaker w (past_musts m (text_table text) (missing_at f p at) at, S)) (sym same)
    (subst (λ j. IsTaker w (past_musts j (text_table text) (missing_at f s at) at, S)) less (go (missing_at f s at) S at (missing_taker f S at s t u e i))) in
    subst (λ o. IsTaker w (on_edge o f (λ e. past_musts m (text_table text) (missing_at f e.spot at) at), S)) (sym o) q

out_below : (n : ℕ) (G : Table) (f : Frame) (S : Stack) (at : ℕ) → length (out n G f S at).1 ≤ length S
out_below zero G f S at = omega arith
out_below (suc n) G f [] at = omega arith
out_below (suc n) G f (g ∷ S) at = let h = out_below n G (put (filled most_parts G f at).0 g) S at in omega arith

-- few frames are below the one that takes the token
pub taker_few : (text : Text) (f g : Frame) (S : Stack) (at n : ℕ) (v : frames.Stack) (t : Taker) → Stands text (f ∷ S) at v → IsTaker t (g, (out n (text_table text) f S at).1) → t.below < 2 ^ 31
taker_few text f g S at n v t s i =
    let a = s.order.low.0 in
    let b = out_below n (text_table text) f S at in
    let c = i.below in omega arith
