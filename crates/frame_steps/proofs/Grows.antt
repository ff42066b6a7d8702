-- A token that grows the newest operand of a frame.
use Rattle.std.proofs.Common.{◌≡◌, ℕ, true, List, [], ◌∷◌, Result, IfOk, Option, Some, None, sym, ◌∙◌, ap, subst}
use Rattle.std.proofs.lemmas.Result.{IfOk-weaker}
use Rattle.token_model.specs.Kinds.{Tok}
use Rattle.tree_model.specs.Trees as told
use Rattle.grammar_model.specs.Keys.{key_of}
use Rattle.grammar_model.specs.Trees.{Part}
use Rattle.grammar_model.specs.Tables.{Table, What, nothing, token, operand, Last, plain, takes, grows, Place, growth, first_place}
use Rattle.grammar_model.specs.Machine.{Frame, frame, Stack, first_of, start_at, grower_in, place_in}
use Rattle.grammar_model.specs.Ocaml.{row_name}
use Rattle.grammar_laws.proofs.Sound.{place_grows, grows_parts}
use Rattle.grammar_laws.proofs.Counted.{grower_operand}
use Rattle.syntax_rows.specs.View.{text_of}
use Rattle.syntax_rows.specs.declared.ocaml.Text.{Text}
use Rattle.parse_frames.specs.Frames as frames
use Rattle.parse_frames.specs.Frames.{grown}
use Rattle.parse_frames.specs.Named.{named_stack, IsNamed}
use Rattle.parse_frames.specs.Stacks.{stack_view}
use Rattle.parse_frames.specs.declared.stack.Stack.{Stack as FrameStack}
use Rattle.parse_frames.proofs.Named.{grown_named}
use Rattle.frame_steps.specs.Course.{grown_to, taken_to}
use Rattle.frame_steps.specs.View.{text_table}
use Rattle.frame_steps.proofs.Chains.{laws}
use Rattle.frame_steps.proofs.Takes.{growing}

-- a key that grows has a row by which it does
row_grows : (G : Table) (w : What) (last : Last) (k : ℕ) → grows G w last k ≡ true → (g : ℕ) × (grower_in G w k ≡ Some g)
row_grows G nothing last k h = absurd (cc)
row_grows G (token ks) last k h = absurd (cc)
row_grows G (operand s n) last k h = let (q, is, le, ok) = grows_parts G n last (G.grower s k) h in (q, is)

-- a growth has a row
pub grow_row : (text : Text) (r at : ℕ) (last : Last) (k j : ℕ) → first_place (text_table text) r at last k ≡ growth → None ≡ grower_in (text_table text) ((text_table text).what r at) j → j ≡ k → ⊥
grow_row text r at last k j h e same =
    let (g, is) = row_grows (text_table text) ((text_table text).what r at) last k (place_grows (text_table text) r at k last h) in
    let x : None ≡ Some g = e ∙ ap (grower_in (text_table text) ((text_table text).what r at)) same ∙ is in cc

-- the frame of a growth has the row that grows
grown_number : (g : ℕ) (v u : frames.Stack) (ds : List (ℕ × told.Part)) → Some u ≡ frames.grown_by g v ds → u.top.number ≡ g
grown_number g v u [] h = absurd (cc)
grown_number g v u (d ∷ ds) h =
    let e : u ≡ frames.stack (frames.frame g 0 ((0, d.1) ∷ [])) (frames.frame v.top.number v.top.spot ds ∷ v.below) plain v.place = cc in ap (λ u. u.top.number) e

-- the row of a growth takes the key at its first spot
pub grow_takes : (text : Text) (w : What) (k j g p n : ℕ) (v u : frames.Stack) → Some g ≡ grower_in (text_table text) w j → j ≡ k → p ≡ first_of (text_table text) g → Some u ≡ grown g v → n ≡ u.top.number
    → takes (text_table text) ((text_table text).what n p) k ≡ true
grow_takes text w k j g p n v u e same first is number =
    let (s, by) = grower_operand (text_table text) w k g (ap (grower_in (text_table text) w) (sym same) ∙ sym e) in
    let t = ((laws (text_of text)).grower_left s k g by).3 in
    let m : n ≡ g = number ∙ grown_number g v u v.top.done is in
    subst (λ n. takes (text_table text) ((text_table text).what n p) k ≡ true) (sym m) (subst (λ p. takes (text_table text) ((text_table text).what g p) k ≡ true) (sym first) t)

-- the place of a token in the frame that a stack stands for
pub place_named : (text : Text) (f : Frame) (S : Stack) (at : ℕ) (v : frames.Stack) (t : Tok) (p : Place) → IsNamed (text_table text) row_name (f ∷ S) at v → first_place (text_table text) v.top.number v.top.spot v.last (key_of t) ≡ p → place_in (text_table text) f t ≡ p
place_named text f S at v t p named h = subst (λ v. first_place (text_table text) v.top.number v.top.spot v.last (key_of t) ≡ p) (sym named) h

-- a frame that grows has a part
pub grow_some : (text : Text) (f : Frame) (S : Stack) (at g : ℕ) (v : frames.Stack) (t : Tok) → IsNamed (text_table text) row_name (f ∷ S) at v → first_place (text_table text) v.top.number v.top.spot v.last (key_of t) ≡ growth → None ≡ grown g v → ⊥
grow_some text f S at g v t named h e =
    let r = growing (text_table text) (laws (text_of text)) f t (place_named text f S at v t growth named h) in
    let x = grown_named (text_table text) row_name g f r.newest r.others S at v ((laws (text_of text)).start g) r.done named in
    let y : None ≡ Some (named_stack (text_table text) row_name (frame g 0 ((0, r.newest.1) ∷ [])) (frame f.number f.at r.others ∷ S) at) = e ∙ x in cc

-- the frames of a growth
grown_is : (G : Table) (o : Option ℕ) (f : Frame) (ds : List (ℕ × Part)) (t : Tok) (S : Stack) (g : ℕ) (d : ℕ × Part) (es : List (ℕ × Part)) → o ≡ Some g → ds ≡ d ∷ es →
    grown_to G o f ds t S ≡ start_at G (frame g 0 ((0, d.1) ∷ [])) (first_of G g) t (frame f.number f.at es ∷ S)
grown_is G o f ds t S g d es a b = ap (λ o. grown_to G o f ds t S) a ∙ ap (λ ds. grown_to G (Some g) f ds t S) b

-- the token is taken in the frame of a growth
pub grow_named : {E : Type 0} → (text : Text) (g p r at j : ℕ) (v u : frames.Stack) (t : Tok) (res : Result FrameStack E) → r ≡ v.top.number → at ≡ v.top.spot → Some g ≡ grower_in (text_table text) ((text_table text).what r at) j → j ≡ key_of t → p ≡ first_of (text_table text) g
    → Some u ≡ grown g v → first_place (text_table text) v.top.number v.top.spot v.last (key_of t) ≡ growth
    → IfOk res (λ x. (f : Frame) (S : Stack) (at : ℕ) → IsNamed (text_table text) row_name (f ∷ S) at u → IsNamed (text_table text) row_name (start_at (text_table text) f p t S) t.end (stack_view x))
    → IfOk res (λ x. (f : Frame) (S : Stack) (at : ℕ) → IsNamed (text_table text) row_name (f ∷ S) at v → IsNamed (text_table text) row_name (taken_to (text_table text) growth f S t) t.end (stack_view x))
grow_named text g p r at j v u t res rn an e same first is h =
    λ k. IfOk-weaker res _ _ (λ x i f S at named. taken x i f S at named) k
  where
    taken : (x : FrameStack) → ((f : Frame) (S : Stack) (at : ℕ) → IsNamed (text_table text) row_name (f ∷ S) at u → IsNamed (text_table text) row_name (start_at (text_table text) f p t S) t.end (stack_view x))
        → (f : Frame) (S : Stack) (at : ℕ) → IsNamed (text_table text) row_name (f ∷ S) at v → IsNamed (text_table text) row_name (taken_to (text_table text) growth f S t) t.end (stack_view x)
    taken x i f S at' named =
        let G = text_table text in
        let q = growing G (laws (text_of text)) f t (place_named text f S at' v t growth named h) in
        let y = grown_named G row_name g f q.newest q.others S at' v ((laws (text_of text)).start g) q.done named in
        let z : Some u ≡ Some (named_stack G row_name (frame g 0 ((0, q.newest.1) ∷ [])) (frame f.number f.at q.others ∷ S) at') = is ∙ y in
        let un : named_stack G row_name (frame g 0 ((0, q.newest.1) ∷ [])) (frame f.number f.at q.others ∷ S) at' ≡ u = cc in
        let s = i (frame g 0 ((0, q.newest.1) ∷ [])) (frame f.number f.at q.others ∷ S) at' un in
        let o : grower_in G (G.what f.number f.at) (key_of t) ≡ Some g =
        ap (λ v. grower_in G (G.what v.top.number v.top.spot) (key_of t)) named ∙ ap (λ r. grower_in G (G.what r v.top.spot) (key_of t)) (sym rn) ∙ ap (λ a. grower_in G (G.what r a) (key_of t)) (sym an)
        ∙ ap (grower_in G (G.what r at)) (sym same) ∙ sym e in
        subst (λ U. IsNamed G row_name U t.end (stack_view x)) (sym (grown_is G (grower_in G (G.what f.number f.at) (key_of t)) f f.done t S g q.newest q.others o q.done))
        (subst (λ p. IsNamed G row_name (start_at G (frame g 0 ((0, q.newest.1) ∷ [])) p t (frame f.number f.at q.others ∷ S)) t.end (stack_view x)) first s)
