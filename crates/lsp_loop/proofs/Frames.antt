-- A message stays where more bytes come after it.
use Rattle.std.proofs.Common.{◌≡◌, ◌∙◌, ◌+◌, ◌-◌, ◌≤◌, ℕ, zero, suc, List, [], ◌∷◌, ◌++◌, length, length-append, take, drop, true, false, refl, ap, sym, subst, arith, append_assoc, take-append-drop, Some, None}
use Rattle.std.specs.Prelude.{◌==◌, if◌then◌else◌, nat_le, nat_lt}
use Rattle.std.proofs.lemmas.Option.{none-some}
use Rattle.std.proofs.lemmas.List.{length-drop, length-take-le}
use Rattle.std.proofs.lemmas.Bool.{le-leb, leb-true}
use Rattle.lsp_model.specs.Frames.{Frame, Told, bad, block_from, body_limit, ends_line, frame, frame_behind, frame_by, head_limit, more, nothing, over, told, whole, with_line, wrong}
use Rattle.lsp_loop.specs.Heard.{Heard, body, passed, BeginsWith, Splits}

-- a block that has ended stays
pub block_stays : (at : ℕ) (t : Told) (line xs ys : List ℕ) (b : ℕ × Told) → block_from at t line xs ≡ Some b → block_from at t line (xs ++ ys) ≡ Some b
block_stays at t line [] ys b is = absurd (none-some b is)
block_stays at t line (x ∷ xs) ys b is =
    elim (ends_line line x) as (λ e. (if e then (if length line == 1 then Some (at + 1, t) else block_from (at + 1) (with_line t (take (length line - 1) line)) [] xs) else block_from (at + 1) t (line ++ x ∷ []) xs) ≡ Some b
    → (if e then (if length line == 1 then Some (at + 1, t) else block_from (at + 1) (with_line t (take (length line - 1) line)) [] (xs ++ ys)) else block_from (at + 1) t (line ++ x ∷ []) (xs ++ ys)) ≡ Some b) [
      | true ↦ elim (length line == 1) as (λ o. (if o then Some (at + 1, t) else block_from (at + 1) (with_line t (take (length line - 1) line)) [] xs) ≡ Some b
          → (if o then Some (at + 1, t) else block_from (at + 1) (with_line t (take (length line - 1) line)) [] (xs ++ ys)) ≡ Some b) [
            | true ↦ λ i. i
            | false ↦ block_stays (at + 1) (with_line t (take (length line - 1) line)) [] xs ys b
          ]
      | false ↦ block_stays (at + 1) t (line ++ x ∷ []) xs ys b
    ] is

-- the front of a longer list
pub front_more : (n : ℕ) (xs ys : List ℕ) → (zs : List ℕ) × (take n (xs ++ ys) ≡ take n xs ++ zs)
front_more zero xs ys = ([], refl)
front_more (suc n) [] ys = (take (suc n) ys, refl)
front_more (suc n) (x ∷ xs) ys = let less = front_more n xs ys in (less.0, ap (λ (l : List ℕ). x ∷ l) less.1)

-- what so many bytes begin with, after a block that has ended, stays
pub behind_stays : (n m head : ℕ) (t : Told) (f : Frame) → n ≤ m → (f ≡ more → ⊥) → frame_behind n head t ≡ f → frame_behind m head t ≡ f
behind_stays n m head nothing f fewer unlike is = is
behind_stays n m head wrong f fewer unlike is = is
behind_stays n m head (told count) f fewer unlike is =
    elim (nat_lt body_limit count) as (λ e. (if e then over head count else if nat_le (head + count) n then whole head count else more) ≡ f
    → (if e then over head count else if nat_le (head + count) m then whole head count else more) ≡ f) [
      | true ↦ λ i. i
      | false ↦ λ i. elim (nat_le (head + count) n) as (λ e. nat_le (head + count) n ≡ e → (if e then whole head count else more) ≡ f → (if nat_le (head + count) m then whole head count else more) ≡ f) [
        | true ↦ λ here j. let there : nat_le (head + count) m ≡ true = le-leb (head + count) m (omega (arith, fewer, leb-true (head + count) n here)) in ap (λ b. if b then whole head count else more) there ∙ j
        | false ↦ λ here j. absurd (unlike (sym j))
      ] refl i
    ] is

-- what bytes begin with stays where more come after them, unless more are wanted or it is bad
pub frame_stays : (xs ys : List ℕ) (f : Frame) → (f ≡ more → ⊥) → (f ≡ bad → ⊥) → frame xs ≡ f → frame (xs ++ ys) ≡ f
unfolding frame
frame_stays xs ys f no_more not_bad is =
    elim (block_from 0 nothing [] (take head_limit xs)) as (λ o. block_from 0 nothing [] (take head_limit xs) ≡ o → frame_by (length xs) o ≡ f
    → frame_by (length (xs ++ ys)) (block_from 0 nothing [] (take head_limit (xs ++ ys))) ≡ f) [
      | None ↦ λ e i. elim (nat_lt (length xs) head_limit) as (λ b. (if b then more else bad) ≡ f → frame_by (length (xs ++ ys)) (block_from 0 nothing [] (take head_limit (xs ++ ys))) ≡ f) [
        | true ↦ λ j. absurd (no_more (sym j))
        | false ↦ λ j. absurd (not_bad (sym j))
      ] i
      | Some b ↦ λ e i.
          let front = front_more head_limit xs ys in
          let block : block_from 0 nothing [] (take head_limit (xs ++ ys)) ≡ Some b = ap (λ (l : List ℕ). block_from 0 nothing [] l) front.1 ∙ block_stays 0 nothing [] (take head_limit xs) front.0 b e in
          let fewer : length xs ≤ length (xs ++ ys) = omega (arith, length-append xs ys) in
          ap (frame_by (length (xs ++ ys))) block ∙ behind_stays (length xs) (length (xs ++ ys)) b.0 b.1 f fewer no_more i
    ] refl is

-- a message that bytes begin with is the same with more bytes after it
pub begins_stays : (bytes : List ℕ) (h : Heard) (rest ys : List ℕ) → BeginsWith bytes h rest → BeginsWith (bytes ++ ys) h (rest ++ ys)
begins_stays bytes (body b) rest ys (head, is, at) = (
  head,
  frame_stays bytes ys (whole (length head) (length b)) (λ e. cc) (λ e. cc) is,
  ap (λ (l : List ℕ). l ++ ys) at ∙ append_assoc head (b ++ rest) ys ∙ ap (λ (l : List ℕ). head ++ l) (append_assoc b rest ys),
)
begins_stays bytes passed rest ys (head, count, front, is, long, at) = (
  head,
  count,
  front,
  frame_stays bytes ys (over head count) (λ e. cc) (λ e. cc) is,
  long,
  ap (λ (l : List ℕ). l ++ ys) at ∙ append_assoc front rest ys,
)

-- messages are the same with more bytes after them
pub splits_stays : (bytes : List ℕ) (hs : List Heard) (rest ys : List ℕ) → Splits bytes hs rest → Splits (bytes ++ ys) hs (rest ++ ys)
splits_stays bytes [] rest ys is = ap (λ (l : List ℕ). l ++ ys) is
splits_stays bytes (h ∷ hs) rest ys is = (is.0 ++ ys, begins_stays bytes h is.0 ys is.1, splits_stays is.0 hs rest ys is.2)

-- messages with one more after them
pub splits_more : (bytes : List ℕ) (hs : List Heard) (rest : List ℕ) (h : Heard) (after : List ℕ) → Splits bytes hs rest → BeginsWith rest h after → Splits bytes (hs ++ h ∷ []) after
splits_more bytes [] rest h after is begins = (after, subst (λ (l : List ℕ). BeginsWith l h after) (sym is) begins, refl)
splits_more bytes (g ∷ hs) rest h after is begins = (is.0, is.1, splits_more is.0 hs rest h after is.2 begins)

-- a whole message, by its parts
pub begins_whole : (bytes : List ℕ) (head count : ℕ) → head + count ≤ length bytes → frame bytes ≡ whole head count → BeginsWith bytes (body (take count (drop head bytes))) (drop count (drop head bytes))
begins_whole bytes head count within is =
    let one : length (take head bytes) ≡ head = length-take-le head bytes (omega (arith, within)) in
    let two : length (take count (drop head bytes)) ≡ count = length-take-le count (drop head bytes) (omega (arith, within, length-drop head bytes)) in (
      take head bytes,
      is ∙ ap (λ n. whole n count) (sym one) ∙ ap (whole (length (take head bytes))) (sym two),
      sym (ap (λ (l : List ℕ). take head bytes ++ l) (take-append-drop count (drop head bytes)) ∙ take-append-drop head bytes),
    )
