-- A run goes on by a line, and the lines of bytes by a byte.
use Rattle.std.proofs.Common.{◌≡◌, ℕ, List, [], ◌∷◌, ◌++◌, true, false, refl, sym, ◌∙◌, ap, subst, append_assoc}
use Rattle.std.specs.Prelude.{if◌then◌else◌, ◌==◌}
use Rattle.std.proofs.lemmas.List.{append-nil}
use Rattle.text_model.specs.Lines.{ended_from, rest_from, line_feed}
use Rattle.service_model.specs.Runs.{Step, RunsTo}

pub runs_more : (text : List ℕ) (lines : List (List ℕ)) (out mid line piece new : List ℕ) → RunsTo text lines out mid → Step mid line piece new → RunsTo text (lines ++ line ∷ []) (out ++ piece) new
runs_more text [] out mid line piece new ran step =
    (piece, new, [], subst (λ (t : List ℕ). Step t line piece new) ran.1 step, (refl, refl), ap (λ (o : List ℕ). o ++ piece) ran.0 ∙ sym (append-nil piece))
runs_more text (l ∷ lines) out mid line piece new ran step =
    (ran.0, ran.1, ran.2 ++ piece, ran.3, runs_more ran.1 lines ran.2 mid line piece new ran.4 step, ap (λ (o : List ℕ). o ++ piece) ran.5 ∙ append_assoc ran.0 ran.2 piece)

-- a byte that ends a line
pub ended_feed : (line bytes : List ℕ) → ended_from line (bytes ++ line_feed ∷ []) ≡ ended_from line bytes ++ rest_from line bytes ∷ []
ended_feed line [] = refl
ended_feed line (b ∷ bytes) =
    elim (b == line_feed) as (λ t. (if t then line ∷ ended_from [] (bytes ++ line_feed ∷ []) else ended_from (line ++ b ∷ []) (bytes ++ line_feed ∷ []))
    ≡ (if t then line ∷ ended_from [] bytes else ended_from (line ++ b ∷ []) bytes) ++ (if t then rest_from [] bytes else rest_from (line ++ b ∷ []) bytes) ∷ []) [
      | true ↦ ap (λ (ls : List (List ℕ)). line ∷ ls) (ended_feed [] bytes)
      | false ↦ ended_feed (line ++ b ∷ []) bytes
    ]

pub rest_feed : (line bytes : List ℕ) → rest_from line (bytes ++ line_feed ∷ []) ≡ []
rest_feed line [] = refl
rest_feed line (b ∷ bytes) =
    elim (b == line_feed) as (λ t. (if t then rest_from [] (bytes ++ line_feed ∷ []) else rest_from (line ++ b ∷ []) (bytes ++ line_feed ∷ [])) ≡ []) [
      | true ↦ rest_feed [] bytes
      | false ↦ rest_feed (line ++ b ∷ []) bytes
    ]

-- a byte that goes on with a line
pub ended_byte : (line bytes : List ℕ) (x : ℕ) → (x == line_feed) ≡ false → ended_from line (bytes ++ x ∷ []) ≡ ended_from line bytes
ended_byte line [] x is = ap (λ t. if t then line ∷ [] else []) is
ended_byte line (b ∷ bytes) x is =
    elim (b == line_feed) as (λ t. (if t then line ∷ ended_from [] (bytes ++ x ∷ []) else ended_from (line ++ b ∷ []) (bytes ++ x ∷ [])) ≡ (if t then line ∷ ended_from [] bytes else ended_from (line ++ b ∷ []) bytes)) [
      | true ↦ ap (λ (ls : List (List ℕ)). line ∷ ls) (ended_byte [] bytes x is)
      | false ↦ ended_byte (line ++ b ∷ []) bytes x is
    ]

pub rest_byte : (line bytes : List ℕ) (x : ℕ) → (x == line_feed) ≡ false → rest_from line (bytes ++ x ∷ []) ≡ rest_from line bytes ++ x ∷ []
rest_byte line [] x is = ap (λ t. if t then [] else line ++ x ∷ []) is
rest_byte line (b ∷ bytes) x is =
    elim (b == line_feed) as (λ t. (if t then rest_from [] (bytes ++ x ∷ []) else rest_from (line ++ b ∷ []) (bytes ++ x ∷ [])) ≡ (if t then rest_from [] bytes else rest_from (line ++ b ∷ []) bytes) ++ x ∷ []) [
      | true ↦ rest_byte [] bytes x is
      | false ↦ rest_byte (line ++ b ∷ []) bytes x is
    ]

-- the lines that end in a text, by a front of it
pub ended_front : (line xs ys : List ℕ) → ended_from line (xs ++ ys) ≡ ended_from line xs ++ ended_from (rest_from line xs) ys
ended_front line [] ys = refl
ended_front line (b ∷ xs) ys =
    elim (b == line_feed) as (λ t. (if t then line ∷ ended_from [] (xs ++ ys) else ended_from (line ++ b ∷ []) (xs ++ ys))
    ≡ (if t then line ∷ ended_from [] xs else ended_from (line ++ b ∷ []) xs) ++ ended_from (if t then rest_from [] xs else rest_from (line ++ b ∷ []) xs) ys) [
      | true ↦ ap (λ (ls : List (List ℕ)). line ∷ ls) (ended_front [] xs ys)
      | false ↦ ended_front (line ++ b ∷ []) xs ys
    ]
