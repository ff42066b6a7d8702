-- What follows a reply, of bytes that begin with one.
use Rattle.std.proofs.Common.{◌≡◌, ◌≢◌, ◌⊎◌, inl, inr, ℕ, List, [], ◌∷◌, ◌++◌, false, refl, sym, ◌∙◌, ap, subst, arith, slice_index, Option, Some, None, eqb}
use Rattle.std.specs.Prelude.{MatchOption}
use Rattle.std.specs.Borrow.{Bor}
use Rattle.std.specs.Bool.{Decides}
use Rattle.std.proofs.lemmas.Bool.Decides.{eqb_tells}
use Rattle.std.proofs.lemmas.List.{append_cancel_left}
use Rattle.serde_json.specs.Data.{Data}
use Rattle.serde_json.proofs.OnLiterals.{serde_json_on_literals}
use Rattle.serde_json.specs.Written.{compact_text}
use Rattle.text_model.specs.Edits as edit
use Rattle.service_model.specs.Requests.{Asked, tell, type_enclosing, complete_prefix, locate, occurrences, outline, errors, case_analysis, construct, Reading, asks, refused, reading}
use Rattle.service_model.specs.Replies as said
use Rattle.service_model.specs.Replies.{line_of, memory_line, said_data, returned, failed, wrong}
use Rattle.service_model.specs.Answers.{Answered, Answers, Replies, ToldIs, tell_outcome}
use Rattle.service_model.specs.Runs.{Step, StepBy, is_blank_line}
use Rattle.run_check.specs.Settled.{Goes}

-- numbers are compared by `==`
pub eq_decides : (a b : ℕ) → Decides (eqb a b) (a ≡ b)
eq_decides a b = elim (eqb_tells a b) [
  | inl same ↦ (λ t. same.1, λ e. same.0)
  | inr other ↦ (λ t. let never : ⊥ = cc in absurd never, λ e. absurd (other.1 e))
]

-- ---- the line for want of memory begins as no other

-- the byte by which the class of a reply is told
abbrev class_byte : List ℕ → ℕ
class_byte bytes = slice_index bytes 10

memory_byte : (xs : List ℕ) → class_byte (memory_line ++ xs) ≡ 109
unfolding line_of serde_json_on_literals
memory_byte xs = refl

-- a value doesn't
no_return : (s : said.Said) (d : Data) (xs ys : List ℕ) → said_data s ≡ returned d → line_of s ++ xs ≡ memory_line ++ ys → ⊥
unfolding line_of serde_json_on_literals
no_return s d xs ys is same =
    let at : class_byte (line_of s ++ xs) ≡ 114 = ap (λ t. class_byte ((compact_text t ++ 10 ∷ []) ++ xs)) is in
    omega (arith, at, ap (λ (l : List ℕ). class_byte l) same, memory_byte ys)

-- a failure doesn't
no_failure : (s : said.Said) (d : Data) (xs ys : List ℕ) → said_data s ≡ failed d → line_of s ++ xs ≡ memory_line ++ ys → ⊥
unfolding line_of serde_json_on_literals
no_failure s d xs ys is same =
    let at : class_byte (line_of s ++ xs) ≡ 102 = ap (λ t. class_byte ((compact_text t ++ 10 ∷ []) ++ xs)) is in
    omega (arith, at, ap (λ (l : List ℕ). class_byte l) same, memory_byte ys)

-- an error doesn't
no_error : (s : said.Said) (d : Data) (xs ys : List ℕ) → said_data s ≡ wrong d → line_of s ++ xs ≡ memory_line ++ ys → ⊥
unfolding line_of serde_json_on_literals
no_error s d xs ys is same =
    let at : class_byte (line_of s ++ xs) ≡ 101 = ap (λ t. class_byte ((compact_text t ++ 10 ∷ []) ++ xs)) is in
    omega (arith, at, ap (λ (l : List ℕ). class_byte l) same, memory_byte ys)

-- the only reply that begins so is the one for want of memory
memory_alone : (s : said.Said) (xs ys : List ℕ) → line_of s ++ xs ≡ memory_line ++ ys → s ≡ said.no_memory
memory_alone said.no_memory xs ys same = refl
memory_alone (said.size n) xs ys same = absurd (no_return (said.size n) _ xs ys refl same)
memory_alone (said.types ts) xs ys same = absurd (no_return (said.types ts) _ xs ys refl same)
memory_alone (said.entries es more) xs ys same = absurd (no_return (said.entries es more) _ xs ys refl same)
memory_alone (said.place file pos) xs ys same = absurd (no_return (said.place file pos) _ xs ys refl same)
memory_alone (said.spans ss) xs ys same = absurd (no_return (said.spans ss) _ xs ys refl same)
memory_alone (said.outline o) xs ys same = absurd (no_return (said.outline o) _ xs ys refl same)
memory_alone (said.faults fs more) xs ys same = absurd (no_return (said.faults fs more) _ xs ys refl same)
memory_alone (said.split start end text) xs ys same = absurd (no_return (said.split start end text) _ xs ys refl same)
memory_alone (said.terms start end texts) xs ys same = absurd (no_return (said.terms start end texts) _ xs ys refl same)
memory_alone said.no_node xs ys same = absurd (no_failure said.no_node _ xs ys refl same)
memory_alone said.not_a_name xs ys same = absurd (no_failure said.not_a_name _ xs ys refl same)
memory_alone (said.unbound ident) xs ys same = absurd (no_failure (said.unbound ident) _ xs ys refl same)
memory_alone said.nothing_to_split xs ys same = absurd (no_failure said.nothing_to_split _ xs ys refl same)
memory_alone (said.hidden_constructor name) xs ys same = absurd (no_failure (said.hidden_constructor name) _ xs ys refl same)
memory_alone (said.would_fault at) xs ys same = absurd (no_failure (said.would_fault at) _ xs ys refl same)
memory_alone said.not_a_hole xs ys same = absurd (no_failure said.not_a_hole _ xs ys refl same)
memory_alone (said.refused r) xs ys same = absurd (no_error (said.refused r) _ xs ys refl same)
memory_alone (said.bad_position key) xs ys same = absurd (no_error (said.bad_position key) _ xs ys refl same)
memory_alone said.bad_range xs ys same = absurd (no_error said.bad_range _ xs ys refl same)
memory_alone (said.splits_char key) xs ys same = absurd (no_error (said.splits_char key) _ xs ys refl same)
memory_alone (said.text_too_long n) xs ys same = absurd (no_error (said.text_too_long n) _ xs ys refl same)

-- ---- the line for want of memory leaves the text

told_stays : (text : List ℕ) (o : edit.Outcome) (after : List ℕ) → ToldIs text o said.no_memory after → after ≡ text
told_stays text (edit.changed first new) after told = (let never : ⊥ = cc in absurd never)
told_stays text (edit.refused r) after told = told.1

memory_stays : (text : List ℕ) (a : Asked) (after : List ℕ) → Replies text a said.no_memory after → after ≡ text
memory_stays text (tell range bytes) after replies = told_stays text (tell_outcome text range bytes) after replies
memory_stays text (type_enclosing at) after replies = replies.1
memory_stays text (complete_prefix at prefix) after replies = replies.1
memory_stays text (locate at) after replies = replies.1
memory_stays text (occurrences at) after replies = replies.1
memory_stays text outline after replies = replies.1
memory_stays text errors after replies = replies.1
memory_stays text (case_analysis at) after replies = replies.1
memory_stays text (construct at) after replies = replies.1

-- an answer that begins as that line is it, and leaves the text
answered_memory : (text : List ℕ) (r : Reading) (piece after xs ys : List ℕ) → Answered text r piece after → piece ++ xs ≡ memory_line ++ ys → (piece ≡ memory_line) × (after ≡ text)
answered_memory text (asks a) piece after xs ys (s, replies, is) same =
    let alone : s ≡ said.no_memory = memory_alone s xs ys (ap (λ (p : List ℕ). p ++ xs) (sym is) ∙ same) in
    (is ∙ ap line_of alone, memory_stays text a after (subst (λ t. Replies text a t after) alone replies))
answered_memory text (refused r) piece after xs ys (is, stays) same =
    (is ∙ ap line_of (memory_alone (said.refused r) xs ys (ap (λ (p : List ℕ). p ++ xs) (sym is) ∙ same)), stays)

-- ---- steps by a line that isn't blank

-- what such a step puts is an answer, or the line for want of memory
stepped : (text line piece after : List ℕ) → is_blank_line line ≡ false → Step text line piece after → Answered text (reading line) piece after ⊎ ((piece ≡ memory_line) × (after ≡ text))
unfolding Answers
stepped text line piece after some step = subst (λ t. StepBy t text line piece after) some step

step_by : (text line piece after : List ℕ) → is_blank_line line ≡ false → Answers text line piece after → Step text line piece after
step_by text line piece after some answers = subst (λ t. StepBy t text line piece after) (sym some) answers

step_memory : (text line : List ℕ) → is_blank_line line ≡ false → Step text line memory_line text
unfolding Answers
step_memory text line some = step_by text line memory_line text some (inr (refl, refl))

-- a line may be answered so, and then nothing else is said
pub memory_sound : (text line left behind : List ℕ) → is_blank_line line ≡ false → left ≡ memory_line ++ behind → (piece : List ℕ) × Step text line piece text × (left ≡ piece ++ behind)
memory_sound text line left behind some front = (memory_line, step_memory text line some, front)

pub memory_complete : (text line left behind mid rest : List ℕ) → is_blank_line line ≡ false → left ≡ memory_line ++ behind → Goes text line left mid rest → (mid ≡ text) × (rest ≡ behind)
memory_complete text line left behind mid rest some front goes =
    let same : goes.piece ++ rest ≡ memory_line ++ behind = sym goes.front ∙ front in
    let is : (goes.piece ≡ memory_line) × (mid ≡ text) = elim (stepped text line goes.piece mid some goes.step) [
      | inl answered ↦ answered_memory text (reading line) goes.piece mid rest behind answered same
      | inr memory ↦ memory
    ] in
    (is.1, append_cancel_left memory_line rest behind (sym (ap (λ (p : List ℕ). p ++ rest) is.0) ∙ same))

-- ---- an answer of the session

-- bytes that don't begin with the line for want of memory go on by the answer that was found, where it is settled
goes_by : (text line left piece after mid rest : List ℕ) → is_blank_line line ≡ false → ((xs : List ℕ) → left ≢ memory_line ++ xs) → Answers text line piece after → piece ≢ memory_line
    → Goes text line left mid rest → (goes : List ℕ) × (goes ≡ piece) × (mid ≡ after) × (left ≡ goes ++ rest)
unfolding Answers
goes_by text line left piece after mid rest some none answers written goes =
    let found : Answered text (reading line) piece after = elim answers [ inl answered ↦ answered | inr memory ↦ absurd (written memory.0) ] in
    let said : Answered text (reading line) goes.piece mid = elim (stepped text line goes.piece mid some goes.step) [
      | inl answered ↦ answered
      | inr memory ↦ absurd (none rest (goes.front ∙ ap (λ (p : List ℕ). p ++ rest) memory.0))
    ] in
    let one = goes.settled some goes.piece piece mid after said found in
    (goes.piece, one.0, one.1, goes.front)

-- what is left behind the answer
pub answer_sound : (text line left piece after : List ℕ) (found : Option (Bor (List ℕ))) → is_blank_line line ≡ false → Answers text line piece after
    → MatchOption found ((xs : List ℕ) → left ≢ piece ++ xs) (λ x. left ≡ piece ++ x.now)
    → MatchOption found (Unit {0}) (λ rest. (p : List ℕ) × Step text line p after × (left ≡ p ++ rest.now))
answer_sound text line left piece after None some answers front = tt
answer_sound text line left piece after (Some x) some answers front = (piece, step_by text line piece after some answers, front)

pub answer_complete : (text line left piece after : List ℕ) (found : Option (Bor (List ℕ))) → is_blank_line line ≡ false → ((xs : List ℕ) → left ≢ memory_line ++ xs) → Answers text line piece after → piece ≢ memory_line
    → MatchOption found ((xs : List ℕ) → left ≢ piece ++ xs) (λ x. left ≡ piece ++ x.now)
    → (mid rest : List ℕ) → Goes text line left mid rest → MatchOption found ⊥ (λ behind. (mid ≡ after) × (rest ≡ behind.now))
answer_complete text line left piece after None some none answers written front mid rest goes =
    let (p, is, leaves, all) = goes_by text line left piece after mid rest some none answers written goes in
    front rest (all ∙ ap (λ (q : List ℕ). q ++ rest) is)
answer_complete text line left piece after (Some x) some none answers written front mid rest goes =
    let (p, is, leaves, all) = goes_by text line left piece after mid rest some none answers written goes in
    (leaves, append_cancel_left piece rest x.now (sym (all ∙ ap (λ (q : List ℕ). q ++ rest) is) ∙ front))
