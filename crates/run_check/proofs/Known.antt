-- Lines whose reply is known have one.
use Rattle.std.proofs.Common.{◌≡◌, ℕ, List, Option, Some, None, sym, ◌∙◌, ap}
use Rattle.token_laws.proofs.Ones.{lex_one}
use Rattle.text_model.specs.Edits as edit
use Rattle.text_model.specs.Positions.{offset}
use Rattle.service_model.specs.Requests.{Asked, tell, type_enclosing, complete_prefix, locate, occurrences, outline, errors, case_analysis, construct, Reading, asks, refused, reading}
use Rattle.service_model.specs.Replies as said
use Rattle.service_model.specs.Replies.{line_of}
use Rattle.service_model.specs.Structure.{OutlineIs, outline_said}
use Rattle.service_model.specs.Answers.{Answered, PlacedIs, Replies, ToldIs, tell_outcome}
use Rattle.run_check.specs.Settled.{IsKnown, IsKnownOf, IsSettled}

one_told : (text : List ℕ) (o : edit.Outcome) (s t : said.Said) (a b : List ℕ) → ToldIs text o s a → ToldIs text o t b → (s ≡ t) × (a ≡ b)
one_told text (edit.changed first new) s t a b x y = (x.0 ∙ sym y.0, x.1 ∙ sym y.1)
one_told text (edit.refused r) s t a b x y = (x.0 ∙ sym y.0, x.1 ∙ sym y.1)

one_outline : (text : List ℕ) (s t : said.Said) → OutlineIs text s → OutlineIs text t → s ≡ t
one_outline text s t (ts, lex, is) (us, again, at) = is ∙ ap (outline_said text) (lex_one text ts us lex again) ∙ sym at

-- nothing is said of an offset that isn't there
one_unplaced : (o : Option ℕ) (P : ℕ → said.Said → Type 0) (text : List ℕ) (s t : said.Said) (a b : List ℕ) → o ≡ None → PlacedIs o P s × (a ≡ text) → PlacedIs o P t × (b ≡ text) → (s ≡ t) × (a ≡ b)
one_unplaced None P text s t a b none x y = (x.0 ∙ sym y.0, x.1 ∙ sym y.1)
one_unplaced (Some o) P text s t a b none x y = (let never : ⊥ = cc in absurd never)

one_reply : (text : List ℕ) (r : Asked) (s t : said.Said) (a b : List ℕ) → IsKnownOf text r → Replies text r s a → Replies text r t b → (s ≡ t) × (a ≡ b)
one_reply text (tell range bytes) s t a b known x y = one_told text (tell_outcome text range bytes) s t a b x y
one_reply text outline s t a b known x y = (one_outline text s t x.0 y.0, x.1 ∙ sym y.1)
one_reply text errors s t a b known x y = absurd known
one_reply text (type_enclosing at) s t a b known x y = one_unplaced (offset text at.0 at.1) _ text s t a b known x y
one_reply text (complete_prefix at prefix) s t a b known x y = one_unplaced (offset text at.0 at.1) _ text s t a b known x y
one_reply text (locate at) s t a b known x y = one_unplaced (offset text at.0 at.1) _ text s t a b known x y
one_reply text (occurrences at) s t a b known x y = one_unplaced (offset text at.0 at.1) _ text s t a b known x y
one_reply text (case_analysis at) s t a b known x y = one_unplaced (offset text at.0 at.1) _ text s t a b known x y
one_reply text (construct at) s t a b known x y = one_unplaced (offset text at.0 at.1) _ text s t a b known x y

one_answer : (text : List ℕ) (r : Reading) (p q a b : List ℕ) → IsKnown text r → Answered text r p a → Answered text r q b → (p ≡ q) × (a ≡ b)
one_answer text (asks r) p q a b known (s, x, is) (t, y, at) =
    let (same, leaves) = one_reply text r s t a b known x y in
    (is ∙ ap line_of same ∙ sym at, leaves)
one_answer text (refused r) p q a b known x y = (x.0 ∙ sym y.0, x.1 ∙ sym y.1)

pub known_settled : (text line : List ℕ) → IsKnown text (reading line) → IsSettled text line
known_settled text line known = λ p q a b x y. one_answer text (reading line) p q a b known x y
