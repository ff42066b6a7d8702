-- The answer to a line, by what the line asks and what was written.
use Rattle.std.proofs.Common.{◌≡◌, inl, inr, ℕ, List, length, refl, sym, ◌∙◌, ap, subst, Result, Ok, Err, IfOk}
use Rattle.std.specs.Prelude.{Option, Some, None, OnErr}
use Rattle.std.specs.declared.alloc.AllocError.{AllocError}
use Rattle.text_model.specs.Edits as edit
use Rattle.text_store.specs.Edits.{IsRefusal}
use Rattle.text_store.specs.declared.edits.TextRefusal.{TextRefusal}
use Rattle.text_store.specs.declared.edits.TextRefusal.TheVariants as code
use Rattle.service_model.specs.Requests.{Asked, tell, Refusal, asks, refused, reading}
use Rattle.service_model.specs.Replies as said
use Rattle.service_model.specs.Answers.{Answers, Answered, Replies, ToldIs, tell_outcome, edit_refusal}
use Rattle.json_lines.specs.Means.{said_of}
use Rattle.json_lines.specs.Meets.{IsToldOf}
use Rattle.json_lines.specs.declared.reply.Reply.{Reply}
use Rattle.session.specs.Lines.{line_bytes, IsWritten, Says, RepliesBy, RefusesBy, RefusesEditBy, refusal_in}
use Rattle.session.specs.declared.session.Line.{Line}
use Rattle.session.specs.declared.session.Line.TheVariants.{Written, Memory}

-- a line that is refused so has this said to it, and the text stays
written_refusal : (text line : List ℕ) (r : Refusal) (l : Line) → reading line ≡ refused r → IsWritten (said.refused r) l → Answers text line (line_bytes l) text
unfolding Answers
written_refusal text line r (Written v) is written = inl (subst (λ x. Answered text x v.items text) (sym is) (written, refl))
written_refusal text line r Memory is written = inr (refl, refl)

answers_memory : (text line : List ℕ) (l : Line) → l ≡ Memory → Answers text line (line_bytes l) text
unfolding Answers
answers_memory text line l is = inr (ap line_bytes is, refl)

-- a line that is no request
pub answers_refused : (text line : List ℕ) (r : Option Refusal) (l : Line) → IsToldOf r (reading line) → RefusesBy r l → Answers text line (line_bytes l) text
answers_refused text line (Some r) l is written = written_refusal text line r l is written
answers_refused text line None l is written = answers_memory text line l written

-- a request has the line of what is said to it
pub answers_request : (text line after : List ℕ) (a : Asked) (l : Line) → reading line ≡ asks a → RepliesBy text a l after → Answers text line (line_bytes l) after
unfolding Answers
answers_request text line after a (Written v) is replies = inl (subst (λ x. Answered text x v.items after) (sym is) replies)
answers_request text line after a Memory is replies = inr (refl, replies)

-- a query leaves the text
pub replies_query : (text after : List ℕ) (a : Asked) (P : said.Said → Type 0) (l : Line) → after ≡ text → ((s : said.Said) → P s → Replies text a s text) → Says P l → RepliesBy text a l after
replies_query text after a P (Written v) stays is says = subst (λ (t : List ℕ). RepliesBy text a (Written v) t) (sym stays) (says.0, is says.0 says.1, says.2)
replies_query text after a P Memory stays is says = stays

-- what is said of the present text is said of the one before, which it is
pub says_still : (P : List ℕ → said.Said → Type 0) (before now : List ℕ) (l : Line) → now ≡ before → Says (P now) l → Says (P before) l
says_still P before now l same says = subst (λ (t : List ℕ). Says (P t) l) same says

-- a `tell` that is accepted
pub told_changed : (text bytes v after : List ℕ) (range : Option ((ℕ × ℕ) × (ℕ × ℕ))) (n first : ℕ) (o : edit.Outcome) → o ≡ tell_outcome text range bytes → o ≡ edit.changed first after
    → (o ≡ edit.changed first after → n ≡ length after) → v ≡ said.line_of (said.size n) → (s : said.Said) × Replies text (tell range bytes) s after × (v ≡ said.line_of s)
told_changed text bytes v after range n first o is made size written = (
  said.size (length after),
  subst (λ x. ToldIs text x (said.size (length after)) after) (sym made ∙ is) (refl, refl),
  written ∙ ap (λ k. said.line_of (said.size k)) (size made),
)

refused_told : (text bytes after : List ℕ) (range : Option ((ℕ × ℕ) × (ℕ × ℕ))) (r : edit.Refusal) (l : Line) → edit.refused r ≡ tell_outcome text range bytes → after ≡ text → IsWritten (edit_refusal r) l → RepliesBy text (tell range bytes) l after
refused_told text bytes after range r (Written v) is stays written = (edit_refusal r, subst (λ x. ToldIs text x (edit_refusal r) after) is (refl, stays), written)
refused_told text bytes after range r Memory is stays written = stays

-- a `tell` that is refused
pub told_refused : (text bytes after : List ℕ) (range : Option ((ℕ × ℕ) × (ℕ × ℕ))) (refusal : TextRefusal) (l : Line) (o : edit.Outcome) → o ≡ tell_outcome text range bytes → IsRefusal o refusal → after ≡ text
    → RefusesEditBy (refusal_in refusal) l → RepliesBy text (tell range bytes) l after
told_refused text bytes after range (code.BadPosition end) l o is because stays written = refused_told text bytes after range (edit.bad_position end) l (sym because ∙ is) stays written
told_refused text bytes after range code.BadRange l o is because stays written = refused_told text bytes after range edit.bad_range l (sym because ∙ is) stays written
told_refused text bytes after range (code.SplitsChar end) l o is because stays written = refused_told text bytes after range (edit.splits_char end) l (sym because ∙ is) stays written
told_refused text bytes after range (code.TextTooLong n) l o is because stays written = refused_told text bytes after range (edit.text_too_long n) l (sym because ∙ is) stays written
told_refused text bytes after range code.NoMemory l o is because stays written = subst (λ x. RepliesBy text (tell range bytes) x after) (sym written) stays

-- what is written is said
pub says : (P : said.Said → Type 0) (s : said.Said) (l : Line) → P s → IsWritten s l → Says P l
says P s (Written v) holds written = (s, holds, written)
says P s Memory holds written = tt

-- what is said of one thing is said of another
pub says_so : (P Q : said.Said → Type 0) (l : Line) → ((s : said.Said) → P s → Q s) → Says P l → Says Q l
says_so P Q (Written v) so said = (said.0, so said.0 said.1, said.2)
says_so P Q Memory so said = tt

-- what is said in a reply is said in its line, unless memory was short before
pub says_line : (P : said.Said → Type 0) (r : Result Reply AllocError) (l : Line) → IfOk r (λ x. P (said_of x)) → IfOk r (λ x. IsWritten (said_of x) l) → OnErr r (l ≡ Memory) → Says P l
says_line P (Ok x) l holds written memory = says P (said_of x) l holds written
says_line P (Err e) l holds written memory = subst (Says P) (sym memory) tt
