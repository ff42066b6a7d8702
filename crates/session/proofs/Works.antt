-- How many tokens a session's answers lex and parse and items they type, and what is owed behind them.
use Rattle.std.proofs.Common.{◌≡◌, ◌⊎◌, inl, inr, ℕ, ◌+◌, ◌-◌, ◌*◌, ◌≤◌, min, nat_lt, List, [], ◌∷◌, ◌++◌, length, take, refl, sym, ◌∙◌, ap, subst, arith, Bool, true, false, Result, Ok, Err, OnOk}
use Rattle.std.specs.Prelude.{Option, Some, None, OnErr, if◌then◌else◌}
use Rattle.std.proofs.lemmas.List.Elements.{All-nil}
use Rattle.text_model.specs.Edits as edit
use Rattle.text_model.specs.Positions.{offset}
use Rattle.text_store.specs.Edits.{IsRefusal}
use Rattle.text_store.specs.declared.edits.TextRefusal.{TextRefusal}
use Rattle.text_store.specs.declared.edits.TextRefusal.TheVariants as code
use Rattle.token_model.specs.Kinds.{Tok}
use Rattle.token_model.specs.Tokens.{Lex}
use Rattle.grammar_model.specs.Tables.{Table}
use Rattle.grammar_model.specs.Ocaml.{grammar, program_text}
use Rattle.recovery_model.specs.Items.{Mark, sound, held, marked, Item, Parser}
use Rattle.recovery_model.specs.Recovery.{start, step}
use Rattle.frame_parser.specs.Run as frames
use Rattle.resume_parser.specs.Retaken as retaken
use Rattle.service_model.specs.Requests.{Asked, Reading, Refusal, asks, case_analysis, complete_prefix, construct, errors, locate, occurrences, outline, reading, refused, tell, type_enclosing}
use Rattle.service_model.specs.Replies as said
use Rattle.service_model.specs.Answers.{Answered, Replies, tell_outcome}
use Rattle.work_model.specs.Work as work
use Rattle.work_model.specs.Work.{edited, ends_at, is_query, kept_behind, kept_in, kept_of, lexed_behind, more, read_again, run_on, shifted_behind, since_after, sooner, Amount, IsAnew, IsBehind, IsNothing, IsTried, LineWorks, MayTry, Owed, ReadsAll, WorksAt, WorksIf}
use Rattle.ml_lexer.specs.Steady.{ends_at as lexer_ends}
use Rattle.syntax_tree.specs.Tallies.{Tallies}
use Rattle.kept_text.specs.Keeping.{tok_end}
use Rattle.kept_text.specs.Keeping as kept
use Rattle.kept_text.proofs.Keeps.{fewer_end}
use Rattle.text_reading.specs.Trials.{Tried, TriesAll}
use Rattle.text_reading.specs.Types.{opening}
use Rattle.text_reading.proofs.Trying.{all_end}
use Rattle.json_lines.specs.Meets.{IsToldOf}
use Rattle.session.specs.Lines.{line_bytes, refusal_in, RefusesBy, RefusesEditBy, RepliesBy, Says}
use Rattle.session.specs.Working.{alike, in_vain, is_memory, Carries, Held, Owes, QuerySpends, QueryWorks, Reads, RequestWorks, Rests, Settles, Takes, TriesNone, TriesTexts, TypesSome}
use Rattle.session.specs.declared.session.Line.{Line}
use Rattle.session.specs.declared.session.Line.TheVariants.{Written, Memory}
use Rattle.session.proofs.Answering.{replies_query}
use Rattle.session.proofs.Carrying.{rest_carry, spends_carry, types_carry}

-- ---- numbers

-- how many tokens end at a place or behind, in both words
same_ends : (place : ℕ) (ts : List Tok) → lexer_ends tok_end place ts ≡ ends_at place ts
same_ends place [] = refl
same_ends place (t ∷ ts) = ap (λ n. (if nat_lt t.end place then 0 else 1) + n) (same_ends place ts)

same_run : (G : Table) (ts : List Tok) (p : Parser) → frames.run_on G ts p ≡ run_on G ts p
same_run G [] p = refl
same_run G (t ∷ ts) p = same_run G ts (step G p t).parser

same_mark : (m : Mark) → frames.kept_of m ≡ kept_of m
same_mark sound = refl
same_mark (held s ts) = refl
same_mark marked = refl

same_item : (o : Option Item) → frames.kept_in o ≡ kept_in o
same_item None = refl
same_item (Some i) = same_mark i.mark

-- how many the parser keeps
same_kept : (ts : List Tok) → retaken.kept_behind program_text ts ≡ kept_behind ts
unfolding frames.run kept_behind
same_kept ts =
    let G = grammar program_text in
    same_item (frames.run_on G ts (start G)).item ∙ ap (λ (p : Parser). kept_in p.item) (same_run G ts (start G))

-- and how many it takes at most
same_shifted : (place : ℕ) (ts : List Tok) → kept.shifted_behind place ts ≡ shifted_behind place ts
same_shifted place ts =
    ap (λ n. retaken.kept_behind program_text (take (length ts - (32 + n)) ts) + 2 * (32 + n)) (same_ends place ts) ∙ ap (λ n. n + 2 * lexed_behind place ts) (same_kept (take (length ts - lexed_behind place ts) ts))

-- ---- reading

-- what is read behind the noted change is what is owed
read_anew : (text : List ℕ) (since noted : Option ℕ) (n : Amount) → ((k : ℕ) → noted ≡ Some k → (m : ℕ) × (since ≡ Some m) × (m ≤ k)) → (noted ≡ None → IsNothing n)
    → ((k : ℕ) (ts : List Tok) → noted ≡ Some k → Lex text ts → n.lexed ≤ 32 + lexer_ends tok_end k ts) → ((k place : ℕ) (ts : List Tok) → noted ≡ Some k → place ≤ k → Lex text ts → n.shifted ≤ kept.shifted_behind place ts) → IsAnew text since n
read_anew text None None n later idle lexed shifted = idle refl
read_anew text (Some m) None n later idle lexed shifted = λ ts lex. let (none, unshifted) = idle refl in (omega (arith, none), omega (arith, unshifted))
read_anew text since (Some k) n later idle lexed shifted =
    let (m, is, le) = later k refl in
    subst (λ (o : Option ℕ). IsAnew text o n) (sym is) (λ ts lex. (omega (arith, lexed k ts refl lex, fewer_end m k ts le, same_ends m ts), omega (arith, shifted k m ts refl le lex, same_shifted m ts)))

-- tokens that are brought up to the text
pub reads_again : (opens : List ℕ) (old new : Held) (before after : Tallies) → new.begun ≡ old.begun → (old.changed ≡ None → after ≡ before)
    → ((from : ℕ) (ts : List Tok) → old.changed ≡ Some from → Lex old.text ts → after.lexed ≤ before.lexed + (32 + lexer_ends tok_end from ts))
    → ((from place : ℕ) (ts : List Tok) → old.changed ≡ Some from → place ≤ from → Lex old.text ts → after.shifted ≤ before.shifted + kept.shifted_behind place ts) → Reads opens false old new before after
reads_again opens old new before after begun idle lexed shifted = λ w ps owes lex.
    let n : Amount = record { lexed = after.lexed - before.lexed; shifted = after.shifted - before.shifted } in
    let none : old.changed ≡ None → IsNothing n = λ is. (omega (arith, ap (λ (t : Tallies). t.lexed) (idle is)), omega (arith, ap (λ (t : Tallies). t.shifted) (idle is))) in
    let own : (ts : List Tok) → Lex w.text ts → Lex old.text ts = λ ts here. subst (λ (l : List ℕ). Lex l ts) owes.text here in
    let first : (k : ℕ) (ts : List Tok) → old.changed ≡ Some k → Lex w.text ts → n.lexed ≤ 32 + lexer_ends tok_end k ts = λ k ts is here. omega (arith, lexed k ts is (own ts here)) in
    let second : (k place : ℕ) (ts : List Tok) → old.changed ≡ Some k → place ≤ k → Lex w.text ts → n.shifted ≤ kept.shifted_behind place ts = λ k place ts is le here. omega (arith, shifted k place ts is le (own ts here)) in
    let opened = ap (opening (length ps)) begun in
    (n, read_anew w.text w.since old.changed n owes.noted none first second, (omega (arith, opened), omega (arith, opened)))

-- and then the typer
pub reads_typed : (opens : List ℕ) (failed : Bool) (old mid new : Held) (a b c : Tallies) → Reads opens false old mid a b
    → ((ps : List Tok) → Lex opens ps → Takes (length ps) (alike (in_vain failed (length ps))) mid new b c) → Reads opens failed old new a c
reads_typed opens failed old mid new a b c read typed = λ w ps owes lex.
    let (n, anew, takes) = read w ps owes lex in
    let typing = typed ps lex in
    (n, anew, (omega (arith, takes.0, typing.0), omega (arith, takes.1, typing.1)))

-- and then nothing
pub reads_idle : (opens : List ℕ) (failed : Bool) (old mid new : Held) (a b c : Tallies) → Reads opens failed old mid a b → new.begun ≡ mid.begun → c ≡ b → Reads opens failed old new a c
reads_idle opens failed old mid new a b c read begun same = λ w ps owes lex.
    let (n, anew, takes) = read w ps owes lex in
    let opened = ap (opening (length ps)) begun in
    (n, anew, (omega (arith, takes.0, ap (λ (t : Tallies). t.lexed) same, opened), omega (arith, takes.1, ap (λ (t : Tallies). t.shifted) same, opened)))

-- what reads no more may fail
pub reads_more : (opens : List ℕ) (failed : Bool) (old new : Held) (a b : Tallies) → Reads opens false old new a b → Reads opens failed old new a b
reads_more opens failed old new a b read = λ w ps owes lex.
    let (n, anew, takes) = read w ps owes lex in
    (n, anew, (omega (arith, takes.0), omega (arith, takes.1)))

-- no more of the prelude's tokens are to be read than there are
opening_most : (p : ℕ) (begun : Bool) → opening p begun ≤ p
opening_most p true = omega arith
opening_most p false = omega arith

-- what holds on success, both of it
pub both_ok : {T E : Type 0} (P Q : Type 0) (r : Result T E) → OnOk r P → OnOk r Q → OnOk r (P × Q)
both_ok P Q (Ok x) p q = (p, q)
both_ok P Q (Err e) p q = tt

-- the typer read the prelude, where it began
pub opened : {T E : Type 0} (r : Result T E) (p : ℕ) (old new : Bool) (a b : ℕ) → b ≤ a + opening p old → OnOk r (new ≡ true) → OnOk r (b + opening p new ≤ a + opening p old + 0)
opened (Ok x) p old new a b most begun = omega (arith, most, ap (opening p) begun)
opened (Err e) p old new a b most begun = tt

-- or failed to
pub opened_in_vain : (p : ℕ) (old new : Bool) (a b : ℕ) → b ≤ a + opening p old → (old ≡ true → new ≡ true) → b + opening p new ≤ a + opening p old + p
opened_in_vain p true new a b most stays = omega (arith, most, ap (opening p) (stays refl))
opened_in_vain p false new a b most stays = omega (arith, most, opening_most p new)

-- what was read and typed without want of memory
pub reads_typed_ok : {T E : Type 0} (r : Result T E) (opens : List ℕ) (old mid new : Held) (a b c : Tallies) → Reads opens false old mid a b
    → ((ps : List Tok) → Lex opens ps → OnOk r (Takes (length ps) (alike 0) mid new b c)) → OnOk r (Reads opens false old new a c)
reads_typed_ok (Ok x) opens old mid new a b c read typed = reads_typed opens false old mid new a b c read typed
reads_typed_ok (Err e) opens old mid new a b c read typed = tt

-- what holds anyway holds of a result
pub on_ok : {T E P : Type 0} (r : Result T E) → P → OnOk r P
on_ok (Ok x) p = p
on_ok (Err e) p = tt

-- ---- texts that are tried

-- no text was
pub texts_none : (opens : List ℕ) (old new : Held) (a b : Tallies) → new ≡ old → b ≡ a → TriesTexts opens [] old new a b
texts_none opens old new a b same idle =
    let here : Tried = record { text = old.text; begun = old.begun; ready = old.known; holds = old.holds } in
    record { first = here; last = here; tries = (refl, idle); begun = refl; holds = refl; still_begun = ap (λ (h : Held). h.begun) same; now_holds = ap (λ (h : Held). h.holds) same; ready = inl refl }

-- a query before which no text was
query_none : (opens : List ℕ) (failed : Bool) (old new : Held) (a b : Tallies) → Reads opens failed old new a b → TypesSome old new a b → QuerySpends opens failed [] old new a b
query_none opens failed old new a b reads types = record { mid = new; between = b; reads = reads; types = types; tries = texts_none opens new new b b refl refl }

-- one that failed before any was tried
pub query_short : (opens : List ℕ) (old new : Held) (a b : Tallies) → Reads opens true old new a b → TypesSome old new a b → QuerySpends opens true [] old new a b
query_short opens old new a b reads types = query_none opens true old new a b reads types

-- one that didn't fail before, and may have then
pub query_tries : (opens : List ℕ) (failed : Bool) (texts : List (List ℕ)) (old mid new : Held) (a b c : Tallies) → Reads opens false old mid a b → TypesSome old mid a b → TriesTexts opens texts mid new b c → QuerySpends opens failed texts old new a c
query_tries opens failed texts old mid new a b c reads types tries = record { mid = mid; between = b; reads = reads_more opens failed old mid a b reads; types = types; tries = tries }

-- what is read of texts that are tried, where a typer has begun
begun_read : (opens : List ℕ) (ps : List Tok) (texts : List (List ℕ)) (s t : Tried) (a b : Tallies) → Lex opens ps → TriesAll opens texts s t a b → s.begun ≡ true
    → (t.begun ≡ true) × (n : Amount) × ReadsAll texts n × (b.lexed ≤ a.lexed + n.lexed) × (b.shifted ≤ a.shifted + n.shifted)
begun_read opens ps [] s t a b lex (same, idle) begun =
    (ap (λ (u : Tried). u.begun) same ∙ begun, alike 0, (refl, refl), omega (arith, ap (λ (c : Tallies). c.lexed) idle), omega (arith, ap (λ (c : Tallies). c.shifted) idle))
begun_read opens ps (text ∷ texts) s t a b lex (mid, between, before, one) begun =
    let (there, earlier, reads, lexed, shifted) = begun_read opens ps texts s mid a between lex before begun in
    let here : Amount = record { lexed = b.lexed - between.lexed; shifted = b.shifted - between.shifted } in
    let behind : IsBehind text 0 here = λ ts own.
    let (few, twice) = one.reads there ps lex ts own in
    let all = all_end ts in
    let same = same_ends 0 ts in
    (omega (arith, few, all, same), omega (arith, twice, all, same)) in
    (one.begun there, record { lexed = here.lexed + earlier.lexed; shifted = here.shifted + earlier.shifted }, (here, earlier, behind, reads, (refl, refl)), omega (arith, lexed), omega (arith, shifted))

-- or where there are none
texts_read : (opens : List ℕ) (ps : List Tok) (texts : List (List ℕ)) (s t : Tried) (a b : Tallies) → Lex opens ps → TriesAll opens texts s t a b → (texts ≡ []) ⊎ (s.begun ≡ true)
    → (n : Amount) × ReadsAll texts n × (b.lexed + opening (length ps) t.begun ≤ a.lexed + opening (length ps) s.begun + n.lexed) × (b.shifted + opening (length ps) t.begun ≤ a.shifted + opening (length ps) s.begun + n.shifted)
texts_read opens ps [] s t a b lex (same, idle) ready =
    let still = ap (λ (u : Tried). opening (length ps) u.begun) same in
    (alike 0, (refl, refl), omega (arith, ap (λ (c : Tallies). c.lexed) idle, still), omega (arith, ap (λ (c : Tallies). c.shifted) idle, still))
texts_read opens ps (text ∷ texts) s t a b lex tries (inl none) = let bad : text ∷ texts ≡ [] = none in cc
texts_read opens ps (text ∷ texts) s t a b lex tries (inr begun) =
    let (there, n, reads, lexed, shifted) = begun_read opens ps (text ∷ texts) s t a b lex tries begun in
    let still = ap (opening (length ps)) there in
    (n, reads, omega (arith, lexed, still), omega (arith, shifted, still))

-- ---- lines

-- a query that tries no text, and is answered with a line, or memory is short for it
pub line_works : {T E : Type 0} (r : Result T E) (opens : List ℕ) (l : Line) (old new : Held) (a b : Tallies) → OnErr r (l ≡ Memory) → OnOk r (new.changed ≡ None) → Settles old new
    → OnOk r (Reads opens false old new a b) → Reads opens true old new a b → TypesSome old new a b → QueryWorks opens true TriesNone l old new a b
line_works (Ok x) opens l old new a b memory current settles reads fails types = (λ not. current, settles, [], refl, query_none opens (is_memory l) old new a b (reads_more opens (is_memory l) old new a b reads) types)
line_works (Err e) opens l old new a b memory current settles reads fails types = (
  λ not. let bad : true ≡ false = sym (ap is_memory memory) ∙ not in cc,
  settles,
  [],
  refl,
  query_none opens (is_memory l) old new a b (subst (λ (k : Line). Reads opens (is_memory k) old new a b) (sym memory) fails) types,
)

-- one that may try texts
pub ask_works : {T E : Type 0} (r : Result T E) (opens : List ℕ) (May : List (List ℕ) → Type 0) (l : Line) (old new : Held) (a b : Tallies) → OnErr r (l ≡ Memory) → OnOk r (new.changed ≡ None) → Settles old new
    → OnOk r ((texts : List (List ℕ)) × May texts × QuerySpends opens false texts old new a b) → (texts : List (List ℕ)) × May texts × QuerySpends opens true texts old new a b → QueryWorks opens true May l old new a b
ask_works (Ok x) opens May l old new a b memory current settles (texts, may, spends) fails =
    (λ not. current, settles, texts, may, query_tries opens (is_memory l) texts old spends.mid new a spends.between b spends.reads spends.types spends.tries)
ask_works (Err e) opens May l old new a b memory current settles spends (texts, may, short) = (
  λ not. let bad : true ≡ false = sym (ap is_memory memory) ∙ not in cc,
  settles,
  texts,
  may,
  subst (λ (k : Line). QuerySpends opens (is_memory k) texts old new a b) (sym memory) short,
)

-- ---- requests

-- what is owed behind a query that was answered
none_owed : (w : Owed) (asked : List (List ℕ)) (s : Held) → s.changed ≡ None → w.text ≡ s.text → Owes (record { text = w.text; since = None; asked = asked }) s
none_owed w asked s none text = record { text = text; noted = λ n is. let bad : None ≡ Some n = sym none ∙ is in cc }

-- what is owed is owed still
still_owed : (w : Owed) (old new : Held) → Owes w old → new.text ≡ old.text → Settles old new → Owes w new
still_owed w old new owes text (inl none) = record { text = owes.text ∙ sym text; noted = λ n is. let bad : None ≡ Some n = sym none ∙ is in cc }
still_owed w old new owes text (inr same) = record { text = owes.text ∙ sym text; noted = λ n is. owes.noted n (sym same ∙ is) }

-- the same with other texts
short_owed : (w : Owed) (asked : List (List ℕ)) (s : Held) → Owes w s → Owes (record { text = w.text; since = w.since; asked = asked }) s
short_owed w asked s owes = record { text = owes.text; noted = owes.noted }

-- what was answered is answered at the text that is owed
answered_at : (old new : Held) (w : Owed) (a : Asked) (bytes : List ℕ) → w.text ≡ old.text → new.text ≡ old.text → (s : said.Said) × Replies old.text a s new.text × (bytes ≡ said.line_of s) → Answered w.text (asks a) bytes w.text
answered_at old new w a bytes text stays (s, replies, is) =
    (s, subst (λ (t : List ℕ). Replies t a s w.text) (sym text) (subst (λ (t : List ℕ). Replies old.text a s t) (stays ∙ sym text) replies), is)

-- nothing is taken where nothing is done
rests_take : (p : ℕ) (old new : Held) (b c : Tallies) → Rests old new b c → Takes p (alike 0) old new b c
rests_take p old new b c rests =
    let opened = ap (opening p) rests.begun in
    (omega (arith, ap (λ (t : Tallies). t.lexed) rests.counted, opened), omega (arith, ap (λ (t : Tallies). t.shifted) rests.counted, opened))

-- a query that has no place in the text
pub away_works : (opens : List ℕ) (a : Asked) (l : Line) (old new : Held) (b c : Tallies) → is_query old.text a ≡ false → ((w : Owed) → since_after w a ≡ (if is_query w.text a then None else w.since))
    → RepliesBy old.text a l new.text → new.text ≡ old.text → Rests old new b c → RequestWorks opens a l old new b c
away_works opens a (Written v) old new b c away leaves replies stays rests = λ w ps owes lex.
    let here : is_query w.text a ≡ false = ap (λ (t : List ℕ). is_query t a) owes.text ∙ away in (
      w,
      alike 0,
      inl (answered_at old new w a v.items owes.text stays replies, sym (leaves w ∙ ap (λ (q : Bool). if q then None else w.since) here), subst (λ (q : Bool). WorksIf q w a w.asked (alike 0)) (sym here) (refl, (refl, refl))),
      still_owed w old new owes stays (inr rests.changed),
      rests_take (length ps) old new b c rests,
      rest_carry w old new b c rests.holds (ap (λ (t : Tallies). t.typed) rests.counted),
    )
away_works opens a Memory old new b c away leaves replies stays rests = λ w ps owes lex.
    let here : is_query w.text a ≡ false = ap (λ (t : List ℕ). is_query t a) owes.text ∙ away in (
      w,
      alike 0,
      inr (refl, refl, refl, (alike 0, subst (λ (q : Bool). WorksIf q w a w.asked (alike 0)) (sym here) (refl, (refl, refl)), ap (λ (q : Bool). more (alike 0) (if q then length ps else 0)) (sym here))),
      still_owed w old new owes stays (inr rests.changed),
      rests_take (length ps) old new b c rests,
      rest_carry w old new b c rests.holds (ap (λ (t : Tallies). t.typed) rests.counted),
    )

-- how many tokens a query reads that has a place
query_reads : (opens : List ℕ) (failed : Bool) (texts : List (List ℕ)) (old new : Held) (b c : Tallies) (w : Owed) (ps : List Tok) → Owes w old → Lex opens ps → QuerySpends opens failed texts old new b c
    → (n : Amount) × work.Reads w texts n × Takes (length ps) (more n (in_vain failed (length ps))) old new b c
query_reads opens failed texts old new b c w ps owes lex spends =
    let tries = spends.tries in
    let (own, anew, takes) = spends.reads w ps owes lex in
    let ready : (texts ≡ []) ⊎ (tries.first.begun ≡ true) = still tries.ready in
    let (others, all, more_lexed, more_shifted) = texts_read opens ps texts tries.first tries.last spends.between c lex tries.tries ready in
    let first = ap (opening (length ps)) tries.begun in
    let last = ap (opening (length ps)) tries.still_begun in
    (record { lexed = own.lexed + others.lexed; shifted = own.shifted + others.shifted }, (own, others, anew, all, (refl, refl)), (omega (arith, takes.0, more_lexed, first, last), omega (arith, takes.1, more_shifted, first, last)))
  where
    still : (texts ≡ []) ⊎ (spends.mid.begun ≡ true) → (texts ≡ []) ⊎ (spends.tries.first.begun ≡ true)
    still (inl none) = inl none
    still (inr begun) = inr (spends.tries.begun ∙ begun)

-- a query that has a place
pub here_works : (opens : List ℕ) (a : Asked) (l : Line) (old new : Held) (b c : Tallies) → is_query old.text a ≡ true → ((w : Owed) → since_after w a ≡ (if is_query w.text a then None else w.since))
    → RepliesBy old.text a l new.text → new.text ≡ old.text → QueryWorks opens true (MayTry old.text a) l old new b c → RequestWorks opens a l old new b c
here_works opens a (Written v) old new b c there leaves replies stays (current, settles, texts, may, spends) = λ w ps owes lex.
    let here : is_query w.text a ≡ true = ap (λ (t : List ℕ). is_query t a) owes.text ∙ there in
    let (n, reads, takes) = query_reads opens false texts old new b c w ps owes lex spends in
    let tried : MayTry w.text a texts = subst (λ (t : List ℕ). MayTry t a texts) (sym owes.text) may in
    let asked = texts ++ w.text ∷ w.asked in (
      record { text = w.text; since = None; asked = asked },
      n,
      inl (answered_at old new w a v.items owes.text stays replies, sym (leaves w ∙ ap (λ (q : Bool). if q then None else w.since) here), subst (λ (q : Bool). WorksIf q w a asked n) (sym here) (texts, tried, refl, reads)),
      none_owed w asked new (current refl) (owes.text ∙ sym stays),
      (omega (arith, takes.0), omega (arith, takes.1)),
      spends_carry opens false texts w None old new b c owes.text spends,
    )
here_works opens a Memory old new b c there leaves replies stays (current, settles, texts, may, spends) = λ w ps owes lex.
    let here : is_query w.text a ≡ true = ap (λ (t : List ℕ). is_query t a) owes.text ∙ there in
    let (n, reads, most) = query_reads opens true texts old new b c w ps owes lex spends in
    let tried : MayTry w.text a texts = subst (λ (t : List ℕ). MayTry t a texts) (sym owes.text) may in
    let asked = texts ++ w.text ∷ w.asked in (
      record { text = w.text; since = w.since; asked = asked },
      more n (length ps),
      inr (refl, refl, refl, (n, subst (λ (q : Bool). WorksIf q w a asked n) (sym here) (texts, tried, refl, reads), ap (λ (q : Bool). more n (if q then length ps else 0)) (sym here))),
      short_owed w asked new (still_owed w old new owes stays settles),
      most,
      spends_carry opens true texts w w.since old new b c owes.text spends,
    )

-- a query by whether it has a place
pub query_works : (opens : List ℕ) (a : Asked) (there : Bool) (l : Line) (old new : Held) (b c : Tallies) → is_query old.text a ≡ there → ((w : Owed) → since_after w a ≡ (if is_query w.text a then None else w.since))
    → RepliesBy old.text a l new.text → new.text ≡ old.text → QueryWorks opens there (MayTry old.text a) l old new b c → RequestWorks opens a l old new b c
query_works opens a false l old new b c is leaves replies stays rests = away_works opens a l old new b c is leaves replies stays rests
query_works opens a true l old new b c is leaves replies stays works = here_works opens a l old new b c is leaves replies stays works

-- a request that asks such a query
pub request_works : (opens : List ℕ) (a : Asked) (P : said.Said → Type 0) (there : Bool) (l : Line) (old new : Held) (b c : Tallies) → is_query old.text a ≡ there
    → ((w : Owed) → since_after w a ≡ (if is_query w.text a then None else w.since)) → ((s : said.Said) → P s → Replies old.text a s old.text) → Says P l → new.text ≡ old.text → QueryWorks opens there (MayTry old.text a) l old new b c
    → RequestWorks opens a l old new b c
request_works opens a P there l old new b c is leaves replies says stays works = query_works opens a there l old new b c is leaves (replies_query old.text new.text a P l stays replies says) stays works

-- ---- edits

-- the first changed byte that is noted is none before the one that is owed
sooner_noted : (first : ℕ) (since noted : Option ℕ) → ((n : ℕ) → noted ≡ Some n → (m : ℕ) × (since ≡ Some m) × (m ≤ n)) → sooner first since ≤ kept.sooner first noted
sooner_noted first None None later = omega arith
sooner_noted first (Some m) None later = omega arith
sooner_noted first None (Some n) later = let (m, is, le) = later n refl in let bad : None ≡ Some m = is in cc
sooner_noted first (Some k) (Some n) later = let (m, is, le) = later n refl in let same : k ≡ m = cc in go (nat_lt first n) same le
  where
    go : (c : Bool) {m : ℕ} → k ≡ m → m ≤ n → min first k ≤ (if c then first else n)
    go true same le = omega arith
    go false same le = omega (arith, same, le)

same_some : (m n : ℕ) → Some m ≡ Some n → m ≡ n
same_some m n is = cc

-- a `tell` that is accepted
pub told_works : (old new : Held) (range : Option ((ℕ × ℕ) × (ℕ × ℕ))) (bytes : List ℕ) (first : ℕ) (l : Line) (w : Owed) (p : ℕ) → Owes w old → tell_outcome old.text range bytes ≡ edit.changed first new.text
    → new.changed ≡ Some (kept.sooner first old.changed) → new.holds ≡ old.holds → is_memory l ≡ false → RepliesBy old.text (tell range bytes) l new.text
    → (v : Owed) × WorksAt p w (asks (tell range bytes)) (line_bytes l) v (alike 0) × Owes v new × ((c : Tallies) → Carries w v old new c c)
told_works old new range bytes first (Written v) w p owes outcome noted holds written (s, replies, is) =
    let there : tell_outcome w.text range bytes ≡ edit.changed first new.text = ap (λ (t : List ℕ). tell_outcome t range bytes) owes.text ∙ outcome in
    let since = Some (sooner first w.since) in (
      record { text = new.text; since = since; asked = w.asked },
      inl ((s, subst (λ (t : List ℕ). Replies t (tell range bytes) s new.text) (sym owes.text) replies, is), sym (ap (λ (o : edit.Outcome). edited o w.since) there), (refl, (refl, refl))),
      record { text = refl; noted = λ n is. (sooner first w.since, refl, omega (arith, sooner_noted first w.since old.changed owes.noted, same_some (kept.sooner first old.changed) n (sym noted ∙ is))) },
      λ c. rest_carry w old new c c holds refl,
    )
told_works old new range bytes first Memory w p owes outcome noted holds written replies = let bad : true ≡ false = written in cc

-- one that is refused, or for which memory is short
pub untold_works : (old new : Held) (range : Option ((ℕ × ℕ) × (ℕ × ℕ))) (bytes : List ℕ) (l : Line) (w : Owed) (p : ℕ) → Owes w old → new ≡ old
    → (is_memory l ≡ false → (r : edit.Refusal) × (tell_outcome old.text range bytes ≡ edit.refused r)) → RepliesBy old.text (tell range bytes) l new.text
    → (v : Owed) × WorksAt p w (asks (tell range bytes)) (line_bytes l) v (alike 0) × Owes v new × ((c : Tallies) → Carries w v old new c c)
untold_works old new range bytes (Written v) w p owes same outcome replies =
    let (r, is) = outcome refl in
    let here : tell_outcome w.text range bytes ≡ edit.refused r = ap (λ (t : List ℕ). tell_outcome t range bytes) owes.text ∙ is in (
      w,
      inl (answered_at old new w (tell range bytes) v.items owes.text (ap (λ (h : Held). h.text) same) replies, sym (ap (λ (o : edit.Outcome). edited o w.since) here), (refl, (refl, refl))),
      subst (Owes w) (sym same) owes,
      λ c. rest_carry w old new c c (ap (λ (h : Held). h.holds) same) refl,
    )
untold_works old new range bytes Memory w p owes same outcome replies = (w, inr (refl, refl, refl, (alike 0, (refl, (refl, refl)), refl)), subst (Owes w) (sym same) owes, λ c. rest_carry w old new c c (ap (λ (h : Held). h.holds) same) refl)

-- why an edit is refused, where memory isn't short
pub refused_outcome : (o : edit.Outcome) (refusal : TextRefusal) (l : Line) → IsRefusal o refusal → RefusesEditBy (refusal_in refusal) l → is_memory l ≡ false → (r : edit.Refusal) × (o ≡ edit.refused r)
refused_outcome o (code.BadPosition end) l because written not = (edit.bad_position end, because)
refused_outcome o code.BadRange l because written not = (edit.bad_range, because)
refused_outcome o (code.SplitsChar end) l because written not = (edit.splits_char end, because)
refused_outcome o (code.TextTooLong n) l because written not = (edit.text_too_long n, because)
refused_outcome o code.NoMemory l because written not = let bad : true ≡ false = sym (ap is_memory written) ∙ not in cc

-- ---- lines of all kinds

-- nothing may be read for any request
anew_none : (text : List ℕ) (since : Option ℕ) → IsAnew text since (alike 0)
anew_none text None = (refl, refl)
anew_none text (Some place) = λ ts lex. (omega arith, omega arith)

-- nor tried
try_none : (text : List ℕ) (a : Asked) → MayTry text a []
try_none text (tell range bytes) = refl
try_none text (type_enclosing at) = refl
try_none text (complete_prefix at prefix) = refl
try_none text (locate at) = refl
try_none text (occurrences at) = refl
try_none text outline = refl
try_none text errors = refl
try_none text (case_analysis at) = (All-nil (IsTried text (offset text at.0 at.1)), omega arith)
try_none text (construct at) = All-nil (IsTried text (offset text at.0 at.1))

-- the texts at the queries after a line that tries none
abbrev asked_none : Owed → Reading → List (List ℕ)
asked_none w (asks a) = if is_query w.text a then w.text ∷ w.asked else w.asked
asked_none w (refused r) = w.asked

works_none_by : (query : Bool) (w : Owed) (a : Asked) → WorksIf query w a (if query then w.text ∷ w.asked else w.asked) (alike 0)
works_none_by false w a = (refl, (refl, refl))
works_none_by true w a = ([], try_none w.text a, refl, (alike 0, alike 0, anew_none w.text w.since, (refl, refl), (refl, refl)))

works_none : (r : Reading) (w : Owed) → LineWorks w r (asked_none w r) (alike 0)
works_none (asks a) w = works_none_by (is_query w.text a) w a
works_none (refused r) w = (refl, (refl, refl))

-- nothing may be typed for any
idle_by : (query : Bool) (w : Owed) (s : Held) (c : Tallies) → w.text ≡ s.text → Carries w (record { text = w.text; since = w.since; asked = if query then w.text ∷ w.asked else w.asked }) s s c c
idle_by true w s c text = types_carry w w.since s s c c text (inl (refl, refl))
idle_by false w s c text = λ start within. within

idle_carry : (r : Reading) (w : Owed) (s : Held) (c : Tallies) → w.text ≡ s.text → Carries w (record { text = w.text; since = w.since; asked = asked_none w r }) s s c c
idle_carry (asks a) w s c text = idle_by (is_query w.text a) w s c text
idle_carry (refused r) w s c text = λ start within. within

-- one for which memory is short
pub memory_works : (r : Reading) (l : Line) (s : Held) (w : Owed) (p : ℕ) (c : Tallies) → Owes w s → l ≡ Memory → (v : Owed) × (n : Amount) × WorksAt p w r (line_bytes l) v n × Owes v s × Takes p n s s c c × Carries w v s s c c
memory_works r l s w p c owes is = (
  record { text = w.text; since = w.since; asked = asked_none w r },
  more (alike 0) (read_again p w.text r),
  inr (ap line_bytes is, refl, refl, (alike 0, works_none r w, refl)),
  short_owed w (asked_none w r) s owes,
  (omega arith, omega arith),
  idle_carry r w s c owes.text,
)

-- a line that is no request, or one for which memory is short
pub malformed_works : (line : List ℕ) (r : Option Refusal) (l : Line) (s : Held) (w : Owed) (p : ℕ) (c : Tallies) → Owes w s → IsToldOf r (reading line) → RefusesBy r l
    → (v : Owed) × (n : Amount) × WorksAt p w (reading line) (line_bytes l) v n × Owes v s × Takes p n s s c c × Carries w v s s c c
malformed_works line (Some r) (Written v) s w p c owes is written = (w, alike 0, subst (λ x. WorksAt p w x v.items w (alike 0)) (sym is) (inl ((written, refl), refl, (refl, (refl, refl)))), owes, (omega arith, omega arith), rest_carry w s s c c refl refl)
malformed_works line (Some r) Memory s w p c owes is written = memory_works (reading line) Memory s w p c owes refl
malformed_works line None l s w p c owes is written = memory_works (reading line) l s w p c owes written
