-- What comes of one message, and of the bytes that are kept.
use Rattle.std.proofs.Common.{◌≡◌, inl, inr, ◌∙◌, ◌+◌, ◌-◌, ◌<◌, ◌≤◌, ℕ, suc, List, [], ◌∷◌, ◌++◌, length, length-append, get_or, map, take, drop, refl, ap, sym, subst, arith, append-nil, append_assoc, take-append-drop, Option, None, Result, Ok, Err}
use Rattle.std.specs.List.{concat}
use Rattle.std.specs.Io.KnownBytes.{Appends}
use Rattle.std.proofs.lemmas.List.{drop-drop, drop_all, drop_more, length-drop, length-take-le, map-append, take-append-le, take_all, take_more}
use Rattle.std.proofs.lemmas.List.Folds.{concat-append}
use Rattle.std.proofs.Math.Seq.{drop-length}
use Rattle.lsp_model.specs.Frames.{frame, bad, more, over, whole}
use Rattle.lsp_model.specs.Messages.{message, notice, exit}
use Rattle.lsp_model.specs.Answers.{Piece}
use Rattle.lsp_documents.specs.States.{State}
use Rattle.lsp_documents.specs.Steps.{PassedBy, StepBy}
use Rattle.lsp_documents.specs.Endings.{is_shut}
use Rattle.lsp_documents.specs.declared.documents.Ending.{Ending}
use Rattle.lsp_documents.specs.declared.documents.Ending.TheVariants.{Shut, NotShut}
use Rattle.lsp_documents.specs.declared.documents.Step.{Step}
use Rattle.lsp_documents.specs.declared.documents.Step.TheVariants.{Puts, Exit}
use Rattle.lsp_loop.specs.Heard.{Heard, body, passed, BeginsWith, HeardPuts, joined}
use Rattle.lsp_loop.specs.Outcomes.{AllTaken, EndsBy, TakenBy}
use Rattle.lsp_loop.specs.Progress.{SoFar}
use Rattle.lsp_loop.specs.Steps.{end_of, HeardBy, PutBy}
use Rattle.lsp_loop.specs.Waiting.{IsIdle, IsUnfinished, Keeps, Waits}
use Rattle.lsp_loop.specs.declared.ends.End.{End}
use Rattle.lsp_loop.specs.declared.ends.End.TheVariants.{WriteFault, BadFrame}
use Rattle.lsp_loop.specs.declared.incoming.Incoming.{Incoming}
use Rattle.lsp_loop.specs.declared.incoming.Taken.TheVariants.{Bytes, Wants}
use Rattle.lsp_loop.proofs.Frames.{begins_whole, frame_stays}
use Rattle.lsp_loop.proofs.Runs.{so_far_message}

-- ---- one message

-- a put was cut short
cut_by : (before held now : Option (List ℕ)) (taken : List ℕ) (state : State) (rest : List ℕ) (h : Heard) (after : List ℕ) (ps : List Piece) (next : State) (end : End) (n : ℕ) → SoFar before held taken state rest
    → BeginsWith rest h after → HeardPuts state h ps next → end ≡ WriteFault → Appends held now (take n (joined ps)) → EndsBy end before now taken
cut_by before held now taken state rest h after ps next end n so_far begins step is puts =
    subst (λ e. EndsBy e before now taken) (sym is) (record {
      state = state;
      rest = rest;
      held = held;
      so_far = so_far;
      heard = h;
      after = after;
      begins = begins;
      pieces = ps;
      next = next;
      step = step;
      count = n;
      put = puts;
    })

-- the message is `exit`
exit_by : (before held now : Option (List ℕ)) (taken : List ℕ) (state : State) (rest last after : List ℕ) (ending : Ending) → SoFar before held taken state rest → BeginsWith rest (body last) after
    → message last ≡ notice exit → is_shut ending ≡ state.shut → now ≡ held → EndsBy (end_of ending) before now taken
exit_by before held now taken state rest last after Shut so_far begins is asked same = record {
  state = state;
  rest = rest;
  so_far = subst (λ (k : Option (List ℕ)). SoFar before k taken state rest) (sym same) so_far;
  last = last;
  after = after;
  begins = begins;
  is = is;
  asked = sym asked;
}
exit_by before held now taken state rest last after NotShut so_far begins is asked same = record {
  state = state;
  rest = rest;
  so_far = subst (λ (k : Option (List ℕ)). SoFar before k taken state rest) (sym same) so_far;
  last = last;
  after = after;
  begins = begins;
  is = is;
  asked = sym asked;
}

-- what came of a body was put
pub body_put : (before held now : Option (List ℕ)) (taken : List ℕ) (state : State) (rest last after : List ℕ) (step : Step) (next : State) (result : Result (Unit {0}) End) → SoFar before held taken state rest
    → BeginsWith rest (body last) after → StepBy state (message last) step next → PutBy step result held now → HeardBy result before now taken next after
body_put before held now taken state rest last after (Puts pieces) next (Ok u) so_far begins by puts =
    so_far_message before held now taken state rest (body last) after by.0 next so_far begins by.1 (subst (λ (l : List (List ℕ)). Appends held now (concat l)) by.2 puts)
body_put before held now taken state rest last after (Puts pieces) next (Err end) so_far begins by puts =
    cut_by before held now taken state rest (body last) after by.0 next end puts.1 so_far begins by.1 puts.0 (subst (λ (l : List (List ℕ)). Appends held now (take puts.1 (concat l))) by.2 puts.2)
body_put before held now taken state rest last after (Exit ending) next (Ok u) so_far begins by puts = absurd puts
body_put before held now taken state rest last after (Exit ending) next (Err end) so_far begins by puts =
    subst (λ e. EndsBy e before now taken) (sym puts.0) (exit_by before held now taken state rest last after ending so_far begins by.0 by.1 puts.1)

-- what came of a body that is passed over was put
pub passed_put : (before held now : Option (List ℕ)) (taken : List ℕ) (state : State) (rest after : List ℕ) (step : Step) (next : State) (result : Result (Unit {0}) End) → SoFar before held taken state rest
    → BeginsWith rest passed after → PassedBy state step next → PutBy step result held now → HeardBy result before now taken next after
passed_put before held now taken state rest after (Puts pieces) next (Ok u) so_far begins by puts =
    so_far_message before held now taken state rest passed after by.0 next so_far begins by.1 (subst (λ (l : List (List ℕ)). Appends held now (concat l)) by.2 puts)
passed_put before held now taken state rest after (Puts pieces) next (Err end) so_far begins by puts =
    cut_by before held now taken state rest passed after by.0 next end puts.1 so_far begins by.1 puts.0 (subst (λ (l : List (List ℕ)). Appends held now (take puts.1 (concat l))) by.2 puts.2)
passed_put before held now taken state rest after (Exit ending) next result so_far begins by puts = absurd by

-- ---- the bytes that are kept

-- where nothing is passed over, the kept bytes are the rest
pub kept_is : (kept rest : List ℕ) (skipped : ℕ) → skipped ≡ 0 → Waits skipped kept rest → kept ≡ rest
kept_is kept rest skipped none (inl w) = w.1
kept_is kept rest skipped none (inr w) = absurd (omega (arith, none, w.3))

-- the head of a message that is too long was taken
pub over_waits : (kept : List ℕ) (head count : ℕ) → head ≤ length kept → 0 < count → frame kept ≡ over head count → Waits count (drop head kept) kept
over_waits kept head count within some is =
    inr (head, count, take head kept, some, is, sym (take-append-drop head kept), omega (arith, length-take-le head kept within))

-- with more bytes after them
pub waits_stays : (skipped : ℕ) (kept rest ys : List ℕ) → Waits skipped kept rest → Waits skipped (kept ++ ys) (rest ++ ys)
waits_stays skipped kept rest ys (inl w) = inl (w.0, ap (λ (l : List ℕ). l ++ ys) w.1)
waits_stays skipped kept rest ys (inr w) = inr (
  w.0,
  w.1,
  w.2,
  w.3,
  frame_stays rest ys (over w.0 w.1) (λ e. cc) (λ e. cc) w.4,
  ap (λ (l : List ℕ). l ++ ys) w.5 ∙ append_assoc w.2 kept ys,
  w.6,
)

-- all kept bytes were passed over
pub skip_waits : (kept rest : List ℕ) (skipped now : ℕ) → 0 < skipped → 0 < now → now + length kept ≡ skipped → Waits skipped kept rest → Waits now (drop (length kept) kept) rest
skip_waits kept rest skipped now some left is (inl w) = absurd (omega (arith, w.0, some))
skip_waits kept rest skipped now some left is (inr w) = inr (
  w.0,
  w.1,
  w.2 ++ kept,
  left,
  w.4,
  w.5 ∙ sym (append-nil (w.2 ++ kept)) ∙ ap (λ (l : List ℕ). w.2 ++ kept ++ l) (sym (drop-length kept)),
  omega (arith, length-append w.2 kept, w.6, is),
)

-- the last of the bytes that are passed over
pub skip_ends : (kept rest : List ℕ) (skipped : ℕ) → 0 < skipped → skipped ≤ length kept → Waits skipped kept rest → BeginsWith rest passed (drop skipped kept)
skip_ends kept rest skipped some within (inl w) = absurd (omega (arith, w.0, some))
skip_ends kept rest skipped some within (inr w) = (
  w.0,
  w.1,
  w.2 ++ take skipped kept,
  w.4,
  omega (arith, length-append w.2 (take skipped kept), length-take-le skipped kept within, w.6),
  w.5 ∙ ap (λ (l : List ℕ). w.2 ++ l) (sym (take-append-drop skipped kept)) ∙ sym (append_assoc w.2 (take skipped kept) (drop skipped kept)),
)

-- at the end of the input nothing is kept
pub nothing_kept : (i : Incoming) (rest : List ℕ) → Keeps i rest → i.skipped ≡ 0 → i.bytes.items ≡ [] → rest ≡ []
nothing_kept i rest keeps none empty = sym (kept_is i.bytes.items rest i.skipped none keeps.waits) ∙ empty

-- or something is
pub something_kept : (i : Incoming) (rest : List ℕ) → Keeps i rest → (i.skipped ≡ 0 → i.bytes.items ≡ [] → ⊥) → IsUnfinished rest
something_kept i rest keeps some = by keeps.waits keeps.idle
  where
    by : Waits i.skipped i.bytes.items rest → IsIdle i.skipped i.bytes.items → IsUnfinished rest
    by (inl w) (inl empty) = absurd (some w.0 empty)
    by (inl w) (inr idle) = inl (subst (λ (l : List ℕ). frame l ≡ more) w.1 idle.1)
    by (inr w) (inl empty) = inr (w.0, w.1, w.4, omega (arith, w.3, w.6, ap length w.5, length-append w.2 i.bytes.items, ap length empty))
    by (inr w) (inr idle) = absurd (omega (arith, w.3, idle.0))

-- ---- one message, in the code

-- the bytes from a place on, as a slice
pub rest_is : (at : ℕ) (bytes : List ℕ) → take (length bytes - at) (drop at bytes) ≡ drop at bytes
rest_is at bytes = take_all (length bytes - at) (drop at bytes) (omega (arith, length-drop at bytes))

-- some of a body that is passed over
pub skipped_some : (before now : Option (List ℕ)) (taken : List ℕ) (state : State) (rest kept : List ℕ) (skipped left count : ℕ) → 0 < skipped → 0 < left → left + count ≡ skipped → count ≡ length kept → SoFar before now taken state rest → Waits skipped kept rest
    → TakenBy (Bytes count) before now taken state left kept
skipped_some before now taken state rest kept skipped left count some some_left is all so_far waits =
    (rest, so_far, subst (λ n. Waits left (drop n kept) rest) (sym all) (skip_waits kept rest skipped left some some_left (omega (arith, is, all)) waits))

-- the last of it
pub skipped_all : (before now : Option (List ℕ)) (taken : List ℕ) (state : State) (kept : List ℕ) (count skipped : ℕ) → skipped ≡ 0 → SoFar before now taken state (drop count kept) → TakenBy (Bytes count) before now taken state skipped kept
skipped_all before now taken state kept count skipped none so_far = (drop count kept, so_far, inl (none, refl))

-- a whole message begins the rest
pub whole_begins : (kept rest : List ℕ) (skipped head count : ℕ) → skipped ≡ 0 → Waits skipped kept rest → head + count ≤ length kept → frame kept ≡ whole head count → BeginsWith rest (body (take count (drop head kept))) (drop (head + count) kept)
whole_begins kept rest skipped head count none waits within is =
    subst (λ (l : List ℕ). BeginsWith l (body (take count (drop head kept))) (drop (head + count) kept)) (kept_is kept rest skipped none waits)
    (subst (BeginsWith kept (body (take count (drop head kept)))) (drop-drop count head kept) (begins_whole kept head count within is))

-- the head of a message that is too long is taken
pub over_taken : (before now : Option (List ℕ)) (taken : List ℕ) (state : State) (rest kept : List ℕ) (skipped head count : ℕ) → skipped ≡ 0 → head ≤ length kept → 0 < count → frame kept ≡ over head count → SoFar before now taken state rest → Waits skipped kept rest
    → TakenBy (Bytes head) before now taken state count kept
over_taken before now taken state rest kept skipped head count none within some is so_far waits =
    (rest, so_far, subst (Waits count (drop head kept)) (kept_is kept rest skipped none waits) (over_waits kept head count within some is))

-- no message is there
pub bad_taken : (before now : Option (List ℕ)) (taken : List ℕ) (state : State) (rest kept : List ℕ) (skipped : ℕ) → skipped ≡ 0 → frame kept ≡ bad → SoFar before now taken state rest → Waits skipped kept rest → EndsBy BadFrame before now taken
bad_taken before now taken state rest kept skipped none is so_far waits = (state, rest, so_far, subst (λ (l : List ℕ). frame l ≡ bad) (kept_is kept rest skipped none waits) is)

-- ---- all messages of a chunk, in the code

-- after one message the next begins
pub next_waits : (before now : Option (List ℕ)) (taken : List ℕ) (state : State) (bytes : List ℕ) (skipped at count : ℕ) → TakenBy (Bytes count) before now taken state skipped (drop at bytes)
    → (rest : List ℕ) × SoFar before now taken state rest × Waits skipped (drop (at + count) bytes) rest
next_waits before now taken state bytes skipped at count is = (is.0, is.1, subst (λ (l : List ℕ). Waits skipped l is.0) (drop-drop count at bytes) is.2)

-- the front of a message is kept
pub front_kept : (before now : Option (List ℕ)) (taken : List ℕ) (state : State) (kept : List ℕ) (skipped : ℕ) (i : Incoming) → TakenBy Wants before now taken state skipped kept → i.skipped ≡ skipped → i.bytes.items ≡ kept → AllTaken None before now taken state i
front_kept before now taken state kept skipped i is same bytes = (
  is.0,
  is.1,
  record {
    waits = subst (λ n. Waits n i.bytes.items is.0) (sym same) (subst (λ (l : List ℕ). Waits skipped l is.0) (sym bytes) is.2);
    idle = inr (same ∙ is.3, ap frame bytes ∙ is.4);
  },
)

-- nothing is kept
pub none_kept : (before now : Option (List ℕ)) (taken : List ℕ) (state : State) (rest bytes : List ℕ) (skipped at : ℕ) (i : Incoming) → SoFar before now taken state rest → Waits skipped (drop at bytes) rest → length bytes ≤ at → i.skipped ≡ skipped → i.bytes.items ≡ []
    → AllTaken None before now taken state i
none_kept before now taken state rest bytes skipped at i so_far waits past same empty = (
  rest,
  so_far,
  record {
    waits = subst (λ n. Waits n i.bytes.items rest) (sym same) (subst (λ (l : List ℕ). Waits skipped l rest) (drop_all at bytes past ∙ sym empty) waits);
    idle = inl empty;
  },
)

-- ---- pieces that are put one after another

-- so many bytes and some after them
take_behind : (m : ℕ) (xs ys : List ℕ) → take (length xs + m) (xs ++ ys) ≡ xs ++ take m ys
take_behind m [] ys = let same : 0 + m ≡ m = omega arith in ap (λ n. take n ys) same
take_behind m (x ∷ xs) ys = let same : length (x ∷ xs) + m ≡ suc (length xs + m) = omega arith in ap (λ n. take n (x ∷ xs ++ ys)) same ∙ ap (λ (l : List ℕ). x ∷ l) (take_behind m xs ys)

-- the bytes of one more piece
pub joined_more : {X : Type 0} (f : X → List ℕ) (xs : List X) (i : ℕ) (x : X) → i < length xs → x ≡ get_or xs i x → concat (map f (take (i + 1) xs)) ≡ concat (map f (take i xs)) ++ f x
joined_more f xs i x within is =
    ap (λ l. concat (map f l)) (take_more xs i x within)
    ∙ ap (λ y. concat (map f (take i xs ++ y ∷ []))) (sym is)
    ∙ ap concat (map-append f (take i xs) (x ∷ []))
    ∙ concat-append (map f (take i xs)) (f x ∷ [])
    ∙ ap (λ (l : List ℕ). concat (map f (take i xs)) ++ l) (append-nil (f x))

-- a front of one more piece is a front of all
pub joined_front : {X : Type 0} (f : X → List ℕ) (xs : List X) (i m : ℕ) (x : X) → i < length xs → x ≡ get_or xs i x → m ≤ length (f x) → concat (map f (take i xs)) ++ take m (f x) ≡ take (length (concat (map f (take i xs))) + m) (concat (map f xs))
joined_front f xs i m x within is fits =
    let front = concat (map f (take i xs)) in
    let back = concat (map f (drop (i + 1) xs)) in
    let all : concat (map f xs) ≡ front ++ (f x ++ back) =
    ap (λ l. concat (map f l)) (sym (take-append-drop i xs))
    ∙ ap concat (map-append f (take i xs) (drop i xs))
    ∙ concat-append (map f (take i xs)) (map f (drop i xs))
    ∙ ap (λ l. front ++ concat (map f l)) (drop_more xs i x within)
    ∙ ap (λ y. front ++ (f y ++ back)) (sym is) in
    sym (ap (take (length front + m)) all ∙ take_behind m front (f x ++ back) ∙ ap (λ (l : List ℕ). front ++ l) (take-append-le m (f x) back fits))
