-- What comes of messages, in the code.
use Rattle.std.proofs.Common.{◌≡◌, ◌∙◌, inl, inr, ℕ, ℤ, List, [], ◌∷◌, refl, ap, sym, subst, length, insert, remove, slice_get, map, Option, Some, None}
use Rattle.std.proofs.lemmas.List.Edits.{insert_end}
use Rattle.serde_json.specs.Data.{Data}
use Rattle.lsp_model.specs.Messages as say
use Rattle.lsp_model.specs.Messages.{Delivery, sent, asked_for}
use Rattle.lsp_model.specs.Positions.{Columns, offset_at}
use Rattle.lsp_model.specs.Answers as put
use Rattle.lsp_model.specs.Answers.{Answered, Piece, bytes_put}
use Rattle.lsp_front.specs.Sayings.{declaration_in, place_call}
use Rattle.lsp_front.specs.declared.message.PlaceCall.{PlaceCall}
use Rattle.lsp_front.specs.declared.message.PlaceCall.TheVariants.{Hover, Completion, Definition, References, Highlights}
use Rattle.lsp_queries.specs.Answers.{CompletionIs, DefinitionIs, HighlightsAre, HoverIs, ReferencesAre}
use Rattle.lsp_queries.specs.Calls as asked
use Rattle.lsp_documents.specs.States.{Document, State, place_in, taken_off, text_in, with_shown}
use Rattle.lsp_documents.specs.Reports.{IsReport, RefreshesAll, RefreshesBy}
use Rattle.lsp_documents.specs.Puts.{changed_document, document_lost, opened_document, refusal_piece, settled, with_documents, Answers, ChangePuts, Clears, ClosePuts, OfText, Sends}
use Rattle.lsp_documents.specs.Steps.{bytes_of, PassedBy, StepBy}
use Rattle.lsp_documents.specs.declared.documents.Step.{Step}
use Rattle.lsp_documents.specs.declared.documents.Step.TheVariants.{Puts}
use Rattle.lsp_documents.specs.Placing.{Placed}
use Rattle.lsp_documents.proofs.Several.{as_many}

-- ---- requests

-- what is answered of a text that is there
of_text : (P : List ℕ → Answered → Type 0) (t : Option (List ℕ)) (text : List ℕ) (a : Answered) → t ≡ Some text → P text a → OfText P t a
of_text P t text a there is = subst (λ (o : Option (List ℕ)). OfText P o a) (sym there) is

-- what is asked of a place in a document that is read
pub answers_at : (s : State) (what : PlaceCall) (p : say.Place) (text : List ℕ) (o : ℕ) (a : Answered) → text_in s.documents p.uri ≡ Some text → o ≡ offset_at s.choices.columns p.line p.character text
    → asked.AtPlace s.choices text p.uri what o a → Answers s (place_call what p) a
answers_at s what p text o a there at is = by what (subst (λ (n : ℕ). asked.AtPlace s.choices text p.uri what n a) at is)
  where
    offset : List ℕ → ℕ
    offset t = offset_at s.choices.columns p.line p.character t

    by : (w : PlaceCall) → asked.AtPlace s.choices text p.uri w (offset_at s.choices.columns p.line p.character text) a → Answers s (place_call w p) a
    by Hover i = of_text (λ t x. HoverIs s.choices t (offset_at s.choices.columns p.line p.character t) x) (text_in s.documents p.uri) text a there i
    by Completion i = of_text (λ t x. CompletionIs s.choices.columns t (offset_at s.choices.columns p.line p.character t) x) (text_in s.documents p.uri) text a there i
    by Definition i = of_text (λ t x. DefinitionIs s.choices.columns t p.uri (offset_at s.choices.columns p.line p.character t) x) (text_in s.documents p.uri) text a there i
    by (References d) i = of_text (λ t x. ReferencesAre s.choices.columns t p.uri (declaration_in d) (offset_at s.choices.columns p.line p.character t) x) (text_in s.documents p.uri) text a there i
    by Highlights i = of_text (λ t x. HighlightsAre s.choices.columns t (offset_at s.choices.columns p.line p.character t) x) (text_in s.documents p.uri) text a there i

-- a place in a document that isn't read
pub answers_none : (s : State) (what : PlaceCall) (p : say.Place) (a : Answered) → text_in s.documents p.uri ≡ None → a ≡ put.nothing_there → Answers s (place_call what p) a
answers_none s what p a none is = by what
  where
    of_none : (P : List ℕ → Answered → Type 0) → OfText P (text_in s.documents p.uri) a
    of_none P = subst (λ (o : Option (List ℕ)). OfText P o a) (sym none) is

    by : (w : PlaceCall) → Answers s (place_call w p) a
    by Hover = of_none (λ t x. HoverIs s.choices t (offset_at s.choices.columns p.line p.character t) x)
    by Completion = of_none (λ t x. CompletionIs s.choices.columns t (offset_at s.choices.columns p.line p.character t) x)
    by Definition = of_none (λ t x. DefinitionIs s.choices.columns t p.uri (offset_at s.choices.columns p.line p.character t) x)
    by (References d) = of_none (λ t x. ReferencesAre s.choices.columns t p.uri (declaration_in d) (offset_at s.choices.columns p.line p.character t) x)
    by Highlights = of_none (λ t x. HighlightsAre s.choices.columns t (offset_at s.choices.columns p.line p.character t) x)

-- a request that is answered
pub answered_step : (s s' : State) (id : Data) (call : say.Call) (bytes : List ℕ) (step : Step) → (a : Answered) × Answers s call a × (bytes ≡ bytes_put (put.result id a)) → s' ≡ settled s call → step ≡ Puts (bytes ∷ []) → StepBy s (say.request id call) step s'
answered_step s s' id call bytes step answer kept is =
    subst (λ (x : Step). StepBy s (say.request id call) x s') (sym is) (put.result id answer.0 ∷ [], inl (answer.0, answer.1, refl, kept), ap (λ (b : List ℕ). b ∷ []) answer.2)

-- one for which memory is short
pub short_step : (s : State) (id : Data) (call : say.Call) (bytes : List ℕ) (step : Step) → bytes ≡ bytes_put (put.error (Some id) put.short_of_memory) → step ≡ Puts (bytes ∷ []) → StepBy s (say.request id call) step s
short_step s id call bytes step same is =
    subst (λ (x : Step). StepBy s (say.request id call) x s) (sym is) (put.error (Some id) put.short_of_memory ∷ [], inr (refl, refl), ap (λ (b : List ℕ). b ∷ []) same)

-- ---- other messages

-- a message that has an error
pub refused_step : (s : State) (r : say.Refusal) (bytes : List ℕ) (step : Step) → bytes ≡ bytes_put (refusal_piece r) → step ≡ Puts (bytes ∷ []) → StepBy s (say.refused r) step s
refused_step s r bytes step same is = subst (λ (x : Step). StepBy s (say.refused r) x s) (sym is) (refusal_piece r ∷ [], (refl, refl), ap (λ (b : List ℕ). b ∷ []) same)

-- one that is passed over
pub ignored_step : (s : State) (v : List (List ℕ)) → v ≡ [] → StepBy s say.ignored (Puts v) s
ignored_step s v none = ([], (refl, refl), none)

-- a body that was passed over
pub passed_step : (s s1 s' : State) (bytes : List ℕ) (v : List (List ℕ)) (others' : List Document) → bytes ≡ bytes_put (put.error None put.too_long) → s1 ≡ with_documents s (map document_lost s.documents)
    → (ps : List Piece) × RefreshesBy s1.choices.delivery s1.choices.columns s1.documents ps others' × (v ≡ bytes ∷ bytes_of ps) → s' ≡ with_documents s1 others' → PassedBy s (Puts v) s'
passed_step s s1 s' bytes v others' same lost =
    subst (λ (x : State). (ps : List Piece) × RefreshesBy x.choices.delivery x.choices.columns x.documents ps others' × (v ≡ bytes ∷ bytes_of ps) → s' ≡ with_documents x others' → PassedBy s (Puts v) s') (sym lost)
    (λ puts kept. (put.error None put.too_long ∷ puts.0, (puts.0, others', puts.1, kept, refl), puts.2 ∙ ap (λ (b : List ℕ). b ∷ bytes_of puts.0) same))

-- ---- the diagnostics of documents

-- those of one, and of the others
pub sends_by : (by : Columns) (d d' : Document) (others others' : List Document) (bytes : List ℕ) (v : List (List ℕ)) → (p : Piece) × IsReport by d p × (bytes ≡ bytes_put p) × (d' ≡ with_shown d (bytes_put p))
    → (ps : List Piece) × RefreshesAll by others ps others' × (v ≡ bytes ∷ bytes_of ps) → (all : List Piece) × Sends sent by d others all d' others' × (v ≡ bytes_of all)
sends_by by d d' others others' bytes v report rest =
    (report.0 ∷ rest.0, (report.0, rest.0, report.1, rest.1, refl, report.3), rest.2 ∙ ap (λ (b : List ℕ). b ∷ bytes_of rest.0) report.2)

-- that a closed one has none, and those of the others
pub clears_by : (by : Columns) (uri : List ℕ) (others others' : List Document) (bytes : List ℕ) (v : List (List ℕ)) → bytes ≡ bytes_put (put.published uri None []) → (ps : List Piece) × RefreshesAll by others ps others' × (v ≡ bytes ∷ bytes_of ps)
    → (all : List Piece) × Clears sent by uri others all others' × (v ≡ bytes_of all)
clears_by by uri others others' bytes v same rest =
    (put.published uri None [] ∷ rest.0, (rest.0, rest.1, refl), rest.2 ∙ ap (λ (b : List ℕ). b ∷ bytes_of rest.0) same)

-- as many documents are others afterwards
pub many_by : (x : Delivery) (by : Columns) (others others' : List Document) (ps : List Piece) → RefreshesBy x by others ps others' → length others' ≡ length others
many_by sent by others others' ps is = as_many by others ps others' is
many_by asked_for by others others' ps is = ap length is.1

-- the same where one is closed
pub many_cleared : (x : Delivery) (by : Columns) (uri : List ℕ) (others others' : List Document) (ps : List Piece) → Clears x by uri others ps others' → length others' ≡ length others
many_cleared sent by uri others others' ps is = as_many by others is.0 others' is.1
many_cleared asked_for by uri others others' ps is = ap length is.1

-- and where one is sent
pub many_sent : (x : Delivery) (by : Columns) (d d' : Document) (others others' : List Document) (ps : List Piece) → Sends x by d others ps d' others' → length others' ≡ length others
many_sent sent by d d' others others' ps is = as_many by others is.1 others' is.3
many_sent asked_for by d d' others others' ps is = ap length is.2

-- ---- notifications

-- a document that is opened beside others
pub opened_step : (s s1 s' : State) (uri text : List ℕ) (version : Option ℤ) (d : Document) (at : ℕ) (v : List (List ℕ)) → s1 ≡ with_documents s (taken_off s.documents (place_in s.documents uri)) → d ≡ opened_document s1.documents uri text version
    → at ≡ length s1.documents → (ps : List Piece) × Placed s1 d at ps s' × (v ≡ bytes_of ps) → StepBy s (say.notice (say.opened uri text version)) (Puts v) s'
opened_step s s1 s' uri text version d at v taken =
    subst (λ (x : State). d ≡ opened_document x.documents uri text version → at ≡ length x.documents → (ps : List Piece) × Placed x d at ps s' × (v ≡ bytes_of ps) → StepBy s (say.notice (say.opened uri text version)) (Puts v) s') (sym taken) (λ is end placed.
    let others = taken_off s.documents (place_in s.documents uri) in
    let p = placed.1 in
    let many = end ∙ sym (many_sent s.choices.delivery s.choices.columns d p.0 others p.1 placed.0 p.2) in (
      placed.0,
      (
        p.0,
        p.1,
        subst (λ (e : Document). Sends s.choices.delivery s.choices.columns e others placed.0 p.0 p.1) is p.2,
        p.3 ∙ ap (λ n. with_documents s (insert p.1 n p.0)) many ∙ ap (with_documents s) (insert_end p.1 p.0),
      ),
      placed.2,
    ))

-- changes of a document that isn't open
pub unchanged_step : (s : State) (uri : List ℕ) (cs : List say.Change) (version : Option ℤ) (v : List (List ℕ)) → place_in s.documents uri ≡ None → v ≡ [] → StepBy s (say.notice (say.changed uri cs version)) (Puts v) s
unchanged_step s uri cs version v none is = ([], subst (λ (o : Option ℕ). ChangePuts s o cs version [] s) (sym none) (refl, refl), is)

-- changes of one that is
pub changed_step : (s s1 s' : State) (uri : List ℕ) (cs : List say.Change) (version : Option ℤ) (at : ℕ) (d d' : Document) (v : List (List ℕ)) → place_in s.documents uri ≡ Some at → slice_get s.documents at ≡ Some d
    → s1 ≡ with_documents s (remove s.documents at) → d' ≡ changed_document s1.choices.columns s1.documents d cs version → (ps : List Piece) × Placed s1 d' at ps s' × (v ≡ bytes_of ps) → StepBy s (say.notice (say.changed uri cs version)) (Puts v) s'
changed_step s s1 s' uri cs version at d d' v there before taken =
    subst (λ (x : State). d' ≡ changed_document x.choices.columns x.documents d cs version → (ps : List Piece) × Placed x d' at ps s' × (v ≡ bytes_of ps) → StepBy s (say.notice (say.changed uri cs version)) (Puts v) s') (sym taken) (λ is placed.
    let p = placed.1 in
    let others = remove s.documents at in (
      placed.0,
      subst (λ (o : Option ℕ). ChangePuts s o cs version placed.0 s') (sym there)
          (d, p.0, p.1, before, subst (λ (e : Document). Sends s.choices.delivery s.choices.columns e others placed.0 p.0 p.1) is p.2, p.3),
      placed.2,
    ))

-- a document that isn't open is closed
pub unclosed_step : (s : State) (uri : List ℕ) (v : List (List ℕ)) → place_in s.documents uri ≡ None → v ≡ [] → StepBy s (say.notice (say.closed uri)) (Puts v) s
unclosed_step s uri v none is = ([], subst (λ (o : Option ℕ). ClosePuts s uri o [] s) (sym none) (refl, refl), is)

-- one that is open is closed
pub closed_step : (s s1 s' : State) (uri : List ℕ) (at : ℕ) (v : List (List ℕ)) (others' : List Document) → place_in s.documents uri ≡ Some at → s1 ≡ with_documents s (taken_off s.documents (place_in s.documents uri))
    → (ps : List Piece) × Clears s1.choices.delivery s1.choices.columns uri s1.documents ps others' × (v ≡ bytes_of ps) → s' ≡ with_documents s1 others' → StepBy s (say.notice (say.closed uri)) (Puts v) s'
closed_step s s1 s' uri at v others' there taken =
    let off : s1 ≡ with_documents s (remove s.documents at) = taken ∙ ap (λ (o : Option ℕ). with_documents s (taken_off s.documents o)) there in
    subst (λ (x : State). (ps : List Piece) × Clears x.choices.delivery x.choices.columns uri x.documents ps others' × (v ≡ bytes_of ps) → s' ≡ with_documents x others' → StepBy s (say.notice (say.closed uri)) (Puts v) s') (sym off)
    (λ clears kept. (clears.0, subst (λ (o : Option ℕ). ClosePuts s uri o clears.0 s') (sym there) (others', clears.1, kept), clears.2))
