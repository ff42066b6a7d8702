-- Lists of documents, and what is put for them.
use Rattle.std.proofs.Common.{◌≡◌, ◌∙◌, ◌+◌, ◌<◌, ◌≤◌, ℕ, suc, List, [], ◌∷◌, ◌++◌, Bool, true, false, length, length-append, get_or, set, take, drop, bytes_eq, refl, ap, sym, subst, arith, append-nil, append_assoc, if◌then◌else◌}
use Rattle.std.proofs.lemmas.List.{drop_all, drop_more, get_or_at, map-append, set_at, take_all, take_more}
use Rattle.std.proofs.lemmas.Slice.Eq.{bytes_eq-Decides}
use Rattle.lsp_model.specs.Answers.{Piece, bytes_put}
use Rattle.lsp_model.specs.Positions.{Columns}
use Rattle.lsp_documents.specs.States.{Document, with_shown}
use Rattle.lsp_documents.specs.Reports.{IsReport, Refreshes, RefreshesAll}
use Rattle.lsp_documents.specs.Steps.{bytes_of}

-- the bytes of two lists of pieces
bytes_both : (ps qs : List Piece) → bytes_of (ps ++ qs) ≡ bytes_of ps ++ bytes_of qs
bytes_both ps qs = map-append bytes_put ps qs

-- ---- one document

-- its diagnostics are those put last
pub shown_still : (by : Columns) (d : Document) (pieces : List (List ℕ)) → (p : Piece) × IsReport by d p × (bytes_put p ≡ d.shown) → (ps : List Piece) × Refreshes by d ps d × (pieces ≡ pieces ++ bytes_of ps)
shown_still by d pieces s = (
  [],
  (s.0, s.1, ap (λ b. if b then [] else s.0 ∷ []) (sym ((bytes_eq-Decides (bytes_put s.0) d.shown).1 s.2)), ap (with_shown d) (sym s.2)),
  sym (append-nil pieces),
)

-- its diagnostics were found to be the same, or were put
pub shown_by : (b : Bool) (by : Columns) (d new : Document) (bytes : List ℕ) (before after : List (List ℕ)) → (p : Piece) × IsReport by d p × (bytes ≡ bytes_put p) → bytes_eq bytes d.shown ≡ b → new ≡ with_shown d bytes
    → after ≡ (if b then before else before ++ bytes ∷ []) → (ps : List Piece) × Refreshes by d ps new × (after ≡ before ++ bytes_of ps)
shown_by true by d new bytes before after r same kept put = (
  [],
  (r.0, r.1, ap (λ b. if b then [] else r.0 ∷ []) (sym (sym (ap (λ (l : List ℕ). bytes_eq l d.shown) r.2) ∙ same)), kept ∙ ap (with_shown d) r.2),
  put ∙ sym (append-nil before),
)
shown_by false by d new bytes before after r same kept put = (
  r.0 ∷ [],
  (r.0, r.1, ap (λ b. if b then [] else r.0 ∷ []) (sym (sym (ap (λ (l : List ℕ). bytes_eq l d.shown) r.2) ∙ same)), kept ∙ ap (with_shown d) r.2),
  put ∙ ap (λ (l : List ℕ). before ++ l ∷ []) r.2,
)

-- ---- several documents

-- with one more document
refreshes_more : (by : Columns) (xs : List Document) (d : Document) (ps qs : List Piece) (xs' : List Document) (d' : Document) → RefreshesAll by xs ps xs' → Refreshes by d qs d' → RefreshesAll by (xs ++ d ∷ []) (ps ++ qs) (xs' ++ d' ∷ [])
refreshes_more by [] d ps qs xs' d' none is =
    (qs, [], d', [], is, (refl, refl), ap (λ (l : List Piece). l ++ qs) none.0 ∙ sym (append-nil qs), ap (λ (l : List Document). l ++ d' ∷ []) none.1)
refreshes_more by (x ∷ xs) d ps qs xs' d' all is = (
  all.0,
  all.1 ++ qs,
  all.2,
  all.3 ++ d' ∷ [],
  all.4,
  refreshes_more by xs d all.1 qs all.3 d' all.5 is,
  ap (λ (l : List Piece). l ++ qs) all.6 ∙ append_assoc all.0 all.1 qs,
  ap (λ (l : List Document). l ++ d' ∷ []) all.7,
)

-- there are as many afterwards
pub as_many : (by : Columns) (xs : List Document) (ps : List Piece) (xs' : List Document) → RefreshesAll by xs ps xs' → length xs' ≡ length xs
as_many by [] ps xs' none = ap length none.1
as_many by (x ∷ xs) ps xs' all = ap length all.7 ∙ ap suc (as_many by xs all.1 all.3 all.5)

-- the documents before a place are done with, and these pieces were put for them
abbrev pub IsDone : Columns → List Document → ℕ → List (List ℕ) → List Document → List (List ℕ) → Type 0
IsDone by all i before now after =
    (front : List Document) × (ps : List Piece) × RefreshesAll by (take i all) ps front × (length front ≡ i) × (now ≡ front ++ drop i all) × (after ≡ before ++ bytes_of ps)

-- none at the start
pub none_done : (by : Columns) (all : List Document) (pieces : List (List ℕ)) → IsDone by all 0 pieces all pieces
none_done by all pieces = ([], [], (refl, refl), refl, refl, sym (append-nil pieces))

-- one more
pub more_done : (by : Columns) (all : List Document) (i : ℕ) (before : List (List ℕ)) (now : List Document) (mid : List (List ℕ)) (r x' : Document) (after : List (List ℕ)) → i < length all → IsDone by all i before now mid
    → (qs : List Piece) × Refreshes by (get_or now i r) qs x' × (after ≡ mid ++ bytes_of qs) → IsDone by all (i + 1) before (set now i x') after
more_done by all i before now mid r x' after within done step =
    let y = get_or all i r in
    let rest = drop (i + 1) all in
    let is : now ≡ done.0 ++ (y ∷ rest) = done.4 ∙ ap (λ (l : List Document). done.0 ++ l) (drop_more all i r within) in
    let here : get_or now i r ≡ y = ap (λ (l : List Document). get_or l i r) is ∙ get_or_at done.0 y rest r i done.3 in (
      done.0 ++ x' ∷ [],
      done.1 ++ step.0,
      subst (λ (l : List Document). RefreshesAll by l (done.1 ++ step.0) (done.0 ++ x' ∷ [])) (sym (take_more all i r within))
          (refreshes_more by (take i all) y done.1 step.0 done.0 x' done.2 (subst (λ (d : Document). Refreshes by d step.0 x') here step.1)),
      omega (arith, length-append done.0 (x' ∷ []), done.3),
      ap (λ (l : List Document). set l i x') is ∙ set_at done.0 y rest x' i done.3 ∙ sym (append_assoc done.0 (x' ∷ []) rest),
      step.2
          ∙ ap (λ (l : List (List ℕ)). l ++ bytes_of step.0) done.5
          ∙ append_assoc before (bytes_of done.1) (bytes_of step.0)
          ∙ ap (λ (l : List (List ℕ)). before ++ l) (sym (bytes_both done.1 step.0)),
    )

-- all
pub all_done : (by : Columns) (all : List Document) (i : ℕ) (before : List (List ℕ)) (now : List Document) (after : List (List ℕ)) → length all ≤ i → IsDone by all i before now after → (ps : List Piece) × RefreshesAll by all ps now × (after ≡ before ++ bytes_of ps)
all_done by all i before now after past done = (
  done.1,
  subst (λ (l : List Document). RefreshesAll by l done.1 now) (take_all i all past)
      (subst (RefreshesAll by (take i all) done.1) (sym (done.4 ∙ ap (λ (l : List Document). done.0 ++ l) (drop_all i all past) ∙ append-nil done.0)) done.2),
  done.5,
)
