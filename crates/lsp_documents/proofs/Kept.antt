-- What is kept of an editor, by its parts.
use Rattle.std.proofs.Common.{◌≡◌, ◌∙◌, ◌<◌, ℕ, ℤ, zero, suc, List, [], ◌∷◌, ◌++◌, Bool, true, false, length, get_or, take, drop, slice_get, is_some, Option, Some, None, refl, ap, sym, arith}
use lib.Seq.{take-append_seam}
use Rattle.lsp_model.specs.Messages.{Change, Choices}
use Rattle.lsp_model.specs.Positions.{Columns}
use Rattle.lsp_documents.specs.States.{Document, State}
use Rattle.lsp_documents.specs.Changes.{content_behind_all, opened_content}
use Rattle.lsp_documents.specs.Puts.{with_documents}

-- what is kept, of these parts
abbrev pub state_of : Choices → Bool → List Document → State
state_of choices shut documents = record { choices = choices; shut = shut; documents = documents }

-- with other documents
pub with_new : (choices : Choices) (shut : Bool) (old new : List Document) (s : State) (f : List Document → List Document) → state_of choices shut old ≡ s → new ≡ f old → state_of choices shut new ≡ with_documents s (f s.documents)
with_new choices shut old new s f seen is = ap (state_of choices shut) is ∙ ap (λ (x : State). with_documents x (f x.documents)) seen

-- as many documents as there were, in a list with room for them
pub filled : (n : ℕ) (new old : List Document) → n ≡ length old → length new ≡ length old → take n (new ++ drop (length new) old) ≡ new
filled n new old all same = ap (λ k. take k (new ++ drop (length new) old)) (all ∙ sym same) ∙ take-append_seam new (drop (length new) old)

-- the document at a place within a list
pub got_is : (ds : List Document) (i : ℕ) (d : Document) → i < length ds → slice_get ds i ≡ Some (get_or ds i d)
got_is [] i d within = absurd (omega (arith, within))
got_is (x ∷ ds) zero d within = refl
got_is (x ∷ ds) (suc i) d within = let less : i < length ds = omega (arith, within) in got_is ds i d less

-- there is none
pub none_of : (o : Option ℕ) → is_some o ≡ false → o ≡ None
none_of None is = refl
none_of (Some n) is = cc

-- or there is one
pub some_of : (o : Option ℕ) → is_some o ≡ true → (n : ℕ) × (o ≡ Some n)
some_of None is = cc
some_of (Some n) is = (n, refl)

-- a document after changes, by whether there is room for it
abbrev pub changed_by : Columns → Bool → Document → List Change → Option ℤ → Document
changed_by by room d cs version = record { uri = d.uri; version = version; content = content_behind_all by room d.content cs; shown = d.shown }

-- a document that is opened, by the same
abbrev pub opened_by : List ℕ → Option ℤ → Bool → List ℕ → Document
opened_by uri version room text = record { uri = uri; version = version; content = opened_content room text; shown = [] }
