-- A run goes on by a message, and by more bytes.
use Rattle.std.proofs.Common.{◌≡◌, ◌∙◌, ℕ, List, [], ◌∷◌, ◌++◌, refl, ap, sym, subst, append-nil, append_assoc, inl, inr, Option, Result, Ok, Err, OnErr}
use Rattle.std.specs.Io.KnownBytes.{Appends, Consumes, IsAtEnd}
use Rattle.std.proofs.KnownBytes.{Appends-nil, Appends-trans, Consumes-nil}
use Rattle.lsp_model.specs.Answers.{Piece}
use Rattle.lsp_documents.specs.States.{State, first_state}
use Rattle.lsp_loop.specs.Heard.{Heard, BeginsWith, HeardPuts, RunsTo, joined}
use Rattle.lsp_loop.specs.Outcomes.{EndOfInput, EndsBy, Outcome}
use Rattle.lsp_loop.specs.Progress.{SoFar}
use Rattle.lsp_loop.specs.Turns.{IsAt}
use Rattle.lsp_loop.specs.declared.ends.End.{End}
use Rattle.lsp_loop.specs.declared.ends.End.TheVariants.{Done, NoShutdown, ReadFault, WriteFault, InputTooLong, NoMemory, BadFrame}
use Rattle.lsp_loop.specs.declared.incoming.Incoming.{Incoming}
use Rattle.lsp_loop.proofs.Frames.{splits_more, splits_stays}

-- by one more message
pub runs_more : (s : State) (hs : List Heard) (out : List ℕ) (mid : State) (h : Heard) (ps : List Piece) (new : State) → RunsTo s hs out mid → HeardPuts mid h ps new → RunsTo s (hs ++ h ∷ []) (out ++ joined ps) new
runs_more s [] out mid h ps new ran step =
    (ps, new, [], subst (λ (x : State). HeardPuts x h ps new) ran.1 step, (refl, refl), ap (λ (o : List ℕ). o ++ joined ps) ran.0 ∙ sym (append-nil (joined ps)))
runs_more s (g ∷ hs) out mid h ps new ran step =
    (ran.0, ran.1, ran.2 ++ joined ps, ran.3, runs_more ran.1 hs ran.2 mid h ps new ran.4 step, ap (λ (o : List ℕ). o ++ joined ps) ran.5 ∙ append_assoc (joined ran.0) ran.2 (joined ps))

-- a run that has come to a message goes on after it once what it puts was put
pub so_far_message : (before held now : Option (List ℕ)) (taken : List ℕ) (state : State) (rest : List ℕ) (h : Heard) (after : List ℕ) (ps : List Piece) (next : State) → SoFar before held taken state rest
    → BeginsWith rest h after → HeardPuts state h ps next → Appends held now (joined ps) → SoFar before now taken next after
so_far_message before held now taken state rest h after ps next so_far begins step puts = record {
  heard = so_far.heard ++ h ∷ [];
  splits = splits_more taken so_far.heard rest h after so_far.splits begins;
  out = so_far.out ++ joined ps;
  ran = runs_more first_state so_far.heard so_far.out state h ps next so_far.ran step;
  put = Appends-trans before held now so_far.out (joined ps) so_far.put puts;
}

-- with more bytes after those that were taken
pub so_far_stays : (before now : Option (List ℕ)) (taken : List ℕ) (state : State) (rest ys : List ℕ) → SoFar before now taken state rest → SoFar before now (taken ++ ys) state (rest ++ ys)
so_far_stays before now taken state rest ys so_far = record {
  heard = so_far.heard;
  splits = splits_stays taken so_far.heard rest ys so_far.splits;
  out = so_far.out;
  ran = so_far.ran;
  put = so_far.put;
}

-- at the start
pub so_far_first : (before : Option (List ℕ)) (state : State) → state ≡ first_state → SoFar before before [] state []
so_far_first before state is = record { heard = []; splits = refl; out = []; ran = (refl, is); put = Appends-nil before }

-- ---- how a run ends

-- at the end of the input
pub ends_input : (end : End) (left left' held held' : Option (List ℕ)) (taken : List ℕ) (state : State) (i : Incoming) → Consumes left left' taken → IsAtEnd left' → IsAt held held' taken state i → EndOfInput i end → Outcome end left left' held held'
ends_input Done left left' held held' taken state i took over at is = (taken, took, inr (over, (state, subst (SoFar held held' taken state) (is at.0 at.2) at.1)))
ends_input BadFrame left left' held held' taken state i took over at is = (taken, took, inr (over, (state, at.0, at.1, is at.0 at.2)))
ends_input NoShutdown left left' held held' taken state i took over at is = absurd is
ends_input ReadFault left left' held held' taken state i took over at is = absurd is
ends_input WriteFault left left' held held' taken state i took over at is = absurd is
ends_input InputTooLong left left' held held' taken state i took over at is = absurd is
ends_input NoMemory left left' held held' taken state i took over at is = absurd is

-- by the bytes taken
pub ends_by : (end : End) (left left' held held' : Option (List ℕ)) (taken : List ℕ) → Consumes left left' taken → EndsBy end held held' taken → Outcome end left left' held held'
ends_by Done left left' held held' taken took is = (taken, took, inl is)
ends_by NoShutdown left left' held held' taken took is = (taken, took, is)
ends_by ReadFault left left' held held' taken took is = absurd is
ends_by WriteFault left left' held held' taken took is = (taken, took, is)
ends_by InputTooLong left left' held held' taken took is = absurd is
ends_by NoMemory left left' held held' taken took is = (taken, took, is)
ends_by BadFrame left left' held held' taken took is = (taken, took, inl is)

-- before the first message
pub ends_first : (left held : Option (List ℕ)) → Outcome NoMemory left left held held
ends_first left held = ([], Consumes-nil left, (first_state, [], so_far_first held first_state refl))

-- what holds at an error that is passed on
pub on_err : {T E P : Type 0} (r : Result T E) → P → OnErr r P
on_err (Ok x) p = tt
on_err (Err e) p = p
