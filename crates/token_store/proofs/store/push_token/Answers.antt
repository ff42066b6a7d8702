use Rattle.std.proofs.Common.{◌≡◌, ◌-◌, ◌++◌, ◌∷◌, [], ℕ, List, map, max, length, get_or, sym, ◌∙◌, ap}
use Rattle.std.proofs.lemmas.List.{map-append}
use Rattle.syntax_tree.specs.declared.tree.Token.{Token}
use Rattle.ml_lexer.specs.Reached.{reached_of}
use Rattle.token_store.specs.Stored.{peaks_of}
use Rattle.token_store.proofs.Peaks.{peaks_more}
use Rattle.token_store.proofs.store.push_token.Goals as goal

pub returns-clause-peaks : goal.returns-clause-peaks
returns-clause-peaks c =
    let before = c.args.tokens.now.items in
    let ts = map reached_of before in
    let t = c.args.token in
    let peak : c.max-peak.result ≡ max (get_or (peaks_of 0 ts) (length (peaks_of 0 ts) - 1) 0) t.reach = c.max-peak.ensures ∙ ap (λ n. max n t.reach) (c.last_peak.ensures ∙ ap (λ (l : List ℕ). get_or l (length l - 1) 0) (c.as_slice.ensures.value ∙ c.requires.peaks)) in
    c.push_in_room.ensures
    ∙ ap (λ (l : List ℕ). l ++ c.max-peak.result ∷ []) c.requires.peaks
    ∙ ap (λ n. peaks_of 0 ts ++ n ∷ []) peak
    ∙ sym (peaks_more 0 ts (reached_of t))
    ∙ ap (peaks_of 0) (sym (map-append reached_of before (t ∷ [])))
    ∙ ap (λ (l : List Token). peaks_of 0 (map reached_of l)) (sym c.push_in_room-2.ensures)
