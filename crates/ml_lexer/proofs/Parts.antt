-- Parts of a list that grow byte by byte.
use Rattle.std.proofs.Common.{◌≡◌, ◌+◌, ◌-◌, ◌≤◌, ◌<◌, ◌++◌, ◌∷◌, [], ℕ, List, take, drop, length, get_or, sym, ◌∙◌, ap, arith, length-drop}
use Rattle.std.proofs.lemmas.List.{take_more, get_or-drop}

-- the part between two places, and the byte behind it
pub part_grows : (w : List ℕ) (start i : ℕ) → start ≤ i → i < length w → take (i - start) (drop start w) ++ get_or w i 0 ∷ [] ≡ take (i + 1 - start) (drop start w)
part_grows w start i order inside =
    let same : get_or (drop start w) (i - start) 0 ≡ get_or w i 0 = get_or-drop start w (i - start) 0 ∙ ap (λ k. get_or w k 0) (omega arith) in
    let more = take_more (drop start w) (i - start) 0 (omega (arith, length-drop start w)) in
    ap (λ b. take (i - start) (drop start w) ++ b ∷ []) (sym same) ∙ sym more ∙ ap (λ k. take k (drop start w)) (omega arith)
