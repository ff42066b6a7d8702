-- The last of some edges, from the front.
use Rattle.std.proofs.Common.{◌≡◌, ℕ, ◌+◌, ◌<◌, List, [], ◌∷◌, Option, Some, None, refl, sym, ◌∙◌, ap, option_map, map, drop, length, get_or}
use Rattle.std.proofs.lemmas.List.{drop_more}
use Rattle.std.specs.Option.{option_or}
use Rattle.grammar_model.specs.Tables.{Edge}
use Rattle.recovery_model.specs.Steps.{last_edge}
use Rattle.syntax_rows.specs.declared.rows.Edge.{Edge as CodeEdge}
use Rattle.syntax_rows.specs.View.{edge_of}

-- the spot of the last edge
abbrev pub last_in_edges : List Edge → Option ℕ
last_in_edges es = option_map (λ e. e.spot) (last_edge es)

-- edges have a last one
last_some : (e : Edge) (es : List Edge) → (x : ℕ) × (last_in_edges (e ∷ es) ≡ Some x)
last_some e [] = (e.spot, refl)
last_some e (d ∷ es) = last_some d es

-- the last of edges is the last of those behind the first, or the first
pub last_step : (e : Edge) (es : List Edge) → last_in_edges (e ∷ es) ≡ option_or (last_in_edges es) (Some e.spot)
last_step e [] = refl
last_step e (d ∷ es) = let (x, h) = last_some d es in rw h refl

-- what stands behind what is there isn't asked
or_kept : (x : Option ℕ) (s : ℕ) (o : Option ℕ) → option_or (option_or x (Some s)) o ≡ option_or x (Some s)
or_kept None s o = refl
or_kept (Some y) s o = refl

-- one turn of the search for the last
pub last_turn : (edges : List CodeEdge) (d : CodeEdge) (i : ℕ) (o whole : Option ℕ) → i < length edges → option_or (last_in_edges (map edge_of (drop i edges))) o ≡ whole →
    option_or (last_in_edges (map edge_of (drop (i + 1) edges))) (Some (get_or edges i d).spot) ≡ whole
last_turn edges d i o whole lt h =
    let e = ap (λ es. option_or (last_in_edges (map edge_of es)) o) (drop_more edges i d lt) in
    let s = ap (λ x. option_or x o) (last_step (edge_of (get_or edges i d)) (map edge_of (drop (i + 1) edges))) in
    sym (or_kept (last_in_edges (map edge_of (drop (i + 1) edges))) (get_or edges i d).spot o) ∙ sym s ∙ sym e ∙ h
