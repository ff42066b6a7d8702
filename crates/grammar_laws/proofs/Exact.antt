-- Each token list has at most one tree in the grammar, and the machine gives it.
use Rattle.std.proofs.Common.{◌≡◌, ℕ, true, List, [], ◌∷◌, ◌++◌, Some, refl, sym, ◌∙◌, ap, subst, arith, append-nil}
use Rattle.token_model.specs.Kinds.{Tok}
use Rattle.grammar_model.specs.Keys.{key_of}
use Rattle.grammar_model.specs.Trees.{Tree, Forest, Part, node, no_parts, part, part_yield, forest_yield}
use Rattle.grammar_model.specs.Tables.{Table, Last, plain, takes, at_spot}
use Rattle.grammar_model.specs.Grammar.{last_in, MayCome, BeginsWith, WellFormed, Follows, Leads, Proper, ProperNode, Roomy, RoomyNode, InGrammar}
use Rattle.grammar_model.specs.Machine.{frame, Stack, onto, on_fit, play, closed_at, closed, close_all, parsed}
use Rattle.grammar_laws.proofs.Laws.{Separate}
use Rattle.grammar_laws.proofs.Opens.{open_forest, open_part, closes_part, reached}
use Rattle.grammar_laws.proofs.Complete.{started, part_takes, take_fits, enter_part, go_on}

root_closes : (G : Table) (r p : ℕ) (last : Last) (f : Forest) → Follows G r p last f → (done : List (ℕ × Part)) (c : Part) (U : Stack) →
    closed G U ≡ closed_at G (frame r p ((p, c) ∷ done)) [] → closed G (open_forest r ((p, c) ∷ done) f U []) ≡ Some (node r (onto done (part p c f)))
root_closes G r p last no_parts fol done c U h = h ∙ (rw fol refl)
root_closes G r p last (part p' c' f) fol done c U h =
    root_closes G r p' (last_in (G.what r p') c') f fol.3 ((p, c) ∷ done) c' (open_part r ((p, c) ∷ done) p' c' []) (closes_part G r p' c' fol.2 ((p, c) ∷ done) [])

root_step : (G : Table) → Separate G → (p : ℕ) → MayCome (G.next G.root 0) plain p → (y z : List Tok) → Leads y (λ t. takes G (G.what G.root p) (key_of t) ≡ true) →
    play G (y ++ z) (frame G.root 0 [] ∷ []) ≡ started G 0 (frame G.root 0 []) p (y ++ z) []
root_step G L p may [] z h = absurd h
root_step G L p may (t ∷ y) z h =
    ap (λ F. on_fit F (play G (y ++ z))) (take_fits G (frame G.root 0 []) [] t (at_spot p) (L.root_takes p (key_of t) may h) (λ z. cc))

play_root : (G : Table) → Separate G → (f : Forest) → WellFormed G (node G.root f) → Proper G (node G.root f) → Roomy G 1 (node G.root f) → parsed G (forest_yield f) ≡ Some (node G.root f)
unfolding parsed
play_root G L no_parts wf pr room = rw wf.1 refl
play_root G L (part p c f) wf pr room =
    let first = subst (λ b. BeginsWith G G.root b p c) L.root_left wf.0 in
    let own = subst (λ b. ProperNode G G.root b (part p c f)) L.root_left pr in
    let rm = subst (λ b. RoomyNode G 1 b (part p c f)) L.root_left room in
    let one = root_step G L p first.0 (part_yield c) (forest_yield f ++ []) (part_takes G L G.root p c first.1 wf.1 own.0) in
    let two = enter_part G L G.root p c first.1 wf.1 own.0 0 (omega arith) [] (omega arith) rm.1 0 [] (forest_yield f ++ []) in
    let three = go_on G L G.root p c (last_in (G.what G.root p) c) f wf.2 own.1 [] (omega arith) rm.2 [] (open_part G.root [] p c []) (λ t free. reached G t G.root p c wf.1 free [] []) [] in
    let four : play G (part_yield c ++ forest_yield f) (frame G.root 0 [] ∷ []) ≡ Some (open_forest G.root ((p, c) ∷ []) f (open_part G.root [] p c []) []) =
    subst (λ y. play G (part_yield c ++ y) (frame G.root 0 [] ∷ []) ≡ Some (open_forest G.root ((p, c) ∷ []) f (open_part G.root [] p c []) [])) (append-nil (forest_yield f)) (one ∙ two ∙ three) in
    ap (close_all G) four ∙ root_closes G G.root p (last_in (G.what G.root p) c) f wf.2 [] c (open_part G.root [] p c []) (closes_part G G.root p c wf.1 [] [])

-- the machine gives the tree that is in the grammar
pub complete : (G : Table) → Separate G → (ts : List Tok) (T : Tree) → InGrammar G ts T → parsed G ts ≡ Some T
complete G L ts (node r f) h =
    let at : node r f ≡ node G.root f = ap (λ r. node r f) h.root in
    let e : parsed G (forest_yield f) ≡ Some (node G.root f) = play_root G L f (subst (WellFormed G) at h.formed) (subst (Proper G) at h.proper) (subst (Roomy G 1) at h.roomy) in
    subst (λ y. parsed G y ≡ Some (node r f)) h.tokens (e ∙ ap Some (sym at))

pub unique : (G : Table) → Separate G → (ts : List Tok) (T U : Tree) → InGrammar G ts T → InGrammar G ts U → T ≡ U
unique G L ts T U h k = let e = sym (complete G L ts T h) ∙ complete G L ts U k in cc
