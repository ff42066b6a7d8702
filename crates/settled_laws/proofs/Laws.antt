-- The settled items stay, and a text's items begin with them.
use Rattle.std.proofs.Common.{◌≡◌, ℕ, zero, suc, Bool, true, false, ◌&&◌, List, [], ◌∷◌, ◌++◌, map, reverse, None, refl, sym, ◌∙◌, ap, append_assoc, append-nil, if◌then◌else◌, nat_lt}
use Rattle.std.proofs.lemmas.List.{reverse-append, map-append}
use Rattle.token_model.specs.Kinds.{Tok}
use Rattle.grammar_model.specs.Trees.{Tree, Forest, Part, no_parts, part, taken, inner, missing}
use Rattle.grammar_model.specs.Tables.{Table}
use Rattle.grammar_model.specs.Machine.{Frame, node_of, onto}
use Rattle.grammar_model.specs.Named.{named, named_part, named_parts, inner_of, forest_items, items_of}
use Rattle.grammar_model.specs.Rows.{Row, Sizes, chain_to, grower_in, grower_of}
use Rattle.grammar_model.specs.Words.{item, signature_item}
use Rattle.grammar_model.specs.Ocaml.{Text, program_text, interface_text, grammar, rows, root_of, row_name, sizes}
use Rattle.recovery_model.specs.Items.{Parser}
use Rattle.recovery_model.specs.Recovery.{step, close, start, recovered, recover}
use Rattle.settled_laws.specs.Settled.{inner_in, inners, outer, kept_frames, settled, behind_all, settled_in, trees_in, Begins}
use Rattle.settled_laws.proofs.Frames.{Still, keeps_same, still_on}
use Rattle.settled_laws.proofs.Parsers.{Forward, forward_all, holds_close}

grower_none : (z : Sizes) (R : List Row) (s k : ℕ) → grower_in R (chain_to 4 R) 0 R s k ≡ None → grower_of z R s k ≡ None
unfolding grower_of
grower_none z R s k e = by (nat_lt s z.sorts && nat_lt k z.keys)
  where
    by : (b : Bool) → (if b then grower_in R (chain_to 4 R) 0 R s k else None) ≡ None
    by true = e
    by false = refl

-- no row grows an item
items_stay : (k : ℕ) → grower_of sizes rows item k ≡ None
unfolding rows
items_stay k = grower_none sizes rows item k refl

signature_items_stay : (k : ℕ) → grower_of sizes rows signature_item k ≡ None
unfolding rows
signature_items_stay k = grower_none sizes rows signature_item k refl

-- the row of a whole text has no part that grows
pub still_text : (text : Text) → Still (grammar text) (root_of text)
unfolding rows
still_text program_text zero k = refl
still_text program_text (suc zero) k = items_stay k
still_text program_text (suc (suc n)) k = refl
still_text interface_text zero k = refl
still_text interface_text (suc zero) k = refl
still_text interface_text (suc (suc zero)) k = signature_items_stay k
still_text interface_text (suc (suc (suc n))) k = refl

-- nodes among parts in order, with their names
pub inner_named : (d : Part) → inner_of (named_part row_name d) ≡ map (named row_name) (inner_in d)
inner_named (taken t) = refl
inner_named (inner T) = refl
inner_named (missing p) = refl

inner_once : (d : Part) → reverse (inner_in d) ≡ inner_in d
inner_once (taken t) = refl
inner_once (inner T) = refl
inner_once (missing p) = refl

onto_items : (ds : List (ℕ × Part)) (f : Forest) → forest_items (named_parts row_name (onto ds f)) ≡ map (named row_name) (reverse (inners ds)) ++ forest_items (named_parts row_name f)
onto_items [] f = refl
onto_items (d ∷ ds) f =
    let n = named row_name in
    let rest = forest_items (named_parts row_name f) in
    let a = ap (λ xs. map n (reverse (inners ds)) ++ (xs ++ rest)) (inner_named d.1 ∙ ap (map n) (sym (inner_once d.1))) in
    let b = sym (append_assoc (map n (reverse (inners ds))) (map n (reverse (inner_in d.1))) rest) in
    let c = ap (λ xs. xs ++ rest) (sym (map-append n (reverse (inners ds)) (reverse (inner_in d.1))) ∙ ap (map n) (sym (reverse-append (inner_in d.1) (inners ds)))) in
    onto_items ds (part d.0 d.1 f) ∙ a ∙ b ∙ c

-- the items of a node are the nodes among its parts
pub items_named : (F : Frame) → items_of (named row_name (node_of F)) ≡ map (named row_name) (reverse (inners F.done))
items_named F = onto_items F.done no_parts ∙ append-nil (map (named row_name) (reverse (inners F.done)))

-- what is put on nodes comes behind them
more_behind : (xs ys zs : List Tree) → ys ≡ zs ++ xs → Begins (map (named row_name) (reverse xs)) (map (named row_name) (reverse ys))
more_behind xs ys zs e =
    let n = named row_name in
    (map n (reverse zs), ap (λ l. map n (reverse l)) e ∙ ap (map n) (reverse-append zs xs) ∙ map-append n (reverse xs) (reverse zs))

-- the tree behind the parser of all tokens
recovered_close : (G : Table) (ts : List Tok) (p : Parser) → (recovered G ts p).0 ≡ (close G (behind_all G ts p)).0
recovered_close G [] p = refl
recovered_close G (t ∷ ts) p = recovered_close G ts (step G p t).parser

behind_append : (G : Table) (ts us : List Tok) (p : Parser) → behind_all G (ts ++ us) p ≡ behind_all G us (behind_all G ts p)
behind_append G [] us p = refl
behind_append G (t ∷ ts) us p = behind_append G ts us (step G p t).parser

-- a text's parser has the row of a whole text outermost
still_behind : (text : Text) (ts : List Tok) → Still (grammar text) (outer (kept_frames (behind_all (grammar text) ts (start (grammar text))))).number
still_behind text ts =
    let G = grammar text in
    let p = start G in
    let f = forward_all G (kept_frames p) ts p (still_text text) (record { kept = keeps_same (kept_frames p); on = keeps_same (kept_frames p) }) in
    still_on G (kept_frames p) (kept_frames (behind_all G ts p)) f.kept (still_text text)

-- what is kept of a parser with its present frames
forward_here : (text : Text) (ts : List Tok) → Forward (kept_frames (behind_all (grammar text) ts (start (grammar text)))) (behind_all (grammar text) ts (start (grammar text)))
forward_here text ts =
    let G = grammar text in
    let p = start G in
    let f = forward_all G (kept_frames p) ts p (still_text text) (record { kept = keeps_same (kept_frames p); on = keeps_same (kept_frames p) }) in
    record { kept = keeps_same (kept_frames (behind_all G ts p)); on = f.on }

-- whatever tokens follow, the settled items stay
pub settled_stay : (text : Text) (ts us : List Tok) → Begins (settled_in text ts) (settled_in text (ts ++ us))
unfolding settled_in
settled_stay text ts us =
    let G = grammar text in
    let p = behind_all G ts (start G) in
    let q = behind_all G us p in
    let f = forward_all G (kept_frames p) us p (still_behind text ts) (forward_here text ts) in
    let (zs, e) = more_behind (inners (outer (kept_frames p)).done) (inners (outer (kept_frames q)).done) f.kept.more f.kept.items in
    (zs, ap settled (behind_append G ts us (start G)) ∙ e)

-- the items of a text begin with those that are settled behind its first tokens
pub settled_first : (text : Text) (ts us : List Tok) → Begins (settled_in text ts) (trees_in text (ts ++ us))
unfolding settled_in recover
settled_first text ts us =
    let G = grammar text in
    let p = behind_all G ts (start G) in
    let q = behind_all G us p in
    let f = forward_all G (kept_frames p) us p (still_behind text ts) (forward_here text ts) in
    let h = holds_close G (kept_frames p) q (still_behind text ts) f in
    let (zs, e) = more_behind (inners (outer (kept_frames p)).done) (inners h.last.done) h.more h.items in
    (zs, ap (λ T. items_of (named row_name T)) (recovered_close G (ts ++ us) (start G) ∙ ap (λ r. (close G r).0) (behind_append G ts us (start G)) ∙ h.is) ∙ items_named h.last ∙ e)
