-- The faults and the tree of a list of tokens, one token after the other.
use Rattle.std.proofs.Common.{◌≡◌, ℕ, zero, suc, ◌+◌, ◌≤◌, ◌<◌, List, [], ◌∷◌, ◌++◌, length, map, take, get_or, refl, sym, ◌∙◌, ap, subst, arith, append_assoc, append-nil}
use Rattle.std.proofs.lemmas.List.{take_more, take_all, map-append, length-map, length-take}
use Rattle.token_model.specs.Kinds.{Tok}
use Rattle.grammar_model.specs.Tables.{Table}
use Rattle.grammar_model.specs.Ocaml.{Text, grammar}
use Rattle.recovery_model.specs.Items.{Parser, stepped}
use Rattle.recovery_model.specs.Recovery.{step, close, start, recovered, recover, retake, retake_all}
use Rattle.syntax_tree.specs.Tallies.{Tallies, Grows, shifted_more}
use Rattle.syntax_tree.specs.View.{tok_of}
use Rattle.syntax_tree.specs.declared.tree.Token.{Token}
use Rattle.frame_steps.specs.Told.{told}
use Rattle.frame_steps.specs.View.{fault_of}
use Rattle.frame_steps.specs.declared.stack.SyntaxFault.{SyntaxFault}
use Rattle.frame_parser.specs.Run.{run_on, faults_on, run, faults, next_step, shifted_by, shifts, shifts_on, all_shifts, next_shifts}

run_on_next : (G : Table) (ts : List Tok) (t : Tok) (p : Parser) → run_on G (ts ++ (t ∷ [])) p ≡ (step G (run_on G ts p) t).parser
run_on_next G [] t p = refl
run_on_next G (u ∷ ts) t p = run_on_next G ts t (step G p u).parser

-- the parser behind one token more
pub run_next : (text : Text) (ts : List Tok) (t : Tok) → run text (ts ++ (t ∷ [])) ≡ (next_step text ts t).parser
unfolding run
run_next text ts t = run_on_next (grammar text) ts t (start (grammar text))

on_next : (G : Table) (ts : List Tok) (t : Tok) (p : Parser) → faults_on G (ts ++ (t ∷ [])) p ≡ faults_on G ts p ++ (step G (run_on G ts p) t).faults
on_next G [] t p = append-nil (step G p t).faults
on_next G (u ∷ ts) t p =
    let r = step G p u in
    ap (λ fs. r.faults ++ fs) (on_next G ts t r.parser) ∙ sym (append_assoc r.faults (faults_on G ts r.parser) (step G (run_on G ts r.parser) t).faults)

-- the faults of one token more
pub faults_next : (text : Text) (ts : List Tok) (t : Tok) → faults text (ts ++ (t ∷ [])) ≡ faults text ts ++ (next_step text ts t).faults
unfolding faults run
faults_next text ts t = on_next (grammar text) ts t (start (grammar text))

-- the faults of no token
pub no_faults : (text : Text) → [] ≡ map told (faults text [])
unfolding faults
no_faults text = refl

recovered_is : (G : Table) (ts : List Tok) (p : Parser) → ((recovered G ts p).0 ≡ (close G (run_on G ts p)).0) × ((recovered G ts p).1 ≡ faults_on G ts p ++ (close G (run_on G ts p)).1)
recovered_is G [] p = (refl, refl)
recovered_is G (t ∷ ts) p =
    let r = step G p t in
    let (a, b) = recovered_is G ts r.parser in
    (a, ap (λ fs. r.faults ++ fs) b ∙ sym (append_assoc r.faults (faults_on G ts r.parser) (close G (run_on G ts r.parser)).1))

-- the tree of all tokens
pub recover_tree : (text : Text) (ts : List Tok) → (recover (grammar text) ts).0 ≡ (close (grammar text) (run text ts)).0
unfolding recover run
recover_tree text ts = (recovered_is (grammar text) ts (start (grammar text))).0

-- the faults of all tokens
pub recover_faults : (text : Text) (ts : List Tok) → (recover (grammar text) ts).1 ≡ faults text ts ++ (close (grammar text) (run text ts)).1
unfolding recover run faults
recover_faults text ts = (recovered_is (grammar text) ts (start (grammar text))).1

-- the tokens so far and the next one
pub tokens_next : (tokens : List Token) (i : ℕ) (token : Token) → i < length tokens → token ≡ get_or tokens i token → map tok_of (take (i + 1) tokens) ≡ map tok_of (take i tokens) ++ (tok_of token ∷ [])
tokens_next tokens i token lt is =
    ap (map tok_of) (take_more tokens i token lt) ∙ map-append tok_of (take i tokens) (get_or tokens i token ∷ []) ∙ ap (λ t. map tok_of (take i tokens) ++ (tok_of t ∷ [])) (sym is)

-- all tokens
pub tokens_all : (tokens : List Token) (i : ℕ) → length tokens ≤ i → map tok_of (take i tokens) ≡ map tok_of tokens
tokens_all tokens i le = ap (map tok_of) (take_all i tokens le)

-- the faults told so far and those of the next token
pub told_next : (text : Text) (ts : List Tok) (t : Tok) (old now more : List SyntaxFault) → map fault_of old ≡ map told (faults text ts) → map fault_of more ≡ map told (next_step text ts t).faults
    → map fault_of now ≡ map fault_of old ++ map fault_of more → map fault_of now ≡ map told (faults text (ts ++ (t ∷ [])))
told_next text ts t old now more a b h =
    h ∙ ap (λ xs. xs ++ map fault_of more) a ∙ ap (λ x. map told (faults text ts) ++ x) b
    ∙ sym (map-append told (faults text ts) (next_step text ts t).faults) ∙ ap (map told) (sym (faults_next text ts t))

-- the faults told at the end
pub told_all : (text : Text) (ts : List Tok) (old now more : List SyntaxFault) → map fault_of old ≡ map told (faults text ts) → map fault_of more ≡ map told (close (grammar text) (run text ts)).1
    → map fault_of now ≡ map fault_of old ++ map fault_of more → map fault_of now ≡ map told (recover (grammar text) ts).1
told_all text ts old now more a b h =
    h ∙ ap (λ xs. xs ++ map fault_of more) a ∙ ap (λ x. map told (faults text ts) ++ x) b
    ∙ sym (map-append told (faults text ts) (close (grammar text) (run text ts)).1) ∙ ap (map told) (sym (recover_faults text ts))

-- the counter behind one token more
pub shifted_next : (n : ℕ) (c : Tallies) → shifted_more (shifted_by n c) ≡ shifted_by (suc n) c
shifted_next zero c = refl
shifted_next (suc n) c = shifted_next n (shifted_more c)

-- the tokens before one of few are fewer
pub tokens_few : (tokens : List Token) (i : ℕ) → i < length tokens → length tokens ≤ 1048576 → length (map tok_of (take i tokens)) < 1048576
tokens_few tokens i lt few = let a = length-map (take i tokens) tok_of in let b = length-take i tokens in omega arith

-- a counter behind some tokens and then others
pub shifted_add : (a b : ℕ) (c : Tallies) → shifted_by b (shifted_by a c) ≡ shifted_by (a + b) c
shifted_add zero b c = let e : b ≡ 0 + b = omega arith in ap (λ n. shifted_by n c) e
shifted_add (suc a) b c = let e : suc (a + b) ≡ suc a + b = omega arith in shifted_add a b (shifted_more c) ∙ ap (λ n. shifted_by n c) e

-- a counter grows by tokens
grows_one : (a b : Tallies) → Grows a b → Grows a (shifted_more b)
grows_one a b g = let x = g.lexed in let y = g.shifted in let z = g.typed in record { lexed = omega arith; shifted = omega arith; typed = omega arith }

grows_by : (a b : Tallies) (n : ℕ) → Grows a b → Grows a (shifted_by n b)
grows_by a b zero g = g
grows_by a b (suc n) g = grows_by a (shifted_more b) n (grows_one a b g)

pub grows_more : (a b c : Tallies) (n : ℕ) → Grows a b → c ≡ shifted_by n b → Grows a c
grows_more a b c n g e = subst (Grows a) (sym e) (grows_by a b n g)

shifts_on_next : (G : Table) (ts : List Tok) (t : Tok) (p : Parser) → shifts_on G (ts ++ (t ∷ [])) p ≡ shifts_on G ts p + shifts G (run_on G ts p) t
shifts_on_next G [] t p = omega arith
shifts_on_next G (u ∷ ts) t p = let e = shifts_on_next G ts t (step G p u).parser in omega arith

-- how many tokens the steps take with the one of one token more
pub shifts_next : (text : Text) (ts : List Tok) (t : Tok) → all_shifts text (ts ++ (t ∷ [])) ≡ all_shifts text ts + next_shifts text ts t
unfolding all_shifts run
shifts_next text ts t = shifts_on_next (grammar text) ts t (start (grammar text))

pub no_shifts : (text : Text) → all_shifts text [] ≡ 0
unfolding all_shifts
no_shifts text = refl

-- the counter behind one token more of a text
pub counted_next : (text : Text) (ts us : List Tok) (t : Tok) (a b c : Tallies) → us ≡ ts ++ (t ∷ []) → b ≡ shifted_by (all_shifts text ts) a → c ≡ shifted_by (next_shifts text ts t) b → c ≡ shifted_by (all_shifts text us) a
counted_next text ts us t a b c same before next =
    next ∙ ap (shifted_by (next_shifts text ts t)) before ∙ shifted_add (all_shifts text ts) (next_shifts text ts t) a
    ∙ ap (λ n. shifted_by n a) (sym (shifts_next text ts t) ∙ ap (all_shifts text) (sym same))

-- tokens of a text are as many as those of the code
pub tokens_most : (tokens : List Token) → length tokens ≤ 1048576 → length (map tok_of tokens) ≤ 1048576
tokens_most tokens few = let a = length-map tokens tok_of in omega arith

-- one token more that is taken again
pub retake_next : (G : Table) (ts : List Tok) (t : Tok) (p : Parser) →
    retake_all G (ts ++ (t ∷ [])) p ≡ stepped (retake G (retake_all G ts p).parser t).parser ((retake_all G ts p).faults ++ (retake G (retake_all G ts p).parser t).faults)
retake_next G [] t p = ap (stepped (retake G p t).parser) (append-nil (retake G p t).faults)
retake_next G (u ∷ ts) t p =
    let r = retake G p u in
    let x = retake_all G ts r.parser in
    ap (λ q. stepped q.parser (r.faults ++ q.faults)) (retake_next G ts t r.parser) ∙ ap (stepped (retake G x.parser t).parser) (sym (append_assoc r.faults x.faults (retake G x.parser t).faults))
