-- Items and faults of first tokens, among those of all.
use Rattle.std.proofs.Common.{◌≡◌, ℕ, zero, suc, ◌≤◌, List, [], ◌∷◌, ◌++◌, length, take, drop, map, take-append-drop, refl, sym, ap, ◌∙◌, subst, arith, append_assoc, append-nil}
use Rattle.std.proofs.lemmas.List.{drop_all, drop-append-le, length-append, length-map, map-append, take_all, take-append-le, take-map, take-take}
use Rattle.token_model.specs.Kinds.{Tok}
use Rattle.tree_model.specs.Trees.{Tree}
use Rattle.grammar_model.specs.Tables.{Table}
use Rattle.grammar_model.specs.Ocaml.{Text, grammar}
use Rattle.recovery_model.specs.Steps.{Fault}
use Rattle.recovery_model.specs.Items.{Parser}
use Rattle.recovery_model.specs.Recovery.{step, start}
use Rattle.settled_laws.specs.Settled.{settled_in, Begins}
use Rattle.settled_laws.proofs.Laws.{settled_first, settled_stay}
use Rattle.syntax_tree.specs.View.{trees_of}
use Rattle.frame_steps.specs.Told.{Told, told}
use Rattle.frame_steps.specs.View.{fault_of}
use Rattle.frame_steps.specs.declared.stack.SyntaxFault.{SyntaxFault}
use Rattle.frame_parser.specs.Run.{faults, faults_on, run_on}
use Rattle.resume_parser.specs.Kept.{Agree, HasParsed, IsBegun, SharesFront, text_in, trees_behind}
use Rattle.resume_parser.specs.declared.kept.KeptParse.{KeptParse}

-- a list that begins with another that begins with a third
pub begins_on : (a b c : List Tree) → Begins a b → Begins b c → Begins a c
begins_on a b c (x, e) (y, f) = (x ++ y, f ∙ ap (λ l. l ++ y) e ∙ append_assoc a x y)

front_take : (xs zs : List Tree) → take (length xs) (xs ++ zs) ≡ xs
front_take xs zs = take-append-le (length xs) xs zs (omega arith) ∙ take_all (length xs) xs (omega arith)

longer : (xs ys : List Tree) → Begins xs ys → length xs ≤ length ys
longer xs ys (zs, e) = let a = ap length e ∙ length-append xs zs in omega arith

-- a list that another begins with agrees with it
pub agree_begins : (xs ys : List Tree) → Begins xs ys → Agree xs ys
agree_begins xs ys (zs, e) = take_all (length ys) xs (longer xs ys (zs, e)) ∙ sym (ap (take (length xs)) e ∙ front_take xs zs)

pub agree_turn : (xs ys : List Tree) → Agree xs ys → Agree ys xs
agree_turn xs ys a = sym a

take_either : (n m : ℕ) (l : List Tree) → take n (take m l) ≡ take m (take n l)
take_either zero zero l = refl
take_either zero (suc m) [] = refl
take_either zero (suc m) (x ∷ l) = refl
take_either (suc n) zero [] = refl
take_either (suc n) zero (x ∷ l) = refl
take_either (suc n) (suc m) [] = refl
take_either (suc n) (suc m) (x ∷ l) = ap (λ (k : List Tree). x ∷ k) (take_either n m l)

-- as many items as are settled behind the first tokens are settled ones, or all
pub cut_items : (xs a b : List Tree) (k : ℕ) → Agree xs b → Begins a b → k ≡ length a → Begins (take k xs) a
cut_items xs a b k agree (zs, e) is =
    let le = longer a b (zs, e) in
    let same : take k xs ≡ take (length xs) a =
    ap (λ n. take n xs) is ∙ sym (take-take (length a) (length b) xs le) ∙ ap (take (length a)) agree ∙ take_either (length a) (length xs) b ∙ ap (take (length xs)) (ap (take (length a)) e ∙ front_take a zs) in
    (drop (length xs) a, sym (take-append-drop (length xs) a) ∙ ap (λ l. l ++ drop (length xs) a) (sym same))

-- the items that are kept and those behind them are all
pub items_whole : (xs ys all news : List Tree) → Begins xs all → ys ≡ drop (length xs) all → news ≡ xs ++ ys → news ≡ all
items_whole xs ys all news (zs, e) rest is =
    let behind : drop (length xs) all ≡ zs = ap (drop (length xs)) e ∙ drop-append-le (length xs) xs zs (omega arith) ∙ ap (λ l. l ++ zs) (drop_all (length xs) xs (omega arith)) in
    is ∙ ap (λ l. xs ++ l) (rest ∙ behind) ∙ sym e

-- the settled items behind tokens begin the items of a text that goes on
pub settled_trees : (text : Text) (ts : List Tok) (n : ℕ) → Begins (settled_in text (take n ts)) (trees_behind text ts)
settled_trees text ts n = subst (λ (l : List Tok). Begins (settled_in text (take n ts)) (trees_behind text l)) (take-append-drop n ts) (settled_first text (take n ts) (drop n ts))

pub settled_all : (text : Text) (ts : List Tok) → Begins (settled_in text ts) (trees_behind text ts)
settled_all text ts = subst (λ (l : List Tok). Begins (settled_in text ts) (trees_behind text l)) (append-nil ts) (settled_first text ts [])

pub settled_less : (text : Text) (ts : List Tok) (n : ℕ) → Begins (settled_in text (take n ts)) (settled_in text ts)
settled_less text ts n = subst (λ (l : List Tok). Begins (settled_in text (take n ts)) (settled_in text l)) (take-append-drop n ts) (settled_stay text (take n ts) (drop n ts))

-- texts with the same first tokens have the items that are settled behind these alike
pub shares : (text : Text) (ts us : List Tok) (n k : ℕ) → take n ts ≡ take n us → k ≡ length (settled_in text (take n ts)) → SharesFront (trees_behind text ts) (trees_behind text us) k
shares text ts us n k same is =
    let s = settled_in text (take n ts) in
    let a = settled_trees text ts n in
    let b : Begins s (trees_behind text us) = subst (λ (l : List Tok). Begins (settled_in text l) (trees_behind text us)) (sym same) (settled_trees text us n) in
    let le = longer s (trees_behind text ts) a in
    let le' = longer s (trees_behind text us) b in
    let left : take k (trees_behind text ts) ≡ s = ap (λ n. take n (trees_behind text ts)) is ∙ ap (take (length s)) a.1 ∙ front_take s a.0 in
    let right : take k (trees_behind text us) ≡ s = ap (λ n. take n (trees_behind text us)) is ∙ ap (take (length s)) b.1 ∙ front_take s b.0 in
    record { left = omega (arith, is, le); right = omega (arith, is, le'); same = left ∙ sym right }

on_split : (G : Table) (xs ys : List Tok) (p : Parser) → faults_on G (xs ++ ys) p ≡ faults_on G xs p ++ faults_on G ys (run_on G xs p)
on_split G [] ys p = refl
on_split G (t ∷ xs) ys p = ap (λ fs. (step G p t).faults ++ fs) (on_split G xs ys (step G p t).parser) ∙ sym (append_assoc (step G p t).faults (faults_on G xs (step G p t).parser) (faults_on G ys (run_on G xs (step G p t).parser)))

-- the faults of first tokens are the first ones
first_faults : (text : Text) (ts : List Tok) (n : ℕ) → (fs : List Fault) × (faults text ts ≡ faults text (take n ts) ++ fs)
unfolding faults
first_faults text ts n =
    let p = start (grammar text) in
    (faults_on (grammar text) (drop n ts) (run_on (grammar text) (take n ts) p), ap (λ l. faults_on (grammar text) l p) (sym (take-append-drop n ts)) ∙ on_split (grammar text) (take n ts) (drop n ts) p)

told_take : (xs ys : List Fault) → take (length xs) (map told (xs ++ ys)) ≡ map told xs
told_take xs ys =
    let many = length-map xs told in
    ap (take (length xs)) (map-append told xs ys) ∙ take-append-le (length xs) (map told xs) (map told ys) (omega (arith, many)) ∙ take_all (length xs) (map told xs) (omega (arith, many))

-- as many faults as came with the first tokens are theirs
pub cut_faults : (text : Text) (ts : List Tok) (n k : ℕ) (fs gs : List SyntaxFault) → take (length (faults text ts)) (map fault_of fs) ≡ map told (faults text ts) → k ≡ length (faults text (take n ts)) → gs ≡ take k fs
    → map fault_of gs ≡ map told (faults text (take n ts))
cut_faults text ts n k fs gs kept is cut =
    let (rest, e) = first_faults text ts n in
    let first = faults text (take n ts) in
    let le : length first ≤ length (faults text ts) = omega (arith, ap length e ∙ length-append first rest) in
    ap (map fault_of) cut ∙ sym (take-map fault_of k fs) ∙ ap (λ n. take n (map fault_of fs)) is ∙ sym (take-take (length first) (length (faults text ts)) (map fault_of fs) le)
    ∙ ap (take (length first)) (kept ∙ ap (map told) e) ∙ told_take first rest

-- faults that came with tokens, and others behind them
pub faults_first : (xs : List Fault) (fs : List Told) (more : List Told) → fs ≡ map told xs ++ more → take (length xs) fs ≡ map told xs
faults_first xs fs more e =
    let many = length-map xs told in
    ap (take (length xs)) e ∙ take-append-le (length xs) (map told xs) more (omega (arith, many)) ∙ take_all (length xs) (map told xs) (omega (arith, many))

-- the same of the code's faults
pub kept_faults : (text : Text) (ts : List Tok) (fs gs : List SyntaxFault) → map fault_of fs ≡ map told (faults text ts) → take (length (faults text ts)) (map fault_of (fs ++ gs)) ≡ map told (faults text ts)
kept_faults text ts fs gs e = faults_first (faults text ts) (map fault_of (fs ++ gs)) (map fault_of gs) (map-append fault_of fs gs ∙ ap (λ xs. xs ++ map fault_of gs) e)

-- nothing agrees with anything
pub agree_none : (xs : List Tree) → Agree [] xs
agree_none [] = refl
agree_none (x ∷ xs) = refl

-- no token, no fault
pub no_faults_kept : (text : Text) (fs : List SyntaxFault) → take (length (faults text [])) (map fault_of fs) ≡ map told (faults text [])
unfolding faults
no_faults_kept text fs = refl

-- what is begun is kept
pub begun_kept : (ts : List Tok) (k : KeptParse) → IsBegun ts k → HasParsed ts k
unfolding HasParsed
begun_kept ts k b = record {
  start = b.start;
  passed = b.passed;
  items = agree_begins (trees_of k.parsed.tree) (settled_in (text_in k) ts) b.items;
  faults = faults_first (faults (text_in k) ts) (map fault_of k.parsed.faults.items) [] (b.faults ∙ sym (append-nil (map told (faults (text_in k) ts))));
}
