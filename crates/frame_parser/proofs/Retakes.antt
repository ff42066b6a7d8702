-- Tokens that are taken again, one after the other.
use Rattle.std.proofs.Common.{◌≡◌, ℕ, ◌+◌, ◌<◌, ◌≤◌, List, [], ◌∷◌, ◌++◌, length, map, take, Option, Some, None, true, false, if◌then◌else◌, sym, ◌∙◌, ap, subst, arith}
use Rattle.std.proofs.lemmas.List.{map-append, length-map, length-take}
use Rattle.token_model.specs.Kinds.{Tok}
use Rattle.grammar_model.specs.Ocaml.{Text, grammar}
use Rattle.recovery_model.specs.Steps as rules
use Rattle.recovery_model.specs.Items.{Parser, Stepped, Item, is_cut, cut_step}
use Rattle.recovery_model.specs.Recovery.{retake_by, retake, retake_all, go_on}
use Rattle.syntax_tree.specs.View.{tok_of}
use Rattle.syntax_tree.specs.declared.tree.Token.{Token}
use Rattle.frame_steps.specs.Told.{told}
use Rattle.frame_steps.specs.View.{fault_of}
use Rattle.frame_steps.specs.declared.stack.SyntaxFault.{SyntaxFault}
use Rattle.frame_parser.specs.Shown.{IsReached, RowsReady, Shows, ShowsItem, ShowsStep}
use Rattle.frame_parser.specs.declared.stack.Item.{Item as CodeItem}
use Rattle.frame_parser.specs.declared.stack.Stack.{Stack}
use Rattle.frame_parser.specs.declared.stack.Stepped.{Stepped as CodeStepped}
use Rattle.frame_parser.proofs.Comes.{all_reached}
use Rattle.frame_parser.proofs.Lists.{retake_next}

-- the tokens before one of few are fewer
pub more_few : (tokens : List Token) (i n : ℕ) → i < length tokens → n + length tokens ≤ 1048576 → n + length (map tok_of (take i tokens)) < 1048576
more_few tokens i n lt few = let a = length-map (take i tokens) tok_of in let b = length-take i tokens in omega arith

-- one more
pub retake_more : (text : Text) (ts us : List Tok) (t : Tok) (p : Parser) (r : CodeStepped) (old now : List SyntaxFault) → us ≡ ts ++ (t ∷ []) → map fault_of old ≡ map told (retake_all (grammar text) ts p).faults
    → ShowsStep text (retake (grammar text) (retake_all (grammar text) ts p).parser t) r → map fault_of now ≡ map fault_of old ++ map fault_of r.faults.items
    → Shows text (retake_all (grammar text) us p).parser r.stack × (map fault_of now ≡ map told (retake_all (grammar text) us p).faults)
retake_more text ts us t p r old now same before step more =
    let G = grammar text in
    let x = retake_all G ts p in
    let y = retake G x.parser t in
    let e = ap (λ us. retake_all G us p) same ∙ retake_next G ts t p in (
      subst (λ (z : Stepped). Shows text z.parser r.stack) (sym e) step.stack,
      more ∙ ap (λ xs. xs ++ map fault_of r.faults.items) before ∙ ap (λ ys. map told x.faults ++ ys) step.faults ∙ sym (map-append told x.faults y.faults) ∙ ap (λ (z : Stepped). map told z.faults) (sym e),
    )

-- rows behind tokens that were taken again
pub retake_ready : (text : Text) (ts : List Tok) (n : ℕ) (p : Parser) (s : Stack) → IsReached text n p.state → Shows text (retake_all (grammar text) ts p).parser s → RowsReady (n + length ts) s.rows
retake_ready text ts n p s reached shows = record { text = text; state = (retake_all (grammar text) ts p).parser.state; shows = shows.rows; reached = all_reached text ts n p reached }

-- a cut token that is taken again
pub retake_cut : (text : Text) (p : Parser) (t : Tok) (j : CodeItem) (r : CodeStepped) → ShowsItem text p.item (Some j) → is_cut j.col t (rules.step (grammar text) p.state.stack p.state.place t) ≡ true
    → ShowsStep text (cut_step (grammar text) p.state t) r → ShowsStep text (retake (grammar text) p t) r
retake_cut text p t j r shows cuts step = by p.item shows
  where
    x : rules.Stepped
    x = rules.step (grammar text) p.state.stack p.state.place t

    by : (o : Option Item) → ShowsItem text o (Some j) → ShowsStep text (retake_by (grammar text) p.state o t x) r
    by None h = absurd h
    by (Some i) h = subst (λ b. ShowsStep text (if b then cut_step (grammar text) p.state t else go_on (Some i) t x) r) (sym (ap (λ c. is_cut c t x) (sym h.0) ∙ cuts)) step

-- another token that is
pub retake_on : (text : Text) (p : Parser) (t : Tok) (j : CodeItem) (r : CodeStepped) → ShowsItem text p.item (Some j) → is_cut j.col t (rules.step (grammar text) p.state.stack p.state.place t) ≡ false
    → ((i : Item) → ShowsItem text (Some i) (Some j) → ShowsStep text (go_on (Some i) t (rules.step (grammar text) p.state.stack p.state.place t)) r) → ShowsStep text (retake (grammar text) p t) r
retake_on text p t j r shows cuts step = by p.item shows
  where
    x : rules.Stepped
    x = rules.step (grammar text) p.state.stack p.state.place t

    by : (o : Option Item) → ShowsItem text o (Some j) → ShowsStep text (retake_by (grammar text) p.state o t x) r
    by None h = absurd h
    by (Some i) h = subst (λ b. ShowsStep text (if b then cut_step (grammar text) p.state t else go_on (Some i) t x) r) (sym (ap (λ c. is_cut c t x) (sym h.0) ∙ cuts)) (step i h)

-- where no item is open
pub retake_none : (text : Text) (p : Parser) (t : Tok) (r : CodeStepped) → ShowsItem text p.item None → ShowsStep text (go_on None t (rules.step (grammar text) p.state.stack p.state.place t)) r → ShowsStep text (retake (grammar text) p t) r
retake_none text p t r shows step = by p.item shows
  where
    by : (o : Option Item) → ShowsItem text o None → ShowsStep text (retake_by (grammar text) p.state o t (rules.step (grammar text) p.state.stack p.state.place t)) r
    by None h = step
    by (Some i) h = absurd h
