-- The rows that a token begins, one by one.
use Rattle.std.proofs.Common.{◌≡◌, ℕ, true, List, [], ◌∷◌, Result, IfOk, refl, sym, ◌∙◌, ap, subst}
use Rattle.std.proofs.lemmas.Result.{IfOk-weaker}
use Rattle.token_model.specs.Kinds.{Tok}
use Rattle.grammar_model.specs.Keys.{key_of}
use Rattle.grammar_model.specs.Tables.{Table, What, nothing, token, operand, takes, begins_by}
use Rattle.grammar_model.specs.Machine.{Frame, Stack, first_of, start_at}
use Rattle.grammar_model.specs.Ocaml.{row_name}
use Rattle.parse_frames.specs.Frames as frames
use Rattle.parse_frames.specs.Frames.{with_token, opened, begun}
use Rattle.parse_frames.specs.Named.{IsNamed, openings}
use Rattle.parse_frames.specs.Stacks.{stack_view}
use Rattle.parse_frames.specs.declared.stack.Stack.{Stack as FrameStack}
use Rattle.parse_frames.proofs.Named.{token_named, operand_named}

-- the first row of a chain, and then the others
pub begun_on : {E : Type 0} → (G : Table) (p r first : ℕ) (xs ys : List ℕ) (t : Tok) (s u : frames.Stack) (res : Result FrameStack E) → first ≡ first_of G r → xs ≡ r ∷ ys → u ≡ opened p r first s
    → IfOk res (λ x. stack_view x ≡ begun first (openings G ys) t u) → IfOk res (λ x. stack_view x ≡ begun p (openings G xs) t s)
begun_on G p r first xs ys t s u res f e d h =
    let same : begun first (openings G ys) t u ≡ begun p (openings G xs) t s =
    ap (λ u. begun first (openings G ys) t u) d ∙ ap (λ q. begun q (openings G ys) t (opened p r q s)) f ∙ ap (λ xs. begun p (openings G xs) t s) (sym e) in
    subst (λ z. IfOk res (λ x. stack_view x ≡ z)) same h

-- the only row of a chain
pub begun_ends : {E : Type 0} → (G : Table) (p r first : ℕ) (xs : List ℕ) (t : Tok) (s u : frames.Stack) (res : Result FrameStack E) → first ≡ first_of G r → xs ≡ r ∷ [] → u ≡ opened p r first s
    → IfOk res (λ x. stack_view x ≡ with_token first t u) → IfOk res (λ x. stack_view x ≡ begun p (openings G xs) t s)
begun_ends G p r first xs t s u res f e d h =
    let same : with_token first t u ≡ begun p (openings G xs) t s =
    ap (λ u. with_token first t u) d ∙ ap (λ q. with_token q t (opened p r q s)) f ∙ ap (λ xs. begun p (openings G xs) t s) (sym e) in
    subst (λ z. IfOk res (λ x. stack_view x ≡ z)) same h

-- a chain that begins with a key has a first row
chain_some : (G : Table) (n : ℕ) (xs : List ℕ) → begins_by G n xs ≡ true → (r : ℕ) × ((rs : List ℕ) × (xs ≡ r ∷ rs))
chain_some G n [] h = absurd (cc)
chain_some G n (r ∷ rs) h = (r, (rs, refl))

-- a token that begins the operand at a spot
pub start_operand : {E : Type 0} → (G : Table) (p s n : ℕ) (t : Tok) (v : frames.Stack) (res : Result FrameStack E) → G.what v.top.number p ≡ operand s n → takes G (G.what v.top.number p) (key_of t) ≡ true
    → IfOk res (λ x. stack_view x ≡ begun p (openings G (G.chain s (key_of t))) t v)
    → IfOk res (λ x. (f : Frame) (S : Stack) (at : ℕ) → IsNamed G row_name (f ∷ S) at v → IsNamed G row_name (start_at G f p t S) t.end (stack_view x))
start_operand G p s n t v res w k h =
    let (r, (rs, e)) = chain_some G n (G.chain s (key_of t)) (subst (λ w. takes G w (key_of t) ≡ true) w k) in
    IfOk-weaker res _ _ (λ x i f S at named.
    let wf : G.what f.number p ≡ operand s n = ap (λ v. G.what v.top.number p) named ∙ w in
    let o = operand_named G row_name f S at p s n t r rs v wf e named in
    subst (λ z. IsNamed G row_name (start_at G f p t S) t.end z) (ap (λ xs. begun p (openings G xs) t v) (sym e) ∙ sym i) o) h

-- a token that stands at a spot
pub start_token : {E : Type 0} → (G : Table) (p : ℕ) (ks : List ℕ) (t : Tok) (v : frames.Stack) (res : Result FrameStack E) → G.what v.top.number p ≡ token ks
    → IfOk res (λ x. stack_view x ≡ with_token p t v)
    → IfOk res (λ x. (f : Frame) (S : Stack) (at : ℕ) → IsNamed G row_name (f ∷ S) at v → IsNamed G row_name (start_at G f p t S) t.end (stack_view x))
start_token G p ks t v res w h =
    IfOk-weaker res _ _ (λ x i f S at named.
    let wf : G.what f.number p ≡ token ks = ap (λ v. G.what v.top.number p) named ∙ w in
    let o = token_named G row_name f S at p t ks v wf named in
    subst (λ z. IsNamed G row_name (start_at G f p t S) t.end z) (sym i) o) h

-- no token stands where nothing does
pub start_not : (G : Table) (p : ℕ) (k : ℕ) (w : What) → w ≡ nothing → takes G w k ≡ true → ⊥
start_not G p k w e h = let x : takes G nothing k ≡ true = subst (λ w. takes G w k ≡ true) e h in cc
