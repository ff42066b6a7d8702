-- A text without a fault has the tree that the rules for one token give it, and a text to which they give a fault has one.
use Rattle.std.proofs.Common.{◌≡◌, ℕ, zero, suc, Bool, true, false, ◌&&◌, List, [], ◌∷◌, ◌++◌, Option, Some, None, refl, sym, ◌∙◌, ap, subst, if◌then◌else◌}
use Rattle.token_model.specs.Kinds.{Tok}
use Rattle.grammar_model.specs.Trees.{Tree}
use Rattle.grammar_model.specs.Tables.{Table}
use Rattle.grammar_model.specs.Machine.{Stack, frame}
use Rattle.recovery_model.specs.Steps as rules
use Rattle.recovery_model.specs.Steps.{Fault, close_up, some_fault, last_fault}
use Rattle.recovery_model.specs.Items.{State, state, Mark, sound, held, marked, Item, item, Parser, parser, Stepped, stepped, has_item, begins_item, item_behind, is_cut, cut_step}
use Rattle.recovery_model.specs.Recovery.{faulted, item_after, go_on, retake_by, retake, with_faults, retake_all, go_back, with_token, step_sound, is_marked, step_item, step_by, step, ended, close_mark, close_item, close, recovered, start, recover}

-- the first of tokens is a cut token of an item in a column, on these frames
abbrev pub StartsCut : Table → ℕ → State → List Tok → Type 0
StartsCut G col s [] = ⊥
StartsCut G col s (t ∷ ts) = is_cut col t (rules.step G s.stack s.place t) ≡ true

-- what is known of an item without a fault
abbrev IsCalm : Table → ℕ → Mark → Type 0
IsCalm G col sound = Unit {0}
IsCalm G col (held s ts) = StartsCut G col s ts
IsCalm G col marked = ⊥

-- the open item, if there is one, has no fault
abbrev AllCalm : Table → Option Item → Type 0
AllCalm G None = Unit {0}
AllCalm G (Some i) = IsCalm G i.col i.mark

-- the item behind a token that was taken without a fault
behind_calm : (G : Table) (S : Stack) (t : Tok) (i : Option Item) → AllCalm G i → AllCalm G (item_behind S t i)
behind_calm G S t i calm = by (begins_item S) (has_item S)
  where
    by : (b c : Bool) → AllCalm G (if b then Some (item t.col sound) else (if c then i else None))
    by true c = tt
    by false true = calm
    by false false = tt

-- one token more is kept
more_calm : (G : Table) (s : State) (t : Tok) (col : ℕ) (m : Mark) (c : Bool) → is_cut col t (rules.step G s.stack s.place t) ≡ c → IsCalm G col m → IsCalm G col (with_token s t c m)
more_calm G s t col sound true e calm = e
more_calm G s t col sound false e calm = tt
more_calm G s t col (held q []) true e calm = absurd calm
more_calm G s t col (held q []) false e calm = absurd calm
more_calm G s t col (held q (u ∷ us)) true e calm = calm
more_calm G s t col (held q (u ∷ us)) false e calm = calm
more_calm G s t col marked true e calm = absurd calm
more_calm G s t col marked false e calm = absurd calm

-- an item that has no fault isn't marked
calm_free : (G : Table) (col : ℕ) (m : Mark) (c : Bool) → IsCalm G col m → (c && is_marked m) ≡ false
calm_free G col sound true calm = refl
calm_free G col sound false calm = refl
calm_free G col (held q ts) true calm = refl
calm_free G col (held q ts) false calm = refl
calm_free G col marked c calm = absurd calm

-- a token without a fault: the same frames, and an item without a fault
record Calmly (G : Table) (p : Parser) (t : Tok) (W : Stack) (place : ℕ) : Type 0 where
  item : Option Item
  stepped : step G p t ≡ stepped (parser (state W place) item) []
  calm : AllCalm G item

step_calm : (G : Table) (p : Parser) (t : Tok) (W : Stack) (place : ℕ) → rules.step G p.state.stack p.state.place t ≡ rules.stepped W place None → AllCalm G p.item → Calmly G p t W place
unfolding step
step_calm G p t W place e calm = by p.item refl calm
  where
    by : (o : Option Item) → p.item ≡ o → AllCalm G o → Calmly G p t W place
    by None is calm = record {
      item = item_behind W t None;
      stepped = rw (is, e) refl;
      calm = behind_calm G W t None tt;
    }
    by (Some i) is calm =
        let s = p.state in
        let c : Bool = is_cut i.col t (rules.step G s.stack s.place t) in
        let m : Mark = with_token s t c i.mark in
        record {
          item = item_behind W t (Some (item i.col m));
          stepped = ap (λ o. step_by G s o t (rules.step G s.stack s.place t)) is
              ∙ ap (λ b. if b then cut_step G s t else step_sound G i.col t (rules.step G s.stack s.place t) (rules.step G s.stack s.place t).fault m) (calm_free G i.col i.mark c calm)
              ∙ ap (λ r. step_sound G i.col t r r.fault m) e;
          calm = behind_calm G W t (Some (item i.col m)) (more_calm G s t i.col i.mark c refl calm);
        }

-- no part is missing where that gives no fault
no_holes : (n place : ℕ) → last_fault n place ≡ [] → n ≡ 0
no_holes zero place h = refl
no_holes (suc n) place h = absurd (cc)

-- the end, where no part is missing
close_whole : (G : Table) (p : Parser) → last_fault (close_up G p.state.stack p.state.place).1 p.state.place ≡ [] → close G p ≡ ended G p.state []
unfolding close
close_whole G p h = ap (λ n. close_item G p.state n p.item) (no_holes (close_up G p.state.stack p.state.place).1 p.state.place h)

-- where the rules for one token give no fault, the parser goes on as they do
gives : (G : Table) (ts : List Tok) (p : Parser) → AllCalm G p.item → (rules.recovered G ts p.state.stack p.state.place).1 ≡ [] → recovered G ts p ≡ rules.recovered G ts p.state.stack p.state.place
gives G [] p calm h = close_whole G p h
gives G (t ∷ ts) p calm h = by r.fault refl (λ i calm h. gives G ts (parser (state r.stack r.place) i) calm h) h
  where
    r : rules.Stepped
    r = rules.step G p.state.stack p.state.place t

    by : (o : Option Fault) → r.fault ≡ o → ((i : Option Item) → AllCalm G i → (rules.recovered G ts r.stack r.place).1 ≡ [] → recovered G ts (parser (state r.stack r.place) i) ≡ rules.recovered G ts r.stack r.place)
        → some_fault o (rules.recovered G ts r.stack r.place).1 ≡ [] → recovered G (t ∷ ts) p ≡ rules.recovered G (t ∷ ts) p.state.stack p.state.place
    by (Some f) e go h = absurd (cc)
    by None e go h =
        let c = step_calm G p t r.stack r.place (ap (rules.stepped r.stack r.place) e) calm in
        let q = rules.recovered G ts r.stack r.place in
        ap (λ x. let q = recovered G ts x.parser in (q.0, x.faults ++ q.1)) c.stepped
        ∙ ap (λ q. (q.0, q.1)) (go c.item c.calm h)
        ∙ ap (λ o. (q.0, some_fault o q.1)) (sym e)

-- lists that are empty together are so each
first_empty : {A : Type 0} (xs ys : List A) → xs ++ ys ≡ [] → xs ≡ []
first_empty [] ys h = refl
first_empty (x ∷ xs) ys h = absurd (cc)

second_empty : {A : Type 0} (xs ys : List A) → xs ++ ys ≡ [] → ys ≡ []
second_empty [] ys h = h
second_empty (x ∷ xs) ys h = absurd (cc)

-- going back gives a fault, that of the first cut
back_faulty : (G : Table) (col : ℕ) (s : State) (ts : List Tok) → StartsCut G col s ts → (go_back G col s ts).faults ≡ [] → ⊥
back_faulty G col s [] c h = c
back_faulty G col s (t ∷ ts) c h =
    let e : retake G (parser s (Some (item col sound))) t ≡ cut_step G s t
    = ap (λ b. if b then cut_step G s t else go_on (Some (item col sound)) t (rules.step G s.stack s.place t)) c in
    let none = subst (λ x. x.faults ++ (retake_all G ts x.parser).faults ≡ []) e h in
    let first = first_empty (cut_step G s t).faults (retake_all G ts (cut_step G s t).parser).faults none in
    cc

-- a token whose rules give a fault has one
step_faulty : (G : Table) (p : Parser) (t : Tok) → AllCalm G p.item → (step G p t).faults ≡ [] → (rules.step G p.state.stack p.state.place t).fault ≡ None
unfolding step
step_faulty G p t calm h = by r.fault refl
  where
    r : rules.Stepped
    r = rules.step G p.state.stack p.state.place t

    one : (f : Fault) → r.fault ≡ Some f → some_fault r.fault [] ≡ [] → ⊥
    one f e h = let x : f ∷ [] ≡ [] = subst (λ o. some_fault o [] ≡ []) e h in cc

    in_item : (col : ℕ) (m : Mark) (f : Fault) → r.fault ≡ Some f → IsCalm G col m → (step_sound G col t r (Some f) m).faults ≡ [] → ⊥
    in_item col sound f e calm h = one f e h
    in_item col (held q ts) f e calm h = back_faulty G col q ts calm h
    in_item col marked f e calm h = absurd calm

    with_item : (o : Option Item) → AllCalm G o → (step_by G p.state o t r).faults ≡ [] → (f : Fault) → r.fault ≡ Some f → ⊥
    with_item None calm h f e = one f e h
    with_item (Some i) calm h f e =
        let s = p.state in
        let c : Bool = is_cut i.col t r in
        let m : Mark = with_token s t c i.mark in
        in_item i.col m f e (more_calm G s t i.col i.mark c refl calm)
        (subst (λ o. (step_sound G i.col t r o m).faults ≡ []) e
        (subst (λ b. (if b then cut_step G s t else step_sound G i.col t r r.fault m).faults ≡ []) (calm_free G i.col i.mark c calm) h))

    by : (o : Option Fault) → r.fault ≡ o → r.fault ≡ None
    by None e = e
    by (Some f) e = absurd (with_item p.item calm h f e)

-- where the end gives no fault, no part is missing
close_faulty : (G : Table) (p : Parser) → AllCalm G p.item → (close G p).1 ≡ [] → last_fault (close_up G p.state.stack p.state.place).1 p.state.place ≡ []
unfolding close
close_faulty G p calm h = by (close_up G p.state.stack p.state.place).1 p.item calm h
  where
    by : (n : ℕ) (o : Option Item) → AllCalm G o → (close_item G p.state n o).1 ≡ [] → last_fault (close_up G p.state.stack p.state.place).1 p.state.place ≡ []
    by zero o calm h = h
    by (suc n) None calm h = h
    by (suc n) (Some i) calm h = in_item i.mark calm h
      where
        in_item : (m : Mark) → IsCalm G i.col m → (close_mark G p.state i.col m).1 ≡ [] → last_fault (close_up G p.state.stack p.state.place).1 p.state.place ≡ []
        in_item sound calm h = h
        in_item marked calm h = h
        in_item (held q ts) calm h = absurd (back_faulty G i.col q ts calm (first_empty (go_back G i.col q ts).faults _ h))

-- where the parser gives no fault, the rules for one token give none
gives_back : (G : Table) (ts : List Tok) (p : Parser) → AllCalm G p.item → (recovered G ts p).1 ≡ [] → (rules.recovered G ts p.state.stack p.state.place).1 ≡ []
gives_back G [] p calm h = close_faulty G p calm h
gives_back G (t ∷ ts) p calm h =
    let r = rules.step G p.state.stack p.state.place t in
    let e = step_faulty G p t calm (first_empty (step G p t).faults (recovered G ts (step G p t).parser).1 h) in
    let c = step_calm G p t r.stack r.place (ap (rules.stepped r.stack r.place) e) calm in
    let rest : (recovered G ts (parser (state r.stack r.place) c.item)).1 ≡ []
    = subst (λ x. (recovered G ts x.parser).1 ≡ []) c.stepped (second_empty (step G p t).faults (recovered G ts (step G p t).parser).1 h) in
    ap (λ o. some_fault o (rules.recovered G ts r.stack r.place).1) e ∙ gives_back G ts (parser (state r.stack r.place) c.item) c.calm rest

-- a text to which the rules for one token give no fault has their tree, and no fault
pub unchanged : (G : Table) (ts : List Tok) → (rules.recover G ts).1 ≡ [] → recover G ts ≡ rules.recover G ts
unfolding recover rules.recover
unchanged G ts h = gives G ts (start G) tt h

-- a text to which they give a fault has one
pub still_faulty : (G : Table) (ts : List Tok) → (recover G ts).1 ≡ [] → (rules.recover G ts).1 ≡ []
unfolding recover rules.recover
still_faulty G ts h = gives_back G ts (start G) tt h
