use Rattle.type_substitution.specs.Substituting.{IsSubstituted}
use Rattle.type_terms.specs.declared.types.NodeRef.{NodeRef}
use Rattle.std.proofs.lemmas.Result.{IfOk-weaker}
use Rattle.typing_state.proofs.Silence.{store_silent}
use Rattle.std.proofs.Common.{sym, subst, refl, Result, Ok, Err, ◌≡◌, ◌∙◌, ◌++◌, ◌∷◌, [], List, ℕ, ap}
use Rattle.std.specs.Prelude.{All, OnOk}
use Rattle.type_nodes.specs.Nodes.{IsNode}
use Rattle.type_nodes.specs.Views.{numbers}
use Rattle.level_unify.proofs.Tightening.{extends_tightens}
use Rattle.typing_state.proofs.Going.{put_goes}
use Rattle.type_reading.proofs.Extending.{node_extends}
use Rattle.type_reading.proofs.Declaring.{front}
use Rattle.type_reading.proofs.copies.applied.Goals as goal

-- what holds is so where a call succeeds
on_any : {A E P : Type 0} (r : Result A E) → P → OnOk r P
on_any (Ok x) p = p
on_any (Err e) p = tt

-- the first of a list
first : List ℕ → ℕ
first [] = 0
first (x ∷ xs) = x

-- what is behind the first of a list
behind : List ℕ → List ℕ
behind [] = []
behind (x ∷ xs) = xs

-- nothing is no list with one more at its end
no_end : (ps : List ℕ) (body : ℕ) → [] ≡ ps ++ body ∷ [] → ⊥
no_end [] body e = cc
no_end (p ∷ ps) body e = cc

-- a list with one more at its end isn't nothing
has_end : (ns : List NodeRef) (last : NodeRef) → numbers (ns ++ last ∷ []) ≡ [] → ⊥
has_end [] last e = cc
has_end (n ∷ ns) last e = cc

-- the last of some types, and those before it, by their numbers
last_of : (ns : List NodeRef) (last : NodeRef) (ps : List ℕ) (body : ℕ) → numbers (ns ++ last ∷ []) ≡ ps ++ body ∷ [] → (numbers ns ≡ ps) × (last.0 ≡ body)
unfolding first behind
last_of [] last [] body e = (refl, ap first e)
last_of [] last (p ∷ ps) body e = absurd (no_end ps body (ap behind e))
last_of (n ∷ ns) last [] body e = absurd (has_end ns last (ap behind e))
last_of (n ∷ ns) last (p ∷ ps) body e = let rest = last_of ns last ps body (ap behind e) in (ap (λ x. x ∷ numbers ns) (ap first e) ∙ ap (λ xs. p ∷ xs) rest.0, rest.1)

pub substituted-requires-clause-variables : goal.substituted-requires-clause-variables
substituted-requires-clause-variables c =
    let nodes = c.args.at.now.store.nodes in
    subst (λ ns. All (IsNode nodes) (numbers ns)) (sym c.deref.ensures.value) (front (IsNode nodes) c.args.types.items c.pop.new.self.items c.in-Some.body c.in-Some.ensures.items c.requires.types)

pub returns-in-Some-clause-goes : goal.returns-in-Some-clause-goes
returns-in-Some-clause-goes c =
    put_goes c.args.at.now c.substituted.new.store c.substituted.ensures.keeps (extends_tightens c.args.at.now.store.nodes c.substituted.new.store.nodes c.substituted.ensures.extends)

pub returns-clause-extends : goal.returns-clause-extends
returns-clause-extends c = node_extends c.var.result c.args.at.now.store c.var.new.self.store _ c.var.ensures.made

pub returns-clause-goes : goal.returns-clause-goes
returns-clause-goes c = c.var.ensures.goes

pub returns-in-Some-clause-silent : goal.returns-in-Some-clause-silent
returns-in-Some-clause-silent c = refl

pub returns-in-Some-clause-extends : goal.returns-in-Some-clause-extends
returns-in-Some-clause-extends c = on_any c.substituted.result c.substituted.ensures.extends

pub returns-clause-silent : goal.returns-clause-silent
returns-clause-silent c = store_silent c.args.at.now c.var.new.self c.var.ensures.rest

pub returns-in-Some-clause-applied : goal.returns-in-Some-clause-applied
returns-in-Some-clause-applied c =
    let old = c.args.at.now.store.nodes in
    let new = c.substituted.new.store.nodes in
    let types = numbers c.args.args.now in
    IfOk-weaker c.substituted.result _ _ (λ m made ps body e.
    let parts = last_of c.pop.new.self.items c.in-Some.body ps body (sym (ap numbers c.in-Some.ensures.items) ∙ e) in
    subst (λ b. IsSubstituted old new ps types b m.0) parts.1 (subst (λ vs. IsSubstituted old new vs types c.in-Some.body.0 m.0) (ap numbers c.deref.ensures.value ∙ parts.0) made)) c.substituted.ensures.substituted
