-- Parameters of a declaration, a type of its own, and roots that are closed: by what their calls do.
use Rattle.std.proofs.Common.{◌≡◌, ◌≢◌, ◌∙◌, inl, inr, ℕ, zero, suc, ◌+◌, List, [], ◌∷◌, ◌++◌, length, All, Some, refl, sym, ap, subst, arith}
use Rattle.std.specs.Prelude.{slice_get}
use Rattle.std.proofs.lemmas.Option.{slice_get_within}
use Rattle.type_nodes.proofs.Lists.{get-append_left, get-append_cases, length-snoc}
use Rattle.type_model.specs.Types.{Path, Typ}
use Rattle.type_model.specs.Types.{Typ as type}
use Rattle.signature_model.specs.Declarations.{parameters_from}
use Rattle.type_nodes.specs.Nodes.{Node, IsNode, Var, Tuple, Con}
use Rattle.type_nodes.specs.Changes.{Makes}
use Rattle.level_unify.specs.Generalising.{Generalised}
use Rattle.typing_state.specs.declared.parts.Parts.{Parts}
use Rattle.typing_state.specs.Goes.{OnlyStore}
use Rattle.typing_state.specs.Types.{MakesVar, any_scope}
use Rattle.typing_conditions.specs.Locals.{ClosesAll}
use Rattle.typing_conditions.specs.Frames.{Frame}
use Rattle.typing_conditions.proofs.Bindings.{generalised_closes, closes_then}
use Rattle.typing_conditions.proofs.Closing.{closed_own}
use Rattle.typing_steps.specs.States.{sight}
use Rattle.typing_steps.proofs.Seeing.{only_nodes, level_here}
use Rattle.declared_rows.specs.Assignments.{Assignment, Assigns, Denotes}
use Rattle.declared_rows.proofs.Going.{assigned_refl, assigned_then, denotes_on}
use Rattle.declared_rows.proofs.Made.{parameter_made}
use Rattle.declared_rows.proofs.Own.{own_denotes, root_denotes}
use Rattle.decl_typing.specs.Parameters.{ParametersMade, MakesParameters, MakesDeclared, MakesOwn, ClosesRoots}

-- no parameter is made yet
pub no_parameters : (a : Parts) → MakesParameters a a []
no_parameters a F U A at = record { on = assigned_refl at; are = λ k p e. absurd (cc) }

-- one more is made
pub one_parameter : (a b d : Parts) (ps : List ℕ) (n : ℕ) → MakesParameters a b ps → MakesVar b d n any_scope → OnlyStore b d → MakesParameters a d (ps ++ n ∷ [])
one_parameter a b d ps n first made rest F U A at =
    let x = first F U A at in
    let y = parameter_made {s = b.store.trail} {u = d.store.trail} x.on.assigns scoped (subst (λ l. Makes b.store d.store n (Var l any_scope)) (level_here b x.on.assigns.reached) made) (only_nodes b d rest) in
    subst (λ k. ParametersMade F k U a d A (ps ++ n ∷ [])) (sym (length-snoc ps n)) (record {
      on = assigned_then x.on y.on;
      are = λ k p e. elim (get-append_cases ps n k p e) [
        | inl i ↦ denotes_on x.on.assigns y.on (x.are k p i)
        | inr (f, g) ↦ subst (λ j. Denotes y.on.after p (type.Var j)) (sym f) (subst (λ m. Denotes y.on.after m (type.Var (length ps))) (sym g) y.denotes)
      ];
    })
  where
    scoped : any_scope ≢ 0
    scoped e = omega arith

-- nodes of parameters are in the store
pub parameters_inside : {F : Frame} {arity : ℕ} {U : List ℕ} {A : Assignment} (a : Parts) (ps : List ℕ) → Assigns F arity U (sight a) A → ((k p : ℕ) → slice_get ps k ≡ Some p → (t : Typ) × Denotes A p t) → All (IsNode a.store.nodes) ps
parameters_inside a [] at h k d lt = absurd (omega arith)
parameters_inside a (p ∷ ps) at h zero d lt = let (t, x) = h 0 p refl in (at.opens p x.known).inside
parameters_inside a (p ∷ ps) at h (suc k) d lt = parameters_inside a ps at (λ j q e. h (suc j) q e) k d (omega arith)

-- and so is one more
inside_more : (nodes : List Node) (ps : List ℕ) (m : ℕ) → All (IsNode nodes) ps → IsNode nodes m → All (IsNode nodes) (ps ++ m ∷ [])
inside_more nodes [] m all here zero d lt = here
inside_more nodes [] m all here (suc k) d lt = absurd (omega arith)
inside_more nodes (p ∷ ps) m all here zero d lt = all 0 d (omega arith)
inside_more nodes (p ∷ ps) m all here (suc k) d lt = inside_more nodes ps m (λ j e le. all (suc j) e (omega arith)) here k d (omega arith)

-- the root of a declaration without parameters is its body
pub root_alone : (a : Parts) (ps : List ℕ) (body : ℕ) → ps ≡ [] → MakesDeclared a a ps body body
root_alone a ps body none = subst (λ qs. MakesDeclared a a qs body body) (sym none) (λ F arity U A t at params d. record { on = assigned_refl at; denotes = d })

-- and of one with parameters the tuple of them and its body
pub root_tuple : (a b : Parts) (ps : List ℕ) (body root : ℕ) → (ps ≡ [] → ⊥) → (All (IsNode a.store.nodes) (ps ++ body ∷ []) → Makes a.store b.store root (Tuple (ps ++ body ∷ []))) → OnlyStore a b → MakesDeclared a b ps body root
root_tuple a b [] body root some makes rest F arity U A t at params d = absurd (some refl)
root_tuple a b (p ∷ ps) body root some makes rest F arity U A t at params d =
    root_denotes {s = a.store.trail} {u = b.store.trail} p ps at params d
    (makes (inside_more a.store.nodes (p ∷ ps) body (parameters_inside a (p ∷ ps) at (λ k q e. (type.Var k, params k q e))) (at.opens body d.known).inside)) (only_nodes a b rest)

-- a type of its own: its body, and then its root
pub own_made : (a b d : Parts) (ps : List ℕ) (path : Path) (name : List ℕ) (root body : ℕ) → (All (IsNode a.store.nodes) ps → Makes a.store b.store body (Con path name ps)) → OnlyStore a b → MakesDeclared b d ps body root → MakesOwn a d ps path root body
own_made a b d ps path name root body makes rest declared F arity U A at params =
    let made = makes (parameters_inside a ps at (λ k q e. (type.Var k, params k q e))) in
    let x = own_denotes {s = a.store.trail} {u = b.store.trail} path name at params made (only_nodes a b rest) in
    let y = declared F arity U x.on.after (type.Con path (parameters_from 0 (length ps))) x.on.assigns (λ k p e. denotes_on at x.on (params k p e)) x.denotes in
    record { on = assigned_then x.on y.on; of_body = denotes_on x.on.assigns y.on x.denotes; of_root = y.denotes }

-- no root is closed yet
pub closes_none : (a : Parts) → ClosesRoots a a []
closes_none a inside K own = record { len = refl; binds = λ v l o e free above h. absurd (cc); stays = λ n h. refl }

-- what is in the second of two lists has a later place in both
in_back : (rs ss : List ℕ) (k r : ℕ) → slice_get ss k ≡ Some r → slice_get (rs ++ ss) (length rs + k) ≡ Some r
in_back [] ss k r e = ap (slice_get ss) (let f : 0 + k ≡ k = omega arith in f) ∙ e
in_back (q ∷ rs) ss k r e = ap (slice_get (q ∷ rs ++ ss)) (let f : length (q ∷ rs) + k ≡ suc (length rs + k) = omega arith in f) ∙ in_back rs ss k r e

-- some roots are closed, and then others
pub closes_both : (a b d : Parts) (rs ss : List ℕ) → ClosesRoots a b rs → OnlyStore a b → ClosesRoots b d ss → ClosesRoots a d (rs ++ ss)
closes_both a b d rs ss first rest others inside K own =
    let one = first (λ k r e. inside k r (get-append_left rs ss k (slice_get_within rs k r e) ∙ e)) K own in
    let two = others (λ k r e. let i = inside (length rs + k) r (in_back rs ss k r e) in let l = one.len in omega arith) K (closed_own a.store.nodes b.store.nodes K rs a.level own one) in
    closes_then a.store.nodes b.store.nodes d.store.nodes K rs ss a.level one (subst (ClosesAll b.store.nodes d.store.nodes K ss) rest.level two)

-- one root is closed
pub closes_root : (a b : Parts) (r : ℕ) → (IsNode a.store.nodes r → Generalised a.store.nodes b.store.nodes r a.level) → ClosesRoots a b (r ∷ [])
closes_root a b r bound inside K own = generalised_closes a.store.nodes b.store.nodes K r a.level own (inside 0 r refl) (bound (inside 0 r refl))
