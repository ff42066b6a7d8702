-- The machine values of a block's start and of the claim on it. Assumes `Logic`.
use Rattle.std.proofs.Common.{◌≡◌, ℕ, List, [], ◌∷◌, ◌++◌, refl, ap, ◌∙◌}
use seplogic.Ra.Ura.{Ura}
use mir.Val.{Val, vstruct, vcons, vnil, of_list}
use base.Logic.{ent, emp}
use types.Logic.{Logic, sem}
use types.Kit.{Goal, Step, step, Seq, Item, ‵, ◌$◌, move, drop as skip, fsplit, fjoin, fpick, fpack, feq_l, feq_i}
use denote.RattleType.{RattleType, Valss}
use denote.Laws.{Is}
use denote.RawPtr.{Ptr, ptr_val}
use denote.Shadow.{makes_shadow, pure_i}
use denote.Steps.{nothing}
use denote.Struct.Struct.{Struct, within}
use denote.Struct.Owning.{shape}
use denote.Struct.Declared as Declared
use denote.Struct.Tuple.{Tuple, tuple_type}
use Rattle.core.proofs.alloc.Calls.{token}
use Rattle.core.proofs.slots.Leases.{block_ty}
use Rattle.std_alloc.proofs.VecSteps.El.{El, R, P, Hd}
use Rattle.std_alloc.proofs.vec.Blocks.{el}
use Rattle.gap_bytes.specs.contracts.block.Claim as claim
use Rattle.gap_bytes.specs.contracts.block.Start as start

-- a block's start
abbrev pub start_val : Ptr → Val
start_val p = vstruct (vcons (ptr_val p) vnil)

module _ (X : RattleType) where
  -- what is owned of a start tells its machine value
  pub start_told : (x : (start.the_row X).Denot) (vs : List Val) → Is (start.the_row X) x vs → vs ≡ start_val x.ptr ∷ []
  start_told x vs is = is.1.0 ∙ ap (λ (ws : List Val). vstruct (of_list (ws ++ [])) ∷ []) is.1.1.0

  -- a start is made of nothing
  pub start_made : {M : Type 1} {𝓤 : Ura M} (𝓛 : Logic 𝓤) (p : Ptr) → ent 𝓤 (emp 𝓤) (sem 𝓛 ((start.the_row X).own_val (record { ptr = p }) (start_val p ∷ [])))
  start_made 𝓛 p = makes_shadow 𝓛 ((start.the_row X).own_val (record { ptr = p }) (start_val p ∷ [])) (λ vss. (tt, (tt, tt))) ((ptr_val p ∷ [], tt), (refl, (refl, tt)))

-- a claim on a block takes no bytes
abbrev pub claim_val : Val
claim_val = vstruct (vcons (vstruct vnil) vnil)

module _ (E : El) where
  abbrev pub Claims : RattleType
  Claims = claim.the_row (R E) (P E) E.al.g

  -- the claim on the n places of the block at a pointer
  abbrev pub claimed : Hd E → Ptr → ℕ → Claims.Denot
  claimed a p n = record { mark = record {}; at = p; len = n; alloc = a }

module _ (E : El) {M : Type 1} {𝓤 : Ura M} {𝓛 : Logic 𝓤} {K : Type 0} {Γ : List (Item 𝓤)} {G : Goal 𝓤 𝓛.H} where
  -- a claim gives its machine value and the allocator's token
  pub claim_had : K → (d : (Claims E).Denot) (vs : List Val) → (vs ≡ claim_val ∷ [] → Seq K 𝓛 (‵ (token E.al d.alloc (block_ty (el E) d.len) d.at) ∷ Γ) G) → Seq K 𝓛 (‵ ((Claims E).own_val d vs) ∷ Γ) G
  claim_had t d vs k =
      fsplit t $ fpick t (λ vss. fsplit t $ feq_l t (λ whole. fsplit t $ fpick t (λ uss. fsplit t $ feq_l t (λ none. skip t $ skip t $
      k (whole ∙ ap (λ (ws : List Val). vstruct (of_list (ws ++ [])) ∷ []) none)))))

  -- the token is made a claim
  pub claim_made : K → (a : Hd E) (p : Ptr) (n : ℕ) → Step K 𝓛 (‵ ((Claims E).own_val (claimed E a p n) (claim_val ∷ [])) ∷ Γ) G (‵ (token E.al a (block_ty (el E) n) p) ∷ Γ) G
  claim_made t a p n = step (λ s.
      pure_i t ((Struct (shape (claim.the_type (R E) (P E) E.al.g))).own_val (tt, tt) (claim_val ∷ [])) (λ vss. (tt, ((λ uss. (tt, tt)), tt))) ((vstruct vnil ∷ [], tt), (refl, ((tt, (refl, tt)), tt))) $ fjoin t $ s)

-- three machine values side by side
abbrev pub three_val : Val → Val → Val → Val
three_val u v w = vstruct (vcons u (vcons v (vcons w vnil)))

-- a triple is made of its three values, the last of which is at the head
pub three_made : {M : Type 1} {𝓤 : Ura M} {𝓛 : Logic 𝓤} {K : Type 0} {Γ : List (Item 𝓤)} {G : Goal 𝓤 𝓛.H} → K → (A B C : RattleType) (x : A.Denot) (y : B.Denot) (z : C.Denot) (u v w : Val)
    → Step K 𝓛 (‵ ((Tuple (A ∷ B ∷ C ∷ [])).own_val (x, y, z) (three_val u v w ∷ [])) ∷ Γ) G (‵ (C.own_val z (w ∷ [])) ∷ ‵ (B.own_val y (v ∷ [])) ∷ ‵ (A.own_val x (u ∷ [])) ∷ Γ) G
three_made t A B C x y z u v w = step (λ s.
    nothing t $ move t (1 ∷ 0 ∷ []) $ fjoin t $ move t (1 ∷ 0 ∷ []) $ fjoin t $ move t (1 ∷ 0 ∷ []) $ fjoin t $
    feq_i t (List Val) (three_val u v w ∷ []) (three_val u v w ∷ []) refl $ fjoin t $
    fpack t (Valss (A ∷ B ∷ C ∷ [])) (within (Declared.shape (tuple_type (A ∷ B ∷ C ∷ []))) (x, (y, (z, tt))) (three_val u v w ∷ [])) (u ∷ [], (v ∷ [], (w ∷ [], tt))) $ s)
