-- `give_block` makes room of the places, and hands it back with the claim. Assumes `Logic`.
use Rattle.std.proofs.Common.{◌≡◌, ℕ, ◌*◌, ◌^◌, ◌<◌, List, [], ◌∷◌, ◌++◌, refl, sym, subst, ap, ◌∙◌, arith, w64}
use lib.Dec.{T as Holds}
use mir.Syntax.{ty_array, ty_unit}
use mir.Val.{Val, WT, vint, vptr, vunit, has_ty}
use mir.MapTy.{inst_fn}
use base.Fml.{Lft, Share, Fml, ftrue, fsep, froom, flft, Incl-trans}
use prog.Memory.{align, capped}
use prog.Capped.{capped_fits}
use prog.Wp.{WpFn}
use types.Kit.{‵, raw, ◌⊛◌, given, later, prop, at_ret, ◌$◌, ◌∵◌, !, qed, by, move, keep, drop as skip, use1, use2, use3, split, split3, join, learn, await, rewrite, regoal, fsplit, fsplit3, fjoin, feq_i}
use types.Part.{sub, whole}
use types.Run.{stop, fld, unit_lit, of_opd, bin, size_word, align_word, no_more, and_then, first, blocks, exec, returns, enter}
use types.ByLocal.{alloc_all, pass_all, free_all, look_at, get, get_in, is, sets, lands_as, lands_last, env}
use contract.BorrowLft.{◌⊑◌}
use contract.Monad.{fact}
use contract.Running.{tables}
use denote.Exit.{yes, no}
use denote.RattleType.{owns}
use denote.Signature.{plain, types_at}
use denote.Steps.{nothing, heard}
use denote.Builtin.{RefOf}
use denote.RawPtr.{Ptr, block_ptr}
use denote.Triple.Call.{calls_at, calls_at_last}
use denote.Triple.Walked.{Stays, stay_dropped, walk_of, Goes-dropped}
use Rattle.std.proofs.raw_atomic.Walks.{proved_at, leaves}
use Rattle.core.proofs.atomic.Steps.{fm}
use Rattle.core.proofs.alloc.Calls.{token, Gives, at_gives, Gives-goes, Gives-Gives}
use Rattle.core.proofs.slots.Bodies.{after}
use Rattle.core.proofs.slots.Leases.{uncapped, block_ty, block_size, block_align}
use Rattle.core.proofs.slots.Opens.{row_val, row_had, row_made}
use Rattle.core.proofs.slots.Runs.{to_space}
use Rattle.core.proofs.slots.Slots.into_raw_parts.Met as callee
use Rattle.std_alloc.proofs.VecSteps.El.{El, Hd, args, elτ, P, sz}
use Rattle.std_alloc.proofs.vec.Blocks.{el, all}
use Rattle.std_alloc.proofs.vec.Spares.{Row, Into, at_into, Into-goes, Into-gives}
use Rattle.gap_bytes.proofs.Values.{claim_val, Claims, claim_had}
use Rattle.gap_bytes.specs.contracts.block.give_block.{ended, clauses}
use Rattle.gap_bytes.specs.contracts.block.give_block.Key.{name as #self}
use Rattle.gap_bytes.proofs.block.give_block.Statement.{statement}
use Rattle.gap_bytes.proofs.block.give_block.Code as code

pub give_block_spec : {M : Type 1} → statement M
give_block_spec 𝓤 𝓛 𝓜 𝓡 wired T A LT LA g d dd met md =
    let H = 𝓛.H in let 𝓣 = tables 𝓤 H 𝓜 𝓡 𝓡.env in
    let E : El = record { row = T; laws = LT; al = record { row = A; laws = LA; g = g; d = d; drops = dd } } in let Z = E.al in
    let En = ended T A g d dd in let c = clauses T A g d dd 𝓛 𝓜.mem 𝓡.returns in let fn = inst_fn (args E) code.function in
    let handle = RefOf (0 ∷ []) tt (plain (λ _. P E)) (λ _. tt) in let places = plain (λ _. Row E) in let claims = plain (λ _. Claims E) in
    let hs : Stays En.signature.params En.kept = (stay_dropped handle yes, (stay_dropped places no, (stay_dropped claims no, tt))) in
    proved_at 𝓛 En hs c 𝓜 𝓡
    (Goes-dropped 𝓛 3 handle yes (λ κs x f. refl), (Goes-dropped 𝓛 3 places no (λ κs x f. refl), (Goes-dropped 𝓛 3 claims no (λ κs x f. refl), tt)))
    (#self (args E)) fn (code.unfolded 𝓤 H 𝓜 𝓡 wired (T, (A, tt)) d dd) (λ z are.
    let Post = (walk_of 𝓛 En hs c).post z in let a = z.0.3 in let vss = z.0.4 in
    let κ : Lft = z.0.0.0 in let q : Share = z.0.1.0 in let κT : Lft = z.0.0.1.0 in let qT : Share = z.0.1.1.0 in
    let hp : ℕ × ℕ = a.0.ref_ptr in let heap : Hd E = a.0.now in let h : (Row E).Denot = a.1.0 in let held : (Claims E).Denot = a.1.1.0 in
    let n : ℕ = h.len in let s : ℕ = sz E in let al : ℕ = capped (align (elτ E)) in
    let Asked : Type 0 = (held.at ≡ h.ptr) × (held.len ≡ n) × (held.alloc ≡ heap) in
    let rest : Fml = fsep (flft z.0.0.1.1.0 z.0.1.1.1.0) ftrue in
    qed 𝓛 (((‵ (flft κ q) ⊛ ‵ (flft κT qT) ⊛ ‵ rest) ⊛ ‵ (owns (types_at En.signature.params z.0.0) a vss)) ∷ (raw (fact 𝓤 (κT ⊑ T.lives)) ⊛ raw (fact 𝓤 (z.0.0.1.1.0 ⊑ A.lives)) ⊛ raw (fact 𝓤 Asked)) ∷ []) ∵
    move ! (1 ∷ []) $ split ! $ heard ! (κT ⊑ T.lives) (λ inT. split ! $ heard ! (z.0.0.1.1.0 ⊑ A.lives) (λ inA. heard ! Asked (λ asked.
    split ! $ split3 ! $ move ! (3 ∷ []) $ fsplit3 ! $ fsplit ! $ skip ! $ move ! (1 ∷ []) $ row_had (el E) ! h vss.1.0 (λ b o at told fits small. row_made (el E) ! h b o at fits small $
    let bytes : n * s < 2 ^ 64 = omega arith in let words : WT (row_val b o n) = (tt, (record { fits = fits }, tt)) in
    move ! (2 ∷ []) $ fsplit ! $ claim_had E ! held vss.1.1.0 (λ bare.
    rewrite ! 0 (λ (u : Hd E × ℕ × Ptr). ‵ (token Z u.0 (block_ty (el E) u.1) u.2)) {x = (heap, n, block_ptr b o)} (λ i. (asked.2 i, asked.1 i, (asked.0 ∙ at) i)) refl $
    keep ! (2 ∷ 0 ∷ 3 ∷ 4 ∷ 5 ∷ 6 ∷ []) $
    -- [the places; the allocator's token; the handle; its token; T's token; the rest]
    regoal ! (λ (us : List Val). prop (WpFn 𝓤 H 𝓣.C 𝓣.Λ fn us Post)) (λ i. are.0.0 i ++ (told i ++ (bare i ++ []))) refl $
    enter ! 𝓣.C 𝓣.Λ fn (vptr hp.0 hp.1 ∷ row_val b o n ∷ claim_val ∷ []) Post $ alloc_all ! (λ l. pass_all ! refl ((tt, tt), ((tt, words), ((tt, (tt, tt)), tt))) $
    let Ev = env fn.locals l in let x = at_into E 𝓛 𝓜.mem 𝓡.returns κT qT h b o in let y = at_gives Z 𝓛 𝓜.mem 𝓡.returns κ q hp heap b o (n * s) al (block_ty (el E) n) in
    first ! $ blocks ! $ sets ! (of_opd ! (get ! refl)) refl (tt, words) $
    move ! (0 ∷ 4 ∷ []) $ use2 𝓛 (raw ((Into E 𝓛 𝓜.mem 𝓡.returns).pre x)) (Into-goes E 𝓛 𝓜.mem 𝓡.returns κT qT h b o inT) $
    calls_at ! (fm 𝓛 𝓜 𝓡) (Into E 𝓛 𝓜.mem 𝓡.returns) (callee.met 𝓤 𝓛 𝓜 𝓡 (code.calls-core::slots::Slots::into_raw_parts 𝓡.env wired) T LT) x (and_then ! (get ! refl) (no_more !)) (λ v.
    use1 𝓛 (later (given (v ≡ row_val b o n) (‵ (all E b o h.items h.filled) ⊛ ‵ (flft κT qT)))) (Into-gives E 𝓛 𝓜.mem 𝓡.returns κT qT h b o v at) $ await ! tt $ learn ! (λ parts. split ! $
    lands_as ! parts refl (tt, words) $
    sets ! (of_opd ! (get_in ! (fld ! refl (stop !)) (sub ! 0 refl (whole !)))) refl (tt, tt) $ sets ! (of_opd ! (get_in ! (fld ! refl (stop !)) (sub ! 1 refl (whole !)))) refl (tt, record { fits = fits }) $
    sets ! (of_opd ! (get ! refl)) refl (tt, tt) $
    sets ! (is ! (bin ! (get ! refl) (size_word !) (record { fits = subst (λ (k : ℕ). k < 2 ^ 64) (sym (uncapped n s bytes)) bytes })) (ap (vint w64) (uncapped n s bytes))) refl (tt, record { fits = bytes }) $
    use1 𝓛 (‵ (froom (ty_array (elτ E) n) b o)) (to_space (el E) 𝓛 b o n h.items (sym h.ok.0) h.filled (sym h.ok.1)) $ use1 𝓛 (‵ (froom (block_ty (el E) n) b o)) (𝓛.laws.room-raw (ty_array (elτ E) n) b o) $
    -- [the room; T's token; the allocator's token; the handle; its token; the rest]
    move ! (3 ∷ 4 ∷ []) $ join ! $ move ! (1 ∷ 3 ∷ 0 ∷ []) $ use3 𝓛 (raw ((Gives Z 𝓛 𝓜.mem 𝓡.returns).pre y))
    (Gives-goes Z 𝓛 𝓜.mem 𝓡.returns κ q hp heap (Incl-trans z.0.2.0 inA) b o (n * s) al (block_ty (el E) n) (block_size (el E) n bytes) (block_align (el E) n) bytes (capped_fits (align (elτ E)))) $
    calls_at_last ! (fm 𝓛 𝓜 𝓡) (Gives Z 𝓛 𝓜.mem 𝓡.returns) (met.deallocate dd) y (and_then ! (get ! refl) (and_then ! (get ! refl) (and_then ! (get ! refl) (and_then ! (align_word !) (no_more !))))) (λ u.
    use1 𝓛 (later (given (u ≡ vunit) (‵ (flft κ q)))) (Gives-Gives Z 𝓛 𝓜.mem 𝓡.returns κ q hp heap b o (n * s) al (block_ty (el E) n) u) $ await ! tt $ learn ! (λ nil.
    lands_last ! refl (subst (λ (w : Val). Holds (has_ty ty_unit w) × WT w) (sym nil) (tt, tt)) $ exec ! 𝓣.C 𝓣.Λ Ev (after 1 fn.body) (at_ret Ev Post) $
    sets ! (of_opd ! (unit_lit !)) refl (tt, tt) $ move ! (1 ∷ 2 ∷ []) $ join ! $ move ! (1 ∷ 0 ∷ []) $ join ! $
    nothing ! $ feq_i ! (List Val) (vunit ∷ []) (vunit ∷ []) refl $ nothing ! $ nothing ! $ fjoin ! $ nothing ! $ fjoin ! $ nothing ! $ fjoin ! $
    returns ! (look_at ! 0 refl) $ free_all ! refl $ keep ! (3 ∷ 0 ∷ 1 ∷ 2 ∷ []) $ by ! (leaves 𝓛 En hs c z vunit tt (tt, (tt, (tt, tt))) (tt, (tt, (tt, tt)))))))))))))))
