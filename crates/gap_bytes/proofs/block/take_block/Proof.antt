-- `take_block` asks the allocator for room, and makes empty places of it. Assumes `Logic`.
use Rattle.std.proofs.Common.{◌≡◌, ℕ, ◌*◌, ◌^◌, ◌<◌, Bool, true, false, List, [], ◌∷◌, replicate, refl, sym, subst, ap, arith, lit<, w64, Ok, Err}
use mir.Syntax.{Body, named, ty_array}
use mir.Val.{Val, WT, vint, vptr, vstruct, vcons, vnil}
use mir.MapTy.{inst_fn}
use base.Logic.{emp}
use base.Fml.{Lft, Share, Fml, ftrue, fsep, froom, flft, Incl-trans}
use lib.ListN.{length-replicate}
use prog.Memory.{align, capped}
use prog.Capped.{capped_fits}
use prog.Wp.{Wp, after_seq, at_return}
use types.Kit.{any_q, ‵, raw, ◌⊛◌, some, given, later, at_ret, ◌$◌, ◌∵◌, !, qed, by, move, keep, drop as skip, use0, use1, use2, split, split3, join, pick, learn, await, fsplit, fjoin}
use types.Part.{whole, agg}
use types.Match.{live, vrt, in_variant}
use types.Run.{stop, fld, lit, of_opd, bin, size_word, align_word, no_more, and_then, first, blocks, switches_on, exec, returns, enter}
use types.ByLocal.{alloc_all, pass_all, free_all, look_at, get, get_in, get_tag, is, sets, sets_last, lands_as, lands_last, env}
use contract.BorrowLft.{◌⊑◌}
use contract.Monad.{fact, fact_i}
use contract.Running.{tables}
use denote.Exit.{yes}
use denote.RattleType.{RattleType, owns}
use denote.Signature.{plain, types_at}
use denote.Steps.{nothing, heard}
use denote.Builtin.{RefOf, usize}
use denote.Plain.{uint_vals, uint_Tells}
use denote.RawPtr.{Ptr, block_ptr}
use denote.Ref.{shr_vals, shr_Tells}
use denote.Shadow.{makes_shadow}
use denote.Struct.Tuple.{Tuple}
use denote.Triple.Call.{calls_at, calls_at_last}
use denote.Triple.Walked.{Stays, stay_dropped, walk_of, Goes-dropped}
use Rattle.std.proofs.raw_atomic.Walks.{proved, leaves}
use Rattle.core.specs.contracts.result.Result as result_of
use Rattle.core.specs.contracts.alloc.AllocError as refusal
use Rattle.core.proofs.atomic.Steps.{fm}
use Rattle.core.proofs.alloc.Calls.{Answer-typed, Takes, at_takes, Answered, Takes-goes, Takes-gives, answers}
use Rattle.core.proofs.once.Made.{ok_of, err_of}
use Rattle.core.proofs.slots.Bodies.{after, head, arm_body}
use Rattle.core.proofs.slots.Leases.{uncapped, block_ty, block_size, block_align}
use Rattle.core.proofs.slots.Opens.{row_val}
use Rattle.core.proofs.slots.Runs.{of_space}
use Rattle.core.proofs.slots.Slots.from_raw_parts.Met as callee
use Rattle.std_alloc.proofs.VecSteps.El.{El, args, elτ, el_x, R, P, sz}
use Rattle.std_alloc.proofs.vec.Blocks.{el, all}
use Rattle.std_alloc.proofs.vec.Spares.{Row, From, at_from, Made, from_goes, from_gives, row_Typed}
use Rattle.std.specs.Vec.Ownership.{FitsInBlock}
use Rattle.gap_bytes.proofs.Values.{start_val, start_made, claim_val, Claims, claimed, claim_made, three_val, three_made}
use Rattle.gap_bytes.specs.contracts.block.Start as start
use Rattle.gap_bytes.specs.contracts.block.take_block.{ended, clauses}
use Rattle.gap_bytes.specs.contracts.block.take_block.Key.{name as #self}
use Rattle.gap_bytes.proofs.block.take_block.Statement.{statement}
use Rattle.gap_bytes.proofs.block.take_block.Code as code

pub take_block_spec : {M : Type 1} → statement M
take_block_spec 𝓤 𝓛 𝓜 𝓡 wired T A LT LA g d dd met md =
    let H = 𝓛.H in let 𝓣 = tables 𝓤 H 𝓜 𝓡 𝓡.env in
    let E : El = record { row = T; laws = LT; al = record { row = A; laws = LA; g = g; d = d; drops = dd } } in let Z = E.al in
    let En = ended T A g d dd in let c = clauses T A g d dd 𝓛 𝓜.mem 𝓡.returns in let fn = inst_fn (args E) code.function in
    let handle = RefOf (0 ∷ []) tt (plain (λ _. P E)) (λ _. tt) in let word = plain (λ _. usize) in let like = RefOf (1 ∷ []) tt (plain (λ _. R E)) (λ _. tt) in
    let Begin : RattleType = start.the_row (R E) in let Three : RattleType = Tuple (Begin ∷ Row E ∷ Claims E ∷ []) in let Out : RattleType = result_of.the_row Three refusal.the_row in
    let hs : Stays En.signature.params En.kept = (stay_dropped handle yes, (stay_dropped word yes, (stay_dropped like yes, tt))) in
    proved 𝓛 En hs c 𝓜 𝓡
    (Goes-dropped 𝓛 4 handle yes (λ κs x f. refl), (Goes-dropped 𝓛 4 word yes (λ κs x f. refl), (Goes-dropped 𝓛 4 like yes (λ κs x f. refl), tt)))
    (#self (args E)) fn (code.unfolded 𝓤 H 𝓜 𝓡 wired (T, (A, tt)) d dd)
    (λ κs. (shr_vals, (uint_vals w64, (shr_vals, tt))))
    (λ κs. (shr_Tells (named 0) κs.0 (P E), (uint_Tells w64, (shr_Tells (named 1) κs.1.0 (R E), tt)))) (λ κs qs bounds a gh are.
    let κ : Lft = κs.0 in let q : Share = qs.0 in let κT : Lft = κs.1.1.0 in let qT : Share = qs.1.1.0 in
    let hp : ℕ × ℕ = a.0.ref_ptr in let heap = a.0.now in let n : ℕ = a.1.0 in let blank : el_x E = a.1.1.0.now in
    let y : (walk_of 𝓛 En hs c).Ghost = ((κs, qs, bounds, a, (shr_vals a.0, (uint_vals w64 n, (shr_vals a.1.1.0, tt)))), gh) in
    let Post = (walk_of 𝓛 En hs c).post y in
    let s : ℕ = sz E in let al : ℕ = capped (align (elτ E)) in let xs : List (el_x E) = replicate n blank in let fs : List Bool = replicate n false in
    let fits = are.1.0.1 in
    let rest : Fml = fsep (flft κs.1.1.1.0 qs.1.1.1.0) ftrue in
    qed 𝓛 (((‵ (flft κ q) ⊛ ‵ (flft κs.1.0 qs.1.0) ⊛ ‵ (flft κT qT) ⊛ ‵ rest) ⊛ ‵ (owns (types_at En.signature.params κs) a y.0.4)) ∷ (raw (fact 𝓤 (κT ⊑ T.lives)) ⊛ raw (fact 𝓤 (κs.1.1.1.0 ⊑ A.lives)) ⊛ raw (fact 𝓤 (FitsInBlock (R E) n))) ∷ []) ∵
    move ! (1 ∷ []) $ split ! $ heard ! (κT ⊑ T.lives) (λ inT. split ! $ heard ! (κs.1.1.1.0 ⊑ A.lives) (λ inA. heard ! (FitsInBlock (R E) n) (λ fit.
    let small : n * s < 2 ^ 63 = fit.0 in let bytes : n * s < 2 ^ 64 = omega arith in
    split ! $ split ! $ move ! (1 ∷ []) $ split3 ! $ move ! (4 ∷ []) $ fsplit ! $ fsplit ! $ skip ! $ keep ! (0 ∷ 5 ∷ 2 ∷ 3 ∷ 4 ∷ []) $
    enter ! 𝓣.C 𝓣.Λ fn (vptr hp.0 hp.1 ∷ vint w64 n ∷ vptr a.1.1.0.ref_ptr.0 a.1.1.0.ref_ptr.1 ∷ []) Post $ alloc_all ! (λ l. pass_all ! refl ((tt, tt), ((tt, record { fits = fits }), ((tt, tt), tt))) $
    let Ev = env fn.locals l in let both : Body = head (after 2 fn.body) in
    let Then = any_q (after_seq 𝓤 H (Wp 𝓤 H 𝓣.C 𝓣.Λ Ev (after 3 fn.body) (at_return 𝓤 H Ev Post)) (at_return 𝓤 H Ev Post)) in
    let asked = at_takes Z 𝓛 𝓜.mem 𝓡.returns κ q hp heap (n * s) al (block_ty (el E) n) in
    sets ! (is ! (bin ! (get ! refl) (size_word !) (record { fits = subst (λ (k : ℕ). k < 2 ^ 64) (sym (uncapped n s bytes)) bytes })) (ap (vint w64) (uncapped n s bytes))) refl (tt, record { fits = bytes }) $
    use2 𝓛 (raw ((Takes Z 𝓛 𝓜.mem 𝓡.returns).pre asked))
    (Takes-goes Z 𝓛 𝓜.mem 𝓡.returns κ q hp heap (Incl-trans bounds.0 inA) (n * s) al (block_ty (el E) n) (block_size (el E) n bytes) (block_align (el E) n) bytes (capped_fits (align (elτ E)))) $
    calls_at ! (fm 𝓛 𝓜 𝓡) (Takes Z 𝓛 𝓜.mem 𝓡.returns) (met.allocate dd) asked (and_then ! (get ! refl) (and_then ! (get ! refl) (and_then ! (align_word !) (no_more !)))) (λ v.
    use1 𝓛 (later (raw (Answered Z 𝓛 𝓜.mem 𝓡.returns heap (block_ty (el E) n) v) ⊛ ‵ (flft κ q))) (Takes-gives Z 𝓛 𝓜.mem 𝓡.returns κ q hp heap (n * s) al (block_ty (el E) n) v) $ await ! tt $ split ! $
    answers Z ! 𝓜.mem 𝓡.returns heap (block_ty (el E) n) v
    -- [the room; the allocator's token; the four tokens]
    (λ b o e.
    let p : Ptr = block_ptr b o in let w = at_from E 𝓛 𝓜.mem 𝓡.returns κT qT b o n xs fs in let long = length-replicate n blank in
    let words : WT (row_val b o n) = (tt, (record { fits = fits }, tt)) in let made : Val = three_val (start_val p) (row_val b o n) claim_val in
    let ok : WT (live 0 (vcons made vnil)) = (record { fits = lit< tt }, (((tt, tt), (words, ((tt, tt), tt))), tt)) in
    lands_as ! e refl (Answer-typed true b o) $ first ! $ switches_on ! (get_tag ! (vrt ! refl (fld ! refl (stop !))) (whole !)) $ exec ! 𝓣.C 𝓣.Λ Ev (arm_body 0 both) Then $
    sets ! (of_opd ! (get_in ! (vrt ! refl (fld ! refl (stop !))) (in_variant ! 0 0 refl refl (whole !)))) refl (tt, tt) $ sets ! (of_opd ! (get ! refl)) refl (tt, tt) $
    use1 𝓛 (‵ (froom (ty_array (elτ E) n) b o)) (𝓛.laws.raw-room (ty_array (elτ E) n) b o) $ use1 𝓛 (‵ (all E b o xs fs)) (of_space (el E) 𝓛 b o n xs long) $
    move ! (0 ∷ 4 ∷ []) $ use2 𝓛 (raw ((From E 𝓛 𝓜.mem 𝓡.returns).pre w)) (from_goes E 𝓛 𝓜.mem 𝓡.returns κT qT b o n xs fs inT (sym long) (sym (length-replicate n false)) fits small) $
    first ! $ blocks ! $
    calls_at_last ! (fm 𝓛 𝓜 𝓡) (From E 𝓛 𝓜.mem 𝓡.returns) (callee.met 𝓤 𝓛 𝓜 𝓡 (code.calls-core::slots::Slots::from_raw_parts 𝓡.env wired) T LT) w (and_then ! (get ! refl) (and_then ! (get ! refl) (no_more !))) (λ u.
    use1 𝓛 (later (some (λ (r : (Row E).Denot). given ((u ≡ row_val b o n) × Made E 𝓛 𝓜.mem 𝓡.returns κT qT b o n xs fs r) (‵ ((Row E).own_val r (row_val b o n ∷ [])) ⊛ ‵ (flft κT qT)))))
    (from_gives E 𝓛 𝓜.mem 𝓡.returns κT qT b o n xs fs u) $ await ! tt $ pick ! (λ r. learn ! (λ got. split ! $
    lands_last ! refl (row_Typed E u b o n got.0 fits) $ exec ! 𝓣.C 𝓣.Λ Ev (after 3 (arm_body 0 both)) Then $
    -- [the places; T's token; the allocator's token; the other three]
    sets ! (is ! (of_opd ! (get ! refl)) got.0) refl (tt, words) $
    sets ! (agg ! (and_then ! (get ! refl) (no_more !))) refl (tt, (tt, tt)) $
    sets ! (of_opd ! (get ! refl)) refl (tt, words) $
    sets ! (agg ! (no_more !)) refl (tt, tt) $ sets ! (agg ! (and_then ! (get ! refl) (no_more !))) refl (tt, (tt, tt)) $
    sets ! (agg ! (and_then ! (get ! refl) (and_then ! (get ! refl) (and_then ! (get ! refl) (no_more !))))) refl (tt, ((tt, tt), (words, ((tt, tt), tt)))) $
    sets_last ! (agg ! (and_then ! (lit ! tt) (and_then ! (get ! refl) (no_more !)))) refl (tt, ok) $
    exec ! 𝓣.C 𝓣.Λ Ev (after 3 fn.body) (at_ret Ev Post) $ sets ! (of_opd ! (get ! refl)) refl (tt, ok) $
    let Told : Type 0 = (p ≡ r.ptr) × (r.len ≡ n) × (r.items ≡ xs) × (p ≡ r.ptr) × (n ≡ n) × (heap ≡ heap) in let deed = claimed E heap p n in let begin : Begin.Denot = record { ptr = p } in
    use0 𝓛 (‵ (Begin.own_val begin (start_val p ∷ []))) (start_made (R E) 𝓛 p) $ move ! (3 ∷ []) $ claim_made E ! heap p n $ move ! (0 ∷ 2 ∷ 1 ∷ []) $
    three_made ! Begin (Row E) (Claims E) begin r deed (start_val p) (row_val b o n) claim_val $
    use1 𝓛 (‵ (Out.own_val (Ok (begin, r, deed)) (live 0 (vcons made vnil) ∷ []))) (ok_of 𝓛 Three refusal.the_row (begin, r, deed) made) $
    move ! (1 ∷ 4 ∷ []) $ join ! $ move ! (3 ∷ 0 ∷ []) $ join ! $ move ! (2 ∷ 0 ∷ []) $ join ! $
    use0 𝓛 (raw (fact 𝓤 Told)) (fact_i 𝓤 Told (emp 𝓤) (sym got.1.0, got.1.1, got.1.2, sym got.1.0, refl, refl)) $
    nothing ! $ nothing ! $ fjoin ! $ nothing ! $ fjoin ! $ nothing ! $ fjoin ! $
    returns ! (look_at ! 0 refl) $ free_all ! refl $ keep ! (2 ∷ 0 ∷ 3 ∷ 1 ∷ []) $
    by ! (leaves 𝓛 En hs c y (live 0 (vcons made vnil)) (Ok (begin, r, deed)) (tt, (tt, (tt, tt))) (tt, (tt, (tt, tt))))))))
    (λ e.
    let none : Val = live 1 (vcons (vstruct vnil) vnil) in let good : WT none = (record { fits = lit< tt }, (tt, tt)) in let F : Fml = refusal.the_row.own_val (record {}) (vstruct vnil ∷ []) in
    lands_as ! e refl (Answer-typed false 0 0) $ first ! $ switches_on ! (get_tag ! (vrt ! refl (fld ! refl (stop !))) (whole !)) $ exec ! 𝓣.C 𝓣.Λ Ev (arm_body 1 both) Then $
    sets ! (of_opd ! (get_in ! (vrt ! refl (fld ! refl (stop !))) (in_variant ! 1 0 refl refl (whole !)))) refl (tt, tt) $
    sets_last ! (agg ! (and_then ! (lit ! tt) (and_then ! (get ! refl) (no_more !)))) refl (tt, good) $
    exec ! 𝓣.C 𝓣.Λ Ev (after 3 fn.body) (at_ret Ev Post) $ sets ! (of_opd ! (get ! refl)) refl (tt, good) $
    move ! (2 ∷ 3 ∷ []) $ join ! $ move ! (2 ∷ 0 ∷ []) $ join ! $ move ! (1 ∷ 0 ∷ []) $ join ! $
    use0 𝓛 (‵ F) (makes_shadow 𝓛 F (λ uss. (tt, tt)) (tt, (refl, tt))) $ use1 𝓛 (‵ (Out.own_val (Err (record {})) (none ∷ []))) (err_of 𝓛 Three refusal.the_row (record {}) (vstruct vnil)) $
    use0 𝓛 (raw (fact 𝓤 (Unit {0}))) (fact_i 𝓤 (Unit {0}) (emp 𝓤) tt) $ nothing ! $ nothing ! $ fjoin ! $ nothing ! $ fjoin ! $ nothing ! $ fjoin ! $
    returns ! (look_at ! 0 refl) $ free_all ! refl $ keep ! (3 ∷ 0 ∷ 2 ∷ 1 ∷ []) $ by ! (leaves 𝓛 En hs c y none (Err (record {})) (tt, (tt, (tt, tt))) (tt, (tt, (tt, tt))))))))))
    )
