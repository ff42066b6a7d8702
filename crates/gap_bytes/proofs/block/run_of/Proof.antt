-- `run_of` shows the values of a run of places. Assumes `Logic`.
use Rattle.std.proofs.Common.{◌≡◌, ℕ, ◌+◌, ◌*◌, ◌^◌, ◌<◌, ◌≤◌, List, [], ◌∷◌, length, take, drop, refl, sym, ap, ◌∙◌, arith, w64, length-take-le, length-drop}
use mir.Syntax.{named}
use mir.Val.{Val, vint, vptr}
use mir.MapTy.{inst_fn}
use base.Fml.{Lft, Share, Fml, ftrue, fsep, flt, flft}
use base.Logic.{emp}
use prog.Wp.{WpFn}
use types.Kit.{‵, raw, ◌⊛◌, prop, at_ret, ◌$◌, ◌∵◌, !, qed, by, move, keep, drop as skip, use0, use1, split, split3, join, fsplit, fjoin, feq_i, flt_i, flt_l, regoal}
use types.Part.{sub, whole, agg}
use types.Run.{stop, fld, of_opd, bin, size_lit, no_more, and_then, first, blocks, exec, returns, enter}
use types.ByLocal.{alloc_all, pass_all, free_all, look_at, get, get_in, sets, sets_last, env}
use contract.BorrowLft.{◌⊑◌}
use contract.Monad.{fact, fact_i}
use contract.Running.{tables}
use denote.Exit.{yes, no}
use denote.RattleType.{owns}
use denote.Signature.{plain, types_at}
use denote.Steps.{nothing, heard}
use denote.Opens.{hide}
use denote.Builtin.{RefOf, usize}
use denote.Memory.{hidden_shr}
use denote.Plain.{uint_vals, uint_Tells}
use denote.RawPtr.{Ptr, RawPtr, in_a_block}
use denote.Ref.{shr_vals, shr_Tells}
use denote.Slice.{slice_val, elements_shared}
use denote.Triple.Walked.{Stays, stay_dropped, walk_of, Goes-dropped}
use Rattle.std.proofs.raw_atomic.Walks.{proved, leaves}
use Rattle.core.proofs.alloc.Shapes.{after}
use Rattle.core.proofs.mem.Param.{El, R, args, el_x}
use Rattle.core.proofs.ptr.Rows.{times_below, one_below}
use Rattle.core.specs.Mem.Slots.Ownership.{slots_lent, Filled}
use Rattle.core.proofs.slots.Places.{sz}
use Rattle.core.proofs.slots.Opens.{Sr, el_d}
use Rattle.core.proofs.slots.Lent.{shown, none_at_null}
use Rattle.gap_bytes.proofs.Values.{start_val, start_told}
use Rattle.gap_bytes.proofs.Runs.{run_lent}
use Rattle.gap_bytes.specs.contracts.block.Start as start
use Rattle.gap_bytes.specs.contracts.block.run_of.{ended, clauses}
use Rattle.gap_bytes.specs.contracts.block.run_of.Key.{name as #self}
use Rattle.gap_bytes.proofs.block.run_of.Statement.{statement}
use Rattle.gap_bytes.proofs.block.run_of.Code as code

pub run_of_spec : {M : Type 1} → statement M
run_of_spec 𝓤 𝓛 𝓜 𝓡 wired T L =
    let H = 𝓛.H in let 𝓣 = tables 𝓤 H 𝓜 𝓡 𝓡.env in let E : El = record { row = T; laws = L } in let s : ℕ = sz E in
    let En = ended T in let c = clauses T 𝓛 𝓜.mem 𝓡.returns in let fn = inst_fn (args E) code.function in
    let row = RefOf (0 ∷ []) tt (plain (λ _. Sr E)) (λ _. tt) in let origin = plain (λ _. start.the_row (R E)) in let word = plain (λ _. usize) in
    let hs : Stays En.signature.params En.kept = (stay_dropped row yes, (stay_dropped origin no, (stay_dropped word yes, (stay_dropped word yes, tt)))) in
    proved 𝓛 En hs c 𝓜 𝓡
    (Goes-dropped 𝓛 2 row yes (λ κs x f. refl), (Goes-dropped 𝓛 2 origin no (λ κs x f. refl), (Goes-dropped 𝓛 2 word yes (λ κs x f. refl), (Goes-dropped 𝓛 2 word yes (λ κs x f. refl), tt))))
    (#self (args E)) fn (code.unfolded 𝓤 H 𝓜 𝓡 wired (T, tt))
    (λ κs. (shr_vals, ((λ x. start_val x.ptr ∷ []), (uint_vals w64, (uint_vals w64, tt)))))
    (λ κs. (shr_Tells (named 0) κs.0 (Sr E), (start_told (R E), (uint_Tells w64, (uint_Tells w64, tt))))) (λ κs qs bounds a g are.
    let κ : Lft = κs.0 in let q : Share = qs.0 in let rb : ℕ = a.0.ref_ptr.0 in let ro : ℕ = a.0.ref_ptr.1 in let h : el_d E = a.0.now in
    let p : Ptr = a.1.0.ptr in let i : ℕ = a.1.1.0 in let n : ℕ = a.1.1.1.0 in
    let y : (walk_of 𝓛 En hs c).Ghost = ((κs, qs, bounds, a, (shr_vals a.0, (start_val p ∷ [], (uint_vals w64 i, (uint_vals w64 n, tt))))), g) in
    let Post = (walk_of 𝓛 En hs c).post y in
    let Starts : Type 0 = p ≡ h.ptr in let Within : Type 0 = (0 < n) × (i + n ≤ h.len) in let Full : Type 0 = Filled h.filled i (i + n) in
    let others : Fml = fsep (flft κs.1.0 qs.1.0) ftrue in let lx : h.len ≡ length h.items = h.ok.0 in let lf : h.len ≡ length h.filled = h.ok.1 in
    let fi = are.1.1.0.1 in let fn' = are.1.1.1.0.1 in
    qed 𝓛 (((‵ (flft κ q) ⊛ ‵ others) ⊛ ‵ (owns (types_at En.signature.params κs) a y.0.4)) ∷ (raw (fact 𝓤 (κs.1.0 ⊑ T.lives)) ⊛ raw (fact 𝓤 Starts) ⊛ raw (fact 𝓤 Within) ⊛ raw (fact 𝓤 Full)) ∷ []) ∵
    move ! (1 ∷ []) $ split ! $ skip ! $ split ! $ heard ! Starts (λ starts. split ! $ heard ! Within (λ within. heard ! Full (λ full.
    let ix : i < length h.items = omega (arith, within.0, within.1) in let fx : i < length h.filled = omega (arith, within.0, within.1) in
    let in_items : i + n ≤ length h.items = omega (arith, within.1) in let in_filled : i + n ≤ length h.filled = omega (arith, within.1) in
    let xs : List (el_x E) = take n (drop i h.items) in
    let rest = length-drop i h.items in let long : length xs ≡ n = length-take-le n (drop i h.items) (omega arith) in
    split ! $ split ! $ move ! (2 ∷ []) $ fsplit ! $ fsplit ! $ skip ! $
    use1 𝓛 (‵ (hidden_shr RawPtr κ h.ptr rb (ro + 0)) ⊛ ‵ (hidden_shr usize κ h.len rb (ro + 8)) ⊛ ‵ (flt (h.len * s) (2 ^ 63)) ⊛ ‵ (slots_lent (R E) h.ptr h.items h.filled κ)) (shown E 𝓛 κ h rb ro) $
    split3 ! $ move ! (2 ∷ []) $ split ! $ flt_l ! (λ fit.
    let tiny : s < 2 ^ 64 = omega (arith, one_below h.len s (2 ^ 63) (omega (arith, within.0, within.1)) fit) in
    let far : i * s < 2 ^ 64 = omega (arith, times_below i h.len s (2 ^ 63) (omega (arith, within.1)) fit) in
    let size : length xs * s < 2 ^ 63 = times_below (length xs) h.len s (2 ^ 63) (omega (arith, within.1)) fit in
    in_a_block ! h.ptr (λ r. slots_lent (R E) r h.items h.filled κ) (none_at_null E 𝓛 κ h.items h.filled i ix fx (full i (omega arith) (omega (arith, within.0)))) (λ b o at_b.
    let at : ℕ × ℕ = (b, i * s + o) in
    use1 𝓛 (‵ (elements_shared (R E) xs b (i * s + o) κ)) (run_lent E 𝓛 κ b i n h.items h.filled o in_items in_filled full) $ hide ! $
    keep ! (0 ∷ 4 ∷ 5 ∷ []) $
    regoal ! (λ (r : Ptr). prop (WpFn 𝓤 H 𝓣.C 𝓣.Λ fn (vptr rb ro ∷ start_val r ∷ vint w64 i ∷ vint w64 n ∷ []) Post)) (starts ∙ at_b) refl $
    enter ! 𝓣.C 𝓣.Λ fn _ Post $ alloc_all ! (λ l. pass_all ! refl ((tt, tt), ((tt, (tt, tt)), ((tt, record { fits = fi }), ((tt, record { fits = fn' }), tt)))) $
    first ! $ blocks ! $ sets ! (bin ! (get ! refl) (size_lit ! (record { fits = tiny })) (record { fits = far })) refl (tt, record { fits = far }) $
    sets ! (bin ! (get_in ! (fld ! refl (stop !)) (sub ! 0 refl (whole !))) (get ! refl) tt) refl (tt, tt) $
    sets_last ! (agg ! (and_then ! (get ! refl) (and_then ! (get ! refl) (no_more !)))) refl (tt, (tt, (record { fits = fn' }, tt))) $
    exec ! 𝓣.C 𝓣.Λ (env fn.locals l) (after 1 fn.body) (at_ret (env fn.locals l) Post) $ sets ! (of_opd ! (get ! refl)) refl (tt, (tt, (record { fits = fn' }, tt))) $
    flt_i ! (length xs * s) (2 ^ 63) size $ flt_i ! (length xs) (2 ^ 64) (omega (arith, long, fn')) $ fjoin ! $
    feq_i ! (List Val) (slice_val at n ∷ []) (slice_val at (length xs) ∷ []) (ap (λ k. slice_val at k ∷ []) (sym long)) $ fjoin ! $ fjoin ! $
    use0 𝓛 (raw (fact 𝓤 (xs ≡ xs))) (fact_i 𝓤 (xs ≡ xs) (emp 𝓤) refl) $
    nothing ! $ nothing ! $ fjoin ! $ nothing ! $ fjoin ! $ nothing ! $ fjoin ! $ nothing ! $ fjoin ! $ move ! (3 ∷ 4 ∷ []) $ join ! $
    returns ! (look_at ! 0 refl) $ free_all ! refl $ keep ! (0 ∷ 1 ∷ 3 ∷ 2 ∷ []) $
    by ! (leaves 𝓛 En hs c y (slice_val at n) (record { ref_ptr = at; now = xs }) (tt, (tt, (tt, (tt, tt)))) (tt, (tt, (tt, (tt, tt))))))))))))
