-- Conditions that are settled, one after the other.
use Rattle.std.proofs.Common.{◌≡◌, ◌∙◌, ◌++◌, ◌+◌, ◌≤◌, ◌⊎◌, inl, inr, ℕ, zero, suc, List, [], ◌∷◌, take, length, refl, sym, ap, subst}
use Rattle.std.proofs.lemmas.List.{take-append-le}
use Rattle.std.proofs.Math.Seq.{take-append-add}
use Rattle.type_model.specs.Types.{Typ}
use Rattle.typing_model.specs.Demands.{Condition, same, treated, AllHold}
use Rattle.typing_model.specs.Contexts.{Choice, Context, type_at, tell}
use Rattle.typing_conditions.specs.Sights.{Report}
use Rattle.typing_conditions.specs.Judging.{Judgement, judgements, AreKept, Follows, StartsWith, FallsShort, AnySeen, Meets}
use Rattle.typing_conditions.specs.Carrying.{Asks}
use Rattle.typing_conditions.proofs.Judged.{hold_both, hold_left, hold_right, judged_both, counted_both, judged_kept, kept_left, kept_right, tell_both, starts_both, seen_both, follows_both, short_left, short_right, short_of_more, starts_all, starts_left, starts_right}
use Rattle.typing_conditions.proofs.Carried.{Decides, take_none, less_or_more}
use Rattle.typing_conditions.proofs.First.{starts_none, first_none, nothing_met}
use Rattle.typing_rows.specs.Settled.{Fixes, AreFixed, Before, IsBehind, behind, Settled, Gives, GivesAll}

-- a choice that has the types of nodes has those of the first of them
pub fixed_left : (ch : Choice) (fs gs : Fixes) → AreFixed (fs ++ gs) ch → AreFixed fs ch
fixed_left ch [] gs h = tt
fixed_left ch (f ∷ fs) gs h = (h.0, fixed_left ch fs gs h.1)

-- and of the others
pub fixed_right : (ch : Choice) (fs gs : Fixes) → AreFixed (fs ++ gs) ch → AreFixed gs ch
fixed_right ch [] gs h = h
fixed_right ch (f ∷ fs) gs h = fixed_right ch fs gs h.1

-- and it has those of nodes together
pub fixed_both : (ch : Choice) (fs gs : Fixes) → AreFixed fs ch → AreFixed gs ch → AreFixed (fs ++ gs) ch
fixed_both ch [] gs p q = q
fixed_both ch (f ∷ fs) gs p q = (p.0, fixed_both ch fs gs p.1 q)

-- a context that is behind, and keeps and has more, is behind that
pub next_behind : (B : Before) (c : Context) (js : List Judgement) (fs : Fixes) → IsBehind B c → AreKept c.kept js → AreFixed fs c.chosen → IsBehind (behind B js fs) c
next_behind B c js fs b k f = record { types = b.types; variables = b.variables; kept = both B.judged b.kept; fixed = fixed_both c.chosen B.fixes fs b.fixed f }
  where
    both : (is : List Judgement) → AreKept c.kept is → AreKept c.kept (is ++ js)
    both [] h = k
    both (i ∷ is) h = (h.0, both is h.1)

-- nothing is asked
pub settled_none : {B : Before} → Settled B (λ c. []) [] [] []
settled_none = record {
  counted = refl;
  sound = λ c b k f. nothing_met c.kept;
  follows = λ c b f. refl;
  complete = λ c b h. inl (refl, tt);
  first = λ k c b h. first_none k c;
}

-- one list of conditions after another, which stands behind it
unfoldable pub settled_trans : {B : Before} {asks further : Asks} {js ks : List Judgement} {rs ss : List Report} {fs gs : Fixes} → Settled B asks js rs fs → Settled (behind B js fs) further ks ss gs → Settled B (λ c. asks c ++ further c) (js ++ ks) (rs ++ ss) (fs ++ gs)
settled_trans {B} {asks} {further} {js} {ks} {rs} {ss} {fs} {gs} p q = record {
  counted = counted_both js ks rs ss p.counted q.counted;
  sound = λ c b k f.
      let one = p.sound c b (kept_left c.kept js ks k) (fixed_left c.chosen fs gs f) in
      let two = q.sound c (next_behind B c js fs b (kept_left c.kept js ks k) (fixed_left c.chosen fs gs f)) (kept_right c.kept js ks k) (fixed_right c.chosen fs gs f) in
      record {
        same = judged_both c.kept (asks c) (further c) ∙ ap (λ xs. xs ++ judgements c.kept (further c)) one.same ∙ ap (λ xs. js ++ xs) two.same;
        holds = hold_both c.kept (asks c) (further c) one.holds two.holds;
        tells = tell_both c.kept (asks c) (further c) rs ss one.tells two.tells;
        sees = seen_both AnySeen (asks c) (further c) two.starts one.sees two.sees;
        starts = starts_both (asks c) (further c) one.starts two.starts;
      };
  follows = λ c b f. follows_both c.kept (asks c) (further c) js ks (p.follows c b (fixed_left c.chosen fs gs f)) (λ k. q.follows c (next_behind B c js fs b k (fixed_left c.chosen fs gs f)) (fixed_right c.chosen fs gs f));
  complete = λ c b h. elim (p.complete c b (hold_left c.kept (asks c) (further c) h)) [
    | inl on ↦ then_complete c on (q.complete c (here c b on) (hold_right c.kept (asks c) (further c) h))
    | inr short ↦ inr (falls_first c (further c) short)
  ];
  first = λ k c b h. by_place k c b h (less_or_more k (length (asks c)));
}
  where
    here : (c : Context) → IsBehind B c → (judgements c.kept (asks c) ≡ js) × AreFixed fs c.chosen → IsBehind (behind B js fs) c
    here c b on = next_behind B c js fs b (subst (AreKept c.kept) on.0 (judged_kept c.kept (asks c))) on.1

    -- the first ones fall short
    falls_first : (c : Context) (cs : List Condition) → FallsShort (judgements c.kept (asks c)) js → FallsShort (judgements c.kept (asks c ++ cs)) (js ++ ks)
    falls_first c cs short = subst (λ xs. FallsShort xs (js ++ ks)) (sym (judged_both c.kept (asks c) cs)) (short_left (judgements c.kept (asks c)) js (judgements c.kept cs) ks short)

    -- the others fall short
    falls_then : (c : Context) (cs : List Condition) → judgements c.kept (asks c) ≡ js → FallsShort (judgements c.kept cs) ks → FallsShort (judgements c.kept (asks c ++ cs)) (js ++ ks)
    falls_then c cs one short = subst (λ xs. FallsShort xs (js ++ ks)) (sym (judged_both c.kept (asks c) cs)) (short_right (judgements c.kept (asks c)) js (judgements c.kept cs) ks one short)

    then_complete : (c : Context) → (judgements c.kept (asks c) ≡ js) × AreFixed fs c.chosen → ((judgements c.kept (further c) ≡ ks) × AreFixed gs c.chosen) ⊎ FallsShort (judgements c.kept (further c)) ks →
        ((judgements c.kept (asks c ++ further c) ≡ js ++ ks) × AreFixed (fs ++ gs) c.chosen) ⊎ FallsShort (judgements c.kept (asks c ++ further c)) (js ++ ks)
    then_complete c on (inl also) =
        inl (judged_both c.kept (asks c) (further c) ∙ ap (λ xs. xs ++ judgements c.kept (further c)) on.0 ∙ ap (λ xs. js ++ xs) also.0, fixed_both c.chosen fs gs on.1 also.1)
    then_complete c on (inr short) = inr (falls_then c (further c) on.0 short)

    then_first : (c : Context) (n : ℕ) → (judgements c.kept (asks c) ≡ js) × AreFixed fs c.chosen → Decides c ks (take n (further c)) → Decides c (js ++ ks) (asks c ++ take n (further c))
    then_first c n on (inl starts) = inl (subst (StartsWith (js ++ ks)) (sym (judged_both c.kept (asks c) (take n (further c)) ∙ ap (λ xs. xs ++ judgements c.kept (take n (further c))) on.0))
        (starts_right js ks (judgements c.kept (take n (further c))) starts))
    then_first c n on (inr short) = inr (falls_then c (take n (further c)) on.0 short)

    -- the first k conditions end among the first ones, or among the others
    by_place : (k : ℕ) (c : Context) → IsBehind B c → AllHold c.kept (take k (asks c ++ further c)) → (k ≤ length (asks c)) ⊎ ((n : ℕ) × (k ≡ length (asks c) + n)) → Decides c (js ++ ks) (take k (asks c ++ further c))
    by_place k c b h (inl le) =
        let at = take-append-le k (asks c) (further c) le in
        subst (Decides c (js ++ ks)) (sym at) (elim (p.first k c b (subst (AllHold c.kept) at h)) [
          | inl starts ↦ inl (starts_left js (judgements c.kept (take k (asks c))) ks starts)
          | inr short ↦ inr (short_of_more (judgements c.kept (take k (asks c))) js ks short)
        ])
    by_place k c b h (inr (n, eq)) =
        let at = ap (λ i. take i (asks c ++ further c)) eq ∙ take-append-add (asks c) (further c) n in
        let held = subst (AllHold c.kept) at h in
        subst (Decides c (js ++ ks)) (sym at) (elim (p.complete c b (hold_left c.kept (asks c) (take n (further c)) held)) [
          | inl on ↦ then_first c n on (q.first n c (here c b on) (hold_right c.kept (asks c) (take n (further c)) held))
          | inr short ↦ inr (falls_first c (take n (further c)) short)
        ])

-- conditions may be written in another way, where they are the same in each context that stands there
unfoldable pub settled_here : {B : Before} {asks others : Asks} {js : List Judgement} {rs : List Report} {fs : Fixes} → ((c : Context) → IsBehind B c → asks c ≡ others c) → Settled B asks js rs fs → Settled B others js rs fs
settled_here {B} {asks} {others} {js} {rs} {fs} e p = record {
  counted = p.counted;
  sound = λ c b k f. subst (λ cs. Meets AnySeen c.kept cs js rs) (e c b) (p.sound c b k f);
  follows = λ c b f. subst (λ cs. Follows c.kept cs js) (e c b) (p.follows c b f);
  complete = λ c b h. subst (λ cs. ((judgements c.kept cs ≡ js) × AreFixed fs c.chosen) ⊎ FallsShort (judgements c.kept cs) js) (e c b) (p.complete c b (subst (AllHold c.kept) (sym (e c b)) h));
  first = λ k c b h. subst (λ cs. Decides c js (take k cs)) (e c b) (p.first k c b (subst (λ cs. AllHold c.kept (take k cs)) (sym (e c b)) h));
}

-- where one condition is asked the first ones are none or all
pub first_single : {B : Before} {js : List Judgement} (fs : Fixes) (ask : Context → Condition) →
    ((c : Context) → IsBehind B c → AllHold c.kept (ask c ∷ []) → ((judgements c.kept (ask c ∷ []) ≡ js) × AreFixed fs c.chosen) ⊎ FallsShort (judgements c.kept (ask c ∷ [])) js) →
    (k : ℕ) (c : Context) → IsBehind B c → AllHold c.kept (take k (ask c ∷ [])) → Decides c js (take k (ask c ∷ []))
first_single {B} {js} fs ask complete zero c b h = inl (starts_none js)
first_single {B} {js} fs ask complete (suc k) c b h =
    let here : ask c ∷ take k [] ≡ ask c ∷ [] = ap (λ cs. ask c ∷ cs) (take_none k) in
    subst (Decides c js) (sym here) (elim (complete c b (subst (AllHold c.kept) here h)) [
      | inl on ↦ inl (subst (StartsWith js) (sym on.0) (starts_all js))
      | inr short ↦ inr short
    ])

-- a node has a type that is one in all contexts that stand there
pub settled_same : {B : Before} (n : ℕ) (t : Typ) (u : Context → Typ) → ((c : Context) → IsBehind B c → u c ≡ t) → Settled B (λ c. same (type_at c n) (u c) ∷ []) [] [] ((n, t) ∷ [])
settled_same {B} n t u e = record {
  counted = refl;
  sound = λ c b k f. record { same = refl; holds = (f.0 ∙ sym (e c b), tt); tells = refl; sees = tt; starts = refl };
  follows = λ c b f. refl;
  complete = complete;
  first = first_single ((n, t) ∷ []) (λ c. same (type_at c n) (u c)) complete;
}
  where
    complete : (c : Context) → IsBehind B c → AllHold c.kept (same (type_at c n) (u c) ∷ []) → ((judgements c.kept (same (type_at c n) (u c) ∷ []) ≡ []) × AreFixed ((n, t) ∷ []) c.chosen) ⊎ FallsShort (judgements c.kept (same (type_at c n) (u c) ∷ [])) []
    complete c b h = inl (refl, (h.0 ∙ e c b, tt))

-- where only the environment in which a node is treated is made known
pub settled_told : {B : Before} (n : ℕ) → Settled B (λ c. tell n c) [] [] []
settled_told {B} n = record {
  counted = refl;
  sound = λ c b k f. record { same = refl; holds = (tt, tt); tells = refl; sees = (tt, tt); starts = refl };
  follows = λ c b f. refl;
  complete = complete;
  first = first_single [] (λ c. treated n c.env) complete;
}
  where
    complete : (c : Context) → IsBehind B c → AllHold c.kept (tell n c) → ((judgements c.kept (tell n c) ≡ []) × AreFixed [] c.chosen) ⊎ FallsShort (judgements c.kept (tell n c)) []
    complete c b h = inl (refl, tt)

-- what has one type has it behind further nodes
pub gives_right : (fs gs : Fixes) (n : ℕ) (t : Typ) → Gives gs n t → Gives (fs ++ gs) n t
gives_right fs gs n t g ch h = g ch (fixed_right ch fs gs h)

-- the same of several nodes
pub all_right : (fs gs : Fixes) (ns : List ℕ) (ts : List Typ) → GivesAll gs ns ts → GivesAll (fs ++ gs) ns ts
all_right fs gs ns ts g ch h = g ch (fixed_right ch fs gs h)

-- and before further ones
pub all_left : (fs gs : Fixes) (ns : List ℕ) (ts : List Typ) → GivesAll fs ns ts → GivesAll (fs ++ gs) ns ts
all_left fs gs ns ts g ch h = g ch (fixed_left ch fs gs h)
