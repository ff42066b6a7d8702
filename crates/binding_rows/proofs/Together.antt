-- Bindings with `rec`: all patterns, and then the right sides among the names of the group.
use Rattle.std.proofs.Common.{◌≡◌, ◌∙◌, ◌++◌, ◌+◌, ◌==◌, ◌||◌, inl, inr, zero, suc, length, Bool, true, false, ℕ, List, [], ◌∷◌, Option, Some, None, refl, sym, ap, subst, append_assoc, append-nil}
use Rattle.std.specs.List.{cons_option}
use Rattle.signature_model.specs.Declarations.{Name}
use Rattle.typing_model.specs.Contexts.{Bound, Context, tell, with_names}
use Rattle.typing_model.specs.Parts.{Binding}
use Rattle.typing_model.specs.Bindings.{right_side, names_of_group, patterns_first, right_sides, bound_together}
use Rattle.env_table.specs.declared.entries.Entry.{Entry}
use Rattle.typing_state.specs.declared.parts.Parts.{Parts}
use Rattle.typing_state.specs.Goes.{Goes, OnlyIndex}
use Rattle.typing_state.specs.Notes.{NotedNameless}
use Rattle.typing_conditions.specs.Sights.{Sight, number_in, Letters}
use Rattle.typing_conditions.specs.Frames.{Frame}
use Rattle.typing_conditions.specs.Carrying.{Scope, with_own, IsUnder, IsTreated, Carried}
use Rattle.typing_conditions.specs.Surroundings.{Surrounds}
use Rattle.typing_conditions.proofs.Carried.{carried_told, further_hides, carried_refl, carried_trans, carried_as, done_then, done_as, done_last}
use Rattle.typing_conditions.proofs.Meaning.{means_on}
use Rattle.typing_conditions.proofs.Surrounding.{surrounds_on, surrounds_with, surrounds_sees, sees_on}
use Rattle.typing_conditions.proofs.Hiding.{done_none, done_both, done_on, keeps_same, copy_first, copy_second}
use Rattle.typing_steps.specs.States.{is_aloud, sight}
use Rattle.typing_steps.specs.Typing.{as_declared}
use Rattle.typing_steps.proofs.Still.{plain_noted}
use Rattle.pattern_rows.specs.Bounds.{Bind}
use Rattle.pattern_rows.specs.Contracts.{MatchesTo}
use Rattle.pattern_rows.proofs.Naming.{all_bound_on}
use Rattle.binding_rows.specs.CaseScopes.{with_bound, names_added}
use Rattle.binding_rows.proofs.Scopes.{surrounds_bound, among_names, names_both, done_among}
use Rattle.binding_rows.specs.Rights.{whole_by, TypesRight}
use Rattle.binding_rows.specs.Groups.{TypedBinding, AllTyped, none_typed, OpenedBinding, IsOpened, AllOpened, none_opened, one_opened, names_opened, AsksWhole, TypesBindings, OpensBinding, OpenAdded, NoneAdded, OpensIf, OpensAll, OpensFirst, conclusion_asks, conclusions_ask, ConcludesBinding, ConcludesAll, ConcludesFirst, AreOwn}
use Rattle.binding_rows.proofs.Typed.{all_typed_on, all_typed_more, all_opened_on, all_opened_more, opened_names, is_opened_on, whole_same}
use Rattle.pattern_rows.proofs.Opened.{done_grouped}
use Rattle.std.proofs.lemmas.Bool.{eqb-true}
use Rattle.type_model.proofs.Applying.{eqb_same, or_left, or_right, or_cases}
use Rattle.typing_model.specs.Demands.{treated}
use Rattle.typing_conditions.specs.Hiding.{HasCopy}
use Rattle.typing_conditions.proofs.Stops.{get_second}

-- the pattern of a binding with its number
pub open_typed : (a b d : Parts) (env : List Entry) (number : ℕ) (x : Binding) (seen : List Name) (added : List Bind) (found : ℕ) → number_in a.item number ≡ x.node → NotedNameless a b number env None → OnlyIndex a b → Goes a b → MatchesTo b d env x.pattern seen added found →
    OpensBinding a d env seen x (record { node = found; names = added })
open_typed a b d env number x seen added found place noted rest goes matched = λ aloud F scope G s.
    let p = plain_noted a b {F = F} {scope = scope} {G = G} number env x.node place aloud noted rest (surrounds_sees s) in
    let q = matched.typed (ap is_aloud goes.telling ∙ aloud) F scope G (surrounds_on p.stays s) in
    record { own = matched.opens; carried = carried_trans p q.typed.carried; done = done_last p q.typed.carried q.done; opened = record { means = q.typed.means; names = q.names } }

-- no pattern yet
pub opens_none : (a : Parts) (env : List Entry) (all : List Binding) (now : List Name) (ys : List OpenedBinding) → now ≡ [] → ys ≡ [] → OpensFirst a a env all all now ys
opens_none a env all now ys unseen none = λ aloud F scope G s. record {
  done = λ c. [];
  first = [];
  own = [];
  carried = carried_refl;
  rows_done = done_none;
  opened = subst (AllOpened F (sight a) G []) (sym none) none_opened;
  asks = λ c. ap (λ ns. patterns_first c ns all) (sym unseen);
  splits = refl;
}

-- one pattern more
pub opens_more : (a b d : Parts) (env : List Entry) (all left rest : List Binding) (x : Binding) (now then : List Name) (ys zs : List OpenedBinding) → left ≡ x ∷ rest → Goes a b → OpensFirst a b env all left now ys →
    OpenAdded b d env now then ys zs x → OpensFirst a d env all rest then zs
opens_more a b d env all left rest x now then ys zs split goes first one = λ aloud F scope G s.
    let p = first aloud F scope G s in
    let q = one.opened (ap is_aloud goes.telling ∙ aloud) F scope (p.own ++ G) (surrounds_on p.carried.stays s) in
    let same = sym (append_assoc q.own p.own G) in
    record {
      done = λ c. p.done c ++ (tell x.node c ++ x.pattern.matched c now);
      first = p.first ++ x ∷ [];
      own = q.own ++ p.own;
      carried = subst (λ H. Carried F scope (λ c. p.done c ++ (tell x.node c ++ x.pattern.matched c now)) (sight a) G (sight d) H) same (carried_trans p.carried q.carried);
      rows_done = done_grouped same (carried_trans p.carried q.carried) (done_both (done_last p.carried q.carried q.done) (done_then p.carried q.carried p.rows_done));
      opened = subst (λ us. AllOpened F (sight d) ((q.own ++ p.own) ++ G) (p.first ++ x ∷ []) us) (sym one.adds)
          (subst (λ H. AllOpened F (sight d) H (p.first ++ x ∷ []) (ys ++ one.one ∷ [])) same (all_opened_more (all_opened_on q.carried.stays p.opened) q.opened));
      asks = λ c.
          p.asks c ∙ ap (λ xs. p.done c ++ patterns_first c now xs) split ∙ sym (append_assoc (p.done c) (tell x.node c ++ x.pattern.matched c now) (patterns_first c (now ++ x.pattern.mentions) rest)) ∙
          ap (λ ns. p.done c ++ (tell x.node c ++ x.pattern.matched c now) ++ patterns_first c ns rest) (sym one.sees);
      splits = p.splits ∙ ap (λ xs. p.first ++ xs) split ∙ sym (append_assoc p.first (x ∷ []) rest);
    }

-- an operand that is no binding
pub opens_same : (a b d : Parts) (env : List Entry) (all left rest : List Binding) (now then : List Name) (ys zs : List OpenedBinding) → left ≡ rest → OpensFirst a b env all left now ys → NoneAdded b d now then ys zs →
    OpensFirst a d env all rest then zs
opens_same a b d env all left rest now then ys zs split first none =
    subst (λ q. OpensFirst a q env all rest then zs) (sym none.still) (subst (λ us. OpensFirst a b env all rest then us) (sym none.adds)
    (subst (λ ns. OpensFirst a b env all rest ns ys) (sym none.sees) (subst (λ xs. OpensFirst a b env all xs now ys) split first)))

-- one operand more, which may be no binding
pub opens_further : (a b d : Parts) (env : List Entry) (all left rest : List Binding) (x : Option Binding) (now then : List Name) (ys zs : List OpenedBinding) → left ≡ cons_option x rest → Goes a b → OpensFirst a b env all left now ys →
    OpensIf b d env now then ys zs x → OpensFirst a d env all rest then zs
opens_further a b d env all left rest None now then ys zs split goes first none = opens_same a b d env all left rest now then ys zs split first none
opens_further a b d env all left rest (Some x) now then ys zs split goes first one = opens_more a b d env all left rest x now then ys zs split goes first one

-- all patterns
pub opens_all : (a b : Parts) (env : List Entry) (all left : List Binding) (now : List Name) (ys : List OpenedBinding) → left ≡ [] → OpensFirst a b env all left now ys → OpensAll a b env all ys
opens_all a b env all left now ys none first = λ aloud F scope G s.
    let p = first aloud F scope G s in
    record {
      own = p.own;
      carried = carried_as (λ c. sym (append-nil (p.done c)) ∙ ap (λ xs. p.done c ++ patterns_first c now xs) (sym none) ∙ sym (p.asks c)) p.carried;
      done = done_as _ p.carried p.rows_done;
      opened = subst (λ xs. AllOpened F (sight b) (p.own ++ G) xs ys) (sym (append-nil p.first) ∙ ap (λ xs. p.first ++ xs) (sym none) ∙ sym p.splits) p.opened;
    }

-- the names of the patterns come into scope, those of one binding after those of another
names_more : (ys : List OpenedBinding) (y : OpenedBinding) → names_opened (ys ++ y ∷ []) ≡ names_opened ys ++ y.names
names_more [] y = append-nil y.names
names_more (x ∷ ys) y = ap (λ ns. x.names ++ ns) (names_more ys y) ∙ sym (append_assoc x.names (names_opened ys) y.names)

-- no name yet
pub scope_none : (env : List Entry) → env ≡ names_added (names_opened []) env
scope_none env = refl

-- those of one binding more
pub scope_more : (env inner further : List Entry) (ys : List OpenedBinding) (y : OpenedBinding) → inner ≡ names_added (names_opened ys) env → further ≡ names_added y.names inner → further ≡ names_added (names_opened (ys ++ y ∷ [])) env
scope_more env inner further ys y so more = more ∙ ap (names_added y.names) so ∙ sym (names_both (names_opened ys) y.names env) ∙ ap (λ ns. names_added ns env) (sym (names_more ys y))

-- the right side of a binding, and then the demand on its pattern
pub conclusion_typed : (a b d : Parts) (env : List Entry) (x : Binding) (o : OpenedBinding) (right whole : ℕ) → TypesRight a b env (λ c. right_side c x) x right whole → Goes a b → AsksWhole b d env x.pattern o.node whole →
    ConcludesBinding a d env x o (record { names = o.names; right = right })
conclusion_typed a b d env x o right whole typed goes asked = λ aloud F scope G its s opened.
    let p = typed aloud F scope G its s in
    let here = is_opened_on p.typed.carried.stays opened in
    let q = asked (ap is_aloud goes.telling ∙ aloud) F scope (p.own ++ G) x.node (whole_by x) its (sees_on scope p.typed.carried.stays s.reached (surrounds_sees s)) here.means p.typed.means in
    record { own = p.own; carried = carried_trans p.typed.carried q; done = done_then p.typed.carried q p.done; typed = record { names = all_bound_on q.stays here.names; right = means_on q.stays p.right_means } }

-- no right side yet
pub concludes_none : (a : Parts) (env : List Entry) (all : List Binding) (os : List OpenedBinding) (ys : List TypedBinding) → ys ≡ [] → ConcludesFirst a a env all all os os ys
concludes_none a env all os ys none = λ aloud F scope G owned s opened. record {
  done = λ c. [];
  first = [];
  own = [];
  carried = carried_refl;
  rows_done = done_none;
  opened = opened;
  typed = subst (AllTyped F (sight a) G []) (sym none) none_typed;
  asks = λ c. refl;
  splits = refl;
}

-- the first of opened bindings, and the others
opened_first : {F : Frame} {a : Sight} {G : Letters} {x : Binding} {xs : List Binding} {o : OpenedBinding} {os : List OpenedBinding} → AllOpened F a G (x ∷ xs) (o ∷ os) → IsOpened F a G x o × AllOpened F a G xs os
opened_first (one_opened h hs) = (h, hs)

-- the demands of a binding among others are made in the scope
own_here : (scope : Scope) (front : List Binding) (x : Binding) (rest : List Binding) → AreOwn scope (front ++ x ∷ rest) → scope.own x.node ≡ true
own_here scope [] x rest h = h.0
own_here scope (y ∷ front) x rest h = own_here scope front x rest h.1

-- one right side more
pub concludes_more : (a b d : Parts) (env : List Entry) (all left rest : List Binding) (x : Binding) (opened os others : List OpenedBinding) (o : OpenedBinding) (ys zs : List TypedBinding) (y : TypedBinding) → left ≡ x ∷ rest → os ≡ o ∷ others →
    zs ≡ ys ++ y ∷ [] → Goes a b → ConcludesFirst a b env all left opened os ys → ConcludesBinding b d env x o y → ConcludesFirst a d env all rest opened others zs
concludes_more a b d env all left rest x opened os others o ys zs y split split' grown goes first one = λ aloud F scope G owned s are.
    let p = first aloud F scope G owned s are in
    let (h, hs) = opened_first (subst (λ us. AllOpened F (sight b) (p.own ++ G) (x ∷ rest) us) split' (subst (λ xs. AllOpened F (sight b) (p.own ++ G) xs os) split p.opened)) in
    let q = one (ap is_aloud goes.telling ∙ aloud) F scope (p.own ++ G) (own_here scope p.first x rest (subst (AreOwn scope) (p.splits ∙ ap (λ xs. p.first ++ xs) split) owned)) (surrounds_on p.carried.stays s) h in
    let same = sym (append_assoc q.own p.own G) in
    record {
      done = λ c. p.done c ++ conclusion_asks c x;
      first = p.first ++ x ∷ [];
      own = q.own ++ p.own;
      carried = subst (λ H. Carried F scope (λ c. p.done c ++ conclusion_asks c x) (sight a) G (sight d) H) same (carried_trans p.carried q.carried);
      rows_done = done_grouped same (carried_trans p.carried q.carried) (done_both (done_last p.carried q.carried q.done) (done_then p.carried q.carried p.rows_done));
      opened = subst (λ H. AllOpened F (sight d) H rest others) same (all_opened_on q.carried.stays hs);
      typed = subst (λ us. AllTyped F (sight d) ((q.own ++ p.own) ++ G) (p.first ++ x ∷ []) us) (sym grown)
          (subst (λ H. AllTyped F (sight d) H (p.first ++ x ∷ []) (ys ++ y ∷ [])) same (all_typed_more (all_typed_on q.carried.stays p.typed) q.typed));
      asks = λ c. p.asks c ∙ ap (λ xs. p.done c ++ conclusions_ask c xs) split ∙ sym (append_assoc (p.done c) (conclusion_asks c x) (conclusions_ask c rest));
      splits = p.splits ∙ ap (λ xs. p.first ++ xs) split ∙ sym (append_assoc p.first (x ∷ []) rest);
    }

-- all right sides
pub concludes_all : (a b : Parts) (env : List Entry) (all left : List Binding) (opened os : List OpenedBinding) (ys : List TypedBinding) → left ≡ [] → ConcludesFirst a b env all left opened os ys → ConcludesAll a b env all opened ys
concludes_all a b env all left opened os ys none first = λ aloud F scope G owned s are.
    let p = first aloud F scope G owned s are in
    record {
      own = p.own;
      carried = carried_as (λ c. sym (append-nil (p.done c)) ∙ ap (λ xs. p.done c ++ conclusions_ask c xs) (sym none) ∙ sym (p.asks c)) p.carried;
      done = done_as _ p.carried p.rows_done;
      typed = subst (λ xs. AllTyped F (sight b) (p.own ++ G) xs ys) (sym (append-nil p.first) ∙ ap (λ xs. p.first ++ xs) (sym none) ∙ sym p.splits) p.typed;
    }

-- what the right sides ask among the names of a group is what the definitions ask
conclusions_same : (c : Context) (ns : List Bound) (xs : List Binding) → conclusions_ask (with_names c ns) xs ≡ right_sides c (with_names c ns) xs
conclusions_same c ns [] = refl
conclusions_same c ns (x ∷ xs) = (λ i. right_side (with_names c ns) x ++ whole_same c x i ++ conclusions_same c ns xs i)

-- whether a number is that of one of these bindings
abbrev is_numbered : List Binding → ℕ → Bool
is_numbered [] n = false
is_numbered (x ∷ xs) n = n == x.node || is_numbered xs n

-- the scope in which the demands of a group's bindings are made
abbrev group_scope : List Binding → Scope → Scope
group_scope xs scope = with_own (λ n. scope.own n || is_numbered xs n) scope

-- those of each of them are
all_own : (scope : Scope) (xs : List Binding) (own : ℕ → Bool) → ((n : ℕ) → is_numbered xs n ≡ true → own n ≡ true) → AreOwn (with_own own scope) xs
all_own scope [] own h = tt
all_own scope (x ∷ xs) own h = (h x.node (or_left (x.node == x.node) (is_numbered xs x.node) (eqb_same x.node)), all_own scope xs own (λ n e. h n (or_right (n == x.node) (is_numbered xs n) e)))

-- the patterns say first of each binding that it is treated
treated_first : (c : Context) (seen : List Name) (xs : List Binding) (n : ℕ) → is_numbered xs n ≡ true → IsTreated n c.env (patterns_first c seen xs)
treated_first c seen [] n h = absurd (cc)
treated_first c seen (x ∷ xs) n h = elim (or_cases (n == x.node) (is_numbered xs n) h) [
  | inl e ↦ (zero, ap (λ m. Some (treated m c.env)) (sym (eqb-true n x.node e)))
  | inr e ↦
      let (j, f) = treated_first c (seen ++ x.pattern.mentions) xs n e in
      (suc (length (x.pattern.matched c seen) + j), get_second (x.pattern.matched c seen) (patterns_first c (seen ++ x.pattern.mentions) xs) j ∙ f)
]

-- The patterns, and then the right sides among the names of the group.
pub together_typed : (a b d : Parts) (env inner : List Entry) (xs : List Binding) (os : List OpenedBinding) (ys : List TypedBinding) → OpensAll a b env xs os → Goes a b → inner ≡ names_added (names_opened os) env → ConcludesAll b d inner xs os ys →
    TypesBindings a d env (λ c. bound_together c xs) xs ys
together_typed a b d env inner xs os ys opens goes brought concludes = λ aloud F scope G s.
    let p = opens aloud F scope G s in
    let bound = opened_names p.opened in
    let inside = group_scope xs scope in
    let names = subst (λ q. Surrounds as_declared F (sight b) (p.own ++ G) q (with_bound (names_of_group xs) inside)) (sym brought) (surrounds_bound bound (surrounds_with (λ n. scope.own n || is_numbered xs n) (surrounds_on p.carried.stays s))) in
    let owned : AreOwn (with_bound (names_of_group xs) inside) xs = all_own (with_bound (names_of_group xs) inside) xs (λ n. scope.own n || is_numbered xs n) (λ n e. or_right (scope.own n) (is_numbered xs n) e) in
    let q = concludes (ap is_aloud goes.telling ∙ aloud) F (with_bound (names_of_group xs) inside) (p.own ++ G) owned names p.opened in
    let w : Carried F inside (λ c. conclusions_ask (with_names c (names_of_group xs)) xs) (sight b) (p.own ++ G) (sight d) (q.own ++ (p.own ++ G)) = among_names bound q.carried in
    let same = sym (append_assoc q.own p.own G) in
    let told = λ (c : Context) (u : IsUnder scope c) (n : ℕ) (e : is_numbered xs n ≡ true). treated_first c [] xs n e in
    let both = carried_told (is_numbered xs) told p.carried w in
    let hides = sym (further_hides (is_numbered xs) told p.carried w) in
    let here : Carried F scope (λ c. bound_together c xs) (sight a) G (sight d) (q.own ++ (p.own ++ G)) = carried_as (λ c. ap (λ cs. patterns_first c [] xs ++ cs) (conclusions_same c (names_of_group xs) xs)) both in
    record {
      own = q.own ++ p.own;
      carried = subst (λ H. Carried F scope (λ c. bound_together c xs) (sight a) G (sight d) H) same here;
      done = done_grouped same here (done_as _ both (done_both (done_on keeps_same (λ y h. subst (λ zs. HasCopy zs y) hides (copy_second p.carried.hidden w.hidden h)) (done_among inside bound q.carried q.done)) (done_on w.stays.keeps (λ y h. subst (λ zs. HasCopy zs y) hides (copy_first p.carried.hidden w.hidden h)) p.done)));
      typed = subst (λ H. AllTyped F (sight d) H xs ys) same q.typed;
    }

-- the names of the bindings that are left come into scope one binding after another
pub scope_step : (inner further whole : List Entry) (left rest : List OpenedBinding) (y : OpenedBinding) → left ≡ y ∷ rest → further ≡ names_added y.names inner → names_added (names_opened left) inner ≡ whole → names_added (names_opened rest) further ≡ whole
scope_step inner further whole left rest y split more so = ap (names_added (names_opened rest)) more ∙ sym (names_both y.names (names_opened rest) inner) ∙ ap (λ us. names_added (names_opened us) inner) (sym split) ∙ so

-- and then they all are
pub scope_end : (inner whole : List Entry) (left : List OpenedBinding) → left ≡ [] → names_added (names_opened left) inner ≡ whole → inner ≡ whole
scope_end inner whole left none so = ap (λ us. names_added (names_opened us) inner) (sym none) ∙ so
