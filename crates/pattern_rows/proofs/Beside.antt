-- p | p: its sides one beside another, and what is asked of each later one beside the first.
use Rattle.std.proofs.Common.{◌≡◌, ◌∙◌, ◌++◌, ℕ, ◌+◌, Bool, true, false, arith, List, [], ◌∷◌, length, Option, Some, None, refl, sym, ap, subst, append_assoc, append-nil, if◌then◌else◌}
use Rattle.text_terms.specs.declared.Span.{Span}
use Rattle.tree_model.specs.Rows.{por_row}
use Rattle.tree_model.specs.Trees.{Place, Tree}
use Rattle.syntax_tree.specs.View.{place_of}
use Rattle.signature_model.specs.Declarations.{Name}
use Rattle.signature_model.specs.Components.{same_name}
use Rattle.row_parts.specs.Numbered.{operands_in, filled_in}
use Rattle.typing_model.specs.Demands.{Demand, site, demand, same, equal, test}
use Rattle.typing_model.specs.Demands as complaint
use Rattle.typing_model.specs.Contexts.{Context, Bound, ask, type_at}
use Rattle.typing_model.specs.Parts as parts
use Rattle.typing_model.specs.Parts.{Pattern}
use Rattle.typing_model.specs.Patterns.{por, ask_all, matched_each, find_bound, first_apart, name_apart, sides_differ, common_names, side_beside, sides_beside}
use Rattle.env_table.specs.declared.faults.FaultKind.TheVariants as fault
use Rattle.env_table.specs.declared.entries.Entry.{Entry}
use Rattle.typing_state.specs.declared.parts.Parts.{Parts}
use Rattle.typing_state.specs.Goes.{Goes, Told, faults_of, OnlyFaults}
use Rattle.typing_state.specs.Messages.{one_side_text}
use Rattle.typing_conditions.specs.Sights.{Sight, Letters}
use Rattle.typing_conditions.specs.Frames.{Frame}
use Rattle.typing_conditions.specs.Carrying.{Scope, SeesScope, Stays, Carried}
use Rattle.typing_conditions.proofs.Recording.{ends_same}
use Rattle.typing_conditions.specs.Hiding.{AreDone}
use Rattle.typing_conditions.proofs.Carried.{carried_refl, carried_trans, carried_as, done_then, done_last, done_as}
use Rattle.typing_conditions.proofs.Hiding.{done_none, done_both, owns_done}
use Rattle.typing_conditions.proofs.Keeping.{all_among}
use Rattle.typing_conditions.proofs.Meaning.{means_on}
use Rattle.typing_conditions.proofs.Stays.{stays_trans}
use Rattle.typing_conditions.proofs.Surrounding.{surrounds_on, surrounds_sees, sees_on}
use Rattle.typing_steps.specs.States.{is_aloud, sight}
use Rattle.typing_steps.specs.Typing.{AsksEqual}
use Rattle.typing_steps.proofs.Testing.{complaint_told}
use Rattle.operand_laws.specs.Formed.{row_of, IsFormed}
use Rattle.operand_laws.specs.Operands.{number_of, pattern_of}
use Rattle.pattern_rows.specs.Bounds.{Bind, IsBound, AllBound, none_bound, one_bound}
use Rattle.pattern_rows.specs.Contracts.{row_pattern, patterns_of, MatchesTo, MatchesRow}
use Rattle.pattern_rows.specs.Sides.{Side, IsSide, AllSides, no_side, one_more, MatchesSides, MatchesSidesFirst, AllAsked, find_bind, first_apart_here, name_apart_here, name_asks, AsksSides, AsksName, AsksNames, NamesFirst, AsksNamesFirst, AsksBeside, AsksLater, LaterFirst, AsksLaterFirst}
use Rattle.pattern_rows.proofs.Naming.{all_bound_on}
use Rattle.pattern_rows.proofs.Opened.{done_grouped}
use Rattle.pattern_rows.proofs.Terms.{or_term}

-- a side still stands for its pattern
side_on : {F : Frame} {a b : Sight} {G H : Letters} {p : Pattern} {x : Side} → Stays F a G b H → IsSide F a G p x → IsSide F b H p x
side_on s h = record { means = means_on s h.means; bound = all_bound_on s h.bound }

-- so do sides
sides_on : {F : Frame} {a b : Sight} {G H : Letters} {ps : List Pattern} {xs : List Side} → Stays F a G b H → AllSides F a G ps xs → AllSides F b H ps xs
sides_on s no_side = no_side
sides_on s (one_more h hs) = one_more (side_on s h) (sides_on s hs)

-- one side more
side_more : {F : Frame} {a : Sight} {G : Letters} {ps : List Pattern} {xs : List Side} {p : Pattern} {x : Side} → AllSides F a G ps xs → IsSide F a G p x → AllSides F a G (ps ++ p ∷ []) (xs ++ x ∷ [])
side_more no_side h = one_more h no_side
side_more (one_more p ps) h = one_more p (side_more ps h)

-- no side yet
pub sides_none : (a : Parts) (env : List Entry) (ps : List Pattern) (seen : List Name) → MatchesSidesFirst a a env ps ps seen []
sides_none a env ps seen = record { opens = []; typed = λ aloud F scope G s. record { done = λ c. []; front = []; carried = carried_refl; rows_done = done_none; all = no_side; asks = λ c. refl; split = refl } }

-- one side more, behind the names seen before all of them
pub sides_more : (a b d : Parts) (env : List Entry) (ps left rest : List Pattern) (p : Pattern) (seen : List Name) (added : List Bind) (m : ℕ) (sides longer : List Side) → left ≡ p ∷ rest → longer ≡ sides ++ record { node = m; names = added } ∷ [] → Goes a b →
    MatchesSidesFirst a b env ps left seen sides → MatchesTo b d env p seen added m → MatchesSidesFirst a d env ps rest seen longer
sides_more a b d env ps left rest p seen added m sides longer split grown goes first one = record {
  opens = one.opens ++ first.opens;
  typed = λ aloud F scope G s.
      let x = first.typed aloud F scope G s in
      let y = one.typed (ap is_aloud goes.telling ∙ aloud) F scope (first.opens ++ G) (surrounds_on x.carried.stays s) in
      let same = sym (append_assoc one.opens first.opens G) in
      record {
        done = λ c. x.done c ++ p.matched c seen;
        front = x.front ++ p ∷ [];
        carried = subst (λ H. Carried F scope (λ c. x.done c ++ p.matched c seen) (sight a) G (sight d) H) same (carried_trans x.carried y.typed.carried);
        rows_done = done_grouped same (carried_trans x.carried y.typed.carried) (done_both (done_last x.carried y.typed.carried y.done) (done_then x.carried y.typed.carried x.rows_done));
        all = subst (AllSides F (sight d) ((one.opens ++ first.opens) ++ G) (x.front ++ p ∷ [])) (sym grown)
            (subst (λ H. AllSides F (sight d) H (x.front ++ p ∷ []) (sides ++ record { node = m; names = added } ∷ [])) same (side_more (sides_on y.typed.carried.stays x.all) (record { means = y.typed.means; bound = y.names })));
        asks = λ c. x.asks c ∙ ap (λ qs. x.done c ++ matched_each c seen qs) split ∙ sym (append_assoc (x.done c) (p.matched c seen) (matched_each c seen rest));
        split = x.split ∙ ap (λ qs. x.front ++ qs) split ∙ sym (append_assoc x.front (p ∷ []) rest);
      };
}

-- all sides
pub sides_all : (a b : Parts) (env : List Entry) (ps left : List Pattern) (seen : List Name) (sides : List Side) → left ≡ [] → MatchesSidesFirst a b env ps left seen sides → MatchesSides a b env ps seen sides
sides_all a b env ps left seen sides none first = record {
  opens = first.opens;
  typed = λ aloud F scope G s.
      let x = first.typed aloud F scope G s in
      record {
        carried = carried_as (λ c. sym (append-nil (x.done c)) ∙ ap (λ qs. x.done c ++ matched_each c seen qs) (sym none) ∙ sym (x.asks c)) x.carried;
        done = done_as _ x.carried x.rows_done;
        all = subst (λ qs. AllSides F (sight b) (first.opens ++ G) qs sides) (sym (append-nil x.front) ∙ ap (λ qs. x.front ++ qs) (sym none) ∙ sym x.split) x.all;
      };
}

-- demands and then others have their numbers one behind another
ask_both : (n k : ℕ) (xs ys : List (Place × Demand)) → ask_all n k (xs ++ ys) ≡ ask_all n k xs ++ ask_all n (k + length xs) ys
ask_both n k [] ys = ap (λ j. ask_all n j ys) (let e : k ≡ k + 0 = omega arith in e)
ask_both n k (x ∷ xs) ys =
    ap (λ cs. ask n k x.0 x.1 ++ cs) (ask_both n (k + 1) xs ys ∙ ap (λ j. ask_all n (k + 1) xs ++ ask_all n j ys) (let e : (k + 1) + length xs ≡ k + length (x ∷ xs) = omega arith in e))

length_both : (xs ys : List (Place × Demand)) → length (xs ++ ys) ≡ length xs + length ys
length_both [] ys = let e : length ys ≡ 0 + length ys = omega arith in e
length_both (x ∷ xs) ys = let e = length_both xs ys in omega arith

-- no demand
asked_none : {F : Frame} {scope : Scope} {a : Sight} {G : Letters} (n k : ℕ) → AllAsked F scope a G a n k (λ c. [])
asked_none n k = record { count = 0; counts = λ c. refl; carried = carried_refl }

-- one demand
asked_one : {F : Frame} {scope : Scope} {a b : Sight} {G : Letters} (n k : ℕ) (at : Place) (d : Context → Demand) → Carried F scope (λ c. demand (site n k) at (d c) ∷ []) a G b G → AllAsked F scope a G b n k (λ c. (at, d c) ∷ [])
asked_one n k at d p = record { count = 1; counts = λ c. refl; carried = p }

-- demands, and then others
asked_both : {F : Frame} {scope : Scope} {a b e : Sight} {G : Letters} {n k : ℕ} {xs ys : Context → List (Place × Demand)} (p : AllAsked F scope a G b n k xs) → AllAsked F scope b G e n (k + p.count) ys → AllAsked F scope a G e n k (λ c. xs c ++ ys c)
asked_both {n = n} {k = k} {xs = xs} {ys = ys} p q = record {
  count = p.count + q.count;
  counts = λ c. length_both (xs c) (ys c) ∙ (λ i. p.counts c i + q.counts c i);
  carried = carried_as (λ c. ap (λ j. ask_all n k (xs c) ++ ask_all n (k + j) (ys c)) (sym (p.counts c)) ∙ sym (ask_both n k (xs c) (ys c))) (carried_trans p.carried q.carried);
}

-- demands written in another way
asked_as : {F : Frame} {scope : Scope} {a b : Sight} {G : Letters} {n k : ℕ} {xs ys : Context → List (Place × Demand)} → ((c : Context) → xs c ≡ ys c) → AllAsked F scope a G b n k xs → AllAsked F scope a G b n k ys
asked_as {n = n} {k = k} e p = record { count = p.count; counts = λ c. sym (ap length (e c)) ∙ p.counts c; carried = carried_as (λ c. ap (ask_all n k) (e c)) p.carried }

-- what the code finds stands for what the definitions find
abbrev FoundAs : Frame → Sight → Letters → Option Bound → Option Bind → Type 0
FoundAs F b G None None = Unit {0}
FoundAs F b G None (Some y) = ⊥
FoundAs F b G (Some x) None = ⊥
FoundAs F b G (Some x) (Some y) = IsBound F b G x y

-- a name among some is found in both or in none
found_as : {F : Frame} {b : Sight} {G : Letters} {xs : List Bound} {ys : List Bind} (n : Name) → AllBound F b G xs ys → FoundAs F b G (find_bound n xs) (find_bind n ys)
found_as n none_bound = tt
found_as {F} {b} {G} n (one_bound {x} {xs} {y} {ys} h hs) = subst (λ t. FoundAs F b G (if t then Some x else find_bound n xs) (find_bind n (y ∷ ys))) (ap (same_name n) (sym h.named)) (by (same_name n y.token.name) (found_as n hs))
  where
    by : (t : Bool) → FoundAs F b G (find_bound n xs) (find_bind n ys) → FoundAs F b G (if t then Some x else find_bound n xs) (if t then Some y else find_bind n ys)
    by true rest = h
    by false rest = rest

-- the first name apart is the same
apart_as : {F : Frame} {b : Sight} {G : Letters} {xs others : List Bound} {ys others' : List Bind} → AllBound F b G xs ys → AllBound F b G others others' → first_apart xs others ≡ first_apart_here ys others'
apart_as none_bound all = refl
apart_as {F} {b} {G} {others = others} {others' = others'} (one_bound {x} {xs} {y} {ys} h hs) all =
    by (find_bound x.name others) (find_bind y.token.name others') (subst (λ n. FoundAs F b G (find_bound x.name others) (find_bind n others')) h.named (found_as x.name all)) (apart_as hs all)
  where
    by : (o : Option Bound) (p : Option Bind) → FoundAs F b G o p → first_apart xs others ≡ first_apart_here ys others' →
        let mine : Option Name = elim o [ None ↦ Some x.name | Some q ↦ first_apart xs others ] in let theirs : Option Name = elim p [ None ↦ Some y.token.name | Some q ↦ first_apart_here ys others' ] in mine ≡ theirs
    by None None f rest = ap Some h.named
    by None (Some q) f rest = absurd f
    by (Some o) None f rest = absurd f
    by (Some o) (Some q) f rest = rest

-- so is the name that tells two sides apart
sides_apart_as : {F : Frame} {b : Sight} {G : Letters} {xs others : List Bound} {ys others' : List Bind} → AllBound F b G xs ys → AllBound F b G others others' → name_apart xs others ≡ name_apart_here ys others'
sides_apart_as {xs = xs} {others = others} {ys = ys} {others' = others'} p q =
    (λ i. elim (apart_as p q i) [ None ↦ apart_as q p i | Some n ↦ Some n ])

-- no name tells the sides apart: nothing is asked
pub sides_same : (a : Parts) (at : Place) (first later : List Bind) → name_apart_here first later ≡ None → AsksSides a a at first later
sides_same a at first later none = λ aloud F scope G n k xs ys p q. asked_as (λ c. ap (sides_differ at) (sym (sides_apart_as p q ∙ none))) (asked_none n k)

-- a name does: it is reported
pub sides_told : (a b : Parts) (at : Span) (first later : List Bind) (x : Name) → name_apart_here first later ≡ Some x → Told a.telling (faults_of a) (faults_of b) at fault.Sides (one_side_text x) → OnlyFaults a b → AsksSides a b (place_of at) first later
sides_told a b at first later x some told rest = λ aloud F scope G n k xs ys p q.
    asked_as (λ c. ap (sides_differ (place_of at)) (sym (sides_apart_as p q ∙ some)))
    (asked_one n k (place_of at) (λ c. test (complaint.one_side x) false) (complaint_told a b (complaint.one_side x) (site n k) aloud told rest).carried)

-- a name of the first side isn't on the later one
pub name_alone : (a : Parts) (env : List Entry) (name : Bind) (later : List Bind) → find_bind name.token.name later ≡ None → AsksName a a env name later
name_alone a env name later none = λ aloud F scope G n k x ys its sees h all.
    asked_as (λ c. by F (sight a) G c x (find_bound x.name ys) (subst (FoundAs F (sight a) G (find_bound x.name ys)) (ap (λ m. find_bind m later) h.named ∙ none) (found_as x.name all))) (asked_none n k)
  where
    by : (F : Frame) (b : Sight) (G : Letters) (c : Context) (x : Bound) (o : Option Bound) → FoundAs F b G o None → let none : List (Place × Demand) = [] in none ≡ (elim o [ None ↦ [] | Some o ↦ (o.place, equal (o.has_type c) (x.has_type c)) ∷ [] ])
    by F b G c x None f = refl
    by F b G c x (Some o) f = absurd f

-- it is: its types are asked to be one
pub name_common : (a b : Parts) (env : List Entry) (name other : Bind) (later : List Bind) → find_bind name.token.name later ≡ Some other → AsksEqual a b env (parts.place_of other.token) other.node.0 name.node.0 → AsksName a b env name later
name_common a b env name other later some asked = λ aloud F scope G n k x ys its sees h all.
    by F scope G aloud n k x its sees h (find_bound x.name ys) (subst (FoundAs F (sight a) G (find_bound x.name ys)) (ap (λ m. find_bind m later) h.named ∙ some) (found_as x.name all))
  where
    by : (F : Frame) (scope : Scope) (G : Letters) → is_aloud a.telling ≡ true → (n k : ℕ) (x : Bound) → scope.own n ≡ true → SeesScope F scope (sight a) G env → IsBound F (sight a) G x name → (o : Option Bound) → FoundAs F (sight a) G o (Some other) →
        AllAsked F scope (sight a) G (sight b) n k (λ c. elim o [ None ↦ [] | Some o ↦ (o.place, equal (o.has_type c) (x.has_type c)) ∷ [] ])
    by F scope G aloud n k x its sees h None f = absurd f
    by F scope G aloud n k x its sees h (Some o) f =
        let z = asked aloud F scope G (site n k) _ _ its sees f.means h.means in
        asked_one n k o.place (λ c. equal (o.has_type c) (x.has_type c)) (carried_as (λ c. (λ i. demand (site n k) (sym f.placed i) (equal (sym (f.chosen c) i) (sym (h.chosen c) i)) ∷ [])) z)

-- what is asked of one name, and of the others
names_split : (c : Context) (x : Bound) (xs ys : List Bound) → common_names c (x ∷ xs) ys ≡ name_asks c x ys ++ common_names c xs ys
names_split c x xs ys = by (find_bound x.name ys)
  where
    by : (o : Option Bound) → (elim o [ None ↦ common_names c xs ys | Some o ↦ (o.place, equal (o.has_type c) (x.has_type c)) ∷ common_names c xs ys ]) ≡ (elim o [ None ↦ [] | Some o ↦ (o.place, equal (o.has_type c) (x.has_type c)) ∷ [] ]) ++ common_names c xs ys
    by None = refl
    by (Some o) = refl

-- no name yet
pub names_none : (a : Parts) (env : List Entry) (first later : List Bind) → AsksNamesFirst a a env first first later
names_none a env first later = λ aloud F scope G n k xs ys its r sees p q. record { front = λ c. []; rest = xs; asked = asked_none n k; names = p; asks = λ c. refl }

-- one name more
pub names_more : (a b d : Parts) (env : List Entry) (first left others later : List Bind) (name : Bind) → left ≡ name ∷ others → Goes a b → AsksNamesFirst a b env first left later → AsksName b d env name later → AsksNamesFirst a d env first others later
names_more a b d env first left others later name split goes so_far one = λ aloud F scope G n k xs ys its r sees p q.
    let x = so_far aloud F scope G n k xs ys its r sees p q in
    by F scope G n k xs ys its (sees_on scope x.asked.carried.stays r sees) (ap is_aloud goes.telling ∙ aloud) x.front x.rest x.asked (subst (AllBound F (sight b) G x.rest) split x.names) (all_bound_on x.asked.carried.stays q) x.asks
  where
    by : (F : Frame) (scope : Scope) (G : Letters) (n k : ℕ) (xs ys : List Bound) → scope.own n ≡ true → SeesScope F scope (sight b) G env → is_aloud b.telling ≡ true → (front : Context → List (Place × Demand)) (rest : List Bound) → AllAsked F scope (sight a) G (sight b) n k front → AllBound F (sight b) G rest (name ∷ others) →
        AllBound F (sight b) G ys later → ((c : Context) → common_names c xs ys ≡ front c ++ common_names c rest ys) → NamesFirst F scope (sight a) G (sight d) n k xs ys others
    by F scope G n k xs ys its sees loud front rest asked (one_bound {x = x} {xs = xs'} h hs) q asks =
        let y = one loud F scope G n (k + asked.count) x ys its sees h q in
        record {
          front = λ c. front c ++ name_asks c x ys;
          rest = xs';
          asked = asked_both asked y;
          names = all_bound_on y.carried.stays hs;
          asks = λ c. asks c ∙ ap (λ ds. front c ++ ds) (names_split c x xs' ys) ∙ sym (append_assoc (front c) (name_asks c x ys) (common_names c xs' ys));
        }

-- all names
pub names_all : (a b : Parts) (env : List Entry) (first left later : List Bind) → left ≡ [] → AsksNamesFirst a b env first left later → AsksNames a b env first later
names_all a b env first left later none so_far = λ aloud F scope G n k xs ys its r sees p q.
    let x = so_far aloud F scope G n k xs ys its r sees p q in
    by F scope G n k xs ys x.front x.rest x.asked (subst (AllBound F (sight b) G x.rest) none x.names) x.asks
  where
    by : (F : Frame) (scope : Scope) (G : Letters) (n k : ℕ) (xs ys : List Bound) (front : Context → List (Place × Demand)) (rest : List Bound) → AllAsked F scope (sight a) G (sight b) n k front → AllBound F (sight b) G rest [] →
        ((c : Context) → common_names c xs ys ≡ front c ++ common_names c rest ys) → AllAsked F scope (sight a) G (sight b) n k (λ c. common_names c xs ys)
    by F scope G n k xs ys front rest asked none_bound asks = asked_as (λ c. sym (append-nil (front c)) ∙ sym (asks c)) asked

-- a later side beside the first: its names, their types, and its own
pub beside : (a b d e : Parts) (env : List Entry) (first side : Side) (at : Place) → AsksSides a b at first.names side.names → Goes a b → AsksNames b d env first.names side.names → Goes b d → AsksEqual d e env at side.node first.node → AsksBeside a e env first side at
beside a b d e env first side at apart goes names goes' asked = λ aloud F scope G n k p q its sees h i here.
    let loud : is_aloud b.telling ≡ true = ap is_aloud goes.telling ∙ aloud in
    let x = subst (λ l. AllAsked F scope (sight a) G (sight b) n k (λ c. sides_differ l (name_apart p.names q.names))) (sym here) (apart aloud F scope G n k p.names q.names h.bound i.bound) in
    let y = names loud F scope G n (k + x.count) p.names q.names its (x.carried.stays.reaches h.means.open_node.reached) (sees_on scope x.carried.stays h.means.open_node.reached sees) (all_bound_on x.carried.stays h.bound) (all_bound_on x.carried.stays i.bound) in
    let both = asked_both x y in
    let z = asked (ap is_aloud goes'.telling ∙ loud) F scope G (site n (k + both.count)) (λ ch. ch.type_at q.node) (λ ch. ch.type_at p.node) its (sees_on scope both.carried.stays h.means.open_node.reached sees) (means_on both.carried.stays i.means) (means_on both.carried.stays h.means) in
    asked_both both (asked_one n (k + both.count) q.at (λ c. equal (type_at c q.node) (type_at c p.node))
    (subst (λ l. Carried F scope (λ c. demand (site n (k + both.count)) l (equal (type_at c q.node) (type_at c p.node)) ∷ []) (sight d) G (sight e) G) (sym here) z))

-- no later side yet
pub later_none : (a : Parts) (env : List Entry) (first : Side) (sides : List Side) (ps : List Pattern) → AsksLaterFirst a a env first sides sides ps ps
later_none a env first sides ps = λ aloud F scope G n k p its sees h all. record { front = λ c. []; asked = asked_none n k; all = all; asks = λ c. refl }

-- one later side more
pub later_more : (a b d : Parts) (env : List Entry) (first side : Side) (sides left others : List Side) (ps rest qs : List Pattern) (q : Pattern) (at : Place) → left ≡ side ∷ others → rest ≡ q ∷ qs → q.at ≡ at → Goes a b → AsksLaterFirst a b env first sides left ps rest → AsksBeside b d env first side at →
    AsksLaterFirst a d env first sides others ps qs
later_more a b d env first side sides left others ps rest qs q at split part here goes so_far one = λ aloud F scope G n k p its sees h all.
    let x = so_far aloud F scope G n k p its sees h all in
    let there : AllSides F (sight b) G (q ∷ qs) (side ∷ others) = subst (AllSides F (sight b) G (q ∷ qs)) split (subst (λ rs. AllSides F (sight b) G rs left) part x.all) in
    by F scope G n k p its (sees_on scope x.asked.carried.stays h.means.open_node.reached sees) (ap is_aloud goes.telling ∙ aloud) x.front x.asked (side_on x.asked.carried.stays h) there (λ c. x.asks c ∙ ap (λ rs. x.front c ++ sides_beside c p rs) part)
  where
    by : (F : Frame) (scope : Scope) (G : Letters) (n k : ℕ) (p : Pattern) → scope.own n ≡ true → SeesScope F scope (sight b) G env → is_aloud b.telling ≡ true → (front : Context → List (Place × Demand)) → AllAsked F scope (sight a) G (sight b) n k front → IsSide F (sight b) G p first → AllSides F (sight b) G (q ∷ qs) (side ∷ others) →
        ((c : Context) → sides_beside c p ps ≡ front c ++ (side_beside c p q ++ sides_beside c p qs)) → LaterFirst F scope (sight a) G (sight d) n k p ps qs others
    by F scope G n k p its sees loud front asked h (one_more i hs) asks =
        let y = one loud F scope G n (k + asked.count) p q its sees h i here in
        record {
          front = λ c. front c ++ side_beside c p q;
          asked = asked_both asked y;
          all = sides_on y.carried.stays hs;
          asks = λ c. asks c ∙ sym (append_assoc (front c) (side_beside c p q) (sides_beside c p qs));
        }

-- all later sides
pub later_all : (a b : Parts) (env : List Entry) (first : Side) (sides left : List Side) (ps rest : List Pattern) → rest ≡ [] → AsksLaterFirst a b env first sides left ps rest → AsksLater a b env first sides ps
later_all a b env first sides left ps rest none so_far = λ aloud F scope G n k p its sees h all.
    let x = so_far aloud F scope G n k p its sees h all in
    asked_as (λ c. sym (append-nil (x.front c)) ∙ ap (λ rs. x.front c ++ sides_beside c p rs) (sym none) ∙ sym (x.asks c)) x.asked

-- the first side, and the others
record SplitSides (F : Frame) (a : Sight) (G : Letters) (p : Pattern) (ps : List Pattern) (x : Side) (xs : List Side) : Type 0 where
  head : IsSide F a G p x
  tail : AllSides F a G ps xs

split_sides : {F : Frame} {a : Sight} {G : Letters} {p : Pattern} {ps : List Pattern} {x : Side} {xs : List Side} → AllSides F a G (p ∷ ps) (x ∷ xs) → SplitSides F a G p ps x xs
split_sides (one_more h hs) = record { head = h; tail = hs }

-- p | p, over its sides: it binds the names of the first
pub or_row : (a b d : Parts) (env : List Entry) (n : ℕ) (at : Place) (p : Pattern) (ps : List Pattern) (seen : List Name) (first : Side) (sides : List Side) → MatchesSides a b env (p ∷ ps) seen (first ∷ sides) → Goes a b → AsksLater b d env first sides ps →
    MatchesRow a d env (por n at p ps) seen first.names n first.node
or_row a b d env n at p ps seen first sides matched goes asked = record {
  opens = matched.opens;
  typed = λ aloud F scope G its s.
      let x = matched.typed aloud F scope G s in
      let h = split_sides x.all in
      let y = asked (ap is_aloud goes.telling ∙ aloud) F scope (matched.opens ++ G) n 0 p its (sees_on scope x.carried.stays s.reached (surrounds_sees s)) h.head h.tail in
      let ready : AreDone (sight d) (carried_trans x.carried y.carried).hidden matched.opens = done_then x.carried y.carried x.done in
      record {
        row = record {
          own = matched.opens;
          type = λ ch. ch.type_at p.node;
          first = λ c. matched_each c seen (p ∷ ps) ++ ask_all n 0 (sides_beside c p ps);
          ends = λ c. same (type_at c n) (type_at c p.node) ∷ [];
          all = λ c. refl;
          typed = record { carried = carried_trans x.carried y.carried; means = means_on y.carried.stays h.head.means };
          owns = λ known. owns_done ready;
          end = ends_same n (λ ch. ch.type_at p.node);
        };
        among = all_among matched.opens;
        done = ready;
        names = λ o st k known. all_bound_on (stays_trans y.carried.stays st) h.head.bound;
      };
}

-- p | p, as the row of a node
pub or_row_typed : (a d : Parts) (env : List Entry) (i n : ℕ) (at : Place) (t : Tree) (seen : List Name) (added : List Bind) (m : ℕ) → IsFormed n t → row_of t ≡ por_row →
    MatchesRow a d env (por (number_of i n) at (pattern_of i (filled_in n t 0)) (patterns_of i (operands_in n t 2))) seen added (number_of i n) m → MatchesRow a d env (row_pattern i n at t) seen added (number_of i n) m
or_row_typed a d env i n at t seen added m formed row matched = subst (λ p. MatchesRow a d env p seen added (number_of i n) m) (sym (or_term i n at t formed row)) matched
