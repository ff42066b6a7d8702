-- Records, cases, functions and bindings tell the typed nodes of their parts.
use Rattle.std.proofs.Common.{◌≡◌, ℕ, ◌+◌, Bool, true, false, List, [], ◌∷◌, ◌++◌, Option, Some, None, refl, sym, subst, if◌then◌else◌}
use Rattle.tree_model.specs.Trees.{Place}
use Rattle.query_model.specs.TypedNodes.{Typed}
use Rattle.type_model.specs.Types.{Typ}
use Rattle.signature_model.specs.Declarations.{Name, Declaration, type_of}
use Rattle.signature_model.specs.Entries.{Environment}
use Rattle.typing_model.specs.Demands.{test, no_label, Condition}
use Rattle.typing_model.specs.Contexts.{Context, under, type_at, letter, ask, with_names}
use Rattle.typing_model.specs.Parts.{Form, a_constructor, a_path, a_float, a_false, a_field, no_expression, other, Expression, Pattern, Case, Field, Binding}
use Rattle.typing_model.specs.Names.{used_at}
use Rattle.typing_model.specs.Records.{name_in, field_type, ask_once, ask_record, ask_complete}
use Rattle.typing_model.specs.BuiltIns.{exn_type}
use Rattle.typing_model.specs.Patterns.{kept_record, all_names}
use Rattle.typing_model.specs.Bindings.{matched_apart, read_annotation, has_annotation, right_side, pattern_has, bound_in_turn, patterns_first, right_sides, bindings_ask, within_let, names_of_group}
use Rattle.typing_model.specs.Expressions.{has_type, field_value_asks, is_some, fields_ask, labels_of, names_of_labels, is_record, record_asks, first_field, before_labels, loose_value, typed_all, record_expression, update_expression, guard_asks, case_asks, later_cases, cases_ask, match_expression, try_expression, function_expression, fun_expression, let_expression}
use Rattle.scope_laws.proofs.Heard.{types_in, Includes, within_itself, within_left, within_right, within_behind, within_within, Tells, nothing, through, left, behind, skip, both, join, Heards, no_one, one_and, MayBe, absent, there}
use Rattle.scope_laws.proofs.HeardPatterns.{Into, HeardPattern}
use Rattle.scope_laws.proofs.HeardExpressions.{IsUnread, HeardExpression, usual}

-- a field tells typed nodes wherever it stands
pub record HeardField (ts : List Typed) (f : Field) : Type 0 where
  pub asks : (c : Context) (is_found : Bool) (names : List Name) (t : Option Typ) → Tells (types_in c) ts (field_value_asks c is_found f names t)

-- that the value of a field has a type, if there is one
abbrev value_has : Context → Field → Expression → Option Typ → List Condition
value_has c f e o = elim o [ None ↦ [] | Some t ↦ has_type c f.node 2 e t ]

-- l = e
pub field_heard : {ts : List Typed} (f : Field) → MayBe HeardExpression ts f.value → HeardField ts f
field_heard {ts} f s = record { asks = λ c is_found names t. by ts c is_found names t f.value refl s }
  where
    by : (vs : List Typed) (c : Context) (is_found : Bool) (names : List Name) (t : Option Typ) (o : Option Expression) → f.value ≡ o → MayBe HeardExpression vs o → Tells (types_in c) vs (field_value_asks c is_found f names t)
    by vs c is_found names t None e absent = nothing
    by vs c is_found names t (Some v) e (there z) = rw (e, field_value_asks) (skip (behind (if is_found then ask_once f.node 0 names f.label else []) (left (value_has c f v t) (z.types c))))

-- fields in order
fields_heard : {ts : List Typed} (c : Context) (n : ℕ) (found : Option Declaration) {fs : List Field} (names : List Name) → Heards HeardField ts fs → Tells (types_in c) ts (fields_ask c n found fs names)
fields_heard c n found names no_one = nothing
fields_heard c n found names (one_and {x = f} s rest) = join (s.asks c (is_some found) names (field_type c n f.node found f.label)) (fields_heard c n found (names ++ name_in f.label) rest)

-- the fields of a record behind what a first part asks that is none
record_asked : {ts us vs : List Typed} (c : Context) (n : ℕ) (q : Place) {fs : List Field} {xs ys : List Condition} → Tells (types_in c) ts xs → Tells (types_in c) us ys → Heards HeardField vs fs → Tells (types_in c) ((ts ++ us) ++ vs) (record_asks c n q xs ys fs)
record_asked c n q {fs} before loose each =
    let found : Option Declaration = kept_record c n 1 (labels_of fs) in
    left (is_record c n found) (left (ask_complete n 3 q found (names_of_labels fs)) (join (join (left (ask_record c n 1 (labels_of fs)) before) loose) (fields_heard c n found [] each)))

-- what may be none, as a list
abbrev as_list : Option Expression → List Expression
as_list o = elim o [ None ↦ [] | Some e ↦ e ∷ [] ]

-- the value of a first part that is no label
list_typed : {ts : List Typed} (c : Context) (o : Option Expression) → MayBe HeardExpression ts o → Tells (types_in c) ts (typed_all c (as_list o))
list_typed c None absent = nothing
list_typed c (Some e) (there s) = left [] (s.types c)

-- { l = e }
pub erecord_heard : {ts us vs ws : List Typed} (n : ℕ) (q : Place) (e : Expression) (value : Option Expression) (fs : List Field) → Into ((ts ++ us) ++ vs) ws → HeardExpression ts e → IsUnread ts e.form true → MayBe HeardExpression us value → Heards HeardField vs fs →
    HeardExpression ws (record_expression n q e value fs)
erecord_heard {ts} {us} {vs} n q e value fs into s unread v each = usual ((ts ++ us) ++ vs) n q _ _ into (λ c. by c e.form unread)
  where
    loose : (c : Context) → Tells (types_in c) ((ts ++ us) ++ vs) (record_asks c n q (ask n 0 e.at (test no_label false) ++ e.typed c) (typed_all c (as_list value)) fs)
    loose c = record_asked c n q (skip (s.types c)) (list_typed c value v) each

    by : (c : Context) (g : Form) → IsUnread ts g true → Tells (types_in c) ((ts ++ us) ++ vs) (record_asks c n q (before_labels c n e g) (loose_value c g value) (first_field g e.node value ++ fs))
    by c (a_path p) none =
        let fields : List Field = record { node = e.node; label = p; value = value } ∷ fs in
        subst (λ rs. Tells (types_in c) ((rs ++ us) ++ vs) (record_asks c n q [] [] fields)) (sym none)
        (record_asked c n q {xs = []} {ys = []} nothing nothing (one_and (field_heard (record { node = e.node; label = p; value = value }) v) each))
    by c no_expression none = record_asked c n q (s.types c) (list_typed c value v) each
    by c (a_constructor p) none = loose c
    by c a_float none = loose c
    by c a_false none = loose c
    by c (a_field p l) none = loose c
    by c other none = loose c

-- that a first part is the record, if it is found
abbrev has_record : Context → ℕ → Expression → Option Declaration → List Condition
has_record c n e o = elim o [ None ↦ [] | Some d ↦ has_type c n 2 e (used_at c n (type_of d)) ]

-- { e with l = e }
pub eupdate_heard : {ts vs ws : List Typed} (n : ℕ) (q : Place) (e : Expression) (fs : List Field) → Into (ts ++ vs) ws → HeardExpression ts e → Heards HeardField vs fs → HeardExpression ws (update_expression n q e fs)
eupdate_heard {ts} {vs} n q e fs into s each = usual (ts ++ vs) n q _ _ into (λ c.
    let found : Option Declaration = kept_record c n 1 (labels_of fs) in
    left (is_record c n found) (join (left (has_record c n e found) (left (ask_record c n 1 (labels_of fs)) (s.types c))) (fields_heard c n found [] each)))

-- a case tells typed nodes wherever it stands
pub record HeardCase (ts : List Typed) (x : Case) : Type 0 where
  pub asks : (c : Context) (n j : ℕ) (subject : Typ) (result : Option Typ) → Tells (types_in c) ts (case_asks c n j subject result x)

-- when e
guard_heard : {ts : List Typed} (c : Context) (n j : ℕ) (g : Option Expression) → MayBe HeardExpression ts g → Tells (types_in c) ts (guard_asks c n j g)
guard_heard c n j None absent = nothing
guard_heard c n j (Some e) (there s) = left _ (s.types c)

-- that a body has the type of the bodies, if there is one
abbrev body_has : Context → ℕ → ℕ → Expression → Option Typ → List Condition
body_has c n j e o = elim o [ None ↦ [] | Some t ↦ has_type c n j e t ]

-- p when e -> e
pub case_heard : {ts us vs : List Typed} (x : Case) → HeardPattern ts x.pattern → MayBe HeardExpression us x.guard → HeardExpression vs x.body → HeardCase ((ts ++ us) ++ vs) x
case_heard x s g z = record {
  asks = λ c n j subject result.
      let inner : Context = with_names c x.pattern.names in
      skip (left (body_has c n (j + 2) x.body result) (join (join (left _ (s.matches c [])) (guard_heard inner n (j + 1) x.guard g)) (z.types inner)));
}

-- the cases behind the first
later_heard : {ts : List Typed} (c : Context) (n j : ℕ) (subject result : Typ) {xs : List Case} → Heards HeardCase ts xs → Tells (types_in c) ts (later_cases c n j subject result xs)
later_heard c n j subject result no_one = nothing
later_heard c n j subject result (one_and s rest) = join (s.asks c n j subject (Some result)) (later_heard c n (j + 3) subject result rest)

-- all cases
cases_heard : {ts : List Typed} (c : Context) (n : ℕ) (subject : Typ) {xs : List Case} → Heards HeardCase ts xs → Tells (types_in c) ts (cases_ask c n subject xs)
cases_heard c n subject no_one = nothing
cases_heard c n subject (one_and {x = x} s rest) = join (s.asks c n 0 subject None) (later_heard c n 3 subject (type_at c x.body.node) rest)

pub ematch_heard : {ts us vs : List Typed} (n : ℕ) (q : Place) (e : Expression) (xs : List Case) → Into (ts ++ us) vs → HeardExpression ts e → Heards HeardCase us xs → HeardExpression vs (match_expression n q e xs)
ematch_heard {ts} {us} n q e xs into s each = usual (ts ++ us) n q _ _ into (λ c. left _ (join (s.types c) (cases_heard c n (type_at c e.node) each)))

pub etry_heard : {ts us vs : List Typed} (n : ℕ) (q : Place) (e : Expression) (xs : List Case) → Into (ts ++ us) vs → HeardExpression ts e → Heards HeardCase us xs → HeardExpression vs (try_expression n q e xs)
etry_heard {ts} {us} n q e xs into s each = usual (ts ++ us) n q _ _ into (λ c. left _ (join (s.types c) (later_heard c n 0 exn_type (type_at c e.node) each)))

pub efunction_heard : {ts us : List Typed} (n : ℕ) (q : Place) (xs : List Case) → Into ts us → Heards HeardCase ts xs → HeardExpression us (function_expression n q xs)
efunction_heard {ts} n q xs into each = usual ts n q _ _ into (λ c. left _ (cases_heard c n (letter c n 0) each))

-- parameters
each_heard : {ts : List Typed} (c : Context) {ps : List Pattern} → Heards HeardPattern ts ps → Tells (types_in c) ts (matched_apart c ps)
each_heard c no_one = nothing
each_heard c (one_and s rest) = join (s.matches c []) (each_heard c rest)

pub efun_heard : {ts us vs : List Typed} (n : ℕ) (q : Place) (ps : List Pattern) (e : Expression) → Into (ts ++ us) vs → Heards HeardPattern ts ps → HeardExpression us e → HeardExpression vs (fun_expression n q ps e)
efun_heard {ts} {us} n q ps e into each s = usual (ts ++ us) n q _ _ into (λ c. left _ (join (each_heard c each) (s.types (with_names c (all_names ps)))))

-- a binding tells typed nodes where its pattern is matched in some context, and its right side asked in one with other names
pub record HeardBinding (ts : List Typed) (b : Binding) : Type 0 where
  pub tells : (cs : List Condition) (c : Context) (env : Environment) (seen : List Name) → Includes (b.pattern.matched c seen) cs → Includes (right_side (under env c) b) cs → Tells (types_in c) ts cs

-- p p : t = e
pub binding_heard : {ts us vs : List Typed} (b : Binding) → HeardPattern ts b.pattern → Heards HeardPattern us b.parameters → HeardExpression vs b.body → HeardBinding (ts ++ (us ++ vs)) b
binding_heard b s ps z = record {
  tells = λ cs c env seen f g.
      let d : Context = under env c in
      both (through f (s.matches c seen)) (through g (left (has_annotation d b b.annotation) (join (left (read_annotation d b.annotation) (each_heard d ps)) (z.types (with_names d (all_names b.parameters))))));
}

-- without `rec`
in_turn_heard : {ts : List Typed} (c : Context) (seen : List Name) {bs : List Binding} → Heards HeardBinding ts bs → Tells (types_in c) ts (bound_in_turn c seen bs)
in_turn_heard c seen no_one = nothing
in_turn_heard c seen (one_and {x = b} s rest) =
    skip (join (left _ (s.tells (right_side c b ++ b.pattern.matched c seen) c c.env seen (within_right (right_side c b) within_itself) (within_left (b.pattern.matched c seen) within_itself))) (in_turn_heard c (seen ++ b.pattern.mentions) rest))

-- the patterns first, and the right sides behind
together_heard : {ts : List Typed} (cs : List Condition) (c : Context) (env : Environment) (seen : List Name) {bs : List Binding} → Heards HeardBinding ts bs → Includes (patterns_first c seen bs) cs → Includes (right_sides c (under env c) bs) cs → Tells (types_in c) ts cs
together_heard cs c env seen no_one f g = nothing
together_heard cs c env seen (one_and {x = b} {xs = bs} s rest) f g =
    let inner : Context = under env c in
    let pattern : Includes (b.pattern.matched c seen) (patterns_first c seen (b ∷ bs)) = within_behind (within_left (patterns_first c (seen ++ b.pattern.mentions) bs) within_itself) in
    let patterns : Includes (patterns_first c (seen ++ b.pattern.mentions) bs) (patterns_first c seen (b ∷ bs)) = within_behind (within_right (b.pattern.matched c seen) within_itself) in
    let side : Includes (right_side inner b) (right_sides c inner (b ∷ bs)) = within_left (right_sides c inner bs) (within_left (pattern_has c b) within_itself) in
    let sides : Includes (right_sides c inner bs) (right_sides c inner (b ∷ bs)) = within_right (right_side inner b ++ pattern_has c b) within_itself in
    both (s.tells cs c env seen (within_within pattern f) (within_within side g)) (together_heard cs c env (seen ++ b.pattern.mentions) rest (within_within patterns f) (within_within sides g))

-- a group
pub bindings_heard : {ts : List Typed} (c : Context) (is_rec : Bool) {bs : List Binding} → Heards HeardBinding ts bs → Tells (types_in c) ts (bindings_ask c is_rec bs)
bindings_heard c true {bs} h = together_heard (bindings_ask c true bs) c (with_names c (names_of_group bs)).env [] h (within_left _ within_itself) (within_right (patterns_first c [] bs) within_itself)
bindings_heard c false h = in_turn_heard c [] h

pub elet_heard : {ts us vs : List Typed} (n : ℕ) (q : Place) (is_rec : Bool) (bs : List Binding) (e : Expression) → Into (ts ++ us) vs → Heards HeardBinding ts bs → HeardExpression us e → HeardExpression vs (let_expression n q is_rec bs e)
elet_heard {ts} {us} n q is_rec bs e into each s = usual (ts ++ us) n q _ _ into (λ c. left _ (join (bindings_heard c is_rec each) (s.types (within_let c bs))))
