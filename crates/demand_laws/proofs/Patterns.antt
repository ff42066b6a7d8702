-- Patterns make the same demands.
use Rattle.std.proofs.Common.{◌≡◌, ℕ, ◌+◌, ◌==◌, Bool, true, false, List, [], ◌∷◌, ◌++◌, map, Option, Some, None, option_map, refl, sym, ◌∙◌, ap, if◌then◌else◌}
use Rattle.token_model.specs.Kinds.{Tok, Kind, int, float, char, str, unit, nil, true_word, false_word}
use Rattle.tree_model.specs.Trees.{Place}
use Rattle.type_model.specs.Types.{Typ}
use Rattle.signature_model.specs.Declarations.{Name, Shape, Declaration, Label, type_of}
use Rattle.signature_model.specs.Components.{same_name}
use Rattle.signature_model.specs.Entries.{Environment, Entry, Referent, a_label, constructor_kind}
use Rattle.signature_model.specs.Lookups.{FoundAmong, scope_behind}
use Rattle.typing_model.specs.Demands.{constructor_word}
use Rattle.typing_model.specs.Demands.{site, Demand, equal, test, arity, Condition, same}
use Rattle.typing_model.specs.Contexts.{Context, Bound, type_at, ask}
use Rattle.typing_model.specs.Parts.{Written, Pattern, TypeExpression, FieldPattern, no_pattern_at, place_of}
use Rattle.fault_model.specs.Refused.{refused_as}
use Rattle.typing_model.specs.Names.{is_no_scope, lost_behind, names_of, entry_of, label_in, then_by, referent_of, found_by, Built, built_in, used_at}
use Rattle.typing_model.specs.BuiltIns.{constant, constant_by, exn_type}
use Rattle.typing_model.specs.Records.{labels_of, ask_once, field_type, used_in_record, ask_record, first_lost, first_token, declaration_found, name_in, find_label, labels_in}
use Rattle.typing_model.specs.Patterns.{matched_all, matched_each, ask_all, over, pname, pconst, pneg, with_built, built_by, constructor_alone, pcon, argument_has, of_one_type, applied_constructor, argument_type, papp, pparen, plist, pcons, ptuple, pas, find_bound, common_names, sides_differ, name_apart, sides_beside, por, each_has, first_type, behind_first, mentions_in_field, match_pun, match_field, match_fields, labels_of_fields, kept_record, precord}
use Rattle.typing_laws.proofs.Bools.{no_yes}
use Rattle.typing_laws.proofs.Steady.{Each, no_one, one_and, IfThere, absent, there}
use Rattle.demand_laws.proofs.Alike.{Same, alone, one, at_treated, at_known, behind, at_demand, at_bound, along, BothThere, neither, both, Both, nones, somes, Lists, no_pair, pair_and, LabelAlike, ShapeAlike, opaque, variants, records, DeclarationAlike, ReferentAlike, one_thing, two_values, two_exceptions, two_constructors, two_labels, two_types, ComesAlike, at_entry, at_hole, at_nothing, Two, NamesAlike, left, right, scope_alike, lookup_alike, record_alike}
use Rattle.demand_laws.proofs.Types.{AlikeType, declaration_one}

-- a pattern makes the same demands in both of two contexts
pub record AlikePattern (p : Pattern) : Type 0 where
  pub matches : (c : Two) (seen : List Name) → Same (p.matched (left c) seen) (p.matched (right c) seen)

pub record AlikeFieldPattern (f : FieldPattern) : Type 0 where
  pub pattern : IfThere AlikePattern f.pattern

pub no_pattern_alike : (n : ℕ) (p : Place) → AlikePattern (no_pattern_at n p)
no_pattern_alike n p = record { matches = λ c seen. alone (λ k. refl) }

matches_all : (c : Two) (seen : List Name) (ps : List Pattern) → Each AlikePattern ps → Same (matched_all (left c) seen ps) (matched_all (right c) seen ps)
matches_all c seen [] no_one = alone (λ k. refl)
matches_all c seen (p ∷ ps) (one_and s each) = behind (s.matches c seen) (matches_all c (seen ++ p.mentions) ps each)

matches_each : (c : Two) (seen : List Name) (ps : List Pattern) → Each AlikePattern ps → Same (matched_each (left c) seen ps) (matched_each (right c) seen ps)
matches_each c seen [] no_one = alone (λ k. refl)
matches_each c seen (p ∷ ps) (one_and s each) = behind (s.matches c seen) (matches_each c seen ps each)

pub over_alike : (n : ℕ) (q : Place) (ps : List Pattern) (own : Context → List Condition) → Each AlikePattern ps → ((c : Two) → Same (own (left c)) (own (right c))) → AlikePattern (over n q ps own)
over_alike n q ps own each h = record { matches = λ c seen. behind (matches_all c seen ps each) (h c) }

pub pname_alike : (n : ℕ) (q : Place) (t : Option Tok) → AlikePattern (pname n q t)
pname_alike n q None = no_pattern_alike n q
pname_alike n q (Some t) = record { matches = λ c seen. alone (λ k. refl) }

-- constants
constant_by_alike : (negated : Bool) (s : Kind) (n : ℕ) (t : Tok) (c : Two) → Same (constant_by negated s n t (left c)) (constant_by negated s n t (right c))
unfolding constant_by
constant_by_alike negated int n t c = alone (λ k. refl)
constant_by_alike negated float n t c = alone (λ k. refl)
constant_by_alike negated char n t c = alone (λ k. refl)
constant_by_alike negated str n t c = alone (λ k. refl)
constant_by_alike negated unit n t c = alone (λ k. refl)
constant_by_alike negated true_word n t c = alone (λ k. refl)
constant_by_alike negated false_word n t c = alone (λ k. refl)
constant_by_alike negated nil n t c = alone (λ k. refl)
constant_by_alike negated _ n t c = alone (λ k. refl)

pub constant_alike : (negated : Bool) (n : ℕ) (t : Option Tok) (c : Two) → Same (constant negated n t (left c)) (constant negated n t (right c))
constant_alike negated n None c = alone (λ k. refl)
constant_alike negated n (Some t) c = constant_by_alike negated t.kind n t c

pub pconst_alike : (n : ℕ) (q : Place) (t : Option Tok) → AlikePattern (pconst n q t)
pconst_alike n q t = over_alike n q [] (constant false n t) no_one (constant_alike false n t)

pub pneg_alike : (n : ℕ) (q : Place) (t : Option Tok) → AlikePattern (pneg n q t)
pneg_alike n q t = over_alike n q [] (constant true n t) no_one (constant_alike true n t)

-- Two constructors that are found are alike: both take an argument, or neither does.
pub data BuiltAlike : Option Built → Option Built → Type 0 where
  not_built : BuiltAlike None None
  both_built : {b d : Built} → BothThere b.argument d.argument → BuiltAlike (Some b) (Some d)

there_as_itself : (o : Option Typ) → BothThere o o
there_as_itself None = neither
there_as_itself (Some t) = both

one_built : (o : Option Built) → BuiltAlike o o
one_built None = not_built
one_built (Some b) = both_built (there_as_itself b.argument)

stands_built : {r q : Referent} → ReferentAlike r q → BuiltAlike (built_in exn_type r) (built_in exn_type q)
stands_built (one_thing {r = r}) = one_built (built_in exn_type r)
stands_built two_values = not_built
stands_built (two_exceptions h) = both_built h
stands_built (two_constructors h) = both_built h
stands_built (two_labels o d h) = not_built
stands_built (two_types d) = not_built

found_built : {f g : FoundAmong Entry} → ComesAlike f g → BuiltAlike (then_by (referent_of f) (built_in exn_type)) (then_by (referent_of g) (built_in exn_type))
found_built (at_entry a) = stands_built a.stands
found_built at_hole = not_built
found_built at_nothing = not_built

pub built_alike : (c : Two) (n : ℕ) (p : Written) (t : Tok) → BuiltAlike (built_by (left c) n p t) (built_by (right c) n p t)
built_alike c n p t = by (c.first.kept (site n 0))
  where
    by : (b : Bool) → BuiltAlike (if b then then_by (referent_of (found_by (left c) constructor_kind p t)) (built_in exn_type) else None) (if b then then_by (referent_of (found_by (right c) constructor_kind p t)) (built_in exn_type) else None)
    by true = found_built (lookup_alike (names_of p.qualifiers) constructor_kind t.name c.names)
    by false = not_built

-- that nodes have types makes no demand
types_silent : (f : ℕ → Typ) (g : ℕ → Typ) (u v : Typ) (nodes : List ℕ) → Same (map (λ m. same (f m) u) nodes) (map (λ m. same (g m) v) nodes)
types_silent f g u v [] = alone (λ k. refl)
types_silent f g u v (m ∷ ms) = alone (types_silent f g u v ms).each

of_one_alike : (c : Two) (n : ℕ) (nodes : List ℕ) → Same (of_one_type (left c) n nodes) (of_one_type (right c) n nodes)
of_one_alike c n nodes = types_silent (type_at (left c)) (type_at (right c)) (type_at (left c) n) (type_at (right c) n) nodes

-- how many arguments a constructor takes, by what it takes
abbrev takes : Option Typ → ℕ
takes o = elim o [ None ↦ 0 | Some t ↦ 1 ]

takes_alike : {o p : Option Typ} → BothThere o p → takes o ≡ takes p
takes_alike neither = refl
takes_alike both = refl

-- a constructor that is found, over arguments that make the same demands
with_built_alike : (c : Two) (n own : ℕ) (t : Tok) (given : ℕ) (b d : Built) (nodes : List ℕ) (xs ys : List Condition) → BothThere b.argument d.argument → Same xs ys →
    Same (with_built (left c) n own t given b nodes xs) (with_built (right c) n own t given d nodes ys)
with_built_alike c n own t given b d nodes xs ys a h =
    at_demand (ap (λ k. refused_as (place_of t) (test (arity t.name k given) (k == given))) (takes_alike a)) (behind h (types_silent (type_at (left c)) (type_at (right c)) (used_at (left c) own b.result) (used_at (right c) own d.result) nodes))

abbrev alone_behind : Context → ℕ → Tok → Option Built → List Condition
alone_behind c n t o = elim o [ None ↦ [] | Some b ↦ with_built c n n t 0 b (n ∷ []) [] ]

pub constructor_alone_alike : (c : Two) (n : ℕ) (p : Written) → Same (constructor_alone (left c) n p) (constructor_alone (right c) n p)
constructor_alone_alike c n p = by p.last refl
  where
    found : (t : Tok) {o p : Option Built} → BuiltAlike o p → Same (alone_behind (left c) n t o) (alone_behind (right c) n t p)
    found t not_built = alone (λ k. refl)
    found t (both_built {b = b} {d = d} a) = with_built_alike c n n t 0 b d (n ∷ []) [] [] a (alone (λ k. refl))

    by : (o : Option Tok) → p.last ≡ o → Same (constructor_alone (left c) n p) (constructor_alone (right c) n p)
    by None e = rw (e, constructor_alone) (alone (λ k. refl))
    by (Some t) e = rw (e, constructor_alone) (at_bound c n 0 constructor_kind constructor_word p t (found t (built_alike c n p t)))

pub pcon_alike : (n : ℕ) (q : Place) (p : Written) → AlikePattern (pcon n q p)
pcon_alike n q p = record { matches = λ c seen. constructor_alone_alike c n p }

-- the argument of a constructor has its type where one is declared
pub argument_has_alike : (n j : ℕ) (q : Place) (t u : Typ) (f g : Typ → Typ) {o p : Option Typ} → BothThere o p → Same (argument_has n j q t (option_map f o)) (argument_has n j q u (option_map g p))
argument_has_alike n j q t u f g neither = alone (λ k. refl)
argument_has_alike n j q t u f g both = alone (λ k. refl)

-- behind the name of a constructor with an argument
abbrev applied_behind : Context → ℕ → ℕ → List ℕ → List Condition → (Option Typ → List Condition) → Tok → Option Built → List Condition
applied_behind c n head nodes argument has t o = elim o [ None ↦ argument ++ of_one_type c head nodes | Some b ↦ with_built c n head t 1 b nodes (argument ++ has (argument_type c head (Some b))) ]

pub applied_alike : (c : Two) (n : ℕ) (p : Written) (head : ℕ) (nodes : List ℕ) (xs ys : List Condition) (j : ℕ) (q : Place) (t u : Typ) → Same xs ys →
    Same (applied_constructor (left c) n p head nodes xs (argument_has n j q t)) (applied_constructor (right c) n p head nodes ys (argument_has n j q u))
applied_alike c n p head nodes xs ys j q t u h = by p.last refl
  where
    unfound : Same (xs ++ of_one_type (left c) head nodes) (ys ++ of_one_type (right c) head nodes)
    unfound = behind h (of_one_alike c head nodes)

    found : (x : Tok) {o r : Option Built} → BuiltAlike o r → Same (applied_behind (left c) n head nodes xs (argument_has n j q t) x o) (applied_behind (right c) n head nodes ys (argument_has n j q u) x r)
    found x not_built = unfound
    found x (both_built {b = b} {d = d} a) = with_built_alike c n head x 1 b d nodes (xs ++ argument_has n j q t (argument_type (left c) head (Some b))) (ys ++ argument_has n j q u (argument_type (right c) head (Some d))) a
        (behind h (argument_has_alike n j q t u (used_at (left c) head) (used_at (right c) head) a))

    by : (o : Option Tok) → p.last ≡ o → Same (applied_constructor (left c) n p head nodes xs (argument_has n j q t)) (applied_constructor (right c) n p head nodes ys (argument_has n j q u))
    by None e = rw (e, applied_constructor) (at_treated (at_known unfound))
    by (Some x) e = rw (e, applied_constructor) (at_treated (at_known (at_bound c n 0 constructor_kind constructor_word p x (found x (built_alike c n p x)))))

pub papp_alike : (n : ℕ) (q : Place) (head p : Pattern) → AlikePattern p → AlikePattern (papp n q head p)
papp_alike n q head p s = by head.constructor refl
  where
    by : (o : Option Written) → head.constructor ≡ o → AlikePattern (papp n q head p)
    by None e = rw (e, papp) (over_alike n q (p ∷ []) (λ c. []) (one_and s no_one) (λ c. alone (λ k. refl)))
    by (Some path) e = rw (e, papp) (record {
      matches = λ c seen. applied_alike c n path head.node (n ∷ head.node ∷ []) (p.matched (left c) seen) (p.matched (right c) seen) 2 p.at (type_at (left c) p.node) (type_at (right c) p.node) (s.matches c seen);
    })

pub pparen_alike : (n : ℕ) (q : Place) (p : Pattern) (t : Option TypeExpression) → AlikePattern p → IfThere AlikeType t → AlikePattern (pparen n q p t)
pparen_alike n q p None s absent = over_alike n q (p ∷ []) _ (one_and s no_one) (λ c. alone (λ k. refl))
pparen_alike n q p (Some t) s (there r) = over_alike n q (p ∷ []) _ (one_and s no_one) (λ c. behind (behind (r.reads c) (alone (λ k. refl))) (alone (λ k. refl)))

-- patterns that have one type
each_has_alike : (c : Two) (n j : ℕ) (t u : Typ) (ps : List Pattern) → Same (ask_all n j (each_has (left c) t ps)) (ask_all n j (each_has (right c) u ps))
each_has_alike c n j t u [] = alone (λ k. refl)
each_has_alike c n j t u (p ∷ ps) = at_demand refl (each_has_alike c n (j + 1) t u ps)

pub plist_alike : (n : ℕ) (q : Place) (ps : List Pattern) → Each AlikePattern ps → AlikePattern (plist n q ps)
plist_alike n q ps each = over_alike n q ps _ each (λ c. behind (each_has_alike c n 0 (first_type (left c) n ps) (first_type (right c) n ps) (behind_first ps)) (alone (λ k. refl)))

pub pcons_alike : (n : ℕ) (q : Place) (p r : Pattern) → AlikePattern p → AlikePattern r → AlikePattern (pcons n q p r)
pcons_alike n q p r s z = over_alike n q (p ∷ r ∷ []) _ (one_and s (one_and z no_one)) (λ c. alone (λ k. refl))

pub ptuple_alike : (n : ℕ) (q : Place) (ps : List Pattern) → Each AlikePattern ps → AlikePattern (ptuple n q ps)
ptuple_alike n q ps each = over_alike n q ps _ each (λ c. alone (λ k. refl))

pub pas_alike : (n : ℕ) (q : Place) (p : Pattern) (t : Option Tok) → AlikePattern p → AlikePattern (pas n q p t)
pas_alike n q p None s = over_alike n q (p ∷ []) _ (one_and s no_one) (λ c. alone (λ k. refl))
pas_alike n q p (Some t) s = record { matches = λ c seen. behind (behind (s.matches c seen) (alone (λ k. refl))) (alone (λ k. refl)) }

-- what a side asks beside the first: the demands, whatever their types
data AskedAlike : List (Place × Demand) → List (Place × Demand) → Type 0 where
  none_asked : AskedAlike [] []
  one_asked : {d : Place × Demand} {ds es : List (Place × Demand)} → AskedAlike ds es → AskedAlike (d ∷ ds) (d ∷ es)
  equal_asked : {q : Place} {t u v w : Typ} {ds es : List (Place × Demand)} → AskedAlike ds es → AskedAlike ((q, equal t u) ∷ ds) ((q, equal v w) ∷ es)

asked_then : {as_ bs ds es : List (Place × Demand)} → AskedAlike as_ bs → AskedAlike ds es → AskedAlike (as_ ++ ds) (bs ++ es)
asked_then none_asked h = h
asked_then (one_asked a) h = one_asked (asked_then a h)
asked_then (equal_asked a) h = equal_asked (asked_then a h)

asked_one : (ds : List (Place × Demand)) → AskedAlike ds ds
asked_one [] = none_asked
asked_one (d ∷ ds) = one_asked (asked_one ds)

asked_all : (n j : ℕ) {ds es : List (Place × Demand)} → AskedAlike ds es → Same (ask_all n j ds) (ask_all n j es)
asked_all n j none_asked = alone (λ k. refl)
asked_all n j (one_asked a) = at_demand refl (asked_all n (j + 1) a)
asked_all n j (equal_asked a) = at_demand refl (asked_all n (j + 1) a)

common_alike : (c : Two) (bs others : List Bound) → AskedAlike (common_names (left c) bs others) (common_names (right c) bs others)
common_alike c [] others = none_asked
common_alike c (b ∷ bs) others = by (find_bound b.name others) (common_alike c bs others)
  where
    by : (o : Option Bound) → AskedAlike (common_names (left c) bs others) (common_names (right c) bs others) →
        AskedAlike (elim o [ None ↦ common_names (left c) bs others | Some o ↦ (o.place, equal (o.has_type (left c)) (b.has_type (left c))) ∷ common_names (left c) bs others ])
        (elim o [ None ↦ common_names (right c) bs others | Some o ↦ (o.place, equal (o.has_type (right c)) (b.has_type (right c))) ∷ common_names (right c) bs others ])
    by None h = h
    by (Some o) h = equal_asked h

sides_alike : (c : Two) (first : Pattern) (ps : List Pattern) → AskedAlike (sides_beside (left c) first ps) (sides_beside (right c) first ps)
sides_alike c first [] = none_asked
sides_alike c first (p ∷ ps) =
    asked_then (asked_then (asked_then (asked_one (sides_differ p.at (name_apart first.names p.names))) (common_alike c first.names p.names)) (equal_asked none_asked)) (sides_alike c first ps)

pub por_alike : (n : ℕ) (q : Place) (first : Pattern) (ps : List Pattern) → AlikePattern first → Each AlikePattern ps → AlikePattern (por n q first ps)
por_alike n q first ps s each = record {
  matches = λ c seen. behind (behind (matches_each c seen (first ∷ ps) (one_and s each)) (asked_all n 0 (sides_alike c first ps))) (alone (λ k. refl));
}

-- the first qualifier that leads to no module is one
lost_alike : {E F : Environment} → NamesAlike E F → (path : List Name) (qs : List Tok) → lost_behind E path qs ≡ lost_behind F path qs
lost_alike h path [] = refl
lost_alike {E} {F} h path (q ∷ qs) =
    ap (λ s. if is_no_scope s then Some q else lost_behind E (path ++ q.name ∷ []) qs) (scope_of path) ∙
    ap (λ o. if is_no_scope (scope_behind F (path ++ q.name ∷ [])) then Some q else o) (lost_alike h (path ++ q.name ∷ []) qs)
  where
    scope_of : (path : List Name) → scope_behind E (path ++ q.name ∷ []) ≡ scope_behind F (path ++ q.name ∷ [])
    scope_of [] = scope_alike q.name [] h
    scope_of (m ∷ ms) = scope_alike m (ms ++ q.name ∷ []) h

pub first_lost_alike : {E F : Environment} → NamesAlike E F → (ps : List Written) → first_lost E ps ≡ first_lost F ps
first_lost_alike h [] = refl
first_lost_alike {E} {F} h (p ∷ ps) =
    ap (λ o. elim (then_by p.last (λ t. o)) [ None ↦ first_lost E ps | Some q ↦ Some q ]) (lost_alike h [] p.qualifiers) ∙
    ap (λ o. elim (then_by p.last (λ t. lost_behind F [] p.qualifiers)) [ None ↦ o | Some q ↦ Some q ]) (first_lost_alike h ps)

-- that a record's type is found is asked in both
pub ask_record_alike : (c : Two) (n j : ℕ) (ps : List Written) → Same (ask_record (left c) n j ps) (ask_record (right c) n j ps)
ask_record_alike c n j ps = by (first_lost c.first.env ps) refl (sym (first_lost_alike c.names ps)) (first_token ps) refl
  where
    by : (l : Option Tok) → first_lost c.first.env ps ≡ l → first_lost c.env ps ≡ l → (o : Option Tok) → first_token ps ≡ o → Same (ask_record (left c) n j ps) (ask_record (right c) n j ps)
    by (Some q) e f o g = rw (e, f, ask_record) (alone (λ k. refl))
    by None e f None g = rw (e, f, g, ask_record) (alone (λ k. refl))
    by None e f (Some t) g = rw (e, f, g, ask_record) (alone (λ k. refl))

-- the record that is found is alike
record_there : (r : Referent) → Both DeclarationAlike (option_map (λ z. z.0) (label_in r)) (option_map (λ z. z.0) (label_in r))
record_there (a_label d l) = somes (declaration_one d)
record_there _ = nones

stands_record : {r q : Referent} → ReferentAlike r q → Both DeclarationAlike (option_map (λ z. z.0) (label_in r)) (option_map (λ z. z.0) (label_in q))
stands_record (one_thing {r = r}) = record_there r
stands_record two_values = nones
stands_record (two_exceptions h) = nones
stands_record (two_constructors h) = nones
stands_record (two_labels o d h) = somes d
stands_record (two_types d) = nones

record_both : {f g : FoundAmong Entry} → ComesAlike f g → Both DeclarationAlike (then_by (entry_of f) (λ e. option_map (λ r. r.0) (label_in e.stands_for))) (then_by (entry_of g) (λ e. option_map (λ r. r.0) (label_in e.stands_for)))
record_both (at_entry a) = stands_record a.stands
record_both at_hole = nones
record_both at_nothing = nones

pub declaration_alike : (c : Two) (ps : List Written) → Both DeclarationAlike (declaration_found (left c) ps) (declaration_found (right c) ps)
declaration_alike c ps = record_both (record_alike (labels_of ps) c.names)

pub kept_record_alike : (c : Two) (n j : ℕ) (ps : List Written) → Both DeclarationAlike (kept_record (left c) n j ps) (kept_record (right c) n j ps)
kept_record_alike c n j ps = by (c.first.kept (site n j)) (first_token ps) (declaration_alike c ps)
  where
    by : (b : Bool) (t : Option Tok) {o p : Option Declaration} → Both DeclarationAlike o p → Both DeclarationAlike (if b then o else elim t [ None ↦ o | Some t ↦ None ]) (if b then p else elim t [ None ↦ p | Some t ↦ None ])
    by true t h = h
    by false None h = h
    by false (Some t) h = nones

-- the labels of two shapes that are alike
pub labels_alike : {s t : Shape} → ShapeAlike s t → Lists LabelAlike (labels_in s) (labels_in t)
labels_alike opaque = no_pair
labels_alike (variants h) = no_pair
labels_alike (records h) = h

found_label : (n : Name) {ls ms : List Label} → Lists LabelAlike ls ms → Both LabelAlike (find_label n ls) (find_label n ms)
found_label n no_pair = nones
found_label n (pair_and {x = l} {y = m} {xs = ls} {ys = ms} a h) = by (same_name n l.name) (same_name n m.name) (ap (same_name n) a.name) (found_label n h)
  where
    by : (b d : Bool) → b ≡ d → Both LabelAlike (find_label n ls) (find_label n ms) → Both LabelAlike (if b then Some l else find_label n ls) (if d then Some m else find_label n ms)
    by true true e rest = somes a
    by false false e rest = rest
    by true false e rest = absurd (no_yes (sym e))
    by false true e rest = absurd (no_yes e)

pub field_types : (c : Two) (n m : ℕ) {o r : Option Declaration} (p : Written) → Both DeclarationAlike o r → BothThere (field_type (left c) n m o p) (field_type (right c) n m r p)
field_types c n m p nones = neither
field_types c n m p (somes {x = d} {y = e} a) = by p.last refl
  where
    of_label : (f g : Typ → Typ) {o r : Option Label} → Both LabelAlike o r → BothThere (option_map (λ l. f l.body) o) (option_map (λ l. g l.body) r)
    of_label f g nones = neither
    of_label f g (somes h) = both

    by : (o : Option Tok) → p.last ≡ o → BothThere (field_type (left c) n m (Some d) p) (field_type (right c) n m (Some e) p)
    by None q = rw (q, field_type) neither
    by (Some t) q = rw (q, field_type) (of_label (λ t. used_in_record n m (type_of d) t (left c).chosen) (λ t. used_in_record n m (type_of e) t (right c).chosen) (found_label t.name (labels_alike a.shape)))

pun_alike : (c : Two) (f : FieldPattern) (seen : List Name) (t u : Option Typ) → BothThere t u → Same (match_pun (left c) f seen t) (match_pun (right c) f seen u)
pun_alike c f seen t u h = by f.label.last refl h
  where
    by : (o : Option Tok) → f.label.last ≡ o → {t u : Option Typ} → BothThere t u → Same (match_pun (left c) f seen t) (match_pun (right c) f seen u)
    by None e h = rw (e, match_pun) (alone (λ k. refl))
    by (Some x) e neither = rw (e, match_pun) (alone (λ k. refl))
    by (Some x) e both = rw (e, match_pun) (alone (λ k. refl))

-- that a part has a type, if there is one
abbrev has_if : Context → FieldPattern → Pattern → Option Typ → List Condition
has_if c f p t = elim t [ None ↦ [] | Some t ↦ ask f.node 1 p.at (equal (type_at c p.node) t) ]

field_alike : (c : Two) (n : ℕ) (is_found : Bool) (f : FieldPattern) (names seen : List Name) (t u : Option Typ) → BothThere t u → AlikeFieldPattern f →
    Same (match_field (left c) n is_found f names seen t) (match_field (right c) n is_found f names seen u)
field_alike c n is_found f names seen t u types s = by f.pattern refl s.pattern
  where
    has : (p : Pattern) {t u : Option Typ} → BothThere t u → Same (has_if (left c) f p t) (has_if (right c) f p u)
    has p neither = alone (λ k. refl)
    has p both = alone (λ k. refl)

    by : (o : Option Pattern) → f.pattern ≡ o → IfThere AlikePattern o → Same (match_field (left c) n is_found f names seen t) (match_field (right c) n is_found f names seen u)
    by None e absent = rw (e, match_field) (at_treated (behind (one (if is_found then ask_once f.node 0 names f.label else [])) (pun_alike c f seen t u types)))
    by (Some p) e (there z) = rw (e, match_field) (at_treated (behind (one (if is_found then ask_once f.node 0 names f.label else [])) (behind (z.matches c seen) (has p types))))

-- whether a record is found
abbrev is_there : Option Declaration → Bool
is_there o = elim o [ None ↦ false | Some d ↦ true ]

there_alike : {o r : Option Declaration} → Both DeclarationAlike o r → is_there o ≡ is_there r
there_alike nones = refl
there_alike (somes a) = refl

fields_alike : (c : Two) (n : ℕ) {o r : Option Declaration} (fs : List FieldPattern) (names seen : List Name) → Both DeclarationAlike o r → Each AlikeFieldPattern fs →
    Same (match_fields (left c) n o fs names seen) (match_fields (right c) n r fs names seen)
fields_alike c n [] names seen a no_one = alone (λ k. refl)
fields_alike c n {o} {r} (f ∷ fs) names seen a (one_and s each) =
    behind (along (λ b. match_field (left c) n b f names seen (field_type (left c) n f.node o f.label)) (λ b. match_field (right c) n b f names seen (field_type (right c) n f.node r f.label)) (there_alike a)
    (field_alike c n (is_there o) f names seen (field_type (left c) n f.node o f.label) (field_type (right c) n f.node r f.label) (field_types c n f.node f.label a) s))
    (fields_alike c n fs (names ++ name_in f.label) (seen ++ mentions_in_field f) a each)

-- the node has the type of a record, if it is found
abbrev is_of_record : Context → ℕ → Option Declaration → List Condition
is_of_record c n o = elim o [ None ↦ [] | Some d ↦ same (type_at c n) (used_at c n (type_of d)) ∷ [] ]

of_record_alike : (c : Two) (n : ℕ) {o r : Option Declaration} → Both DeclarationAlike o r → Same (is_of_record (left c) n o) (is_of_record (right c) n r)
of_record_alike c n nones = alone (λ k. refl)
of_record_alike c n (somes a) = alone (λ k. refl)

pub precord_alike : (n : ℕ) (q : Place) (fs : List FieldPattern) → Each AlikeFieldPattern fs → AlikePattern (precord n q fs)
precord_alike n q fs each = record {
  matches = λ c seen.
      let ls : List Written = labels_of_fields fs in
      behind (behind (ask_record_alike c n 0 ls) (fields_alike c n fs [] seen (kept_record_alike c n 0 ls) each)) (of_record_alike c n (kept_record_alike c n 0 ls));
}
