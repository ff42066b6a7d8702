-- What patterns ask holds of what is left of types, which their names have.
use Rattle.std.proofs.Common.{◌≡◌, ℕ, ◌+◌, Bool, true, false, List, [], ◌∷◌, ◌++◌, map, Option, Some, None, refl, sym, ap, if◌then◌else◌}
use Rattle.token_model.specs.Kinds.{Tok, Kind, int, float, char, str, unit, nil, true_word, false_word}
use Rattle.tree_model.specs.Trees.{Place}
use Rattle.type_model.specs.Types.{Typ, Tuple}
use Rattle.signature_model.specs.Declarations.{Name, Declaration, type_of}
use Rattle.signature_model.specs.Components.{same_name}
use Rattle.signature_model.specs.Entries.{constructor_kind}
use Rattle.typing_model.specs.Demands.{constructor_word, Demand, equal, test, Condition, same}
use Rattle.typing_model.specs.Contexts.{Context, Bound, type_at, letter, ask}
use Rattle.typing_model.specs.Parts.{Written, Pattern, TypeExpression, FieldPattern, no_pattern_at}
use Rattle.typing_model.specs.Names.{Built, used_at, is_found}
use Rattle.typing_model.specs.BuiltIns.{constant, constant_by}
use Rattle.typing_model.specs.Records.{labels_of, ask_record, first_lost, first_token, record_found, name_in}
use Rattle.typing_model.specs.Patterns.{bound_at, all_names, matched_all, matched_each, ask_all, over, pname, pconst, pneg, with_built, built_by, constructor_alone, pcon, argument_has, of_one_type, applied_constructor, argument_type, papp, pparen, plist, pcons, ptuple, pas, find_bound, common_names, sides_differ, name_apart, sides_beside, por, each_has, first_type, behind_first, punned, names_in_field, mentions_in_field, match_pun, match_field, match_fields, labels_of_fields, kept_record, precord}
use Rattle.typing_laws.proofs.Steady.{Each, no_one, one_and, each_append, IfThere, absent, there}
use Rattle.demand_laws.proofs.Patterns.{first_lost_alike}
use Rattle.settled_types.specs.Made.{Constructors}
use Rattle.settled_types.proofs.Erasing.{erase_types}
use Rattle.settled_types.proofs.Goes.{rest, Goes, nothing_goes, once_goes, behind, at_treated, at_known, at_equal, at_test, at_same, same_one, equal_one, along, at_bound, int_left, char_left, string_left, float_left, unit_left, bool_left, list_left, Pair, left, right, two, RestName}
use Rattle.settled_types.proofs.One.{record_one}
use Rattle.settled_types.proofs.Uses.{IsDeclared, IsBuilt, constructor_built, kept_declared, used_left, type_made, BothThere, neither, both, arguments_there, fields_there, built_one, kept_record_one}
use Rattle.settled_types.proofs.Types.{GoesType}

-- a pattern's conditions hold of what is left, which its names have
pub record GoesPattern (w : Constructors) (p : Pattern) : Type 0 where
  pub names : Each (RestName w) p.names
  pub matches : (c : Pair w) (seen : List Name) → Goes w (p.matched (left c) seen) (p.matched (right c) seen)

pub record GoesFieldPattern (w : Constructors) (f : FieldPattern) : Type 0 where
  pub pattern : IfThere (GoesPattern w) f.pattern

pub no_pattern_goes : (w : Constructors) (n : ℕ) (p : Place) → GoesPattern w (no_pattern_at n p)
no_pattern_goes w n p = record { names = no_one; matches = λ c seen. nothing_goes }

pub names_all : {w : Constructors} (ps : List Pattern) → Each (GoesPattern w) ps → Each (RestName w) (all_names ps)
names_all [] no_one = no_one
names_all (p ∷ ps) (one_and s each) = each_append s.names (names_all ps each)

matches_all : {w : Constructors} (c : Pair w) (seen : List Name) (ps : List Pattern) → Each (GoesPattern w) ps → Goes w (matched_all (left c) seen ps) (matched_all (right c) seen ps)
matches_all c seen [] no_one = nothing_goes
matches_all c seen (p ∷ ps) (one_and s each) = behind (s.matches c seen) (matches_all c (seen ++ p.mentions) ps each)

matches_each : {w : Constructors} (c : Pair w) (seen : List Name) (ps : List Pattern) → Each (GoesPattern w) ps → Goes w (matched_each (left c) seen ps) (matched_each (right c) seen ps)
matches_each c seen [] no_one = nothing_goes
matches_each c seen (p ∷ ps) (one_and s each) = behind (s.matches c seen) (matches_each c seen ps each)

pub over_goes : (w : Constructors) (n : ℕ) (q : Place) (ps : List Pattern) (own : Context → List Condition) → Each (GoesPattern w) ps → ((c : Pair w) → Goes w (own (left c)) (own (right c))) → GoesPattern w (over n q ps own)
over_goes w n q ps own each h = record { names = names_all ps each; matches = λ c seen. behind (matches_all c seen ps each) (h c) }

bound_left : (w : Constructors) (n : ℕ) (t : Tok) → RestName w (bound_at n t)
bound_left w n t = record { gives = λ c. refl }

pub pname_goes : (w : Constructors) (n : ℕ) (q : Place) (t : Option Tok) → GoesPattern w (pname n q t)
pname_goes w n q None = no_pattern_goes w n q
pname_goes w n q (Some t) = record { names = one_and (bound_left w n t) no_one; matches = λ c seen. at_test refl nothing_goes }

-- constants
constant_by_goes : (negated : Bool) (s : Kind) (n : ℕ) (t : Tok) {w : Constructors} (c : Pair w) → Goes w (constant_by negated s n t (left c)) (constant_by negated s n t (right c))
unfolding constant_by
constant_by_goes negated int n t {w} c = at_test refl (same_one w refl (int_left w))
constant_by_goes negated float n t {w} c = same_one w refl (float_left w)
constant_by_goes negated char n t {w} c = same_one w refl (char_left w)
constant_by_goes negated str n t {w} c = same_one w refl (string_left w)
constant_by_goes negated unit n t {w} c = same_one w refl (unit_left w)
constant_by_goes negated true_word n t {w} c = same_one w refl (bool_left w)
constant_by_goes negated false_word n t {w} c = same_one w refl (bool_left w)
constant_by_goes negated nil n t {w} c = same_one w refl (list_left w (letter (left c) n 0) (letter (right c) n 0) refl)
constant_by_goes negated _ n t c = nothing_goes

pub constant_goes : (negated : Bool) (n : ℕ) (t : Option Tok) {w : Constructors} (c : Pair w) → Goes w (constant negated n t (left c)) (constant negated n t (right c))
constant_goes negated n None c = nothing_goes
constant_goes negated n (Some t) c = constant_by_goes negated t.kind n t c

pub pconst_goes : (w : Constructors) (n : ℕ) (q : Place) (t : Option Tok) → GoesPattern w (pconst n q t)
pconst_goes w n q t = over_goes w n q [] (constant false n t) no_one (λ c. constant_goes false n t c)

pub pneg_goes : (w : Constructors) (n : ℕ) (q : Place) (t : Option Tok) → GoesPattern w (pneg n q t)
pneg_goes w n q t = over_goes w n q [] (constant true n t) no_one (λ c. constant_goes true n t c)

-- nodes that have one type
nodes_have : {w : Constructors} (c : Pair w) (t u : Typ) → u ≡ rest w t → (nodes : List ℕ) → Goes w (map (λ m. same (type_at (left c) m) t) nodes) (map (λ m. same (type_at (right c) m) u) nodes)
nodes_have c t u e [] = nothing_goes
nodes_have {w} c t u e (m ∷ ms) = at_same w refl e (nodes_have c t u e ms)

of_one_goes : {w : Constructors} (c : Pair w) (n : ℕ) (nodes : List ℕ) → Goes w (of_one_type (left c) n nodes) (of_one_type (right c) n nodes)
of_one_goes c n nodes = nodes_have c (type_at (left c) n) (type_at (right c) n) refl nodes

-- a constructor that is found, over its arguments' conditions
with_built_goes : {w : Constructors} (c : Pair w) (n own : ℕ) (t : Tok) (given : ℕ) (b : Built) → IsBuilt w (Some b) → (nodes : List ℕ) (xs ys : List Condition) → Goes w xs ys → Goes w (with_built (left c) n own t given b nodes xs) (with_built (right c) n own t given b nodes ys)
with_built_goes c n own t given b made nodes xs ys h = at_test refl (behind h (nodes_have c (used_at (left c) own b.result) (used_at (right c) own b.result) (used_left c own b.result made.0) nodes))

abbrev alone_behind : Context → ℕ → Tok → Option Built → List Condition
alone_behind c n t o = elim o [ None ↦ [] | Some b ↦ with_built c n n t 0 b (n ∷ []) [] ]

pub constructor_alone_goes : {w : Constructors} (c : Pair w) (n : ℕ) (p : Written) → Goes w (constructor_alone (left c) n p) (constructor_alone (right c) n p)
constructor_alone_goes {w} c n p = by p.last refl
  where
    found : (t : Tok) (o : Option Built) → IsBuilt w o → Goes w (alone_behind (left c) n t o) (alone_behind (right c) n t o)
    found t None made = nothing_goes
    found t (Some b) made = with_built_goes c n n t 0 b made (n ∷ []) [] [] nothing_goes

    by : (o : Option Tok) → p.last ≡ o → Goes w (constructor_alone (left c) n p) (constructor_alone (right c) n p)
    by None e = rw (e, constructor_alone) nothing_goes
    by (Some t) e = rw (e, constructor_alone) (at_bound c n 0 constructor_kind constructor_word p t refl (along (alone_behind (left c) n t) (alone_behind (right c) n t) (built_one c n p t) (found t (built_by (left c) n p t) (constructor_built c n p t))))

pub pcon_goes : (w : Constructors) (n : ℕ) (q : Place) (p : Written) → GoesPattern w (pcon n q p)
pcon_goes w n q p = record { names = no_one; matches = λ c seen. constructor_alone_goes c n p }

-- the argument of a constructor has its type where one is declared
pub argument_has_goes : (w : Constructors) (n j : ℕ) (q : Place) (t u : Typ) → u ≡ rest w t → {x y : Option Typ} → BothThere w x y → Goes w (argument_has n j q t x) (argument_has n j q u y)
argument_has_goes w n j q t u e neither = nothing_goes
argument_has_goes w n j q t u e (both f) = equal_one w e f

-- behind the name of a constructor with an argument
abbrev applied_behind : Context → ℕ → ℕ → List ℕ → List Condition → (Option Typ → List Condition) → Tok → Option Built → List Condition
applied_behind c n head nodes argument has t o = elim o [ None ↦ argument ++ of_one_type c head nodes | Some b ↦ with_built c n head t 1 b nodes (argument ++ has (argument_type c head (Some b))) ]

pub applied_goes : {w : Constructors} (c : Pair w) (n : ℕ) (p : Written) (head : ℕ) (nodes : List ℕ) (xs ys : List Condition) (j : ℕ) (q : Place) (t u : Typ) → u ≡ rest w t → Goes w xs ys →
    Goes w (applied_constructor (left c) n p head nodes xs (argument_has n j q t)) (applied_constructor (right c) n p head nodes ys (argument_has n j q u))
applied_goes {w} c n p head nodes xs ys j q t u is h = by p.last refl
  where
    unfound : Goes w (xs ++ of_one_type (left c) head nodes) (ys ++ of_one_type (right c) head nodes)
    unfound = behind h (of_one_goes c head nodes)

    found : (x : Tok) (o : Option Built) → IsBuilt w o → Goes w (applied_behind (left c) n head nodes xs (argument_has n j q t) x o) (applied_behind (right c) n head nodes ys (argument_has n j q u) x o)
    found x None made = unfound
    found x (Some b) made = with_built_goes c n head x 1 b made nodes (xs ++ argument_has n j q t (argument_type (left c) head (Some b))) (ys ++ argument_has n j q u (argument_type (right c) head (Some b)))
        (behind h (argument_has_goes w n j q t u is (arguments_there c head b made)))

    by : (o : Option Tok) → p.last ≡ o → Goes w (applied_constructor (left c) n p head nodes xs (argument_has n j q t)) (applied_constructor (right c) n p head nodes ys (argument_has n j q u))
    by None e = rw (e, applied_constructor) (at_treated (at_known w refl unfound))
    by (Some x) e = rw (e, applied_constructor) (at_treated (at_known w refl (at_bound c n 0 constructor_kind constructor_word p x refl (
        along (applied_behind (left c) n head nodes xs (argument_has n j q t) x) (applied_behind (right c) n head nodes ys (argument_has n j q u) x) (built_one c n p x) (found x (built_by (left c) n p x) (constructor_built c n p x))))))

pub papp_goes : (w : Constructors) (n : ℕ) (q : Place) (head p : Pattern) → GoesPattern w p → GoesPattern w (papp n q head p)
papp_goes w n q head p s = by head.constructor refl
  where
    by : (o : Option Written) → head.constructor ≡ o → GoesPattern w (papp n q head p)
    by None e = rw (e, papp) (over_goes w n q (p ∷ []) (λ c. []) (one_and s no_one) (λ c. nothing_goes))
    by (Some path) e = rw (e, papp) (record {
      names = s.names;
      matches = λ c seen. applied_goes c n path head.node (n ∷ head.node ∷ []) (p.matched (left c) seen) (p.matched (right c) seen) 2 p.at (type_at (left c) p.node) (type_at (right c) p.node) refl (s.matches c seen);
    })

pub pparen_goes : (w : Constructors) (n : ℕ) (q : Place) (p : Pattern) (t : Option TypeExpression) → GoesPattern w p → IfThere (GoesType w) t → GoesPattern w (pparen n q p t)
pparen_goes w n q p None s absent = over_goes w n q (p ∷ []) _ (one_and s no_one) (λ c. same_one w refl refl)
pparen_goes w n q p (Some t) s (there r) = over_goes w n q (p ∷ []) _ (one_and s no_one) (λ c. behind (behind (r.reads c) (equal_one w refl refl)) (same_one w refl refl))

-- patterns that have one type
each_has_goes : {w : Constructors} (c : Pair w) (n j : ℕ) (t u : Typ) → u ≡ rest w t → (ps : List Pattern) → Goes w (ask_all n j (each_has (left c) t ps)) (ask_all n j (each_has (right c) u ps))
each_has_goes c n j t u e [] = nothing_goes
each_has_goes {w} c n j t u e (p ∷ ps) = at_equal w refl e (each_has_goes c n (j + 1) t u e ps)

first_left : {w : Constructors} (c : Pair w) (n : ℕ) (ps : List Pattern) → first_type (right c) n ps ≡ rest w (first_type (left c) n ps)
first_left c n [] = refl
first_left c n (p ∷ ps) = refl

pub plist_goes : (w : Constructors) (n : ℕ) (q : Place) (ps : List Pattern) → Each (GoesPattern w) ps → GoesPattern w (plist n q ps)
plist_goes w n q ps each = over_goes w n q ps _ each
    (λ c. behind (each_has_goes c n 0 (first_type (left c) n ps) (first_type (right c) n ps) (first_left c n ps) (behind_first ps)) (same_one w refl (list_left w (first_type (left c) n ps) (first_type (right c) n ps) (first_left c n ps))))

pub pcons_goes : (w : Constructors) (n : ℕ) (q : Place) (p r : Pattern) → GoesPattern w p → GoesPattern w r → GoesPattern w (pcons n q p r)
pcons_goes w n q p r s z = over_goes w n q (p ∷ r ∷ []) _ (one_and s (one_and z no_one))
    (λ c. behind (equal_one w refl (list_left w (type_at (left c) p.node) (type_at (right c) p.node) refl)) (same_one w refl (list_left w (type_at (left c) p.node) (type_at (right c) p.node) refl)))

pub ptuple_goes : (w : Constructors) (n : ℕ) (q : Place) (ps : List Pattern) → Each (GoesPattern w) ps → GoesPattern w (ptuple n q ps)
ptuple_goes w n q ps each = over_goes w n q ps _ each (λ c. same_one w refl (ap Tuple (sym (erase_types w.all (λ (p : Pattern). type_at (left c) p.node) ps))))

pub pas_goes : (w : Constructors) (n : ℕ) (q : Place) (p : Pattern) (t : Option Tok) → GoesPattern w p → GoesPattern w (pas n q p t)
pas_goes w n q p None s = over_goes w n q (p ∷ []) _ (one_and s no_one) (λ c. same_one w refl refl)
pas_goes w n q p (Some t) s = record {
  names = each_append s.names (one_and (bound_left w n t) no_one);
  matches = λ c seen. behind (behind (s.matches c seen) (at_test refl nothing_goes)) (same_one w refl refl);
}

-- what a side asks beside the first
data AskedRest (w : Constructors) : List (Place × Demand) → List (Place × Demand) → Type 0 where
  none_asked : AskedRest w [] []
  test_asked : {q : Place} {x : _} {b : Bool} {ds es : List (Place × Demand)} → AskedRest w ds es → AskedRest w ((q, test x b) ∷ ds) ((q, test x b) ∷ es)
  equal_asked : {q : Place} {t u v x : Typ} {ds es : List (Place × Demand)} → v ≡ rest w t → x ≡ rest w u → AskedRest w ds es → AskedRest w ((q, equal t u) ∷ ds) ((q, equal v x) ∷ es)

asked_then : {w : Constructors} {as_ bs ds es : List (Place × Demand)} → AskedRest w as_ bs → AskedRest w ds es → AskedRest w (as_ ++ ds) (bs ++ es)
asked_then none_asked h = h
asked_then (test_asked a) h = test_asked (asked_then a h)
asked_then (equal_asked e f a) h = equal_asked e f (asked_then a h)

asked_all : {w : Constructors} (n j : ℕ) {ds es : List (Place × Demand)} → AskedRest w ds es → Goes w (ask_all n j ds) (ask_all n j es)
asked_all n j none_asked = nothing_goes
asked_all n j (test_asked a) = at_test refl (asked_all n (j + 1) a)
asked_all {w} n j (equal_asked e f a) = at_equal w e f (asked_all n (j + 1) a)

differ_rest : (w : Constructors) (q : Place) (o : Option Name) → AskedRest w (sides_differ q o) (sides_differ q o)
differ_rest w q None = none_asked
differ_rest w q (Some n) = test_asked none_asked

found_rest : {w : Constructors} (n : Name) (bs : List Bound) → Each (RestName w) bs → IfThere (RestName w) (find_bound n bs)
found_rest n [] no_one = absent
found_rest {w} n (b ∷ bs) (one_and s each) = by (same_name n b.name) (found_rest n bs each)
  where
    by : (x : Bool) → IfThere (RestName w) (find_bound n bs) → IfThere (RestName w) (if x then Some b else find_bound n bs)
    by true h = there s
    by false h = h

common_rest : {w : Constructors} (c : Pair w) (bs others : List Bound) → Each (RestName w) bs → Each (RestName w) others → AskedRest w (common_names (left c) bs others) (common_names (right c) bs others)
common_rest c [] others no_one h = none_asked
common_rest {w} c (b ∷ bs) others (one_and s each) h = by (find_bound b.name others) (found_rest b.name others h) (common_rest c bs others each h)
  where
    by : (o : Option Bound) → IfThere (RestName w) o → AskedRest w (common_names (left c) bs others) (common_names (right c) bs others) →
        AskedRest w (elim o [ None ↦ common_names (left c) bs others | Some o ↦ (o.place, equal (o.has_type (left c)) (b.has_type (left c))) ∷ common_names (left c) bs others ])
        (elim o [ None ↦ common_names (right c) bs others | Some o ↦ (o.place, equal (o.has_type (right c)) (b.has_type (right c))) ∷ common_names (right c) bs others ])
    by None absent g = g
    by (Some o) (there z) g = equal_asked (z.gives c) (s.gives c) g

sides_rest : {w : Constructors} (c : Pair w) (first : Pattern) (ps : List Pattern) → GoesPattern w first → Each (GoesPattern w) ps → AskedRest w (sides_beside (left c) first ps) (sides_beside (right c) first ps)
sides_rest c first [] s no_one = none_asked
sides_rest {w} c first (p ∷ ps) s (one_and z each) =
    asked_then (asked_then (asked_then (differ_rest w p.at (name_apart first.names p.names)) (common_rest c first.names p.names s.names z.names)) (equal_asked refl refl none_asked)) (sides_rest c first ps s each)

pub por_goes : (w : Constructors) (n : ℕ) (q : Place) (first : Pattern) (ps : List Pattern) → GoesPattern w first → Each (GoesPattern w) ps → GoesPattern w (por n q first ps)
por_goes w n q first ps s each = record {
  names = s.names;
  matches = λ c seen. behind (behind (matches_each c seen (first ∷ ps) (one_and s each)) (asked_all n 0 (sides_rest c first ps s each))) (same_one w refl refl);
}

-- that a record's type is found is asked in both
pub ask_record_goes : {w : Constructors} (c : Pair w) (n j : ℕ) (ps : List Written) → Goes w (ask_record (left c) n j ps) (ask_record (right c) n j ps)
ask_record_goes {w} c n j ps = by (first_lost c.env ps) refl (sym (first_lost_alike (two c).names ps)) (first_token ps) refl
  where
    found : is_found (record_found (left c) ps) ≡ is_found (record_found (right c) ps)
    found = ap is_found (record_one w.all (labels_of ps) c.names)

    by : (l : Option Tok) → first_lost c.env ps ≡ l → first_lost c.others ps ≡ l → (o : Option Tok) → first_token ps ≡ o → Goes w (ask_record (left c) n j ps) (ask_record (right c) n j ps)
    by (Some q) e f o g = rw (e, f, ask_record) (at_test found nothing_goes)
    by None e f None g = rw (e, f, g, ask_record) nothing_goes
    by None e f (Some t) g = rw (e, f, g, ask_record) (at_test found nothing_goes)

-- fields
pun_goes : {w : Constructors} (c : Pair w) (f : FieldPattern) (seen : List Name) {t u : Option Typ} → BothThere w t u → Goes w (match_pun (left c) f seen t) (match_pun (right c) f seen u)
pun_goes {w} c f seen h = by f.label.last refl h
  where
    by : (o : Option Tok) → f.label.last ≡ o → {t u : Option Typ} → BothThere w t u → Goes w (match_pun (left c) f seen t) (match_pun (right c) f seen u)
    by None e h = rw (e, match_pun) nothing_goes
    by (Some x) e neither = rw (e, match_pun) (at_test refl (at_known w refl nothing_goes))
    by (Some x) e (both g) = rw (e, match_pun) (at_test refl (at_known w refl (same_one w refl g)))

-- that a part has a type, if there is one
abbrev has_if : Context → FieldPattern → Pattern → Option Typ → List Condition
has_if c f p t = elim t [ None ↦ [] | Some t ↦ ask f.node 1 p.at (equal (type_at c p.node) t) ]

field_goes : {w : Constructors} (c : Pair w) (n : ℕ) (is_found : Bool) (f : FieldPattern) (names seen : List Name) {t u : Option Typ} → BothThere w t u → GoesFieldPattern w f →
    Goes w (match_field (left c) n is_found f names seen t) (match_field (right c) n is_found f names seen u)
field_goes {w} c n is_found f names seen {t} {u} types s = by f.pattern refl s.pattern
  where
    has : (p : Pattern) {t u : Option Typ} → BothThere w t u → Goes w (has_if (left c) f p t) (has_if (right c) f p u)
    has p neither = nothing_goes
    has p (both g) = equal_one w refl g

    by : (o : Option Pattern) → f.pattern ≡ o → IfThere (GoesPattern w) o → Goes w (match_field (left c) n is_found f names seen t) (match_field (right c) n is_found f names seen u)
    by None e absent = rw (e, match_field) (at_treated (behind (once_goes is_found f.node 0 names f.label) (pun_goes c f seen types)))
    by (Some p) e (there z) = rw (e, match_field) (at_treated (behind (once_goes is_found f.node 0 names f.label) (behind (z.matches c seen) (has p types))))

fields_go : {w : Constructors} (c : Pair w) (n : ℕ) (found : Option Declaration) → IsDeclared w found → (fs : List FieldPattern) (names seen : List Name) → Each (GoesFieldPattern w) fs →
    Goes w (match_fields (left c) n found fs names seen) (match_fields (right c) n found fs names seen)
fields_go c n found made [] names seen no_one = nothing_goes
fields_go c n found made (f ∷ fs) names seen (one_and s each) =
    behind (field_goes c n _ f names seen (fields_there c n f.node found f.label made) s)
    (fields_go c n found made fs (names ++ name_in f.label) (seen ++ mentions_in_field f) each)

-- the node has the type of a record, if it is found
abbrev is_of_record : Context → ℕ → Option Declaration → List Condition
is_of_record c n o = elim o [ None ↦ [] | Some d ↦ same (type_at c n) (used_at c n (type_of d)) ∷ [] ]

of_record_goes : {w : Constructors} (c : Pair w) (n : ℕ) (o : Option Declaration) → IsDeclared w o → Goes w (is_of_record (left c) n o) (is_of_record (right c) n o)
of_record_goes c n None made = nothing_goes
of_record_goes {w} c n (Some d) made = same_one w refl (used_left c n (type_of d) (type_made w d made))

-- the names of a field
punned_rest : (w : Constructors) (n : ℕ) (f : FieldPattern) → Each (RestName w) (punned n f)
punned_rest w n f = by f.pattern refl f.label.last refl
  where
    by : (o : Option Pattern) → f.pattern ≡ o → (l : Option Tok) → f.label.last ≡ l → Each (RestName w) (punned n f)
    by (Some q) e l g = rw (e, punned) no_one
    by None e None g = rw (e, g, punned) no_one
    by None e (Some t) g = rw (e, g, punned) (one_and (record { gives = λ c. refl }) no_one)

field_rest : (w : Constructors) (n : ℕ) (f : FieldPattern) → GoesFieldPattern w f → Each (RestName w) (names_in_field n f)
field_rest w n f s = by f.pattern refl s.pattern
  where
    by : (o : Option Pattern) → f.pattern ≡ o → IfThere (GoesPattern w) o → Each (RestName w) (names_in_field n f)
    by None e absent = rw (e, names_in_field) (punned_rest w n f)
    by (Some q) e (there z) = rw (e, names_in_field) z.names

abbrev fields_names : ℕ → List FieldPattern → List Bound
fields_names n [] = []
fields_names n (f ∷ fs) = names_in_field n f ++ fields_names n fs

pub precord_goes : (w : Constructors) (n : ℕ) (q : Place) (fs : List FieldPattern) → Each (GoesFieldPattern w) fs → GoesPattern w (precord n q fs)
precord_goes w n q fs each = record {
  names = names fs each;
  matches = λ c seen.
      let ls : List Written = labels_of_fields fs in
      behind (behind (ask_record_goes c n 0 ls)
      (along (λ o. match_fields (left c) n o fs [] seen) (λ o. match_fields (right c) n o fs [] seen) (kept_record_one c n 0 ls) (fields_go c n (kept_record (left c) n 0 ls) (kept_declared c n 0 ls) fs [] seen each)))
      (along (is_of_record (left c) n) (is_of_record (right c) n) (kept_record_one c n 0 ls) (of_record_goes c n (kept_record (left c) n 0 ls) (kept_declared c n 0 ls)));
}
  where
    names : (gs : List FieldPattern) → Each (GoesFieldPattern w) gs → Each (RestName w) (fields_names n gs)
    names [] no_one = no_one
    names (f ∷ gs) (one_and s rest) = each_append (field_rest w n f s) (names gs rest)
