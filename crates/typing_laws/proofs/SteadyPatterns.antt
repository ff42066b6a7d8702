-- What patterns ask goes together.
use Rattle.std.proofs.Common.{◌≡◌, ℕ, Bool, true, false, List, [], ◌∷◌, ◌++◌, Option, Some, None, refl, subst, if◌then◌else◌}
use Rattle.token_model.specs.Kinds.{Tok, Kind, int, float, char, str, unit, nil, true_word, false_word}
use Rattle.tree_model.specs.Trees.{Place}
use Rattle.type_model.specs.Types.{Typ}
use Rattle.signature_model.specs.Declarations.{Name, Declaration, type_of}
use Rattle.signature_model.specs.Components.{same_name}
use Rattle.typing_model.specs.Demands.{site, Demand, equal, Condition, same}
use Rattle.typing_model.specs.Contexts.{Context, Bound, type_at}
use Rattle.typing_model.specs.Parts.{Written, Pattern, TypeExpression, FieldPattern, no_pattern_at}
use Rattle.typing_model.specs.Names.{Built, used_at}
use Rattle.typing_model.specs.BuiltIns.{constant, constant_by}
use Rattle.typing_model.specs.Records.{ask_once, field_type, ask_record, first_lost, first_token, declaration_found, name_in}
use Rattle.typing_model.specs.Patterns.{bound_at, matched_all, matched_each, all_names, ask_all, over, pname, pconst, pneg, with_built, built_by, argument_type, constructor_alone, pcon, argument_has, of_one_type, applied_constructor, papp, pparen, plist, pcons, ptuple, pas, find_bound, common_names, side_beside, sides_beside, por, punned, names_in_field, mentions_in_field, match_field, match_fields, labels_of_fields, kept_record, precord}
use Rattle.typing_laws.proofs.Together.{Kept, keeping, Agreed, agree_first, agree_left}
use Rattle.typing_laws.proofs.Whole.{Whole, at_end, at_demand, at_known, at_treated, alone, behind, along}
use Rattle.typing_laws.proofs.Steady.{Each, no_one, one_and, each_append, IfThere, absent, there, SameName, WholeType, SteadyPattern, SteadyFieldPattern}

-- conditions that are the same for both
pub equal_alone : {k m : Kept} {xs ys : List Condition} → xs ≡ ys → Whole k m xs ys
equal_alone {k} {m} {xs} {ys} e = subst (λ zs. Whole k m xs zs) e (alone xs)

pub no_pattern_steady : {k m : Kept} (n : ℕ) (p : Place) → SteadyPattern k m (no_pattern_at n p)
no_pattern_steady n p = record { binds = no_one; matches = λ c seen. at_end }

bound_at_one : {k m : Kept} (n : ℕ) (t : Tok) → SameName k m (bound_at n t)
bound_at_one n t = record { one = λ c. refl }

pub matches_all : {k m : Kept} (c : Context) (seen : List Name) (ps : List Pattern) → Each (SteadyPattern k m) ps → Whole k m (matched_all (keeping k c) seen ps) (matched_all (keeping m c) seen ps)
matches_all c seen [] no_one = at_end
matches_all c seen (p ∷ ps) (one_and s each) = behind (s.matches c seen) (λ a. matches_all c (seen ++ p.mentions) ps each)

matches_each : {k m : Kept} (c : Context) (seen : List Name) (ps : List Pattern) → Each (SteadyPattern k m) ps → Whole k m (matched_each (keeping k c) seen ps) (matched_each (keeping m c) seen ps)
matches_each c seen [] no_one = at_end
matches_each c seen (p ∷ ps) (one_and s each) = behind (s.matches c seen) (λ a. matches_each c seen ps each)

pub all_names_one : {k m : Kept} (ps : List Pattern) → Each (SteadyPattern k m) ps → Each (SameName k m) (all_names ps)
all_names_one [] no_one = no_one
all_names_one (p ∷ ps) (one_and s each) = each_append s.binds (all_names_one ps each)

pub over_steady : {k m : Kept} (n : ℕ) (q : Place) (ps : List Pattern) (own : Context → List Condition) → Each (SteadyPattern k m) ps →
    ((c : Context) → Whole k m (own (keeping k c)) (own (keeping m c))) → SteadyPattern k m (over n q ps own)
over_steady n q ps own each h = record { binds = all_names_one ps each; matches = λ c seen. behind (matches_all c seen ps each) (λ a. h c) }

pub pname_steady : {k m : Kept} (n : ℕ) (q : Place) (t : Option Tok) → SteadyPattern k m (pname n q t)
pname_steady n q None = no_pattern_steady n q
pname_steady n q (Some t) = record { binds = one_and (bound_at_one n t) no_one; matches = λ c seen. alone _ }

-- constants ask the same of both
constant_by_alone : {k m : Kept} (negated : Bool) (s : Kind) (n : ℕ) (t : Tok) (c : Context) → Whole k m (constant_by negated s n t (keeping k c)) (constant_by negated s n t (keeping m c))
unfolding constant_by
constant_by_alone negated int n t c = alone _
constant_by_alone negated float n t c = alone _
constant_by_alone negated char n t c = alone _
constant_by_alone negated str n t c = alone _
constant_by_alone negated unit n t c = alone _
constant_by_alone negated true_word n t c = alone _
constant_by_alone negated false_word n t c = alone _
constant_by_alone negated nil n t c = alone _
constant_by_alone negated _ n t c = at_end

pub constant_alone : {k m : Kept} (negated : Bool) (n : ℕ) (t : Option Tok) (c : Context) → Whole k m (constant negated n t (keeping k c)) (constant negated n t (keeping m c))
constant_alone negated n None c = at_end
constant_alone negated n (Some t) c = constant_by_alone negated t.kind n t c

pub pconst_steady : {k m : Kept} (n : ℕ) (q : Place) (t : Option Tok) → SteadyPattern k m (pconst n q t)
pconst_steady n q t = over_steady n q [] (constant false n t) no_one (constant_alone false n t)

pub pneg_steady : {k m : Kept} (n : ℕ) (q : Place) (t : Option Tok) → SteadyPattern k m (pneg n q t)
pneg_steady n q t = over_steady n q [] (constant true n t) no_one (constant_alone true n t)

-- the constructor that is found, where its demand is kept alike
pub built_alike : (k m : Kept) (c : Context) (n : ℕ) (p : Written) (t : Tok) → k (site n 0) ≡ m (site n 0) → built_by (keeping k c) n p t ≡ built_by (keeping m c) n p t
built_alike k m c n p t e = rw (e, built_by) refl

-- a constructor that is found, over arguments that go together
pub with_built_alike : {k m : Kept} (c : Context) (n own : ℕ) (t : Tok) (given : ℕ) (b : Built) (nodes : List ℕ) (xs ys : List Condition) → Whole k m xs ys →
    Whole k m (with_built (keeping k c) n own t given b nodes xs) (with_built (keeping m c) n own t given b nodes ys)
with_built_alike c n own t given b nodes xs ys h = at_demand (λ a. behind h (λ d. alone _))

abbrev alone_behind : Context → ℕ → Tok → Option Built → List Condition
alone_behind c n t o = elim o [ None ↦ [] | Some b ↦ with_built c n n t 0 b (n ∷ []) [] ]

pub constructor_alone_alike : {k m : Kept} (c : Context) (n : ℕ) (p : Written) → Whole k m (constructor_alone (keeping k c) n p) (constructor_alone (keeping m c) n p)
constructor_alone_alike {k} {m} c n p = by p.last refl
  where
    found : (t : Tok) (o : Option Built) → Whole k m (alone_behind (keeping k c) n t o) (alone_behind (keeping m c) n t o)
    found t None = at_end
    found t (Some b) = with_built_alike c n n t 0 b (n ∷ []) [] [] at_end

    by : (o : Option Tok) → p.last ≡ o → Whole k m (constructor_alone (keeping k c) n p) (constructor_alone (keeping m c) n p)
    by None e = rw (e, constructor_alone) at_end
    by (Some t) e = rw (e, constructor_alone) (at_demand (λ a.
        along (alone_behind (keeping k c) n t) (alone_behind (keeping m c) n t) (built_alike k m c n p t a) (found t (built_by (keeping k c) n p t))))

pub pcon_steady : {k m : Kept} (n : ℕ) (q : Place) (p : Written) → SteadyPattern k m (pcon n q p)
pcon_steady n q p = record { binds = no_one; matches = λ c seen. constructor_alone_alike c n p }

pub argument_has_alone : {k m : Kept} (n j : ℕ) (q : Place) (t : Typ) (o : Option Typ) → Whole k m (argument_has n j q t o) (argument_has n j q t o)
argument_has_alone n j q t o = alone (argument_has n j q t o)

-- behind the name of a constructor with an argument
abbrev applied_behind : Context → ℕ → ℕ → List ℕ → List Condition → (Option Typ → List Condition) → Tok → Option Built → List Condition
applied_behind c n head nodes argument has t o = elim o [ None ↦ argument ++ of_one_type c head nodes | Some b ↦ with_built c n head t 1 b nodes (argument ++ has (argument_type c head (Some b))) ]

pub applied_alike : {k m : Kept} (c : Context) (n : ℕ) (p : Written) (head : ℕ) (nodes : List ℕ) (xs ys : List Condition) (has : Option Typ → List Condition) → Whole k m xs ys →
    Whole k m (applied_constructor (keeping k c) n p head nodes xs has) (applied_constructor (keeping m c) n p head nodes ys has)
applied_alike {k} {m} c n p head nodes xs ys has h = by p.last refl
  where
    unfound : Whole k m (xs ++ of_one_type (keeping k c) head nodes) (ys ++ of_one_type (keeping m c) head nodes)
    unfound = behind h (λ a. alone _)

    found : (t : Tok) (o : Option Built) → Whole k m (applied_behind (keeping k c) n head nodes xs has t o) (applied_behind (keeping m c) n head nodes ys has t o)
    found t None = unfound
    found t (Some b) = with_built_alike c n head t 1 b nodes (xs ++ has (argument_type (keeping k c) head (Some b))) (ys ++ has (argument_type (keeping m c) head (Some b))) (behind h (λ a. alone _))

    by : (o : Option Tok) → p.last ≡ o → Whole k m (applied_constructor (keeping k c) n p head nodes xs has) (applied_constructor (keeping m c) n p head nodes ys has)
    by None e = rw (e, applied_constructor) (at_treated (at_known unfound))
    by (Some t) e = rw (e, applied_constructor) (at_treated (at_known (at_demand (λ a.
        along (applied_behind (keeping k c) n head nodes xs has t) (applied_behind (keeping m c) n head nodes ys has t) (built_alike k m c n p t a) (found t (built_by (keeping k c) n p t))))))

pub papp_steady : {k m : Kept} (n : ℕ) (q : Place) (head p : Pattern) → SteadyPattern k m p → SteadyPattern k m (papp n q head p)
papp_steady {k} {m} n q head p s = by head.constructor refl
  where
    by : (o : Option Written) → head.constructor ≡ o → SteadyPattern k m (papp n q head p)
    by None e = rw (e, papp) (over_steady n q (p ∷ []) (λ c. []) (one_and s no_one) (λ c. at_end))
    by (Some path) e = rw (e, papp) (record {
      binds = s.binds;
      matches = λ c seen. applied_alike c n path head.node (n ∷ head.node ∷ []) (p.matched (keeping k c) seen) (p.matched (keeping m c) seen) (argument_has n 2 p.at (type_at (keeping k c) p.node)) (s.matches c seen);
    })

pub pparen_steady : {k m : Kept} (n : ℕ) (q : Place) (p : Pattern) (t : Option TypeExpression) → SteadyPattern k m p → IfThere (WholeType k m) t → SteadyPattern k m (pparen n q p t)
pparen_steady n q p None s absent = over_steady n q (p ∷ []) _ (one_and s no_one) (λ c. alone _)
pparen_steady n q p (Some t) s (there r) = over_steady n q (p ∷ []) _ (one_and s no_one) (λ c. behind (behind (r.reads c) (λ a. alone _)) (λ a. alone _))

pub plist_steady : {k m : Kept} (n : ℕ) (q : Place) (ps : List Pattern) → Each (SteadyPattern k m) ps → SteadyPattern k m (plist n q ps)
plist_steady n q ps each = over_steady n q ps _ each (λ c. alone _)

pub pcons_steady : {k m : Kept} (n : ℕ) (q : Place) (p r : Pattern) → SteadyPattern k m p → SteadyPattern k m r → SteadyPattern k m (pcons n q p r)
pcons_steady n q p r s z = over_steady n q (p ∷ r ∷ []) _ (one_and s (one_and z no_one)) (λ c. alone _)

pub ptuple_steady : {k m : Kept} (n : ℕ) (q : Place) (ps : List Pattern) → Each (SteadyPattern k m) ps → SteadyPattern k m (ptuple n q ps)
ptuple_steady n q ps each = over_steady n q ps _ each (λ c. alone _)

pub pas_steady : {k m : Kept} (n : ℕ) (q : Place) (p : Pattern) (t : Option Tok) → SteadyPattern k m p → SteadyPattern k m (pas n q p t)
pas_steady n q p None s = over_steady n q (p ∷ []) _ (one_and s no_one) (λ c. alone _)
pas_steady n q p (Some t) s = record {
  binds = each_append s.binds (one_and (bound_at_one n t) no_one);
  matches = λ c seen. behind (behind (s.matches c seen) (λ a. alone _)) (λ a. alone _);
}

-- a bound name that is found has one type for both
found_one : {k m : Kept} (n : Name) (bs : List Bound) → Each (SameName k m) bs → IfThere (SameName k m) (find_bound n bs)
found_one n [] no_one = absent
found_one {k} {m} n (b ∷ bs) (one_and s each) = by (same_name n b.name) (found_one n bs each)
  where
    by : (x : Bool) → IfThere (SameName k m) (find_bound n bs) → IfThere (SameName k m) (if x then Some b else find_bound n bs)
    by true h = there s
    by false h = h

abbrev common_behind : Context → Bound → List (Place × Demand) → Option Bound → List (Place × Demand)
common_behind c b rest o = elim o [ None ↦ rest | Some o ↦ (o.place, equal (o.has_type c) (b.has_type c)) ∷ rest ]

two_types : (x y v w : Typ) (q : Place) (xs ys : List (Place × Demand)) → x ≡ y → v ≡ w → xs ≡ ys → ◌≡◌ {A = List (Place × Demand)} ((q, equal x v) ∷ xs) ((q, equal y w) ∷ ys)
two_types x y v w q xs ys e f g = cc

common_alike : {k m : Kept} (c : Context) (bs others : List Bound) → Each (SameName k m) bs → Each (SameName k m) others → common_names (keeping k c) bs others ≡ common_names (keeping m c) bs others
common_alike c [] others no_one h = refl
common_alike {k} {m} c (b ∷ bs) others (one_and s each) h = by (find_bound b.name others) (found_one b.name others h) (common_names (keeping k c) bs others) (common_names (keeping m c) bs others) (common_alike c bs others each h)
  where
    by : (o : Option Bound) → IfThere (SameName k m) o → (xs ys : List (Place × Demand)) → xs ≡ ys → common_behind (keeping k c) b xs o ≡ common_behind (keeping m c) b ys o
    by None absent xs ys e = e
    by (Some o) (there z) xs ys e = two_types (o.has_type (keeping k c)) (o.has_type (keeping m c)) (b.has_type (keeping k c)) (b.has_type (keeping m c)) o.place xs ys (z.one c) (s.one c) e

sides_alike : {k m : Kept} (c : Context) (first : Pattern) (ps : List Pattern) → SteadyPattern k m first → Each (SteadyPattern k m) ps → sides_beside (keeping k c) first ps ≡ sides_beside (keeping m c) first ps
sides_alike c first [] s no_one = refl
sides_alike {k} {m} c first (p ∷ ps) s (one_and z each) =
    let rest : sides_beside (keeping k c) first ps ≡ sides_beside (keeping m c) first ps = sides_alike c first ps s each in
    let names : common_names (keeping k c) first.names p.names ≡ common_names (keeping m c) first.names p.names = common_alike c first.names p.names s.binds z.binds in
    rw (names, side_beside, sides_beside) (rw rest refl)

pub por_steady : {k m : Kept} (n : ℕ) (q : Place) (first : Pattern) (ps : List Pattern) → SteadyPattern k m first → Each (SteadyPattern k m) ps → SteadyPattern k m (por n q first ps)
por_steady {k} {m} n q first ps s each = record {
  binds = s.binds;
  matches = λ c seen. behind (behind (matches_each c seen (first ∷ ps) (one_and s each)) (λ a. along (ask_all n 0) (ask_all n 0) (sides_alike c first ps s each) (alone _))) (λ a. alone _);
}

-- that a record's type is found is asked where a label is written
record_asked : {k m : Kept} (c : Context) (n j : ℕ) (ps : List Written) (t : Tok) → first_token ps ≡ Some t → Agreed k m (ask_record c n j ps) → k (site n j) ≡ m (site n j)
record_asked {k} {m} c n j ps t e a = by (first_lost c.env ps) refl
  where
    by : (l : Option Tok) → first_lost c.env ps ≡ l → k (site n j) ≡ m (site n j)
    by None g = agree_first _ _ _ _ (rw (e, g, ask_record) at a)
    by (Some q) g = agree_first _ _ _ _ (rw (e, g, ask_record) at a)

-- so the record that is found is one, where its demand is kept alike
pub record_one : {k m : Kept} (c : Context) (n j : ℕ) (ps : List Written) → Agreed k m (ask_record (keeping k c) n j ps) → kept_record (keeping k c) n j ps ≡ kept_record (keeping m c) n j ps
record_one {k} {m} c n j ps a = by (first_token ps) refl
  where
    either : (x y : Bool) → (if x then declaration_found (keeping k c) ps else declaration_found (keeping k c) ps) ≡ (if y then declaration_found (keeping m c) ps else declaration_found (keeping m c) ps)
    either true true = refl
    either true false = refl
    either false true = refl
    either false false = refl

    by : (o : Option Tok) → first_token ps ≡ o → kept_record (keeping k c) n j ps ≡ kept_record (keeping m c) n j ps
    by None e = rw (e, kept_record) (either (k (site n j)) (m (site n j)))
    by (Some t) e = rw (record_asked c n j ps t e a, kept_record) refl

punned_one : {k m : Kept} (n : ℕ) (f : FieldPattern) → Each (SameName k m) (punned n f)
punned_one {k} {m} n f = by f.pattern refl f.label.last refl
  where
    by : (o : Option Pattern) → f.pattern ≡ o → (l : Option Tok) → f.label.last ≡ l → Each (SameName k m) (punned n f)
    by (Some p) e l g = rw (e, punned) no_one
    by None e None g = rw (e, g, punned) no_one
    by None e (Some t) g = rw (e, g, punned) (one_and (record { one = λ c. refl }) no_one)

field_names_one : {k m : Kept} (n : ℕ) (f : FieldPattern) → SteadyFieldPattern k m f → Each (SameName k m) (names_in_field n f)
field_names_one {k} {m} n f s = by f.pattern refl s.pattern
  where
    by : (o : Option Pattern) → f.pattern ≡ o → IfThere (SteadyPattern k m) o → Each (SameName k m) (names_in_field n f)
    by None e absent = rw (e, names_in_field) (punned_one n f)
    by (Some p) e (there z) = rw (e, names_in_field) z.binds

field_alike : {k m : Kept} (c : Context) (n : ℕ) (is_found : Bool) (f : FieldPattern) (names : List Name) (seen : List Name) (t : Option Typ) → SteadyFieldPattern k m f →
    Whole k m (match_field (keeping k c) n is_found f names seen t) (match_field (keeping m c) n is_found f names seen t)
field_alike {k} {m} c n is_found f names seen t s = by f.pattern refl s.pattern
  where
    by : (o : Option Pattern) → f.pattern ≡ o → IfThere (SteadyPattern k m) o → Whole k m (match_field (keeping k c) n is_found f names seen t) (match_field (keeping m c) n is_found f names seen t)
    by None e absent = rw (e, match_field) (alone _)
    by (Some p) e (there z) = rw (e, match_field) (at_treated (behind (alone (if is_found then ask_once f.node 0 names f.label else [])) (λ a. behind (z.matches c seen) (λ b. alone _))))

fields_alike : {k m : Kept} (c : Context) (n : ℕ) (found : Option Declaration) (fs : List FieldPattern) (names : List Name) (seen : List Name) → Each (SteadyFieldPattern k m) fs →
    Whole k m (match_fields (keeping k c) n found fs names seen) (match_fields (keeping m c) n found fs names seen)
fields_alike c n found [] names seen no_one = at_end
fields_alike {k} {m} c n found (f ∷ fs) names seen (one_and s each) =
    behind (field_alike c n _ f names seen (field_type (keeping k c) n f.node found f.label) s) (λ a. fields_alike c n found fs (names ++ name_in f.label) (seen ++ mentions_in_field f) each)

-- the names of fields
abbrev names_of_fields : ℕ → List FieldPattern → List Bound
names_of_fields n [] = []
names_of_fields n (f ∷ fs) = names_in_field n f ++ names_of_fields n fs

-- the node has the type of a record, if it is found
abbrev is_of_record : Context → ℕ → Option Declaration → List Condition
is_of_record c n o = elim o [ None ↦ [] | Some d ↦ same (type_at c n) (used_at c n (type_of d)) ∷ [] ]

pub precord_steady : {k m : Kept} (n : ℕ) (q : Place) (fs : List FieldPattern) → Each (SteadyFieldPattern k m) fs → SteadyPattern k m (precord n q fs)
precord_steady {k} {m} n q fs each = record {
  binds = names fs each;
  matches = λ c seen.
      let ls : List Written = labels_of_fields fs in
      behind (behind (alone (ask_record (keeping k c) n 0 ls)) (λ a.
      along (λ o. match_fields (keeping k c) n o fs [] seen) (λ o. match_fields (keeping m c) n o fs [] seen) (record_one c n 0 ls a) (fields_alike c n (kept_record (keeping k c) n 0 ls) fs [] seen each)))
      (λ a. along (is_of_record (keeping k c) n) (is_of_record (keeping m c) n) (record_one c n 0 ls (agree_left (ask_record (keeping k c) n 0 ls) _ a)) (alone _));
}
  where
    names : (fs : List FieldPattern) → Each (SteadyFieldPattern k m) fs → Each (SameName k m) (names_of_fields n fs)
    names [] no_one = no_one
    names (f ∷ fs) (one_and s each) = each_append (field_names_one n f s) (names fs each)
