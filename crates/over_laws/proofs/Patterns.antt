-- What patterns tell.
use Rattle.std.proofs.Common.{◌≡◌, ℕ, ◌+◌, Bool, true, false, List, [], ◌∷◌, ◌++◌, map, Option, Some, None, refl, if◌then◌else◌}
use Rattle.token_model.specs.Kinds.{Tok, Kind, int, float, char, str, unit, nil, true_word, false_word}
use Rattle.tree_model.specs.Trees.{Place}
use Rattle.type_model.specs.Types.{Typ}
use Rattle.signature_model.specs.Declarations.{Name, Declaration, type_of}
use Rattle.typing_model.specs.Demands.{Demand, equal, Condition, same}
use Rattle.typing_model.specs.Contexts.{Context, type_at, ask}
use Rattle.typing_model.specs.Parts.{Written, Pattern, TypeExpression, FieldPattern, no_pattern_at}
use Rattle.typing_model.specs.Names.{Built, used_at}
use Rattle.typing_model.specs.BuiltIns.{list_type, constant, constant_by}
use Rattle.typing_model.specs.Records.{ask_once, field_type, ask_record, first_lost, first_token, name_in}
use Rattle.typing_model.specs.Patterns.{matched_all, matched_each, ask_all, over, pname, pconst, pneg, with_built, built_by, constructor_alone, pcon, argument_has, of_one_type, applied_constructor, argument_type, papp, pparen, plist, first_type, each_has, behind_first, sides_beside, pcons, ptuple, pas, por, mentions_in_field, match_pun, match_field, match_fields, labels_of_fields, kept_record, precord}
use Rattle.typing_laws.proofs.Steady.{Each, no_one, one_and, IfThere, absent, there}
use Rattle.over_laws.proofs.Told.{Around, IsIn, Told, silent, nothing_told, join, quiet, asked, told, told_typed}
use Rattle.over_laws.proofs.Types.{ToldType}

-- a pattern tells environments with values and exceptions in front where it stands in one
pub record ToldPattern (w : Around) (p : Pattern) : Type 0 where
  pub matches : (c : Context) (seen : List Name) → IsIn w c → Told w (p.matched c seen)

pub no_pattern_told : {w : Around} (n : ℕ) (p : Place) → ToldPattern w (no_pattern_at n p)
no_pattern_told n p = record { matches = λ c seen o. nothing_told }

matches_all : {w : Around} (c : Context) (o : IsIn w c) (seen : List Name) {ps : List Pattern} → Each (ToldPattern w) ps → Told w (matched_all c seen ps)
matches_all c o seen no_one = nothing_told
matches_all c o seen (one_and {x = p} s rest) = join (s.matches c seen o) (matches_all c o (seen ++ p.mentions) rest)

matches_each : {w : Around} (c : Context) (o : IsIn w c) (seen : List Name) {ps : List Pattern} → Each (ToldPattern w) ps → Told w (matched_each c seen ps)
matches_each c o seen no_one = nothing_told
matches_each c o seen (one_and s rest) = join (s.matches c seen o) (matches_each c o seen rest)

-- over patterns, with what the node asks itself
pub over_told : {w : Around} (n : ℕ) (q : Place) (ps : List Pattern) (own : Context → List Condition) → Each (ToldPattern w) ps → ((c : Context) → IsIn w c → Told w (own c)) → ToldPattern w (over n q ps own)
over_told n q ps own each h = record { matches = λ c seen o. join (matches_all c o seen each) (h c o) }

pub pname_told : {w : Around} (n : ℕ) (q : Place) (t : Option Tok) → ToldPattern w (pname n q t)
pname_told n q None = no_pattern_told n q
pname_told n q (Some t) = record { matches = λ c seen o. asked }

-- constants
constant_by_told : {w : Around} (negated : Bool) (s : Kind) (n : ℕ) (t : Tok) (c : Context) → Told w (constant_by negated s n t c)
unfolding constant_by
constant_by_told negated int n t c = quiet _ (tt, tt) asked
constant_by_told negated float n t c = silent _ (tt, tt)
constant_by_told negated char n t c = silent _ (tt, tt)
constant_by_told negated str n t c = silent _ (tt, tt)
constant_by_told negated unit n t c = silent _ (tt, tt)
constant_by_told negated true_word n t c = silent _ (tt, tt)
constant_by_told negated false_word n t c = silent _ (tt, tt)
constant_by_told negated nil n t c = silent _ (tt, tt)
constant_by_told negated _ n t c = nothing_told

pub constant_told : {w : Around} (negated : Bool) (n : ℕ) (t : Option Tok) (c : Context) → Told w (constant negated n t c)
constant_told negated n None c = nothing_told
constant_told negated n (Some t) c = constant_by_told negated t.kind n t c

pub pconst_told : {w : Around} (n : ℕ) (q : Place) (t : Option Tok) → ToldPattern w (pconst n q t)
pconst_told n q t = record { matches = λ c seen o. constant_told false n t c }

pub pneg_told : {w : Around} (n : ℕ) (q : Place) (t : Option Tok) → ToldPattern w (pneg n q t)
pneg_told n q t = record { matches = λ c seen o. constant_told true n t c }

-- that nodes have types tells nothing
types_told : {w : Around} (f : ℕ → Typ) (u : Typ) (nodes : List ℕ) → Told w (map (λ m. same (f m) u) nodes)
types_told f u [] = nothing_told
types_told f u (m ∷ ms) = record { over = (types_told f u ms).over; first = tt }

-- a constructor that is found, over arguments
with_built_told : {w : Around} (c : Context) (n own : ℕ) (t : Tok) (given : ℕ) (b : Built) (nodes : List ℕ) {xs : List Condition} → Told w xs → Told w (with_built c n own t given b nodes xs)
with_built_told c n own t given b nodes h = join (join asked h) (types_told (type_at c) (used_at c own b.result) nodes)

abbrev alone_behind : Context → ℕ → Tok → Option Built → List Condition
alone_behind c n t o = elim o [ None ↦ [] | Some b ↦ with_built c n n t 0 b (n ∷ []) [] ]

pub constructor_alone_told : {w : Around} (c : Context) (n : ℕ) (p : Written) → Told w (constructor_alone c n p)
constructor_alone_told {w} c n p = by p.last refl
  where
    found : (t : Tok) (o : Option Built) → Told w (alone_behind c n t o)
    found t None = nothing_told
    found t (Some b) = with_built_told c n n t 0 b (n ∷ []) nothing_told

    by : (o : Option Tok) → p.last ≡ o → Told w (constructor_alone c n p)
    by None e = rw (e, constructor_alone) nothing_told
    by (Some t) e = rw (e, constructor_alone) (join asked (found t (built_by c n p t)))

pub pcon_told : {w : Around} (n : ℕ) (q : Place) (p : Written) → ToldPattern w (pcon n q p)
pcon_told n q p = record { matches = λ c seen o. constructor_alone_told c n p }

argument_told : {w : Around} (n j : ℕ) (q : Place) (t : Typ) (o : Option Typ) → Told w (argument_has n j q t o)
argument_told n j q t None = nothing_told
argument_told n j q t (Some u) = asked

-- behind the name of a constructor with an argument
abbrev applied_behind : Context → ℕ → ℕ → List ℕ → List Condition → (Option Typ → List Condition) → Tok → Option Built → List Condition
applied_behind c n head nodes argument has t o = elim o [ None ↦ argument ++ of_one_type c head nodes | Some b ↦ with_built c n head t 1 b nodes (argument ++ has (argument_type c head (Some b))) ]

pub applied_told : {w : Around} (c : Context) (n : ℕ) (p : Written) (head : ℕ) (nodes : List ℕ) {xs : List Condition} (q : Place) (t : Typ) → IsIn w c → Told w xs →
    Told w (applied_constructor c n p head nodes xs (argument_has n 2 q t))
applied_told {w} c n p head nodes {xs} q t o h = by p.last refl
  where
    unfound : Told w (xs ++ of_one_type c head nodes)
    unfound = join h (types_told (type_at c) (type_at c head) nodes)

    found : (x : Tok) (o : Option Built) → Told w (applied_behind c n head nodes xs (argument_has n 2 q t) x o)
    found x None = unfound
    found x (Some b) = with_built_told c n head x 1 b nodes (join h (argument_told n 2 q t (argument_type c head (Some b))))

    by : (l : Option Tok) → p.last ≡ l → Told w (applied_constructor c n p head nodes xs (argument_has n 2 q t))
    by None e = rw (e, applied_constructor) (told_typed o (unfound))
    by (Some x) e = rw (e, applied_constructor) (told_typed o ((join asked (found x (built_by c n p x)))))

pub papp_told : {w : Around} (n : ℕ) (q : Place) (head p : Pattern) → ToldPattern w p → ToldPattern w (papp n q head p)
papp_told {w} n q head p s = by head.constructor refl
  where
    by : (o : Option Written) → head.constructor ≡ o → ToldPattern w (papp n q head p)
    by None e = rw (e, papp) (over_told n q (p ∷ []) (λ c. []) (one_and s no_one) (λ c o. nothing_told))
    by (Some path) e = rw (e, papp) (record { matches = λ c seen o. applied_told c n path head.node (n ∷ head.node ∷ []) p.at (type_at c p.node) o (s.matches c seen o) })

pub pparen_told : {w : Around} (n : ℕ) (q : Place) (p : Pattern) (t : Option TypeExpression) → ToldPattern w p → IfThere (ToldType w) t → ToldPattern w (pparen n q p t)
pparen_told n q p None s absent = over_told n q (p ∷ []) _ (one_and s no_one) (λ c o. silent _ (tt, tt))
pparen_told n q p (Some t) s (there r) = over_told n q (p ∷ []) _ (one_and s no_one) (λ c o. quiet _ (tt, tt) (join (r.reads c o) asked))

-- demands from a number on
pub all_asked : {w : Around} (n k : ℕ) (ds : List (Place × Demand)) → Told w (ask_all n k ds)
all_asked n k [] = nothing_told
all_asked n k (d ∷ ds) = join asked (all_asked n (k + 1) ds)

pub plist_told : {w : Around} (n : ℕ) (q : Place) (ps : List Pattern) → Each (ToldPattern w) ps → ToldPattern w (plist n q ps)
plist_told n q ps each = over_told n q ps _ each (λ c o. quiet (same (type_at c n) (list_type (first_type c n ps)) ∷ []) (tt, tt) (all_asked n 0 (each_has c (first_type c n ps) (behind_first ps))))

pub pcons_told : {w : Around} (n : ℕ) (q : Place) (p r : Pattern) → ToldPattern w p → ToldPattern w r → ToldPattern w (pcons n q p r)
pcons_told n q p r s z = over_told n q (p ∷ r ∷ []) _ (one_and s (one_and z no_one)) (λ c o. quiet _ (tt, tt) asked)

pub ptuple_told : {w : Around} (n : ℕ) (q : Place) (ps : List Pattern) → Each (ToldPattern w) ps → ToldPattern w (ptuple n q ps)
ptuple_told n q ps each = over_told n q ps _ each (λ c o. silent _ (tt, tt))

pub pas_told : {w : Around} (n : ℕ) (q : Place) (p : Pattern) (t : Option Tok) → ToldPattern w p → ToldPattern w (pas n q p t)
pas_told n q p None s = over_told n q (p ∷ []) _ (one_and s no_one) (λ c o. silent _ (tt, tt))
pas_told n q p (Some t) s = record { matches = λ c seen o. quiet _ (tt, tt) (join (s.matches c seen o) asked) }

pub por_told : {w : Around} (n : ℕ) (q : Place) (first : Pattern) (ps : List Pattern) → Each (ToldPattern w) (first ∷ ps) → ToldPattern w (por n q first ps)
por_told n q first ps each = record { matches = λ c seen o. quiet (same (type_at c n) (type_at c first.node) ∷ []) (tt, tt) (join (matches_each c o seen each) (all_asked n 0 (sides_beside c first ps))) }

-- that a record's type is found
pub record_told : {w : Around} (c : Context) (n j : ℕ) (ps : List Written) → Told w (ask_record c n j ps)
record_told {w} c n j ps = by (first_lost c.env ps) refl (first_token ps) refl
  where
    by : (l : Option Tok) → first_lost c.env ps ≡ l → (o : Option Tok) → first_token ps ≡ o → Told w (ask_record c n j ps)
    by (Some q) e o g = rw (e, ask_record) asked
    by None e None g = rw (e, g, ask_record) nothing_told
    by None e (Some t) g = rw (e, g, ask_record) asked

-- that a label doesn't stand among others, if the record is found
pub once_told : {w : Around} (n : ℕ) (b : Bool) (names : List Name) (p : Written) → Told w (if b then ask_once n 0 names p else [])
once_told n false names p = nothing_told
once_told {w} n true names p = by p.last refl
  where
    by : (o : Option Tok) → p.last ≡ o → Told w (ask_once n 0 names p)
    by None e = rw (e, ask_once) nothing_told
    by (Some t) e = rw (e, ask_once) asked

-- a field of a pattern tells such environments too
pub record ToldFieldPattern (w : Around) (f : FieldPattern) : Type 0 where
  pub matches : (c : Context) (n : ℕ) (is_found : Bool) (names seen : List Name) (t : Option Typ) → IsIn w c → Told w (match_field c n is_found f names seen t)

pun_told : {w : Around} (c : Context) (f : FieldPattern) (seen : List Name) (t : Option Typ) → Told w (match_pun c f seen t)
pun_told {w} c f seen t = by f.label.last refl t
  where
    by : (o : Option Tok) → f.label.last ≡ o → (t : Option Typ) → Told w (match_pun c f seen t)
    by None e t = rw (e, match_pun) nothing_told
    by (Some x) e None = rw (e, match_pun) (silent _ (tt, tt))
    by (Some x) e (Some t) = rw (e, match_pun) (silent _ (tt, tt))

-- that a part has a type, if there is one
abbrev has_if : Context → FieldPattern → Pattern → Option Typ → List Condition
has_if c f p t = elim t [ None ↦ [] | Some t ↦ ask f.node 1 p.at (equal (type_at c p.node) t) ]

pub field_pattern_told : {w : Around} (f : FieldPattern) → IfThere (ToldPattern w) f.pattern → ToldFieldPattern w f
field_pattern_told {w} f s = record { matches = λ c n is_found names seen t o. by c n is_found names seen t o f.pattern refl s }
  where
    has : (c : Context) (p : Pattern) (t : Option Typ) → Told w (has_if c f p t)
    has c p None = nothing_told
    has c p (Some t) = asked

    by : (c : Context) (n : ℕ) (is_found : Bool) (names seen : List Name) (t : Option Typ) → IsIn w c → (o : Option Pattern) → f.pattern ≡ o → IfThere (ToldPattern w) o → Told w (match_field c n is_found f names seen t)
    by c n is_found names seen t o None e absent = rw (e, match_field) (told o (join (once_told f.node is_found names f.label) (pun_told c f seen t)))
    by c n is_found names seen t o (Some p) e (there z) = rw (e, match_field) (told o (join (once_told f.node is_found names f.label) (join (z.matches c seen o) (has c p t))))

fields_told : {w : Around} (c : Context) (o : IsIn w c) (n : ℕ) (found : Option Declaration) {fs : List FieldPattern} (names seen : List Name) → Each (ToldFieldPattern w) fs → Told w (match_fields c n found fs names seen)
fields_told c o n found names seen no_one = nothing_told
fields_told c o n found names seen (one_and {x = f} s rest) =
    join (s.matches c n _ names seen (field_type c n f.node found f.label) o) (fields_told c o n found (names ++ name_in f.label) (seen ++ mentions_in_field f) rest)

-- the node has the type of a record, if it is found
abbrev is_of_record : Context → ℕ → Option Declaration → List Condition
is_of_record c n o = elim o [ None ↦ [] | Some d ↦ same (type_at c n) (used_at c n (type_of d)) ∷ [] ]

of_record_told : {w : Around} (c : Context) (n : ℕ) (o : Option Declaration) → Told w (is_of_record c n o)
of_record_told c n None = nothing_told
of_record_told c n (Some d) = silent (is_of_record c n (Some d)) (tt, tt)

pub precord_told : {w : Around} (n : ℕ) (q : Place) (fs : List FieldPattern) → Each (ToldFieldPattern w) fs → ToldPattern w (precord n q fs)
precord_told n q fs each = record {
  matches = λ c seen o.
      let ls : List Written = labels_of_fields fs in
      join (join (record_told c n 0 ls) (fields_told c o n (kept_record c n 0 ls) [] seen each)) (of_record_told c n (kept_record c n 0 ls));
}
