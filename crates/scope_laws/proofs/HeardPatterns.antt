-- Patterns tell the typed nodes of their parts.
use Rattle.std.proofs.Common.{◌≡◌, ℕ, Bool, List, [], ◌∷◌, ◌++◌, map, Option, Some, None, refl, if◌then◌else◌}
use Rattle.token_model.specs.Kinds.{Tok}
use Rattle.tree_model.specs.Trees.{Place}
use Rattle.query_model.specs.TypedNodes.{Typed}
use Rattle.type_model.specs.Types.{Typ}
use Rattle.signature_model.specs.Declarations.{Name, Declaration, type_of}
use Rattle.typing_model.specs.Demands.{equal, Condition, same}
use Rattle.typing_model.specs.Contexts.{Context, type_at, ask, tell_typed}
use Rattle.typing_model.specs.Parts.{Written, Pattern, TypeExpression, FieldPattern}
use Rattle.typing_model.specs.Names.{Built, used_at}
use Rattle.typing_model.specs.Records.{ask_once, field_type, ask_record, name_in}
use Rattle.typing_model.specs.Patterns.{matched_all, matched_each, ask_all, ask_fresh, over, with_built, built_by, argument_has, of_one_type, applied_constructor, argument_type, papp, pparen, sides_beside, pas, por, mentions_in_field, match_field, match_fields, labels_of_fields, kept_record, precord}
use Rattle.scope_laws.proofs.Heard.{types_in, told_first, Tells, nothing, left, behind, skip, both, front, back, join, AreAt, at_told, Heards, no_one, one_and, MayBe, absent, there}

-- what tells some typed nodes tells others
abbrev pub Into : List Typed → List Typed → Type 0
Into ts us = (types : ℕ → Typ) (cs : List Condition) → Tells types ts cs → Tells types us cs

-- a pattern tells typed nodes wherever it stands
pub record HeardPattern (ts : List Typed) (p : Pattern) : Type 0 where
  pub matches : (c : Context) (seen : List Name) → Tells (types_in c) ts (p.matched c seen)

-- a pattern with other typed nodes
pub pattern_into : {us : List Typed} {p : Pattern} (ts : List Typed) → Into ts us → HeardPattern ts p → HeardPattern us p
pattern_into {p = p} ts into h = record { matches = λ c seen. into (types_in c) (p.matched c seen) (h.matches c seen) }

-- one without typed nodes
pub no_nodes_in : {p : Pattern} → HeardPattern [] p
no_nodes_in = record { matches = λ c seen. nothing }

-- patterns one after the other
pub matches_all : {ts : List Typed} (c : Context) (seen : List Name) {ps : List Pattern} → Heards HeardPattern ts ps → Tells (types_in c) ts (matched_all c seen ps)
matches_all c seen no_one = nothing
matches_all c seen (one_and {x = p} s rest) = join (s.matches c seen) (matches_all c (seen ++ p.mentions) rest)

-- patterns beside one another
matches_each : {ts : List Typed} (c : Context) (seen : List Name) {ps : List Pattern} → Heards HeardPattern ts ps → Tells (types_in c) ts (matched_each c seen ps)
matches_each c seen no_one = nothing
matches_each c seen (one_and s rest) = join (s.matches c seen) (matches_each c seen rest)

-- over patterns, with what the node asks itself
pub over_heard : {ts : List Typed} (n : ℕ) (q : Place) (ps : List Pattern) (own : Context → List Condition) → Heards HeardPattern ts ps → HeardPattern ts (over n q ps own)
over_heard n q ps own each = record { matches = λ c seen. left (own c) (matches_all c seen each) }

-- over one
pub over_one : {ts : List Typed} (n : ℕ) (q : Place) (p : Pattern) (own : Context → List Condition) → HeardPattern ts p → HeardPattern ts (over n q (p ∷ []) own)
over_one {ts} n q p own s = pattern_into (ts ++ []) (λ types cs h. front ts [] h) (over_heard n q (p ∷ []) own (one_and s no_one))

-- ( p ), ( p : t )
pub pparen_heard : {ts : List Typed} (n : ℕ) (q : Place) (p : Pattern) (t : Option TypeExpression) → HeardPattern ts p → HeardPattern ts (pparen n q p t)
pparen_heard n q p None s = over_one n q p _ s
pparen_heard n q p (Some t) s = over_one n q p _ s

-- p :: p
pub pcons_heard : {ts us : List Typed} (n : ℕ) (q : Place) (p r : Pattern) (own : Context → List Condition) → HeardPattern ts p → HeardPattern us r → HeardPattern (ts ++ us) (over n q (p ∷ r ∷ []) own)
pcons_heard {ts} {us} n q p r own s z = pattern_into (ts ++ (us ++ [])) (λ types cs h. both (front ts (us ++ []) h) (front us [] (back ts (us ++ []) h))) (over_heard n q (p ∷ r ∷ []) own (one_and s (one_and z no_one)))

-- p as x
pub pas_heard : {ts : List Typed} (n : ℕ) (q : Place) (p : Pattern) (t : Option Tok) → HeardPattern ts p → HeardPattern ts (pas n q p t)
pas_heard n q p None s = over_one n q p _ s
pas_heard n q p (Some t) s = record { matches = λ c seen. left (same (type_at c n) (type_at c p.node) ∷ []) (left (ask_fresh n 0 (seen ++ p.mentions) t) (s.matches c seen)) }

-- p | p
pub por_heard : {ts : List Typed} (n : ℕ) (q : Place) (first : Pattern) (ps : List Pattern) → Heards HeardPattern ts (first ∷ ps) → HeardPattern ts (por n q first ps)
por_heard n q first ps each = record { matches = λ c seen. left (same (type_at c n) (type_at c first.node) ∷ []) (left (ask_all n 0 (sides_beside c first ps)) (matches_each c seen each)) }

-- a constructor that is found, over arguments
with_built_heard : {ts : List Typed} (c : Context) (n own : ℕ) (t : Tok) (given : ℕ) (b : Built) (nodes : List ℕ) {xs : List Condition} → Tells (types_in c) ts xs → Tells (types_in c) ts (with_built c n own t given b nodes xs)
with_built_heard c n own t given b nodes h = left (map (λ m. same (type_at c m) (used_at c own b.result)) nodes) (skip h)

-- behind the name of a constructor with an argument
abbrev applied_behind : Context → ℕ → ℕ → List ℕ → List Condition → (Option Typ → List Condition) → Tok → Option Built → List Condition
applied_behind c n head nodes argument has t o = elim o [ None ↦ argument ++ of_one_type c head nodes | Some b ↦ with_built c n head t 1 b nodes (argument ++ has (argument_type c head (Some b))) ]

-- a constructor over an argument tells its own node, and the typed nodes of the argument
pub applied_heard : {ts : List Typed} (us : List Typed) (c : Context) (n : ℕ) (p : Written) (head : ℕ) (nodes : List ℕ) {xs : List Condition} (q : Place) (t : Typ) → AreAt head us → Tells (types_in c) ts xs → Tells (types_in c) (us ++ ts) (applied_constructor c n p head nodes xs (argument_has n 2 q t))
applied_heard {ts} us c n p head nodes {xs} q t own h = by p.last refl
  where
    unfound : Tells (types_in c) ts (xs ++ of_one_type c head nodes)
    unfound = left (of_one_type c head nodes) h

    found : (x : Tok) (o : Option Built) → Tells (types_in c) ts (applied_behind c n head nodes xs (argument_has n 2 q t) x o)
    found x None = unfound
    found x (Some b) = with_built_heard c n head x 1 b nodes (left (argument_has n 2 q t (argument_type c head (Some b))) h)

    whole : {cs : List Condition} → Tells (types_in c) ts cs → Tells (types_in c) (us ++ ts) (tell_typed head c ++ cs)
    whole {cs} g = both (at_told head own (told_first head c cs)) (behind (tell_typed head c) g)

    by : (l : Option Tok) → p.last ≡ l → Tells (types_in c) (us ++ ts) (applied_constructor c n p head nodes xs (argument_has n 2 q t))
    by None e = rw (e, applied_constructor) (whole unfound)
    by (Some x) e = rw (e, applied_constructor) (whole (skip (found x (built_by c n p x))))

-- the head of a constructor's pattern: missing, or one that has no typed node but itself
pub data HeardHead : List Typed → Pattern → Type 0 where
  no_head : {p : Pattern} → HeardHead [] p
  a_head : {ts : List Typed} {p : Pattern} (path : Written) → p.constructor ≡ Some path → AreAt p.node ts → HeardHead ts p

-- A p
pub papp_heard : {ts us : List Typed} (n : ℕ) (q : Place) (head p : Pattern) → HeardHead us head → HeardPattern ts p → HeardPattern (us ++ ts) (papp n q head p)
papp_heard {ts} n q head p no_head s = by head.constructor refl
  where
    by : (o : Option Written) → head.constructor ≡ o → HeardPattern ts (papp n q head p)
    by None e = rw (e, papp) (over_one n q p (λ c. []) s)
    by (Some path) e = rw (e, papp) (record { matches = λ c seen. applied_heard [] c n path head.node (n ∷ head.node ∷ []) p.at (type_at c p.node) tt (s.matches c seen) })
papp_heard {ts} {us} n q head p (a_head path e own) s = rw (e, papp) (record { matches = λ c seen. applied_heard us c n path head.node (n ∷ head.node ∷ []) p.at (type_at c p.node) own (s.matches c seen) })

-- a field of a pattern tells typed nodes wherever it stands
pub record HeardFieldPattern (ts : List Typed) (f : FieldPattern) : Type 0 where
  pub matches : (c : Context) (n : ℕ) (is_found : Bool) (names seen : List Name) (t : Option Typ) → Tells (types_in c) ts (match_field c n is_found f names seen t)

-- that a part has a type, if there is one
abbrev has_if : Context → FieldPattern → Pattern → Option Typ → List Condition
has_if c f p t = elim t [ None ↦ [] | Some t ↦ ask f.node 1 p.at (equal (type_at c p.node) t) ]

-- l = p, and l
pub field_pattern_heard : {ts : List Typed} (f : FieldPattern) → MayBe HeardPattern ts f.pattern → HeardFieldPattern ts f
field_pattern_heard {ts} f s = record { matches = λ c n is_found names seen t. by ts c n is_found names seen t f.pattern refl s }
  where
    by : (us : List Typed) (c : Context) (n : ℕ) (is_found : Bool) (names seen : List Name) (t : Option Typ) (o : Option Pattern) → f.pattern ≡ o → MayBe HeardPattern us o → Tells (types_in c) us (match_field c n is_found f names seen t)
    by us c n is_found names seen t None e absent = nothing
    by us c n is_found names seen t (Some p) e (there z) = rw (e, match_field) (skip (behind (if is_found then ask_once f.node 0 names f.label else []) (left (has_if c f p t) (z.matches c seen))))

-- fields in order
fields_heard : {ts : List Typed} (c : Context) (n : ℕ) (found : Option Declaration) {fs : List FieldPattern} (names seen : List Name) → Heards HeardFieldPattern ts fs → Tells (types_in c) ts (match_fields c n found fs names seen)
fields_heard c n found names seen no_one = nothing
fields_heard c n found names seen (one_and {x = f} s rest) =
    join (s.matches c n _ names seen (field_type c n f.node found f.label)) (fields_heard c n found (names ++ name_in f.label) (seen ++ mentions_in_field f) rest)

-- the node has the type of a record, if it is found
abbrev is_of_record : Context → ℕ → Option Declaration → List Condition
is_of_record c n o = elim o [ None ↦ [] | Some d ↦ same (type_at c n) (used_at c n (type_of d)) ∷ [] ]

-- { l = p }
pub precord_heard : {ts : List Typed} (n : ℕ) (q : Place) (fs : List FieldPattern) → Heards HeardFieldPattern ts fs → HeardPattern ts (precord n q fs)
precord_heard n q fs each = record {
  matches = λ c seen.
      let ls : List Written = labels_of_fields fs in
      left (is_of_record c n (kept_record c n 0 ls)) (behind (ask_record c n 0 ls) (fields_heard c n (kept_record c n 0 ls) [] seen each));
}
