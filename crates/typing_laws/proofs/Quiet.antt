-- Conditions among which no demand compares signatures: none that one matches, and none that a body closes.
use Rattle.std.proofs.Common.{◌≡◌, ℕ, ◌+◌, Bool, true, false, List, [], ◌∷◌, ◌++◌, map, Option, Some, None, refl, if◌then◌else◌}
use Rattle.token_model.specs.Kinds.{Tok, Kind, int, float, char, str, unit, nil, true_word, false_word}
use Rattle.tree_model.specs.Trees.{Place}
use Rattle.type_model.specs.Types.{Typ}
use Rattle.type_model.specs.Schemes.{Scheme}
use Rattle.signature_model.specs.Declarations.{Name, Declaration, type_of}
use Rattle.signature_model.specs.Entries.{Environment}
use Rattle.typing_model.specs.Demands.{Site, site, Demand, equal, Condition, same, instance, made, known, demand, treated}
use Rattle.typing_model.specs.Contexts.{Context, Bound, Variables, in_item, parameters, unresolved, unresolved_in, type_at, letter, is_kept}
use Rattle.typing_model.specs.Parts.{Written, Expression, Pattern, TypeExpression, Binding, Case, Field, FieldPattern, ConstructorPart, LabelPart, Told, constructors, labels, RightSide, another, own, DeclarationPart, Item, Seen}
use Rattle.typing_model.specs.Names.{Built, used_at}
use Rattle.typing_model.specs.BuiltIns.{constant, constant_by}
use Rattle.typing_model.specs.Records.{ask_record, ask_once, first_lost, first_token, field_type, name_in}
use Rattle.typing_model.specs.TypeExpressions.{index_from, variable_asks, tvar, read_all, declared_type, constructor_asks, tcon, tapp, in_parentheses, equal_of_one, tparen, ttuple, tarrow}
use Rattle.typing_model.specs.Patterns.{matched_all, matched_each, ask_all, over, pname, papp, pparen, por, pas, match_pun, match_field, match_fields, precord, kept_record, with_built, built_by, constructor_alone, argument_has, of_one_type, applied_constructor, argument_type, common_names, sides_differ, name_apart, sides_beside, find_bound, labels_of_fields, mentions_in_field}
use Rattle.typing_laws.proofs.Together.{on_signatures}
use Rattle.typing_laws.proofs.Steady.{Each, no_one, one_and, each_append, IfThere, absent, there}

pub data Quiet : List Condition → Type 0 where
  silence : Quiet []
  q_demand : {s : Site} {p : Place} {d : Demand} {cs : List Condition} → on_signatures d ≡ false → Quiet cs → Quiet (demand s p d ∷ cs)
  q_same : {t u : Typ} {cs : List Condition} → Quiet cs → Quiet (same t u ∷ cs)
  q_instance : {s : Scheme} {t : Typ} {cs : List Condition} → Quiet cs → Quiet (instance s t ∷ cs)
  q_made : {n : ℕ} {t : Typ} {cs : List Condition} → Quiet cs → Quiet (made n t ∷ cs)
  q_known : {t : Typ} {cs : List Condition} → Quiet cs → Quiet (known t ∷ cs)
  q_treated : {n : ℕ} {e : Environment} {cs : List Condition} → Quiet cs → Quiet (treated n e ∷ cs)

pub also : {xs ys : List Condition} → Quiet xs → Quiet ys → Quiet (xs ++ ys)
also silence h = h
also (q_demand e g) h = q_demand e (also g h)
also (q_same g) h = q_same (also g h)
also (q_instance g) h = q_instance (also g h)
also (q_made g) h = q_made (also g h)
also (q_known g) h = q_known (also g h)
also (q_treated g) h = q_treated (also g h)

pub if_quiet : (b : Bool) {xs ys : List Condition} → Quiet xs → Quiet ys → Quiet (if b then xs else ys)
if_quiet true h g = h
if_quiet false h g = g

-- a place and a demand that compares no signatures
pub record NoEnd (d : Place × Demand) : Type 0 where
  pub no : on_signatures d.1 ≡ false

pub all_quiet : (n k : ℕ) (ds : List (Place × Demand)) → Each NoEnd ds → Quiet (ask_all n k ds)
all_quiet n k [] no_one = silence
all_quiet n k (d ∷ ds) (one_and h each) = q_demand h.no (all_quiet n (k + 1) ds each)

pub record QuietType (t : TypeExpression) : Type 0 where
  pub reads : (c : Context) → Quiet (t.read c)
  pub reads_group : (c : Context) → Quiet (t.grouped_read c)

pub record QuietExpression (e : Expression) : Type 0 where
  pub types : (c : Context) → Quiet (e.typed c)
  pub negates : (c : Context) → Quiet (e.negated c)

pub record QuietPattern (p : Pattern) : Type 0 where
  pub matches : (c : Context) (seen : List Name) → Quiet (p.matched c seen)

pub record QuietBinding (b : Binding) : Type 0 where
  pub pattern : QuietPattern b.pattern
  pub parameters : Each QuietPattern b.parameters
  pub annotation : IfThere QuietType b.annotation
  pub body : QuietExpression b.body

pub record QuietCase (a : Case) : Type 0 where
  pub pattern : QuietPattern a.pattern
  pub guard : IfThere QuietExpression a.guard
  pub body : QuietExpression a.body

pub record QuietField (f : Field) : Type 0 where
  pub value : IfThere QuietExpression f.value

pub record QuietFieldPattern (f : FieldPattern) : Type 0 where
  pub pattern : IfThere QuietPattern f.pattern

pub record QuietConstructor (a : ConstructorPart) : Type 0 where
  pub argument : IfThere QuietType a.argument

pub record QuietLabel (l : LabelPart) : Type 0 where
  pub body : QuietType l.body

pub data QuietTold : Told → Type 0 where
  of_constructors : {ks : List ConstructorPart} → Each QuietConstructor ks → QuietTold (constructors ks)
  of_labels : {ls : List LabelPart} → Each QuietLabel ls → QuietTold (labels ls)

pub data QuietRight : RightSide → Type 0 where
  of_another : {n : ℕ} {t : TypeExpression} {l : Option Tok} {told : Option Told} → QuietType t → IfThere QuietTold told → QuietRight (another n t l told)
  of_own : {r : Told} → QuietTold r → QuietRight (own r)

pub record QuietDeclaration (d : DeclarationPart) : Type 0 where
  pub right : IfThere QuietRight d.right

pub record QuietItem (i : Item) : Type 0 where
  pub asks : (c : Context) (seen : Seen) → Quiet (i.asks c seen)

-- type expressions
unresolved_quiet : (c : Context) (n : ℕ) (v : Variables) → Quiet (unresolved_in c n v)
unresolved_quiet c n (in_item i) = silence
unresolved_quiet c n (parameters ps) = q_same silence

pub no_type_quiet : (c : Context) (n : ℕ) → Quiet (unresolved c n)
no_type_quiet c n = unresolved_quiet c n c.variables

variable_quiet : (c : Context) (n : ℕ) (t : Tok) (v : Variables) → Quiet (variable_asks c n t v)
variable_quiet c n t (in_item i) = q_same silence
variable_quiet c n t (parameters ps) = by (index_from 0 t.name ps) refl
  where
    by : (o : Option ℕ) → index_from 0 t.name ps ≡ o → Quiet (variable_asks c n t (parameters ps))
    by None e = rw (e, variable_asks) (q_demand refl (no_type_quiet c n))
    by (Some j) e = rw (e, variable_asks) (q_demand refl (q_same silence))

pub tvar_quiet : (n : ℕ) (p : Place) (t : Option Tok) → QuietType (tvar n p t)
tvar_quiet n p None = record { reads = λ c. no_type_quiet c n; reads_group = λ c. no_type_quiet c n }
tvar_quiet n p (Some t) = record { reads = λ c. variable_quiet c n t c.variables; reads_group = λ c. variable_quiet c n t c.variables }

pub reads_all : (c : Context) (ts : List TypeExpression) → Each QuietType ts → Quiet (read_all c ts)
reads_all c [] no_one = silence
reads_all c (t ∷ ts) (one_and s each) = also (s.reads c) (reads_all c ts each)

declared_quiet : (c : Context) (n : ℕ) (t : Tok) (ns : List ℕ) (o : Option Declaration) → Quiet (declared_type c n t ns o)
declared_quiet c n t ns None = no_type_quiet c n
declared_quiet c n t ns (Some d) = q_demand refl (if_quiet (is_kept c n 1) (q_same silence) (no_type_quiet c n))

constructor_quiet : (c : Context) (n : ℕ) (p : Written) (ns : List ℕ) → Quiet (constructor_asks c n p ns)
constructor_quiet c n p ns = by p.last refl
  where
    by : (o : Option Tok) → p.last ≡ o → Quiet (constructor_asks c n p ns)
    by None e = rw (e, constructor_asks) (no_type_quiet c n)
    by (Some t) e = rw (e, constructor_asks) (q_demand refl (declared_quiet c n t ns _))

pub tcon_quiet : (n : ℕ) (q : Place) (p : Written) → QuietType (tcon n q p)
tcon_quiet n q p = record { reads = λ c. constructor_quiet c n p []; reads_group = λ c. constructor_quiet c n p [] }

pub tapp_quiet : (n : ℕ) (q : Place) (left : TypeExpression) (p : Written) → QuietType left → QuietType (tapp n q left p)
tapp_quiet n q left p s = record { reads = λ c. also (s.reads_group c) (constructor_quiet c n p left.grouped); reads_group = λ c. also (s.reads_group c) (constructor_quiet c n p left.grouped) }

parentheses_quiet : (c : Context) (n : ℕ) (q : Place) (ts : List TypeExpression) → Quiet (in_parentheses c n q ts)
parentheses_quiet c n q [] = silence
parentheses_quiet c n q (t ∷ []) = q_same silence
parentheses_quiet c n q (t ∷ u ∷ ts) = q_demand refl (no_type_quiet c n)

equal_quiet : (c : Context) (n : ℕ) (ts : List TypeExpression) → Quiet (equal_of_one c n ts)
equal_quiet c n [] = silence
equal_quiet c n (t ∷ []) = q_same silence
equal_quiet c n (t ∷ u ∷ ts) = silence

pub tparen_quiet : (n : ℕ) (q : Place) (ts : List TypeExpression) → Each QuietType ts → QuietType (tparen n q ts)
tparen_quiet n q ts each = record { reads = λ c. also (reads_all c ts each) (parentheses_quiet c n q ts); reads_group = λ c. also (reads_all c ts each) (equal_quiet c n ts) }

pub ttuple_quiet : (n : ℕ) (q : Place) (ts : List TypeExpression) → Each QuietType ts → QuietType (ttuple n q ts)
ttuple_quiet n q ts each = record { reads = λ c. also (reads_all c ts each) (q_same silence); reads_group = λ c. also (reads_all c ts each) (q_same silence) }

pub tarrow_quiet : (n : ℕ) (q : Place) (t u : TypeExpression) → QuietType t → QuietType u → QuietType (tarrow n q t u)
tarrow_quiet n q t u s z = record { reads = λ c. also (also (s.reads c) (z.reads c)) (q_same silence); reads_group = λ c. also (also (s.reads c) (z.reads c)) (q_same silence) }

-- patterns
pub matches_all : (c : Context) (seen : List Name) (ps : List Pattern) → Each QuietPattern ps → Quiet (matched_all c seen ps)
matches_all c seen [] no_one = silence
matches_all c seen (p ∷ ps) (one_and s each) = also (s.matches c seen) (matches_all c (seen ++ p.mentions) ps each)

matches_each : (c : Context) (seen : List Name) (ps : List Pattern) → Each QuietPattern ps → Quiet (matched_each c seen ps)
matches_each c seen [] no_one = silence
matches_each c seen (p ∷ ps) (one_and s each) = also (s.matches c seen) (matches_each c seen ps each)

pub over_quiet : (n : ℕ) (q : Place) (ps : List Pattern) (asked : Context → List Condition) → Each QuietPattern ps → ((c : Context) → Quiet (asked c)) → QuietPattern (over n q ps asked)
over_quiet n q ps asked each h = record { matches = λ c seen. also (matches_all c seen ps each) (h c) }

pub pname_quiet : (n : ℕ) (q : Place) (t : Option Tok) → QuietPattern (pname n q t)
pname_quiet n q None = record { matches = λ c seen. silence }
pname_quiet n q (Some t) = record { matches = λ c seen. q_demand refl silence }

constant_by_quiet : (negated : Bool) (s : Kind) (n : ℕ) (t : Tok) (c : Context) → Quiet (constant_by negated s n t c)
unfolding constant_by
constant_by_quiet negated int n t c = q_demand refl (q_same silence)
constant_by_quiet negated float n t c = q_same silence
constant_by_quiet negated char n t c = q_same silence
constant_by_quiet negated str n t c = q_same silence
constant_by_quiet negated unit n t c = q_same silence
constant_by_quiet negated true_word n t c = q_same silence
constant_by_quiet negated false_word n t c = q_same silence
constant_by_quiet negated nil n t c = q_same silence
constant_by_quiet negated _ n t c = silence

pub constant_quiet : (negated : Bool) (n : ℕ) (t : Option Tok) (c : Context) → Quiet (constant negated n t c)
constant_quiet negated n None c = silence
constant_quiet negated n (Some t) c = constant_by_quiet negated t.kind n t c

types_quiet : (c : Context) (t : Typ) (ns : List ℕ) → Quiet (map (λ m. same (type_at c m) t) ns)
types_quiet c t [] = silence
types_quiet c t (n ∷ ns) = q_same (types_quiet c t ns)

pub built_quiet : (c : Context) (n at : ℕ) (t : Tok) (given : ℕ) (b : Built) (nodes : List ℕ) (xs : List Condition) → Quiet xs → Quiet (with_built c n at t given b nodes xs)
built_quiet c n at t given b nodes xs h = q_demand refl (also h (types_quiet c (used_at c at b.result) nodes))

pub constructor_alone_quiet : (c : Context) (n : ℕ) (p : Written) → Quiet (constructor_alone c n p)
constructor_alone_quiet c n p = by p.last refl
  where
    found : (t : Tok) (o : Option Built) → Quiet (elim o [ None ↦ [] | Some b ↦ with_built c n n t 0 b (n ∷ []) [] ])
    found t None = silence
    found t (Some b) = built_quiet c n n t 0 b (n ∷ []) [] silence

    by : (o : Option Tok) → p.last ≡ o → Quiet (constructor_alone c n p)
    by None e = rw (e, constructor_alone) silence
    by (Some t) e = rw (e, constructor_alone) (q_demand refl (found t (built_by c n p t)))

pub argument_quiet : (n j : ℕ) (q : Place) (t : Typ) (o : Option Typ) → Quiet (argument_has n j q t o)
argument_quiet n j q t None = silence
argument_quiet n j q t (Some u) = q_demand refl silence

pub applied_quiet : (c : Context) (n : ℕ) (p : Written) (head : ℕ) (nodes : List ℕ) (xs : List Condition) (has : Option Typ → List Condition) → Quiet xs → ((o : Option Typ) → Quiet (has o)) → Quiet (applied_constructor c n p head nodes xs has)
applied_quiet c n p head nodes xs has h g = by p.last refl
  where
    found : (t : Tok) (o : Option Built) → Quiet (elim o [ None ↦ xs ++ of_one_type c head nodes | Some b ↦ with_built c n head t 1 b nodes (xs ++ has (argument_type c head (Some b))) ])
    found t None = also h (types_quiet c (type_at c head) nodes)
    found t (Some b) = built_quiet c n head t 1 b nodes (xs ++ has (argument_type c head (Some b))) (also h (g (argument_type c head (Some b))))

    by : (o : Option Tok) → p.last ≡ o → Quiet (applied_constructor c n p head nodes xs has)
    by None e = rw (e, applied_constructor) (q_treated (q_known (also h (types_quiet c (type_at c head) nodes))))
    by (Some t) e = rw (e, applied_constructor) (q_treated (q_known (q_demand refl (found t (built_by c n p t)))))

pub papp_quiet : (n : ℕ) (q : Place) (head p : Pattern) → QuietPattern p → QuietPattern (papp n q head p)
papp_quiet n q head p s = by head.constructor refl
  where
    by : (o : Option Written) → head.constructor ≡ o → QuietPattern (papp n q head p)
    by None e = rw (e, papp) (over_quiet n q (p ∷ []) (λ c. []) (one_and s no_one) (λ c. silence))
    by (Some path) e = rw (e, papp) (record {
      matches = λ c seen. applied_quiet c n path head.node (n ∷ head.node ∷ []) (p.matched c seen) (argument_has n 2 p.at (type_at c p.node)) (s.matches c seen) (argument_quiet n 2 p.at (type_at c p.node));
    })

pub pparen_quiet : (n : ℕ) (q : Place) (p : Pattern) (t : Option TypeExpression) → QuietPattern p → IfThere QuietType t → QuietPattern (pparen n q p t)
pparen_quiet n q p None s absent = over_quiet n q (p ∷ []) _ (one_and s no_one) (λ c. q_same silence)
pparen_quiet n q p (Some t) s (there r) = over_quiet n q (p ∷ []) _ (one_and s no_one) (λ c. also (also (r.reads c) (q_demand refl silence)) (q_same silence))

pub pas_quiet : (n : ℕ) (q : Place) (p : Pattern) (t : Option Tok) → QuietPattern p → QuietPattern (pas n q p t)
pas_quiet n q p None s = over_quiet n q (p ∷ []) _ (one_and s no_one) (λ c. q_same silence)
pas_quiet n q p (Some t) s = record { matches = λ c seen. also (also (s.matches c seen) (q_demand refl silence)) (q_same silence) }

pub has_quiet : (c : Context) (t : Typ) (ps : List Pattern) → Each NoEnd (map (λ p. (p.at, equal (type_at c p.node) t)) ps)
has_quiet c t [] = no_one
has_quiet c t (p ∷ ps) = one_and (record { no = refl }) (has_quiet c t ps)

common_quiet : (c : Context) (bs others : List Bound) → Each NoEnd (common_names c bs others)
common_quiet c [] others = no_one
common_quiet c (b ∷ bs) others = by (find_bound b.name others) (common_quiet c bs others)
  where
    by : (o : Option Bound) → Each NoEnd (common_names c bs others) → Each NoEnd (elim o [ None ↦ common_names c bs others | Some o ↦ (o.place, equal (o.has_type c) (b.has_type c)) ∷ common_names c bs others ])
    by None h = h
    by (Some o) h = one_and (record { no = refl }) h

differ_quiet : (q : Place) (o : Option Name) → Each NoEnd (sides_differ q o)
differ_quiet q None = no_one
differ_quiet q (Some n) = one_and (record { no = refl }) no_one

sides_quiet : (c : Context) (first : Pattern) (ps : List Pattern) → Each NoEnd (sides_beside c first ps)
sides_quiet c first [] = no_one
sides_quiet c first (p ∷ ps) =
    each_append (each_append (each_append (differ_quiet p.at (name_apart first.names p.names)) (common_quiet c first.names p.names)) (one_and (record { no = refl }) no_one)) (sides_quiet c first ps)

pub por_quiet : (n : ℕ) (q : Place) (first : Pattern) (ps : List Pattern) → QuietPattern first → Each QuietPattern ps → QuietPattern (por n q first ps)
por_quiet n q first ps s each = record { matches = λ c seen. also (also (matches_each c seen (first ∷ ps) (one_and s each)) (all_quiet n 0 (sides_beside c first ps) (sides_quiet c first ps))) (q_same silence) }

pub record_quiet : (c : Context) (n j : ℕ) (ps : List Written) → Quiet (ask_record c n j ps)
record_quiet c n j ps = by (first_lost c.env ps) refl (first_token ps) refl
  where
    by : (l : Option Tok) → first_lost c.env ps ≡ l → (o : Option Tok) → first_token ps ≡ o → Quiet (ask_record c n j ps)
    by (Some q) e o f = rw (e, ask_record) (q_demand refl silence)
    by None e None f = rw (e, f, ask_record) silence
    by None e (Some t) f = rw (e, f, ask_record) (q_demand refl silence)

pub once_quiet : (n k : ℕ) (seen : List Name) (p : Written) → Quiet (ask_once n k seen p)
once_quiet n k seen p = by p.last refl
  where
    by : (o : Option Tok) → p.last ≡ o → Quiet (ask_once n k seen p)
    by None e = rw (e, ask_once) silence
    by (Some t) e = rw (e, ask_once) (q_demand refl silence)

same_if : (t : Typ) (o : Option Typ) → Quiet (elim o [ None ↦ [] | Some u ↦ same t u ∷ [] ])
same_if t None = silence
same_if t (Some u) = q_same silence

equal_if : (n k : ℕ) (q : Place) (t : Typ) (o : Option Typ) → Quiet (elim o [ None ↦ [] | Some u ↦ demand (site n k) q (equal t u) ∷ [] ])
equal_if n k q t None = silence
equal_if n k q t (Some u) = q_demand refl silence

pun_quiet : (c : Context) (f : FieldPattern) (seen : List Name) (t : Option Typ) → Quiet (match_pun c f seen t)
pun_quiet c f seen t = by f.label.last refl
  where
    by : (o : Option Tok) → f.label.last ≡ o → Quiet (match_pun c f seen t)
    by None e = rw (e, match_pun) silence
    by (Some x) e = rw (e, match_pun) (q_demand refl (q_known (same_if (type_at c f.node) t)))

field_quiet : (c : Context) (n : ℕ) (is_found : Bool) (f : FieldPattern) (names seen : List Name) (t : Option Typ) → QuietFieldPattern f → Quiet (match_field c n is_found f names seen t)
field_quiet c n is_found f names seen t s = by f.pattern refl s.pattern
  where
    by : (o : Option Pattern) → f.pattern ≡ o → IfThere QuietPattern o → Quiet (match_field c n is_found f names seen t)
    by None e absent = rw (e, match_field) (q_treated (also (if_quiet is_found (once_quiet f.node 0 names f.label) silence) (pun_quiet c f seen t)))
    by (Some p) e (there z) = rw (e, match_field) (q_treated (also (if_quiet is_found (once_quiet f.node 0 names f.label) silence) (also (z.matches c seen) (equal_if f.node 1 p.at (type_at c p.node) t))))

fields_quiet : (c : Context) (n : ℕ) (found : Option Declaration) (fs : List FieldPattern) (names seen : List Name) → Each QuietFieldPattern fs → Quiet (match_fields c n found fs names seen)
fields_quiet c n found [] names seen no_one = silence
fields_quiet c n found (f ∷ fs) names seen (one_and s each) = also (field_quiet c n _ f names seen (field_type c n f.node found f.label) s) (fields_quiet c n found fs (names ++ name_in f.label) (seen ++ mentions_in_field f) each)

same_record : (c : Context) (n : ℕ) (o : Option Declaration) → Quiet (elim o [ None ↦ [] | Some d ↦ same (type_at c n) (used_at c n (type_of d)) ∷ [] ])
same_record c n None = silence
same_record c n (Some d) = q_same silence

pub precord_quiet : (n : ℕ) (q : Place) (fs : List FieldPattern) → Each QuietFieldPattern fs → QuietPattern (precord n q fs)
precord_quiet n q fs each = record {
  matches = λ c seen. let ls : List Written = labels_of_fields fs in
      also (also (record_quiet c n 0 ls) (fields_quiet c n (kept_record c n 0 ls) fs [] seen each)) (same_record c n (kept_record c n 0 ls));
}
