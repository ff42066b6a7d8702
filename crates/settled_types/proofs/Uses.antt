-- What is found in scope is made of some constructors alone, so what is left of its types in a use are its types in a use of what is left.
use Rattle.std.proofs.Common.{◌≡◌, ◌∙◌, ℕ, suc, Bool, true, false, List, [], ◌∷◌, Option, Some, None, option_map, refl, sym, ap, subst, if◌then◌else◌, arith}
use Rattle.std.proofs.Math.Path.{fun_ext}
use Rattle.token_model.specs.Kinds.{Tok}
use Rattle.type_model.specs.Types.{Path, Typ, occurs, types_of}
use Rattle.type_print_model.specs.Printing.{mentions}
use Rattle.signature_model.specs.Declarations.{Name, Declaration, Label, Shape, Opaque, Variant, Labels, type_of}
use Rattle.signature_model.specs.Components.{same_name}
use Rattle.signature_model.specs.Entries.{Referent, a_value, a_constructor, an_exception, a_label, a_type, a_module, a_module_type, constructor_kind, label_kind, type_kind}
use Rattle.signature_model.specs.Lookups.{Found, an_entry, a_hole, nothing}
use Rattle.signature_model.specs.Changes.{argument}
use Rattle.signature_model.specs.Matching.{used}
use Rattle.typing_model.specs.Contexts.{Choice, type_at, letter, filled_at}
use Rattle.typing_model.specs.Demands.{site}
use Rattle.typing_model.specs.Parts.{Written}
use Rattle.typing_model.specs.Names.{names_of, then_by, referent_of, entry_of, declaration_in, label_in, Built, built_in, used_at, found_by}
use Rattle.typing_model.specs.BuiltIns.{exn_type}
use Rattle.typing_model.specs.Records.{labels_of, labels_in, find_label, label_argument, label_filled, used_in_record, field_type, declaration_found, record_found, first_token}
use Rattle.typing_model.specs.Patterns.{built_by, argument_type, kept_record}
use Rattle.typing_model.specs.Expressions.{label_found}
use Rattle.typing_model.specs.TypeExpressions.{applied_to, types_of_nodes}
use Rattle.typing_laws.proofs.Bools.{and_cases, and_both}
use Rattle.settled_types.specs.Made.{is_made_of, option_made_of, labels_made_of, shape_made_of, declaration_made_of, referent_made_of, Constructors}
use Rattle.settled_types.proofs.Erasing.{erase_used, erase_argument, erase_types}
use Rattle.settled_types.proofs.Found.{IsMade, lookup_made, record_made}
use Rattle.settled_types.proofs.One.{lookup_one, record_one}
use Rattle.settled_types.proofs.Goes.{rest, Pair, left, right}

-- a type of a declaration, over the letters of a node
pub used_left : {w : Constructors} (c : Pair w) (n : ℕ) (t : Typ) → is_made_of w.all t ≡ true → used_at (right c) n t ≡ rest w (used_at (left c) n t)
used_left {w} c n t h = sym (erase_used w.all (letter (left c) n) (c.choice.filled n) t h)

-- and over arguments
pub applied_left : {w : Constructors} (c : Pair w) (n : ℕ) (d : Declaration) (ns : List ℕ) → is_made_of w.all (type_of d) ≡ true → applied_to (right c) n d ns ≡ rest w (applied_to (left c) n d ns)
applied_left {w} c n d ns h =
    sym (erase_used w.all (argument (types_of (types_of_nodes (left c) ns))) (filled_at (left c) n) (type_of d) h ∙
    ap (λ s. used s (filled_at (right c) n) (type_of d)) (fun_ext (erase_argument w.all (types_of (types_of_nodes (left c) ns))) ∙ ap argument (erase_types w.all (type_at (left c)) ns)))

-- a declaration that may be found is made
abbrev pub IsDeclared : Constructors → Option Declaration → Type 0
IsDeclared w None = Unit {0}
IsDeclared w (Some d) = declaration_made_of w.all d ≡ true

declared_in : (w : Constructors) (r : Referent) → referent_made_of w.all r ≡ true → IsDeclared w (declaration_in r)
declared_in w (a_value s) h = tt
declared_in w (a_constructor d k) h = tt
declared_in w (an_exception o) h = tt
declared_in w (a_label d l) h = tt
declared_in w (a_type d) h = h
declared_in w (a_module s) h = tt
declared_in w (a_module_type t) h = tt

declared_found : (w : Constructors) (f : Found) → IsMade w.all f → IsDeclared w (then_by (referent_of f) declaration_in)
declared_found w (an_entry e) h = declared_in w e.stands_for h
declared_found w a_hole h = tt
declared_found w nothing h = tt

if_declared : (w : Constructors) (b : Bool) (o : Option Declaration) → IsDeclared w o → IsDeclared w (if b then o else None)
if_declared w true o h = h
if_declared w false o h = tt

pub type_declared : {w : Constructors} (c : Pair w) (n : ℕ) (p : Written) (t : Tok) → IsDeclared w (if c.kept (site n 0) then then_by (referent_of (found_by (left c) type_kind p t)) declaration_in else None)
type_declared {w} c n p t = if_declared w (c.kept (site n 0)) (then_by (referent_of (found_by (left c) type_kind p t)) declaration_in) (declared_found w (found_by (left c) type_kind p t) (lookup_made w.all c.names (names_of p.qualifiers) type_kind t.name refl))

-- so is a constructor's result and argument
abbrev pub IsBuilt : Constructors → Option Built → Type 0
IsBuilt w None = Unit {0}
IsBuilt w (Some b) = (is_made_of w.all b.result ≡ true) × (option_made_of w.all b.argument ≡ true)

exn_made : (w : Constructors) → is_made_of w.all exn_type ≡ true
exn_made w = and_both _ true (w.built_in 6 (omega arith)) refl

built_made : (w : Constructors) (r : Referent) → referent_made_of w.all r ≡ true → IsBuilt w (built_in exn_type r)
built_made w (a_value s) h = tt
built_made w (a_constructor d k) h = and_cases (is_made_of w.all (type_of d)) (option_made_of w.all k.argument) h
built_made w (an_exception o) h = (exn_made w, h)
built_made w (a_label d l) h = tt
built_made w (a_type d) h = tt
built_made w (a_module s) h = tt
built_made w (a_module_type t) h = tt

built_found : (w : Constructors) (f : Found) → IsMade w.all f → IsBuilt w (then_by (referent_of f) (built_in exn_type))
built_found w (an_entry e) h = built_made w e.stands_for h
built_found w a_hole h = tt
built_found w nothing h = tt

if_built : (w : Constructors) (b : Bool) (o : Option Built) → IsBuilt w o → IsBuilt w (if b then o else None)
if_built w true o h = h
if_built w false o h = tt

pub constructor_built : {w : Constructors} (c : Pair w) (n : ℕ) (p : Written) (t : Tok) → IsBuilt w (built_by (left c) n p t)
constructor_built {w} c n p t = if_built w (c.kept (site n 0)) (then_by (referent_of (found_by (left c) constructor_kind p t)) (built_in exn_type)) (built_found w (found_by (left c) constructor_kind p t) (lookup_made w.all c.names (names_of p.qualifiers) constructor_kind t.name refl))

-- and a label
abbrev pub IsLabelled : Constructors → Option (Declaration × Label) → Type 0
IsLabelled w None = Unit {0}
IsLabelled w (Some r) = (declaration_made_of w.all r.0 ≡ true) × (is_made_of w.all r.1.body ≡ true)

labelled : (w : Constructors) (r : Referent) → referent_made_of w.all r ≡ true → IsLabelled w (label_in r)
labelled w (a_value s) h = tt
labelled w (a_constructor d k) h = tt
labelled w (an_exception o) h = tt
labelled w (a_label d l) h = and_cases (declaration_made_of w.all d) (is_made_of w.all l.body) h
labelled w (a_type d) h = tt
labelled w (a_module s) h = tt
labelled w (a_module_type t) h = tt

labelled_found : (w : Constructors) (f : Found) → IsMade w.all f → IsLabelled w (then_by (referent_of f) label_in)
labelled_found w (an_entry e) h = labelled w e.stands_for h
labelled_found w a_hole h = tt
labelled_found w nothing h = tt

pub label_labelled : {w : Constructors} (c : Pair w) (p : Written) → IsLabelled w (label_found (left c) p)
label_labelled {w} c p = by p.last
  where
    by : (o : Option Tok) → IsLabelled w (then_by o (λ t. then_by (referent_of (found_by (left c) label_kind p t)) label_in))
    by None = tt
    by (Some t) = labelled_found w (found_by (left c) label_kind p t) (lookup_made w.all c.names (names_of p.qualifiers) label_kind t.name refl)

-- and the declaration of a record
first_declared : (w : Constructors) (o : Option (Declaration × Label)) → IsLabelled w o → IsDeclared w (option_map (λ r. r.0) o)
first_declared w None h = tt
first_declared w (Some r) h = h.0

record_declared : (w : Constructors) (f : Found) → IsMade w.all f → IsDeclared w (then_by (entry_of f) (λ e. option_map (λ r. r.0) (label_in e.stands_for)))
record_declared w (an_entry e) h = first_declared w (label_in e.stands_for) (labelled w e.stands_for h)
record_declared w a_hole h = tt
record_declared w nothing h = tt

pub found_declared : {w : Constructors} (c : Pair w) (ps : List Written) → IsDeclared w (declaration_found (left c) ps)
found_declared {w} c ps = record_declared w (record_found (left c) ps) (record_made w.all c.names (labels_of ps))

pub kept_declared : {w : Constructors} (c : Pair w) (n k : ℕ) (ps : List Written) → IsDeclared w (kept_record (left c) n k ps)
kept_declared {w} c n k ps = by (c.kept (site n k)) (first_token ps)
  where
    by : (b : Bool) (t : Option Tok) → IsDeclared w (if b then declaration_found (left c) ps else elim t [ None ↦ declaration_found (left c) ps | Some t ↦ None ])
    by true t = found_declared c ps
    by false None = found_declared c ps
    by false (Some t) = tt

-- a type that may be there, and what is left of it
pub data BothThere (w : Constructors) : Option Typ → Option Typ → Type 0 where
  neither : BothThere w None None
  both : {t u : Typ} → u ≡ rest w t → BothThere w (Some t) (Some u)

-- as the argument of a constructor
pub arguments_there : {w : Constructors} (c : Pair w) (n : ℕ) (b : Built) → IsBuilt w (Some b) → BothThere w (argument_type (left c) n (Some b)) (argument_type (right c) n (Some b))
arguments_there {w} c n b h = by b.argument h.1
  where
    by : (o : Option Typ) → option_made_of w.all o ≡ true → BothThere w (option_map (used_at (left c) n) o) (option_map (used_at (right c) n) o)
    by None e = neither
    by (Some t) e = both (used_left c n t e)

-- and the type of a field
label_made : (w : Constructors) (n : Name) (ls : List Label) → labels_made_of w.all ls ≡ true → (l : Label) → find_label n ls ≡ Some l → is_made_of w.all l.body ≡ true
label_made w n [] h l e = absurd (cc)
label_made w n (m ∷ ls) h l e = let (p, q) = and_cases (is_made_of w.all m.body) (labels_made_of w.all ls) h in by (same_name n m.name) p (label_made w n ls q l) e
  where
    by : (b : Bool) → is_made_of w.all m.body ≡ true → (find_label n ls ≡ Some l → is_made_of w.all l.body ≡ true) → (if b then Some m else find_label n ls) ≡ Some l → is_made_of w.all l.body ≡ true
    by true p go e = let same : m ≡ l = cc in subst (λ (z : Label). is_made_of w.all z.body ≡ true) same p
    by false p go e = go e

shape_labels : (w : Constructors) (s : Shape) → shape_made_of w.all s ≡ true → labels_made_of w.all (labels_in s) ≡ true
shape_labels w Opaque h = refl
shape_labels w (Variant ks) h = refl
shape_labels w (Labels ls) h = h

-- a type of a label as it is used in a record
label_left : {w : Constructors} (c : Pair w) (n m : ℕ) (owner t : Typ) → is_made_of w.all t ≡ true → used_in_record n m owner t (right c).chosen ≡ rest w (used_in_record n m owner t (left c).chosen)
label_left {w} c n m owner t h = (λ i. used (λ k. argument_left k i) (λ o. filled_left o i) t) ∙ sym (erase_used w.all (label_argument c.choice n m owner) (label_filled c.choice n m owner) t h)
  where
    either : (b : Bool) (x y : Typ) → (if b then rest w x else rest w y) ≡ rest w (if b then x else y)
    either true x y = refl
    either false x y = refl

    argument_left : (k : ℕ) → label_argument (right c).chosen n m owner k ≡ rest w (label_argument c.choice n m owner k)
    argument_left k = either (occurs k owner) (c.choice.letter n k) (c.choice.letter m (suc k))

    filled_left : (o : Path) → label_filled (right c).chosen n m owner o ≡ rest w (label_filled c.choice n m owner o)
    filled_left o = either (mentions o owner) (c.choice.filled n o) (c.choice.filled m o)

pub fields_there : {w : Constructors} (c : Pair w) (n m : ℕ) (found : Option Declaration) (p : Written) → IsDeclared w found → BothThere w (field_type (left c) n m found p) (field_type (right c) n m found p)
fields_there c n m None p h = neither
fields_there {w} c n m (Some d) p h = by p.last
  where
    used_here : Choice → Label → Typ
    used_here ch l = used_in_record n m (type_of d) l.body ch

    of_label : (o : Option Label) → ((l : Label) → o ≡ Some l → is_made_of w.all l.body ≡ true) → BothThere w (option_map (used_here (left c).chosen) o) (option_map (used_here (right c).chosen) o)
    of_label None g = neither
    of_label (Some l) g = both (label_left c n m (type_of d) l.body (g l refl))

    by : (o : Option Tok) → BothThere w (then_by o (λ t. option_map (used_here (left c).chosen) (find_label t.name (labels_in d.shape)))) (then_by o (λ t. option_map (used_here (right c).chosen) (find_label t.name (labels_in d.shape))))
    by None = neither
    by (Some t) = of_label (find_label t.name (labels_in d.shape)) (label_made w t.name (labels_in d.shape) (shape_labels w d.shape (and_cases (is_made_of w.all (type_of d)) (shape_made_of w.all d.shape) h).1))

-- the type of a declaration is made where the declaration is
pub type_made : (w : Constructors) (d : Declaration) → declaration_made_of w.all d ≡ true → is_made_of w.all (type_of d) ≡ true
type_made w d h = (and_cases (is_made_of w.all (type_of d)) (shape_made_of w.all d.shape) h).0

-- The constructor that is found is one in both contexts.
pub built_one : {w : Constructors} (c : Pair w) (n : ℕ) (p : Written) (t : Tok) → built_by (left c) n p t ≡ built_by (right c) n p t
built_one {w} c n p t = ap (λ f. if c.kept (site n 0) then then_by (referent_of f) (built_in exn_type) else None) (lookup_one w.all (names_of p.qualifiers) constructor_kind t.name refl c.names)

-- so is the label
pub label_one : {w : Constructors} (c : Pair w) (p : Written) → label_found (left c) p ≡ label_found (right c) p
label_one {w} c p = by p.last
  where
    by : (o : Option Tok) → then_by o (λ t. then_by (referent_of (found_by (left c) label_kind p t)) label_in) ≡ then_by o (λ t. then_by (referent_of (found_by (right c) label_kind p t)) label_in)
    by None = refl
    by (Some t) = ap (λ f. then_by (referent_of f) label_in) (lookup_one w.all (names_of p.qualifiers) label_kind t.name refl c.names)

-- and the record
declaration_one : {w : Constructors} (c : Pair w) (ps : List Written) → declaration_found (left c) ps ≡ declaration_found (right c) ps
declaration_one {w} c ps = ap (λ f. then_by (entry_of f) (λ e. option_map (λ r. r.0) (label_in e.stands_for))) (record_one w.all (labels_of ps) c.names)

pub kept_record_one : {w : Constructors} (c : Pair w) (n j : ℕ) (ps : List Written) → kept_record (left c) n j ps ≡ kept_record (right c) n j ps
kept_record_one c n j ps = ap (λ o. if c.kept (site n j) then o else elim (first_token ps) [ None ↦ o | Some t ↦ None ]) (declaration_one c ps)
