-- Declarations of types make the same demands, and declare the same but for types.
use Rattle.std.proofs.Common.{◌≡◌, ℕ, Bool, true, false, List, [], ◌∷◌, map, filter_map, reverse, length, Option, Some, None, option_map, refl, ap, if◌then◌else◌}
use Rattle.std.proofs.Math.Path.{fun_ext}
use Rattle.std.specs.List.{cons_option}
use Rattle.token_model.specs.Kinds.{Tok}
use Rattle.type_model.specs.Types.{Typ}
use Rattle.signature_model.specs.Declarations.{Name, in_text, Own, Is, Constructor, Label, Shape, Opaque, Variant, Labels, Declaration, defined_type, type_of}
use Rattle.signature_model.specs.Entries.{Environment, entry, a_constructor, a_label, an_exception, entries_of_shape}
use Rattle.signature_model.specs.Records.{origin_of}
use Rattle.typing_model.specs.Demands.{site, differs, test, agrees, Condition}
use Rattle.typing_model.specs.Contexts.{Context, parameters, under, type_at, ask}
use Rattle.typing_model.specs.Parts.{TypeExpression, ConstructorPart, LabelPart, Told, constructors, labels, RightSide, another, own, DeclarationPart, place_of}
use Rattle.typing_model.specs.Patterns.{ask_all}
use Rattle.typing_model.specs.Declarations.{constructor_of, label_of, variant_of, shape_of, leads_to, renamed, names_itself, token_name, definition_of, shape_in, declaration_of, type_entry, entries_of_part, entries_of_group, names_of_types, names_of_tokens, new_tokens, names_asked, read_optional, constructors_read, labels_read, constructors_new, labels_new, shape_asks, told_of, reexport_asked, right_asks, declaration_asks, declarations_ask, cycles_asked, group_asks, exception_asks, entries_of_exception}
use Rattle.typing_laws.proofs.Steady.{Each, no_one, one_and, IfThere, absent, there}
use Rattle.demand_laws.proofs.Alike.{Same, alone, one, at_treated, behind, along, BothThere, neither, both, Lists, no_pair, pair_and, ConstructorAlike, LabelAlike, ShapeAlike, opaque, variants, records, DeclarationAlike, two_exceptions, two_constructors, two_labels, two_types, NamesAlike, no_names, next, in_front, turned, Two, left, right}
use Rattle.demand_laws.proofs.Types.{AlikeType}
use Rattle.demand_laws.specs.Agreeing.{AgreeRight, AgreeOn}

-- the parts of declarations
pub record AlikeConstructor (k : ConstructorPart) : Type 0 where
  pub argument : IfThere AlikeType k.argument

pub record AlikeLabel (l : LabelPart) : Type 0 where
  pub body : AlikeType l.body

pub data AlikeTold : Told → Type 0 where
  of_constructors : {ks : List ConstructorPart} → Each AlikeConstructor ks → AlikeTold (constructors ks)
  of_labels : {ls : List LabelPart} → Each AlikeLabel ls → AlikeTold (labels ls)

pub data AlikeRight : RightSide → Type 0 where
  of_another : {n : ℕ} {t : TypeExpression} {l : Option Tok} {told : Option Told} → AlikeType t → IfThere AlikeTold told → AlikeRight (another n t l told)
  of_own : {r : Told} → AlikeTold r → AlikeRight (own r)

pub record AlikeDeclaration (d : DeclarationPart) : Type 0 where
  pub right : IfThere AlikeRight d.right

-- both contexts in a declaration with these parameters
abbrev pub over_parameters : List Name → Two → Two
over_parameters ps c = record { first = record c.first { variables = parameters ps }; env = c.env; choice = c.choice; names = c.names }

optional_alike : (c : Two) (t : Option TypeExpression) → IfThere AlikeType t → Same (read_optional (left c) t) (read_optional (right c) t)
optional_alike c None absent = alone (λ k. refl)
optional_alike c (Some t) (there s) = s.reads c

constructors_alike : (c : Two) (ks : List ConstructorPart) → Each AlikeConstructor ks → Same (constructors_read (left c) ks) (constructors_read (right c) ks)
constructors_alike c [] no_one = alone (λ k. refl)
constructors_alike c (k ∷ ks) (one_and s each) = at_treated (behind (optional_alike c k.argument s.argument) (constructors_alike c ks each))

labels_alike : (c : Two) (ls : List LabelPart) → Each AlikeLabel ls → Same (labels_read (left c) ls) (labels_read (right c) ls)
labels_alike c [] no_one = alone (λ k. refl)
labels_alike c (l ∷ ls) (one_and s each) = at_treated (behind (s.body.reads c) (labels_alike c ls each))

shape_alike : (c : Two) (r : Option Told) → IfThere AlikeTold r → Same (shape_asks (left c) r) (shape_asks (right c) r)
shape_alike c None absent = alone (λ k. refl)
shape_alike c (Some (constructors ks)) (there (of_constructors each)) = behind (constructors_alike c ks each) (one (constructors_new [] ks))
shape_alike c (Some (labels ls)) (there (of_labels each)) = behind (labels_alike c ls each) (one (labels_new [] ls))

-- whether a re-export names itself doesn't depend on the types
renamed_alike : (c : Two) (all : List DeclarationPart) (r : Option RightSide) → renamed (left c) all r ≡ renamed (right c) all r
renamed_alike c all None = refl
renamed_alike c all (Some (another n t l None)) = refl
renamed_alike c all (Some (another n t l (Some k))) = refl
renamed_alike c all (Some (own r)) = refl

itself_alike : (c : Two) (all : List DeclarationPart) (x : Option Tok) (ns : List Name) → names_itself (left c) all x ns ≡ names_itself (right c) all x ns
itself_alike c all None ns = refl
itself_alike c all (Some t) ns = ap (λ reads. leads_to (length all) reads all t.name ns) (fun_ext (renamed_alike c all))

-- whatever a re-export asks, it is one demand with one complaint
reexport_alike : (c d : Context) (b : Bool) (n arity : ℕ) (t : TypeExpression) (x : Name) (s z : Shape) → Same (reexport_asked c b n arity t x s) (reexport_asked d b n arity t x z)
reexport_alike c d true n arity t x s z = alone (λ k. refl)
reexport_alike c d false n arity t x s z = by (told_of c.env (type_at c t.node)) (told_of d.env (type_at d t.node))
  where
    by : (o p : Option Shape) → Same (elim o [ None ↦ ask n 0 t.at (test (differs x) true) | Some actual ↦ ask n 0 t.at (agrees (differs x) arity actual s) ])
        (elim p [ None ↦ ask n 0 t.at (test (differs x) true) | Some actual ↦ ask n 0 t.at (agrees (differs x) arity actual z) ])
    by None None = alone (λ k. refl)
    by None (Some a) = alone (λ k. refl)
    by (Some a) None = alone (λ k. refl)
    by (Some a) (Some e) = alone (λ k. refl)

-- what is asked of a re-export
abbrev told_asked : Context → Bool → ℕ → ℕ → TypeExpression → Option Tok → Option Told → List Condition
told_asked c b arity n t l k = elim k [ None ↦ [] | Some r ↦ reexport_asked c b n arity t (token_name l) (shape_of c r) ]

told_alike : (c : Two) (b : Bool) (arity n : ℕ) (t : TypeExpression) (l : Option Tok) (k : Option Told) → Same (told_asked (left c) b arity n t l k) (told_asked (right c) b arity n t l k)
told_alike c b arity n t l None = alone (λ k. refl)
told_alike c b arity n t l (Some r) = reexport_alike (left c) (right c) b n arity t (token_name l) (shape_of (left c) r) (shape_of (right c) r)

right_alike : (c : Two) (all : List DeclarationPart) (x : Option Tok) (arity : ℕ) (r : Option RightSide) → IfThere AlikeRight r → Same (right_asks (left c) all x arity r) (right_asks (right c) all x arity r)
right_alike c all x arity None absent = alone (λ k. refl)
right_alike c all x arity (Some (another n t l k)) (there (of_another s z)) =
    at_treated (behind (behind (s.reads c) (shape_alike c k z))
    (along (λ b. told_asked (left c) b arity n t l k) (λ b. told_asked (right c) b arity n t l k) (itself_alike c all x t.mentions) (told_alike c (names_itself (left c) all x t.mentions) arity n t l k)))
right_alike c all x arity (Some (own r)) (there (of_own s)) = shape_alike c (Some r) (there s)

declaration_alike : (c : Two) (all : List DeclarationPart) (d : DeclarationPart) → AlikeDeclaration d → Same (declaration_asks (left c) all d) (declaration_asks (right c) all d)
declaration_alike c all d s =
    at_treated (behind (one (ask_all d.node 1 (new_tokens [] d.head.parameters))) (right_alike (over_parameters (names_of_tokens d.head.parameters) c) all d.head.name (length d.head.parameters) d.right s.right))

declarations_alike : (c : Two) (all ds : List DeclarationPart) → Each AlikeDeclaration ds → Same (declarations_ask (left c) all ds) (declarations_ask (right c) all ds)
declarations_alike c all [] no_one = alone (λ k. refl)
declarations_alike c all (d ∷ ds) (one_and s each) = behind (declaration_alike c all d s) (declarations_alike c all ds each)

-- the constructors and labels that are declared
constructors_made : (c : Two) (ks : List ConstructorPart) → Lists ConstructorAlike (filter_map (constructor_of (left c)) ks) (filter_map (constructor_of (right c)) ks)
constructors_made c [] = no_pair
constructors_made c (k ∷ ks) = by k.name (argument k.argument) (constructors_made c ks)
  where
    argument : (o : Option TypeExpression) → BothThere (option_map (λ a. type_at (left c) a.node) o) (option_map (λ a. type_at (right c) a.node) o)
    argument None = neither
    argument (Some a) = both

    by : (o : Option Tok) {p q : Option Typ} → BothThere p q → Lists ConstructorAlike (filter_map (constructor_of (left c)) ks) (filter_map (constructor_of (right c)) ks) →
        Lists ConstructorAlike (cons_option (option_map (λ t. record { name = t.name; place = in_text (place_of t); argument = p }) o) (filter_map (constructor_of (left c)) ks))
        (cons_option (option_map (λ t. record { name = t.name; place = in_text (place_of t); argument = q }) o) (filter_map (constructor_of (right c)) ks))
    by None h rest = rest
    by (Some t) h rest = pair_and (record { name = refl; argument = h }) rest

labels_made : (c : Two) (ls : List LabelPart) → Lists LabelAlike (filter_map (label_of (left c)) ls) (filter_map (label_of (right c)) ls)
labels_made c [] = no_pair
labels_made c (l ∷ ls) = by l.name (labels_made c ls)
  where
    by : (o : Option Tok) → Lists LabelAlike (filter_map (label_of (left c)) ls) (filter_map (label_of (right c)) ls) →
        Lists LabelAlike (cons_option (option_map (λ t. record { name = t.name; place = in_text (place_of t); is_mutable = l.is_mutable; body = type_at (left c) l.body.node }) o) (filter_map (label_of (left c)) ls))
        (cons_option (option_map (λ t. record { name = t.name; place = in_text (place_of t); is_mutable = l.is_mutable; body = type_at (right c) l.body.node }) o) (filter_map (label_of (right c)) ls))
    by None rest = rest
    by (Some t) rest = pair_and (record { name = refl; is_mutable = refl }) rest

variant_alike : {ks ms : List Constructor} → Lists ConstructorAlike ks ms → ShapeAlike (variant_of ks) (variant_of ms)
variant_alike no_pair = opaque
variant_alike (pair_and a h) = variants (pair_and a h)

told_shape : (c : Two) (r : Told) → ShapeAlike (shape_of (left c) r) (shape_of (right c) r)
told_shape c (constructors ks) = variant_alike (constructors_made c ks)
told_shape c (labels ls) = records (labels_made c ls)

right_shape : (c : Two) (r : Option RightSide) → ShapeAlike (shape_in (left c) r) (shape_in (right c) r)
right_shape c None = opaque
right_shape c (Some (another n t l None)) = opaque
right_shape c (Some (another n t l (Some r))) = told_shape c r
right_shape c (Some (own r)) = told_shape c r

-- so a declaration is one but for types
declared_alike : (c : Two) (all : List DeclarationPart) (d : DeclarationPart) → DeclarationAlike (declaration_of (left c) all d) (declaration_of (right c) all d)
declared_alike c all d = record { arity = refl; shape = right_shape c d.right }

-- two declarations are of one origin where they have labels
abbrev OneOrigin : Declaration → Declaration → Shape → Type 0
OneOrigin d e Opaque = Unit {0}
OneOrigin d e (Variant ks) = Unit {0}
OneOrigin d e (Labels ls) = origin_of (type_of d) ≡ origin_of (type_of e)

variant_origin : (d e : Declaration) (ks : List Constructor) → OneOrigin d e (variant_of ks)
variant_origin d e [] = tt
variant_origin d e (k ∷ ks) = tt

-- a declaration by its right side
abbrev declared : Context → List DeclarationPart → ℕ → ℕ → Option RightSide → Declaration
declared c all arity node r = record { arity = arity; definition = definition_of c all node r; shape = shape_in c r }

right_origin : (c : Two) (all : List DeclarationPart) (arity node : ℕ) (r : Option RightSide) → AgreeRight c.first.chosen c.choice r → OneOrigin (declared (left c) all arity node r) (declared (right c) all arity node r) (shape_in (left c) r)
right_origin c all arity node None h = tt
right_origin c all arity node (Some (another n t l None)) h = tt
right_origin c all arity node (Some (another n t l (Some (constructors ks)))) h =
    variant_origin (declared (left c) all arity node (Some (another n t l (Some (constructors ks))))) (declared (right c) all arity node (Some (another n t l (Some (constructors ks))))) (filter_map (constructor_of (left c)) ks)
right_origin c all arity node (Some (another n t l (Some (labels ls)))) h = by (c.first.kept (site n 0))
  where
    by : (b : Bool) → origin_of (defined_type arity (if b then Is (type_at (left c) t.node) else Own (node ∷ []))) ≡ origin_of (defined_type arity (if b then Is (type_at (right c) t.node) else Own (node ∷ [])))
    by true = h
    by false = refl
right_origin c all arity node (Some (own (constructors ks))) h = variant_origin (declared (left c) all arity node (Some (own (constructors ks)))) (declared (right c) all arity node (Some (own (constructors ks)))) (filter_map (constructor_of (left c)) ks)
right_origin c all arity node (Some (own (labels ls))) h = refl

-- the entries of two declarations
constructor_entries : (d e : Declaration) {ks ms : List Constructor} → Lists ConstructorAlike ks ms → NamesAlike (map (λ k. entry k.name k.place (a_constructor d k)) ks) (map (λ k. entry k.name k.place (a_constructor e k)) ms)
constructor_entries d e no_pair = no_names
constructor_entries d e (pair_and a h) = next (record { name = a.name; stands = two_constructors a.argument }) (constructor_entries d e h)

label_entries : (d e : Declaration) → origin_of (type_of d) ≡ origin_of (type_of e) → DeclarationAlike d e → {ls ms : List Label} → Lists LabelAlike ls ms → NamesAlike (map (λ l. entry l.name l.place (a_label d l)) ls) (map (λ l. entry l.name l.place (a_label e l)) ms)
label_entries d e o s no_pair = no_names
label_entries d e o s (pair_and a h) = next (record { name = a.name; stands = two_labels o s a }) (label_entries d e o s h)

shape_entries : (d e : Declaration) {s z : Shape} → DeclarationAlike d e → ShapeAlike s z → OneOrigin d e s → NamesAlike (entries_of_shape d s) (entries_of_shape e z)
shape_entries d e a opaque o = no_names
shape_entries d e a (variants h) o = constructor_entries d e h
shape_entries d e a (records h) o = label_entries d e o a h

named_entry : {d e : Declaration} → DeclarationAlike d e → (t : Option Tok) → NamesAlike (type_entry d t) (type_entry e t)
named_entry a None = no_names
named_entry a (Some t) = next (record { name = refl; stands = two_types a }) no_names

part_entries : (c : Two) (all : List DeclarationPart) (d : DeclarationPart) → AgreeRight c.first.chosen c.choice d.right → NamesAlike (entries_of_part (left c) all d) (entries_of_part (right c) all d)
part_entries c all d h =
    in_front (named_entry (declared_alike c all d) d.head.name)
    (shape_entries (declaration_of (left c) all d) (declaration_of (right c) all d) (declared_alike c all d) (right_shape c d.right) (right_origin c all (length d.head.parameters) d.node d.right h))

group_entries : (c : Two) (all ds : List DeclarationPart) → AgreeOn c.first.chosen c.choice ds → NamesAlike (entries_of_group (left c) all ds) (entries_of_group (right c) all ds)
group_entries c all [] h = no_names
group_entries c all (d ∷ ds) h = in_front (part_entries c all d h.0) (group_entries c all ds h.1)

-- So a group declares the same but for types, where the choices agree on what it re-exports.
pub group_added : (c : Two) (ds : List DeclarationPart) → AgreeOn c.first.chosen c.choice ds → NamesAlike (reverse (entries_of_group (left c) ds ds)) (reverse (entries_of_group (right c) ds ds))
group_added c ds h = turned (group_entries c ds ds h)

-- the names of its types
types_named : (c : Two) (all ds : List DeclarationPart) {E F : Environment} → NamesAlike E F → NamesAlike (names_of_types (left c) all ds E) (names_of_types (right c) all ds F)
types_named c all [] h = h
types_named c all (d ∷ ds) h = types_named c all ds (in_front (named_entry (declared_alike c all d) d.head.name) h)

-- both contexts inside a group
abbrev inside_group : Two → List DeclarationPart → Two
inside_group c ds = record { first = under (names_of_types (left c) ds ds c.first.env) (left c); env = names_of_types (right c) ds ds c.env; choice = c.choice; names = types_named c ds ds c.names }

-- It makes the same demands.
pub group_alike : (c : Two) (seen : List Name) (ds : List DeclarationPart) → Each AlikeDeclaration ds → Same (group_asks (left c) seen ds) (group_asks (right c) seen ds)
group_alike c seen ds each = behind (behind (one (names_asked seen ds)) (declarations_alike (inside_group c ds) ds ds each)) (one (cycles_asked ds ds))

-- So does an exception, which adds the same but for its type.
pub exception_alike : (c : Two) (x : ConstructorPart) → AlikeConstructor x → Same (exception_asks (left c) x) (exception_asks (right c) x)
exception_alike c x s = at_treated (optional_alike (over_parameters [] c) x.argument s.argument)

pub exception_added : (c : Two) (x : ConstructorPart) → NamesAlike (entries_of_exception (left c) x) (entries_of_exception (right c) x)
exception_added c x = by x.name
  where
    argument : (o : Option TypeExpression) → BothThere (option_map (λ a. type_at (left c) a.node) o) (option_map (λ a. type_at (right c) a.node) o)
    argument None = neither
    argument (Some a) = both

    by : (o : Option Tok) → NamesAlike (elim o [ None ↦ [] | Some t ↦ entry t.name (in_text (place_of t)) (an_exception (option_map (λ a. type_at (left c) a.node) x.argument)) ∷ [] ])
        (elim o [ None ↦ [] | Some t ↦ entry t.name (in_text (place_of t)) (an_exception (option_map (λ a. type_at (right c) a.node) x.argument)) ∷ [] ])
    by None = no_names
    by (Some t) = next (record { name = refl; stands = two_exceptions (argument x.argument) }) no_names
