-- What a declaration tells of its values is what the definitions say, by the types that are decided; and its roots denote that.
use Rattle.std.proofs.Common.{◌≡◌, ◌∙◌, ℕ, zero, suc, List, [], ◌∷◌, map, filter_map, length, Option, Some, None, option_map, refl, sym, ap, subst}
use Rattle.std.specs.Prelude.{slice_get}
use Rattle.std.specs.List.{cons_option}
use denote.Ref.{Bor}
use Rattle.text_terms.specs.Bytes.{str_bytes}
use Rattle.syntax_tree.specs.declared.tree.Token.{Token}
use Rattle.syntax_tree.specs.View.{tok_of}
use Rattle.token_model.specs.Kinds.{Tok}
use Rattle.type_model.specs.Types.{Typ}
use Rattle.type_model.specs.Types.{Typ as type}
use Rattle.signature_model.specs.Declarations as rules
use Rattle.signature_model.specs.Declarations.{in_text}
use Rattle.typing_model.specs.Contexts.{Context}
use Rattle.typing_model.specs.Declarations.{constructor_of, label_of, variant_of, shape_of, declaration_of, declaration_asks}
use Rattle.typing_model.specs.Parts as parts
use Rattle.typing_model.specs.Parts.{place_of}
use Rattle.env_table.specs.declared.entries.Constructor.{Constructor}
use Rattle.env_table.specs.declared.entries.Label.{Label}
use Rattle.env_table.specs.declared.entries.Shape.{Shape}
use Rattle.env_table.specs.declared.entries.Shape.TheVariants as shape
use Rattle.type_nodes.specs.Nodes.{Node}
use Rattle.type_nodes.specs.Readings.{Types}
use Rattle.typing_conditions.specs.Standing.{IsIn}
use Rattle.typing_conditions.specs.Declared.{OneByOne, no_more, one_more, building, ConstructorAs, LabelAs, ShapeAs, tell_nothing, tell_constructors, tell_labels}
use Rattle.typing_rows.specs.Settled.{Fixes, AreFixed}
use Rattle.declared_rows.specs.Assignments.{Assignment, Denotes}
use Rattle.first_laws.proofs.Types.{ConstructorDenotes, LabelDenotes}
use Rattle.decl_groups.specs.declared.groups.ConstructorPart.{ConstructorPart}
use Rattle.decl_groups.specs.declared.groups.LabelPart.{LabelPart}
use Rattle.decl_groups.specs.declared.groups.Told.{Told}
use Rattle.decl_typing.specs.Labels.{label_as, labels_as, body_at}
use Rattle.decl_typing.specs.LabelParts.{AreLabels, no_labels, one_label, nameless_label, shape_labels}
use Rattle.decl_typing.specs.Owned.{IsVariant, IsRecord, ShapeMade, nothing_made, constructors_made, labels_made, told_as, own_asks}
use Rattle.decl_typing.specs.Parameters.{constructor_roots, label_roots, shape_roots}
use Rattle.decl_typing.specs.Parts.{AreMade, none_made, one_made, nameless, shape_constructors}
use Rattle.decl_typing.specs.Settling.{constructor_as, constructors_as, argument_at}
use Rattle.declared_items.specs.Shapes.{with_constructor, constructors_by, with_label, labels_by, shape_by, own_declaration}

-- The constructors that a context has are those of the parts with the types that it has for their arguments.
pub constructors_are : (c : Context) (i : ℕ) (ps : List ConstructorPart) (ts : List (Option Typ)) → map (argument_at c.chosen) (constructors_as i ps) ≡ ts → filter_map (constructor_of c) (constructors_as i ps) ≡ constructors_by ps ts
constructors_are c i [] ts e = refl
constructors_are c i (p ∷ ps) [] e = absurd (cc)
constructors_are c i (p ∷ ps) (t ∷ ts) e =
    let head : argument_at c.chosen (constructor_as i p) ≡ t = cc in
    let tail : map (argument_at c.chosen) (constructors_as i ps) ≡ ts = cc in
    by p.name refl head (constructors_are c i ps ts tail)
  where
    by : (o : Option (Bor Token)) → p.name ≡ o → argument_at c.chosen (constructor_as i p) ≡ t → filter_map (constructor_of c) (constructors_as i ps) ≡ constructors_by ps ts → filter_map (constructor_of c) (constructors_as i (p ∷ ps)) ≡ with_constructor p.name t (constructors_by ps ts)
    by None is head rest =
        let none : constructor_of c (constructor_as i p) ≡ None = ap (λ (o : Option (Bor Token)). constructor_of c (record (constructor_as i p) { name = option_map (λ k. tok_of k.now) o })) is in
        ap (λ o. cons_option o (filter_map (constructor_of c) (constructors_as i ps))) none ∙ rest ∙ ap (λ (o : Option (Bor Token)). with_constructor o t (constructors_by ps ts)) (sym is)
    by (Some k) is head rest =
        let one : constructor_of c (constructor_as i p) ≡ Some (record { name = (tok_of k.now).name; place = in_text (place_of (tok_of k.now)); argument = t }) =
        ap (λ (o : Option (Bor Token)). constructor_of c (record (constructor_as i p) { name = option_map (λ k. tok_of k.now) o })) is ∙ ap (λ u. Some (record { name = (tok_of k.now).name; place = in_text (place_of (tok_of k.now)); argument = u })) head in
        ap (λ o. cons_option o (filter_map (constructor_of c) (constructors_as i ps))) one ∙ ap (λ ks. record { name = (tok_of k.now).name; place = in_text (place_of (tok_of k.now)); argument = t } ∷ ks) rest ∙ ap (λ (o : Option (Bor Token)). with_constructor o t (constructors_by ps ts)) (sym is)

-- The same of labels.
pub labels_are : (c : Context) (i : ℕ) (ps : List LabelPart) (ts : List Typ) → map (body_at c.chosen) (labels_as i ps) ≡ ts → filter_map (label_of c) (labels_as i ps) ≡ labels_by ps ts
labels_are c i [] ts e = refl
labels_are c i (p ∷ ps) [] e = absurd (cc)
labels_are c i (p ∷ ps) (t ∷ ts) e =
    let head : body_at c.chosen (label_as i p) ≡ t = cc in
    let tail : map (body_at c.chosen) (labels_as i ps) ≡ ts = cc in
    by p.name refl head (labels_are c i ps ts tail)
  where
    by : (o : Option (Bor Token)) → p.name ≡ o → body_at c.chosen (label_as i p) ≡ t → filter_map (label_of c) (labels_as i ps) ≡ labels_by ps ts → filter_map (label_of c) (labels_as i (p ∷ ps)) ≡ with_label p p.name t (labels_by ps ts)
    by None is head rest =
        let none : label_of c (label_as i p) ≡ None = ap (λ (o : Option (Bor Token)). label_of c (record (label_as i p) { name = option_map (λ k. tok_of k.now) o })) is in
        ap (λ o. cons_option o (filter_map (label_of c) (labels_as i ps))) none ∙ rest ∙ ap (λ (o : Option (Bor Token)). with_label p o t (labels_by ps ts)) (sym is)
    by (Some k) is head rest =
        let one : label_of c (label_as i p) ≡ Some (record { name = (tok_of k.now).name; place = in_text (place_of (tok_of k.now)); is_mutable = p.is_mutable; body = t }) =
        ap (λ (o : Option (Bor Token)). label_of c (record (label_as i p) { name = option_map (λ k. tok_of k.now) o })) is ∙ ap (λ u. Some (record { name = (tok_of k.now).name; place = in_text (place_of (tok_of k.now)); is_mutable = p.is_mutable; body = u })) head in
        ap (λ o. cons_option o (filter_map (label_of c) (labels_as i ps))) one ∙ ap (λ ls. record { name = (tok_of k.now).name; place = in_text (place_of (tok_of k.now)); is_mutable = p.is_mutable; body = t } ∷ ls) rest ∙ ap (λ (o : Option (Bor Token)). with_label p o t (labels_by ps ts)) (sym is)

-- the name of a token that is there
one_name : (k : Bor Token) (n : List ℕ) (o : Option (Bor Token)) → o ≡ Some k → option_map (λ (t : Bor Token). str_bytes t.now.name) o ≡ Some n → (tok_of k.now).name ≡ n
one_name k n o e f = let g : option_map (λ (t : Bor Token). str_bytes t.now.name) (Some k) ≡ Some n = ap (option_map (λ (t : Bor Token). str_bytes t.now.name)) (sym e) ∙ f in cc

none_named : (n : List ℕ) (o : Option (Bor Token)) → o ≡ None → option_map (λ (t : Bor Token). str_bytes t.now.name) o ≡ Some n → ⊥
none_named n o e f = let g : option_map (λ (t : Bor Token). str_bytes t.now.name) None ≡ Some n = ap (option_map (λ (t : Bor Token). str_bytes t.now.name)) (sym e) ∙ f in absurd (cc)

-- Constructors that were made are those of the definitions, with the same names, and their roots denote their types.
pub constructors_denote : {A : Assignment} {result : Typ} {ps : List ConstructorPart} {ts : List (Option Typ)} {ks : List Constructor} (R : List ℕ) → AreMade A result ps ts ks → ((j r : ℕ) → slice_get (constructor_roots ks) j ≡ Some r → IsIn R r) → OneByOne (ConstructorDenotes A R result) ks (constructors_by ps ts)
constructors_denote R none_made among = no_more
constructors_denote {A} {result} R (one_made {p} {ps} {t} {ts} {k} {ks} r is given d more) among = by p.name refl (constructors_denote R more (λ j s e. among (suc j) s e))
  where
    by : (o : Option (Bor Token)) → p.name ≡ o → OneByOne (ConstructorDenotes A R result) ks (constructors_by ps ts) → OneByOne (ConstructorDenotes A R result) (k ∷ ks) (with_constructor p.name t (constructors_by ps ts))
    by None none rest = absurd (none_named (str_bytes k.name) p.name none is.named)
    by (Some m) there rest = subst (λ (o : Option (Bor Token)). OneByOne (ConstructorDenotes A R result) (k ∷ ks) (with_constructor o t (constructors_by ps ts))) (sym there)
        (one_more (record { name = one_name m (str_bytes k.name) p.name there is.named; takes = is.takes ∙ sym given; root = among zero k.root.0 refl; denotes = subst (λ n. Denotes A n (building result t)) (sym is.root) d }) rest)
constructors_denote {A} {result} R (nameless {p} {ps} {t} {ts} {ks} none more) among =
    subst (λ (o : Option (Bor Token)). OneByOne (ConstructorDenotes A R result) ks (with_constructor o t (constructors_by ps ts))) (sym none) (constructors_denote R more among)

-- So it is with labels.
pub labels_denote : {A : Assignment} {owner : Typ} {ps : List LabelPart} {ts : List Typ} {ls : List Label} (R : List ℕ) → AreLabels A owner ps ts ls → ((j r : ℕ) → slice_get (label_roots ls) j ≡ Some r → IsIn R r) → OneByOne (LabelDenotes A R owner) ls (labels_by ps ts)
labels_denote R no_labels among = no_more
labels_denote {A} {owner} R (one_label {p} {ps} {t} {ts} {l} {ls} r is d more) among = by p.name refl (labels_denote R more (λ j s e. among (suc j) s e))
  where
    by : (o : Option (Bor Token)) → p.name ≡ o → OneByOne (LabelDenotes A R owner) ls (labels_by ps ts) → OneByOne (LabelDenotes A R owner) (l ∷ ls) (with_label p p.name t (labels_by ps ts))
    by None none rest = absurd (none_named (str_bytes l.name) p.name none is.named)
    by (Some m) there rest = subst (λ (o : Option (Bor Token)). OneByOne (LabelDenotes A R owner) (l ∷ ls) (with_label p o t (labels_by ps ts))) (sym there)
        (one_more (record { name = one_name m (str_bytes l.name) p.name there is.named; mutable = is.mutable; root = among zero l.root.0 refl; denotes = subst (λ n. Denotes A n (type.Arrow owner t)) (sym is.root) d }) rest)
labels_denote {A} {owner} R (nameless_label {p} {ps} {t} {ts} {ls} none more) among =
    subst (λ (o : Option (Bor Token)). OneByOne (LabelDenotes A R owner) ls (with_label p o t (labels_by ps ts))) (sym none) (labels_denote R more among)

-- what a right side that is a type of its own tells, in a context
abbrev pub told_in_context : Context → Option parts.Told → rules.Shape
told_in_context c None = rules.Opaque
told_in_context c (Some r) = shape_of c r

-- What is told of a type in a context with the types that are decided is what was made.
pub shape_is : {A : Assignment} {owner : Typ} {fixes : Fixes} {i : ℕ} {told : Option Told} {z : Shape} (c : Context) (m : ShapeMade A owner fixes i told z) → AreFixed fixes c.chosen → told_in_context c (option_map (told_as i) told) ≡ shape_by m
shape_is c (nothing_made e) fixed = refl
shape_is {i = i} c (constructors_made {ps = ps} types gives made is) fixed = ap variant_of (constructors_are c i ps.items types (gives c.chosen fixed))
shape_is {i = i} c (labels_made {ps = ps} types gives made is) fixed = ap rules.Labels (labels_are c i ps.items types (gives c.chosen fixed))

-- constructors of a shape that may have none
variant_as : {nodes : List Node} {C : List ℕ} {N : Types} {arity : ℕ} {owner : Typ} (z : Shape) (ks : List rules.Constructor) → IsVariant z → OneByOne (ConstructorAs nodes C N arity owner) (shape_constructors z) ks → ShapeAs nodes C N arity owner z (variant_of ks)
variant_as {nodes} {C} {N} {arity} {owner} shape.Opaque ks is h = subst (λ us. ShapeAs nodes C N arity owner shape.Opaque (variant_of us)) (sym (none_right h)) (tell_nothing refl)
  where
    none_right : {us : List rules.Constructor} → OneByOne (ConstructorAs nodes C N arity owner) [] us → us ≡ []
    none_right no_more = refl
variant_as (shape.Variant cs) (k ∷ ks) is h = tell_constructors refl h
variant_as {nodes} {C} {N} {arity} {owner} (shape.Variant cs) [] is h = absurd (is (none_left h))
  where
    none_left : {xs : List Constructor} → OneByOne (ConstructorAs nodes C N arity owner) xs [] → xs ≡ []
    none_left no_more = refl
variant_as (shape.Labels ls) ks is h = absurd is

record_as : {nodes : List Node} {C : List ℕ} {N : Types} {arity : ℕ} {owner : Typ} (z : Shape) (ks : List rules.Label) → IsRecord z → OneByOne (LabelAs nodes C N arity owner) (shape_labels z) ks → ShapeAs nodes C N arity owner z (rules.Labels ks)
record_as (shape.Labels ls) ks is h = tell_labels refl h
record_as shape.Opaque ks is h = absurd is
record_as (shape.Variant cs) ks is h = absurd is

-- The roots of a shape are those of its constructors, and of its labels.
roots_of_constructors : (z : Shape) → IsVariant z → (j r : ℕ) → slice_get (constructor_roots (shape_constructors z)) j ≡ Some r → slice_get (shape_roots z) j ≡ Some r
roots_of_constructors shape.Opaque is j r e = e
roots_of_constructors (shape.Variant cs) is j r e = e
roots_of_constructors (shape.Labels ls) is j r e = absurd is

roots_of_labels : (z : Shape) → IsRecord z → (j r : ℕ) → slice_get (label_roots (shape_labels z)) j ≡ Some r → slice_get (shape_roots z) j ≡ Some r
roots_of_labels (shape.Labels ls) is j r e = e
roots_of_labels shape.Opaque is j r e = absurd is
roots_of_labels (shape.Variant cs) is j r e = absurd is

-- What was made stands for it, where constructors and labels whose roots denote their types do.
pub shape_as : {nodes : List Node} {C : List ℕ} {N : Types} {arity : ℕ} {A : Assignment} {owner : Typ} {fixes : Fixes} {i : ℕ} {told : Option Told} {z : Shape} (R : List ℕ) (m : ShapeMade A owner fixes i told z) → ((j r : ℕ) → slice_get (shape_roots z) j ≡ Some r → IsIn R r) →
    ((cs : List Constructor) (ks : List rules.Constructor) → OneByOne (ConstructorDenotes A R owner) cs ks → OneByOne (ConstructorAs nodes C N arity owner) cs ks) →
    ((ls : List Label) (ks : List rules.Label) → OneByOne (LabelDenotes A R owner) ls ks → OneByOne (LabelAs nodes C N arity owner) ls ks) → ShapeAs nodes C N arity owner z (shape_by m)
shape_as R (nothing_made e) among constructors labels = tell_nothing e
shape_as {z = z} R (constructors_made {ps = ps} types gives made is) among constructors labels =
    variant_as z (constructors_by ps.items types) is (constructors (shape_constructors z) (constructors_by ps.items types) (constructors_denote R made (λ j r e. among j r (roots_of_constructors z is j r e))))
shape_as {z = z} R (labels_made {ps = ps} types gives made is) among constructors labels =
    record_as z (labels_by ps.items types) is (labels (shape_labels z) (labels_by ps.items types) (labels_denote R made (λ j r e. among j r (roots_of_labels z is j r e))))

-- What the definitions ask of such a declaration in a group is what is settled of it.
pub asks_own : (c : Context) (all : List parts.DeclarationPart) (n : ℕ) (name : Option Tok) (ts : List Tok) (told : Option parts.Told) → declaration_asks c all (own_declaration n name ts told) ≡ own_asks n ts told c
asks_own c all n name ts None = refl
asks_own c all n name ts (Some r) = refl

-- And it declares a type of its own with what is told in the context.
pub declares_own : (c : Context) (all : List parts.DeclarationPart) (n : ℕ) (name : Option Tok) (ts : List Tok) (told : Option parts.Told) → declaration_of c all (own_declaration n name ts told) ≡ record { arity = length ts; definition = rules.Own (n ∷ []); shape = told_in_context c told }
declares_own c all n name ts None = refl
declares_own c all n name ts (Some r) = refl
