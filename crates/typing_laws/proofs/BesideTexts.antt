-- Texts without modules beside another choice of types: the variables that are free behind them are renamed ones.
use Rattle.std.proofs.Common.{◌≡◌, ℕ, ◌+◌, Bool, true, false, not, ◌&&◌, List, [], ◌∷◌, ◌++◌, map, filter_map, reverse, length, Option, Some, None, option_map, refl, sym, ◌∙◌, ap, subst, if◌then◌else◌}
use mathlib.Core.List.{reverse_aux}
use Rattle.std.specs.List.{cons_option}
use Rattle.token_model.specs.Kinds.{Tok}
use Rattle.tree_model.specs.Trees as place
use Rattle.tree_model.specs.Trees.{Tree, node, inner, part_yield}
use Rattle.tree_model.specs.Rows.{Row, let_row, type_row, exception_row, break_row}
use Rattle.type_model.specs.Types.{Path, Typ, Var, Arrow, Tuple, Con}
use Rattle.type_model.specs.Substitutions.{apply}
use Rattle.signature_model.specs.Declarations.{Name, in_text, Declaration, type_of, Own, Is, defined_type, Shape, Opaque, Variant, Labels, Constructor, Label}
use Rattle.signature_model.specs.Entries.{Environment, Entry, entry, a_constructor, a_label, an_exception, free_in, free_in_referent, entries_of_shape}
use Rattle.signature_model.specs.Records.{origin_of}
use Rattle.typing_model.specs.Demands.{Site, site}
use Rattle.typing_model.specs.Contexts.{Choice, Context, under, type_at, entries_with, generalised_in}
use Rattle.typing_model.specs.Parts.{Item, Binding, ConstructorPart, LabelPart, Told, constructors, labels, RightSide, another, own, DeclarationPart, Child, in_slot, token_in, first_of, place_of}
use Rattle.typing_model.specs.Names.{then_by}
use Rattle.typing_model.specs.Records.{labels_in}
use Rattle.typing_model.specs.Expressions.{none_mutable, is_some, bindings_in}
use Rattle.typing_model.specs.Declarations.{constructor_of, label_of, variant_of, shape_of, is_other, definition_of, shape_in, declaration_of, type_entry, entries_of_group, entries_of_exception}
use Rattle.typing_model.specs.Bindings.{held_by, names_of_group}
use Rattle.typing_model.specs.Items.{inside_item, let_item, type_item, exception_item, no_item, behind_items}
use Rattle.typing_model.specs.Modules.{item_row}
use Rattle.typing_model.specs.Meanings.{recorded_item, children_of, tree_child, item_base, items_from, items_of}
use Rattle.typing_model.specs.Typings.{outermost}
use Rattle.typing_laws.specs.Renaming.{renaming, StandsIn, at_node, AreRenamedChoices}
use Rattle.typing_model.specs.Plain.{is_plain_row, is_plain_item, has_no_modules}
use Rattle.type_print_model.specs.Variables.{is_among}
use Rattle.type_print_model.specs.Paths.{Naming}
use Rattle.type_print_model.specs.Printing.{Prints}
use Rattle.typing_laws.proofs.Alike.{prints_alone}
use Rattle.typing_laws.proofs.Bools.{no_yes, and_cases}
use Rattle.typing_laws.proofs.Steady.{Each, no_one, one_and, IfThere, absent, there}
use Rattle.typing_laws.proofs.Labelled.{EntryAlike, as_one, next}
use Rattle.typing_laws.proofs.Beside.{BesideBinding, BesideChild, bindings_beside, children_beside}
use Rattle.typing_laws.proofs.BesideItems.{FreeAlike, either_alike, Related, group_held, group_names_renamed, NamesAlike, names_too, added_in_front}

-- two entries beside each other in which no variable is free
pub record PairAlike (e f : Entry) : Type 0 where
  pub alike : EntryAlike e f
  pub none : (v : ℕ) → free_in_referent v e.stands_for ≡ false
  pub none_too : (v : ℕ) → free_in_referent v f.stands_for ≡ false

pub data PairsAlike : List Entry → List Entry → Type 0 where
  no_pair : PairsAlike [] []
  a_pair : {e f : Entry} {xs ys : List Entry} → PairAlike e f → PairsAlike xs ys → PairsAlike (e ∷ xs) (f ∷ ys)

pairs_append : {xs ys us vs : List Entry} → PairsAlike xs ys → PairsAlike us vs → PairsAlike (xs ++ us) (ys ++ vs)
pairs_append no_pair h = h
pairs_append (a_pair p g) h = a_pair p (pairs_append g h)

pairs_onto : {xs ys us vs : List Entry} → PairsAlike xs ys → PairsAlike us vs → PairsAlike (reverse_aux xs us) (reverse_aux ys vs)
pairs_onto no_pair h = h
pairs_onto (a_pair p g) h = pairs_onto g (a_pair p h)

pairs_reverse : {xs ys : List Entry} → PairsAlike xs ys → PairsAlike (reverse xs) (reverse ys)
pairs_reverse h = pairs_onto h no_pair

nothing_free : {choice : Choice} {f : ℕ → ℕ} (p q : ℕ → Bool) → ((v : ℕ) → p v ≡ false) → ((v : ℕ) → q v ≡ false) → FreeAlike choice f p q
nothing_free p q h g = record { brings = λ v i. absurd (no_yes (sym (h v) ∙ i)); comes = λ w i. absurd (no_yes (sym (g w) ∙ i)); stands = λ v i. absurd (no_yes (sym (h v) ∙ i)) }

pairs_in_front : {choice : Choice} {f : ℕ → ℕ} {xs ys : List Entry} (E F : Environment) → PairsAlike xs ys → NamesAlike choice f E F → NamesAlike choice f (xs ++ E) (ys ++ F)
pairs_in_front E F no_pair h = h
pairs_in_front E F (a_pair {e = e} {f = g} {xs = xs} {ys = ys} p ps) h =
    let rest = pairs_in_front E F ps h in
    record {
      found = next p.alike rest.found;
      free = either_alike (λ v. free_in_referent v e.stands_for) (λ v. free_in_referent v g.stands_for) (λ v. free_in v (xs ++ E)) (λ v. free_in v (ys ++ F)) (nothing_free (λ v. free_in_referent v e.stands_for) (λ v. free_in_referent v g.stands_for) p.none p.none_too) rest.free;
    }

-- a renamed type is of the same origin
pub origin_renamed : (f : ℕ → ℕ) (t : Typ) → origin_of (apply (renaming f) t) ≡ origin_of t
origin_renamed f (Var v) = refl
origin_renamed f (Arrow a b) = refl
origin_renamed f (Tuple ts) = refl
origin_renamed f (Con o ts) = refl

-- what two declarations tell of their values under the same names
pub data SameConstructors : List Constructor → List Constructor → Type 0 where
  no_constructors : SameConstructors [] []
  a_constructor_too : {k m : Constructor} {ks ms : List Constructor} → k.name ≡ m.name → k.place ≡ m.place → SameConstructors ks ms → SameConstructors (k ∷ ks) (m ∷ ms)

pub data SameLabels : List Label → List Label → Type 0 where
  no_labels : SameLabels [] []
  a_label_too : {k m : Label} {ks ms : List Label} → k.name ≡ m.name → k.place ≡ m.place → k.is_mutable ≡ m.is_mutable → SameLabels ks ms → SameLabels (k ∷ ks) (m ∷ ms)

pub data ShapesAlike : Shape → Shape → Type 0 where
  both_opaque : ShapesAlike Opaque Opaque
  both_variants : {ks ms : List Constructor} → SameConstructors ks ms → ShapesAlike (Variant ks) (Variant ms)
  both_labels : {ks ms : List Label} → SameLabels ks ms → ShapesAlike (Labels ks) (Labels ms)

constructors_same : (c d : Context) (ks : List ConstructorPart) → SameConstructors (filter_map (constructor_of c) ks) (filter_map (constructor_of d) ks)
constructors_same c d [] = no_constructors
constructors_same c d (x ∷ xs) = by x.name (constructors_same c d xs)
  where
    by : (o : Option Tok) → SameConstructors (filter_map (constructor_of c) xs) (filter_map (constructor_of d) xs) →
        SameConstructors (cons_option (option_map (λ t. record { name = t.name; place = in_text (place_of t); argument = option_map (λ a. type_at c a.node) x.argument }) o) (filter_map (constructor_of c) xs))
        (cons_option (option_map (λ t. record { name = t.name; place = in_text (place_of t); argument = option_map (λ a. type_at d a.node) x.argument }) o) (filter_map (constructor_of d) xs))
    by None h = h
    by (Some t) h = a_constructor_too refl refl h

labels_same : (c d : Context) (ls : List LabelPart) → SameLabels (filter_map (label_of c) ls) (filter_map (label_of d) ls)
labels_same c d [] = no_labels
labels_same c d (x ∷ xs) = by x.name (labels_same c d xs)
  where
    by : (o : Option Tok) → SameLabels (filter_map (label_of c) xs) (filter_map (label_of d) xs) →
        SameLabels (cons_option (option_map (λ t. record { name = t.name; place = in_text (place_of t); is_mutable = x.is_mutable; body = type_at c x.body.node }) o) (filter_map (label_of c) xs))
        (cons_option (option_map (λ t. record { name = t.name; place = in_text (place_of t); is_mutable = x.is_mutable; body = type_at d x.body.node }) o) (filter_map (label_of d) xs))
    by None h = h
    by (Some t) h = a_label_too refl refl refl h

variants_alike : {ks ms : List Constructor} → SameConstructors ks ms → ShapesAlike (variant_of ks) (variant_of ms)
variants_alike no_constructors = both_opaque
variants_alike (a_constructor_too i j h) = both_variants (a_constructor_too i j h)

shape_alike : (c d : Context) (r : Told) → ShapesAlike (shape_of c r) (shape_of d r)
shape_alike c d (constructors ks) = variants_alike (constructors_same c d ks)
shape_alike c d (labels ls) = both_labels (labels_same c d ls)

right_alike : (c d : Context) (o : Option RightSide) → ShapesAlike (shape_in c o) (shape_in d o)
right_alike c d None = both_opaque
right_alike c d (Some (another n t l None)) = both_opaque
right_alike c d (Some (another n t l (Some r))) = shape_alike c d r
right_alike c d (Some (own r)) = shape_alike c d r

mutable_same : {ks ms : List Label} → SameLabels ks ms → none_mutable ks ≡ none_mutable ms
mutable_same no_labels = refl
mutable_same (a_label_too {k = k} {m = m} {ks = ks} {ms = ms} i j e h) = by k.is_mutable m.is_mutable (none_mutable ks) (none_mutable ms) e (mutable_same h)
  where
    by : (a b x y : Bool) → a ≡ b → x ≡ y → (not a && x) ≡ (not b && y)
    by a b x y e f = cc

constant_alike : {S T : Shape} → ShapesAlike S T → none_mutable (labels_in S) ≡ none_mutable (labels_in T)
constant_alike both_opaque = refl
constant_alike (both_variants h) = refl
constant_alike (both_labels h) = mutable_same h

other_same : {choice other : Choice} (r : AreRenamedChoices choice other) (c d : Context) → Related r c d → (all : List DeclarationPart) (n : ℕ) (k : Option Told) → is_other c all n k ≡ is_other d all n k
other_same r c d h all n None = refl
other_same r c d h all n (Some k) = ap (λ x. x (site n 0)) h.kept

definition_origin : {choice other : Choice} (r : AreRenamedChoices choice other) (c d : Context) → Related r c d → (all : List DeclarationPart) (n arity : ℕ) (o : Option RightSide) →
    origin_of (defined_type arity (definition_of c all n o)) ≡ origin_of (defined_type arity (definition_of d all n o))
definition_origin r c d h all n arity None = refl
definition_origin r c d h all n arity (Some (own k)) = refl
definition_origin r c d h all n arity (Some (another m t l k)) = by (is_other c all m k) (is_other d all m k) (other_same r c d h all m k)
  where
    node : origin_of (c.chosen.type_at t.node) ≡ origin_of (d.chosen.type_at t.node)
    node = ap (λ x. origin_of (x.type_at t.node)) h.chosen ∙ sym (ap (λ x. origin_of (x.type_at t.node)) h.chosen_too ∙ ap origin_of (r.nodes t.node) ∙ origin_renamed r.forth _)

    by : (a b : Bool) → a ≡ b → origin_of (defined_type arity (if a then Is (c.chosen.type_at t.node) else Own (n ∷ []))) ≡ origin_of (defined_type arity (if b then Is (d.chosen.type_at t.node) else Own (n ∷ [])))
    by true true e = node
    by false false e = refl
    by true false e = absurd (cc)
    by false true e = absurd (cc)

-- two declarations of one origin, whose records are constant in both or in neither
pub record DeclaredAlike (D G : Declaration) : Type 0 where
  pub origin : origin_of (type_of D) ≡ origin_of (type_of G)
  pub shapes : ShapesAlike D.shape G.shape

declared_alike : {choice other : Choice} (r : AreRenamedChoices choice other) (c d : Context) → Related r c d → (all : List DeclarationPart) (x : DeclarationPart) → DeclaredAlike (declaration_of c all x) (declaration_of d all x)
declared_alike r c d h all x = record { origin = definition_origin r c d h all x.node (length x.head.parameters) x.right; shapes = right_alike c d x.right }

name_pair : (D G : Declaration) (t : Option Tok) → PairsAlike (type_entry D t) (type_entry G t)
name_pair D G None = no_pair
name_pair D G (Some t) = a_pair (record { alike = record { name = refl; label = refl; constant = refl; no_module = λ n. refl; neither = λ n. refl }; none = λ v. refl; none_too = λ v. refl }) no_pair

constructor_pairs : (D G : Declaration) {ks ms : List Constructor} → SameConstructors ks ms → PairsAlike (map (λ k. entry k.name k.place (a_constructor D k)) ks) (map (λ k. entry k.name k.place (a_constructor G k)) ms)
constructor_pairs D G no_constructors = no_pair
constructor_pairs D G (a_constructor_too i j h) =
    a_pair (record { alike = record { name = i; label = refl; constant = refl; no_module = λ n. refl; neither = λ n. refl }; none = λ v. refl; none_too = λ v. refl }) (constructor_pairs D G h)

label_pairs : (D G : Declaration) → DeclaredAlike D G → {ks ms : List Label} → SameLabels ks ms → PairsAlike (map (λ l. entry l.name l.place (a_label D l)) ks) (map (λ l. entry l.name l.place (a_label G l)) ms)
label_pairs D G a no_labels = no_pair
label_pairs D G a (a_label_too i j e h) =
    a_pair (record { alike = record { name = i; label = a.origin; constant = constant_alike a.shapes; no_module = λ n. refl; neither = λ n. refl }; none = λ v. refl; none_too = λ v. refl }) (label_pairs D G a h)

shape_pairs : (D G : Declaration) → DeclaredAlike D G → {S T : Shape} → ShapesAlike S T → PairsAlike (entries_of_shape D S) (entries_of_shape G T)
shape_pairs D G a both_opaque = no_pair
shape_pairs D G a (both_variants h) = constructor_pairs D G h
shape_pairs D G a (both_labels h) = label_pairs D G a h

group_pairs : {choice other : Choice} (r : AreRenamedChoices choice other) (c d : Context) → Related r c d → (all ds : List DeclarationPart) → PairsAlike (entries_of_group c all ds) (entries_of_group d all ds)
group_pairs r c d h all [] = no_pair
group_pairs r c d h all (x ∷ xs) =
    let a = declared_alike r c d h all x in
    pairs_append (pairs_append (name_pair (declaration_of c all x) (declaration_of d all x) x.head.name) (shape_pairs (declaration_of c all x) (declaration_of d all x) a a.shapes)) (group_pairs r c d h all xs)

exception_pairs : (c d : Context) (x : ConstructorPart) → PairsAlike (entries_of_exception c x) (entries_of_exception d x)
exception_pairs c d x = by x.name
  where
    by : (o : Option Tok) → PairsAlike (elim o [ None ↦ [] | Some t ↦ entry t.name (in_text (place_of t)) (an_exception (option_map (λ a. type_at c a.node) x.argument)) ∷ [] ]) (elim o [ None ↦ [] | Some t ↦ entry t.name (in_text (place_of t)) (an_exception (option_map (λ a. type_at d a.node) x.argument)) ∷ [] ])
    by None = no_pair
    by (Some t) = a_pair (record { alike = record { name = refl; label = refl; constant = refl; no_module = λ n. refl; neither = λ n. refl }; none = λ v. refl; none_too = λ v. refl }) no_pair

-- what an item adds keeps contexts beside each other
pub record BesideItem {choice other : Choice} (r : AreRenamedChoices choice other) (i : Item) : Type 0 where
  pub adds : (c d : Context) → Related r c d → NamesAlike choice r.forth (i.adds c ++ c.env) (i.adds d ++ d.env)

names_of_related : {choice other : Choice} (r : AreRenamedChoices choice other) (c d : Context) → Related r c d → NamesAlike choice r.forth c.env d.env
names_of_related r c d h = record { found = h.found; free = h.free }

let_beside : {choice other : Choice} (r : AreRenamedChoices choice other) (n : ℕ) (ts : List Tok) (is_rec : Bool) (bs : List Binding) → Each (BesideBinding choice other r.forth) bs → BesideItem r (let_item n ts is_rec bs)
let_beside {choice} {other} r n ts is_rec bs each = record {
  adds = λ c d h.
      let e : Context = inside_item n ts c in
      let g : Context = inside_item n ts d in
      let held = group_held r e g h.chosen h.chosen_too h.found bs each in
      let all = names_too r e g h.chosen h.chosen_too c.env d.env (held_by e bs) (held_by g bs) h.free held (names_of_group bs) c.env d.env (group_names_renamed bs each) (names_of_related r c d h) in
      subst (λ E. NamesAlike choice r.forth E (entries_with (generalised_in d.env (held_by g bs)) g (names_of_group bs) [] ++ d.env)) (sym (added_in_front (generalised_in c.env (held_by e bs)) e (names_of_group bs) [] c.env))
      (subst (λ F. NamesAlike choice r.forth (entries_with (generalised_in c.env (held_by e bs)) e (names_of_group bs) c.env) F) (sym (added_in_front (generalised_in d.env (held_by g bs)) g (names_of_group bs) [] d.env)) all);
}

type_beside : {choice other : Choice} (r : AreRenamedChoices choice other) (n : ℕ) (ds : List DeclarationPart) → BesideItem r (type_item n ds)
type_beside r n ds = record { adds = λ c d h. pairs_in_front c.env d.env (pairs_reverse (group_pairs r c d h ds ds)) (names_of_related r c d h) }

no_item_beside : {choice other : Choice} (r : AreRenamedChoices choice other) (n : ℕ) → BesideItem r (no_item n)
no_item_beside r n = record { adds = λ c d h. names_of_related r c d h }

exception_beside : {choice other : Choice} (r : AreRenamedChoices choice other) (n : ℕ) (x : Option ConstructorPart) → BesideItem r (exception_item n x)
exception_beside r n None = no_item_beside r n
exception_beside r n (Some x) = record { adds = λ c d h. pairs_in_front c.env d.env (exception_pairs c d x) (names_of_related r c d h) }

-- an item of a plain row
row_beside : {choice other : Choice} (r : AreRenamedChoices choice other) (row : Row) (n : ℕ) (q : place.Place) (ts : List Tok) (cs : List Child) → is_plain_row row ≡ true → Each (BesideChild choice other r.forth) cs → IfThere (BesideItem r) (item_row row n q ts cs)
unfolding item_row
row_beside r let_row n q ts cs e h = there (let_beside r n ts (is_some (token_in 1 cs)) (bindings_in 2 cs) (bindings_beside 2 cs h))
row_beside r type_row n q ts cs e h = there (type_beside r n (filter_map (λ c. c.declaration) (in_slot 2 cs)))
row_beside r exception_row n q ts cs e h = there (exception_beside r n (then_by (first_of (in_slot 1 cs)) (λ c. c.constructor)))
row_beside r break_row n q ts cs e h = there (no_item_beside r n)
row_beside r _ n q ts cs e h = absurd (no_yes e)

told_beside : {choice other : Choice} (r : AreRenamedChoices choice other) (n : ℕ) (o : Option Item) → IfThere (BesideItem r) o → IfThere (BesideItem r) (recorded_item n o)
told_beside r n None absent = absent
told_beside r n (Some i) (there s) = there (record { adds = s.adds })

tree_item_beside : {choice other : Choice} (r : AreRenamedChoices choice other) (n : ℕ) (t : Tree) → is_plain_item t ≡ true → IfThere (BesideItem r) (tree_child n 0 t).item
tree_item_beside r n (node row x ps) e =
    told_beside r n (item_row row n x.span (part_yield (inner (node row x ps))) (children_of (n + 1) row ps))
    (row_beside r row n x.span (part_yield (inner (node row x ps))) (children_of (n + 1) row ps) e (children_beside r (n + 1) row ps))

items_beside : {choice other : Choice} (r : AreRenamedChoices choice other) (i : ℕ) (ts : List Tree) → has_no_modules ts ≡ true → Each (BesideItem r) (items_from i ts)
items_beside r i [] e = no_one
items_beside r i (t ∷ ts) e =
    let p = and_cases (is_plain_item t) (has_no_modules ts) e in
    by (tree_child (item_base i) 0 t).item (tree_item_beside r (item_base i) t p.0) (items_beside r (i + 1) ts p.1)
  where
    by : (o : Option Item) → IfThere (BesideItem r) o → Each (BesideItem r) (items_from (i + 1) ts) → Each (BesideItem r) (elim o [ None ↦ items_from (i + 1) ts | Some x ↦ x ∷ items_from (i + 1) ts ])
    by None absent h = h
    by (Some x) (there s) h = one_and s h

behind_beside : {choice other : Choice} (r : AreRenamedChoices choice other) (c d : Context) (xs : List Item) → Each (BesideItem r) xs → Related r c d → NamesAlike choice r.forth (behind_items c xs) (behind_items d xs)
behind_beside r c d [] no_one h = names_of_related r c d h
behind_beside r c d (i ∷ xs) (one_and s each) h =
    let names = s.adds c d h in
    behind_beside r (under (i.adds c ++ c.env) c) (under (i.adds d ++ d.env) d) xs each (record { chosen = h.chosen; chosen_too = h.chosen_too; kept = h.kept; found = names.found; free = names.free })

-- the variables that are free behind a text without modules
pub free_behind : (env : Environment) (text : List Tree) (kept : Site → Bool) (choice other : Choice) (r : AreRenamedChoices choice other) → ((v : ℕ) → free_in v env ≡ false) → has_no_modules text ≡ true →
    FreeAlike choice r.forth (λ v. free_in v (behind_items (outermost env kept choice) (items_of text))) (λ v. free_in v (behind_items (outermost env kept other) (items_of text)))
free_behind env text kept choice other r closed plain =
    let all = behind_beside r (outermost env kept choice) (outermost env kept other) (items_of text) (items_beside r 1 text plain)
    (record { chosen = refl; chosen_too = refl; kept = refl; found = as_one; free = nothing_free (λ v. free_in v env) (λ v. free_in v env) closed closed }) in
    all.free

-- a test and the one behind a renaming come out alike at chosen variables
pub alike_at : {choice other : Choice} (r : AreRenamedChoices choice other) (before behind : ℕ → Bool) → FreeAlike choice r.forth before behind → (v : ℕ) → StandsIn choice v → behind (r.forth v) ≡ before v
alike_at r before behind a v stands = by (before v) refl (behind (r.forth v)) refl
  where
    by : (x : Bool) → before v ≡ x → (y : Bool) → behind (r.forth v) ≡ y → y ≡ x
    by true e true f = refl
    by false e false f = refl
    by true e false f = absurd (no_yes (sym f ∙ a.brings v e))
    by false e true f =
        let (u, i, j) = a.comes (r.forth v) f in
        let same : u ≡ v = sym (r.undone u (a.stands u j)) ∙ ap r.back (sym i) ∙ r.undone v stands in
        absurd (no_yes (sym e ∙ subst (λ x. before x ≡ true) same j))

-- so the types of its nodes print alike, where these are weak
pub plain_alike : {E : Type 0} (N : Naming E) (scope : List E) (declared : Path → Name) (env : Environment) (text : List Tree) (kept : Site → Bool) (choice other : Choice) (r : AreRenamedChoices choice other) →
    ((v : ℕ) → free_in v env ≡ false) → has_no_modules text ≡ true → (weak weaks : List ℕ) → ((v : ℕ) → is_among v weak ≡ free_in v (behind_items (outermost env kept choice) (items_of text))) →
    ((v : ℕ) → is_among v weaks ≡ free_in v (behind_items (outermost env kept other) (items_of text))) → (n : ℕ) (shown : List ℕ) → Prints N scope declared weak (choice.type_at n) shown → Prints N scope declared weaks (other.type_at n) shown
plain_alike N scope declared env text kept choice other r closed plain weak weaks w u n shown p =
    subst (λ t. Prints N scope declared weaks t shown) (sym (r.nodes n))
    (prints_alone N scope declared r.forth r.back weak weaks (choice.type_at n) shown (λ v o. r.undone v (at_node n o))
    (λ v o. u (r.forth v) ∙ alike_at r (λ v. free_in v (behind_items (outermost env kept choice) (items_of text))) (λ v. free_in v (behind_items (outermost env kept other) (items_of text))) (free_behind env text kept choice other r closed plain) v (at_node n o) ∙ sym (w v)) p)
