-- What declarations of types ask goes together, and what they declare is one where it is kept alike.
use Rattle.std.proofs.Common.{◌≡◌, ℕ, Bool, true, false, List, [], ◌∷◌, ◌++◌, length, Option, Some, None, refl, sym, ◌∙◌, ap, subst, if◌then◌else◌}
use Rattle.token_model.specs.Kinds.{Tok}
use Rattle.tree_model.specs.Trees.{Place}
use Rattle.signature_model.specs.Declarations.{Name, Declaration, Shape, Own, Is}
use Rattle.signature_model.specs.Declarations as declared
use Rattle.signature_model.specs.Components.{same_name}
use Rattle.signature_model.specs.Signatures.{Components, Component, TypeName}
use Rattle.signature_model.specs.Entries.{Environment, entry, a_type, type_kind, entries_of_shape}
use Rattle.signature_model.specs.Lookups.{lookup, found, newest_by, is_named}
use Rattle.typing_model.specs.Names.{then_by, referent_of, declaration_in}
use Rattle.typing_model.specs.Demands.{Site, site, Demand, test, agrees, differs, Condition, demand}
use Rattle.typing_model.specs.Contexts.{Context, parameters, under, type_at, tell}
use Rattle.typing_model.specs.Parts.{place_of, TypeExpression, ConstructorPart, LabelPart, Told, constructors, labels, RightSide, another, own, DeclarationPart}
use Rattle.typing_model.specs.Declarations.{shape_of, token_name, names_itself, declaration_of, type_entry, entries_of_part, entries_of_group, names_of_types, names_of_tokens, names_asked, read_optional, constructors_read, labels_read, shape_asks, told_of, reexport_asked, right_asks, declaration_asks, declarations_ask, group_asks, exception_asks, new_tokens}
use Rattle.typing_model.specs.Patterns.{ask_all}
use Rattle.typing_model.specs.Items.{type_components, origin_by, origins_of_group}
use Rattle.typing_laws.proofs.Together.{Kept, keeping, is_end, on_signatures, Together, at_end, at_demand, at_treated, Agreed, agree_first, agree_left, agree_right, alone, behind}
use Rattle.typing_laws.proofs.Steady.{Each, no_one, one_and, IfThere, absent, there, declares, TypesAlike, SteadyType, SteadyConstructor, SteadyLabel, SteadyTold, of_constructors, of_labels, SteadyRight, of_another, of_own, SteadyDeclaration, as_itself}

-- environments that find types alike do so behind a type of one name
entry_alike : (E F : Environment) (x : Name) (p : declared.Place) (d e : Declaration) → TypesAlike E F → TypesAlike (entry x p (a_type d) ∷ E) (entry x p (a_type e) ∷ F)
entry_alike E F x p d e h = record { finds = finds }
  where
    finds : (path : List Name) (n : Name) → declares (then_by (referent_of (lookup (entry x p (a_type d) ∷ E) path type_kind n)) declaration_in) ≡ declares (then_by (referent_of (lookup (entry x p (a_type e) ∷ F) path type_kind n)) declaration_in)
    finds [] n = by (same_name n x)
      where
        by : (b : Bool) → declares (then_by (referent_of (found (if b then Some (entry x p (a_type d)) else newest_by (is_named type_kind n) E))) declaration_in) ≡ declares (then_by (referent_of (found (if b then Some (entry x p (a_type e)) else newest_by (is_named type_kind n) F))) declaration_in)
        by true = refl
        by false = h.finds [] n
    finds (m ∷ ms) n = h.finds (m ∷ ms) n

names_alike : (c d : Context) (all ds : List DeclarationPart) (E F : Environment) → TypesAlike E F → TypesAlike (names_of_types c all ds E) (names_of_types d all ds F)
names_alike c d all [] E F h = h
names_alike c d all (x ∷ xs) E F h = names_alike c d all xs (type_entry (declaration_of c all x) x.head.name ++ E) (type_entry (declaration_of d all x) x.head.name ++ F) (by x.head.name)
  where
    by : (t : Option Tok) → TypesAlike (type_entry (declaration_of c all x) t ++ E) (type_entry (declaration_of d all x) t ++ F)
    by None = h
    by (Some t) = entry_alike E F t.name (declared.in_text (place_of t)) (declaration_of c all x) (declaration_of d all x) h

optional_alike : {k m : Kept} (c : Context) (E F : Environment) (t : Option TypeExpression) → TypesAlike E F → IfThere (SteadyType k m) t → Together k m (read_optional (under E (keeping k c)) t) (read_optional (under F (keeping m c)) t)
optional_alike c E F None h absent = at_end
optional_alike c E F (Some t) h (there s) = s.reads c E F h

constructors_alike : {k m : Kept} (c : Context) (E F : Environment) (ks : List ConstructorPart) → TypesAlike E F → Each (SteadyConstructor k m) ks → Together k m (constructors_read (under E (keeping k c)) ks) (constructors_read (under F (keeping m c)) ks)
constructors_alike c E F [] h no_one = at_end
constructors_alike c E F (x ∷ xs) h (one_and s each) = at_treated (behind (optional_alike c E F x.argument h s.argument) (λ a. constructors_alike c E F xs h each))

labels_alike : {k m : Kept} (c : Context) (E F : Environment) (ls : List LabelPart) → TypesAlike E F → Each (SteadyLabel k m) ls → Together k m (labels_read (under E (keeping k c)) ls) (labels_read (under F (keeping m c)) ls)
labels_alike c E F [] h no_one = at_end
labels_alike c E F (l ∷ ls) h (one_and s each) = at_treated (behind (s.body.reads c E F h) (λ a. labels_alike c E F ls h each))

shape_alike : {k m : Kept} (c : Context) (E F : Environment) (r : Option Told) → TypesAlike E F → IfThere (SteadyTold k m) r → Together k m (shape_asks (under E (keeping k c)) r) (shape_asks (under F (keeping m c)) r)
shape_alike c E F None h absent = at_end
shape_alike c E F (Some (constructors ks)) h (there (of_constructors each)) = behind (constructors_alike c E F ks h each) (λ a. alone _)
shape_alike c E F (Some (labels ls)) h (there (of_labels each)) = behind (labels_alike c E F ls h each) (λ a. alone _)

-- a re-export asks one demand, whatever it is
pub record OneAsked (s : Site) (q : Place) (cs : List Condition) : Type 0 where
  pub what : Demand
  pub no_end : is_end what ≡ false
  pub no_signature : on_signatures what ≡ false
  pub all : cs ≡ demand s q what ∷ []

pub reexport_one : (c : Context) (b : Bool) (n arity : ℕ) (t : TypeExpression) (x : Name) (shape : Shape) → OneAsked (site n 0) t.at (reexport_asked c b n arity t x shape)
reexport_one c true n arity t x shape = record { what = test (differs x) false; no_end = refl; no_signature = refl; all = refl }
reexport_one c false n arity t x shape = by (told_of c.env (type_at c t.node)) refl
  where
    by : (o : Option Shape) → told_of c.env (type_at c t.node) ≡ o → OneAsked (site n 0) t.at (reexport_asked c false n arity t x shape)
    by None e = rw (e, reexport_asked) (record { what = test (differs x) true; no_end = refl; no_signature = refl; all = refl })
    by (Some actual) e = rw (e, reexport_asked) (record { what = agrees (differs x) arity actual shape; no_end = refl; no_signature = refl; all = refl })

one_together : {k m : Kept} (s : Site) (q : Place) (xs ys : List Condition) → OneAsked s q xs → OneAsked s q ys → Together k m xs ys
one_together {k} {m} s q xs ys a b =
    subst (λ zs. Together k m zs ys) (sym a.all) (subst (λ zs. Together k m (demand s q a.what ∷ []) zs) (sym b.all) (at_demand (a.no_end ∙ sym b.no_end) (λ e. at_end)))

one_agreed : {k m : Kept} (s : Site) (q : Place) (xs : List Condition) → OneAsked s q xs → Agreed k m xs → k s ≡ m s
one_agreed {k} {m} s q xs a h = agree_first s q a.what [] (subst (Agreed k m) a.all h)

-- what is asked of a re-export
abbrev told_asked : Context → List DeclarationPart → Option Tok → ℕ → ℕ → TypeExpression → Option Tok → Option Told → List Condition
told_asked c all x arity n t l r = elim r [ None ↦ [] | Some r ↦ reexport_asked c (names_itself c all x t.mentions) n arity t (token_name l) (shape_of c r) ]

told_alike : {k m : Kept} (c d : Context) (all : List DeclarationPart) (x : Option Tok) (arity n : ℕ) (t : TypeExpression) (l : Option Tok) (r : Option Told) → Together k m (told_asked c all x arity n t l r) (told_asked d all x arity n t l r)
told_alike c d all x arity n t l None = at_end
told_alike c d all x arity n t l (Some r) =
    one_together (site n 0) t.at _ _ (reexport_one c (names_itself c all x t.mentions) n arity t (token_name l) (shape_of c r)) (reexport_one d (names_itself d all x t.mentions) n arity t (token_name l) (shape_of d r))

right_alike : {k m : Kept} (c : Context) (E F : Environment) (all : List DeclarationPart) (x : Option Tok) (arity : ℕ) (r : Option RightSide) → TypesAlike E F → IfThere (SteadyRight k m) r →
    Together k m (right_asks (under E (keeping k c)) all x arity r) (right_asks (under F (keeping m c)) all x arity r)
right_alike c E F all x arity None h absent = at_end
right_alike {k} {m} c E F all x arity (Some (another n t l r)) h (there (of_another s w z)) =
    at_treated (behind (behind (s.reads c E F h) (λ a. shape_alike c E F r h z)) (λ a. told_alike (under E (keeping k c)) (under F (keeping m c)) all x arity n t l r))
right_alike c E F all x arity (Some (own r)) h (there (of_own s)) = shape_alike c E F (Some r) h (there s)

declaration_alike : {k m : Kept} (c : Context) (E F : Environment) (all : List DeclarationPart) (d : DeclarationPart) → TypesAlike E F → SteadyDeclaration k m d →
    Together k m (declaration_asks (under E (keeping k c)) all d) (declaration_asks (under F (keeping m c)) all d)
declaration_alike c E F all d h s =
    at_treated (behind (alone (ask_all d.node 1 (new_tokens [] d.head.parameters)))
    (λ a. right_alike (record c { variables = parameters (names_of_tokens d.head.parameters) }) E F all d.head.name (length d.head.parameters) d.right h s.right))

declarations_alike : {k m : Kept} (c : Context) (E F : Environment) (all ds : List DeclarationPart) → TypesAlike E F → Each (SteadyDeclaration k m) ds →
    Together k m (declarations_ask (under E (keeping k c)) all ds) (declarations_ask (under F (keeping m c)) all ds)
declarations_alike c E F all [] h no_one = at_end
declarations_alike c E F all (d ∷ ds) h (one_and s each) = behind (declaration_alike c E F all d h s) (λ a. declarations_alike c E F all ds h each)

pub group_alike : {k m : Kept} (c : Context) (seen : List Name) (ds : List DeclarationPart) → Each (SteadyDeclaration k m) ds → Together k m (group_asks (keeping k c) seen ds) (group_asks (keeping m c) seen ds)
group_alike {k} {m} c seen ds each =
    behind (behind (alone (names_asked seen ds)) (λ a. declarations_alike c (names_of_types (keeping k c) ds ds c.env) (names_of_types (keeping m c) ds ds c.env) ds ds
    (names_alike (keeping k c) (keeping m c) ds ds c.env c.env (as_itself c.env)) each)) (λ a. alone _)

-- a declaration is one for both
pub record OneDeclaration (k m : Kept) (c : Context) (all : List DeclarationPart) (d : DeclarationPart) : Type 0 where
  pub one : declaration_of (keeping k c) all d ≡ declaration_of (keeping m c) all d

abbrev inside : Context → DeclarationPart → Context
inside c d = record c { variables = parameters (names_of_tokens d.head.parameters) }

right_one : {k m : Kept} (c b : Context) (all : List DeclarationPart) (d : DeclarationPart) (o : Option RightSide) → d.right ≡ o → Agreed k m (right_asks b all d.head.name (length d.head.parameters) o) → declaration_of (keeping k c) all d ≡ declaration_of (keeping m c) all d
right_one c b all d None e a = rw (e, declaration_of) refl
right_one c b all d (Some (own r)) e a = rw (e, declaration_of) refl
right_one c b all d (Some (another n t l None)) e a = rw (e, declaration_of) refl
right_one {k} {m} c b all d (Some (another n t l (Some r))) e a =
    let f : k (site n 0) ≡ m (site n 0) =
    one_agreed (site n 0) t.at _ (reexport_one b (names_itself b all d.head.name t.mentions) n (length d.head.parameters) t (token_name l) (shape_of b r))
    (agree_right ((tell n b ++ t.read b) ++ shape_asks b (Some r)) _ a) in
    rw (e, declaration_of) (ap (λ x. record { arity = length d.head.parameters; definition = if x then Is (type_at c t.node) else Own (d.node ∷ []); shape = shape_of c r }) f)

-- it is so where what it asks is kept alike
pub declaration_one : {k m : Kept} (c b : Context) (all : List DeclarationPart) (d : DeclarationPart) → Agreed k m (declaration_asks b all d) → OneDeclaration k m c all d
declaration_one c b all d a =
    record { one = right_one c (inside b d) all d d.right refl (agree_right (tell d.node b ++ ask_all d.node 1 (new_tokens [] d.head.parameters)) _ a) }

pub declarations_one : {k m : Kept} (c b : Context) (all ds : List DeclarationPart) → Agreed k m (declarations_ask b all ds) → Each (OneDeclaration k m c all) ds
declarations_one c b all [] a = no_one
declarations_one c b all (d ∷ ds) a = one_and (declaration_one c b all d (agree_left _ _ a)) (declarations_one c b all ds (agree_right (declaration_asks b all d) _ a))

pub group_one : {k m : Kept} (c : Context) (seen : List Name) (ds : List DeclarationPart) → Agreed k m (group_asks (keeping k c) seen ds) → Each (OneDeclaration k m c ds) ds
group_one {k} c seen ds a = declarations_one c (under (names_of_types (keeping k c) ds ds c.env) (keeping k c)) ds ds (agree_right (names_asked seen ds) _ (agree_left _ _ a))

-- and so are its entries, its component and its origin
pub group_entries : {k m : Kept} (c : Context) (all ds : List DeclarationPart) → Each (OneDeclaration k m c all) ds → entries_of_group (keeping k c) all ds ≡ entries_of_group (keeping m c) all ds
group_entries c all [] no_one = refl
group_entries {k} {m} c all (d ∷ ds) (one_and s each) =
    ap (λ x. (type_entry x d.head.name ++ entries_of_shape x x.shape) ++ entries_of_group (keeping k c) all ds) s.one ∙ ap (λ es. entries_of_part (keeping m c) all d ++ es) (group_entries c all ds each)

abbrev pub component_behind : Declaration → Components → Option Tok → Components
component_behind d cs o = elim o [ None ↦ cs | Some t ↦ Component t.name (declared.in_text (place_of t)) (TypeName d) cs ]

pub group_components : {k m : Kept} (c : Context) (all ds : List DeclarationPart) → Each (OneDeclaration k m c all) ds → type_components (keeping k c) all ds ≡ type_components (keeping m c) all ds
group_components c all [] no_one = refl
group_components {k} {m} c all (d ∷ ds) (one_and s each) =
    ap (λ x. component_behind x (type_components (keeping k c) all ds) d.head.name) s.one ∙ ap (λ cs. component_behind (declaration_of (keeping m c) all d) cs d.head.name) (group_components c all ds each)

pub group_origins : {k m : Kept} (c : Context) (all ds : List DeclarationPart) → Each (OneDeclaration k m c all) ds → origins_of_group (keeping k c) all ds ≡ origins_of_group (keeping m c) all ds
group_origins c all [] no_one = refl
group_origins {k} {m} c all (d ∷ ds) (one_and s each) =
    ap (λ x. origin_by x.definition ++ origins_of_group (keeping k c) all ds) s.one ∙ ap (λ os. origin_by (declaration_of (keeping m c) all d).definition ++ os) (group_origins c all ds each)

pub exception_alike : {k m : Kept} (c : Context) (x : ConstructorPart) → SteadyConstructor k m x → Together k m (exception_asks (keeping k c) x) (exception_asks (keeping m c) x)
exception_alike c x s = at_treated (optional_alike (record c { variables = parameters [] }) c.env c.env x.argument (as_itself c.env) s.argument)
