-- What declarations of types that re-export nothing ask is one as far as the same demands are kept, and so is what they declare.
use Rattle.std.proofs.Common.{◌≡◌, ◌∙◌, List, [], ◌∷◌, ◌++◌, ℕ, length, Option, Some, None, refl, ap}
use Rattle.token_model.specs.Kinds.{Tok}
use Rattle.signature_model.specs.Declarations.{Name}
use Rattle.signature_model.specs.Entries.{Environment}
use Rattle.typing_model.specs.Contexts.{Context, parameters, under}
use Rattle.typing_model.specs.Parts.{TypeExpression, ConstructorPart, LabelPart, Told, constructors, labels, RightSide, another, own, DeclarationPart}
use Rattle.typing_model.specs.Patterns.{ask_all}
use Rattle.typing_model.specs.Declarations.{declaration_of, type_entry, names_of_types, names_of_tokens, new_tokens, names_asked, read_optional, constructors_read, labels_read, constructors_new, labels_new, shape_asks, right_asks, declaration_asks, declarations_ask, cycles_asked, group_asks, exception_asks}
use Rattle.typing_laws.proofs.Together.{Kept, keeping}
use Rattle.typing_laws.proofs.Whole.{Whole, at_end, at_treated, alone, behind, along}
use Rattle.typing_laws.proofs.Steady.{Each, no_one, one_and, IfThere, absent, there, WholeType, SteadyConstructor, SteadyLabel, SteadyTold, of_constructors, of_labels, SteadyRight, of_another, of_own, SteadyDeclaration}
use Rattle.typing_laws.proofs.SteadyDeclarations.{OneDeclaration}
use Rattle.typing_laws.proofs.Reexports.{IsNew, NewDeclaration}

optional_whole : {k m : Kept} (c : Context) (t : Option TypeExpression) → IfThere (WholeType k m) t → Whole k m (read_optional (keeping k c) t) (read_optional (keeping m c) t)
optional_whole c None absent = at_end
optional_whole c (Some t) (there s) = s.reads c

constructors_whole : {k m : Kept} (c : Context) (ks : List ConstructorPart) → Each (SteadyConstructor k m) ks → Whole k m (constructors_read (keeping k c) ks) (constructors_read (keeping m c) ks)
constructors_whole c [] no_one = at_end
constructors_whole c (x ∷ xs) (one_and s each) = at_treated (behind (optional_whole c x.argument s.whole_argument) (λ a. constructors_whole c xs each))

labels_whole : {k m : Kept} (c : Context) (ls : List LabelPart) → Each (SteadyLabel k m) ls → Whole k m (labels_read (keeping k c) ls) (labels_read (keeping m c) ls)
labels_whole c [] no_one = at_end
labels_whole c (l ∷ ls) (one_and s each) = at_treated (behind (s.whole_body.reads c) (λ a. labels_whole c ls each))

told_whole : {k m : Kept} (c : Context) (r : Told) → SteadyTold k m r → Whole k m (shape_asks (keeping k c) (Some r)) (shape_asks (keeping m c) (Some r))
told_whole c (constructors ks) (of_constructors each) = behind (constructors_whole c ks each) (λ a. alone (constructors_new [] ks))
told_whole c (labels ls) (of_labels each) = behind (labels_whole c ls each) (λ a. alone (labels_new [] ls))

right_whole : {k m : Kept} (c : Context) (all : List DeclarationPart) (x : Option Tok) (arity : ℕ) (r : Option RightSide) → IsNew r → IfThere (SteadyRight k m) r → Whole k m (right_asks (keeping k c) all x arity r) (right_asks (keeping m c) all x arity r)
right_whole c all x arity None new absent = at_end
right_whole c all x arity (Some (another n t l None)) new (there (of_another s w z)) = at_treated (behind (behind (w.reads c) (λ a. at_end)) (λ a. at_end))
right_whole c all x arity (Some (another n t l (Some r))) new h = absurd new
right_whole c all x arity (Some (own r)) new (there (of_own s)) = told_whole c r s

declaration_whole : {k m : Kept} (c : Context) (all : List DeclarationPart) (d : DeclarationPart) → NewDeclaration d → SteadyDeclaration k m d → Whole k m (declaration_asks (keeping k c) all d) (declaration_asks (keeping m c) all d)
declaration_whole c all d new s =
    at_treated (behind (alone (ask_all d.node 1 (new_tokens [] d.head.parameters)))
    (λ a. right_whole (record c { variables = parameters (names_of_tokens d.head.parameters) }) all d.head.name (length d.head.parameters) d.right new.right s.right))

declarations_whole : {k m : Kept} (c : Context) (all ds : List DeclarationPart) → Each NewDeclaration ds → Each (SteadyDeclaration k m) ds → Whole k m (declarations_ask (keeping k c) all ds) (declarations_ask (keeping m c) all ds)
declarations_whole c all [] no_one no_one = at_end
declarations_whole c all (d ∷ ds) (one_and new news) (one_and s each) = behind (declaration_whole c all d new s) (λ a. declarations_whole c all ds news each)

-- what is declared doesn't depend on what is kept
new_one : (k m : Kept) (c : Context) (all : List DeclarationPart) (d : DeclarationPart) (o : Option RightSide) → d.right ≡ o → IsNew o → declaration_of (keeping k c) all d ≡ declaration_of (keeping m c) all d
new_one k m c all d None e new = rw (e, declaration_of) refl
new_one k m c all d (Some (another n t l None)) e new = rw (e, declaration_of) refl
new_one k m c all d (Some (another n t l (Some r))) e new = absurd new
new_one k m c all d (Some (own r)) e new = rw (e, declaration_of) refl

pub new_ones : {k m : Kept} (c : Context) (all ds : List DeclarationPart) → Each NewDeclaration ds → Each (OneDeclaration k m c all) ds
new_ones c all [] no_one = no_one
new_ones {k} {m} c all (d ∷ ds) (one_and new news) = one_and (record { one = new_one k m c all d d.right refl new.right }) (new_ones c all ds news)

-- so the names of types are in scope alike
names_one : {k m : Kept} (c : Context) (all ds : List DeclarationPart) (E : Environment) → Each (OneDeclaration k m c all) ds → names_of_types (keeping k c) all ds E ≡ names_of_types (keeping m c) all ds E
names_one c all [] E no_one = refl
names_one {k} {m} c all (d ∷ ds) E (one_and s each) =
    ap (λ x. names_of_types (keeping k c) all ds (type_entry x d.head.name ++ E)) s.one ∙ names_one c all ds (type_entry (declaration_of (keeping m c) all d) d.head.name ++ E) each

-- So a group asks the same of both,
pub group_whole : {k m : Kept} (c : Context) (seen : List Name) (ds : List DeclarationPart) → Each NewDeclaration ds → Each (SteadyDeclaration k m) ds → Whole k m (group_asks (keeping k c) seen ds) (group_asks (keeping m c) seen ds)
group_whole {k} {m} c seen ds news each =
    behind (behind (alone (names_asked seen ds)) (λ a. along (λ E. declarations_ask (under E (keeping k c)) ds ds) (λ E. declarations_ask (under E (keeping m c)) ds ds) (names_one {k = k} {m = m} c ds ds c.env (new_ones c ds ds news))
    (declarations_whole (under (names_of_types (keeping k c) ds ds c.env) c) ds ds news each))) (λ a. alone (cycles_asked ds ds))

-- and so does an exception.
pub exception_whole : {k m : Kept} (c : Context) (x : ConstructorPart) → SteadyConstructor k m x → Whole k m (exception_asks (keeping k c) x) (exception_asks (keeping m c) x)
exception_whole c x s = at_treated (optional_whole (record c { variables = parameters [] }) x.argument s.whole_argument)
