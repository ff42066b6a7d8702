-- A printed type has one byte for each character where the names of the types and modules in scope have, and those of the declarations.
use Rattle.std.proofs.Common.{◌≡◌, inl, inr, ℕ, zero, suc, ◌+◌, ◌<◌, ◌/◌, ◌%◌, Bool, true, false, ◌==◌, ◌&&◌, List, [], ◌∷◌, ◌++◌, reverse, codes, Option, Some, None, refl, sym, ◌∙◌, ap, subst, arith, if◌then◌else◌}
use Rattle.std.specs.Prelude.{nat_lt}
use Rattle.std.specs.Fmt.{digits_onto, digit_glyph, digits, decimal}
use Rattle.std.proofs.lemmas.Bool.{ltb-true}
use Rattle.std.proofs.lemmas.Grind.{reverse_onto}
use Rattle.std.proofs.lemmas.Slice.Eq.{bytes_eq-Decides}
use Rattle.type_model.specs.Types.{Path, Typ, Typs, Var, Arrow, Tuple, Con, Nil, Cons}
use Rattle.type_model.specs.Origins.{same_path}
use Rattle.type_model.proofs.Applying.{or_left, or_right}
use Rattle.signature_model.specs.Declarations.{Name, Declaration, Shape, Opaque, Variant, Labels, Constructor, Label}
use Rattle.signature_model.specs.Signatures.{Signature, Hole, Structure, Functor, Components, Done, Component, Meaning, Value, TypeName, Exception, Module, ModuleType}
use Rattle.signature_model.specs.Components.{same_name}
use Rattle.signature_model.specs.Entries.{Referent, a_value, a_constructor, an_exception, a_label, a_type, a_module, a_module_type, Entry, Environment, kind_of, type_kind, module_kind, entries_in, entries_of, entries_of_shape}
use Rattle.signature_model.specs.Lookups.{same_kind, an_entry, ScopeOf, known, unknown_scope, no_scope, newest_by, found, found_in, through, scope_by, lookup_by, is_named, inside, inside_signature, inside_referent}
use Rattle.type_print_model.specs.Variables.{is_among, letter_name, weak_name, variable_name}
use Rattle.type_print_model.specs.Paths.{IsNameOf, shown, hidden, dotted, naming}
use Rattle.type_print_model.specs.Printing.{Within, alone, left_of_arrow, inner, wrapped, wraps_arrow, wraps_tuple, Names, text_of, separated, rest_of, arguments_of, mentions, mentions_any}
use Rattle.type_print.specs.Texts.{IsAscii}
use Rattle.type_print.proofs.Ranks.{tells, both, both_true}
use Rattle.typed_model.specs.Over.{IsNoType, AreNoTypes, IsOver}
use Rattle.print_laws.specs.Environments.{IsHidden}
use Rattle.print_laws.specs.Ascii.{is_ascii, signature_ascii, components_ascii, meaning_ascii, referent_ascii, names_ascii}

-- texts of such bytes are one after the other
join : (xs ys : List ℕ) → IsAscii xs → IsAscii ys → IsAscii (xs ++ ys)
join [] ys h k = k
join (x ∷ xs) ys h k = (h.0, join xs ys h.1 k)

-- what the test says of each byte
tested : (bs : List ℕ) → is_ascii bs ≡ true → IsAscii bs
tested [] h = tt
tested (b ∷ bs) h = let (p, q) = both (nat_lt b 128) (is_ascii bs) h in (ltb-true b 128 p, tested bs q)

-- the names of variables

glyph : (b : Bool) (d : ℕ) → d < 10 → (if b then 48 + d else 87 + d) < 128
glyph true d h = omega arith
glyph false d h = omega arith

chosen : (b : Bool) (xs ys : List ℕ) → IsAscii xs → IsAscii ys → IsAscii (if b then xs else ys)
chosen true xs ys h k = h
chosen false xs ys h k = k

onto : (k n : ℕ) (acc : List ℕ) → IsAscii acc → IsAscii (digits_onto k 10 false n acc)
onto zero n acc h = h
onto (suc k) n acc h =
    let more : IsAscii (digit_glyph false (n % 10) ∷ acc) = (glyph (nat_lt (n % 10) 10) (n % 10) (omega arith), h) in
    chosen (n / 10 == 0) (digit_glyph false (n % 10) ∷ acc) (digits_onto k 10 false (n / 10) (digit_glyph false (n % 10) ∷ acc)) more (onto k (n / 10) (digit_glyph false (n % 10) ∷ acc) more)

of_number : (n : ℕ) → IsAscii (decimal n)
unfolding digits
of_number n = onto 64 n [] tt

of_letter : (k : ℕ) → IsAscii (letter_name k)
of_letter k = (omega arith, (omega arith, chosen (k / 26 == 0) [] (decimal (k / 26)) tt (of_number (k / 26))))

of_weak : (k : ℕ) → IsAscii (weak_name k)
of_weak k = join (codes "'_weak") (decimal (k + 1)) (omega arith, (omega arith, (omega arith, (omega arith, (omega arith, (omega arith, tt)))))) (of_number (k + 1))

-- a variable's name is such
pub of_variable : (weak all : List ℕ) (v : ℕ) → IsAscii (variable_name weak all v)
of_variable weak all v = chosen (is_among v weak) _ _ (of_weak _) (of_letter _)

-- the names of origins

append_ascii : (xs ys : Environment) → names_ascii xs ≡ true → names_ascii ys ≡ true → names_ascii (xs ++ ys) ≡ true
append_ascii [] ys h k = k
append_ascii (x ∷ xs) ys h k = let (p, q) = both (referent_ascii x.name x.stands_for) (names_ascii xs) h in both_true (referent_ascii x.name x.stands_for) (names_ascii (xs ++ ys)) p (append_ascii xs ys q k)

reverse_ascii : (xs : Environment) → names_ascii xs ≡ true → names_ascii (reverse xs) ≡ true
reverse_ascii [] h = refl
reverse_ascii (x ∷ xs) h =
    let (p, q) = both (referent_ascii x.name x.stands_for) (names_ascii xs) h in
    subst (λ z. names_ascii z ≡ true) (sym (reverse_onto xs x [])) (append_ascii (reverse xs) (x ∷ []) (reverse_ascii xs q) (both_true (referent_ascii x.name x.stands_for) true p refl))

constructors_ascii : (d : Declaration) (ks : List Constructor) → names_ascii (entries_of_shape d (Variant ks)) ≡ true
constructors_ascii d [] = refl
constructors_ascii d (k ∷ ks) = constructors_ascii d ks

labels_ascii : (d : Declaration) (ls : List Label) → names_ascii (entries_of_shape d (Labels ls)) ≡ true
labels_ascii d [] = refl
labels_ascii d (l ∷ ls) = labels_ascii d ls

shape_ascii : (d : Declaration) (s : Shape) → names_ascii (entries_of_shape d s) ≡ true
shape_ascii d Opaque = refl
shape_ascii d (Variant ks) = constructors_ascii d ks
shape_ascii d (Labels ls) = labels_ascii d ls

entries_ascii : (cs : Components) → components_ascii cs ≡ true → names_ascii (entries_in cs) ≡ true
entries_ascii Done h = refl
entries_ascii (Component n at m cs) h =
    let (p, q) = both (meaning_ascii n m) (components_ascii cs) h in append_ascii (entries_of n at m) (entries_in cs) (one m p) (entries_ascii cs q)
  where
    one : (m : Meaning) → meaning_ascii n m ≡ true → names_ascii (entries_of n at m) ≡ true
    one (Value s) h = refl
    one (TypeName d) h = both_true (is_ascii n) (names_ascii (entries_of_shape d d.shape)) h (shape_ascii d d.shape)
    one (Exception o) h = refl
    one (Module s) h = both_true (is_ascii n && signature_ascii s) true h refl
    one (ModuleType made s) h = refl

-- the newest entry that passes a test does, and has such a name
newest_has : (test : Entry → Bool) (es : Environment) (e : Entry) → names_ascii es ≡ true → newest_by test es ≡ Some e → (test e ≡ true) × (referent_ascii e.name e.stands_for ≡ true)
newest_has test [] e h is = absurd (cc)
newest_has test (x ∷ es) e h is =
    let (p, q) = both (referent_ascii x.name x.stands_for) (names_ascii es) h in
    elim (tells (test x)) [
      | inl t ↦
          let same : Some x ≡ Some e = rw t at is in
          let y : x ≡ e = cc in (subst (λ z. test z ≡ true) y t, subst (λ (z : Entry). referent_ascii z.name z.stands_for ≡ true) y p)
      | inr f ↦ newest_has test es e q (rw f at is)
    ]

-- a type's name, and a module's with what is in it
type_has : (n : Name) (r : Referent) → same_kind type_kind (kind_of r) ≡ true → referent_ascii n r ≡ true → is_ascii n ≡ true
type_has n (a_value s) k h = absurd (cc)
type_has n (a_constructor d c) k h = absurd (cc)
type_has n (an_exception o) k h = absurd (cc)
type_has n (a_label d l) k h = absurd (cc)
type_has n (a_type d) k h = h
type_has n (a_module s) k h = absurd (cc)
type_has n (a_module_type t) k h = absurd (cc)

-- the names in a scope are such, where they are known
abbrev ScopeIsAscii : ScopeOf Entry → Type 0
ScopeIsAscii (known es) = names_ascii es ≡ true
ScopeIsAscii unknown_scope = Unit {0}
ScopeIsAscii no_scope = Unit {0}

inside_has : (S : Signature) → signature_ascii S ≡ true → ScopeIsAscii (inside_signature S)
inside_has Hole h = tt
inside_has (Structure cs) h = reverse_ascii (entries_in cs) (entries_ascii cs h)
inside_has (Functor pm p bm b) h = refl

module_has : (n : Name) (r : Referent) → same_kind module_kind (kind_of r) ≡ true → referent_ascii n r ≡ true → (is_ascii n ≡ true) × ScopeIsAscii (inside_referent r)
module_has n (a_value s) k h = absurd (cc)
module_has n (a_constructor d c) k h = absurd (cc)
module_has n (an_exception o) k h = absurd (cc)
module_has n (a_label d l) k h = absurd (cc)
module_has n (a_type d) k h = absurd (cc)
module_has n (a_module s) k h = let (p, q) = both (is_ascii n) (signature_ascii s) h in (p, inside_has s q)
module_has n (a_module_type t) k h = absurd (cc)

-- so a type that is found by its name has such a name
found_type : (n : Name) (es : Environment) (e : Entry) → names_ascii es ≡ true → newest_by (is_named type_kind n) es ≡ Some e → IsAscii n
found_type n es e h is =
    let (named, has) = newest_has (is_named type_kind n) es e h is in
    let (kind, name) = both (same_kind type_kind (kind_of e.stands_for)) (same_name n e.name) named in
    let same : n ≡ e.name = (bytes_eq-Decides n e.name).0 name in
    subst IsAscii (sym same) (tested e.name (type_has e.name e.stands_for kind has))

-- and so has a module, and the names in it are such
found_module : (m : Name) (es : Environment) (e : Entry) → names_ascii es ≡ true → newest_by (is_named module_kind m) es ≡ Some e → IsAscii m × ScopeIsAscii (inside e)
found_module m es e h is =
    let (named, has) = newest_has (is_named module_kind m) es e h is in
    let (kind, name) = both (same_kind module_kind (kind_of e.stands_for)) (same_name m e.name) named in
    let same : m ≡ e.name = (bytes_eq-Decides m e.name).0 name in
    let (ascii, in_it) = module_has e.name e.stands_for kind has in
    (subst IsAscii (sym same) (tested e.name ascii), in_it)

entry_in : (o : Option Entry) (e : Entry) → found o ≡ an_entry e → o ≡ Some e
entry_in None e h = absurd (cc)
entry_in (Some x) e h = cc

-- what a path of names spells is such where it finds a type
abbrev Spells : List Name → Name → Environment → Type 0
Spells ms n es = (e : Entry) → names_ascii es ≡ true → lookup_by is_named inside es ms type_kind n ≡ an_entry e → IsAscii (dotted ms n)

onward : (ms : List Name) (n : Name) (x : ScopeOf Entry) (e : Entry) → ((es : Environment) → Spells ms n es) → ScopeIsAscii x → found_in (is_named type_kind n) (through x (λ inner. scope_by is_named inside inner ms)) ≡ an_entry e → IsAscii (dotted ms n)
onward ms n (known es) e go h is = go es e h is
onward ms n unknown_scope e go h is = absurd (cc)
onward ms n no_scope e go h is = absurd (cc)

path_ascii : (ms : List Name) (n : Name) (es : Environment) → Spells ms n es
path_ascii [] n es e h is = found_type n es e h (entry_in (newest_by (is_named type_kind n) es) e is)
path_ascii (m ∷ ms) n es e h is = at (newest_by (is_named module_kind m) es) refl (path_ascii ms n)
  where
    at : (o : Option Entry) → newest_by (is_named module_kind m) es ≡ o → ((fs : Environment) → Spells ms n fs) → IsAscii (dotted (m ∷ ms) n)
    at None q go =
        let none : found_in {E = Entry} (is_named type_kind n) no_scope ≡ an_entry e =
        ap (λ (o : Option Entry). found_in (is_named type_kind n) (elim o [ None ↦ no_scope | Some x ↦ through (inside x) (λ inner. scope_by is_named inside inner ms) ])) (sym q) ∙ is in absurd (cc)
    at (Some x) q go =
        let (name, in_it) = found_module m es x h q in
        join (m ++ codes ".") (dotted ms n) (join m (codes ".") name (omega arith, tt)) (onward ms n (inside x) e go in_it
        (ap (λ (o : Option Entry). found_in (is_named type_kind n) (elim o [ None ↦ no_scope | Some y ↦ through (inside y) (λ inner. scope_by is_named inside inner ms) ])) (sym q) ∙ is))

-- so is the name of an origin, where its declared name is such or a path reaches it
pub of_origin : (E : Environment) → names_ascii E ≡ true → (declared : Path → Name) (o : Path) (s : List ℕ) → (IsHidden E o → IsAscii (declared o)) → IsNameOf naming E declared o s → IsAscii s
of_origin E h declared o _ d (shown {p = p} is) = path_ascii p.modules p.name E is.reaches.entry h is.reaches.found
of_origin E h declared o _ d (hidden none) = join (declared o) (codes "/hidden") (d none) (omega arith, (omega arith, (omega arith, (omega arith, (omega arith, (omega arith, (omega arith, tt)))))))

-- values and exceptions in front change nothing
no_type_ascii : (n : Name) (r : Referent) → IsNoType r → referent_ascii n r ≡ true
no_type_ascii n (a_value s) h = refl
no_type_ascii n (an_exception o) h = refl
no_type_ascii n _ h = absurd h

pub values_ascii : (vs E : Environment) → AreNoTypes vs → names_ascii (vs ++ E) ≡ names_ascii E
values_ascii [] E h = refl
values_ascii (v ∷ vs) E h = ap (λ b. b && names_ascii (vs ++ E)) (no_type_ascii v.name v.stands_for h.0) ∙ values_ascii vs E h.1

-- so the names of one that has values and exceptions alone over such a one are such
pub over_ascii : {env E : Environment} → IsOver env E → names_ascii env ≡ true → names_ascii E ≡ true
over_ascii {env = env} over h = ap names_ascii over.is ∙ values_ascii over.front env over.are_no_types ∙ h

-- texts of types

wrap : (b : Bool) (s : List ℕ) → IsAscii s → IsAscii (wrapped b s)
wrap true s h = join (codes "(" ++ s) (codes ")") (join (codes "(") s (omega arith, tt) h) (omega arith, tt)
wrap false s h = h

arrow_sign : IsAscii (codes " -> ")
arrow_sign = (omega arith, (omega arith, (omega arith, (omega arith, tt))))

star_sign : IsAscii (codes " * ")
star_sign = (omega arith, (omega arith, (omega arith, tt)))

comma_sign : IsAscii (codes ", ")
comma_sign = (omega arith, (omega arith, tt))

module _ (ns : Names) (variables : (v : ℕ) → IsAscii (ns.variable v)) where
  mutual
    -- a type's text is such where those of its origins are
    pub text_ascii : (w : Within) (t : Typ) → ((o : Path) → mentions o t ≡ true → IsAscii (ns.origin o)) → IsAscii (text_of ns w t)
    text_ascii w (Var v) h = variables v
    text_ascii w (Arrow a b) h =
        wrap (wraps_arrow w) (text_of ns left_of_arrow a ++ codes " -> " ++ text_of ns alone b)
        (join (text_of ns left_of_arrow a ++ codes " -> ") (text_of ns alone b)
        (join (text_of ns left_of_arrow a) (codes " -> ") (text_ascii left_of_arrow a (λ o m. h o (or_left (mentions o a) (mentions o b) m))) arrow_sign)
        (text_ascii alone b (λ o m. h o (or_right (mentions o a) (mentions o b) m))))
    text_ascii w (Tuple ts) h = wrap (wraps_tuple w) (separated ns inner (codes " * ") ts) (separated_ascii inner (codes " * ") star_sign ts h)
    text_ascii w (Con o ts) h =
        join (arguments_of ns ts) (ns.origin o) (arguments_ascii ts (λ p m. h p (or_right (same_path p o) (mentions_any p ts) m)))
        (h o (or_left (same_path o o) (mentions_any o ts) ((bytes_eq-Decides o o).1 refl)))

    separated_ascii : (w : Within) (between : List ℕ) → IsAscii between → (ts : Typs) → ((o : Path) → mentions_any o ts ≡ true → IsAscii (ns.origin o)) → IsAscii (separated ns w between ts)
    separated_ascii w between s Nil h = tt
    separated_ascii w between s (Cons t ts) h =
        join (text_of ns w t) (rest_of ns w between ts) (text_ascii w t (λ o m. h o (or_left (mentions o t) (mentions_any o ts) m))) (rest_ascii w between s ts (λ o m. h o (or_right (mentions o t) (mentions_any o ts) m)))

    rest_ascii : (w : Within) (between : List ℕ) → IsAscii between → (ts : Typs) → ((o : Path) → mentions_any o ts ≡ true → IsAscii (ns.origin o)) → IsAscii (rest_of ns w between ts)
    rest_ascii w between s Nil h = tt
    rest_ascii w between s (Cons t ts) h =
        join (between ++ text_of ns w t) (rest_of ns w between ts)
        (join between (text_of ns w t) s (text_ascii w t (λ o m. h o (or_left (mentions o t) (mentions_any o ts) m))))
        (rest_ascii w between s ts (λ o m. h o (or_right (mentions o t) (mentions_any o ts) m)))

    arguments_ascii : (ts : Typs) → ((o : Path) → mentions_any o ts ≡ true → IsAscii (ns.origin o)) → IsAscii (arguments_of ns ts)
    arguments_ascii Nil h = tt
    arguments_ascii (Cons t Nil) h = join (text_of ns inner t) (codes " ") (text_ascii inner t (λ o m. h o (or_left (mentions o t) false m))) (omega arith, tt)
    arguments_ascii (Cons t (Cons u us)) h =
        let second : (o : Path) → mentions o u ≡ true → IsAscii (ns.origin o) = λ o m. h o (or_right (mentions o t) (mentions_any o (Cons u us)) (or_left (mentions o u) (mentions_any o us) m)) in
        let later : (o : Path) → mentions_any o us ≡ true → IsAscii (ns.origin o) = λ o m. h o (or_right (mentions o t) (mentions_any o (Cons u us)) (or_right (mentions o u) (mentions_any o us) m)) in
        let first = join (codes "(") (text_of ns alone t) (omega arith, tt) (text_ascii alone t (λ o m. h o (or_left (mentions o t) (mentions_any o (Cons u us)) m))) in
        let both_first = join (codes "(" ++ text_of ns alone t ++ codes ", ") (text_of ns alone u) (join (codes "(" ++ text_of ns alone t) (codes ", ") first comma_sign) (text_ascii alone u second) in
        join (codes "(" ++ text_of ns alone t ++ codes ", " ++ text_of ns alone u ++ rest_of ns alone (codes ", ") us) (codes ") ")
        (join (codes "(" ++ text_of ns alone t ++ codes ", " ++ text_of ns alone u) (rest_of ns alone (codes ", ") us) both_first (rest_ascii alone (codes ", ") comma_sign us later)) (omega arith, (omega arith, tt))
