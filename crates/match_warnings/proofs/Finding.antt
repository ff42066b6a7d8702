-- What calls find of patterns, one after another.
use Rattle.std.proofs.Common.{◌≡◌, ◌∙◌, ◌++◌, ◌+◌, ◌<◌, ℕ, Bool, true, false, List, [], ◌∷◌, map, length, drop, get_or, Option, Some, None, Vec, Global, refl, sym, ap, subst, append_assoc, append-nil}
use Rattle.std.specs.Prelude.{IfOk, IfSome, OnOk, Result, Ok, Err}
use Rattle.std.specs.declared.rc.Rc.{Rc}
use Rattle.std.proofs.lemmas.List.{drop_more}
use Rattle.std.proofs.lemmas.List.Elements.{All-push}
use Rattle.text_terms.specs.Bytes.{str_bytes}
use Rattle.token_model.specs.Kinds.{Tok}
use Rattle.type_model.specs.Types as types
use Rattle.signature_model.specs.Entries.{constructor_kind}
use Rattle.signature_model.specs.Lookups.{FoundAmong, lookup_by}
use Rattle.row_parts.specs.Numbered as parts
use Rattle.typing_state.specs.Bound.{names_of_tokens}
use Rattle.env_table.specs.Views.{is_named, inside}
use Rattle.type_terms.specs.declared.types.Origin.{Origin}
use Rattle.type_terms.specs.Views.{path_of}
use Rattle.env_table.specs.declared.entries.Constructor.{Constructor}
use Rattle.env_table.specs.declared.entries.Declaration.{Declaration}
use Rattle.env_table.specs.declared.entries.Entry.{Entry}
use Rattle.env_table.specs.declared.entries.Shape.{Shape}
use Rattle.env_table.specs.declared.entries.Shape.TheVariants as shape
use Rattle.env_table.specs.declared.entries.What.{What}
use Rattle.env_table.specs.declared.entries.What.TheVariants as what
use Rattle.pattern_matrix.specs.Lines.{Member, Typed, con, listed}
use Rattle.pattern_matrix.specs.Views.{members_of}
use Rattle.match_warnings.specs.declared.pats.SeenType.{SeenType}
use Rattle.match_warnings.specs.Patterns.{HasMembers, AreShared, Finds, FindsBy, and_others, by_entry, constructor_found, MembersAre, MembersOf, declared_member, exception_named, is_of_unknown_type, shaped}

-- some patterns before others, where these are all there
abbrev pub after : List Typed → Option (List Typed) → Option (List Typed)
after ps None = None
after ps (Some qs) = Some (ps ++ qs)

-- The first patterns were found, and with what is left they are those that are wanted.
abbrev pub FindsFirst : List Entry → (old new : List SeenType) → List Typed → (left all : Option (List Typed)) → Type 0
FindsFirst env old new ps left all = (members : types.Path → List Member) → HasMembers members env → AreShared members old → (after ps left ≡ all) × AreShared members new

-- what is found where nothing is shared
pub finds_same : {A : Type 0} (env : List Entry) (seen : List SeenType) (found wanted : A) → found ≡ wanted → Finds env seen seen found wanted
finds_same env seen found wanted e = λ members has shared. (e, shared)

-- the same of a call's result
pub ok_finds_same : {A B E : Type 0} (r : Result A E) (f : A → B) (env : List Entry) (seen : List SeenType) (got wanted : B) → got ≡ wanted → IfOk r (λ x. f x ≡ got) → IfOk r (λ x. Finds env seen seen (f x) wanted)
ok_finds_same (Ok x) f env seen got wanted e h = finds_same env seen (f x) wanted (h ∙ e)
ok_finds_same (Err y) f env seen got wanted e h = tt

-- what is wanted in other words
pub ok_finds_as : {A B E : Type 0} (r : Result A E) (f : A → B) (env : List Entry) (old new : List SeenType) (got wanted : B) → got ≡ wanted → IfOk r (λ x. Finds env old new (f x) got) → IfOk r (λ x. Finds env old new (f x) wanted)
ok_finds_as r f env old new got wanted e h = subst (λ w. IfOk r (λ x. Finds env old new (f x) w)) e h

-- no pattern before others
after_none : (left : Option (List Typed)) → after [] left ≡ left
after_none None = refl
after_none (Some ps) = refl

-- no pattern is found yet
pub finds_begin : (env : List Entry) (seen : List SeenType) (all : Option (List Typed)) → FindsFirst env seen seen [] all all
finds_begin env seen all = λ members has shared. (after_none all, shared)

-- a pattern before those that are left is one after those that were found
after_more : (ps : List Typed) (p : Typed) (rest : Option (List Typed)) → after (ps ++ p ∷ []) rest ≡ after ps (and_others (Some p) rest)
after_more ps p None = refl
after_more ps p (Some qs) = ap Some (append_assoc ps (p ∷ []) qs)

-- one pattern more is found
pub finds_more : (env : List Entry) (old mid new : List SeenType) (ps : List Typed) (p : Typed) (q : Option Typed) (left rest all : Option (List Typed)) → left ≡ and_others q rest →
    FindsFirst env old mid ps left all → Finds env mid new (Some p) q → FindsFirst env old new (ps ++ p ∷ []) rest all
finds_more env old mid new ps p q left rest all e first found = λ members has shared.
    let h = first members has shared in
    let g = found members has h.1 in
    (after_more ps p rest ∙ ap (λ x. after ps (and_others x rest)) g.0 ∙ sym (ap (after ps) e) ∙ h.0, g.1)

-- a pattern isn't there
pub finds_none : (env : List Entry) (old mid new : List SeenType) (ps : List Typed) (q : Option Typed) (left rest all : Option (List Typed)) → left ≡ and_others q rest →
    FindsFirst env old mid ps left all → Finds env mid new None q → Finds env old new None all
finds_none env old mid new ps q left rest all e first found = λ members has shared.
    let h = first members has shared in
    let g = found members has h.1 in
    (ap (λ x. after ps (and_others x rest)) g.0 ∙ sym (ap (after ps) e) ∙ h.0, g.1)

-- nothing is left
pub finds_all : (env : List Entry) (old new : List SeenType) (ps : List Typed) (left all : Option (List Typed)) → left ≡ Some [] → FindsFirst env old new ps left all → Finds env old new (Some ps) all
finds_all env old new ps left all e first = λ members has shared.
    let h = first members has shared in
    (ap Some (sym (append-nil ps)) ∙ sym (ap (after ps) e) ∙ h.0, h.1)

-- a call whose pattern is that of another one, after calls that found its parts
pub finds_then : {A B : Type 0} (env : List Entry) (old mid new : List SeenType) (found wanted : A) (f : A → B) (got : B) → Finds env old mid found wanted → Finds env mid new got (f found) → Finds env old new got (f wanted)
finds_then env old mid new found wanted f got p q = λ members has shared.
    let h = p members has shared in
    let g = q members has h.1 in
    (g.0 ∙ ap f h.0, g.1)

-- ---- constructors

-- what is found where nothing is shared, in other words
pub ok_alone_as : {A B E : Type 0} (r : Result A E) (f : A → B) (P : (types.Path → List Member) → Type 0) (seen : List SeenType) (got wanted : B) → got ≡ wanted → IfOk r (λ x. f x ≡ got) → IfOk r (λ x. FindsBy P seen seen (f x) wanted)
ok_alone_as (Ok x) f P seen got wanted e h = λ members has shared. (h ∙ e, shared)
ok_alone_as (Err y) f P seen got wanted e h = tt

-- constructors that nothing is shared of
pub ok_alone : {A B E : Type 0} (r : Result A E) (f : A → B) (P : (types.Path → List Member) → Type 0) (seen : List SeenType) (wanted : B) → IfOk r (λ x. f x ≡ wanted) → IfOk r (λ x. FindsBy P seen seen (f x) wanted)
ok_alone (Ok x) f P seen wanted e = λ members has shared. (e, shared)
ok_alone (Err y) f P seen wanted e = tt

-- the constructors of an origin, where they are those of a declaration that makes it
pub members_made : (members : types.Path → List Member) (ks : List Member) (origin : Option Origin) (o : Origin) → origin ≡ Some o → IfSome origin (λ q. ks ≡ members (path_of q)) → ks ≡ members (path_of o)
members_made members ks origin o is made = subst (λ q. IfSome q (λ q. ks ≡ members (path_of q))) is made

-- shared ones of an origin
pub ok_shared : {A B E : Type 0} (r : Result A E) (f : A → B) (read : B → List Member) (known : B) (seen : List SeenType) (origin : Option Origin) (o : Origin) (path : types.Path) (ks : List Member) →
    origin ≡ Some o → path ≡ path_of o → ((members : types.Path → List Member) → AreShared members seen → read known ≡ members path) → IfOk r (λ x. f x ≡ known) →
    IfOk r (λ x. FindsBy (λ members. IfSome origin (λ q. ks ≡ members (path_of q))) seen seen (read (f x)) ks)
ok_shared (Ok x) f read known seen origin o path ks is same knows e = λ members made shared.
    (ap read e ∙ knows members shared ∙ ap members same ∙ sym (members_made members ks origin o is made), shared)
ok_shared (Err y) f read known seen origin o path ks is same knows e = tt

-- one more that is shared
pub shared_more : (members : types.Path → List Member) (seen new : List SeenType) (x : SeenType) → new ≡ seen ++ x ∷ [] → AreShared members seen → members_of x.all.value.items ≡ members x.path.items → AreShared members new
shared_more members seen new x e shared is = subst (AreShared members) (sym e) (All-push (λ (s : SeenType). members_of s.all.value.items ≡ members s.path.items) seen x shared is)

-- an entry that isn't declared is an exception
pub by_exception : (e : Entry) (w : What) (n : List ℕ) (ps : List Typed) → ((d : Rc Declaration Global) (k : ℕ) → w ≡ what.Constructor d k → ⊥) → by_entry e w n ps ≡ Some (con [] (exception_named (str_bytes e.name) e.place) (listed ps))
by_exception e (what.Constructor d k) n ps h = absurd (h d k refl)
by_exception e _ n ps h = refl

-- a shape without constructors has none over parts
pub by_no_variant : (unknown : Bool) (s : Shape) (n : List ℕ) (ps : List Typed) → ((ks : Vec Constructor Global) → s ≡ shape.Variant ks → ⊥) → shaped unknown s n ps ≡ None
by_no_variant true s n ps h = refl
by_no_variant false (shape.Variant ks) n ps h = absurd (h ks refl)
by_no_variant false (shape.Labels ls) n ps h = refl
by_no_variant false shape.Opaque n ps h = refl

-- one with constructors has those
pub by_variant : (unknown : Bool) (s : Shape) (ks : Vec Constructor Global) (n : List ℕ) (ps : List Typed) → unknown ≡ false → s ≡ shape.Variant ks → shaped unknown s n ps ≡ Some (con (map declared_member ks.items) n (listed ps))
by_variant unknown s ks n ps known is = ap (λ b. shaped b s n ps) known ∙ ap (λ q. shaped false q n ps) is

-- what is found of an entry of a declared constructor is what is found of its declaration
pub declared_entry : {A E : Type 0} (r : Result A E) (f : A → Option Typed) (e : Entry) (w : What) (d : Rc Declaration Global) (k : ℕ) (declaration : Declaration) (old new : List SeenType) (n : List ℕ) (ps : List Typed) →
    w ≡ what.Constructor d k → declaration ≡ d.value →
    IfOk r (λ x. FindsBy (λ members. MembersOf members declaration) old new (f x) (shaped (is_of_unknown_type declaration) declaration.shape n ps)) → IfOk r (λ x. FindsBy (λ members. MembersAre members w) old new (f x) (by_entry e w n ps))
declared_entry (Ok x) f e w d k declaration old new n ps is same h = λ members are shared.
    let g = h members (subst (MembersOf members) (sym same) (subst (MembersAre members) is are)) shared in
    (g.0 ∙ ap (λ (q : Declaration). shaped (is_of_unknown_type q) q.shape n ps) same ∙ sym (ap (λ q. by_entry e q n ps) is), g.1)
declared_entry (Err y) f e w d k declaration old new n ps is same h = tt

-- what is found of an entry, by what is wanted of it
pub ok_entry : {A E : Type 0} (r : Result A E) (f : A → Option Typed) (members_are : (types.Path → List Member) → Type 0) (env : List Entry) (old new : List SeenType) (got wanted : Option Typed) →
    ((members : types.Path → List Member) → HasMembers members env → members_are members) → got ≡ wanted → IfOk r (λ x. FindsBy members_are old new (f x) got) → IfOk r (λ x. Finds env old new (f x) wanted)
ok_entry (Ok x) f members_are env old new got wanted has e h = λ members is shared. let g = h members (has members is) shared in (g.0 ∙ e, g.1)
ok_entry (Err y) f members_are env old new got wanted has e h = tt

-- what a path finds, by its names
pub looked_up : (env : List Entry) (p : parts.Written) (t : Tok) (modules : List (List ℕ)) (last : List ℕ) (found : FoundAmong Entry) → found ≡ lookup_by is_named inside env modules constructor_kind last → modules ≡ names_of_tokens p.qualifiers → last ≡ t.name → found ≡ constructor_found env p t
looked_up env p t modules last found e m l =
    e ∙ ap (λ ms. lookup_by is_named inside env ms constructor_kind last) m ∙ ap (λ n. lookup_by is_named inside env (names_of_tokens p.qualifiers) constructor_kind n) l

-- a fact, whatever a call's result is
pub ok_with : {A E P : Type 0} (r : Result A E) → P → OnOk r P
ok_with (Ok x) p = p
ok_with (Err y) p = tt

-- what follows from what a call says
pub ok_from : {A E P Q : Type 0} (r : Result A E) → (P → Q) → OnOk r P → OnOk r Q
ok_from (Ok x) f p = f p
ok_from (Err y) f p = tt

-- the next of a list
pub drop_item : {A : Type 0} (xs : List A) (i : ℕ) (x : A) → i < length xs → x ≡ get_or xs i x → drop i xs ≡ x ∷ drop (i + 1) xs
drop_item xs i x within is = drop_more xs i x within ∙ ap (λ y. y ∷ drop (i + 1) xs) (sym is)
