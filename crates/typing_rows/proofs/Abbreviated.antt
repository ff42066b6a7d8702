-- An abbreviation over arguments: an instance of its root, whose parameters are made one with them.
use Rattle.std.proofs.Common.{◌≡◌, ◌∙◌, ◌++◌, inl, inr, ℕ, zero, suc, ◌+◌, ◌<◌, Bool, true, List, [], ◌∷◌, length, map, Some, refl, sym, ap, subst, arith, if◌then◌else◌}
use Rattle.std.specs.Prelude.{slice_get}
use Rattle.type_model.specs.Types.{Path, Typ, Typs, types_of, occurs}
use Rattle.type_model.specs.Types.{Typ as type, Typs as types}
use Rattle.type_model.specs.Substitutions.{Subst, apply, apply_all}
use Rattle.type_model.proofs.Applying.{eqb_same}
use Rattle.typing_laws.proofs.Bools.{no_yes}
use Rattle.signature_model.specs.Declarations as rules
use Rattle.signature_model.specs.Declarations.{type_of, parameters_from}
use Rattle.signature_model.specs.Changes.{argument}
use Rattle.signature_model.specs.Matching.{used, all_used}
use Rattle.typing_model.specs.Contexts.{Choice}
use Rattle.type_nodes.specs.Nodes.{Node, Tuple, IsNode, IsSound}
use Rattle.type_nodes.specs.Links.{reading}
use Rattle.type_nodes.specs.Readings.{Types, Fits}
use Rattle.level_unify.specs.Instances.{Instantiated}
use Rattle.level_unify.proofs.Unified.{fits_loosely}
use Rattle.env_table.specs.declared.entries.Declaration.{Declaration}
use Rattle.typing_state.specs.declared.parts.Parts.{Parts}
use Rattle.typing_state.specs.Goes.{OnlyStore}
use Rattle.typing_state.specs.Types.{level_for}
use Rattle.typing_conditions.specs.Locals.{IsOwn, all_pass}
use Rattle.level_unify.specs.Solutions.{Loose}
use Rattle.typing_conditions.proofs.Regions.{passes, passed}
use Rattle.typing_conditions.proofs.Steps.{true_or_false}
use Rattle.typing_conditions.proofs.Stays.{stays_closed}
use Rattle.typing_conditions.proofs.Hiding.{no_row}
use Rattle.typing_conditions.proofs.Own.{own_of}
use Rattle.typing_conditions.specs.Declared.{NoneUnknown, IsNamed, a_parameter, an_unknown, RootAs, and_last, with_parameters, DeclaredAs}
use Rattle.typing_conditions.proofs.Roots.{own_reads}
use Rattle.typing_conditions.proofs.Taking.{take_complete}
use Rattle.typing_conditions.specs.Sights.{Sight, Key, own, value_of, Letters, IsKnownFor, AreGiven, Agrees}
use Rattle.typing_conditions.specs.Frames.{Frame, Reaches, IsRoot}
use Rattle.typing_conditions.specs.Meanings.{Means, AllMean, none_mean, one_means, types_by}
use Rattle.typing_conditions.specs.Carrying.{Scope, Carried}
use Rattle.typing_conditions.proofs.Carried.{carried_trans, carried_dropped, means_dropped}
use Rattle.typing_conditions.proofs.Meaning.{means_on, all_mean_on, all_open}
use Rattle.typing_steps.specs.States.{sight}
use Rattle.typing_steps.proofs.Seeing.{only_nodes, level_here}
use Rattle.typing_rows.specs.TypeContracts.{types_at}
use Rattle.typing_rows.specs.Declaring.{applied_by, AppliedAs, AppliesTo}
use Rattle.typing_rows.proofs.Composed.{as_many}
use Rattle.typing_rows.proofs.Parameters.{is_parameter, last_is_more, parameter_at, argument_means, same_there}
use Rattle.typing_steps.proofs.Used.{UsedWith, key_by, root_used}
use Rattle.typing_rows.proofs.Filled.{each_reports, reads_tuple, types_same, tuple_is, tuple_means, JoinsEach, each_joined, each_alike}
use Rattle.typing_rows.proofs.Declared.{node_at, argument_at, parameters_used}

-- types with one more behind them, as a list
last_of_list : (xs : List Typ) (t : Typ) → and_last (types_of xs) t ≡ types_of (xs ++ t ∷ [])
last_of_list [] t = refl
last_of_list (x ∷ xs) t = ap (types.Cons x) (last_of_list xs t)

-- the uses of types with one more behind them
last_used : (s : Subst) (f : Path → Typ) (us : Typs) (t : Typ) → all_used s f (and_last us t) ≡ and_last (all_used s f us) (used s f t)
last_used s f types.Nil t = refl
last_used s f (types.Cons u us) t = ap (types.Cons (used s f u)) (last_used s f us t)

-- what a root over parameters stands for, as it is used over types
parameters_given : (k : ℕ) (xs : List Typ) (s : Subst) (f : Path → Typ) (t : Typ) → all_used s f (parameters_from 0 (suc k)) ≡ types_of xs → used s f (with_parameters (suc k) t) ≡ type.Tuple (types_of (xs ++ used s f t ∷ []))
parameters_given k xs s f t e = ap type.Tuple (last_used s f (parameters_from 0 (suc k)) t ∙ ap (λ us. and_last us (used s f t)) e ∙ last_of_list xs (used s f t))

-- the types of nodes with one more, by a choice
types_by_last : (ch : Choice) (ns : List ℕ) (t : Choice → Typ) → types_by ch (types_at ns ++ t ∷ []) ≡ map ch.type_at ns ++ t ch ∷ []
types_by_last ch [] t = refl
types_by_last ch (n ∷ ns) t = ap (λ ts. ch.type_at n ∷ ts) (types_by_last ch ns t)

-- how many types there are
abbrev count : Typs → ℕ
count types.Nil = 0
count (types.Cons t ts) = suc (count ts)

count_list : (ts : List Typ) → count (types_of ts) ≡ length ts
count_list [] = refl
count_list (t ∷ ts) = ap suc (count_list ts)

count_applied : (s : Subst) (ts : Typs) → count (apply_all s ts) ≡ count ts
count_applied s types.Nil = refl
count_applied s (types.Cons t ts) = ap suc (count_applied s ts)

count_last : (ts : Typs) (t : Typ) → count (and_last ts t) ≡ suc (count ts)
count_last types.Nil t = refl
count_last (types.Cons u us) t = ap suc (count_last us t)

count_parameters : (j k : ℕ) → count (parameters_from j k) ≡ k
count_parameters j zero = refl
count_parameters j (suc k) = ap suc (count_parameters (j + 1) k)

length_map : {A B : Type 0} (f : A → B) (xs : List A) → length (map f xs) ≡ length xs
length_map f [] = refl
length_map f (x ∷ xs) = ap suc (length_map f xs)

length_last : {A : Type 0} (xs : List A) (x : A) → length (xs ++ x ∷ []) ≡ suc (length xs)
length_last [] x = refl
length_last (y ∷ ys) x = ap suc (length_last ys x)

-- a list that isn't empty, by its last item
record HasLast (xs : List ℕ) (k : ℕ) : Type 0 where
  pub front : List ℕ
  pub last : ℕ
  pub is : xs ≡ front ++ last ∷ []
  pub many : length front ≡ k

has_last : (xs : List ℕ) (k : ℕ) → length xs ≡ suc k → HasLast xs k
has_last [] k e = absurd (cc)
has_last (x ∷ []) k e = record { front = []; last = x; is = refl; many = (let f : 0 ≡ k = cc in f) }
has_last (x ∷ y ∷ ys) zero e = absurd (cc)
has_last (x ∷ y ∷ ys) (suc k) e = let h = has_last (y ∷ ys) k (let f : suc (length ys) ≡ suc k = cc in f) in record { front = x ∷ h.front; last = h.last; is = ap (λ zs. x ∷ zs) h.is; many = ap suc h.many }

-- nodes that have types, and one more
record MeansLast (F : Frame) (b : Sight) (G : Letters) (ns ps : List ℕ) (t : Choice → Typ) (m : ℕ) : Type 0 where
  pub front : AllMean F b G (types_at ns) ps
  pub last : Means F b G t m

means_last : {F : Frame} {b : Sight} {G : Letters} (ns ps : List ℕ) (t : Choice → Typ) (m : ℕ) → length ns ≡ length ps → AllMean F b G (types_at ns ++ t ∷ []) (ps ++ m ∷ []) → MeansLast F b G ns ps t m
means_last [] [] t m many (one_means h hs) = record { front = none_mean; last = h }
means_last [] (p ∷ ps) t m many all = absurd (cc)
means_last (n ∷ ns) [] t m many all = absurd (cc)
means_last (n ∷ ns) (p ∷ ps) t m many (one_means h hs) = let x = means_last ns ps t m (let f : length ns ≡ length ps = cc in f) hs in record { front = one_means h x.front; last = x.last }

-- types before the last ones are the same
front_same : (W : Types) (ps : List ℕ) (m : ℕ) (xs : List Typ) (t : Typ) → length ps ≡ length xs → map W (ps ++ m ∷ []) ≡ xs ++ t ∷ [] → map W ps ≡ xs
front_same W [] m [] t many e = refl
front_same W [] m (x ∷ xs) t many e = absurd (cc)
front_same W (p ∷ ps) m [] t many e = absurd (cc)
front_same W (p ∷ ps) m (x ∷ xs) t many e =
    let f : W p ≡ x = cc in
    let g : map W (ps ++ m ∷ []) ≡ xs ++ t ∷ [] = cc in
    (λ i. f i ∷ front_same W ps m xs t (let h : length ps ≡ length xs = cc in h) g i)

-- what becomes a tuple by names is one
tuple_inside : {nodes : List Node} {I N : Types} {C : List ℕ} {arity r : ℕ} {t : Typ} (ts : Typs) → t ≡ type.Tuple ts → RootAs nodes C N arity r t → IsOwn nodes I → (us : Typs) × (I r ≡ type.Tuple us) × (apply_all N us ≡ ts)
tuple_inside {nodes} {I} {N} {C} {arity} {r} {t} ts e root owned = by (I r) refl
  where
    by : (z : Typ) → I r ≡ z → (us : Typs) × (I r ≡ type.Tuple us) × (apply_all N us ≡ ts)
    by (type.Var v) f = absurd (named (root.named I owned v (ap (occurs v) f ∙ eqb_same v)))
      where
        name_is : N v ≡ type.Tuple ts
        name_is = sym (root.is I owned ∙ ap (apply N) f) ∙ e

        named : IsNamed nodes N arity v → ⊥
        named (a_parameter scope k at other lt is) = let h : type.Var k ≡ type.Tuple ts = sym is ∙ name_is in cc
        named (an_unknown o at u is) = let h : type.Con o types.Nil ≡ type.Tuple ts = sym is ∙ name_is in cc
    by (type.Arrow p q) f = absurd (let h : type.Arrow (apply N p) (apply N q) ≡ type.Tuple ts = sym (root.is I owned ∙ ap (apply N) f) ∙ e in cc)
    by (type.Tuple us) f = (us, f, let h : type.Tuple (apply_all N us) ≡ type.Tuple ts = sym (root.is I owned ∙ ap (apply N) f) ∙ e in cc)
    by (type.Con o us) f = absurd (let h : type.Con o (apply_all N us) ≡ type.Tuple ts = sym (root.is I owned ∙ ap (apply N) f) ∙ e in cc)

-- the types of nodes are the same by types that are the same there
map_same : (V W : Types) (k : ℕ) (ms : List ℕ) → ((m : ℕ) → m < k → W m ≡ V m) → ((i m : ℕ) → slice_get ms i ≡ Some m → m < k) → map V ms ≡ map W ms
map_same V W k [] same inside = refl
map_same V W k (m ∷ ms) same inside = (λ i. sym (same m (inside 0 m refl)) i ∷ map_same V W k ms same (λ j n e. inside (suc j) n e) i)

-- what is chosen for the name of a variable of the root: for a parameter the type of its argument's node
abbrev key_for : ℕ → List ℕ → Typ → Key
key_for n ns name = key_by (λ k. own (node_at ns k)) n name

known_for : (n : ℕ) (ns : List ℕ) (name t : Typ) → IsKnownFor (key_for n ns name) t
known_for n ns (type.Var k) t = tt
known_for n ns (type.Arrow x y) t = tt
known_for n ns (type.Tuple ts) t = tt
known_for n ns (type.Con o ts) t = tt

named_for : {nodes : List Node} {N : Types} {v : ℕ} (n : ℕ) (ns : List ℕ) (ch : Choice) → IsNamed nodes N (length ns) v → value_of ch (key_for n ns (N v)) ≡ used (argument (types_of (map ch.type_at ns))) (ch.filled n) (N v)
named_for n ns ch (a_parameter scope k at other lt is) =
    ap (λ x. value_of ch (key_for n ns x)) is ∙ sym (argument_at ch.type_at ns k lt) ∙ sym (ap (used (argument (types_of (map ch.type_at ns))) (ch.filled n)) is)
named_for n ns ch (an_unknown o at u is) =
    ap (λ x. value_of ch (key_for n ns x)) is ∙ sym (ap (used (argument (types_of (map ch.type_at ns))) (ch.filled n)) is ∙ ap (λ (b : _). if b then ch.filled n o else type.Con o types.Nil) u)

-- parameters that are used over the types of nodes are these
nodes_used : (g : ℕ → Typ) (ns : List ℕ) (f : Path → Typ) → all_used (argument (types_of (map g ns))) f (parameters_from 0 (length ns)) ≡ types_of (map g ns)
nodes_used g ns f = parameters_used (argument (types_of (map g ns))) f g ns 0 (λ i lt. ap (argument (types_of (map g ns))) (let e : 0 + i ≡ i = omega arith in e) ∙ argument_at g ns i lt)

-- what the root stands for, as it is used over the types of nodes
root_given : (g : ℕ → Typ) (ns : List ℕ) (f : Path → Typ) (k : ℕ) (t : Typ) → length ns ≡ suc k → used (argument (types_of (map g ns))) f (with_parameters (suc k) t) ≡ type.Tuple (types_of (map g ns ++ used (argument (types_of (map g ns))) f t ∷ []))
root_given g ns f k t many = parameters_given k (map g ns) (argument (types_of (map g ns))) f t (ap (λ j. all_used (argument (types_of (map g ns))) f (parameters_from 0 j)) (sym many) ∙ nodes_used g ns f)

-- An abbreviation over arguments: an instance of its root, each of whose parameters is made one with an argument.
module _ (a b d : Parts) (decl : Declaration) (tup x : ℕ) (xs : List ℕ) (m : ℕ) (taken : IsNode a.store.nodes decl.root.0 → Instantiated a.store.nodes b.store.nodes decl.root.0 (level_for a.level) tup) (sound : IsNode a.store.nodes decl.root.0 → IsSound b.store.nodes) (rest : OnlyStore a b)
    (fills : (ps : List ℕ) (body : ℕ) → IsNode b.store.nodes tup → reading b.store.nodes tup ≡ Some (Tuple (ps ++ body ∷ [])) → length ps ≡ suc (length xs) → JoinsEach (sight b) (sight d) ps (x ∷ xs) × (m ≡ body)) where
  abbrev args : List ℕ
  args = x ∷ xs

  module _ (F : Frame) (scope : Scope) (G : Letters) (n : ℕ) (ns roots : List ℕ) (names : Types) (e : rules.Declaration) (reached : Reaches F (sight a)) (alike : DeclaredAs a.store.nodes roots names decl e) (are_roots : (k r : ℕ) → slice_get roots k ≡ Some r → IsRoot F (sight a) r)
      (many : length ns ≡ e.arity) (all : AllMean F (sight a) G (types_at ns) args) where
    counted : length ns ≡ suc (length xs)
    counted = as_many ns args all

    arity_is : e.arity ≡ suc (length xs)
    arity_is = sym many ∙ counted

    root_as : RootAs a.store.nodes roots names (length ns) decl.root.0 (with_parameters (suc (length xs)) (type_of e))
    root_as = subst (λ k. RootAs a.store.nodes roots names (length ns) decl.root.0 (with_parameters k (type_of e))) arity_is (subst (λ k. RootAs a.store.nodes roots names k decl.root.0 (with_parameters e.arity (type_of e))) (sym many) alike.root)

    root_is : IsRoot F (sight a) decl.root.0
    root_is = let (i, at) = alike.root.among in are_roots i decl.root.0 at

    instance : Instantiated a.store.nodes b.store.nodes decl.root.0 F.level tup
    instance = subst (λ l. Instantiated a.store.nodes b.store.nodes decl.root.0 l tup) (level_here a reached) (taken root_is.inside)

    sound_b : IsSound b.store.nodes
    sound_b = sound root_is.inside

    uses : UsedWith (λ v. key_for n ns (names v)) F scope (sight a) G (sight b) decl.root.0 (λ ch. used (argument (types_of (map ch.type_at ns))) (ch.filled n) (with_parameters (suc (length xs)) (type_of e))) tup
    uses = root_used {scope = scope} (λ v. key_for n ns (names v)) (λ v t. known_for n ns (names v) t) (λ ch. argument (types_of (map ch.type_at ns))) (λ ch. ch.filled n) (λ ch J o v h. named_for n ns ch (root_as.named J o v h)) reached root_is root_as sound_b instance (only_nodes a b rest)

    abbrev types_all : List (Choice → Typ)
    types_all = types_at ns ++ applied_by n ns (type_of e) ∷ []

    -- the instance has the tuple of the arguments' types and the type of the use
    tuple_typed : Means F (sight b) (uses.letters ++ G) (λ ch. type.Tuple (types_of (types_by ch types_all))) tup
    tuple_typed = record {
      open_node = uses.typed.means.open_node;
      is = λ V ch loose g. ap (λ ts. type.Tuple (types_of ts)) (types_by_last ch ns (applied_by n ns (type_of e))) ∙ sym (root_given ch.type_at ns (ch.filled n) (length xs) (type_of e) counted) ∙ uses.typed.means.is V ch loose g;
    }

    own_a : (J : Types) × IsOwn a.store.nodes J
    own_a = own_of a.store.nodes reached.sound

    own_b : (J : Types) × IsOwn b.store.nodes J
    own_b = own_of b.store.nodes sound_b

    -- so it reads as a tuple of that many parts
    parts : (qs : List ℕ) × (reading b.store.nodes tup ≡ Some (Tuple qs)) × (length qs ≡ suc (suc (length xs)))
    parts =
        let (u, copy) = uses.copies own_a.0 own_b.0 own_a.1 own_b.1 in
        let (us, inside, applied) = tuple_inside (and_last (parameters_from 0 (suc (length xs))) (type_of e)) refl root_as own_a.1 in
        let is : own_b.0 tup ≡ type.Tuple (apply_all u us) = copy ∙ ap (apply u) inside in
        let (qs, reads) = reads_tuple b.store.nodes own_b.0 tup (apply_all u us) sound_b own_b.1 uses.typed.means.open_node.inside is in
        let same : types_of (map own_b.0 qs) ≡ apply_all u us = (let f : type.Tuple (types_of (map own_b.0 qs)) ≡ type.Tuple (apply_all u us) = sym (tuple_is b.store.nodes own_b.0 tup qs own_b.1.loose reads) ∙ is in cc) in
        (qs, reads, sym (length_map own_b.0 qs) ∙ sym (count_list (map own_b.0 qs)) ∙ ap count same ∙ count_applied u us ∙ sym (count_applied names us) ∙ ap count applied ∙ count_last (parameters_from 0 (suc (length xs))) (type_of e) ∙ ap suc (count_parameters 0 (suc (length xs))))

    split : HasLast parts.0 (suc (length xs))
    split = has_last parts.0 (suc (length xs)) parts.2

    reads_split : reading b.store.nodes tup ≡ Some (Tuple (split.front ++ split.last ∷ []))
    reads_split = parts.1 ∙ ap (λ qs. Some (Tuple qs)) split.is

    typed : MeansLast F (sight b) (uses.letters ++ G) ns split.front (applied_by n ns (type_of e)) split.last
    typed = means_last ns split.front (applied_by n ns (type_of e)) split.last (counted ∙ sym split.many)
        (tuple_means types_all (split.front ++ split.last ∷ []) (length_last (types_at ns) (applied_by n ns (type_of e)) ∙ ap suc (length_map {B = Choice → Typ} (λ (k : ℕ) (ch : Choice). ch.type_at k) ns ∙ counted ∙ sym split.many) ∙ sym (length_last split.front split.last)) tuple_typed reads_split)

    filled_so : JoinsEach (sight b) (sight d) split.front args × (m ≡ split.last)
    filled_so = fills split.front split.last uses.typed.means.open_node.inside reads_split split.many

    -- types that fit in which the parameters have the types of the arguments
    witness : (W : Types) × Fits b.store.nodes W × (map W split.front ≡ map W args)
    witness =
        let I = own_a.0 in
        let s = argument (types_of (map I args)) in
        let f : Path → Typ = λ o. type.Var 0 in
        let (W, fits, same, is) = take_complete own_a.1 root_as instance I s f (own_reads a.store.nodes I own_a.1).fits in
        let shape = root_given I args f (length xs) (type_of e) refl in
        let here : type.Tuple (types_of (map W (split.front ++ split.last ∷ []))) ≡ type.Tuple (types_of (map I args ++ used s f (type_of e) ∷ [])) =
        sym (tuple_is b.store.nodes W tup (split.front ++ split.last ∷ []) (fits_loosely b.store.nodes W fits) reads_split) ∙ is ∙ shape in
        let listed : map W (split.front ++ split.last ∷ []) ≡ map I args ++ used s f (type_of e) ∷ [] =
        types_same (map W (split.front ++ split.last ∷ [])) (map I args ++ used s f (type_of e) ∷ []) (let g : types_of (map W (split.front ++ split.last ∷ [])) ≡ types_of (map I args ++ used s f (type_of e) ∷ []) = cc in g) in
        (W, fits, front_same W split.front split.last (map I args) (used s f (type_of e)) (split.many ∙ sym (length_map I args)) listed ∙ map_same I W (length a.store.nodes) args same (λ i k at. (all_open all i k at).inside))

    joined : Carried F scope (λ c. []) (sight b) (uses.letters ++ G) (sight d) (uses.letters ++ G)
    joined = each_joined {scope = scope} (types_at ns) split.front args witness.0 witness.1 witness.2 typed.front (all_mean_on uses.typed.carried.stays all) filled_so.0

    whole : Carried F scope (λ c. []) (sight a) G (sight d) (uses.letters ++ G)
    whole = carried_trans uses.typed.carried joined

    means : Means F (sight d) (uses.letters ++ G) (applied_by n ns (type_of e)) m
    means = subst (λ k. Means F (sight d) (uses.letters ++ G) (applied_by n ns (type_of e)) k) (sym filled_so.1) (means_on joined.stays typed.last)

    -- whether each variable of the root is a parameter
    abbrev test : Bool
    test = all_pass (λ v. is_parameter (names v)) (uses.types decl.root.0)

    -- a variable of the root that is a parameter has the type of its argument
    as_argument : (V : Types) (ch : Choice) → Loose d.store.nodes V → Agrees F.owner (sight d) G V ch → (v k : ℕ) → occurs v (uses.types decl.root.0) ≡ true → k < length ns → names v ≡ type.Var k → value_of ch (key_for n ns (names v)) ≡ V (uses.image v)
    as_argument V ch loose g v k o lt is =
        let loose_b = joined.stays.loose V loose in
        let (us, inside, applied) = tuple_inside (and_last (parameters_from 0 (suc (length xs))) (type_of e)) refl root_as uses.own_types in
        let u : Subst = λ w. V (uses.image w) in
        let listed : types_of (map V (split.front ++ split.last ∷ [])) ≡ apply_all u us =
        (let f : type.Tuple (types_of (map V (split.front ++ split.last ∷ []))) ≡ type.Tuple (apply_all u us) = sym (tuple_is b.store.nodes V tup (split.front ++ split.last ∷ []) loose_b reads_split) ∙ uses.copy V loose_b ∙ ap (apply u) inside in cc) in
        let less : k < suc (length xs) = (let c = counted in omega arith) in
        let (w, there, named, has) = parameter_at names V u us 0 (suc (length xs)) (types.Cons (type_of e) types.Nil) split.front (split.last ∷ []) (applied ∙ last_is_more (parameters_from 0 (suc (length xs))) (type_of e)) listed split.many k less in
        let one : w ≡ v = root_as.apart uses.types uses.own_types w v (ap (occurs w) inside ∙ there) o (named ∙ ap (λ z. type.Var z) (let f : 0 + k ≡ k = omega arith in f) ∙ sym is) in
        let alike = each_alike (sight d) (types_at ns) split.front args witness.0 witness.1 witness.2 typed.front (all_mean_on uses.typed.carried.stays all) filled_so.0 scope V loose in
        ap (λ x. value_of ch (key_for n ns x)) is ∙ argument_means ns args (all_mean_on (stays_closed uses.letters whole.stays) all) k lt V ch loose g ∙
        sym (same_there V split.front args alike k (let c = split.many in omega arith)) ∙ has ∙ ap u one

    named_parameter : (v : ℕ) → is_parameter (names v) ≡ true → IsNamed a.store.nodes names (length ns) v → (k : ℕ) × (k < length ns) × (names v ≡ type.Var k)
    named_parameter v h (a_parameter scope k at other lt is) = (k, lt, is)
    named_parameter v h (an_unknown o at u is) = absurd (no_yes (sym (ap is_parameter is) ∙ h))

    -- so no letter is wanted
    implied : test ≡ true → (V : Types) (ch : Choice) → Loose d.store.nodes V → Agrees F.owner (sight d) G V ch → AreGiven uses.letters V ch
    implied h V ch loose g = uses.given V ch (λ v o.
        let (k, lt, is) = named_parameter v (passed (λ w. is_parameter (names w)) (uses.types decl.root.0) v h o) (root_as.named uses.types uses.own_types v o) in
        as_argument V ch loose g v k o lt is)

    -- where no name is an unknown type each variable is one
    all_parameters : NoneUnknown names → test ≡ true
    all_parameters plain = passes (λ w. is_parameter (names w)) (uses.types decl.root.0) (λ v o. by v (root_as.named uses.types uses.own_types v o))
      where
        by : (v : ℕ) → IsNamed a.store.nodes names (length ns) v → is_parameter (names v) ≡ true
        by v (a_parameter scope k at other lt is) = ap is_parameter is
        by v (an_unknown o at u is) = absurd (plain v o u is)

    pub filled_applied : AppliedAs names F scope (sight a) G (sight d) n ns (type_of e) m
    filled_applied = elim (true_or_false test) [
      | inl h ↦ record { letters = []; typed = record { carried = carried_dropped uses.letters (implied h) whole (each_reports (sight b) (sight d) split.front args filled_so.0 ∙ (only_nodes a b rest).reports); means = means_dropped uses.letters (implied h) means }; of_row = λ plain. no_row n }
      | inr h ↦ record { letters = uses.letters; typed = record { carried = whole; means = means }; of_row = λ plain. absurd (no_yes (sym h ∙ all_parameters plain)) }
    ]

-- so a call that does this applies the declaration
pub arguments_applied : (a b d : Parts) (decl : Declaration) (tup x : ℕ) (xs : List ℕ) (m : ℕ) → (IsNode a.store.nodes decl.root.0 → Instantiated a.store.nodes b.store.nodes decl.root.0 (level_for a.level) tup) → (IsNode a.store.nodes decl.root.0 → IsSound b.store.nodes) → OnlyStore a b →
    ((ps : List ℕ) (body : ℕ) → IsNode b.store.nodes tup → reading b.store.nodes tup ≡ Some (Tuple (ps ++ body ∷ [])) → length ps ≡ suc (length xs) → JoinsEach (sight b) (sight d) ps (x ∷ xs) × (m ≡ body)) → AppliesTo a d decl (x ∷ xs) m
arguments_applied a b d decl tup x xs m taken sound rest fills = λ F scope G n ns roots names e reached alike are_roots many all. filled_applied a b d decl tup x xs m taken sound rest fills F scope G n ns roots names e reached alike are_roots many all
