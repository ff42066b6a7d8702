-- A tuple whose parts are made one with other types, as the parameters of an abbreviation are with its arguments.
use Rattle.std.proofs.Common.{◌≡◌, ◌∙◌, ◌⊎◌, inl, inr, ℕ, zero, suc, ◌<◌, true, List, [], ◌∷◌, length, map, get_or, Some, refl, sym, ap, subst, append-nil}
use Rattle.std.specs.Prelude.{slice_get}
use Rattle.std.proofs.lemmas.Option.{slice_get_within}
use Rattle.type_model.specs.Types.{Typ, Typs, types_of, occurs, occurs_any}
use Rattle.type_model.specs.Types.{Typ as type}
use Rattle.type_model.proofs.Applying.{or_left, or_right}
use Rattle.typing_model.specs.Contexts.{Choice}
use Rattle.type_nodes.specs.Nodes.{Node, Var, Rigid, Link, Arrow, Tuple, Con, IsSound}
use Rattle.type_nodes.specs.Links.{root, reading}
use Rattle.type_nodes.specs.Readings.{Types, Fits}
use Rattle.type_nodes.proofs.Roots.{closed_root, root_inside, root_no_link}
use Rattle.level_unify.specs.Solutions.{Loose, FitsLoosely, Tightens}
use Rattle.level_unify.specs.Unification.{Unified, NeverAlike}
use Rattle.level_unify.proofs.Solving.{loose_root}
use Rattle.level_unify.proofs.Steps.{cell_at}
use Rattle.level_unify.proofs.Unified.{fits_loosely, fits_under, under_fits}
use Rattle.typing_conditions.specs.Locals.{IsOwn}
use Rattle.typing_conditions.proofs.Own.{own_of}
use Rattle.typing_conditions.specs.Sights.{Sight, Letters, Agrees}
use Rattle.typing_conditions.specs.Frames.{Frame, IsOpen}
use Rattle.typing_conditions.specs.Meanings.{Means, AllMean, none_mean, one_means, types_by}
use Rattle.typing_conditions.specs.Judging.{judgements, StartsWith}
use Rattle.typing_conditions.specs.Steps.{OnlyNodes}
use Rattle.typing_conditions.specs.Carrying.{Scope, Carried}
use Rattle.typing_conditions.proofs.Carried.{carried_refl, carried_trans, take_none}
use Rattle.typing_conditions.proofs.First.{starts_none}
use Rattle.typing_conditions.proofs.Framing.{no_bound}
use Rattle.typing_conditions.proofs.Meaning.{all_mean_on, agrees_same}
use Rattle.typing_conditions.proofs.Equals.{loose_one, unified_stays}
use Rattle.typing_conditions.proofs.Refusing.{never_fit}
use Rattle.typing_conditions.proofs.Hiding.{settles_none, none_doubtful}
use Rattle.typing_conditions.proofs.Stops.{none_stop}

-- a node that reads as a tuple has the tuple of its parts' types
pub tuple_is : (nodes : List Node) (V : Types) (m : ℕ) (ms : List ℕ) → Loose nodes V → reading nodes m ≡ Some (Tuple ms) → V m ≡ type.Tuple (types_of (map V ms))
tuple_is nodes V m ms loose e = loose_root nodes V loose m ∙ loose.each (root nodes m) (Tuple ms) e

-- a node whose own type is a tuple reads as one
pub reads_tuple : (nodes : List Node) (K : Types) (m : ℕ) (ts : Typs) → IsSound nodes → IsOwn nodes K → m < length nodes → K m ≡ type.Tuple ts → (ms : List ℕ) × (reading nodes m ≡ Some (Tuple ms))
reads_tuple nodes K m ts sound own lt is = by cell.0 cell.1 (own.loose.each (root nodes m) cell.0 cell.1)
  where
    cell : (c : Node) × (slice_get nodes (root nodes m) ≡ Some c)
    cell = cell_at nodes (root nodes m) (root_inside nodes sound m lt)

    at_root : K (root nodes m) ≡ type.Tuple ts
    at_root = sym (loose_root nodes K own.loose m) ∙ is

    by : (c : Node) → slice_get nodes (root nodes m) ≡ Some c → FitsLoosely K (root nodes m) c → (ms : List ℕ) × (reading nodes m ≡ Some (Tuple ms))
    by (Var l o) e h = absurd (let f : type.Var (root nodes m) ≡ type.Tuple ts = sym (own.vars (root nodes m) l o e) ∙ at_root in cc)
    by Rigid e h = absurd (let f = sym h ∙ at_root in cc)
    by (Link k) e h = absurd (root_no_link nodes sound m (Link k) lt e)
    by (Arrow x y) e h = absurd (let f = sym h ∙ at_root in cc)
    by (Tuple ms) e h = (ms, e)
    by (Con p name ms) e h = absurd (let f = sym h ∙ at_root in cc)

-- types that are the same are so one by one
pub types_same : (xs ys : List Typ) → types_of xs ≡ types_of ys → xs ≡ ys
types_same [] [] e = refl
types_same [] (y ∷ ys) e = absurd (cc)
types_same (x ∷ xs) [] e = absurd (cc)
types_same (x ∷ xs) (y ∷ ys) e =
    let f : x ≡ y = cc in
    let g : types_of xs ≡ types_of ys = cc in
    (λ i. f i ∷ types_same xs ys g i)

at_place : (ms : List ℕ) (k z : ℕ) → slice_get ms k ≡ Some z → get_or ms k z ≡ z
at_place [] k z e = absurd (cc)
at_place (m ∷ ms) zero z e = let f : m ≡ z = cc in f
at_place (m ∷ ms) (suc k) z e = at_place ms k z e

stands_among : (K : Types) (v z : ℕ) (ms : List ℕ) (k : ℕ) → slice_get ms k ≡ Some z → occurs v (K z) ≡ true → occurs_any v (types_of (map K ms)) ≡ true
stands_among K v z [] k e o = absurd (cc)
stands_among K v z (m ∷ ms) zero e o = let f : m ≡ z = cc in or_left (occurs v (K m)) (occurs_any v (types_of (map K ms))) (ap (λ x. occurs v (K x)) f ∙ o)
stands_among K v z (m ∷ ms) (suc k) e o = or_right (occurs v (K m)) (occurs_any v (types_of (map K ms))) (stands_among K v z ms k e o)

-- a row may unify the parts of a tuple where it may unify the tuple
part_open : {F : Frame} {b : Sight} {m : ℕ} {ms : List ℕ} → IsOpen F b m → reading b.nodes m ≡ Some (Tuple ms) → (k z : ℕ) → slice_get ms k ≡ Some z → IsOpen F b z
part_open {F} {b} {m} {ms} o e k z at = record {
  reached = o.reached;
  inside = let (rank, ranked) = o.reached.sound in subst (λ n. n < length b.nodes) (at_place ms k z at) (ranked.each (root b.nodes m) (Tuple ms) e k z (slice_get_within ms k z at)).0;
  within = record {
    each = λ S region.
        let own = own_of b.nodes o.reached.sound in
        let closed = (o.reached.local own.0 own.1).closed S region in
        subst (λ n. S n ≡ true) (at_place ms k z at) (closed.each (root b.nodes m) (Tuple ms) (closed_root b.nodes S closed m (o.within.each S region)) e k z (slice_get_within ms k z at));
  };
  free = λ K own v h. o.free K own v (ap (occurs v) (tuple_is b.nodes K m ms own.loose e) ∙ stands_among K v z ms k at h);
}

each_means : {F : Frame} {b : Sight} {G : Letters} (all : List (Choice → Typ)) (ms : List ℕ) → length all ≡ length ms → ((k z : ℕ) → slice_get ms k ≡ Some z → IsOpen F b z) →
    ((V : Types) (ch : Choice) → Loose b.nodes V → Agrees F.owner b G V ch → types_by ch all ≡ map V ms) → AllMean F b G all ms
each_means [] [] many opened is = none_mean
each_means [] (m ∷ ms) many opened is = absurd (cc)
each_means (t ∷ ts) [] many opened is = absurd (cc)
each_means (t ∷ ts) (m ∷ ms) many opened is = one_means
    (record { open_node = opened 0 m refl; is = λ V ch loose g. let f = is V ch loose g in let h : t ch ≡ V m = cc in h })
    (each_means ts ms (let f : length ts ≡ length ms = cc in f) (λ k z e. opened (suc k) z e) (λ V ch loose g. let f = is V ch loose g in let h : types_by ch ts ≡ map V ms = cc in h))

-- The parts of a node whose type is a tuple have its types.
pub tuple_means : {F : Frame} {b : Sight} {G : Letters} {m : ℕ} (all : List (Choice → Typ)) (ms : List ℕ) → length all ≡ length ms → Means F b G (λ ch. type.Tuple (types_of (types_by ch all))) m → reading b.nodes m ≡ Some (Tuple ms) → AllMean F b G all ms
tuple_means {F} {b} {G} {m} all ms many p e = each_means all ms many (λ k z at. part_open p.open_node e k z at) (λ V ch loose g.
    let f : type.Tuple (types_of (types_by ch all)) ≡ type.Tuple (types_of (map V ms)) = p.is V ch loose g ∙ tuple_is b.nodes V m ms loose e in
    types_same (types_by ch all) (map V ms) (let h : types_of (types_by ch all) ≡ types_of (map V ms) = cc in h))

-- two types were made one, or they never are
pub record JoinsTwo (a b : Sight) (p q : ℕ) : Type 0 where
  pub sound : IsSound b.nodes
  pub rest : OnlyNodes a b
  pub tight : Tightens a.nodes b.nodes
  pub joined : ({F : Frame} → IsOpen F a p → IsOpen F a q → Unified a.nodes b.nodes p q ⊎ NeverAlike a.nodes p q)

-- Two nodes that have one type were made one, where some types that fit give them one: nothing is asked.
pub joined_means : {F : Frame} {scope : Scope} {G : Letters} {type : Choice → Typ} {p q : ℕ} {a b : Sight} (W : Types) → Fits a.nodes W → W p ≡ W q → Means F a G type p → Means F a G type q → JoinsTwo a b p q → Carried F scope (λ c. []) a G b G × Fits b.nodes W
joined_means {F} {scope} {G} {type} {p} {q} {a} {b} W fits same h k j = by (j.joined h.open_node k.open_node)
  where
    by : Unified a.nodes b.nodes p q ⊎ NeverAlike a.nodes p q → Carried F scope (λ c. []) a G b G × Fits b.nodes W
    by (inr never) = absurd (never_fit a.nodes p q h.open_node.reached.sound h.open_node.inside k.open_node.inside (no_bound h.open_node h.open_node) (no_bound k.open_node k.open_node) never W fits same)
    by (inl one) = (
      record {
        stays = unified_stays j.sound j.rest j.tight h.open_node k.open_node one;
        hidden = [];
        settled = settles_none;
        clear = λ known placed. none_doubtful;
        judged = [];
        told = [];
        reports = j.rest.reports ∙ sym (append-nil a.reports);
        counted = refl;
        sound = λ r V c l. record { same = refl; holds = tt; tells = refl; sees = tt; starts = refl };
        follows = λ r V c l. refl;
        complete = λ named V c e asked.
            let loose = fits_loosely a.nodes V e.fits in
            let is : V p ≡ V q = sym (h.is V c.chosen loose e.agrees) ∙ k.is V c.chosen loose e.agrees in
            inl (record {
              same = refl;
              types = V;
              on = record { fits = under_fits (λ v. 0) b.nodes V (one.fits (λ v. 0) V (fits_under a.nodes V e.fits) is); before = λ i lt. refl; agrees = agrees_same a b j.rest.types j.rest.written e.inside (λ i lt. refl) e.agrees };
              hidden_too = (tt, tt);
            });
        first = λ named n V c e asked. inl (subst (λ cs. StartsWith [] (judgements c.kept cs)) (sym (take_none n)) (starts_none []));
        stops = none_stop;
      },
      under_fits (λ v. 0) b.nodes W (one.fits (λ v. 0) W (fits_under a.nodes W fits) same),
    )

-- they have one type then
joined_alike : {F : Frame} {G : Letters} {type : Choice → Typ} {p q : ℕ} {a b : Sight} (W : Types) → Fits a.nodes W → W p ≡ W q → Means F a G type p → Means F a G type q → JoinsTwo a b p q → (V : Types) → Loose b.nodes V → V p ≡ V q
joined_alike {p = p} {q = q} {a = a} {b = b} W fits same h k j V loose = elim (j.joined h.open_node k.open_node) [
  | inl one ↦ loose_one a.nodes b.nodes p q j.sound one V loose
  | inr never ↦ absurd (never_fit a.nodes p q h.open_node.reached.sound h.open_node.inside k.open_node.inside (no_bound h.open_node h.open_node) (no_bound k.open_node k.open_node) never W fits same)
]

-- each of some nodes was made one with another, in order
abbrev pub JoinsEach : (a b : Sight) → (ps qs : List ℕ) → Type 0
JoinsEach a b [] [] = b ≡ a
JoinsEach a b (p ∷ ps) (q ∷ qs) = (mid : Sight) × JoinsTwo a mid p q × JoinsEach mid b ps qs
JoinsEach a b [] (q ∷ qs) = ⊥
JoinsEach a b (p ∷ ps) [] = ⊥

-- nothing is reported
pub each_reports : (a b : Sight) (ps qs : List ℕ) → JoinsEach a b ps qs → b.reports ≡ a.reports
each_reports a b [] [] j = ap (λ (z : Sight). z.reports) j
each_reports a b [] (q ∷ qs) j = absurd j
each_reports a b (p ∷ ps) [] j = absurd j
each_reports a b (p ∷ ps) (q ∷ qs) (mid, two, more) = each_reports mid b ps qs more ∙ two.rest.reports

-- nothing is asked where they have the same types
pub each_joined : {F : Frame} {scope : Scope} {G : Letters} {a b : Sight} (all : List (Choice → Typ)) (ps qs : List ℕ) (W : Types) → Fits a.nodes W → map W ps ≡ map W qs → AllMean F a G all ps → AllMean F a G all qs → JoinsEach a b ps qs → Carried F scope (λ c. []) a G b G
each_joined {F} {scope} {G} {a} {b} all [] [] W fits same hs ks j = subst (λ z. Carried F scope (λ c. []) a G z G) (sym j) carried_refl
each_joined all [] (q ∷ qs) W fits same hs ks j = absurd j
each_joined all (p ∷ ps) [] W fits same hs ks j = absurd j
each_joined {a = a} {b = b} [] (p ∷ ps) (q ∷ qs) W fits same hs ks j = elim hs [ ]
each_joined {scope = scope} (t ∷ ts) (p ∷ ps) (q ∷ qs) W fits same (one_means h hs) (one_means k ks) (mid, two, rest) =
    let x = joined_means {scope = scope} W fits (let f : W p ≡ W q = cc in f) h k two in
    carried_trans x.0 (each_joined ts ps qs W x.1 (let f : map W ps ≡ map W qs = cc in f) (all_mean_on x.0.stays hs) (all_mean_on x.0.stays ks) rest)

-- and they have the same types then
pub each_alike : {F : Frame} {G : Letters} {a : Sight} (b : Sight) (all : List (Choice → Typ)) (ps qs : List ℕ) (W : Types) → Fits a.nodes W → map W ps ≡ map W qs → AllMean F a G all ps → AllMean F a G all qs → JoinsEach a b ps qs → (scope : Scope) (V : Types) → Loose b.nodes V → map V ps ≡ map V qs
each_alike b all [] [] W fits same hs ks j scope V loose = refl
each_alike b all [] (q ∷ qs) W fits same hs ks j scope V loose = absurd j
each_alike b all (p ∷ ps) [] W fits same hs ks j scope V loose = absurd j
each_alike {F} {G} {a} b [] (p ∷ ps) (q ∷ qs) W fits same hs ks j scope V loose = elim hs [ ]
each_alike b (t ∷ ts) (p ∷ ps) (q ∷ qs) W fits same (one_means h hs) (one_means k ks) (mid, two, rest) scope V loose =
    let x = joined_means {scope = scope} W fits (let f : W p ≡ W q = cc in f) h k two in
    let others = (let f : map W ps ≡ map W qs = cc in f) in
    let tail = each_joined {scope = scope} ts ps qs W x.1 others (all_mean_on x.0.stays hs) (all_mean_on x.0.stays ks) rest in
    let first = joined_alike W fits (let f : W p ≡ W q = cc in f) h k two V (tail.stays.loose V loose) in
    let later = each_alike b ts ps qs W x.1 others (all_mean_on x.0.stays hs) (all_mean_on x.0.stays ks) rest scope V loose in
    (λ i. first i ∷ later i)
