-- What has a type still does after a call.
use Rattle.std.proofs.Common.{◌≡◌, ◌∙◌, ℕ, zero, suc, ◌≤◌, min, Bool, true, false, List, [], ◌∷◌, ◌++◌, length, map, refl, sym, subst, arith, Some}
use Rattle.type_model.specs.Types.{Typ, occurs}
use Rattle.signature_model.specs.Declarations.{Name}
use Rattle.signature_model.specs.Matching.{IsKnown}
use Rattle.typing_model.specs.Contexts.{Choice}
use Rattle.typing_model.specs.BuiltIns.{int_type, char_type, string_type, float_type, unit_type, bool_type, exn_type}
use Rattle.type_nodes.specs.Nodes.{Node, bound_level}
use Rattle.type_nodes.specs.Readings.{Types, IsReading}
use Rattle.level_unify.specs.Solutions.{Loose}
use Rattle.level_unify.specs.Instances.{is_bound}
use Rattle.level_unify.proofs.Variants.{bound_cell, stands_occurs}
use Rattle.typing_conditions.specs.Locals.{IsOwn}
use Rattle.typing_conditions.proofs.Own.{own_of}
use Rattle.typing_conditions.proofs.Steps.{same_node}
use Rattle.typing_conditions.proofs.Uses.{bound_stands}
use Rattle.typing_conditions.specs.Sights.{Sight, Letters, IsKnownFor, AreGiven, AreNodes, Agrees, IsInside, SameAt}
use Rattle.typing_conditions.specs.Frames.{Frame, IsOpenAt, IsOpen, AreOpen}
use Rattle.typing_conditions.specs.Meanings.{Means, AllMean, none_mean, one_means, types_by, KnowsFixed, KnowsWritten}
use Rattle.typing_conditions.specs.Carrying.{Stays}
use Rattle.typing_conditions.proofs.Stays.{agrees_before}
use Rattle.typing_conditions.proofs.Framing.{open_on, open_lower}

-- what has a type still has it
pub means_on : {F : Frame} {a b : Sight} {G H : Letters} {type : Choice → Typ} {m : ℕ} → Stays F a G b H → Means F a G type m → Means F b H type m
means_on s h = record { open_node = open_on s h.open_node; is = λ V ch loose g. h.is V ch (s.loose V loose) (agrees_before s g) }

-- what has a type has it whatever letters are given
pub means_more : {F : Frame} {a : Sight} {G : Letters} {type : Choice → Typ} {m : ℕ} → Means F a [] type m → Means F a G type m
means_more h = record { open_node = h.open_node; is = λ V ch loose g. h.is V ch loose (record { recorded = g.recorded; known = g.known; written = g.written; given = tt }) }

-- what has a type without letters has it after a call, where no letter counts
means_alone : {F : Frame} {a b : Sight} {G H : Letters} {type : Choice → Typ} {m : ℕ} → Stays F a G b H → Means F a [] type m → Means F b [] type m
means_alone s h = record {
  open_node = open_on s h.open_node;
  is = λ V ch loose g. h.is V ch (s.loose V loose) (record {
    recorded = λ i p n e. g.recorded i p n (s.recorded i p n e);
    known = λ i p n e. g.known i p n (s.recorded i p n e);
    written = λ x n e. g.written x n (s.written x n e);
    given = tt;
  });
}

min_left : (l m : ℕ) → min l m ≤ l
min_left l m = grind arith

-- a type variable that is written has the type of its node
pub written_means : {F : Frame} {a : Sight} {G : Letters} {x : Name} {m : ℕ} → KnowsWritten F a → a.written x ≡ Some m → Means F a G (λ ch. ch.written F.owner x) m
written_means {F} {x = x} {m = m} k e = record { open_node = open_lower (min_left F.level 1) (k.each x m e); is = λ V ch loose g. g.written x m e }

-- at a reading no bound variable stands in the type of an open node
pub open_unbound : {F : Frame} {a : Sight} {level n : ℕ} → IsOpenAt F a level n → (V : Types) → IsReading a.nodes V → (v : ℕ) → is_bound a.nodes v ≡ true → occurs v (V n) ≡ false
open_unbound {F} {a} {level} {n} o V reads v bound = by (occurs v (V n)) refl
  where
    own : (J : Types) × IsOwn a.nodes J
    own = own_of a.nodes o.reached.sound

    by : (t : Bool) → occurs v (V n) ≡ t → occurs v (V n) ≡ false
    by false e = e
    by true e =
        let (scope, at) = bound_cell a.nodes v bound in
        let stands = bound_stands a.nodes own.0 V own.1 reads n v o.inside bound e in
        let low = o.free own.0 own.1 v (stands_occurs a.nodes own.0 v n own.1.loose (own.1.vars v bound_level scope at) stands) in
        absurd (low.free (same_node a.nodes v low.level low.scope bound_level scope low.at at))

-- the built-in types still have nodes
pub fixed_on : {F : Frame} {a b : Sight} {G H : Letters} → Stays F a G b H → KnowsFixed F a → KnowsFixed F b
fixed_on {F} {a} {b} s k = record {
  int = subst (λ f. Means F b [] (λ ch. int_type) f.int) (sym s.fixed) (means_alone s k.int);
  char = subst (λ f. Means F b [] (λ ch. char_type) f.char) (sym s.fixed) (means_alone s k.char);
  string = subst (λ f. Means F b [] (λ ch. string_type) f.string) (sym s.fixed) (means_alone s k.string);
  float = subst (λ f. Means F b [] (λ ch. float_type) f.float) (sym s.fixed) (means_alone s k.float);
  unit = subst (λ f. Means F b [] (λ ch. unit_type) f.unit) (sym s.fixed) (means_alone s k.unit);
  bool = subst (λ f. Means F b [] (λ ch. bool_type) f.bool) (sym s.fixed) (means_alone s k.bool);
  exn = subst (λ f. Means F b [] (λ ch. exn_type) f.exn) (sym s.fixed) (means_alone s k.exn);
}

-- nodes that have types still have them
pub all_mean_on : {F : Frame} {a b : Sight} {G H : Letters} {types : List (Choice → Typ)} {ms : List ℕ} → Stays F a G b H → AllMean F a G types ms → AllMean F b H types ms
all_mean_on s none_mean = none_mean
all_mean_on s (one_means h hs) = one_means (means_on s h) (all_mean_on s hs)

-- one node more that has a type
pub all_mean_more : {F : Frame} {a : Sight} {G : Letters} {types : List (Choice → Typ)} {ms : List ℕ} {type : Choice → Typ} {m : ℕ} → AllMean F a G types ms → Means F a G type m → AllMean F a G (types ++ type ∷ []) (ms ++ m ∷ [])
all_mean_more none_mean h = one_means h none_mean
all_mean_more (one_means p ps) h = one_means p (all_mean_more ps h)

-- nodes that have types are open
pub all_open : {F : Frame} {a : Sight} {G : Letters} {types : List (Choice → Typ)} {ms : List ℕ} → AllMean F a G types ms → AreOpen F a ms
all_open none_mean k m e = absurd (cc)
all_open {F} {a} (one_means {m = n} h hs) zero m e = let f : n ≡ m = cc in subst (IsOpen F a) f h.open_node
all_open (one_means h hs) (suc k) m e = all_open hs k m e

-- nodes that have types have those by the choice
pub all_types : {F : Frame} {a : Sight} {G : Letters} {types : List (Choice → Typ)} {ms : List ℕ} → AllMean F a G types ms → (V : Types) (ch : Choice) → Loose a.nodes V → Agrees F.owner a G V ch → types_by ch types ≡ map V ms
all_types none_mean V ch loose g = refl
all_types (one_means h hs) V ch loose g = (λ i. h.is V ch loose g i ∷ all_types hs V ch loose g i)

-- letters are nodes of a longer store
pub nodes_in : (G : Letters) (xs ys : List Node) → length xs ≤ length ys → AreNodes G xs → AreNodes G ys
nodes_in [] xs ys le h = tt
nodes_in (x ∷ G) xs ys le h = (let l = h.0 in omega arith, nodes_in G xs ys le h.1)

-- letters have the types of other types for the nodes, where those are the same there
pub given_same : (G : Letters) (nodes : List Node) (V W : Types) (ch : Choice) → AreNodes G nodes → SameAt nodes V W → AreGiven G V ch → AreGiven G W ch
given_same [] nodes V W ch i e g = tt
given_same (x ∷ G) nodes V W ch i e g = (
  record { is = g.0.is ∙ sym (e x.1 i.0); known = subst (IsKnownFor x.0) (sym (e x.1 i.0)) g.0.known },
  given_same G nodes V W ch i.1 e g.1,
)

-- A choice agrees with other types too that are the same at the nodes, where the same is recorded and written.
pub agrees_same : {owner : ℕ} {G : Letters} {V W : Types} {ch : Choice} (a b : Sight) → ((i p : ℕ) → b.types i p ≡ a.types i p) → ((x : Name) → b.written x ≡ a.written x) → IsInside a G → SameAt a.nodes V W → Agrees owner a G V ch → Agrees owner b G W ch
agrees_same {G = G} {V = V} {W = W} {ch = ch} a b types written i same g = record {
  recorded = λ j k y e. let f = sym (types j k) ∙ e in g.recorded j k y f ∙ sym (same y (i.recorded j k y f));
  known = λ j k y e. let f = sym (types j k) ∙ e in subst IsKnown (sym (same y (i.recorded j k y f))) (g.known j k y f);
  written = λ x y e. let f = sym (written x) ∙ e in g.written x y f ∙ sym (same y (i.written x y f));
  given = given_same G a.nodes V W ch i.given same g.given;
}

-- what is recorded, written or given is a node of a longer store, where the same is
pub inside_longer : {G : Letters} (a b : Sight) → ((i p : ℕ) → b.types i p ≡ a.types i p) → ((x : Name) → b.written x ≡ a.written x) → length a.nodes ≤ length b.nodes → IsInside a G → IsInside b G
inside_longer {G} a b types written le h = record {
  recorded = λ i k y e. let j = h.recorded i k y (sym (types i k) ∙ e) in omega arith;
  written = λ x y e. let j = h.written x y (sym (written x) ∙ e) in omega arith;
  given = nodes_in G a.nodes b.nodes le h.given;
}
