-- What a `let` holds: the types that are limited, those of written type variables, and none that a bound variable stands in.
use Rattle.std.proofs.Common.{◌≡◌, ◌∙◌, inl, inr, ℕ, zero, suc, ◌≤◌, Bool, true, false, ◌||◌, arith, if◌then◌else◌, List, [], ◌∷◌, ◌++◌, map, Option, None, Some, refl, sym, ap, subst}
use Rattle.std.specs.Prelude.{slice_get}
use Rattle.type_model.specs.Types.{Typ, occurs}
use Rattle.type_model.proofs.Applying.{or_left, or_right, or_cases}
use Rattle.signature_model.specs.Declarations.{Name}
use Rattle.typing_laws.proofs.Bools.{no_yes}
use Rattle.typing_model.specs.Contexts.{Choice, Bound, occurs_in}
use Rattle.typing_model.specs.Parts.{Binding}
use Rattle.type_nodes.specs.Nodes.{Node}
use Rattle.type_nodes.specs.Readings.{Types}
use Rattle.level_unify.specs.Solutions.{Loose}
use Rattle.env_table.specs.declared.entries.Entry.{Entry}
use Rattle.typing_conditions.specs.Standing.{IsIn}
use Rattle.typing_conditions.proofs.Steps.{same_node}
use Rattle.typing_conditions.specs.Sights.{Sight, Letters, Agrees}
use Rattle.typing_conditions.specs.Frames.{Frame, IsOpenAt, IsOpen, AreOpen, IsRoot}
use Rattle.typing_conditions.specs.Meanings.{Means, AllMean, none_mean, one_means, KnowsFixed}
use Rattle.typing_conditions.specs.Carrying.{Stays}
use Rattle.typing_conditions.specs.Surroundings.{Declared, context_of}
use Rattle.typing_conditions.proofs.Meaning.{means_on}
use Rattle.typing_conditions.proofs.Inward.{fixed_nodes}
use Rattle.typing_conditions.proofs.Closed.{HasHeld, ClosedNames, no_closed, one_closed}
use Rattle.pattern_rows.specs.Bounds.{Bind, AllBound, none_bound, one_bound}
use Rattle.pattern_rows.proofs.Naming.{all_bound_on, all_bound_both}
use Rattle.typing_model.specs.Bindings.{names_of_group}
use Rattle.binding_rows.specs.Closing.{Limit, limit_nodes, limit_variables, AreLimited}
use Rattle.binding_rows.specs.Lets.{ToClose, IsToClose, AllToClose, none_to_close, one_to_close, bind_nodes, bind_entries, names_closed, limited_nodes, held_at, written_nodes}

-- nodes that have types, and others
means_both : {F : Frame} {a : Sight} {G : Letters} {ts us : List (Choice → Typ)} {ms ns : List ℕ} → AllMean F a G ts ms → AllMean F a G us ns → AllMean F a G (ts ++ us) (ms ++ ns)
means_both none_mean q = q
means_both (one_means p ps) q = one_means p (means_both ps q)

-- the types that some nodes have
pub record HaveTypes (F : Frame) (a : Sight) (G : Letters) (ms : List ℕ) : Type 0 where
  pub types : List (Choice → Typ)
  pub mean : AllMean F a G types ms

-- the nodes of names have types
bound_means : {F : Frame} {a : Sight} {G : Letters} {bs : List Bound} {ns : List Bind} → AllBound F a G bs ns → HaveTypes F a G (bind_nodes ns)
bound_means none_bound = record { types = []; mean = none_mean }
bound_means (one_bound {x = x} h hs) = let more = bound_means hs in record { types = (λ ch. x.has_type (context_of ch)) ∷ more.types; mean = one_means h.means more.mean }

limited_more : {D : Declared} {env : List Entry} {F : Frame} {a : Sight} {G : Letters} {x : Binding} {y : ToClose} {ms : List ℕ} (v : Bool) → IsToClose D env F a G x y → HaveTypes F a G ms → HaveTypes F a G (if v then ms else y.right ∷ bind_nodes y.names ++ ms)
limited_more true h more = more
limited_more {x = x} false h more = let names = bound_means h.names in record { types = (λ ch. ch.type_at x.body.node) ∷ names.types ++ more.types; mean = one_means h.right (means_both names.mean more.mean) }

-- the nodes that are limited have types
pub limited_means : {D : Declared} {env : List Entry} {F : Frame} {a : Sight} {G : Letters} {xs : List Binding} {ys : List ToClose} → AllToClose D env F a G xs ys → HaveTypes F a G (limited_nodes ys)
limited_means none_to_close = record { types = []; mean = none_mean }
limited_means (one_to_close {y = y} h hs) = limited_more y.general h (limited_means hs)

map_both : (V : Types) (ms ns : List ℕ) → map V (ms ++ ns) ≡ map V ms ++ map V ns
map_both V [] ns = refl
map_both V (m ∷ ms) ns = ap (λ ts. V m ∷ ts) (map_both V ms ns)

-- the nodes of names have the names' types
bound_types : {F : Frame} {a : Sight} {G : Letters} {bs : List Bound} {ns : List Bind} → AllBound F a G bs ns → (V : Types) (ch : Choice) → Loose a.nodes V → Agrees F.owner a G V ch → map V (bind_nodes ns) ≡ map (λ (n : Bound). n.has_type (context_of ch)) bs
bound_types none_bound V ch loose g = refl
bound_types (one_bound h hs) V ch loose g = (λ i. sym (h.means.is V ch loose g) i ∷ bound_types hs V ch loose g i)

held_more : {D : Declared} {env : List Entry} {F : Frame} {a : Sight} {G : Letters} {x : Binding} {y : ToClose} (ms : List ℕ) (ts : List Typ) (v : Bool) → IsToClose D env F a G x y → (V : Types) (ch : Choice) → Loose a.nodes V → Agrees F.owner a G V ch → map V ms ≡ ts →
    map V (if v then ms else y.right ∷ bind_nodes y.names ++ ms) ≡ (if v then ts else ch.type_at x.body.node ∷ map (λ (n : Bound). n.has_type (context_of ch)) x.pattern.names ++ ts)
held_more ms ts true h V ch loose g e = e
held_more {y = y} ms ts false h V ch loose g e = (λ i. sym (h.right.is V ch loose g) i ∷ (map_both V (bind_nodes y.names) ms ∙ (λ j. bound_types h.names V ch loose g j ++ e j)) i)

-- the nodes that are limited have the types that the definitions hold
pub held_same : {D : Declared} {env : List Entry} {F : Frame} {a : Sight} {G : Letters} {xs : List Binding} {ys : List ToClose} → AllToClose D env F a G xs ys → (V : Types) (ch : Choice) → Loose a.nodes V → Agrees F.owner a G V ch → map V (limited_nodes ys) ≡ held_at ch xs ys
held_same none_to_close V ch loose g = refl
held_same (one_to_close {xs = xs} {y = y} {ys = ys} h hs) V ch loose g = held_more (limited_nodes ys) (held_at ch xs ys) y.general h V ch loose g (held_same hs V ch loose g)

-- bindings that are to be closed still are after a call
pub to_close_on : {D : Declared} {env : List Entry} {F : Frame} {a b : Sight} {G H : Letters} {xs : List Binding} {ys : List ToClose} → Stays F a G b H → AllToClose D env F a G xs ys → AllToClose D env F b H xs ys
to_close_on s none_to_close = none_to_close
to_close_on s (one_to_close h hs) = one_to_close (record { names = all_bound_on s h.names; right = means_on s h.right; decides = h.decides }) (to_close_on s hs)

-- all names of the bindings are bound
pub all_names_bound : {D : Declared} {env : List Entry} {F : Frame} {a : Sight} {G : Letters} {xs : List Binding} {ys : List ToClose} → AllToClose D env F a G xs ys → AllBound F a G (names_of_group xs) (names_closed ys)
all_names_bound none_to_close = none_bound
all_names_bound (one_to_close h hs) = all_bound_both h.names (all_names_bound hs)

-- the nodes of names are open
pub bound_open : {F : Frame} {a : Sight} {G : Letters} {bs : List Bound} {ns : List Bind} → AllBound F a G bs ns → AreOpen F a (bind_nodes ns)
bound_open none_bound k r e = absurd (cc)
bound_open {F} {a} (one_bound {y = y} h hs) zero r e = let s : y.node.0 ≡ r = cc in subst (IsOpen F a) s h.means.open_node
bound_open (one_bound h hs) (suc k) r e = bound_open hs k r e

-- The names of a group are closed names, once all their nodes were closed: types that fit then fitted before, and what agrees then agreed before.
pub closed_names : {F I : Frame} {c d : Sight} {H : Letters} (all : List ℕ) → I.owner ≡ F.owner → ((V : Types) → Loose d.nodes V → Loose c.nodes V) → ((V : Types) (ch : Choice) → Agrees F.owner d H V ch → Agrees I.owner c H V ch) →
    {bs : List Bound} {ns : List Bind} → AllBound I c H bs ns → ((m : ℕ) → IsIn (bind_nodes ns) m → IsIn all m) → ClosedNames F d H all (bind_entries ns) bs (bind_nodes ns)
closed_names all same loose agrees none_bound there = no_closed
closed_names {F = F} {I = I} {c = c} {d = d} {H = H} all same loose agrees (one_bound {y = y} h hs) there =
    one_closed y.node h.entry (there y.node.0 (zero, refl)) (λ V ch l g. (h.means.is V ch (loose V l) (agrees V ch g), h.known V ch (agrees V ch g)))
    (closed_names {F = F} {I = I} {c = c} {d = d} {H = H} all same loose agrees hs (λ m i. there m (suc i.0, i.1)))

-- the variable of a limit has the type of one of the nodes
pub limit_shares : (nodes : List Node) (level : ℕ) (ls : List Limit) → AreLimited nodes level ls → (V : Types) → Loose nodes V → (n : ℕ) → IsIn (limit_variables ls) n → (m : ℕ) × IsIn (limit_nodes ls) m × (V n ≡ V m)
limit_shares nodes level [] h V loose n (k, e) = absurd (cc)
limit_shares nodes level (l ∷ ls) h V loose n (zero, e) = let s : l.variable ≡ n = cc in (l.node, (zero, refl), ap V (sym s) ∙ h.0.same V loose)
limit_shares nodes level (l ∷ ls) h V loose n (suc k, e) = let (m, i, f) = limit_shares nodes level ls h.1 V loose n (k, e) in (m, (suc i.0, i.1), f)

-- a node that is limited is open at the limits' level
pub limited_open : {I : Frame} {c : Sight} (level : ℕ) (ls : List Limit) → AreLimited c.nodes level ls → (m : ℕ) → IsIn (limit_nodes ls) m → IsOpen I c m → IsOpenAt I c level m
limited_open level [] h m (k, e) o = absurd (cc)
limited_open {I} {c} level (l ∷ ls) h m (zero, e) o =
    let s : l.node ≡ m = cc in
    record {
      reached = o.reached;
      inside = o.inside;
      within = o.within;
      free = λ K own v i.
          let f = o.free K own v i in
          record { level = f.level; scope = f.scope; at = f.at; free = f.free; low = (h.0.low K own).low v f.level f.scope (or_left (occurs v (K l.variable)) _ (ap (occurs v) (h.0.same K own.loose ∙ ap K s) ∙ i)) f.at f.free };
    }
limited_open level (l ∷ ls) h m (suc k, e) o = limited_open level ls h.1 m (k, e) o

-- an open node is a root
pub open_root : {F : Frame} {a : Sight} {level n : ℕ} → level ≤ F.level → IsOpenAt F a level n → IsRoot F a n
open_root {F} {a} le o = record {
  inside = o.inside;
  within = o.within;
  low = λ K own v l k h e free. let f = o.free K own v h in let s : l ≡ f.level = same_node a.nodes v l k f.level f.scope e f.at in let low = f.low in omega arith;
}

-- no variable stands in a type that is held because there is none in it
pub none_held : {F : Frame} {d : Sight} {type : Choice → Typ} {n : ℕ} (H : Letters) (types : Choice → List Typ) → Means F d [] type n → ((ch : Choice) (w : ℕ) → occurs w (type ch) ≡ false) → HasHeld F d H types n
none_held H types p closed V ch loose g w h =
    absurd (no_yes (sym (closed ch w) ∙ ap (occurs w) (p.is V ch loose (record { recorded = g.recorded; known = g.known; written = g.written; given = tt })) ∙ h))

-- so are the built-in types
pub fixed_held : {F : Frame} {d : Sight} (H : Letters) (types : Choice → List Typ) → KnowsFixed F d → (k n : ℕ) → slice_get (fixed_nodes d.fixed) k ≡ Some n → HasHeld F d H types n
fixed_held {F} {d} H types p zero n e = let s : d.fixed.int ≡ n = cc in subst (HasHeld F d H types) s (none_held H types p.int (λ ch w. refl))
fixed_held {F} {d} H types p (suc zero) n e = let s : d.fixed.char ≡ n = cc in subst (HasHeld F d H types) s (none_held H types p.char (λ ch w. refl))
fixed_held {F} {d} H types p (suc (suc zero)) n e = let s : d.fixed.string ≡ n = cc in subst (HasHeld F d H types) s (none_held H types p.string (λ ch w. refl))
fixed_held {F} {d} H types p (suc (suc (suc zero))) n e = let s : d.fixed.float ≡ n = cc in subst (HasHeld F d H types) s (none_held H types p.float (λ ch w. refl))
fixed_held {F} {d} H types p (suc (suc (suc (suc zero)))) n e = let s : d.fixed.unit ≡ n = cc in subst (HasHeld F d H types) s (none_held H types p.unit (λ ch w. refl))
fixed_held {F} {d} H types p (suc (suc (suc (suc (suc zero))))) n e = let s : d.fixed.bool ≡ n = cc in subst (HasHeld F d H types) s (none_held H types p.bool (λ ch w. refl))
fixed_held {F} {d} H types p (suc (suc (suc (suc (suc (suc zero)))))) n e = let s : d.fixed.exn ≡ n = cc in subst (HasHeld F d H types) s (none_held H types p.exn (λ ch w. refl))
fixed_held H types p (suc (suc (suc (suc (suc (suc (suc k))))))) n e = absurd (cc)

-- the nodes of the built-in types are roots
pub fixed_roots : {F : Frame} {a : Sight} → KnowsFixed F a → (k n : ℕ) → slice_get (fixed_nodes a.fixed) k ≡ Some n → IsOpen F a n
fixed_roots {F} {a} p zero n e = let s : a.fixed.int ≡ n = cc in subst (IsOpen F a) s p.int.open_node
fixed_roots {F} {a} p (suc zero) n e = let s : a.fixed.char ≡ n = cc in subst (IsOpen F a) s p.char.open_node
fixed_roots {F} {a} p (suc (suc zero)) n e = let s : a.fixed.string ≡ n = cc in subst (IsOpen F a) s p.string.open_node
fixed_roots {F} {a} p (suc (suc (suc zero))) n e = let s : a.fixed.float ≡ n = cc in subst (IsOpen F a) s p.float.open_node
fixed_roots {F} {a} p (suc (suc (suc (suc zero)))) n e = let s : a.fixed.unit ≡ n = cc in subst (IsOpen F a) s p.unit.open_node
fixed_roots {F} {a} p (suc (suc (suc (suc (suc zero))))) n e = let s : a.fixed.bool ≡ n = cc in subst (IsOpen F a) s p.bool.open_node
fixed_roots {F} {a} p (suc (suc (suc (suc (suc (suc zero)))))) n e = let s : a.fixed.exn ≡ n = cc in subst (IsOpen F a) s p.exn.open_node
fixed_roots p (suc (suc (suc (suc (suc (suc (suc k))))))) n e = absurd (cc)

-- what stands in the type of one of some names stands in one of their types
pub named_occurs : (T : Name → Typ) (w : ℕ) (xs : List Name) (k : ℕ) (x : Name) → slice_get xs k ≡ Some x → occurs w (T x) ≡ true → occurs_in w (map T xs) ≡ true
named_occurs T w [] k x e h = absurd (cc)
named_occurs T w (y ∷ ys) zero x e h = let s : y ≡ x = cc in or_left (occurs w (T y)) (occurs_in w (map T ys)) (ap (λ z. occurs w (T z)) s ∙ h)
named_occurs T w (y ∷ ys) (suc k) x e h = or_right (occurs w (T y)) (occurs_in w (map T ys)) (named_occurs T w ys k x e h)

-- a variable that stands in the type of none of some names stands in none of their types
pub named_none : (T : Name → Typ) (w : ℕ) (xs : List Name) → ((k : ℕ) (x : Name) → slice_get xs k ≡ Some x → occurs w (T x) ≡ false) → occurs_in w (map T xs) ≡ false
named_none T w [] h = refl
named_none T w (y ∷ ys) h = (λ i. h zero y refl i || named_none T w ys (λ k x e. h (suc k) x e) i)

-- the same of nodes
pub nodes_none : (V : Types) (w : ℕ) (ms : List ℕ) → ((m : ℕ) → IsIn ms m → occurs w (V m) ≡ false) → occurs_in w (map V ms) ≡ false
nodes_none V w [] h = refl
nodes_none V w (m ∷ ms) h = (λ i. h m (zero, refl) i || nodes_none V w ms (λ n e. h n (suc e.0, e.1)) i)

-- what stands in the first of two lists of types, or in the second, stands in both together
pub occurs_first : (w : ℕ) (ts us : List Typ) → occurs_in w ts ≡ true → occurs_in w (ts ++ us) ≡ true
occurs_first w [] us h = absurd (no_yes h)
occurs_first w (t ∷ ts) us h = elim (or_cases (occurs w t) (occurs_in w ts) h) [
  | inl i ↦ or_left (occurs w t) (occurs_in w (ts ++ us)) i
  | inr i ↦ or_right (occurs w t) (occurs_in w (ts ++ us)) (occurs_first w ts us i)
]

pub occurs_second : (w : ℕ) (ts us : List Typ) → occurs_in w us ≡ true → occurs_in w (ts ++ us) ≡ true
occurs_second w [] us h = h
occurs_second w (t ∷ ts) us h = or_right (occurs w t) (occurs_in w (ts ++ us)) (occurs_second w ts us h)

-- and what stands in neither stands in none
pub occurs_neither : (w : ℕ) (ts us : List Typ) → occurs_in w ts ≡ false → occurs_in w us ≡ false → occurs_in w (ts ++ us) ≡ false
occurs_neither w [] us p q = q
occurs_neither w (t ∷ ts) us p q = by (occurs w t) p (λ e. occurs_neither w ts us e q)
  where
    by : (b : Bool) → (b || occurs_in w ts) ≡ false → (occurs_in w ts ≡ false → occurs_in w (ts ++ us) ≡ false) → (b || occurs_in w (ts ++ us)) ≡ false
    by true e more = e
    by false e more = more e

-- a name that is written and is among some names has its node among theirs
pub written_there : (written : Name → Option ℕ) (xs : List Name) (k : ℕ) (x : Name) (m : ℕ) → slice_get xs k ≡ Some x → written x ≡ Some m → IsIn (written_nodes written xs) m
written_there written [] k x m e h = absurd (cc)
written_there written (y ∷ ys) zero x m e h = let s : y ≡ x = cc in by (written y) (ap written s ∙ h)
  where
    by : (o : Option ℕ) → o ≡ Some m → IsIn (elim o [ None ↦ written_nodes written ys | Some n ↦ n ∷ written_nodes written ys ]) m
    by None f = absurd (cc)
    by (Some n) f = (zero, f)
written_there written (y ∷ ys) (suc k) x m e h = by (written y) (written_there written ys k x m e h)
  where
    by : (o : Option ℕ) → IsIn (written_nodes written ys) m → IsIn (elim o [ None ↦ written_nodes written ys | Some n ↦ n ∷ written_nodes written ys ]) m
    by None i = i
    by (Some n) i = (suc i.0, i.1)

-- and each of their nodes is that of a name that is written
pub there_written : (written : Name → Option ℕ) (xs : List Name) (m : ℕ) → IsIn (written_nodes written xs) m → (x : Name) × (written x ≡ Some m)
there_written written [] m (k, e) = absurd (cc)
there_written written (y ∷ ys) m i = by (written y) refl i (λ j. there_written written ys m j)
  where
    by : (o : Option ℕ) → written y ≡ o → IsIn (elim o [ None ↦ written_nodes written ys | Some n ↦ n ∷ written_nodes written ys ]) m → (IsIn (written_nodes written ys) m → (x : Name) × (written x ≡ Some m)) → (x : Name) × (written x ≡ Some m)
    by None f i more = more i
    by (Some n) f (zero, e) more = (y, f ∙ e)
    by (Some n) f (suc k, e) more = more (k, e)
