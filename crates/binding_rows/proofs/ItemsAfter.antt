-- The environment after an item's `let`: each of its names has its type generalised in the environment before, and the next item starts among them.
use Rattle.std.proofs.Common.{◌≡◌, ◌∙◌, inl, inr, ℕ, zero, suc, ◌<◌, if◌then◌else◌, List, [], ◌∷◌, ◌++◌, map, length, Option, None, Some, refl, sym, ap, subst, arith}
use Rattle.std.specs.Prelude.{slice_get, ◌==◌}
use Rattle.type_model.specs.Types.{Typ, occurs}
use Rattle.type_model.specs.Schemes.{Scheme}
use Rattle.type_model.proofs.Applying.{eqb_same, or_left, or_right, or_cases}
use Rattle.signature_model.specs.Declarations as rules
use Rattle.signature_model.specs.Declarations.{Name}
use Rattle.signature_model.specs.Entries.{Environment, entry, a_value}
use Rattle.signature_model.specs.Matching.{IsKnown}
use Rattle.token_model.specs.Kinds.{Tok}
use Rattle.typing_model.specs.Contexts.{Choice, Bound, monomorphic, generalised_in}
use Rattle.typing_model.specs.Parts.{Binding}
use Rattle.typing_model.specs.Bindings.{names_of_group}
use Rattle.typing_model.specs.Typings.{no_choice}
use Rattle.type_nodes.specs.Nodes.{Node, bound_level}
use Rattle.type_nodes.specs.Readings.{Types, IsReading}
use Rattle.level_unify.specs.Solutions.{Loose}
use Rattle.level_unify.proofs.Unified.{fits_loosely}
use Rattle.env_table.specs.declared.entries.Constructor.{Constructor}
use Rattle.env_table.specs.declared.entries.Declaration.{Declaration}
use Rattle.env_table.specs.declared.entries.Entry.{Entry}
use Rattle.typing_state.specs.declared.parts.Parts.{Parts}
use Rattle.typing_conditions.specs.Locals.{IsOwn, IsContext}
use Rattle.typing_conditions.specs.Assumptions.{FreeAlike, SchemeFits, SchemeReads}
use Rattle.typing_conditions.specs.Environments.{of_value, entry_as, newest}
use Rattle.typing_conditions.specs.Standing.{IsIn, Covers, Stands}
use Rattle.typing_conditions.proofs.Own.{own_of}
use Rattle.typing_conditions.proofs.Steps.{same_node, old_or_new, refines_none}
use Rattle.typing_conditions.proofs.Closing.{still_free}
use Rattle.typing_conditions.proofs.Environments.{env_map}
use Rattle.typing_conditions.proofs.Later.{context_after}
use Rattle.typing_conditions.proofs.Standing.{more_in, stands_fits_on, stands_reads_on}
use Rattle.typing_conditions.proofs.Groups.{NamesStand, no_more, name_more, added, joined, stands_names}
use Rattle.typing_conditions.specs.Sights.{Sight, Letters, Key, AreGiven, Agrees}
use Rattle.typing_conditions.specs.Sights as keys
use Rattle.typing_conditions.specs.Frames.{Frame}
use Rattle.typing_conditions.specs.Carrying.{Asks}
use Rattle.typing_conditions.specs.Surroundings.{Declared, HasOwnLabels, context_of}
use Rattle.typing_conditions.proofs.Surrounding.{stands_declared, covers_declared}
use Rattle.typing_steps.specs.States.{sight}
use Rattle.binding_rows.specs.Closing.{Limit}
use Rattle.binding_rows.specs.Lets.{ToClose, bind_nodes, bind_entries, names_closed, limited_nodes, held_at}
use Rattle.pattern_rows.specs.Bounds.{Bind, AllBound, none_bound, one_bound}
use Rattle.binding_rows.specs.Outside.{AgreesOutside, Outside}
use Rattle.binding_rows.specs.ItemGroups.{ItemGroup, NoneWritten, env_after}
use Rattle.binding_rows.proofs.Starting.{own_start, lowest, group_frame}
use Rattle.binding_rows.proofs.ItemClosing.{closed_nodes, item_limited, item_letters, item_bound, item_closes, item_out, item_refines, after_reached, before_close, held_is, item_scheme_fits, item_scheme_reads, loose_before_close}
use Rattle.binding_rows.proofs.Items.{item_stays}

-- a choice with other types for the type variables of one item: those of the nodes that stand for them
abbrev with_written : ℕ → (Name → Option ℕ) → Types → Choice → Choice
with_written n written V ch = record ch { written = λ i z. if i == n then elim (written z) [ None ↦ ch.written i z | Some m ↦ V m ] else ch.written i z }

-- letters have the types that they had
given_written : (xs : Letters) (V : Types) (ch : Choice) (w : ℕ → Name → Typ) → AreGiven xs V ch → AreGiven xs V (record ch { written = w })
given_written [] V ch w h = tt
given_written ((key, m) ∷ xs) V ch w h = (record { is = same key ∙ h.0.is; known = h.0.known }, given_written xs V ch w h.1)
  where
    same : (key : Key) → keys.value_of (record ch { written = w }) key ≡ keys.value_of ch key
    same (keys.own i) = refl
    same (keys.letter i k) = refl
    same (keys.filled i o) = refl
    same (keys.without_unknown key) = same key
    same (keys.doubtful key) = same key

-- what is held is the same
names_same : (bs : List Bound) → NoneWritten bs → (ch : Choice) (w : ℕ → Name → Typ) → map (λ (b : Bound). b.has_type (context_of (record ch { written = w }))) bs ≡ map (λ (b : Bound). b.has_type (context_of ch)) bs
names_same [] h ch w = refl
names_same (b ∷ bs) h ch w = (λ i. h.0 ch w i ∷ names_same bs h.1 ch w i)

none_written_first : (bs cs : List Bound) → NoneWritten (bs ++ cs) → NoneWritten bs
none_written_first [] cs h = tt
none_written_first (b ∷ bs) cs h = (h.0, none_written_first bs cs h.1)

none_written_second : (bs cs : List Bound) → NoneWritten (bs ++ cs) → NoneWritten cs
none_written_second [] cs h = h
none_written_second (b ∷ bs) cs h = none_written_second bs cs h.1

held_written : (xs : List Binding) (ys : List ToClose) → NoneWritten (names_of_group xs) → (ch : Choice) (w : ℕ → Name → Typ) → held_at (record ch { written = w }) xs ys ≡ held_at ch xs ys
held_written [] ys h ch w = refl
held_written (x ∷ xs) [] h ch w = refl
held_written (x ∷ xs) (y ∷ ys) h ch w =
    let first = names_same x.pattern.names (none_written_first x.pattern.names (names_of_group xs) h) ch w in
    let rest = held_written xs ys (none_written_second x.pattern.names (names_of_group xs) h) ch w in
    (λ i. if y.general then rest i else ch.type_at x.body.node ∷ first i ++ rest i)

module _ {D : Declared} {n : ℕ} {ts : List Tok} {E : Choice → Environment} {asks : Asks} {x : Parts} {y : Sight} {G : Letters} {s d : Parts} {env : List Entry} {xs : List Binding} {ys : List ToClose} {limits : List Limit} (l : ItemGroup D n ts E asks x y G s d env xs ys limits) (look : NoneWritten (names_of_group xs)) where
  abbrev H : Letters
  H = item_letters l

  -- the choice that has the types of the item's type variables too
  abbrev chosen : Types → Choice → Choice
  chosen V ch = with_written n (sight d).written V ch

  agrees_chosen : (V : Types) (ch : Choice) → AgreesOutside (sight d) H V ch → Agrees n (item_limited l) H V (chosen V ch)
  agrees_chosen V ch g = record {
    recorded = λ i p m e. g.recorded i p m ((item_out l).types i p ∙ e);
    known = λ i p m e. g.known i p m ((item_out l).types i p ∙ e);
    written = λ z m e.
        ap (λ b. if b then elim ((sight d).written z) [ None ↦ ch.written n z | Some m ↦ V m ] else ch.written n z) (eqb_same n)
        ∙ ap (λ (o : Option ℕ). elim o [ None ↦ ch.written n z | Some m ↦ V m ]) ((item_out l).written z ∙ e);
    given = given_written H V ch (chosen V ch).written g.given;
  }

  agrees_start : (V : Types) (ch : Choice) → AgreesOutside (sight d) H V ch → AgreesOutside (sight x) G V ch
  agrees_start V ch g = record {
    recorded = λ i p m e. g.recorded i p m ((item_stays l).recorded i p m e);
    known = λ i p m e. g.known i p m ((item_stays l).recorded i p m e);
    given = (item_stays l).given V ch g.given;
  }

  declared : (K : Types) → IsOwn d.store.nodes K → (e : Declaration) (f : rules.Declaration) → D.declaration x.store.nodes l.at.roots l.at.names e f → D.declaration d.store.nodes l.at.roots l.at.names e f
  declared K own e f h = l.at.steady.declaration (own_start l).1 (item_refines l K own) (λ r i. i) h

  excepted : (K : Types) → IsOwn d.store.nodes K → (c : Constructor) (o : Option Typ) → D.exception x.store.nodes l.at.roots l.at.names c o → D.exception d.store.nodes l.at.roots l.at.names c o
  excepted K own c o h = l.at.steady.exception (own_start l).1 (item_refines l K own) (λ r i. i) h

  inside_start : (k c : ℕ) → slice_get l.at.roots k ≡ Some c → c < length x.store.nodes
  inside_start = (l.at.context (own_start l).0 (own_start l).1).inside

  -- the names of before stand for the same after the item
  old_reads : (K V : Types) (ch : Choice) → IsOwn d.store.nodes K → IsReading d.store.nodes V → AgreesOutside (sight d) H V ch →
      Stands SchemeReads (D.declaration d.store.nodes l.at.roots l.at.names) (D.exception d.store.nodes l.at.roots l.at.names) d.store.nodes K l.at.roots V env (E ch)
  old_reads K V ch own reads g =
      stands_declared (declared K own) (excepted K own) (stands_reads_on (D.declaration x.store.nodes l.at.roots l.at.names) (D.exception x.store.nodes l.at.roots l.at.names) x.store.nodes d.store.nodes (own_start l).0 K l.at.roots (own_start l).1 own (item_refines l K own) inside_start V env (E ch) reads
      (l.at.reads (own_start l).0 V ch (own_start l).1 ((item_stays l).reads V reads) (agrees_start V ch g)))

  old_fits : (K V : Types) (ch : Choice) → IsOwn d.store.nodes K → Loose d.store.nodes V → AgreesOutside (sight d) H V ch →
      Stands SchemeFits (D.declaration d.store.nodes l.at.roots l.at.names) (D.exception d.store.nodes l.at.roots l.at.names) d.store.nodes K l.at.roots V env (E ch)
  old_fits K V ch own loose g =
      stands_declared (declared K own) (excepted K own) (stands_fits_on (D.declaration x.store.nodes l.at.roots l.at.names) (D.exception x.store.nodes l.at.roots l.at.names) x.store.nodes d.store.nodes (own_start l).0 K l.at.roots (own_start l).1 own (item_refines l K own) inside_start V V env (E ch) (λ k lt. refl) loose
      (l.at.fits (own_start l).0 V ch (own_start l).1 ((item_stays l).loose V loose) (agrees_start V ch g)))

  -- the types that are held are those of the nodes that are limited
  held_nodes : (V : Types) (ch : Choice) → Loose d.store.nodes V → AgreesOutside (sight d) H V ch → map V (limited_nodes ys) ≡ held_at ch xs ys
  held_nodes V ch loose g = held_is l V (chosen V ch) loose (agrees_chosen V ch g) ∙ held_written xs ys look ch (chosen V ch).written

  -- the scheme of a type
  abbrev scheme : Choice → Typ → Scheme
  scheme ch = generalised_in (E ch) (held_at ch xs ys)

  -- the names of the item stand for those of the definitions, where the schemes of their nodes do
  names_by : (R : List Node → Types → ℕ → Scheme → Type 0) (K V : Types) (ch : Choice) → ((k r : ℕ) → slice_get (closed_nodes l) k ≡ Some r → IsKnown (V r) → R d.store.nodes V r (scheme ch (V r))) →
      ((r : ℕ) (sc : Scheme) → R d.store.nodes V r sc → FreeAlike d.store.nodes V r sc) → Loose d.store.nodes V → AgreesOutside (sight d) H V ch →
      {bs : List Bound} {ns : List Bind} → AllBound (group_frame l) (item_limited l) H bs ns → NoneWritten bs → ((m : ℕ) → IsIn (bind_nodes ns) m → IsIn (closed_nodes l) m) → NamesStand R d.store.nodes K V (scheme ch) (context_of ch) (bind_entries ns) bs (bind_nodes ns)
  names_by R K V ch each free loose g none_bound none among = no_more
  names_by R K V ch each free loose g (one_bound {x = b} {y = c} h hs) none among =
      let (k, e) = among c.node.0 (zero, refl) in
      let is : b.has_type (context_of ch) ≡ V c.node.0 = sym (none.0 ch (chosen V ch).written) ∙ h.means.is V (chosen V ch) (loose_before_close l V loose) (agrees_chosen V ch g) in
      let known : IsKnown (V c.node.0) = h.known V (chosen V ch) (agrees_chosen V ch g) in
      let r = subst (λ t. R d.store.nodes V c.node.0 (scheme ch t)) (sym is) (each k c.node.0 e known) in
      name_more c.node h.entry.named h.entry.kind h.entry.placed h.entry.is r (free c.node.0 (scheme ch (b.has_type (context_of ch))) r) (names_by R K V ch each free loose g hs none.1 (λ m i. among m (suc i.0, i.1)))

  names_read : (K V : Types) (ch : Choice) → IsOwn d.store.nodes K → IsReading d.store.nodes V → AgreesOutside (sight d) H V ch → NamesStand SchemeReads d.store.nodes K V (scheme ch) (context_of ch) (bind_entries (names_closed ys)) (names_of_group xs) (closed_nodes l)
  names_read K V ch own reads g =
      let loose = fits_loosely d.store.nodes V reads.fits in
      names_by SchemeReads K V ch (λ k r e known. subst (λ us. SchemeReads d.store.nodes V r (generalised_in (E ch) us (V r))) (held_nodes V ch loose g) (item_scheme_reads l K V (E ch) own reads (old_reads K V ch own reads g) k r e known))
      (λ r sc h. h.free) loose g (item_bound l) look (λ m i. i)

  names_fit : (K V : Types) (ch : Choice) → IsOwn d.store.nodes K → Loose d.store.nodes V → AgreesOutside (sight d) H V ch → NamesStand SchemeFits d.store.nodes K V (scheme ch) (context_of ch) (bind_entries (names_closed ys)) (names_of_group xs) (closed_nodes l)
  names_fit K V ch own loose g =
      names_by SchemeFits K V ch (λ k r e known. subst (λ us. SchemeFits d.store.nodes V r (generalised_in (E ch) us (V r))) (held_nodes V ch loose g) (item_scheme_fits l K V (E ch) own loose (old_fits K V ch own loose g) k r e known))
      (λ r sc h. h.free) loose g (item_bound l) look (λ m i. i)

  -- the nodes of names are low after the close: their variables above the lowest level are bound
  names_low : (K : Types) → IsOwn d.store.nodes K → IsContext d.store.nodes K (closed_nodes l) x.level
  names_low K own = record {
    inside = λ k r e. let (M, own_m, closes) = item_closes l in let q = closes.len in let i = ((item_out l).are_open k r e).inside in omega arith;
    low = λ v k o h e free. elim (old_or_new x.level k) [
      | inr le ↦ le
      | inl above ↦
          let closes = (item_out l).closes K (before_close l K own) in
          let was = still_free (item_limited l).nodes d.store.nodes K (closed_nodes l) x.level v k o closes e free in
          absurd (free (same_node d.store.nodes v k o bound_level o e (closes.binds v k o was free above h)))
    ];
  }

  roots_low : (K : Types) → IsOwn d.store.nodes K → IsContext d.store.nodes K l.at.roots x.level
  roots_low K own = context_after x.store.nodes d.store.nodes (own_start l).0 K l.at.roots x.level (own_start l).1 own (item_refines l K own) (l.at.context (own_start l).0 (own_start l).1)

-- two contexts are one context of both lists of roots
joined_low : (nodes : List Node) (K : Types) (level : ℕ) (ns C : List ℕ) → IsContext nodes K ns level → IsContext nodes K C level → IsContext nodes K (joined ns C) level
joined_low nodes K level [] C p q = q
joined_low nodes K level (m ∷ ns) C p q = joined_low nodes K level ns (m ∷ C)
    (record { inside = λ k r e. p.inside (suc k) r e; low = λ v k o h e free. p.low v k o (or_right (occurs v (K m)) _ h) e free })
    (record { inside = first; low = λ v k o h e free. elim (or_cases (occurs v (K m)) _ h) [ inl i ↦ p.low v k o (or_left (occurs v (K m)) _ i) e free | inr i ↦ q.low v k o i e free ] })
  where
    first : (k r : ℕ) → slice_get (m ∷ C) k ≡ Some r → r < length nodes
    first zero r e = p.inside zero r e
    first (suc k) r e = q.inside k r e

-- more roots, with those of names
joined_more : (ns C : List ℕ) (r : ℕ) → IsIn C r → IsIn (joined ns C) r
joined_more [] C r i = i
joined_more (m ∷ ns) C r i = joined_more ns (m ∷ C) r (more_in C m r i)

-- the roots of names are covered
joined_covers : {F : Frame} {a : Sight} {H : Letters} {A : Declaration → rules.Declaration → Type 0} {X : Constructor → Option Typ → Type 0} {bs : List Bound} {ns : List Bind} → AllBound F a H bs ns → (C : List ℕ) (inside : List Entry) → Covers A X C inside → Covers A X (joined (bind_nodes ns) C) (added (bind_entries ns) inside)
joined_covers none_bound C inside covers = covers
joined_covers {A = A} {X = X} (one_bound {x = b} {y = c} h hs) C inside (fs, covers) = joined_covers hs (c.node.0 ∷ C) (c.entry ∷ inside) (
  entry b.name (rules.in_text b.place) (a_value (monomorphic (b.has_type (context_of no_choice)))) ∷ fs,
  newest (entry_as h.entry.named (sym h.entry.kind) h.entry.placed (of_value h.entry.is (zero, refl)))
      (env_map (λ r sc. IsIn C r) (λ r sc. IsIn (c.node.0 ∷ C) r) A A X X (λ r sc k. more_in C c.node.0 r k) (λ x f k. k) (λ x o k. k) covers),
)

-- After an item's `let` its names are in scope, each with its type generalised in the environment before: the next item starts among them.
pub outside_after : {D : Declared} {n : ℕ} {ts : List Tok} {E : Choice → Environment} {asks : Asks} {x : Parts} {y : Sight} {G : Letters} {s d : Parts} {env : List Entry} {xs : List Binding} {ys : List ToClose} {limits : List Limit} (l : ItemGroup D n ts E asks x y G s d env xs ys limits) → NoneWritten (names_of_group xs) →
    Outside D (sight d) (item_letters l) (added (bind_entries (names_closed ys)) env) (env_after E xs ys)
outside_after {D} {E = E} {x = x} {G = G} {d = d} {env = env} {xs = xs} {ys = ys} l look = record {
  sound = l.close.sound;
  level = (after_reached l).level ∙ lowest l;
  roots = joined (closed_nodes l) l.at.roots;
  names = l.at.names;
  older = l.at.older;
  unknown = l.at.unknown;
  apart = l.at.apart;
  steady = l.at.steady;
  context = λ K own. subst (IsContext d.store.nodes K (joined (closed_nodes l) l.at.roots)) (sym (after_reached l).level) (joined_low d.store.nodes K x.level (closed_nodes l) l.at.roots (names_low l look K own) (roots_low l look K own));
  covered = let own = own_of d.store.nodes l.close.sound in
      covers_declared (joined (closed_nodes l) l.at.roots) (more own.0 own.1) (more_exceptions own.0 own.1) (joined_covers (item_bound l) l.at.roots env (covers_declared l.at.roots (declared l look own.0 own.1) (excepted l look own.0 own.1) l.at.covered));
  known = l.at.known;
  knows = λ known.
      let own = own_of d.store.nodes l.close.sound in
      let names = l.at.knows known in
      record {
        plain = names.plain;
        covered = covers_declared (joined (closed_nodes l) l.at.roots) (more_known own.0 own.1) (more_exceptions own.0 own.1)
            (joined_covers (item_bound l) l.at.roots env (covers_declared l.at.roots (declared_known own.0 own.1) (excepted l look own.0 own.1) names.covered));
      };
  reads = λ K V ch own reads g.
      stands_declared (more K own) (more_exceptions K own) (stands_names SchemeReads (D.declaration d.store.nodes l.at.roots l.at.names) (D.exception d.store.nodes l.at.roots l.at.names) d.store.nodes K V (generalised_in (E ch) (held_at ch xs ys)) (context_of ch) own
      (names_read l look K V ch own reads g) l.at.roots env (E ch) (old_reads l look K V ch own reads g));
  fits = λ K V ch own loose g.
      stands_declared (more K own) (more_exceptions K own) (stands_names SchemeFits (D.declaration d.store.nodes l.at.roots l.at.names) (D.exception d.store.nodes l.at.roots l.at.names) d.store.nodes K V (generalised_in (E ch) (held_at ch xs ys)) (context_of ch) own
      (names_fit l look K V ch own loose g) l.at.roots env (E ch) (old_fits l look K V ch own loose g));
}
  where
    more : (K : Types) → IsOwn d.store.nodes K → (e : Declaration) (f : rules.Declaration) → D.declaration d.store.nodes l.at.roots l.at.names e f → D.declaration d.store.nodes (joined (closed_nodes l) l.at.roots) l.at.names e f
    more K own e f h = l.at.steady.declaration own (refines_none d.store.nodes K own) (joined_more (closed_nodes l) l.at.roots) h

    more_known : (K : Types) → IsOwn d.store.nodes K → (e : Declaration) (f : rules.Declaration) → D.declaration d.store.nodes l.at.roots l.at.names e f × HasOwnLabels f → D.declaration d.store.nodes (joined (closed_nodes l) l.at.roots) l.at.names e f × HasOwnLabels f
    more_known K own e f h = (more K own e f h.0, h.1)

    declared_known : (K : Types) → IsOwn d.store.nodes K → (e : Declaration) (f : rules.Declaration) → D.declaration x.store.nodes l.at.roots l.at.names e f × HasOwnLabels f → D.declaration d.store.nodes l.at.roots l.at.names e f × HasOwnLabels f
    declared_known K own e f h = (declared l look K own e f h.0, h.1)

    more_exceptions : (K : Types) → IsOwn d.store.nodes K → (c : Constructor) (o : Option Typ) → D.exception d.store.nodes l.at.roots l.at.names c o → D.exception d.store.nodes (joined (closed_nodes l) l.at.roots) l.at.names c o
    more_exceptions K own c o h = l.at.steady.exception own (refines_none d.store.nodes K own) (joined_more (closed_nodes l) l.at.roots) h

-- and the unknown types among the names are those of before
pub after_older : {D : Declared} {n : ℕ} {ts : List Tok} {E : Choice → Environment} {asks : Asks} {x : Parts} {y : Sight} {G : Letters} {s d : Parts} {env : List Entry} {xs : List Binding} {ys : List ToClose} {limits : List Limit} (l : ItemGroup D n ts E asks x y G s d env xs ys limits) (look : NoneWritten (names_of_group xs)) →
    (outside_after l look).older ≡ l.at.older
unfolding outside_after
after_older l look = refl

-- and as much is known of them
pub after_known : {D : Declared} {n : ℕ} {ts : List Tok} {E : Choice → Environment} {asks : Asks} {x : Parts} {y : Sight} {G : Letters} {s d : Parts} {env : List Entry} {xs : List Binding} {ys : List ToClose} {limits : List Limit} (l : ItemGroup D n ts E asks x y G s d env xs ys limits) (look : NoneWritten (names_of_group xs)) →
    (outside_after l look).known ≡ l.at.known
unfolding outside_after
after_known l look = refl
